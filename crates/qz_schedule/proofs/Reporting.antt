-- A report's turn in a shard.
use Rattle.std.proofs.Common.{◌≡◌, ℕ, suc, ◌+◌, ◌<◌, Bool, true, false, List, ◌++◌, Option, Some, None, length, take, refl, sym, ap, ◌∙◌, subst, arith}
use Rattle.std.specs.Prelude.{◌==◌, flat_map, is_some, map, option_map, slice_get, slice_set, unwrap_or}
use Rattle.std.proofs.lemmas.Bool.{eqb-true}
use Rattle.std.proofs.lemmas.List.{length-set, take_all}
use Rattle.qz_grading.specs.declared.outcome.Behaviour.{Behaviour}
use Rattle.qz_grading.specs.Grading.{at_place}
use Rattle.qz_isolation.proofs.Alike.{legal-front}
use Rattle.qz_serial.proofs.Longer.{plan-there}
use Rattle.qz_serial.proofs.Places.{kept-there, some-there}
use Rattle.qz_serial.proofs.Plans.{planned-at}
use Rattle.qz_terms.specs.declared.ask.Ask.{Ask}
use Rattle.qz_terms.specs.declared.people.User.{User}
use Rattle.qz_terms.specs.declared.plan.Plan.{Plan}
use Rattle.qz_terms.specs.declared.record.Record.{Record}
use Rattle.qz_terms.specs.declared.reply.Done.TheVariants as done
use Rattle.qz_terms.specs.declared.reply.Reply.TheVariants as reply
use Rattle.qz_terms.specs.declared.reply.Row.{Row}
use Rattle.qz_terms.specs.declared.request.Request.{Request}
use Rattle.qz_terms.specs.declared.request.Request.TheVariants as request
use Rattle.qz_terms.specs.Catalog as catalog
use Rattle.qz_terms.specs.Cause.{missing_in, missing_quiz, missing_shard}
use Rattle.qz_terms.specs.Legal.{IsLegal}
use Rattle.qz_terms.specs.Lists.{in_order}
use Rattle.qz_terms.specs.SchoolAnswer.{answer_among, part_at, report_answer, school_answer}
use Rattle.qz_schedule.specs.Worlds.{ForRows, Visit, World, held_at, is_formed, lists_in, reading_turn, row_before, rows_read, seeing, stages, visitor}
use Rattle.qz_schedule.proofs.Following.{follows}
use Rattle.qz_schedule.proofs.Keeping.{Good, Sees, good-goes-on, good-replied}
use Rattle.qz_schedule.proofs.Knowing.{HasRead, KnowsUser, Ready, rows_of}
use Rattle.qz_schedule.proofs.Mending.{AtPart}
use Rattle.qz_schedule.proofs.Rows.{flat-push, report-is, take-set}
use Rattle.qz_schedule.proofs.Saying.{among-said, none-among}

-- ---- a plan that is there

policy-by : (c : List Record) (q u : ℕ) (plan : Plan) (o : Option (List ℕ × Behaviour)) → at_place (catalog.quizzes c) q ≡ o → catalog.plan c q u ≡ Some plan → plan.policy ≡ catalog.policy c q
policy-by c q u plan None is told = let none : None ≡ Some plan = rw is at told in absurd cc
policy-by c q u plan (Some named) is told =
    let some : Some _ ≡ Some plan = rw is at told in
    cc

there-by : (c : List Record) (q : ℕ) → missing_quiz c q ≡ None → (plan : Plan) × (catalog.plan c q 0 ≡ Some plan)
there-by c q there =
    let found = kept-there (at_place (catalog.quizzes c) q) _ there in
    some-there (catalog.plan c q 0) (plan-there c q 0 ∙ ap is_some found.1)

report-there : (c : List Record) (q : ℕ) (x : Request) → x ≡ request.Report q → missing_in c x ≡ None → missing_quiz c q ≡ None
report-there c q x is there = rw is at there

report-inside : (n q : ℕ) (x : Request) → x ≡ request.Report q → missing_shard n x ≡ None
report-inside n q x is = rw is refl

-- ---- what was seen of each shard is legal

got : (ps : List (List Record)) (k : ℕ) (h : List Record) → slice_get ps k ≡ Some h → part_at ps k ≡ h
got ps k h is = rw is refl

seen-legal : (n : ℕ) (w : World) (v : Visit) → Good n w → Sees n (lists_in w) v → (k : ℕ) (h : List Record) → slice_get v.parts k ≡ Some h → IsLegal k (length v.parts) h
seen-legal n w v g s k h is =
    let begins = s.begins.each k in
    let front : IsLegal k n (part_at v.parts k) = legal-front k n (part_at v.parts k) begins.0 (held_at w (Some k)).list (sym begins.1) (g.lists.legal k).without in
    subst (λ (m : ℕ). IsLegal k m h) (sym s.counts) (subst (IsLegal k n) (got v.parts k h is) front)

-- ---- the reply

told-report : (n : ℕ) (c : List Record) (ps : List (List Record)) (moment : ℕ) (ask : Ask) (user : User) (q : ℕ) (o : Option Plan) (rows : List Row) → length ps ≡ n → KnowsUser c user ask → ask.request ≡ request.Report q → missing_in c ask.request ≡ None
    → ((k : ℕ) (h : List Record) → slice_get ps k ≡ Some h → IsLegal k (length ps) h) → o ≡ catalog.plan c q 0 → rows ≡ flat_map (rows_of (map (λ (u : User). u.name) (catalog.users c)) o q) ps
    → reply.Ok (unwrap_or (option_map (λ (p : Plan). p.at) o) 0) (done.Report (in_order row_before rows)) ≡ school_answer c ps moment ask
told-report n c ps moment ask user q o rows counts knows is there legal plan rows_are =
    let found = there-by c q (report-there c q ask.request is there) in
    let some : o ≡ Some found.0 = plan ∙ found.1 in
    let names = map (λ (u : User). u.name) (catalog.users c) in
    let said : reply.Ok found.0.at (done.Report (in_order row_before (flat_map (rows_of names (Some found.0) q) ps))) ≡ report_answer c ps q =
    report-is c ps q found.0 legal (policy-by c q 0 found.0 (at_place (catalog.quizzes c) q) refl found.1) (planned-at c q 0 found.0 found.1) in
    ap (λ (r : List Row). reply.Ok (unwrap_or (option_map (λ (p : Plan). p.at) o) 0) (done.Report (in_order row_before r))) rows_are
    ∙ ap (λ (x : Option Plan). reply.Ok (unwrap_or (option_map (λ (p : Plan). p.at) x) 0) (done.Report (in_order row_before (flat_map (rows_of names x q) ps)))) some
    ∙ (said ∙ (sym (ap (answer_among c ps moment user ask) is) ∙ sym (among-said n c ps moment ask user counts knows.found (none-among n c user ask.request knows.may there (report-inside n q ask.request is)))))

-- ---- the turn

-- with the rows of this shard
reads-more : (v : Visit) (l : List Record) (q part : ℕ) → part < length v.parts → v.rows ≡ flat_map (rows_of v.names v.plan q) (take part v.parts)
    → v.rows ++ rows_of v.names v.plan q l ≡ flat_map (rows_of v.names v.plan q) (take (suc part) (slice_set v.parts part l))
reads-more v l q part inside rows =
    let f = rows_of v.names v.plan q in
    ap (λ (r : List Row). r ++ f l) rows ∙ (sym (flat-push f (take part v.parts) l) ∙ ap (flat_map f) (sym (take-set v.parts part l inside)))

turn-by : (n : ℕ) (w : World) (k moment : ℕ) (ask : Ask) (v : Visit) (q part : ℕ) (l : List Record) (last : Bool) → AtPart n w v part l → is_formed ask ≡ true → slice_get (stages n ask) v.made ≡ Some (ForRows q part)
    → HasRead v.records v.parts (visitor v ask) v.plan v.names v.rows ask q part → (part + 1 == n) ≡ last
    → Good n (rows_read w k moment ask (record (seeing v (Some part) l) { rows = v.rows ++ rows_of v.names v.plan q l }) last)
turn-by n w k moment ask v q part l false p formed at has is =
    let u : Visit = record (seeing v (Some part) l) { rows = v.rows ++ rows_of v.names v.plan q l } in
    let inside = p.inside in
    let seen = p.sees.counts in
    let same_count = length-set v.parts part l in
    let rows = reads-more v l q part (omega arith) has.rows_are in
    let more : suc part ≡ part + 1 = omega arith in
    good-goes-on n w k ask u p.good (record { begins = record { records = p.sees.begins.records; each = p.sees.begins.each }; counts = p.sees.counts })
    (record {
      formed = formed;
      next = λ s next. subst (Ready n (record u { ask = Some ask; made = v.made + 1 }) ask) (sym (follows n ask v.made (ForRows q part) s at next)) (record {
        knows = has.knows;
        request_is = has.request_is;
        there = has.there;
        plan_is = has.plan_is;
        names_are = has.names_are;
        rows_are = subst (λ (m : ℕ). v.rows ++ rows_of v.names v.plan q l ≡ flat_map (rows_of v.names v.plan q) (take m (slice_set v.parts part l))) more rows;
      });
    })
turn-by n w k moment ask v q part l true p formed at has is =
    let u : Visit = record (seeing v (Some part) l) { rows = v.rows ++ rows_of v.names v.plan q l } in
    let sees : Sees n (lists_in w) u = record { begins = record { records = p.sees.begins.records; each = p.sees.begins.each }; counts = p.sees.counts } in
    let inside = p.inside in
    let seen = p.sees.counts in
    let same_count = length-set v.parts part l in
    let last : part + 1 ≡ n = eqb-true (part + 1) n is in
    let rows = reads-more v l q part (omega arith) has.rows_are in
    let whole : take (suc part) (slice_set v.parts part l) ≡ slice_set v.parts part l = take_all (suc part) (slice_set v.parts part l) (omega arith) in
    let all : v.rows ++ rows_of v.names v.plan q l ≡ flat_map (rows_of (map (λ (x : User). x.name) (catalog.users v.records)) v.plan q) (slice_set v.parts part l) =
    rows ∙ (ap (flat_map (rows_of v.names v.plan q)) whole ∙ ap (λ (ns : List (List ℕ)). flat_map (rows_of ns v.plan q) (slice_set v.parts part l)) has.names_are) in
    good-replied n w k moment ask u u _ p.good sees (record {
      seen = record { records = sees.begins.records; each = sees.begins.each };
      answer = λ own. told-report n v.records (slice_set v.parts part l) moment ask (visitor v ask) q v.plan (v.rows ++ rows_of v.names v.plan q l) p.sees.counts has.knows has.request_is has.there (seen-legal n w u p.good sees) has.plan_is all;
    })

pub rows-turn : (n : ℕ) (w : World) (k moment : ℕ) (ask : Ask) (v : Visit) (q part : ℕ) (l : List Record) → AtPart n w v part l → is_formed ask ≡ true → slice_get (stages n ask) v.made ≡ Some (ForRows q part)
    → HasRead v.records v.parts (visitor v ask) v.plan v.names v.rows ask q part → Good n (reading_turn w k moment ask (seeing v (Some part) l) l n (ForRows q part))
rows-turn n w k moment ask v q part l p formed at has = turn-by n w k moment ask v q part l (part + 1 == n) p formed at has refl
