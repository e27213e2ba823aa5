-- What each kind of request comes to in its own turn.
use mathlib.Core.List.{IsPrefix}
use Rattle.std.proofs.Common.{◌≡◌, ℕ, ◌-◌, ◌%◌, Bool, true, false, ◌&&◌, List, ◌++◌, Option, Some, None, length, option_map, refl, sym, ap, ◌∙◌, subst, eq-eqb}
use Rattle.std.specs.Prelude.{if◌then◌else◌, nat_lt, slice_get, slice_set, unwrap_or}
use Rattle.qz_catalog.proofs.Bounds.{legal-before}
use Rattle.qz_catalog.proofs.Marks.{questions-whole}
use Rattle.qz_grading.specs.declared.refusal.AttemptId.{AttemptId}
use Rattle.qz_grading.specs.declared.refusal.Refusal.TheVariants as refusal
use Rattle.qz_grading.specs.declared.refusal.Thing.TheVariants as thing
use Rattle.qz_keeper.specs.Lists.{EachMayStand}
use Rattle.qz_lives.proofs.Keeping.{and-left}
use Rattle.qz_school.specs.Agreement.{is_start}
use Rattle.qz_school.proofs.Putting.{older_law}
use Rattle.qz_school.proofs.Working.{working_law}
use Rattle.qz_serial.proofs.Answering.{plan_meant}
use Rattle.qz_serial.proofs.Longer.{staying_law}
use Rattle.qz_serial.proofs.Plans.{planned-so}
use Rattle.qz_shard.specs.Holdings.{StartsHere, older}
use Rattle.qz_terms.specs.declared.ask.Ask.{Ask}
use Rattle.qz_terms.specs.declared.people.User.{User}
use Rattle.qz_terms.specs.declared.plan.Job.{Job}
use Rattle.qz_terms.specs.declared.plan.Plan.{Plan}
use Rattle.qz_terms.specs.declared.record.Record.{Record}
use Rattle.qz_terms.specs.declared.reply.Reply.{Reply}
use Rattle.qz_terms.specs.declared.reply.Reply.TheVariants as reply
use Rattle.qz_terms.specs.declared.request.Request.{Request}
use Rattle.qz_terms.specs.declared.request.Request.TheVariants as request
use Rattle.qz_terms.specs.Answer.{answer_here, attempt_named, list_after, live_answer, work_answer}
use Rattle.qz_terms.specs.CatalogAnswer.{asks_catalog, catalog_after, catalog_answer}
use Rattle.qz_terms.specs.Catalog as catalog
use Rattle.qz_terms.specs.Cause.{is_keyed, missing_in, missing_shard}
use Rattle.qz_terms.specs.History as history
use Rattle.qz_terms.specs.Legal.{AllAgree, IsLegal, IsLegalCatalog}
use Rattle.qz_terms.specs.SchoolAnswer.{answer_by, part_at, part_of, plan_for, school_answer, shard_answer}
use Rattle.qz_schedule.specs.Worlds.{Choice, ForRequest, Visit, World, answered_by_job, answered_by_plan, goes_back, is_formed, is_older, request_turn, seeing, stages, visitor}
use Rattle.qz_schedule.proofs.Answering.{IsLeftAt, catalog-request, part-request}
use Rattle.qz_schedule.proofs.Following.{back}
use Rattle.qz_schedule.proofs.Keeping.{Good, good-visit}
use Rattle.qz_schedule.proofs.Knowing.{MayAnswer, ReadsJob, Ready, is_planned}
use Rattle.qz_schedule.proofs.Mending.{AtCatalog, AtPart}
use Rattle.qz_schedule.proofs.Putting.{planned-adds, planned-legal}
use Rattle.qz_schedule.proofs.Reading.{knows-on}
use Rattle.qz_schedule.proofs.Recording.{adds-none, catalog-adds, catalog-legal}
use Rattle.qz_schedule.proofs.Saying.{catalog-said, inside-live, none-among, shard-said}
use Rattle.qz_schedule.proofs.Working.{work-adds, work-legal}

pub formed-keyed : (ask : Ask) → is_formed ask ≡ true → is_keyed ask ≡ true
formed-keyed ask formed = and-left (is_keyed ask) _ formed

-- ---- what is left of a shard's list where nothing is put

list-legal : (n : ℕ) (w : World) (v : Visit) (j : ℕ) (l : List Record) → AtPart n w v j l → IsLegal j n l
list-legal n w v j l p = (subst (EachMayStand (IsLegal j n)) p.held (p.good.lists.legal j)).without

list-agrees : (n : ℕ) (w : World) (v : Visit) (j : ℕ) (l : List Record) → AtPart n w v j l → AllAgree w.records.list l
list-agrees n w v j l p = (subst (EachMayStand (AllAgree w.records.list)) p.held (p.good.lists.agree j)).without

left-alone : (n : ℕ) (w : World) (v : Visit) (j : ℕ) (l : List Record) (told : Reply) → AtPart n w v j l → IsLeftAt n w j l (record { reply = told; list = l })
left-alone n w v j l told p = record { adds = adds-none l; legal = list-legal n w v j l p; agree = list-agrees n w v j l p }

-- ---- under a plan

planned-answer : (c h : List Record) (now : ℕ) (user : User) (ask : Ask) (x : Request) → is_planned x ≡ true → answer_by c h now user ask x ≡ shard_answer c h now user ask
planned-answer c h now user ask (request.Start q) planned = refl
planned-answer c h now user ask (request.Grade q u) planned = refl
planned-answer c h now user ask (request.Save a k s r) planned = refl
planned-answer c h now user ask (request.Submit a k s r) planned = refl
planned-answer c h now user ask (request.Again a k) planned = refl
planned-answer c h now user ask (request.Finish a) planned = refl
planned-answer c h now user ask (request.Mark a k m) planned = refl
planned-answer c h now user ask (request.Settle a) planned = refl
planned-answer c h now user ask (request.View a k) planned = refl
planned-answer c h now user ask (request.Total a) planned = refl
planned-answer c h now user ask (request.Page a) planned = refl
planned-answer c h now user ask x planned = absurd cc

planned-inside : (n : ℕ) (x : Request) → is_planned x ≡ true → missing_shard n x ≡ None
planned-inside n (request.Work job shard) planned = absurd cc
planned-inside n (request.Live shard a) planned = absurd cc
planned-inside n x planned = refl

plan-reply : (h : List Record) (now : ℕ) (user : User) (ask : Ask) (o : Option Plan) → (answered_by_plan h now user ask o).reply ≡ unwrap_or (option_map (λ plan. answer_here h now user plan ask) o) (reply.Refused (refusal.Unknown thing.Attempt))
plan-reply h now user ask None = refl
plan-reply h now user ask (Some plan) = refl

-- what was seen of the catalogue is legal
catalog-before : (c d : List Record) → IsPrefix c d → IsLegalCatalog d → IsLegalCatalog c
catalog-before c d p legal = legal-before c p.0 (subst IsLegalCatalog (sym p.1) legal)

starts-here : (index n : ℕ) (c l : List Record) (user : User) (plan : Plan) (x : Request) → IsLegalCatalog c → part_of n user x ≡ index → plan_for c l user x ≡ Some plan → StartsHere (record { index = index; count = n; records = l }) user plan x
starts-here index n c l user plan (request.Start q) legal part told =
    let p = planned-so c q user.number plan told in
    (eq-eqb (user.number % n) index part, ap length p.questions ∙ (questions-whole c q legal ∙ sym (ap length p.slots)))
starts-here index n c l user plan x legal part told = tt

older-by : (l : List Record) (plan : Plan) (x : Request) → is_start x && nat_lt plan.at (history.floor l plan.quiz) ≡ false → older l plan x ≡ None
older-by l plan (request.Start q) is = rw is refl
older-by l plan x is = refl

older-none : (l : List Record) (o : Option Plan) (x : Request) (plan : Plan) → is_start x && unwrap_or (option_map (λ (p : Plan). nat_lt p.at (history.floor l p.quiz)) o) false ≡ false → o ≡ Some plan → older l plan x ≡ None
older-none l o x plan is told = older-by l plan x (subst (λ (p : Option Plan). is_start x && unwrap_or (option_map (λ (p : Plan). nat_lt p.at (history.floor l p.quiz)) p) false ≡ false) told is)

module _ (n : ℕ) (w : World) (k moment : ℕ) (ask : Ask) (v : Visit) (j : ℕ) (l : List Record) (p : AtPart n w v j l) (formed : is_formed ask ≡ true) (may : MayAnswer n v.records v.parts (visitor v ask) v.plan v.job ask) where
  -- the catalogue goes on from what was seen of it
  seen : IsPrefix v.records w.records.list
  seen = p.sees.begins.records

  whole_legal : IsLegalCatalog w.records.list
  whole_legal = p.good.lists.records.without

  module _ (planned : is_planned ask.request ≡ true) (part : part_of n (visitor v ask) ask.request ≡ j) where
    begins : IsPrefix (part_at v.parts (part_of n (visitor v ask) ask.request)) l
    begins = subst (λ (i : ℕ). IsPrefix (part_at v.parts i) l) (sym part) p.saw

    plan_told : plan_for v.records l (visitor v ask) ask.request ≡ v.plan
    plan_told = (may.plans planned).plan_is l begins

    left-by : (o : Option Plan) → v.plan ≡ o → is_older l v ask.request ≡ false → IsLeftAt n w j l (answered_by_plan l moment (visitor v ask) ask o)
    left-by None is newer = left-alone n w v j l (reply.Refused (refusal.Unknown thing.Attempt)) p
    left-by (Some plan) is newer =
        let user : User = visitor v ask in
        let c = v.records in
        let told : plan_for c l user ask.request ≡ Some plan = plan_told ∙ is in
        let legal = catalog-before c w.records.list seen whole_legal in
        let before : AllAgree (c ++ seen.0) l = subst (λ (d : List Record). AllAgree d l) (sym seen.1) (list-agrees n w v j l p) in
        record {
          adds = planned-adds l moment user plan ask;
          legal = planned-legal j n l moment user plan ask (list-legal n w v j l p) (record {
            keyed = formed-keyed ask formed;
            of_quiz = plan_meant c l user ask.request plan told;
            here = starts-here j n c l user plan ask.request legal part told;
            newer = older-none l v.plan ask.request plan newer is;
          });
          agree = subst (λ (d : List Record). AllAgree d (list_after l moment user plan ask)) seen.1 (older_law.answered c seen.0 l moment user plan ask legal before ((may.plans planned).ready l begins) may.knows.found told);
        }

    plan-right : (answered_by_plan l moment (visitor v ask) ask v.plan).reply ≡ school_answer v.records (slice_set v.parts j l) moment ask
    plan-right =
        let user : User = visitor v ask in
        let c = v.records in
        plan-reply l moment user ask v.plan
        ∙ ap (λ (o : Option Plan). unwrap_or (option_map (λ plan. answer_here l moment user plan ask) o) (reply.Refused (refusal.Unknown thing.Attempt))) (sym plan_told)
        ∙ sym (shard-said n c (slice_set v.parts j l) moment ask user l p.sees.counts may.knows.found
        (none-among n c user ask.request may.knows.may (may.plans planned).there (planned-inside n ask.request planned)) may.other
        (ap (part_at (slice_set v.parts j l)) part ∙ p.own)
        ∙ planned-answer c l moment user ask ask.request planned)

    -- a start whose plan has become too old goes back to the turn for its plan
    start-other : (x : Request) (a : AttemptId) → is_start x ≡ true → attempt_named x ≡ Some a → ⊥
    start-other (request.Start q) a start named = absurd cc
    start-other x a start named = absurd cc

    good-back : slice_get (stages n ask) v.made ≡ Some ForRequest → is_older l v ask.request ≡ true → Good n (goes_back w k ask (seeing v (Some j) l))
    good-back at is =
        let start : is_start ask.request ≡ true = and-left (is_start ask.request) _ is in
        let u : Visit = record (seeing v (Some j) l) { ask = Some ask; made = v.made - 1; plan = None } in
        good-visit n w k u p.good (record {
          sees = record { begins = record { records = p.sees.begins.records; each = p.sees.begins.each }; counts = p.sees.counts };
          stands = record {
            formed = formed;
            next = λ s next. subst (Ready n u ask) (back n ask v.made s start at next) (record { knows = may.knows; planned = planned; quiz = λ a named. absurd (start-other ask.request a start named) });
          };
        })

    plan-by : (choice : Choice) (b : Bool) → is_older l v ask.request ≡ b → slice_get (stages n ask) v.made ≡ Some ForRequest
        → Good n (if◌then◌else◌ b (goes_back w k ask (seeing v (Some j) l)) (request_turn w k moment ask (seeing v (Some j) l) (Some j) l choice (answered_by_plan l moment (visitor v ask) ask v.plan)))
    plan-by choice true is at = good-back at is
    plan-by choice false is at = part-request n w k moment ask v j l (answered_by_plan l moment (visitor v ask) ask v.plan) p (left-by v.plan refl is) choice plan-right

    pub plan-request : (choice : Choice) → slice_get (stages n ask) v.made ≡ Some ForRequest
        → Good n (if◌then◌else◌ (is_older l v ask.request) (goes_back w k ask (seeing v (Some j) l)) (request_turn w k moment ask (seeing v (Some j) l) (Some j) l choice (answered_by_plan l moment (visitor v ask) ask v.plan)))
    plan-request choice at = plan-by choice (is_older l v ask.request) refl at

  -- ---- a step of a job

  module _ (number : ℕ) (request_is : ask.request ≡ request.Work number j) where
    job_read : ReadsJob n v.records v.job ask.request number
    job_read = may.jobs number j request_is

    job-whole : (job : Job) → v.job ≡ Some job → catalog.job w.records.list number ≡ Some job
    job-whole job is = subst (λ (d : List Record). catalog.job d number ≡ Some job) seen.1 (staying_law.job v.records seen.0 number job (sym job_read.job_is ∙ is))

    work-left : (o : Option Job) → v.job ≡ o → IsLeftAt n w j l (answered_by_job l moment (visitor v ask) o)
    work-left None is = left-alone n w v j l (reply.Refused (refusal.Unknown thing.Job)) p
    work-left (Some job) is =
        let user : User = visitor v ask in
        let d = w.records.list in
        let legal = list-legal n w v j l p in
        let all = list-agrees n w v j l p in
        let there = job-whole job is in
        record {
          adds = work-adds l moment user.number job;
          legal = work-legal j n l moment user.number job legal (record { known = λ i s q x slot question learned. working_law.known d l number i job s q x whole_legal all there slot question learned; slot = working_law.slots d l j n number job whole_legal legal all there });
          agree = working_law.worked d l j n moment ask.caller user number job whole_legal legal all (knows-on v.records d user ask seen may.knows).found there;
        }

    job-reply : (user : User) (o : Option Job) → (answered_by_job l moment user o).reply ≡ unwrap_or (option_map (work_answer l moment user.number) o) (reply.Refused (refusal.Unknown thing.Job))
    job-reply user None = refl
    job-reply user (Some job) = refl

    work-answer : (c : List Record) (user : User) (x : Request) → x ≡ request.Work number j → answer_by c l moment user ask x ≡ unwrap_or (option_map (work_answer l moment user.number) (catalog.job c number)) (reply.Refused (refusal.Unknown thing.Job))
    work-answer c user x is = rw is refl

    work-part : (user : User) (x : Request) → x ≡ request.Work number j → part_of n user x ≡ j
    work-part user x is = rw is refl

    work-right : (answered_by_job l moment (visitor v ask) v.job).reply ≡ school_answer v.records (slice_set v.parts j l) moment ask
    work-right =
        let user : User = visitor v ask in
        let c = v.records in
        job-reply user v.job
        ∙ ap (λ (o : Option Job). unwrap_or (option_map (work_answer l moment user.number) o) (reply.Refused (refusal.Unknown thing.Job))) job_read.job_is
        ∙ sym (shard-said n c (slice_set v.parts j l) moment ask user l p.sees.counts may.knows.found (none-among n c user ask.request may.knows.may job_read.there job_read.inside) may.other
        (ap (part_at (slice_set v.parts j l)) (work-part user ask.request request_is) ∙ p.own)
        ∙ work-answer c user ask.request request_is)

    pub work-request : (choice : Choice) → Good n (request_turn w k moment ask (seeing v (Some j) l) (Some j) l choice (answered_by_job l moment (visitor v ask) v.job))
    work-request choice = part-request n w k moment ask v j l (answered_by_job l moment (visitor v ask) v.job) p (work-left v.job refl) choice work-right

  -- ---- where attempts go on

  module _ (a : AttemptId) (request_is : ask.request ≡ request.Live j a) where
    live-answer : (c : List Record) (user : User) (x : Request) → x ≡ request.Live j a → answer_by c l moment user ask x ≡ live_answer l a
    live-answer c user x is = rw is refl

    live-part : (user : User) (x : Request) → x ≡ request.Live j a → part_of n user x ≡ j
    live-part user x is = rw is refl

    live-there : (c : List Record) (x : Request) → x ≡ request.Live j a → missing_in c x ≡ None
    live-there c x is = rw is refl

    live-inside : (x : Request) → x ≡ request.Live j a → missing_shard n x ≡ None
    live-inside x is = rw is (inside-live n j a p.inside)

    live-right : live_answer l a ≡ school_answer v.records (slice_set v.parts j l) moment ask
    live-right =
        let user : User = visitor v ask in
        let c = v.records in
        sym (shard-said n c (slice_set v.parts j l) moment ask user l p.sees.counts may.knows.found (none-among n c user ask.request may.knows.may (live-there c ask.request request_is) (live-inside ask.request request_is)) may.other
        (ap (part_at (slice_set v.parts j l)) (live-part user ask.request request_is) ∙ p.own)
        ∙ live-answer c user ask.request request_is)

    pub live-request : (choice : Choice) → Good n (request_turn w k moment ask (seeing v (Some j) l) (Some j) l choice (record { reply = live_answer l a; list = l }))
    live-request choice = part-request n w k moment ask v j l (record { reply = live_answer l a; list = l }) p (left-alone n w v j l (live_answer l a) p) choice live-right

-- ---- a request to the catalogue

pub recorded-request : (n : ℕ) (w : World) (k moment : ℕ) (ask : Ask) (v : Visit) (l : List Record) → AtCatalog n w v l → is_formed ask ≡ true → MayAnswer n v.records v.parts (visitor v ask) v.plan v.job ask → asks_catalog ask.request ≡ true → (choice : Choice)
    → Good n (request_turn w k moment ask (seeing v None l) None l choice (record { reply = catalog_answer l moment (visitor v ask) ask; list = catalog_after l moment (visitor v ask) ask }))
recorded-request n w k moment ask v l c formed may of_catalog choice =
    let user : User = visitor v ask in
    let knows = knows-on v.records l user ask c.saw may.knows in
    let legal : IsLegalCatalog l = (subst (EachMayStand IsLegalCatalog) c.held c.good.lists.records).without in
    catalog-request n w k moment ask v l (record { reply = catalog_answer l moment user ask; list = catalog_after l moment user ask }) c (catalog-adds l moment user ask)
    (catalog-legal l moment user ask legal knows.found of_catalog (formed-keyed ask formed)) choice
    (sym (catalog-said l v.parts moment ask user knows.found of_catalog))
