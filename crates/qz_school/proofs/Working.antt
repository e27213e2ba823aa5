-- A step of a job puts what agrees with the catalogue.
use Rattle.std.proofs.Common.{◌≡◌, ℕ, zero, suc, ◌+◌, ◌-◌, ◌≤◌, max, Bool, true, false, List, [], ◌∷◌, ◌++◌, Option, Some, None, length, take, option_map, refl, sym, ap, subst, ◌∙◌, arith, append_assoc, append-nil}
use Rattle.std.specs.List.{enumerate_from, list_all}
use Rattle.std.specs.Prelude.{◌==◌, ◌||◌, filter_map, fold, if◌then◌else◌, is_none, is_some, option_and_then, option_to_list, slice_get, unwrap_or}
use Rattle.std.proofs.Math.Nat.{max-le}
use Rattle.std.proofs.Math.Seq.{take-append-add}
use Rattle.qz_grading.specs.declared.question.Question.{Question}
use Rattle.qz_grading.specs.declared.refusal.AttemptId.{AttemptId}
use Rattle.qz_grading.specs.declared.refusal.Refusal.{Refusal}
use Rattle.qz_grading.specs.Behaviours.{when}
use Rattle.qz_grading.specs.Grading.{at_place, shape}
use Rattle.qz_grading.specs.Shapes.{same_shape}
use Rattle.qz_terms.specs.declared.people.Caller.{Caller}
use Rattle.qz_terms.specs.declared.people.User.{User}
use Rattle.qz_terms.specs.declared.plan.Job.{Job}
use Rattle.qz_terms.specs.declared.plan.Plan.{Plan}
use Rattle.qz_terms.specs.declared.plan.Planned.{Planned}
use Rattle.qz_terms.specs.declared.record.Event.{Event}
use Rattle.qz_terms.specs.declared.record.Event.TheVariants as event
use Rattle.qz_terms.specs.declared.record.Record.{Record}
use Rattle.qz_terms.specs.declared.request.Request.{Request}
use Rattle.qz_terms.specs.declared.request.Request.TheVariants as request
use Rattle.qz_terms.specs.Answer.{bind, first_target, learned_as, new_versions, put_target, rebound_or_skipped, record_of_job, target_event, work_after}
use Rattle.qz_terms.specs.Catalog.{asked, job, job_with, jobs, own_settings, plan_under, questions, quizzes, regrade_by, slots, user_of, users, version}
use Rattle.qz_terms.specs.Cause.{missing_in}
use Rattle.qz_terms.specs.History as history
use Rattle.qz_terms.specs.Legal.{Agrees, AllAgree, EventAgrees, IsLegal, IsLegalCatalog, JobAgrees, LearnsFrom}
use Rattle.qz_catalog.proofs.Accepted.{accepted}
use Rattle.qz_catalog.proofs.Staying.{front-legal}
use Rattle.qz_book.proofs.TargetLemmas.{left}
use Rattle.qz_job_slots.proofs.Steps.{steps_law}
use Rattle.qz_shard.specs.Holdings.{HasSlot}
use Rattle.qz_school.specs.Working.{GoesOnWorking}
use Rattle.qz_school.proofs.Agreeing.{all-push, job-within}
use Rattle.qz_school.proofs.AlikeInSchool.{front-stays, version-agrees}
use Rattle.qz_school.proofs.Callers.{caller-placed}
use Rattle.qz_serial.proofs.Longer.{quiz-stays}
use Rattle.qz_serial.proofs.Places.{some-there}
use Rattle.qz_school.proofs.Slotting.{both-true, has_version, learns-new, slots-have-versions}

-- ---- the record that makes a job

-- it stands at the job's position, counted from n
record IsMade (c : List Record) (n : ℕ) (j : ℕ × ℕ) : Type 0 where
  front : List Record
  own : Record
  rest : List Record
  stands : c ≡ front ++ own ∷ rest
  place : j.0 ≡ n + length front
  asks : asked own ≡ Some (request.Regrade j.1)

abbrev job_at : ℕ × Record → Option (ℕ × ℕ)
job_at r = regrade_by r.0 (asked r.1)

made-by : (n : ℕ) (o : Option Request) (j : ℕ × ℕ) → regrade_by n o ≡ Some j → (o ≡ Some (request.Regrade j.1)) × (j.0 ≡ n)
made-by n (Some (request.Regrade quiz)) j is = let same : (n, quiz) ≡ j = cc in (ap (λ (x : ℕ × ℕ). Some (request.Regrade x.1)) same, ap (λ (x : ℕ × ℕ). x.0) (sym same))
made-by n o j is = absurd cc

made-behind : (n : ℕ) (r : Record) (c : List Record) (j : ℕ × ℕ) → IsMade c (n + 1) j → IsMade (r ∷ c) n j
made-behind n r c j m = record { front = r ∷ m.front; own = m.own; rest = m.rest; stands = ap (λ (l : List Record). r ∷ l) m.stands; place = let at = m.place in omega arith; asks = m.asks }

made-step : (n : ℕ) (r : Record) (c : List Record) (i : ℕ) (j : ℕ × ℕ) (o : Option (ℕ × ℕ)) → regrade_by n (asked r) ≡ o → slice_get (filter_map job_at (enumerate_from n (r ∷ c))) i ≡ Some j
    → ((k : ℕ) → slice_get (filter_map job_at (enumerate_from (n + 1) c)) k ≡ Some j → IsMade c (n + 1) j) → IsMade (r ∷ c) n j
made-step n r c i j None is found later = made-behind n r c j (later i (rw is at found))
made-step n r c zero j (Some x) is found later =
    let first : Some x ≡ Some j = rw is at found in
    let told = made-by n (asked r) j (is ∙ first) in
    record { front = []; own = r; rest = c; stands = refl; place = let at = told.1 in omega arith; asks = told.0 }
made-step n r c (suc i) j (Some x) is found later = made-behind n r c j (later i (rw is at found))

made-from : (n : ℕ) (c : List Record) (i : ℕ) (j : ℕ × ℕ) → slice_get (filter_map job_at (enumerate_from n c)) i ≡ Some j → IsMade c n j
made-from n [] i j found = absurd cc
made-from n (r ∷ c) i j found = made-step n r c i j (regrade_by n (asked r)) refl found (λ k e. made-from (n + 1) c k j e)

made-at : (c : List Record) (n : ℕ) (j : ℕ × ℕ) (b : Bool) → (n == 0) ≡ b → at_place (jobs c) n ≡ Some j → IsMade c 1 j
made-at c n j true is found = let none : None ≡ Some j = rw is at found in absurd cc
made-at c n j false is found = made-from 1 c (n - 1) j (rw is at found)

up-to : (l : List Record) (r : Record) (rest : List Record) (n : ℕ) → n ≡ 1 + length l → take n (l ++ r ∷ rest) ≡ l ++ r ∷ []
up-to l r rest n is = let long : n ≡ length l + 1 = omega arith in rw long (take-append-add l (r ∷ rest) 1)

-- ---- a job that isn't missing is there

present : {A : Type 0} (o : Option A) (r : Refusal) → when (is_none o) r ≡ None → is_some o ≡ true
present None r none = absurd cc
present (Some x) r none = refl

quiz-there : (c l : List Record) (r : Record) (rest : List Record) (quiz : ℕ) → IsLegalCatalog c → c ≡ l ++ r ∷ rest → asked r ≡ Some (request.Regrade quiz) → is_some (at_place (quizzes (l ++ r ∷ [])) quiz) ≡ true
quiz-there c l r rest quiz legal e asks =
    let a = accepted c l r rest (request.Regrade quiz) legal e asks in
    let found = some-there (at_place (quizzes l) quiz) (present (at_place (quizzes l) quiz) _ a.there) in
    ap is_some (quiz-stays l (r ∷ []) quiz found.0 found.1)

there-by : (c : List Record) (number : ℕ) (o : Option (ℕ × ℕ)) → IsLegalCatalog c → at_place (jobs c) number ≡ o → is_some o ≡ true → is_some (job c number) ≡ true
there-by c number None legal is some = absurd cc
there-by c number (Some j) legal is some =
    let m = made-at c number j (number == 0) refl is in
    let front : take j.0 c ≡ m.front ++ m.own ∷ [] = ap (take j.0) m.stands ∙ up-to m.front m.own m.rest j.0 m.place in
    let quiz : is_some (at_place (quizzes (take j.0 c)) j.1) ≡ true = rw front (quiz-there c m.front m.own m.rest j.1 legal m.stands m.asks) in
    let found = some-there (at_place (quizzes (take j.0 c)) j.1) quiz in
    rw (is, found.1) refl

job-there : (c : List Record) (number shard : ℕ) → IsLegalCatalog c → missing_in c (request.Work number shard) ≡ None → is_some (job c number) ≡ true
job-there c number shard legal none = there-by c number (at_place (jobs c) number) legal refl (present (at_place (jobs c) number) _ none)

-- ---- what a job tells

-- its number is its own, and its slots and questions are those of its quiz over the records up to its position
record IsJobOf (c : List Record) (number : ℕ) (j : Job) : Type 0 where
  number_is : j.number ≡ number
  slots_are : j.plan.slots ≡ slots (take j.position c) j.plan.quiz
  questions_are : j.plan.questions ≡ questions (take j.position c) j.plan.slots

record IsPlanOf (c : List Record) (q : ℕ) (p : Plan) : Type 0 where
  quiz_is : p.quiz ≡ q
  slots_are : p.slots ≡ slots c q
  questions_are : p.questions ≡ questions c (slots c q)

plan-by : (c : List Record) (q : ℕ) (p : Plan) (o : Option _) → at_place (quizzes c) q ≡ o → plan_under (own_settings c q) c q ≡ Some p → IsPlanOf c q p
plan-by c q p None is told = let none : None ≡ Some p = rw is at told in absurd cc
plan-by c q p (Some named) is told = let some : Some _ ≡ Some p = rw is at told in record { quiz_is = cc; slots_are = cc; questions_are = cc }

job-with : (c : List Record) (number : ℕ) (x : ℕ × ℕ) (j : Job) (o : Option Plan) → plan_under (own_settings (take x.0 c) x.1) (take x.0 c) x.1 ≡ o → job_with c number x ≡ Some j → IsJobOf c number j
job-with c number x j None is told = let none : None ≡ Some j = rw is at told in absurd cc
job-with c number x j (Some p) is told =
    let some : Some (record { number = number; position = x.0; plan = p }) ≡ Some j = rw is at told in
    let t = plan-by (take x.0 c) x.1 p (at_place (quizzes (take x.0 c)) x.1) refl is in
    let same : record { number = number; position = x.0; plan = p } ≡ j = cc in
    subst (IsJobOf c number) same (record { number_is = refl; slots_are = rw t.quiz_is t.slots_are; questions_are = rw t.slots_are t.questions_are })

job-by : (c : List Record) (number : ℕ) (j : Job) (o : Option (ℕ × ℕ)) → at_place (jobs c) number ≡ o → option_and_then (job_with c number) o ≡ Some j → IsJobOf c number j
job-by c number j None is told = absurd cc
job-by c number j (Some x) is told = job-with c number x j (plan_under (own_settings (take x.0 c) x.1) (take x.0 c) x.1) refl told

job-of : (c : List Record) (number : ℕ) (j : Job) → job c number ≡ Some j → IsJobOf c number j
job-of c number j told = job-by c number j (at_place (jobs c) number) refl told

-- ---- each slot's question is that of its version

aligned-step : (c : List Record) (t : Planned) (ss : List Planned) (i : ℕ) (s : Planned) (q : Question) (o : Option Question) → version c t.entry t.version ≡ o → is_some o ≡ true → slice_get (t ∷ ss) i ≡ Some s → slice_get (questions c (t ∷ ss)) i ≡ Some q
    → ((k : ℕ) → slice_get ss k ≡ Some s → slice_get (questions c ss) k ≡ Some q → version c s.entry s.version ≡ Some q) → version c s.entry s.version ≡ Some q
aligned-step c t ss i s q None is some slot question later = absurd cc
aligned-step c t ss zero s q (Some x) is some slot question later =
    let first : Some x ≡ Some q = rw is at question in
    let same : t ≡ s = cc in
    subst (λ (u : Planned). version c u.entry u.version ≡ Some q) same (is ∙ first)
aligned-step c t ss (suc i) s q (Some x) is some slot question later = later i slot (rw is at question)

aligned : (c : List Record) (ss : List Planned) (i : ℕ) (s : Planned) (q : Question) → list_all (has_version c) ss ≡ true → slice_get ss i ≡ Some s → slice_get (questions c ss) i ≡ Some q → version c s.entry s.version ≡ Some q
aligned c [] i s q all slot question = absurd cc
aligned c (t ∷ ss) i s q all slot question =
    let parts = both-true (has_version c t) (list_all (has_version c) ss) all in
    aligned-step c t ss i s q (version c t.entry t.version) refl parts.0 slot question (λ k one other. aligned c ss k s q parts.1 one other)

aligned-at : (c : List Record) (ss : List Planned) (k : ℕ) (s : Planned) (q : Question) (b : Bool) → list_all (has_version c) ss ≡ true → (k == 0) ≡ b → at_place ss k ≡ Some s → at_place (questions c ss) k ≡ Some q → version c s.entry s.version ≡ Some q
aligned-at c ss k s q true all is slot question = let none : None ≡ Some s = rw is at slot in absurd cc
aligned-at c ss k s q false all is slot question = aligned c ss (k - 1) s q all (rw is at slot) (rw is at question)

-- over the records up to the job's position
question-of : (c : List Record) (number k : ℕ) (j : Job) (s : Planned) (q : Question) → IsLegalCatalog c → job c number ≡ Some j → at_place j.plan.slots k ≡ Some s → at_place j.plan.questions k ≡ Some q → version (take j.position c) s.entry s.version ≡ Some q
question-of c number k j s q legal told slot question =
    let t = job-of c number j told in
    let front = take j.position c in
    let all : list_all (has_version front) j.plan.slots ≡ true = rw t.slots_are (slots-have-versions front j.plan.quiz (front-legal c j.position legal)) in
    aligned-at front j.plan.slots k s q (k == 0) all refl slot (subst (λ (qs : List Question). at_place qs k ≡ Some q) t.questions_are question)

known-so : (c h : List Record) (number k : ℕ) (j : Job) (s : Planned) (q x : Question) → IsLegalCatalog c → AllAgree c h → job c number ≡ Some j → at_place j.plan.slots k ≡ Some s → at_place j.plan.questions k ≡ Some q → history.version h s.entry s.version ≡ Some x → x ≡ q
known-so c h number k j s q x legal all told slot question learned =
    let here : version c s.entry s.version ≡ Some q = front-stays c j.position s.entry s.version q (question-of c number k j s q legal told slot question) in
    let there : version c s.entry s.version ≡ Some x = version-agrees c h s.entry s.version x all learned in
    cc

-- ---- the event of a target

-- the versions that it is about
record IsEventOf (h : List Record) (j : Job) (a : AttemptId) (k : ℕ) (e : Event) : Type 0 where
  old : Question
  planned : Planned
  newer : Question
  old_is : history.question h a k ≡ Some old
  planned_is : at_place j.plan.slots k ≡ Some planned
  newer_is : at_place j.plan.questions k ≡ Some newer
  event_is : rebound_or_skipped h j a k planned old newer ≡ e

event-by : (h : List Record) (j : Job) (a : AttemptId) (k : ℕ) (e : Event) (x z : Option Question) (y : Option Planned) → history.question h a k ≡ x → at_place j.plan.slots k ≡ y → at_place j.plan.questions k ≡ z
    → option_and_then (λ old. option_and_then (λ s. option_map (λ newer. rebound_or_skipped h j a k s old newer) z) y) x ≡ Some e → IsEventOf h j a k e
event-by h j a k e None z y one two three is = absurd cc
event-by h j a k e (Some old) z None one two three is = absurd cc
event-by h j a k e (Some old) None (Some s) one two three is = absurd cc
event-by h j a k e (Some old) (Some newer) (Some s) one two three is = record {
  old = old;
  planned = s;
  newer = newer;
  old_is = one;
  planned_is = two;
  newer_is = three;
  event_is = let same : rebound_or_skipped h j a k s old newer ≡ e = cc in same;
}

-- ---- one more record

module _ (c h : List Record) (index count now caller number : ℕ) (j : Job) (legal : IsLegalCatalog c) (shard : IsLegal index count h) (all : AllAgree c h) (placed : (caller == 0) || is_some (at_place (users c) caller) ≡ true) (told : job c number ≡ Some j) where
  own_job : job c j.number ≡ Some j
  own_job = subst (λ n. job c n ≡ Some j) (sym (job-of c number j told).number_is) told

  abbrev job-agrees : JobAgrees c j.number j.plan.quiz j.position
  job-agrees = record { job = j; job_is = own_job; quiz = refl; position_is = refl }

  learned-agrees : (k : ℕ) (s : Planned) (newer : Question) → at_place j.plan.slots k ≡ Some s → at_place j.plan.questions k ≡ Some newer → LearnsFrom (take j.position c) (new_versions h (learned_as (s, newer) ∷ []))
  learned-agrees k s newer slot question =
      let one : LearnsFrom (take j.position c) (learned_as (s, newer) ∷ []) = rw (question-of c number k j s newer legal told slot question) refl in
      learns-new (take j.position c) h (learned_as (s, newer) ∷ []) one

  module _ (a : AttemptId) (k : ℕ) (first : first_target h j ≡ Some (a, k)) where
    of_quiz : history.quiz h a ≡ Some j.plan.quiz
    of_quiz = (left index count h j a k shard first).of_quiz

    event-agrees : (r : Record) (old newer : Question) (s : Planned) (b : Bool) → history.question h a k ≡ Some old → at_place j.plan.slots k ≡ Some s → at_place j.plan.questions k ≡ Some newer
        → EventAgrees c h r (if b then event.Rebound j.number a k (bind j.position s) (new_versions h (learned_as (s, newer) ∷ [])) else event.Skipped j.number a k (shape old) (shape newer))
    event-agrees r old newer s true old_is planned_is newer_is = record { quiz = j.plan.quiz; of_quiz = of_quiz; its_job = job-agrees; bound_is = rw planned_is refl; learns = learned-agrees k s newer planned_is newer_is }
    event-agrees r old newer s false old_is planned_is newer_is = record { quiz = j.plan.quiz; of_quiz = of_quiz; position = j.position; its_job = job-agrees; bound_is = rw old_is refl; newer_is = rw newer_is refl }

    target-agrees : (e : Event) → IsEventOf h j a k e → Agrees c h (record_of_job (history.time h a.user now) caller a.user e)
    target-agrees e t = subst (λ (d : Event). Agrees c h (record_of_job (history.time h a.user now) caller a.user d)) t.event_is (record {
      caller = placed;
      event = event-agrees (record_of_job (history.time h a.user now) caller a.user (rebound_or_skipped h j a k t.planned t.old t.newer)) t.old t.newer t.planned (same_shape (shape t.old) (shape t.newer)) t.old_is t.planned_is t.newer_is;
    })

    target-put : (o : Option Event) → target_event h j (a, k) ≡ o → Agrees c h (record_of_job (history.time h a.user now) caller a.user (unwrap_or o (event.JobDone j.number j.plan.quiz j.position)))
    target-put None is = record { caller = placed; event = job-agrees }
    target-put (Some e) is = target-agrees e (event-by h j a k e (history.question h a k) (at_place j.plan.questions k) (at_place j.plan.slots k) refl refl refl is)

  put-agrees : (t : Option (AttemptId × ℕ)) → first_target h j ≡ t → Agrees c h (put_target h now caller j t)
  put-agrees None none = record { caller = placed; event = job-agrees }
  put-agrees (Some t) first = target-put t.0 t.1 first (target_event h j t) refl

  done-or-put : (b : Bool) (t : Option (AttemptId × ℕ)) → first_target h j ≡ t → AllAgree c (h ++ option_to_list (if b then None else Some (put_target h now caller j t)))
  done-or-put true t first = subst (AllAgree c) (sym (append-nil h)) all
  done-or-put false t first = all-push c h (put_target h now caller j t) all (put-agrees t first)

worked-agrees : (c h : List Record) (index count now : ℕ) (who : Caller) (user : User) (number : ℕ) (j : Job) → IsLegalCatalog c → IsLegal index count h → AllAgree c h → user_of c who ≡ Some user → job c number ≡ Some j → AllAgree c (work_after h now user.number j)
worked-agrees c h index count now who user number j legal shard all found told =
    done-or-put c h index count now user.number number j legal shard all (caller-placed c who user found).0 told (history.is_done h j.number) (first_target h j) refl

-- ---- the slot of a target

slot-by : (h : List Record) (j : Job) (t : Option (AttemptId × ℕ)) → ((target : AttemptId × ℕ) → t ≡ Some target → is_some (target_event h j target) ≡ true) → HasSlot h j t
slot-by h j None found = tt
slot-by h j (Some target) found = found target refl

slots-there : (c h : List Record) (index count number : ℕ) (j : Job) → IsLegalCatalog c → IsLegal index count h → AllAgree c h → job c number ≡ Some j → HasSlot h j (first_target h j)
slots-there c h index count number j legal shard all told =
    slot-by h j (first_target h j) (λ target first. steps_law.found c h index count number j target legal shard all told first)

-- ---- the position of a job that is done

within-by : (c : List Record) (q n quiz position : ℕ) (b : Bool) → JobAgrees c n quiz position → (if b then Some position else None) ≡ Some q → q ≤ length c
within-by c q n quiz position true a told =
    let below = job-within c n a.job a.job_is in
    let place = a.position_is in
    let same : position ≡ q = cc in
    omega arith
within-by c q n quiz position false a told = absurd cc

position-within : (c l : List Record) (r : Record) (e : Event) (quiz p : ℕ) → EventAgrees c l r e → history.floor_by quiz e ≡ Some p → p ≤ length c
position-within c l r (event.JobDone n q position) quiz p agrees told = within-by c p n q position (q == quiz) agrees told
position-within c l r e quiz p agrees told = absurd cc

floor-step : (c : List Record) (r : Record) (rest : List Record) (quiz m : ℕ) (o : Option ℕ) → history.floor_by quiz r.event ≡ o → ((p : ℕ) → o ≡ Some p → p ≤ length c) → m ≤ length c
    → ((k : ℕ) → k ≤ length c → fold max k (filter_map (λ (s : Record). history.floor_by quiz s.event) rest) ≤ length c) → fold max m (filter_map (λ (s : Record). history.floor_by quiz s.event) (r ∷ rest)) ≤ length c
floor-step c r rest quiz m None is told low later = rw is (later m low)
floor-step c r rest quiz m (Some p) is told low later = rw is (later (max m p) (max-le low (told p refl)))

floor-from : (c h l rest : List Record) (quiz m : ℕ) → AllAgree c h → h ≡ l ++ rest → m ≤ length c → fold max m (filter_map (λ (s : Record). history.floor_by quiz s.event) rest) ≤ length c
floor-from c h l [] quiz m all e low = low
floor-from c h l (r ∷ rest) quiz m all e low =
    floor-step c r rest quiz m (history.floor_by quiz r.event) refl (λ p told. position-within c l r r.event quiz p (all.each l r rest e).event told) low
    (λ k below. floor-from c h (l ++ r ∷ []) rest quiz k all (e ∙ sym (append_assoc l (r ∷ []) rest)) below)

floor-within : (c h : List Record) (quiz : ℕ) → AllAgree c h → history.floor h quiz ≤ length c
floor-within c h quiz all = floor-from c h [] h quiz 0 all refl (omega arith)

pub working_law : GoesOnWorking
working_law = record { there = job-there; known = known-so; worked = worked-agrees; slots = slots-there; newer = floor-within }
