-- What stands in a catalogue stands in a longer one.
use Rattle.std.proofs.Common.{◌≡◌, ℕ, zero, suc, ◌+◌, ◌-◌, ◌<◌, ◌≤◌, Bool, true, false, List, [], ◌∷◌, ◌++◌, Option, Some, None, length, map, take, refl, sym, ap, ◌∙◌, arith}
use Rattle.std.specs.List.{enumerate_from}
use Rattle.std.specs.Prelude.{◌==◌, filter, filter_map, is_none, is_some, option_and_then, slice_get}
use Rattle.std.proofs.lemmas.List.{take-append-le}
use Rattle.std.proofs.lemmas.List.Elements.{filter-append, filter_map-append}
use Rattle.std.proofs.lemmas.List.Folds.{list_any-append}
use Rattle.qz_grading.specs.declared.outcome.Behaviour.{Behaviour}
use Rattle.qz_grading.specs.declared.refusal.Refusal.{Refusal}
use Rattle.qz_grading.specs.declared.refusal.Refusal.TheVariants as refusal
use Rattle.qz_grading.specs.declared.refusal.Thing.TheVariants as thing
use Rattle.qz_grading.specs.Behaviours.{first_some, when}
use Rattle.qz_grading.specs.Grading.{at_place}
use Rattle.qz_terms.specs.declared.people.Caller.{Caller}
use Rattle.qz_terms.specs.declared.people.Caller.TheVariants as caller
use Rattle.qz_terms.specs.declared.people.User.{User}
use Rattle.qz_terms.specs.declared.plan.Job.{Job}
use Rattle.qz_terms.specs.declared.record.Record.{Record}
use Rattle.qz_terms.specs.declared.request.Request.{Request}
use Rattle.qz_terms.specs.declared.request.Request.TheVariants as request
use Rattle.qz_terms.specs.declared.request.Whom.{Whom}
use Rattle.qz_terms.specs.declared.request.Whom.TheVariants as whom
use Rattle.qz_terms.specs.Catalog.{Person, asked, entries, group_by, groups, has_token, is_ready, job, job_with, jobs, made_user, plan, quiz_by, quizzes, readies, regrade_by, slot_by, slots, slots_made, user_of, user_with, users, version}
use Rattle.qz_terms.specs.Catalog as catalog
use Rattle.qz_terms.specs.Cause.{forbidden, missing_entry, missing_group, missing_in, missing_quiz, missing_user, missing_whom}
use Rattle.qz_terms.specs.History as history
use Rattle.qz_terms.specs.Lists.{first_of}
use Rattle.qz_terms.specs.SchoolAnswer.{first_refusal, plan_for}
use Rattle.qz_terms.proofs.Readings.{first_of-append}
use Rattle.qz_terms.proofs.Staying.{at-append, entries-append, entry-stays}
pub use Rattle.qz_terms.proofs.Staying.{version-stays}
use Rattle.qz_serial.specs.Staying.{StaysThere}
use Rattle.qz_serial.proofs.Places.{kept-there, numbered-append, numbered-there, numbered-told-append, present-append, some-there}

-- ---- users and groups

abbrev pub later-users : List Record → List Record → List User
later-users c rest = map (λ (u : ℕ × Person). user_with u.0 u.1) (enumerate_from (1 + length (filter_map made_user c)) (filter_map made_user rest))

pub users-append : (c rest : List Record) → users (c ++ rest) ≡ users c ++ later-users c rest
users-append c rest =
    ap (λ (ps : List Person). map (λ (u : ℕ × Person). user_with u.0 u.1) (enumerate_from 1 ps)) (filter_map-append made_user c rest)
    ∙ numbered-append (λ (u : ℕ × Person). user_with u.0 u.1) 1 (filter_map made_user c) (filter_map made_user rest)

pub user-stays : (c rest : List Record) (n : ℕ) (u : User) → at_place (users c) n ≡ Some u → at_place (users (c ++ rest)) n ≡ Some u
user-stays c rest n u found = rw (users-append c rest) (at-append (users c) (later-users c rest) n u found)

caller-stays : (c rest : List Record) (who : Caller) (u : User) → user_of c who ≡ Some u → user_of (c ++ rest) who ≡ Some u
caller-stays c rest (caller.Token token) u found =
    ap (λ (us : List User). first_of (filter (has_token token) us)) (users-append c rest)
    ∙ ap first_of (filter-append (has_token token) (users c) (later-users c rest))
    ∙ first_of-append (filter (has_token token) (users c)) (filter (has_token token) (later-users c rest)) u found
caller-stays c rest caller.Worker u found = found

groups-append : (c rest : List Record) → groups (c ++ rest) ≡ groups c ++ groups rest
groups-append c rest = filter_map-append (λ r. group_by (asked r)) c rest

-- ---- quizzes

quizzes-append : (c rest : List Record) → quizzes (c ++ rest) ≡ quizzes c ++ quizzes rest
quizzes-append c rest = filter_map-append (λ r. quiz_by (asked r)) c rest

pub quiz-stays : (c rest : List Record) (n : ℕ) (named : List ℕ × Behaviour) → at_place (quizzes c) n ≡ Some named → at_place (quizzes (c ++ rest)) n ≡ Some named
quiz-stays c rest n named found = rw (quizzes-append c rest) (at-append (quizzes c) (quizzes rest) n named found)

slots_made-append : (c rest : List Record) (q : ℕ) → slots_made (c ++ rest) q ≡ slots_made c q ++ slots_made rest q
slots_made-append c rest q = filter_map-append (λ r. slot_by q (asked r)) c rest

pub ready-stays : (c rest : List Record) (q : ℕ) → is_ready c q ≡ true → is_ready (c ++ rest) q ≡ true
ready-stays c rest q ready = list_any-append (readies q) c rest ∙ rw ready refl

-- a quiz has a plan
plan-by : (c : List Record) (q u : ℕ) (o : Option (List ℕ × Behaviour)) → at_place (quizzes c) q ≡ o → is_some (plan c q u) ≡ is_some o
plan-by c q u None is = rw is refl
plan-by c q u (Some named) is = rw is refl

pub plan-there : (c : List Record) (q u : ℕ) → is_some (plan c q u) ≡ is_some (at_place (quizzes c) q)
plan-there c q u = plan-by c q u (at_place (quizzes c) q) refl

plan-stays : (c rest : List Record) (q u : ℕ) → is_some (plan c q u) ≡ true → is_some (plan (c ++ rest) q u) ≡ true
plan-stays c rest q u planned =
    let found = some-there (at_place (quizzes c) q) (sym (plan-there c q u) ∙ planned) in
    plan-there (c ++ rest) q u ∙ ap is_some (quiz-stays c rest q found.0 found.1)

-- ---- jobs

abbrev job_at : ℕ × Record → Option (ℕ × ℕ)
job_at r = regrade_by r.0 (asked r.1)

jobs-append : (c rest : List Record) → jobs (c ++ rest) ≡ jobs c ++ filter_map job_at (enumerate_from (1 + length c) rest)
jobs-append c rest = numbered-told-append job_at 1 c rest

early-step : (n : ℕ) (r : Record) (c : List Record) (i : ℕ) (j : ℕ × ℕ) (o : Option (ℕ × ℕ)) → job_at (n, r) ≡ o → slice_get (filter_map job_at (enumerate_from n (r ∷ c))) i ≡ Some j
    → ((k : ℕ) → slice_get (filter_map job_at (enumerate_from (n + 1) c)) k ≡ Some j → j.0 < n + 1 + length c) → ((x : ℕ × ℕ) → job_at (n, r) ≡ Some x → x.0 ≡ n) → j.0 < n + length (r ∷ c)
early-step n r c i j None is found later here = let below = later i (rw is at found) in omega arith
early-step n r c zero j (Some x) is found later here =
    let first : Some x ≡ Some j = rw is at found in
    let same : x ≡ j = cc in
    let place : j.0 ≡ n = ap (λ (y : ℕ × ℕ). y.0) (sym same) ∙ here x is in
    omega arith
early-step n r c (suc i) j (Some x) is found later here = let below = later i (rw is at found) in omega arith

job-place : (n : ℕ) (o : Option Request) (x : ℕ × ℕ) → regrade_by n o ≡ Some x → x.0 ≡ n
job-place n (Some (request.Regrade quiz)) x is = let same : (n, quiz) ≡ x = cc in ap (λ (y : ℕ × ℕ). y.0) (sym same)
job-place n o x is = absurd cc

early-from : (n : ℕ) (c : List Record) (i : ℕ) (j : ℕ × ℕ) → slice_get (filter_map job_at (enumerate_from n c)) i ≡ Some j → j.0 < n + length c
early-from n [] i j found = absurd cc
early-from n (r ∷ c) i j found = early-step n r c i j (job_at (n, r)) refl found (λ k e. early-from (n + 1) c k j e) (λ x is. job-place n (asked r) x is)

early-by : (c : List Record) (n : ℕ) (j : ℕ × ℕ) (b : Bool) → (n == 0) ≡ b → at_place (jobs c) n ≡ Some j → j.0 ≤ length c
early-by c n j true is found = let none : None ≡ Some j = rw is at found in absurd cc
early-by c n j false is found = let below = early-from 1 c (n - 1) j (rw is at found) in omega arith

-- a job has its place within the catalogue
pub job-early : (c : List Record) (n : ℕ) (j : ℕ × ℕ) → at_place (jobs c) n ≡ Some j → j.0 ≤ length c
job-early c n j found = early-by c n j (n == 0) refl found

job-by : (c rest : List Record) (n : ℕ) (o : Option (ℕ × ℕ)) (j : Job) → at_place (jobs c) n ≡ o → option_and_then (job_with c n) o ≡ Some j → job (c ++ rest) n ≡ Some j
job-by c rest n None j is found = absurd cc
job-by c rest n (Some x) j is found =
    let there : at_place (jobs (c ++ rest)) n ≡ Some x = rw (jobs-append c rest) (at-append (jobs c) (filter_map job_at (enumerate_from (1 + length c) rest)) n x is) in
    let front : take x.0 (c ++ rest) ≡ take x.0 c = take-append-le x.0 c rest (job-early c n x is) in
    rw (there, front) found

pub job-stays : (c rest : List Record) (n : ℕ) (j : Job) → job c n ≡ Some j → job (c ++ rest) n ≡ Some j
job-stays c rest n j found = job-by c rest n (at_place (jobs c) n) j refl found

-- ---- what isn't missing

pub first-there : (o : Option Refusal) (os : List (Option Refusal)) → first_some (o ∷ os) ≡ None → (o ≡ None) × (first_some os ≡ None)
first-there None os none = (refl, none)
first-there (Some r) os none = absurd cc

pub both-there : (o p : Option Refusal) → first_some (o ∷ p ∷ []) ≡ None → (o ≡ None) × (p ≡ None)
both-there None None none = (refl, refl)
both-there None (Some r) none = absurd cc
both-there (Some r) p none = absurd cc

user-there : (c rest : List Record) (n : ℕ) → missing_user c n ≡ None → missing_user (c ++ rest) n ≡ None
user-there c rest n there = rw (users-append c rest) (present-append (users c) (later-users c rest) n (refusal.Unknown thing.User) there)

group-there : (c rest : List Record) (n : ℕ) → missing_group c n ≡ None → missing_group (c ++ rest) n ≡ None
group-there c rest n there = rw (groups-append c rest) (present-append (groups c) (groups rest) n (refusal.Unknown thing.Group) there)

pub entry-there : (c rest : List Record) (n : ℕ) → missing_entry c n ≡ None → missing_entry (c ++ rest) n ≡ None
entry-there c rest n there = rw (entries-append c rest) (present-append (entries c) (entries rest) n (refusal.Unknown thing.Entry) there)

quiz-there : (c rest : List Record) (n : ℕ) → missing_quiz c n ≡ None → missing_quiz (c ++ rest) n ≡ None
quiz-there c rest n there = rw (quizzes-append c rest) (present-append (quizzes c) (quizzes rest) n (refusal.Unknown thing.Quiz) there)

whom-there : (c rest : List Record) (w : Whom) (n : ℕ) → missing_whom c w n ≡ None → missing_whom (c ++ rest) w n ≡ None
whom-there c rest whom.User n there = user-there c rest n there
whom-there c rest whom.Group n there = group-there c rest n there

slot-missing : (c : List Record) (q k : ℕ) → is_none (at_place (slots c q) k) ≡ is_none (at_place (slots_made c q) k)
slot-missing c q k = numbered-there (λ (s : ℕ × (ℕ × _)). catalog.planned c q s.0 s.1.0 s.1.1) 1 (slots_made c q) k

slot-there : (c rest : List Record) (q k : ℕ) (r : Refusal) → when (is_none (at_place (slots c q) k)) r ≡ None → when (is_none (at_place (slots (c ++ rest) q) k)) r ≡ None
slot-there c rest q k r there =
    let before : when (is_none (at_place (slots_made c q) k)) r ≡ None = rw (slot-missing c q k) at there in
    rw (slot-missing (c ++ rest) q k, slots_made-append c rest q) (present-append (slots_made c q) (slots_made rest q) k r before)

job-there : (c rest : List Record) (n : ℕ) (r : Refusal) → when (is_none (at_place (jobs c) n)) r ≡ None → when (is_none (at_place (jobs (c ++ rest)) n)) r ≡ None
job-there c rest n r there = rw (jobs-append c rest) (present-append (jobs c) (filter_map job_at (enumerate_from (1 + length c) rest)) n r there)

version-there : (c rest : List Record) (e n : ℕ) (r : Refusal) → when (is_none (version c e n)) r ≡ None → when (is_none (version (c ++ rest) e n)) r ≡ None
version-there c rest e n r there =
    let found = kept-there (version c e n) r there in
    rw (version-stays c rest e n found.0 found.1) refl

pub found-stays : (c rest : List Record) (x : Request) → missing_in c x ≡ None → missing_in (c ++ rest) x ≡ None
found-stays c rest (request.Member group user) none = let parts = both-there (missing_group c group) (missing_user c user) none in rw (group-there c rest group parts.0, user-there c rest user parts.1) refl
found-stays c rest (request.Edit entry gift) none = entry-there c rest entry none
found-stays c rest (request.Tune entry penalty hints) none = entry-there c rest entry none
found-stays c rest (request.Slot quiz entry max) none = let parts = both-there (missing_quiz c quiz) (missing_entry c entry) none in rw (quiz-there c rest quiz parts.0, entry-there c rest entry parts.1) refl
found-stays c rest (request.Ready quiz) none = quiz-there c rest quiz none
found-stays c rest (request.Remax quiz slot max) none = let parts = both-there (missing_quiz c quiz) (when (is_none (at_place (slots c quiz) slot)) (refusal.Unknown thing.Slot)) none in rw (quiz-there c rest quiz parts.0, slot-there c rest quiz slot (refusal.Unknown thing.Slot) parts.1) refl
found-stays c rest (request.Policy quiz method grade) none = quiz-there c rest quiz none
found-stays c rest (request.Times quiz opens closes limit allowed handling grace review) none = quiz-there c rest quiz none
found-stays c rest (request.Override quiz whom number opens closes limit allowed) none = let parts = both-there (missing_quiz c quiz) (missing_whom c whom number) none in rw (quiz-there c rest quiz parts.0, whom-there c rest whom number parts.1) refl
found-stays c rest (request.Regrade quiz) none = quiz-there c rest quiz none
found-stays c rest (request.Start quiz) none = quiz-there c rest quiz none
found-stays c rest (request.Work job shard) none = job-there c rest job (refusal.Unknown thing.Job) none
found-stays c rest (request.Grade quiz user) none = let parts = both-there (missing_quiz c quiz) (missing_user c user) none in rw (quiz-there c rest quiz parts.0, user-there c rest user parts.1) refl
found-stays c rest (request.Report quiz) none = quiz-there c rest quiz none
found-stays c rest (request.Bank entry version) none = let parts = both-there (missing_entry c entry) (when (is_none (catalog.version c entry version)) (refusal.Unknown thing.Version)) none in rw (entry-there c rest entry parts.0, version-there c rest entry version (refusal.Unknown thing.Version) parts.1) refl
found-stays c rest x none = refl

free-stays : (c rest : List Record) (user : User) (x : Request) → first_refusal c user x ≡ None → first_refusal (c ++ rest) user x ≡ None
free-stays c rest user x none =
    let parts = both-there (forbidden user x) (missing_in c x) none in
    rw (parts.0, found-stays c rest x parts.1) refl

-- ---- the plan of a request

quiz-planned : (c rest : List Record) (u : ℕ) (o : Option ℕ) → is_some (option_and_then (λ q. plan c q u) o) ≡ true → is_some (option_and_then (λ q. plan (c ++ rest) q u) o) ≡ true
quiz-planned c rest u None planned = absurd cc
quiz-planned c rest u (Some q) planned = plan-stays c rest q u planned

planned-stays : (c rest h : List Record) (user : User) (x : Request) → is_some (plan_for c h user x) ≡ true → is_some (plan_for (c ++ rest) h user x) ≡ true
planned-stays c rest h user (request.Start quiz) planned = plan-stays c rest quiz user.number planned
planned-stays c rest h user (request.Grade quiz owner) planned = plan-stays c rest quiz owner planned
planned-stays c rest h user (request.Save a k certainty response) planned = quiz-planned c rest a.user (history.quiz h a) planned
planned-stays c rest h user (request.Submit a k certainty response) planned = quiz-planned c rest a.user (history.quiz h a) planned
planned-stays c rest h user (request.Again a k) planned = quiz-planned c rest a.user (history.quiz h a) planned
planned-stays c rest h user (request.Finish a) planned = quiz-planned c rest a.user (history.quiz h a) planned
planned-stays c rest h user (request.Mark a k mark) planned = quiz-planned c rest a.user (history.quiz h a) planned
planned-stays c rest h user (request.Settle a) planned = quiz-planned c rest a.user (history.quiz h a) planned
planned-stays c rest h user (request.View a k) planned = quiz-planned c rest a.user (history.quiz h a) planned
planned-stays c rest h user (request.Total a) planned = quiz-planned c rest a.user (history.quiz h a) planned
planned-stays c rest h user (request.Page a) planned = quiz-planned c rest a.user (history.quiz h a) planned
planned-stays c rest h user x planned = absurd cc

pub staying_law : StaysThere
staying_law = record {
  front = λ c rest n within. take-append-le n c rest within;
  user = user-stays;
  caller = caller-stays;
  group = λ c rest n name found. rw (groups-append c rest) (at-append (groups c) (groups rest) n name found);
  entry = entry-stays;
  version = version-stays;
  quiz = quiz-stays;
  slot = λ c rest q k s found. rw (slots_made-append c rest q) (at-append (slots_made c q) (slots_made rest q) k s found);
  ready = ready-stays;
  job = job-stays;
  found = found-stays;
  free = free-stays;
  planned = planned-stays;
}
