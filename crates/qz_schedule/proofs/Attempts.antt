-- What requests that name an attempt have in common.
use mathlib.Core.List.{IsPrefix}
use Rattle.std.proofs.Common.{◌≡◌, ℕ, ◌%◌, Bool, true, false, ◌||◌, List, Option, Some, None, refl, subst}
use Rattle.std.specs.Prelude.{is_none, option_and_then, option_map, unwrap_or}
use Rattle.qz_grading.specs.declared.refusal.AttemptId.{AttemptId}
use Rattle.qz_grading.specs.declared.refusal.Refusal.{Refusal}
use Rattle.qz_grading.specs.declared.refusal.Refusal.TheVariants as refusal
use Rattle.qz_grading.specs.declared.refusal.Thing.TheVariants as thing
use Rattle.qz_grading.specs.Behaviours.{when}
use Rattle.qz_terms.specs.declared.ask.Ask.{Ask}
use Rattle.qz_terms.specs.declared.people.User.{User}
use Rattle.qz_terms.specs.declared.record.Record.{Record}
use Rattle.qz_terms.specs.declared.request.Request.{Request}
use Rattle.qz_terms.specs.declared.request.Request.TheVariants as request
use Rattle.qz_terms.specs.Answer.{attempt_named, named_user}
use Rattle.qz_terms.specs.Catalog as catalog
use Rattle.qz_terms.specs.Cause.{missing_attempt, missing_here, missing_in, missing_shard, missing_slot}
use Rattle.qz_terms.specs.History as history
use Rattle.qz_terms.specs.SchoolAnswer.{answer_by, part_of, plan_for, shard_answer}
use Rattle.qz_terms.specs.Serial.{is_report}
use Rattle.qz_serial.proofs.Growing.{quiz-append}
use Rattle.qz_schedule.specs.Worlds.{Visit, planned_quiz}

pub record NamesAttempt (x : Request) (a : AttemptId) : Type 0 where
  pub missing : (c : List Record) → missing_in c x ≡ None
  pub inside : (n : ℕ) → missing_shard n x ≡ None
  pub other : is_report x ≡ false
  pub part : (n : ℕ) (user : User) → part_of n user x ≡ a.user % n
  pub owner : (user : User) → named_user user x ≡ a.user
  pub quiz : (v : Visit) → planned_quiz v x ≡ unwrap_or v.quiz 0
  pub plan : (c h : List Record) (user : User) → plan_for c h user x ≡ option_and_then (λ q. catalog.plan c q a.user) (history.quiz h a)
  pub here : (h : List Record) (user : User) (r : Refusal) → missing_attempt h user a ≡ Some r → missing_here h user x ≡ Some r
  pub answer : (c h : List Record) (now : ℕ) (user : User) (ask : Ask) → answer_by c h now user ask x ≡ shard_answer c h now user ask

slot-here : (h : List Record) (user : User) (a : AttemptId) (k : ℕ) (r : Refusal) → missing_attempt h user a ≡ Some r → missing_slot h user a k ≡ Some r
slot-here h user a k r is = rw is refl

pub names-attempt : (x : Request) (a : AttemptId) → attempt_named x ≡ Some a → NamesAttempt x a
names-attempt (request.Save b k c r) a is = let same : b ≡ a = cc in subst (NamesAttempt (request.Save b k c r)) same (record { missing = λ d. refl; inside = λ n. refl; other = refl; part = λ n user. refl; owner = λ user. refl; quiz = λ v. refl; plan = λ d h user. refl; here = λ h user s no. slot-here h user b k s no; answer = λ d h now user ask. refl })
names-attempt (request.Submit b k c r) a is = let same : b ≡ a = cc in subst (NamesAttempt (request.Submit b k c r)) same (record { missing = λ d. refl; inside = λ n. refl; other = refl; part = λ n user. refl; owner = λ user. refl; quiz = λ v. refl; plan = λ d h user. refl; here = λ h user s no. slot-here h user b k s no; answer = λ d h now user ask. refl })
names-attempt (request.Again b k) a is = let same : b ≡ a = cc in subst (NamesAttempt (request.Again b k)) same (record { missing = λ d. refl; inside = λ n. refl; other = refl; part = λ n user. refl; owner = λ user. refl; quiz = λ v. refl; plan = λ d h user. refl; here = λ h user s no. slot-here h user b k s no; answer = λ d h now user ask. refl })
names-attempt (request.Finish b) a is = let same : b ≡ a = cc in subst (NamesAttempt (request.Finish b)) same (record { missing = λ d. refl; inside = λ n. refl; other = refl; part = λ n user. refl; owner = λ user. refl; quiz = λ v. refl; plan = λ d h user. refl; here = λ h user s no. no; answer = λ d h now user ask. refl })
names-attempt (request.Mark b k m) a is = let same : b ≡ a = cc in subst (NamesAttempt (request.Mark b k m)) same (record { missing = λ d. refl; inside = λ n. refl; other = refl; part = λ n user. refl; owner = λ user. refl; quiz = λ v. refl; plan = λ d h user. refl; here = λ h user s no. slot-here h user b k s no; answer = λ d h now user ask. refl })
names-attempt (request.Settle b) a is = let same : b ≡ a = cc in subst (NamesAttempt (request.Settle b)) same (record { missing = λ d. refl; inside = λ n. refl; other = refl; part = λ n user. refl; owner = λ user. refl; quiz = λ v. refl; plan = λ d h user. refl; here = λ h user s no. no; answer = λ d h now user ask. refl })
names-attempt (request.View b k) a is = let same : b ≡ a = cc in subst (NamesAttempt (request.View b k)) same (record { missing = λ d. refl; inside = λ n. refl; other = refl; part = λ n user. refl; owner = λ user. refl; quiz = λ v. refl; plan = λ d h user. refl; here = λ h user s no. slot-here h user b k s no; answer = λ d h now user ask. refl })
names-attempt (request.Total b) a is = let same : b ≡ a = cc in subst (NamesAttempt (request.Total b)) same (record { missing = λ d. refl; inside = λ n. refl; other = refl; part = λ n user. refl; owner = λ user. refl; quiz = λ v. refl; plan = λ d h user. refl; here = λ h user s no. no; answer = λ d h now user ask. refl })
names-attempt (request.Page b) a is = let same : b ≡ a = cc in subst (NamesAttempt (request.Page b)) same (record { missing = λ d. refl; inside = λ n. refl; other = refl; part = λ n user. refl; owner = λ user. refl; quiz = λ v. refl; plan = λ d h user. refl; here = λ h user s no. no; answer = λ d h now user ask. refl })
names-attempt x a is = absurd cc

-- ---- an attempt that isn't missing is there

some-quiz : (o : Option history.Start) (other : Bool) → when (other || is_none o) (refusal.Unknown thing.Attempt) ≡ None → (q : ℕ) × (option_map (λ (s : history.Start). s.quiz) o ≡ Some q)
some-quiz None true none = absurd cc
some-quiz None false none = absurd cc
some-quiz (Some s) other none = (s.quiz, refl)

pub quiz-there : (h : List Record) (user : User) (a : AttemptId) → missing_attempt h user a ≡ None → (q : ℕ) × (history.quiz h a ≡ Some q)
quiz-there h user a none = some-quiz (history.start h a) _ none

-- it keeps its quiz
pub quiz-on : (h g : List Record) (a : AttemptId) (q : ℕ) → IsPrefix h g → history.quiz h a ≡ Some q → history.quiz g a ≡ Some q
quiz-on h g a q p is = subst (λ (l : List Record). history.quiz l a ≡ Some q) p.1 (quiz-append h p.0 a q (history.start h a) refl is)

-- how it is missing
one-cause : (b : Bool) (r : Refusal) → when b (refusal.Unknown thing.Attempt) ≡ Some r → refusal.Unknown thing.Attempt ≡ r
one-cause true r is = let same : refusal.Unknown thing.Attempt ≡ r = cc in same
one-cause false r is = absurd cc

pub missing-cause : (h : List Record) (user : User) (a : AttemptId) (r : Refusal) → missing_attempt h user a ≡ Some r → refusal.Unknown thing.Attempt ≡ r
missing-cause h user a r is = one-cause _ r is
