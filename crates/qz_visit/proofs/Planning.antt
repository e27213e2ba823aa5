-- What may be asked of a shard under the plans that a catalogue gives, whatever the two lists have grown to.
use Rattle.std.proofs.Common.{◌≡◌, ℕ, Bool, true, false, List, [], Option, Some, None, is_some, refl, sym, subst}
use mathlib.Core.List.{IsPrefix}
use Rattle.qz_catalog.specs.Keeping.{IsPlan}
use Rattle.qz_grading.specs.declared.refusal.AttemptId.{AttemptId}
use Rattle.qz_school.specs.Agreement.{HasQuizReady}
use Rattle.qz_school.proofs.Putting.{agreeing_law, older_law}
use Rattle.qz_serial.proofs.Growing.{quiz-append}
use Rattle.qz_shard.specs.Holdings.{StartsHere}
use Rattle.qz_shard_turns.specs.Posing.{CanPose, IsPlannedBy, shard_at}
use Rattle.qz_shard_turns.proofs.Tying.{agree-on}
use Rattle.qz_school.specs.Answering.{MayBeAsked}
use Rattle.qz_school.specs.Planning.{IsPlanned, NamesQuiz, grades, starts}
use Rattle.qz_school.proofs.Planning.{named_kind, plans_named, plans_quiz, quiz_kind}
use Rattle.qz_terms.specs.declared.ask.Ask.{Ask}
use Rattle.qz_terms.specs.declared.people.User.{User}
use Rattle.qz_terms.specs.declared.plan.Plan.{Plan}
use Rattle.qz_terms.specs.declared.record.Record.{Record}
use Rattle.qz_terms.specs.declared.request.Request.{Request}
use Rattle.qz_terms.specs.declared.request.Request.TheVariants as request
use Rattle.qz_terms.specs.Answer.{attempt_named}
use Rattle.qz_terms.specs.Catalog.{user_of}
use Rattle.qz_terms.specs.Cause.{forbidden}
use Rattle.qz_terms.specs.History as history
use Rattle.qz_terms.specs.Legal.{AllAgree, IsLegalCatalog, is_here}
use Rattle.qz_turn.proofs.Prefixes.{prefix_trans}
use Rattle.qz_visit.specs.Ways.{MayPlan}
use Rattle.qz_visit.proofs.Asking.{user_on}

-- ---- over longer lists

starts-any : (i n : ℕ) (h g : List Record) (user : User) (p : Plan) (x : Request) → StartsHere (shard_at i n h) user p x → StartsHere (shard_at i n g) user p x
starts-any i n h g user p (request.Start q) is = is
starts-any i n h g user p x is = tt

-- under the plan that the catalogue gave
pub can_pose : (c d seen now : List Record) (index count : ℕ) (user : User) (quiz owner : ℕ) (whole : Bool) (ask : Ask) (moment : ℕ) (plan : Plan) → MayPlan c seen index count user quiz owner whole ask moment → IsPrefix c d → IsLegalCatalog d → IsPrefix seen now
    → IsPlan d quiz owner whole plan → CanPose d now index count user plan ask moment
can_pose c d seen now index count user quiz owner whole ask moment plan m p legal q is = record {
  legal = legal;
  known = user_on c d ask.caller user p m.known;
  asked = m.asked;
  served = m.served;
  here = starts-any index count now [] user plan ask.request (m.planned d now plan p q is).here;
  planned = λ h r. m.planned d h plan p (prefix_trans seen now h q r) is;
}

-- ---- a request that names a quiz

no-attempt-start : (d h : List Record) (q : ℕ) → HasQuizReady d h (request.Start q)
no-attempt-start d h q = record { ready = λ a n named. let none : None ≡ Some a = named in absurd cc }

no-attempt-grade : (d h : List Record) (q owner : ℕ) → HasQuizReady d h (request.Grade q owner)
no-attempt-grade d h q owner = record { ready = λ a n named. let none : None ≡ Some a = named in absurd cc }

quiz-any : (d h : List Record) (i n : ℕ) (user : User) (x : Request) (q owner : ℕ) (whole : Bool) (p : Plan) → NamesQuiz user x q owner whole → IsPlanned d (shard_at i n []) user x p → IsPlannedBy d i n user x p h
quiz-any d h i n user x q owner whole p (starts is own all) planned =
    let w = subst (λ (y : Request). IsPlanned d (shard_at i n []) user y p) is planned in
    subst (λ (y : Request). IsPlannedBy d i n user y p h) (sym is) (record {
      whole = w.whole;
      free = w.free;
      plan_is = w.plan_is;
      given_is = w.given_is;
      of_quiz = w.of_quiz;
      kept = w.kept;
      here = w.here;
      ready = no-attempt-start d h q;
    })
quiz-any d h i n user x q owner whole p (grades is lean_one) planned =
    let w = subst (λ (y : Request). IsPlanned d (shard_at i n []) user y p) is planned in
    subst (λ (y : Request). IsPlannedBy d i n user y p h) (sym is) (record {
      whole = w.whole;
      free = w.free;
      plan_is = w.plan_is;
      given_is = w.given_is;
      of_quiz = w.of_quiz;
      kept = w.kept;
      here = w.here;
      ready = no-attempt-grade d h q owner;
    })

pub may_quiz : (c seen : List Record) (index count : ℕ) (user : User) (quiz owner : ℕ) (whole : Bool) (ask : Ask) (moment : ℕ) → user_of c ask.caller ≡ Some user → MayBeAsked ask moment → forbidden user ask.request ≡ None → NamesQuiz user ask.request quiz owner whole
    → is_here index count owner ≡ true → MayPlan c seen index count user quiz owner whole ask moment
may_quiz c seen index count user quiz owner whole ask moment found may free names here = record {
  known = found;
  asked = may;
  served = (quiz_kind user ask.request quiz owner whole names).0;
  planned = λ d h p prefix later is.
      quiz-any d h index count user ask.request quiz owner whole p names
      (plans_quiz d (shard_at index count []) ask.caller user ask.request quiz owner whole p (user_on c d ask.caller user prefix found) free names here (agreeing_law.empty d) is);
}

-- ---- a request that names an attempt

pub quiz_on : (h g : List Record) (a : AttemptId) (q : ℕ) → IsPrefix h g → history.quiz h a ≡ Some q → history.quiz g a ≡ Some q
quiz_on h g a q p is = subst (λ (l : List Record). history.quiz l a ≡ Some q) p.1 (quiz-append h p.0 a q (history.start h a) refl is)

there-some : (h : List Record) (a : AttemptId) (q : ℕ) → history.quiz h a ≡ Some q → is_some (history.quiz h a) ≡ true
there-some h a q is = rw is refl

pub may_attempt : (c seen : List Record) (index count : ℕ) (user : User) (attempt : AttemptId) (q : ℕ) (ask : Ask) (moment : ℕ) → user_of c ask.caller ≡ Some user → MayBeAsked ask moment → forbidden user ask.request ≡ None → attempt_named ask.request ≡ Some attempt
    → history.quiz seen attempt ≡ Some q → AllAgree c seen → MayPlan c seen index count user q attempt.user false ask moment
may_attempt c seen index count user attempt q ask moment found may free named of_quiz agree = record {
  known = found;
  asked = may;
  served = (named_kind user ask.request attempt named).0;
  planned = λ d h p prefix later is.
      let w = plans_named d (shard_at index count h) user ask.request attempt q p free named (quiz_on seen h attempt q later of_quiz) is in
      let all = agree-on c d seen prefix agree in
      let ready = older_law.ready d seen later.0 ask.request all (λ a other. let same : attempt ≡ a = one named other in subst (λ (b : AttemptId). is_some (history.quiz seen b) ≡ true) same (there-some seen attempt q of_quiz)) in
      record {
        whole = w.whole;
        free = w.free;
        plan_is = w.plan_is;
        given_is = w.given_is;
        of_quiz = w.of_quiz;
        kept = w.kept;
        here = w.here;
        ready = subst (λ (l : List Record). HasQuizReady d l ask.request) later.1 ready;
      };
}
  where
    one : {A : Type 0} {o : Option A} {a b : A} → o ≡ Some a → o ≡ Some b → a ≡ b
    one first second = cc
