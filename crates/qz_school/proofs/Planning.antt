-- How a shard answers under the plan that its catalogue gives.
use Rattle.std.proofs.Common.{◌≡◌, ◌⊎◌, inl, inr, ℕ, Bool, true, false, List, [], ◌∷◌, Option, Some, None, length, option_map, refl, sym, ap, ◌∙◌, subst, eq-eqb}
use Rattle.std.specs.Prelude.{◌==◌, is_none, is_some, option_and_then, unwrap_or}
use Rattle.qz_grading.specs.declared.refusal.AttemptId.{AttemptId}
use Rattle.qz_grading.specs.declared.refusal.Refusal.{Refusal}
use Rattle.qz_grading.specs.declared.refusal.Refusal.TheVariants as refusal
use Rattle.qz_grading.specs.declared.refusal.Thing.TheVariants as thing
use Rattle.qz_grading.specs.Behaviours.{first_some}
use Rattle.qz_grading.specs.Grading.{at_place}
use Rattle.qz_terms.specs.declared.ask.Ask.{Ask}
use Rattle.qz_terms.specs.declared.people.Caller.{Caller}
use Rattle.qz_terms.specs.declared.people.User.{User}
use Rattle.qz_terms.specs.declared.plan.Plan.{Plan}
use Rattle.qz_terms.specs.declared.record.Record.{Record}
use Rattle.qz_terms.specs.declared.reply.Reply.{Reply}
use Rattle.qz_terms.specs.declared.reply.Reply.TheVariants as reply
use Rattle.qz_terms.specs.declared.request.Request.{Request}
use Rattle.qz_terms.specs.declared.request.Request.TheVariants as request
use Rattle.qz_terms.specs.Answer.{answer_here, attempt_named, list_after, named_user}
use Rattle.qz_terms.specs.SchoolAnswer.{after_by, answer_by, first_refusal, plan_for}
use Rattle.qz_terms.specs.Catalog as catalog
use Rattle.qz_terms.specs.Cause.{forbidden, missing_in, missing_quiz, missing_user}
use Rattle.qz_terms.specs.History as history
use Rattle.qz_terms.specs.Legal.{AllAgree, is_here, is_plan_for}
use Rattle.qz_catalog.specs.Holdings.{lean}
use Rattle.qz_catalog.specs.Keeping.{IsPlan}
use Rattle.qz_shard.specs.Answering.{IsAnswered}
use Rattle.qz_shard.specs.Holdings.{Holding, StartsHere, older}
use Rattle.qz_school.specs.Agreement.{is_start}
use Rattle.qz_school.proofs.Callers.{caller-placed}
use Rattle.qz_school.proofs.Floors.{none_older}
use Rattle.qz_school.proofs.Leaning.{leaning_law}
use Rattle.qz_school.proofs.Putting.{known_law}
use Rattle.qz_serial.specs.Calls.{ShardAnswers}
use Rattle.qz_serial.proofs.Answering.{same-answer, same-list}
use Rattle.qz_serial.proofs.Plans.{planned-at, planned-quiz}
use Rattle.qz_school.specs.Planning.{IsPlanned, NamesQuiz, asks_shard, grades, starts}

-- ---- under a plan

same-by : (h : List Record) (now : ℕ) (user : User) (given whole : Plan) (ask : Ask) (b : Bool) → is_start ask.request ≡ b → given ≡ lean b whole → (answer_here h now user given ask ≡ answer_here h now user whole ask) × (list_after h now user given ask ≡ list_after h now user whole ask)
same-by h now user given whole ask true start is = (ap (λ (p : Plan). answer_here h now user p ask) is, ap (λ (p : Plan). list_after h now user p ask) is)
same-by h now user given whole ask false start is =
    (ap (λ (p : Plan). answer_here h now user p ask) is ∙ leaning_law.reply h now user whole ask start, ap (λ (p : Plan). list_after h now user p ask) is ∙ leaning_law.list h now user whole ask start)

same-under : (c : List Record) (s : Holding) (now : ℕ) (user : User) (given : Plan) (ask : Ask) → (p : IsPlanned c s user ask.request given)
    → (answer_here s.records now user given ask ≡ answer_here s.records now user p.whole ask) × (list_after s.records now user given ask ≡ list_after s.records now user p.whole ask)
same-under c s now user given ask p = same-by s.records now user given p.whole ask (is_start ask.request) refl p.given_is

-- what the shard answers under the plan is its answer under the catalogue
pub planned_means : (c : List Record) (s : Holding) (now : ℕ) (user : User) (given : Plan) (ask : Ask) (told : Reply) (g : List Record) → catalog.user_of c ask.caller ≡ Some user → IsPlanned c s user ask.request given
    → IsAnswered s.records now user given ask told g → ShardAnswers c now user ask s.records told g
planned_means c s now user given ask told g found p is =
    let same = same-under c s now user given ask p in (
      is.reply ∙ (same.0 ∙ sym (same-answer c s.records now ask user p.whole found p.free p.plan_is)),
      is.list ∙ (same.1 ∙ sym (same-list c s.records now ask user p.whole found p.free p.plan_is)),
    )

-- ---- the plan of a request

record IsGiven (c : List Record) (q u : ℕ) (b : Bool) (p : Plan) : Type 0 where
  whole : Plan
  told : catalog.plan c q u ≡ Some whole
  given : p ≡ lean b whole
  quiz : p.quiz ≡ q
  at : p.at ≡ length c

lean-quiz : (b : Bool) (p : Plan) → (lean b p).quiz ≡ p.quiz
lean-quiz true p = refl
lean-quiz false p = refl

lean-at : (b : Bool) (p : Plan) → (lean b p).at ≡ p.at
lean-at true p = refl
lean-at false p = refl

given-by : (c : List Record) (q u : ℕ) (b : Bool) (p : Plan) (o : Option Plan) → catalog.plan c q u ≡ o → option_map (lean b) o ≡ Some p → IsGiven c q u b p
given-by c q u b p None is told = absurd cc
given-by c q u b p (Some w) is told =
    let same : lean b w ≡ p = cc in
    record {
      whole = w;
      told = is;
      given = sym same;
      quiz = ap (λ (x : Plan). x.quiz) (sym same) ∙ (lean-quiz b w ∙ planned-quiz c q u w is);
      at = ap (λ (x : Plan). x.at) (sym same) ∙ (lean-at b w ∙ planned-at c q u w is);
    }

first-parts : (o p : Option Refusal) → first_some (o ∷ p ∷ []) ≡ None → (o ≡ None) × (p ≡ None)
first-parts None None none = (refl, refl)
first-parts None (Some r) none = absurd cc
first-parts (Some r) p none = absurd cc

one-alone : (o : Option Refusal) → first_some (o ∷ []) ≡ o
one-alone None = refl
one-alone (Some r) = refl

one-more : (o : Option Refusal) → first_some (o ∷ []) ≡ first_some (o ∷ None ∷ [])
one-more None = refl
one-more (Some r) = refl

-- no worker starts an attempt
not-worker : (user : User) (q : ℕ) (b : Bool) → (user.number == 0) ≡ b → forbidden user (request.Start q) ≡ None → (user.number == 0) ≡ false
not-worker user q true is may = let none : Some (refusal.Forbidden 3) ≡ None = rw is at may in absurd cc
not-worker user q false is may = is

-- so the user of a start is there
start-user : (c : List Record) (who : Caller) (user : User) (q : ℕ) → catalog.user_of c who ≡ Some user → forbidden user (request.Start q) ≡ None → missing_user c user.number ≡ None
start-user c who user q found may = let there = (caller-placed c who user found).1 (not-worker user q (user.number == 0) refl may) in rw there refl

-- that of a start
plans-start : (c : List Record) (s : Holding) (who : Caller) (user : User) (q : ℕ) (p : Plan) → catalog.user_of c who ≡ Some user → forbidden user (request.Start q) ≡ None → is_here s.index s.count user.number ≡ true → AllAgree c s.records
    → IsPlan c q user.number true p → IsPlanned c s user (request.Start q) p
plans-start c s who user q p found may here agree g =
    let given = given-by c q user.number true p (catalog.plan c q user.number) refl g.plan_is in
    let free = first-parts (missing_quiz c q) (missing_user c user.number) g.there in
    record {
      whole = given.whole;
      free = rw (may, free.0) refl;
      plan_is = given.told;
      given_is = given.given;
      of_quiz = eq-eqb p.quiz q given.quiz;
      kept = g.kept;
      here = (here, g.each refl);
      newer = none_older c s.records p (request.Start q) agree given.at;
    }

-- and of a grade
plans-grade : (c : List Record) (s : Holding) (user : User) (q owner : ℕ) (p : Plan) → forbidden user (request.Grade q owner) ≡ None → IsPlan c q owner false p → IsPlanned c s user (request.Grade q owner) p
plans-grade c s user q owner p may g =
    let given = given-by c q owner false p (catalog.plan c q owner) refl g.plan_is in
    record {
      whole = given.whole;
      free = rw (may, g.there) refl;
      plan_is = given.told;
      given_is = given.given;
      of_quiz = eq-eqb p.quiz q given.quiz;
      kept = g.kept;
      here = tt;
      newer = refl;
    }

pub plans_quiz : (c : List Record) (s : Holding) (who : Caller) (user : User) (x : Request) (q owner : ℕ) (whole : Bool) (p : Plan) → catalog.user_of c who ≡ Some user → forbidden user x ≡ None → NamesQuiz user x q owner whole
    → is_here s.index s.count owner ≡ true → AllAgree c s.records → IsPlan c q owner whole p → IsPlanned c s user x p
plans_quiz c s who user x q owner whole p found may (starts is own all) here agree g =
    let given : IsPlan c q user.number true p = subst (λ (n : ℕ). IsPlan c q n true p) own (subst (λ (b : Bool). IsPlan c q owner b p) all g) in
    subst (λ (y : Request). IsPlanned c s user y p) (sym is) (plans-start c s who user q p found (subst (λ (y : Request). forbidden user y ≡ None) is may) (subst (λ (n : ℕ). is_here s.index s.count n ≡ true) own here) agree given)
plans_quiz c s who user x q owner whole p found may (grades is lean_one) here agree g =
    let given : IsPlan c q owner false p = subst (λ (b : Bool). IsPlan c q owner b p) lean_one g in
    subst (λ (y : Request). IsPlanned c s user y p) (sym is) (plans-grade c s user q owner p (subst (λ (y : Request). forbidden user y ≡ None) is may) given)

-- a quiz or a user that isn't there
pub refused_quiz : (c : List Record) (who : Caller) (user : User) (x : Request) (q owner : ℕ) (whole : Bool) (r : Refusal) → catalog.user_of c who ≡ Some user → forbidden user x ≡ None → NamesQuiz user x q owner whole
    → first_some (missing_quiz c q ∷ missing_user c owner ∷ []) ≡ Some r → first_refusal c user x ≡ Some r
refused_quiz c who user x q owner whole r found may (starts is own all) first =
    let allowed : forbidden user (request.Start q) ≡ None = subst (λ (y : Request). forbidden user y ≡ None) is may in
    let missing : first_some (missing_quiz c q ∷ None ∷ []) ≡ Some r = rw (own, start-user c who user q found allowed) at first in
    rw (is, allowed) (one-more (missing_quiz c q) ∙ missing)
refused_quiz c who user x q owner whole r found may (grades is lean_one) first =
    let allowed : forbidden user (request.Grade q owner) ≡ None = subst (λ (y : Request). forbidden user y ≡ None) is may in
    rw (is, allowed) (one-alone (missing_in c (request.Grade q owner)) ∙ first)

-- it goes to the shard of the user whose plan it is
pub quiz_kind : (user : User) (x : Request) (q owner : ℕ) (whole : Bool) → NamesQuiz user x q owner whole → (asks_shard x ≡ true) × (named_user user x ≡ owner)
quiz_kind user x q owner whole (starts is own all) = (rw is refl, rw is (sym own))
quiz_kind user x q owner whole (grades is lean_one) = (rw is refl, rw is refl)

-- ---- of a request that names an attempt

record IsNamed (c : List Record) (s : Holding) (user : User) (x : Request) (a : AttemptId) : Type 0 where
  planned : plan_for c s.records user x ≡ option_and_then (λ q. catalog.plan c q a.user) (history.quiz s.records a)
  there : missing_in c x ≡ None
  start : is_start x ≡ false
  meant : (p : Plan) (q : ℕ) → history.quiz s.records a ≡ Some q → p.quiz ≡ q → is_plan_for s.records p x ≡ true
  here : (p : Plan) → StartsHere s user p x
  newer : (p : Plan) → older s.records p x ≡ None

meant-by : (h : List Record) (a : AttemptId) (p : Plan) (q : ℕ) (x : Request) → (is_plan_for h p x ≡ unwrap_or (option_map (λ n. p.quiz == n) (history.quiz h a)) true) → history.quiz h a ≡ Some q → p.quiz ≡ q → is_plan_for h p x ≡ true
meant-by h a p q x is of_quiz same = is ∙ rw of_quiz (eq-eqb p.quiz q same)

named-by : (c : List Record) (s : Holding) (user : User) (x : Request) (a : AttemptId) → attempt_named x ≡ Some a → IsNamed c s user x a
named-by c s user (request.Save b k certainty response) a is = let same : b ≡ a = cc in subst (IsNamed c s user (request.Save b k certainty response)) same (record { planned = refl; there = refl; start = refl; meant = λ p q of_quiz is. meant-by s.records b p q (request.Save b k certainty response) refl of_quiz is; here = λ p. tt; newer = λ p. refl })
named-by c s user (request.Submit b k certainty response) a is = let same : b ≡ a = cc in subst (IsNamed c s user (request.Submit b k certainty response)) same (record { planned = refl; there = refl; start = refl; meant = λ p q of_quiz is. meant-by s.records b p q (request.Submit b k certainty response) refl of_quiz is; here = λ p. tt; newer = λ p. refl })
named-by c s user (request.Again b k) a is = let same : b ≡ a = cc in subst (IsNamed c s user (request.Again b k)) same (record { planned = refl; there = refl; start = refl; meant = λ p q of_quiz is. meant-by s.records b p q (request.Again b k) refl of_quiz is; here = λ p. tt; newer = λ p. refl })
named-by c s user (request.Finish b) a is = let same : b ≡ a = cc in subst (IsNamed c s user (request.Finish b)) same (record { planned = refl; there = refl; start = refl; meant = λ p q of_quiz is. meant-by s.records b p q (request.Finish b) refl of_quiz is; here = λ p. tt; newer = λ p. refl })
named-by c s user (request.Mark b k mark) a is = let same : b ≡ a = cc in subst (IsNamed c s user (request.Mark b k mark)) same (record { planned = refl; there = refl; start = refl; meant = λ p q of_quiz is. meant-by s.records b p q (request.Mark b k mark) refl of_quiz is; here = λ p. tt; newer = λ p. refl })
named-by c s user (request.Settle b) a is = let same : b ≡ a = cc in subst (IsNamed c s user (request.Settle b)) same (record { planned = refl; there = refl; start = refl; meant = λ p q of_quiz is. meant-by s.records b p q (request.Settle b) refl of_quiz is; here = λ p. tt; newer = λ p. refl })
named-by c s user (request.View b k) a is = let same : b ≡ a = cc in subst (IsNamed c s user (request.View b k)) same (record { planned = refl; there = refl; start = refl; meant = λ p q of_quiz is. meant-by s.records b p q (request.View b k) refl of_quiz is; here = λ p. tt; newer = λ p. refl })
named-by c s user (request.Total b) a is = let same : b ≡ a = cc in subst (IsNamed c s user (request.Total b)) same (record { planned = refl; there = refl; start = refl; meant = λ p q of_quiz is. meant-by s.records b p q (request.Total b) refl of_quiz is; here = λ p. tt; newer = λ p. refl })
named-by c s user (request.Page b) a is = let same : b ≡ a = cc in subst (IsNamed c s user (request.Page b)) same (record { planned = refl; there = refl; start = refl; meant = λ p q of_quiz is. meant-by s.records b p q (request.Page b) refl of_quiz is; here = λ p. tt; newer = λ p. refl })
named-by c s user x a is = absurd cc

no-first : (c h : List Record) (a : AttemptId) (q : ℕ) (r : Refusal) → AllAgree c h → history.quiz h a ≡ Some q → first_some (missing_quiz c q ∷ missing_user c a.user ∷ []) ≡ Some r → ⊥
no-first c h a q r agree of_quiz first =
    let quiz = there-none (at_place (catalog.quizzes c) q) (known_law.quiz c h a q agree of_quiz) in
    let user = there-none (at_place (catalog.users c) a.user) (known_law.user c h a q agree of_quiz) in
    let none : None ≡ Some r = rw (quiz, user) at first in
    absurd cc
  where
    there-none : {A : Type 0} (o : Option A) → is_some o ≡ true → is_none o ≡ false
    there-none None some = absurd cc
    there-none (Some x) some = refl

-- the quiz and the user of an attempt are there
first-none : (c h : List Record) (a : AttemptId) (q : ℕ) (o : Option Refusal) → AllAgree c h → history.quiz h a ≡ Some q → first_some (missing_quiz c q ∷ missing_user c a.user ∷ []) ≡ o → o ≡ None
first-none c h a q None agree of_quiz first = refl
first-none c h a q (Some r) agree of_quiz first = absurd (no-first c h a q r agree of_quiz first)

pub plan_there : (c h : List Record) (a : AttemptId) (q : ℕ) → AllAgree c h → history.quiz h a ≡ Some q → first_some (missing_quiz c q ∷ missing_user c a.user ∷ []) ≡ None
plan_there c h a q agree of_quiz = first-none c h a q (first_some (missing_quiz c q ∷ missing_user c a.user ∷ [])) agree of_quiz refl

pub plans_named : (c : List Record) (s : Holding) (user : User) (x : Request) (a : AttemptId) (q : ℕ) (p : Plan) → forbidden user x ≡ None → attempt_named x ≡ Some a → history.quiz s.records a ≡ Some q
    → IsPlan c q a.user false p → IsPlanned c s user x p
plans_named c s user x a q p may named of_quiz g =
    let n = named-by c s user x a named in
    let given = given-by c q a.user false p (catalog.plan c q a.user) refl g.plan_is in
    record {
      whole = given.whole;
      free = rw (may, n.there) refl;
      plan_is = n.planned ∙ rw of_quiz given.told;
      given_is = rw n.start given.given;
      of_quiz = n.meant p q of_quiz given.quiz;
      kept = g.kept;
      here = n.here p;
      newer = n.newer p;
    }

-- ---- an attempt that isn't there

no-plan-answer : (c h : List Record) (now : ℕ) (user : User) (ask : Ask) (x : Request) (a : AttemptId) → attempt_named x ≡ Some a → plan_for c h user ask.request ≡ None → answer_by c h now user ask x ≡ reply.Refused (refusal.Unknown thing.Attempt)
no-plan-answer c h now user ask (request.Save b k certainty response) a named none = rw none refl
no-plan-answer c h now user ask (request.Submit b k certainty response) a named none = rw none refl
no-plan-answer c h now user ask (request.Again b k) a named none = rw none refl
no-plan-answer c h now user ask (request.Finish b) a named none = rw none refl
no-plan-answer c h now user ask (request.Mark b k mark) a named none = rw none refl
no-plan-answer c h now user ask (request.Settle b) a named none = rw none refl
no-plan-answer c h now user ask (request.View b k) a named none = rw none refl
no-plan-answer c h now user ask (request.Total b) a named none = rw none refl
no-plan-answer c h now user ask (request.Page b) a named none = rw none refl
no-plan-answer c h now user ask x a named none = absurd cc

no-plan-list : (c h : List Record) (now : ℕ) (user : User) (ask : Ask) (x : Request) (a : AttemptId) → attempt_named x ≡ Some a → plan_for c h user ask.request ≡ None → after_by c h now user ask x ≡ h
no-plan-list c h now user ask (request.Save b k certainty response) a named none = rw none refl
no-plan-list c h now user ask (request.Submit b k certainty response) a named none = rw none refl
no-plan-list c h now user ask (request.Again b k) a named none = rw none refl
no-plan-list c h now user ask (request.Finish b) a named none = rw none refl
no-plan-list c h now user ask (request.Mark b k mark) a named none = rw none refl
no-plan-list c h now user ask (request.Settle b) a named none = rw none refl
no-plan-list c h now user ask (request.View b k) a named none = rw none refl
no-plan-list c h now user ask (request.Total b) a named none = rw none refl
no-plan-list c h now user ask (request.Page b) a named none = rw none refl
no-plan-list c h now user ask x a named none = absurd cc

pub absent_means : (c : List Record) (s : Holding) (now : ℕ) (user : User) (ask : Ask) (a : AttemptId) → forbidden user ask.request ≡ None → attempt_named ask.request ≡ Some a → history.quiz s.records a ≡ None
    → ShardAnswers c now user ask s.records (reply.Refused (refusal.Unknown thing.Attempt)) s.records
absent_means c s now user ask a may named none =
    let n = named-by c s user ask.request a named in
    let free : first_refusal c user ask.request ≡ None = rw (may, n.there) refl in
    let planless : plan_for c s.records user ask.request ≡ None = n.planned ∙ rw none refl in
    (sym (rw free (no-plan-answer c s.records now user ask ask.request a named planless)), sym (rw free (no-plan-list c s.records now user ask ask.request a named planless)))

-- it goes to the shard of the attempt's user
pub named_kind : (user : User) (x : Request) (a : AttemptId) → attempt_named x ≡ Some a → (asks_shard x ≡ true) × (named_user user x ≡ a.user)
named_kind user (request.Save b k certainty response) a is = let same : b ≡ a = cc in (refl, ap (λ (y : AttemptId). y.user) same)
named_kind user (request.Submit b k certainty response) a is = let same : b ≡ a = cc in (refl, ap (λ (y : AttemptId). y.user) same)
named_kind user (request.Again b k) a is = let same : b ≡ a = cc in (refl, ap (λ (y : AttemptId). y.user) same)
named_kind user (request.Finish b) a is = let same : b ≡ a = cc in (refl, ap (λ (y : AttemptId). y.user) same)
named_kind user (request.Mark b k mark) a is = let same : b ≡ a = cc in (refl, ap (λ (y : AttemptId). y.user) same)
named_kind user (request.Settle b) a is = let same : b ≡ a = cc in (refl, ap (λ (y : AttemptId). y.user) same)
named_kind user (request.View b k) a is = let same : b ≡ a = cc in (refl, ap (λ (y : AttemptId). y.user) same)
named_kind user (request.Total b) a is = let same : b ≡ a = cc in (refl, ap (λ (y : AttemptId). y.user) same)
named_kind user (request.Page b) a is = let same : b ≡ a = cc in (refl, ap (λ (y : AttemptId). y.user) same)
named_kind user x a is = absurd cc

pub named_free : (c : List Record) (s : Holding) (user : User) (x : Request) (a : AttemptId) → forbidden user x ≡ None → attempt_named x ≡ Some a → first_refusal c user x ≡ None
named_free c s user x a may named = let n = named-by c s user x a named in rw (may, n.there) refl

pub either_quiz : (c : List Record) (who : Caller) (user : User) (x : Request) (q owner : ℕ) (whole : Bool) (r : Refusal) → catalog.user_of c who ≡ Some user → forbidden user x ≡ None → NamesQuiz user x q owner whole
    → (r ≡ refusal.Memory) ⊎ (first_some (missing_quiz c q ∷ missing_user c owner ∷ []) ≡ Some r) → (r ≡ refusal.Memory) ⊎ (first_refusal c user x ≡ Some r)
either_quiz c who user x q owner whole r found may names (inl memory) = inl memory
either_quiz c who user x q owner whole r found may names (inr first) = inr (refused_quiz c who user x q owner whole r found may names first)

pub quiz_free : (c : List Record) (who : Caller) (user : User) (x : Request) (q owner : ℕ) (whole : Bool) → catalog.user_of c who ≡ Some user → forbidden user x ≡ None → NamesQuiz user x q owner whole
    → first_some (missing_quiz c q ∷ missing_user c owner ∷ []) ≡ None → first_refusal c user x ≡ None
quiz_free c who user x q owner whole found may (starts is own all) there =
    let allowed : forbidden user (request.Start q) ≡ None = subst (λ (y : Request). forbidden user y ≡ None) is may in
    let free = first-parts (missing_quiz c q) (missing_user c owner) there in
    rw (is, allowed, free.0) refl
quiz_free c who user x q owner whole found may (grades is lean_one) there =
    let allowed : forbidden user (request.Grade q owner) ≡ None = subst (λ (y : Request). forbidden user y ≡ None) is may in
    rw (is, allowed, there) refl
