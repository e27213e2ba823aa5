-- What is bound to a slot of an attempt was bound by a plan of the attempt's quiz that has this slot.
use Rattle.std.proofs.Common.{◌≡◌, ℕ, ◌-◌, Bool, true, false, ◌&&◌, List, [], ◌∷◌, ◌++◌, Option, Some, None, map, option_map, take, refl, sym, ap, subst, ◌∙◌, append_assoc}
use Rattle.std.specs.Option.{option_or}
use Rattle.std.specs.Prelude.{◌==◌, if◌then◌else◌, is_some, slice_get}
use Rattle.std.proofs.lemmas.Bool.{eqb-true}
use Rattle.std.proofs.lemmas.Option.{slice_get-map}
use Rattle.qz_grading.specs.declared.outcome.Behaviour.{Behaviour}
use Rattle.qz_grading.specs.declared.refusal.AttemptId.{AttemptId}
use Rattle.qz_grading.specs.Grading.{at_place}
use Rattle.qz_lemmas.proofs.Options.{same-some}
use Rattle.qz_terms.specs.declared.plan.Bound.{Bound}
use Rattle.qz_terms.specs.declared.plan.Planned.{Planned}
use Rattle.qz_terms.specs.declared.record.Event.{Event}
use Rattle.qz_terms.specs.declared.record.Event.TheVariants as event
use Rattle.qz_terms.specs.declared.record.Learned.{Learned}
use Rattle.qz_terms.specs.declared.record.Record.{Record}
use Rattle.qz_terms.specs.Answer.{bind}
use Rattle.qz_terms.specs.Catalog as catalog
use Rattle.qz_terms.specs.History.{Start, same_attempt}
use Rattle.qz_terms.specs.History as history
use Rattle.qz_terms.specs.Legal.{AllAgree, EventAgrees, EventIsAllowed, IsLegal, RebindAgrees, StartAgrees, StartIsAllowed}
use Rattle.qz_terms.proofs.Walks.{last_told_in}
use Rattle.qz_serial.proofs.Growing.{quiz-append}
use Rattle.qz_lives.proofs.Effects.{attempt_of, begins-first, one-attempt}
use Rattle.qz_lives.proofs.Legality.{legal-before, started-number}
use Rattle.qz_book.proofs.Placing.{start-more}
use Rattle.qz_book.proofs.TargetLemmas.{self-same}
use Rattle.qz_job_slots.proofs.Plans.{has_slot, job-plan, plan-of}

-- ---- the quiz of an attempt

-- an attempt has the quiz of its start
started-quiz : (index count : ℕ) (l : List Record) (r : Record) (rest : List Record) (q n : ℕ) (m : Behaviour) (bs : List Bound) (ls : List Learned) → IsLegal index count (l ++ r ∷ rest) → r.event ≡ event.Started q n m bs ls
    → history.quiz (l ++ r ∷ rest) (attempt_of r.owner n) ≡ Some q
started-quiz index count l r rest q n m bs ls legal is =
    let a = attempt_of r.owner n in
    let s : Start = record { attempt = a; moment = r.moment; quiz = q; behaviour = m; bounds = bs } in
    let allowed : StartIsAllowed l r q bs ls = subst (EventIsAllowed l r) is (legal.each l r rest refl).event in
    let first : history.start l a ≡ None = begins-first index count l r.owner n (history.start l a) (legal-before index count l (r ∷ rest) legal) (started-number l r q n m bs ls is allowed.is_put) refl in
    let starts_it : history.starts a r ≡ Some s = rw (is, self-same a) refl in
    let begun : history.start (l ++ r ∷ []) a ≡ Some s = start-more l r a (Some s) starts_it ∙ ap (λ (o : Option Start). option_or o (Some s)) first in
    let here : history.quiz ((l ++ r ∷ []) ++ rest) a ≡ Some q = quiz-append (l ++ r ∷ []) rest a q (history.start (l ++ r ∷ []) a) refl (ap (option_map (λ (t : Start). t.quiz)) begun) in
    subst (λ (h : List Record). history.quiz h a ≡ Some q) (append_assoc l (r ∷ []) rest) here

-- ---- a slot of which something was bound

-- the planned slot that was bound is there, and where the bound says
record IsBoundAt (n : ℕ) (ss : List Planned) (k : ℕ) (b : Bound) : Type 0 where
  there : is_some (at_place ss k) ≡ true
  position : b.at ≡ n

bound-of : (n : ℕ) (o : Option Planned) (b : Bound) → option_map (bind n) o ≡ Some b → (is_some o ≡ true) × (b.at ≡ n)
bound-of n None b is = absurd cc
bound-of n (Some s) b is = let same : bind n s ≡ b = cc in (refl, ap (λ (d : Bound). d.at) (sym same))

bound-by : (n : ℕ) (ss : List Planned) (k : ℕ) (b : Bound) (zero_is : Bool) → (k == 0) ≡ zero_is → at_place (map (bind n) ss) k ≡ Some b → IsBoundAt n ss k b
bound-by n ss k b true is at = let none : None ≡ Some b = rw is at at in absurd cc
bound-by n ss k b false is at =
    let found : slice_get (map (bind n) ss) (k - 1) ≡ Some b = rw is at at in
    let t = bound-of n (slice_get ss (k - 1)) b (sym (slice_get-map (bind n) ss (k - 1)) ∙ found) in
    record { there = rw is t.0; position = t.1 }

module _ (c : List Record) (index count : ℕ) (l : List Record) (r : Record) (rest : List Record) (legal : IsLegal index count (l ++ r ∷ rest)) (a : AttemptId) (k q : ℕ) (b : Bound) (of_quiz : history.quiz (l ++ r ∷ rest) a ≡ Some q) where
  -- by a start
  start-slot : (quiz n : ℕ) (m : Behaviour) (bs : List Bound) (ls : List Learned) (same : Bool) → r.event ≡ event.Started quiz n m bs ls → StartAgrees c r quiz m bs ls → same_attempt a (attempt_of r.owner n) ≡ same → (if same then at_place bs k else None) ≡ Some b
      → has_slot (take b.at c) q k ≡ true
  start-slot quiz n m bs ls true is agrees own told =
      let t = agrees.its_terms in
      let one = one-attempt a (attempt_of r.owner n) own in
      let quiz_is : q ≡ quiz = same-some (history.quiz (l ++ r ∷ rest) a) q quiz of_quiz (ap (history.quiz (l ++ r ∷ rest)) one ∙ started-quiz index count l r rest quiz n m bs ls legal is) in
      let planned = (plan-of (catalog.settings (take t.terms.at c) quiz r.owner) (take t.terms.at c) quiz t.plan t.plan_is).slots_are in
      let bound = bound-by t.terms.at t.plan.slots k b (k == 0) refl (ap (λ (xs : List Bound). at_place xs k) (sym agrees.bounds_are) ∙ told) in
      rw (bound.position, quiz_is) (ap (λ (ss : List Planned). is_some (at_place ss k)) (sym planned) ∙ bound.there)
  start-slot quiz n m bs ls false is agrees own told = absurd cc

  -- by a job
  rebind-slot : (job : ℕ) (d : AttemptId) (slot : ℕ) (x : Bound) (ls : List Learned) (same here : Bool) → RebindAgrees c l job d slot x ls → same_attempt a d ≡ same → (k == slot) ≡ here → (if same && here then Some x else None) ≡ Some b
      → has_slot (take b.at c) q k ≡ true
  rebind-slot job d slot x ls true true agrees own place told =
      let one : a ≡ d = one-attempt a d own in
      let slot_is : k ≡ slot = eqb-true k slot place in
      let bound : x ≡ b = cc in
      let it = agrees.its_job in
      let later : history.quiz (l ++ r ∷ rest) d ≡ Some agrees.quiz = quiz-append l (r ∷ rest) d agrees.quiz (history.start l d) refl agrees.of_quiz in
      let quiz_is : q ≡ it.job.plan.quiz = same-some (history.quiz (l ++ r ∷ rest) a) q agrees.quiz of_quiz (ap (history.quiz (l ++ r ∷ rest)) one ∙ later) ∙ sym it.quiz in
      let planned = (job-plan c job it.job it.job_is).slots_are in
      let position : b.at ≡ it.job.position = ap (λ (y : Bound). y.at) (sym bound) ∙ sym it.position_is in
      let there = (bound-of x.at (at_place it.job.plan.slots slot) x agrees.bound_is).0 in
      rw (position, quiz_is, slot_is) (ap (λ (ss : List Planned). is_some (at_place ss slot)) (sym planned) ∙ there)
  rebind-slot job d slot x ls true false agrees own place told = absurd cc
  rebind-slot job d slot x ls false here agrees own place told = absurd cc

  event-slot : (e : Event) → r.event ≡ e → EventAgrees c l r e → history.binds_by a k r e ≡ Some b → has_slot (take b.at c) q k ≡ true
  event-slot (event.Started quiz n m bs ls) is agrees told = start-slot quiz n m bs ls (same_attempt a (attempt_of r.owner n)) is agrees refl told
  event-slot (event.Rebound job d slot x ls) is agrees told = rebind-slot job d slot x ls (same_attempt a d) (k == slot) agrees refl refl told
  event-slot e is agrees told = absurd cc

-- over the records up to the position that the bound tells
pub bound-slot : (c h : List Record) (index count : ℕ) (a : AttemptId) (k q : ℕ) (b : Bound) → IsLegal index count h → AllAgree c h → history.quiz h a ≡ Some q → history.bound h a k ≡ Some b → has_slot (take b.at c) q k ≡ true
bound-slot c h index count a k q b legal all of_quiz bound =
    let t = last_told_in (history.binds a k) h b bound in
    event-slot c index count t.front t.item t.rest (subst (IsLegal index count) t.stands legal) a k q b (subst (λ (g : List Record). history.quiz g a ≡ Some q) t.stands of_quiz) t.item.event refl (all.each t.front t.item t.rest t.stands).event t.tells
