-- What comes of a list of steps with one more at its end, behaviour by behaviour.
use Rattle.std.proofs.Common.{◌≡◌, Bool, true, false, not, ◌||◌, List, [], ◌∷◌, ◌++◌, Option, Some, None, refl, ap, ◌∙◌}
use Rattle.std.specs.Prelude.{if◌then◌else◌, find, is_some, unwrap_or, option_map}
use Rattle.qz_grading.specs.declared.outcome.Behaviour.{Behaviour}
use Rattle.qz_grading.specs.declared.outcome.Behaviour.TheVariants as behaviour
use Rattle.qz_grading.specs.declared.outcome.Outcome.{Outcome}
use Rattle.qz_grading.specs.declared.outcome.State.TheVariants as state
use Rattle.qz_grading.specs.declared.question.Question.{Question}
use Rattle.qz_grading.specs.declared.response.Response.{Response}
use Rattle.qz_grading.specs.declared.response.Step.{Step}
use Rattle.qz_grading.specs.declared.response.Step.TheVariants as step
use Rattle.qz_grading.specs.Steps.{is_finish, has_finish, last, response_of, submitted}
use Rattle.qz_grading.specs.Behaviours.{Standing, complete_under, handed_in, first_handed_in, ends_incomplete, by_grade, at_finish, immediate, standing, has_ended, outcome}
use Rattle.qz_grading.proofs.StepLemmas.{or-true, has_finish-push, has_finish-finished, has_finish-closed, last-finished, last-closed, last-answered, last-passed, handed_in-closed, handed_in-finished, handed_in-passed, handed_in-complete, handed_in-incomplete, ends_in_submit-push}
use Rattle.qz_behave.specs.Machines.{is_played}
use Rattle.qz_behave.specs.Following.{is_deferred, grades_first, going_on, ended_with}

pub or-left : (a b : Bool) → (a || b) ≡ false → a ≡ false
or-left false b none = refl
or-left true b none = absurd cc

pub or-right : (a b : Bool) → (a || b) ≡ false → b ≡ false
or-right false b none = none
or-right true b none = absurd cc

-- ---- an ended slot stays as it is

-- a list of complete Submits that is empty has no first
first-none : (rs : List Response) → is_some (find (λ r. true) rs) ≡ false → rs ≡ []
first-none [] none = refl
first-none (r ∷ rs) none = absurd cc

first-append : (rs ts : List Response) → is_some (find (λ r. true) rs) ≡ true → find (λ r. true) (rs ++ ts) ≡ find (λ r. true) rs
first-append [] ts some = absurd cc
first-append (r ∷ rs) ts some = refl

first-chosen : (o : Option Response) (f : Response → Standing) (c d : Standing) → is_some o ≡ true → unwrap_or (option_map f o) c ≡ unwrap_or (option_map f o) d
first-chosen None f c d some = absurd cc
first-chosen (Some r) f c d some = refl

-- a standing, and whether the slot ended
abbrev unnumbered : Standing → Bool → Outcome
unnumbered p e = record { state = p.0; fraction = p.1; ended = e; needs_again = false; tries = 0 }

same_outcome : (p r : Standing) (e f : Bool) → p ≡ r → e ≡ f → unnumbered p e ≡ unnumbered r f
same_outcome p r e f standing end = rw (standing, end) refl

module _ (q : Question) (s : List Step) (x : Step) where
  outcome-closed : (b : Behaviour) → is_played b ≡ true → has_finish s ≡ true → outcome b q (s ++ x ∷ []) ≡ outcome b q s
  outcome-closed behaviour.Deferred played closed = rw (has_finish-closed s x closed, closed, last-closed s x closed) refl
  outcome-closed behaviour.DeferredCbm played closed = rw (has_finish-closed s x closed, closed, last-closed s x closed) refl
  outcome-closed behaviour.Immediate played closed = rw (handed_in-closed behaviour.Immediate q s x closed, has_finish-closed s x closed, closed, last-closed s x closed) refl
  outcome-closed behaviour.ImmediateCbm played closed = rw (handed_in-closed behaviour.ImmediateCbm q s x closed, has_finish-closed s x closed, closed, last-closed s x closed) refl
  outcome-closed behaviour.Manual played closed = rw (has_finish-closed s x closed, closed, last-closed s x closed) refl
  outcome-closed behaviour.Information played closed = rw (has_finish-closed s x closed, closed) refl
  outcome-closed b played closed = absurd cc

  first-complete : (b : Behaviour) (r : Response) (c : Bool) → complete_under b q r ≡ c → has_finish s ≡ false → is_some (first_handed_in b q s) ≡ true
      → first_handed_in b q (s ++ step.Submit r ∷ []) ≡ first_handed_in b q s
  first-complete b r true complete none some = ap (find (λ r. true)) (handed_in-complete b q s r none complete) ∙ first-append (handed_in b q s) (r ∷ []) some
  first-complete b r false incomplete none some = ap (find (λ r. true)) (handed_in-incomplete b q s r none incomplete)

first-kept : (b : Behaviour) (q : Question) (s : List Step) (x : Step) → has_finish s ≡ false → is_some (first_handed_in b q s) ≡ true
    → first_handed_in b q (s ++ x ∷ []) ≡ first_handed_in b q s
first-kept b q s (step.Submit r) none some = first-complete q s (step.Submit r) b r (complete_under b q r) refl none some
first-kept b q s step.Finish none some = ap (find (λ r. true)) (handed_in-finished b q s)
first-kept b q s (step.Save r) none some = ap (find (λ r. true)) (handed_in-passed b q s (step.Save r) none refl refl)
first-kept b q s step.Again none some = ap (find (λ r. true)) (handed_in-passed b q s step.Again none refl refl)
first-kept b q s (step.Mark m max) none some = ap (find (λ r. true)) (handed_in-passed b q s (step.Mark m max) none refl refl)

module _ (q : Question) (s : List Step) (x : Step) (none : has_finish s ≡ false) where
  immediate-kept : (b : Behaviour) → is_some (first_handed_in b q s) ≡ true → immediate b q (s ++ x ∷ []) ≡ immediate b q s
  immediate-kept b some = rw (first-kept b q s x none some) (first-chosen (first_handed_in b q s) (by_grade b q) _ _ some)

  ended_still : (b : Behaviour) → is_some (first_handed_in b q s) ≡ true → (has_finish (s ++ x ∷ []) || is_some (first_handed_in b q (s ++ x ∷ []))) ≡ (has_finish s || is_some (first_handed_in b q s))
  ended_still b some = rw (first-kept b q s x none some, some, none) (or-true (has_finish (s ++ x ∷ [])))

  immediate-ended : (b : Behaviour) → grades_first b ≡ true → is_some (first_handed_in b q s) ≡ true → outcome b q (s ++ x ∷ []) ≡ outcome b q s
  immediate-ended behaviour.Immediate first some = same_outcome _ _ _ _ (immediate-kept behaviour.Immediate some) (ended_still behaviour.Immediate some)
  immediate-ended behaviour.ImmediateCbm first some = same_outcome _ _ _ _ (immediate-kept behaviour.ImmediateCbm some) (ended_still behaviour.ImmediateCbm some)
  immediate-ended b first some = absurd cc

-- by cases on a Finish among the steps
ended-split : (b : Behaviour) (q : Question) (s : List Step) (x : Step) (f : Bool) → has_finish s ≡ f → is_played b ≡ true → has_ended b q s ≡ true → outcome b q (s ++ x ∷ []) ≡ outcome b q s
ended-split b q s x true closed played ended = outcome-closed q s x b played closed
ended-split behaviour.Immediate q s x false none played ended = immediate-ended q s x none behaviour.Immediate refl (rw none at ended)
ended-split behaviour.ImmediateCbm q s x false none played ended = immediate-ended q s x none behaviour.ImmediateCbm refl (rw none at ended)
ended-split behaviour.Deferred q s x false none played ended = let h = rw none at ended in absurd cc
ended-split behaviour.DeferredCbm q s x false none played ended = let h = rw none at ended in absurd cc
ended-split behaviour.Manual q s x false none played ended = let h = rw none at ended in absurd cc
ended-split behaviour.Information q s x false none played ended = let h = rw none at ended in absurd cc
ended-split b q s x false none played ended = absurd cc

-- nothing comes of a step after the end
pub outcome-ended : (b : Behaviour) (q : Question) (s : List Step) (x : Step) → is_played b ≡ true → has_ended b q s ≡ true → outcome b q (s ++ x ∷ []) ≡ outcome b q s
outcome-ended b q s x played ended = ended-split b q s x (has_finish s) refl played ended

-- ---- deferred feedback, before a Finish

module _ (q : Question) (s : List Step) (none : has_finish s ≡ false) where
  pub deferred-answered : (b : Behaviour) (x : Step) (r : Response) → is_deferred b ≡ true → is_finish x ≡ false → response_of x ≡ Some r
      → outcome b q (s ++ x ∷ []) ≡ going_on (if complete_under b q r then state.Complete else state.Todo)
  deferred-answered behaviour.Deferred x r is_one other is = rw (has_finish-push s x other, none, last-answered s x none other r is) refl
  deferred-answered behaviour.DeferredCbm x r is_one other is = rw (has_finish-push s x other, none, last-answered s x none other r is) refl
  deferred-answered b x r is_one other is = absurd cc

  pub deferred-passed : (b : Behaviour) (x : Step) → is_deferred b ≡ true → is_finish x ≡ false → response_of x ≡ None → outcome b q (s ++ x ∷ []) ≡ outcome b q s
  deferred-passed behaviour.Deferred x is_one other is = rw (has_finish-push s x other, none, last-passed s x none other is) refl
  deferred-passed behaviour.DeferredCbm x is_one other is = rw (has_finish-push s x other, none, last-passed s x none other is) refl
  deferred-passed b x is_one other is = absurd cc

pub deferred-finished : (b : Behaviour) (q : Question) (s : List Step) → is_deferred b ≡ true → outcome b q (s ++ step.Finish ∷ []) ≡ ended_with (at_finish b q s)
deferred-finished behaviour.Deferred q s is_one = rw (has_finish-finished s, last-finished s) refl
deferred-finished behaviour.DeferredCbm q s is_one = rw (has_finish-finished s, last-finished s) refl
deferred-finished b q s is_one = absurd cc

-- ---- a teacher's marking

module _ (q : Question) (s : List Step) (none : has_finish s ≡ false) where
  pub manual-answered : (x : Step) (r : Response) → is_finish x ≡ false → response_of x ≡ Some r
      → outcome behaviour.Manual q (s ++ x ∷ []) ≡ going_on (if complete_under behaviour.Manual q r then state.Complete else state.Todo)
  manual-answered x r other is = rw (has_finish-push s x other, none, last-answered s x none other r is) refl

  pub manual-passed : (x : Step) → is_finish x ≡ false → response_of x ≡ None → outcome behaviour.Manual q (s ++ x ∷ []) ≡ outcome behaviour.Manual q s
  manual-passed x other is = rw (has_finish-push s x other, none, last-passed s x none other is) refl

pub manual-finished : (q : Question) (s : List Step)
    → outcome behaviour.Manual q (s ++ step.Finish ∷ []) ≡ ended_with (if complete_under behaviour.Manual q (last s) then state.NeedsGrading else state.GaveUp, None)
manual-finished q s = rw (has_finish-finished s, last-finished s) refl

-- ---- immediate feedback, before a Finish and a complete Submit

outcome-immediate : (b : Behaviour) (q : Question) (s : List Step) → grades_first b ≡ true → outcome b q s ≡ unnumbered (immediate b q s) (has_finish s || is_some (first_handed_in b q s))
outcome-immediate behaviour.Immediate q s first = refl
outcome-immediate behaviour.ImmediateCbm q s first = refl
outcome-immediate b q s first = absurd cc

module _ (b : Behaviour) (q : Question) (s : List Step) (first : grades_first b ≡ true) (none : has_finish s ≡ false) (unanswered : is_some (first_handed_in b q s) ≡ false) where
  no_more : handed_in b q s ≡ []
  no_more = first-none (handed_in b q s) unanswered

  pub immediate-complete : (r : Response) → complete_under b q r ≡ true → outcome b q (s ++ step.Submit r ∷ []) ≡ ended_with (by_grade b q r)
  immediate-complete r complete =
      let one : handed_in b q (s ++ step.Submit r ∷ []) ≡ r ∷ [] = handed_in-complete b q s r none complete ∙ ap (λ (rs : List Response). rs ++ r ∷ []) no_more in
      outcome-immediate b q (s ++ step.Submit r ∷ []) first
      ∙ same_outcome _ (by_grade b q r) _ true (rw one refl) (rw one (or-true (has_finish (s ++ step.Submit r ∷ []))))

  pub immediate-incomplete : (r : Response) → complete_under b q r ≡ false → outcome b q (s ++ step.Submit r ∷ []) ≡ going_on state.Invalid
  immediate-incomplete r incomplete =
      let no_one : handed_in b q (s ++ step.Submit r ∷ []) ≡ [] = handed_in-incomplete b q s r none incomplete ∙ no_more in
      let open_still : has_finish (s ++ step.Submit r ∷ []) ≡ false = has_finish-push s (step.Submit r) refl ∙ none in
      let bad : ends_incomplete b q (s ++ step.Submit r ∷ []) ≡ true = ends_in_submit-push (λ t. not (complete_under b q t)) s (step.Submit r) ∙ rw incomplete refl in
      outcome-immediate b q (s ++ step.Submit r ∷ []) first
      ∙ same_outcome _ (state.Invalid, None) _ false (rw (no_one, open_still, bad) refl) (rw (no_one, open_still) refl)

  pub immediate-passed : (x : Step) → is_finish x ≡ false → submitted x ≡ None → outcome b q (s ++ x ∷ []) ≡ going_on state.Todo
  immediate-passed x other is =
      let no_one : handed_in b q (s ++ x ∷ []) ≡ [] = handed_in-passed b q s x none other is ∙ no_more in
      let open_still : has_finish (s ++ x ∷ []) ≡ false = has_finish-push s x other ∙ none in
      let good : ends_incomplete b q (s ++ x ∷ []) ≡ false = ends_in_submit-push (λ t. not (complete_under b q t)) s x ∙ rw is refl in
      outcome-immediate b q (s ++ x ∷ []) first
      ∙ same_outcome _ (state.Todo, None) _ false (rw (no_one, open_still, good) refl) (rw (no_one, open_still) refl)

  pub immediate-finished : outcome b q (s ++ step.Finish ∷ []) ≡ ended_with (at_finish b q s)
  immediate-finished =
      let no_one : handed_in b q (s ++ step.Finish ∷ []) ≡ [] = handed_in-finished b q s ∙ no_more in
      outcome-immediate b q (s ++ step.Finish ∷ []) first
      ∙ same_outcome _ (at_finish b q s) _ true (rw (no_one, has_finish-finished s, last-finished s) refl) (rw (has_finish-finished s) refl)
