-- A slot with one more step.
use Rattle.std.proofs.Common.{◌≡◌, ℕ, ◌+◌, ◌<◌, true, false, not, ◌&&◌, ◌||◌, List, [], ◌∷◌, ◌++◌, length, None, ap, subst, ◌∙◌, sym, arith, take, rules}
use Rattle.std.specs.Prelude.{IfSome, ℤ, pos, int_lt, slice_index_or}
use Rattle.std.proofs.lemmas.Int.{ints}
use Rattle.std.proofs.lemmas.Bool.{false_from_ne_true}
use Rattle.std.proofs.lemmas.List.{take_more}
use Rattle.std.proofs.lemmas.List.Folds.{list_any_at}
use Rattle.qz_decimal.specs.Numbers.{IsEarnedFraction, IsMaxMark, IsWithin}
use Rattle.qz_grading.specs.declared.outcome.Behaviour.{Behaviour}
use Rattle.qz_grading.specs.declared.outcome.State.{State}
use Rattle.qz_grading.specs.declared.question.Question.{Question}
use Rattle.qz_grading.specs.declared.refusal.Refusal.TheVariants as refusal
use Rattle.qz_grading.specs.declared.response.Step.{Step}
use Rattle.qz_grading.specs.declared.response.Step.TheVariants as step
use Rattle.qz_grading.specs.Steps.{given, is_finish, is_mark, has_finish}
use Rattle.qz_grading.specs.Behaviours.{barred_showing, when}
use Rattle.qz_grading.specs.Slots.{is_full_for, is_misfit, is_out_of_range, slot_state, step_cause}
use Rattle.qz_usage.specs.declared.player.Player.{Player}
use Rattle.qz_usage.specs.declared.player.Player.TheVariants as player
use Rattle.qz_usage.specs.Players.{played_outcome, HasPlayed}
use Rattle.qz_usage.specs.Runs.{IsGiven, IsWithinLimits, has_misfit}
use Rattle.qz_usage.proofs.StepCounts.{first_none, when_none, limits_more}

pub earned : (p : Player) (q : Question) (s : List Step) → HasPlayed p q s → IfSome (played_outcome p).fraction IsEarnedFraction
earned (player.Once m) q s h = h.earned
earned (player.Tries m) q s h = h.earned

-- ---- steps that are read again, one at a time

pub played_more : (p : Player) (q : Question) (s : List Step) (i : ℕ) (x : Step) → i < length s → x ≡ slice_index_or s i x → HasPlayed p q (take i s ++ x ∷ []) → HasPlayed p q (take (i + 1) s)
played_more p q s i x inside is h =
    let longer : take (i + 1) s ≡ take i s ++ x ∷ [] = take_more s i x inside ∙ ap (λ (y : Step). take i s ++ y ∷ []) (sym is) in
    let P : List Step → Type 0 = λ t. HasPlayed p q t in
    subst P (sym longer) h

pub fits_at : (b : Behaviour) (q : Question) (s : List Step) (i : ℕ) (x : Step) → has_misfit b q s ≡ false → i < length s → x ≡ slice_index_or s i x → is_misfit b q x ≡ false
fits_at b q s i x none inside is =
    false_from_ne_true (is_misfit b q x) (λ t.
    let some : has_misfit b q s ≡ true = list_any_at (is_misfit b q) s i x inside (ap (is_misfit b q) (sym is) ∙ t) in cc)

-- ---- a step that is taken

-- no cause holds
pub record IsTaken (b : Behaviour) (q : Question) (max : ℤ) (s : List Step) (x : Step) : Type 0 where
  pub unbarred : barred_showing (slot_state b q s) b q s x ≡ None
  pub fits : is_misfit b q x ≡ false
  pub in_range : is_out_of_range max x ≡ false
  pub finished : (is_mark x && not (has_finish s)) ≡ false
  pub not_full : is_full_for s x ≡ None

pub taken : (b : Behaviour) (q : Question) (max : ℤ) (s : List Step) (x : Step) → step_cause b q max s x ≡ None → IsTaken b q max s x
taken b q max s x none =
    let unbarred = first_none (barred_showing (slot_state b q s) b q s x) _ none in
    let fits = first_none (when (is_misfit b q x) refusal.Misfit) _ unbarred.1 in
    let in_range = first_none (when (is_out_of_range max x) (refusal.OutOfRange max)) _ fits.1 in
    let finished = first_none (when (is_mark x && not (has_finish s)) refusal.NotFinished) _ in_range.1 in
    let not_full = first_none (is_full_for s x) _ finished.1 in
    record {
      unbarred = unbarred.0;
      fits = when_none (is_misfit b q x) refusal.Misfit fits.0;
      in_range = when_none (is_out_of_range max x) (refusal.OutOfRange max) in_range.0;
      finished = when_none (is_mark x && not (has_finish s)) refusal.NotFinished finished.0;
      not_full = not_full.0;
    }

-- a first finish
finishes_once : (b : Behaviour) (q : Question) (shown : State) (s : List Step) (x : Step) → barred_showing shown b q s x ≡ None → is_finish x ≡ true → has_finish s ≡ false
finishes_once b q shown s step.Finish h is = when_none (has_finish s) (refusal.SlotEnded shown) (first_none (when (has_finish s) (refusal.SlotEnded shown)) (None ∷ []) h).0
finishes_once b q shown s x h is = absurd cc

-- its counts stay within the limits
pub limits_kept : (b : Behaviour) (q : Question) (max : ℤ) (s : List Step) (x : Step) → IsTaken b q max s x → IsWithinLimits s → IsWithinLimits (s ++ x ∷ [])
limits_kept b q max s x t h = limits_more s x h t.not_full (finishes_once b q (slot_state b q s) s x t.unbarred)

in_range : (max m : ℤ) → IsMaxMark max → (int_lt m (pos 0) || int_lt max m) ≡ false → IsWithin (pos 0) max m
in_range max m small h = (grind (arith, ints), grind (arith, ints))

pub given_taken : (max : ℤ) (x : Step) → IsMaxMark max → IfSome (given x) (λ m. m.1 ≡ max) → is_out_of_range max x ≡ false → IfSome (given x) IsGiven
given_taken max (step.Save r) small is within = search rules
given_taken max (step.Submit r) small is within = search rules
given_taken max step.Again small is within = search rules
given_taken max step.Finish small is within = search rules
given_taken max (step.Mark m bound) small is within = rw is (in_range max m small within, small)
