-- A mark is at most six max marks.
use Rattle.std.proofs.Common.{◌≡◌, ℕ, zero, suc, ◌*◌, ◌≤◌, ℤ, pos, negsuc, ◌*ℤ◌, false, List, [], ◌∷◌, ◌++◌, Option, Some, None, option_map, length, refl, sym, ap, subst, ◌∙◌, arith, All}
use Rattle.std.specs.Option.{option_or}
use Rattle.std.specs.Ordering.{int_eq}
use Rattle.std.specs.Prelude.{IfSome, option_and_then, option_to_list, unsigned_abs, unwrap_or}
use Rattle.std.proofs.lemmas.Bool.{false_from_ne_true}
use Rattle.std.proofs.lemmas.Bool.Decides.{Decides-int_eq}
use Rattle.std.proofs.lemmas.Int.{ints, unsigned_abs-mul}
use Rattle.std.proofs.lemmas.List.{take_at}
use Rattle.std.proofs.lemmas.List.Elements.{All-take}
use Rattle.std.proofs.lemmas.Nat.{mul-le}
use Rattle.qz_book.specs.Held.{IsSound}
use Rattle.qz_book.proofs.Effects.{Acts, Does, acts, begins, does, finishes, leaves, rebinds}
use Rattle.qz_book.proofs.Following.{slot-there, there}
use Rattle.qz_book.proofs.Placing.{placed, steps-same}
use Rattle.qz_book.proofs.SlotLemmas.{slot-steps}
use Rattle.qz_decimal.specs.Numbers.{IsEarnedFraction, IsMaxMark, IsWithin, mark_of, nearest, one, rescale}
use Rattle.qz_decimal.proofs.Nearest.{nearest-within}
use Rattle.qz_grading.specs.declared.outcome.Outcome.{Outcome}
use Rattle.qz_grading.specs.declared.question.Question.{Question}
use Rattle.qz_grading.specs.declared.refusal.AttemptId.{AttemptId}
use Rattle.qz_grading.specs.declared.response.Step.{Step}
use Rattle.qz_grading.specs.declared.response.Step.TheVariants as step
use Rattle.qz_grading.specs.Behaviours.{outcome}
use Rattle.qz_grading.specs.Slots.{last_given, step_cause}
use Rattle.qz_grading.specs.Steps.{given}
use Rattle.qz_lives.specs.Attempts.{slot_of}
use Rattle.qz_lives.proofs.Effects.{slot-max}
use Rattle.qz_lives.proofs.Keeping.{bound-kept, max-mark}
use Rattle.qz_lives.proofs.Legality.{by-prefixes, legal-before}
use Rattle.qz_terms.specs.declared.plan.Bound.{Bound}
use Rattle.qz_terms.specs.declared.record.Record.{Record}
use Rattle.qz_terms.specs.Kept.{IsKept}
use Rattle.qz_terms.specs.Legal.{IsLegal}
use Rattle.qz_terms.specs.History.{Slot, Start, bound, mark_in, slot, slot_with, start, step_in, steps, version}
use Rattle.qz_terms.proofs.Walks.{all_of-push, last_of-push}
use Rattle.qz_usage.specs.declared.player.Player.{Player}
use Rattle.qz_usage.specs.declared.player.Player.TheVariants as player
use Rattle.qz_usage.specs.Players.{HasPlayed, played_behaviour}
use Rattle.qz_usage.specs.Runs.{IsBound, IsGiven, Run, behaviour_of}
use Rattle.qz_usage.proofs.RunLemmas.{given_taken, taken}

-- ---- one mark

some : (n : ℕ) → int_eq (pos (suc n)) (pos 0) ≡ false
some n = false_from_ne_true (int_eq (pos (suc n)) (pos 0)) (λ t. let e : pos (suc n) ≡ pos 0 = (Decides-int_eq (pos (suc n)) (pos 0)).0 t in cc)

-- that a teacher gave
given-within : (mark given max : ℤ) → IsWithin (pos 0) given mark → unsigned_abs (rescale mark given max) ≤ 6 * unsigned_abs max
given-within mark (pos zero) max between = omega arith
given-within mark (pos (suc n)) max between =
    let mark_le : unsigned_abs mark ≤ suc n = omega (arith, ints, between.0, between.1) in
    let most : unsigned_abs mark * unsigned_abs max ≤ suc n * unsigned_abs max = mul-le (unsigned_abs mark) (unsigned_abs max) (suc n) (unsigned_abs max) mark_le (omega arith) in
    let product : unsigned_abs (mark *ℤ max) ≤ unsigned_abs max * suc n = rw unsigned_abs-mul (omega (arith, most)) in
    let near : unsigned_abs (nearest (mark *ℤ max) (suc n)) ≤ unsigned_abs max = nearest-within (mark *ℤ max) (suc n) (unsigned_abs max) (omega arith) product in
    rw some (omega (arith, near))
given-within mark (negsuc n) max between = absurd (omega (arith, ints, between.0, between.1))

-- that a response earned
earned-within : (fraction max : ℤ) → IsEarnedFraction fraction → unsigned_abs (mark_of fraction max) ≤ 6 * unsigned_abs max
earned-within fraction max within =
    let fraction_le : unsigned_abs fraction ≤ 6 * one = omega (arith, ints, within.0, within.1) in
    let most : unsigned_abs fraction * unsigned_abs max ≤ 6 * one * unsigned_abs max = mul-le (unsigned_abs fraction) (unsigned_abs max) (6 * one) (unsigned_abs max) fraction_le (omega arith) in
    let product : unsigned_abs (fraction *ℤ max) ≤ 6 * unsigned_abs max * one = rw unsigned_abs-mul (omega (arith, most)) in
    nearest-within (fraction *ℤ max) one (6 * unsigned_abs max) (omega arith) product

within-by : (o : Option (ℤ × ℤ)) (f : Option ℤ) (max : ℤ) → IfSome o IsGiven → IfSome f IsEarnedFraction
    → IfSome (unwrap_or (option_map (λ (m : ℤ × ℤ). Some (rescale m.0 m.1 max)) o) (option_map (λ f. mark_of f max) f)) (λ m. unsigned_abs m ≤ 6 * unsigned_abs max)
within-by None None max gave earned = tt
within-by None (Some f) max gave earned = earned-within f max earned
within-by (Some m) f max gave earned = given-within m.0 m.1 max gave.0

-- ---- the fraction that is earned

earned : (p : Player) (q : Question) (s : List Step) → HasPlayed p q s → IfSome (outcome (played_behaviour p) q s).fraction IsEarnedFraction
earned (player.Once m) q s h = subst (λ (o : Outcome). IfSome o.fraction IsEarnedFraction) h.outcome h.earned
earned (player.Tries m) q s h = subst (λ (o : Outcome). IfSome o.fraction IsEarnedFraction) h.outcome h.earned

-- ---- the marks that teachers gave

abbrev AreGiven : AttemptId → ℕ → List Record → Type 0
AreGiven a k l = IfSome (last_given (steps l a k)) IsGiven

gave-by : (o p : Option (ℤ × ℤ)) → IfSome o IsGiven → IfSome p IsGiven → IfSome (option_or o p) IsGiven
gave-by None p first other = other
gave-by (Some m) p first other = first

gave-more : (l : List Record) (r : Record) (a : AttemptId) (k : ℕ) (x : Step) → step_in a k r ≡ Some x → IfSome (given x) IsGiven → AreGiven a k l → AreGiven a k (l ++ r ∷ [])
gave-more l r a k x takes one so_far =
    let longer : steps (l ++ r ∷ []) a k ≡ steps l a k ++ x ∷ [] = all_of-push (step_in a k) l r ∙ ap (λ (o : Option Step). steps l a k ++ option_to_list o) takes in
    let read : last_given (steps (l ++ r ∷ []) a k) ≡ option_or (given x) (last_given (steps l a k)) = ap last_given longer ∙ last_of-push given (steps l a k) x in
    subst (λ (o : Option (ℤ × ℤ)). IfSome o IsGiven) (sym read) (gave-by (given x) (last_given (steps l a k)) one so_far)

gave-same : (l : List Record) (r : Record) (a : AttemptId) (k : ℕ) → step_in a k r ≡ None → AreGiven a k l → AreGiven a k (l ++ r ∷ [])
gave-same l r a k none so_far = subst (λ (s : List Step). IfSome (last_given s) IsGiven) (sym (steps-same l r a k none)) so_far

acted-given : (index count : ℕ) (l : List Record) (r : Record) (a : AttemptId) (k : ℕ) (x : Step) → IsLegal index count l → All IsKept l → Acts l r a k x → IfSome (given x) IsGiven
acted-given index count l r a k x legal kept d =
    let t = there l d.acted.user a k (placed index count l a k legal) d.acted.there in
    let s : Slot = slot_with t.started t.bound_now (steps l a k) t.question_now in
    let slot_is : slot l a k ≡ Some s = slot-there l a k t.started t.bound_now t.question_now t.parts in
    let free : step_cause s.behaviour s.question s.bound.max s.steps x ≡ None = d.acted.causeless s slot_is in
    let ok = taken s.behaviour s.question s.bound.max s.steps x free in
    let max : IfSome (given x) (λ m. m.1 ≡ s.bound.max) = subst (λ (n : ℤ). IfSome (given x) (λ m. m.1 ≡ n)) (slot-max l a k s slot_is) d.acted.max in
    given_taken s.bound.max x (max-mark t.bound_now (bound-kept l a k t.bound_now kept t.parts.bound_is)) max ok.in_range

given-by : (index count : ℕ) (l : List Record) (r : Record) (a : AttemptId) (k : ℕ) → IsLegal index count l → All IsKept l → Does l r a k → AreGiven a k l → AreGiven a k (l ++ r ∷ [])
given-by index count l r a k legal kept (begins d) so_far = gave-same l r a k d.no_step so_far
given-by index count l r a k legal kept (acts x d) so_far = gave-more l r a k x d.takes (acted-given index count l r a k x legal kept d) so_far
given-by index count l r a k legal kept (finishes d) so_far = gave-more l r a k step.Finish d.takes tt so_far
given-by index count l r a k legal kept (rebinds d) so_far = gave-same l r a k d.no_step so_far
given-by index count l r a k legal kept (leaves d) so_far = gave-same l r a k d.no_step so_far

kept-before : (l rest : List Record) → All IsKept (l ++ rest) → All IsKept l
kept-before l rest kept = subst (All IsKept) (take_at l rest (length l) refl) (All-take IsKept (length l) (l ++ rest) kept)

given-all : (index count : ℕ) (h : List Record) (a : AttemptId) (k : ℕ) → IsLegal index count h → All IsKept h → AreGiven a k h
given-all index count h a k legal kept =
    by-prefixes (AreGiven a k) h tt (λ l r rest e so_far.
    let legal_l : IsLegal index count l = legal-before index count l (r ∷ rest) (subst (IsLegal index count) e legal) in
    let kept_l : All IsKept l = kept-before l (r ∷ rest) (subst (All IsKept) e kept) in
    given-by index count l r a k legal_l kept_l (does index count l r a k legal_l (legal.each l r rest e).event) so_far)

-- ---- a slot of a list

bound-asked : (s : Start) (b : Bound) (taken : List Step) (o : Option Question) (x : Slot) → option_map (slot_with s b taken) o ≡ Some x → x.bound ≡ b
bound-asked s b taken None x is = absurd cc
bound-asked s b taken (Some q) x is = let same : slot_with s b taken q ≡ x = cc in ap (λ (y : Slot). y.bound) (sym same)

bound-by : (l : List Record) (o : Option Start) (p : Option Bound) (taken : List Step) (x : Slot) → option_and_then (λ s. option_and_then (λ (b : Bound). option_map (slot_with s b taken) (version l b.entry b.version)) p) o ≡ Some x → p ≡ Some x.bound
bound-by l None p taken x is = absurd cc
bound-by l (Some s) None taken x is = absurd cc
bound-by l (Some s) (Some b) taken x is = ap (λ (d : Bound). Some d) (sym (bound-asked s b taken (version l b.entry b.version) x is))

pub slot-bound : (h : List Record) (a : AttemptId) (k : ℕ) (s : Slot) → IsSound h → slot h a k ≡ Some s → IsMaxMark s.bound.max
slot-bound h a k s sound is = max-mark s.bound (bound-kept h a k s.bound sound.held.kept (bound-by h (start h a) (bound h a k) (steps h a k) s is))

pub slot-within : (h : List Record) (a : AttemptId) (k : ℕ) (r : Run) (q : Question) → IsSound h → slot h a k ≡ Some (slot_of r q) → IsBound r q → IfSome (mark_in (slot_of r q)) (λ m. unsigned_abs m ≤ 6 * unsigned_abs r.bound.max)
slot-within h a k r q sound is bound =
    let gave : IfSome (last_given r.steps) IsGiven = subst (λ (s : List Step). IfSome (last_given s) IsGiven) (sym (slot-steps h a k (slot_of r q) is)) (given-all sound.index sound.count h a k sound.held.legal sound.held.kept) in
    within-by (last_given r.steps) (outcome (behaviour_of r) q r.steps).fraction r.bound.max gave (earned r.player q r.steps bound.played)
