-- The slots of an attempt, one more at a time.
use Rattle.std.proofs.Common.{◌≡◌, ℕ, zero, suc, ◌+◌, ◌*◌, ◌<◌, ◌≤◌, Bool, true, false, ◌||◌, List, [], ◌∷◌, ◌++◌, length, Some, None, refl, ap, subst, sym, ◌∙◌, arith, take, drop, ℤ, pos, neg_ℤ, ◌+ℤ◌, ◌≤ℤ◌, add-one, FitsSigned, to_z, of_z}
use Rattle.std.specs.Prelude.{map, zip, unwrap_or, slice_index_or}
use Rattle.std.specs.List.{list_any}
use Rattle.std.proofs.lemmas.Int.{ints, to_z-of_z, fits_signed_from_abs}
use Rattle.std.specs.Int.{w64}
use Rattle.qz_decimal.specs.Numbers.{one, IsSlotMark}
use Rattle.std.proofs.lemmas.List.{map-append, take_all, take-append-drop}
use Rattle.std.proofs.lemmas.List.Folds.{list_any-append}
use Rattle.std.proofs.lemmas.List.Sums.{fold-append}
use Rattle.qz_grading.specs.declared.question.Question.{Question}
use Rattle.qz_terms.specs.Rows.{Scored, awaits_mark, sum_of, total_of}
use Rattle.qz_usage.specs.Runs.{Run, IsBound}
use Rattle.qz_usage.specs.Usages.{AreBound, scored}

-- ---- totals

abbrev pub all_scored : List Run → List Question → List Scored
all_scored rs qs = map scored (zip rs qs)

-- the question of a slot, and what the slot adds
pub record Counts (rs : List Run) (qs : List Question) (i : ℕ) (r : Run) : Type 0 where
  pub question : Question
  pub bound : IsBound r question
  pub longer : take (i + 1) (all_scored rs qs) ≡ take i (all_scored rs qs) ++ scored (r, question) ∷ []

counts_suc : (r' : Run) (rs : List Run) (q' : Question) (qs : List Question) (i : ℕ) (r : Run) → Counts rs qs i r → Counts (r' ∷ rs) (q' ∷ qs) (suc i) r
counts_suc r' rs q' qs i r h = record {
  question = h.question;
  bound = h.bound;
  longer = rw add-one (ap (λ (xs : List Scored). scored (r', q') ∷ xs) (rw add-one at h.longer));
}

pub counts : (rs : List Run) (qs : List Question) (i : ℕ) (r : Run) → AreBound rs qs → i < length rs → r ≡ slice_index_or rs i r → Counts rs qs i r
counts [] qs i r all inside is = absurd (omega arith)
counts (r' ∷ rs) [] i r all inside is = absurd all
counts (r' ∷ rs) (q' ∷ qs) zero r all inside is = record { question = q'; bound = subst (λ (x : Run). IsBound x q') (sym is) all.0; longer = ap (λ (x : Run). scored (x, q') ∷ []) (sym is) }
counts (r' ∷ rs) (q' ∷ qs) (suc i) r all inside is = counts_suc r' rs q' qs i r (counts rs qs i r all.1 (omega arith) is)

length-all_scored : (rs : List Run) (qs : List Question) → AreBound rs qs → length (all_scored rs qs) ≡ length rs
length-all_scored [] qs all = refl
length-all_scored (r ∷ rs) [] all = absurd all
length-all_scored (r ∷ rs) (q ∷ qs) all = ap suc (length-all_scored rs qs all.1)

or-true : (b : Bool) → (b || true) ≡ true
or-true true = refl
or-true false = refl

-- what a slot adds
abbrev pub added : Scored → ℤ
added s = unwrap_or s.mark (pos 0)

module _ (rs : List Run) (qs : List Question) (i : ℕ) (r : Run) (all : AreBound rs qs) (inside : i < length rs) (is : r ≡ slice_index_or rs i r) where
  -- a slot whose mark is awaited
  pub awaited : ((q : Question) → IsBound r q → true ≡ awaits_mark (scored (r, q))) → total_of (all_scored rs qs) ≡ None
  awaited awaits =
      let k = counts rs qs i r all inside is in
      let xs = all_scored rs qs in
      let split : take (i + 1) xs ++ drop (i + 1) xs ≡ xs = take-append-drop (i + 1) xs in
      let here : list_any awaits_mark (take (i + 1) xs) ≡ true = ap (list_any awaits_mark) k.longer ∙ list_any-append awaits_mark (take i xs) (scored (r, k.question) ∷ []) ∙ rw (← awaits k.question k.bound) (or-true (list_any awaits_mark (take i xs))) in
      let some : list_any awaits_mark xs ≡ true = ap (list_any awaits_mark) (sym split) ∙ list_any-append awaits_mark (take (i + 1) xs) (drop (i + 1) xs) ∙ rw here refl in
      rw some refl

  pub none_more : ((q : Question) → IsBound r q → false ≡ awaits_mark (scored (r, q))) → list_any awaits_mark (take i (all_scored rs qs)) ≡ false → list_any awaits_mark (take (i + 1) (all_scored rs qs)) ≡ false
  none_more one none =
      let k = counts rs qs i r all inside is in
      ap (list_any awaits_mark) k.longer ∙ list_any-append awaits_mark (take i (all_scored rs qs)) (scored (r, k.question) ∷ []) ∙ rw (none, ← one k.question k.bound) refl

  pub sum_more : (total mark : ℤ) → ((q : Question) → IsBound r q → mark ≡ added (scored (r, q))) → total ≡ sum_of (map added (take i (all_scored rs qs))) → total +ℤ mark ≡ sum_of (map added (take (i + 1) (all_scored rs qs)))
  sum_more total mark one before =
      let k = counts rs qs i r all inside is in
      let xs = all_scored rs qs in
      rw (k.longer, map-append added (take i xs) (scored (r, k.question) ∷ []), fold-append ◌+ℤ◌ (pos 0) (map added (take i xs)) (added (scored (r, k.question)) ∷ []), ← before, ← one k.question k.bound) refl

-- when all slots were counted
pub total_all : (rs : List Run) (qs : List Question) (i : ℕ) (total : ℤ) → AreBound rs qs → length rs ≤ i → list_any awaits_mark (take i (all_scored rs qs)) ≡ false → total ≡ sum_of (map added (take i (all_scored rs qs))) → Some total ≡ total_of (all_scored rs qs)
total_all rs qs i total all past none sum =
    let whole : take i (all_scored rs qs) ≡ all_scored rs qs = take_all i (all_scored rs qs) (omega (arith, length-all_scored rs qs all)) in
    let none' = rw whole at none in
    let sum' = rw whole at sum in
    rw (none', sum') refl

-- ---- a total stays in range

module _ (t m : ℤ) (i : ℕ) (few : i < 200) (least : neg_ℤ (pos (60000 * one * i)) ≤ℤ t) (greatest : t ≤ℤ pos (60000 * one * i)) (mark : IsSlotMark m) where
  pub total_fits : FitsSigned w64 (t +ℤ m)
  total_fits = fits_signed_from_abs w64 (t +ℤ m) (omega (arith, ints, mark.0, mark.1))

  pub mark_kept : to_z w64 (of_z w64 m) ≡ m
  mark_kept = to_z-of_z w64 m (fits_signed_from_abs w64 m (omega (arith, ints, mark.0, mark.1)))

  pub total_kept : to_z w64 (of_z w64 (t +ℤ to_z w64 (of_z w64 m))) ≡ t +ℤ m
  total_kept = rw mark_kept (to_z-of_z w64 (t +ℤ m) total_fits)

  pub total_least : neg_ℤ (pos (60000 * one * (i + 1))) ≤ℤ (t +ℤ m)
  total_least = omega (arith, ints, mark.0, mark.1)

  pub total_greatest : (t +ℤ m) ≤ℤ pos (60000 * one * (i + 1))
  total_greatest = omega (arith, ints, mark.0, mark.1)
