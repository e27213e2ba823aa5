-- What is left of notes that are true.
use Rattle.std.proofs.Common.{◌≡◌, ℕ, zero, suc, List, [], ◌∷◌, ◌++◌, Some, sym, ap, ◌∙◌, subst}
use Rattle.std.specs.Prelude.{slice_get}
use Rattle.std.specs.List.{remove}
use Rattle.qz_gather.specs.declared.note.Note.{Note}
use Rattle.qz_gather.specs.Notes.{AreTrueOf}
use Rattle.qz_gathering.specs.Gathering.{EachTrueOf}
use Rattle.qz_visit.specs.Visits.{Tellings}

-- what is left stood there before
stood : {A : Type 0} (xs : List A) (i k : ℕ) (x : A) → slice_get (remove xs i) k ≡ Some x → (j : ℕ) × (slice_get xs j ≡ Some x)
stood [] zero k x at = absurd cc
stood [] (suc i) k x at = absurd cc
stood (y ∷ ys) zero k x at = (suc k, at)
stood (y ∷ ys) (suc i) zero x at = (zero, at)
stood (y ∷ ys) (suc i) (suc k) x at = let so = stood ys i k x at in (suc so.0, so.1)

pub true_removed : (t : Tellings) (notes left : List Note) (i : ℕ) → left ≡ remove notes i → AreTrueOf t notes → AreTrueOf t left
true_removed t notes left i is are = subst (AreTrueOf t) (sym is) record { each = λ k n at. let so = stood notes i k n at in are.each so.0 n so.1 }

alone : {A : Type 0} (x y : A) (k : ℕ) → slice_get (x ∷ []) k ≡ Some y → x ≡ y
alone x y zero is = let same : x ≡ y = cc in same
alone x y (suc k) is = absurd cc

-- the only book
pub one_book : (t : Tellings) (none books : List (List Note)) (book : List Note) → none ≡ [] → books ≡ none ++ book ∷ [] → AreTrueOf t book → EachTrueOf t books
one_book t none books book empty is are = subst (EachTrueOf t) (sym (is ∙ ap (λ (bs : List (List Note)). bs ++ book ∷ []) empty)) record { each = λ k notes at. subst (AreTrueOf t) (alone book notes k at) are }
