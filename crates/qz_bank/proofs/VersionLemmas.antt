-- Versions that changes make, one after another.
use Rattle.std.proofs.Common.{◌≡◌, ℕ, zero, suc, ◌+◌, ◌-◌, ◌<◌, ◌≤◌, Bool, true, false, ◌&&◌, List, [], ◌∷◌, ◌++◌, Some, None, length, take, refl, ap, ◌∙◌, arith}
use Rattle.std.specs.Prelude.{◌==◌, fold, if◌then◌else◌, nat_le, slice_get}
use Rattle.std.proofs.lemmas.Bool.{eqb-true, eqb-false}
use Rattle.std.proofs.lemmas.Bool.Decides.{nat_tests}
use Rattle.std.proofs.lemmas.List.{take_all}
use Rattle.std.proofs.lemmas.Option.{slice_get_past}
use Rattle.qz_grading.specs.declared.question.Question.{Question}
use Rattle.qz_grading.specs.Grading.{at_place}
use Rattle.qz_terms.specs.declared.request.Request.{Request}
use Rattle.qz_terms.specs.Catalog.{changed_by}
use Rattle.qz_bank.specs.Laws.{versions_from}

pub versions-length : (q : Question) (xs : List Request) → length (versions_from q xs) ≡ length xs + 1
versions-length q [] = refl
versions-length q (x ∷ xs) = let rest = versions-length (changed_by q x) xs in omega (arith, rest)

pub versions-push : (q : Question) (xs : List Request) (x : Request) → versions_from q (xs ++ x ∷ []) ≡ versions_from q xs ++ changed_by (fold changed_by q xs) x ∷ []
versions-push q [] x = refl
versions-push q (y ∷ xs) x = ap (λ (qs : List Question). q ∷ qs) (versions-push (changed_by q y) xs x)

pub versions-get : (q : Question) (xs : List Request) (i : ℕ) → i ≤ length xs → slice_get (versions_from q xs) i ≡ Some (fold changed_by q (take i xs))
versions-get q [] zero inside = refl
versions-get q [] (suc i) inside = absurd (omega arith)
versions-get q (x ∷ xs) zero inside = refl
versions-get q (x ∷ xs) (suc i) inside = versions-get (changed_by q x) xs i (let shorter : suc i ≤ suc (length xs) = inside in omega arith)

versions-at : (q : Question) (xs : List Request) (n : ℕ) (b c : Bool) → (n == 0) ≡ b → (nat_le 1 n && nat_le n (length xs + 1)) ≡ c → at_place (versions_from q xs) n ≡ (if c then Some (fold changed_by q (take (n - 1) xs)) else None)
versions-at q xs n true true zero_is inside = absurd (let none = eqb-true n 0 zero_is in let above : 1 ≤ n = grind (arith, nat_tests) in omega arith)
versions-at q xs n true false zero_is inside = rw zero_is refl
versions-at q xs n false true zero_is inside = let within : n ≤ length xs + 1 = grind (arith, nat_tests) in rw zero_is (versions-get q xs (n - 1) (omega arith))
versions-at q xs n false false zero_is inside =
    let some = eqb-false n 0 zero_is in
    let past : length xs + 1 < n = grind (arith, nat_tests) in
    rw zero_is (slice_get_past (versions_from q xs) (n - 1) (omega (arith, versions-length q xs)))

-- the version with a number, from 1
pub versions-place : (q : Question) (xs : List Request) (n : ℕ) → at_place (versions_from q xs) n ≡ (if nat_le 1 n && nat_le n (length xs + 1) then Some (fold changed_by q (take (n - 1) xs)) else None)
versions-place q xs n = versions-at q xs n (n == 0) (nat_le 1 n && nat_le n (length xs + 1)) refl refl

last-by : (q : Question) (xs : List Request) (n : ℕ) (b : Bool) → (n == 0) ≡ b → n ≡ length xs + 1 → at_place (versions_from q xs) n ≡ Some (fold changed_by q xs)
last-by q xs n true zero_is last = absurd (let none = eqb-true n 0 zero_is in omega arith)
last-by q xs n false zero_is last = let place : n - 1 ≡ length xs = omega arith in rw (zero_is, place) (versions-get q xs (length xs) (omega arith) ∙ ap (λ (ys : List Request). Some (fold changed_by q ys)) (take_all (length xs) xs (omega arith)))

-- the latest version
pub versions-last : (q : Question) (xs : List Request) → at_place (versions_from q xs) (length (versions_from q xs)) ≡ Some (fold changed_by q xs)
versions-last q xs = last-by q xs (length (versions_from q xs)) (length (versions_from q xs) == 0) refl (versions-length q xs)
