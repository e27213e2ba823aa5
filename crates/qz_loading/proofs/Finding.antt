-- Which places are those of the files of a school's lists.
use Rattle.std.proofs.Common.{◌≡◌, ◌≢◌, ℕ, zero, suc, ◌+◌, ◌<◌, ◌⊎◌, inl, inr, ⊎_elim, List, Bool, true, false, ap, sym, ◌∙◌, refl, arith}
use Rattle.std.proofs.lemmas.Bool.{cases_lt, false≢true}
use Rattle.std.proofs.lemmas.Slice.Eq.{bytes_eq-Decides}
use Rattle.std.specs.Bool.{Decides}
use Rattle.std.specs.Prelude.{bytes_eq}
use Rattle.qz_disks.specs.Shelves.{Place, place}
use Rattle.qz_folders.proofs.Naming.{names_apart, none_is_the_catalogue}
use Rattle.qz_loading.specs.Places.{IsNoPart, catalog_place, part_place}

pub parts_apart : (folder : List ℕ) (k j : ℕ) → k < 100 → j < 100 → part_place folder k ≡ part_place folder j → k ≡ j
parts_apart folder k j low below same = names_apart k j low below (ap (λ (p : Place). p.name) same)

pub no_catalog : (folder : List ℕ) (k : ℕ) → part_place folder k ≡ catalog_place folder → ⊥
no_catalog folder k same = none_is_the_catalogue k (ap (λ (p : Place). p.name) same)

-- the catalogue's place is no shard's
pub catalog_no_part : (folder : List ℕ) (count : ℕ) → IsNoPart folder count (catalog_place folder)
catalog_no_part folder count = record { each = λ k below same. no_catalog folder k (sym same) }

-- a later shard's place is none of the earlier ones'
pub later_no_part : (folder : List ℕ) (count k : ℕ) → k < 100 → count < k + 1 → IsNoPart folder count (part_place folder k)
later_no_part folder count k few from = record {
  each = λ j below same. let e : k ≡ j = parts_apart folder k j few (omega arith) same in omega arith;
}

-- ---- a place is one of these, or it isn't

by_test : {P : Type 0} (r : Bool) → Decides r P → P ⊎ (P → ⊥)
by_test true d = inl (d.0 refl)
by_test false d = inr (λ p. false≢true (d.1 p))

is_list : (a b : List ℕ) → (a ≡ b) ⊎ (a ≢ b)
is_list a b = by_test (bytes_eq a b) (bytes_eq-Decides a b)

same_place : (a b : Place) → a.folder ≡ b.folder → a.name ≡ b.name → a ≡ b
same_place a b folders names = ap (λ f. place f a.name) folders ∙ ap (place b.folder) names

pub is_place : (a b : Place) → (a ≡ b) ⊎ (a ≢ b)
is_place a b = ⊎_elim
    (λ folders. ⊎_elim (λ names. inl (same_place a b folders names)) (λ other. inr (λ same. other (ap (λ (p : Place). p.name) same))) (is_list a.name b.name))
    (λ other. inr (λ same. other (ap (λ (p : Place). p.folder) same)))
    (is_list a.folder b.folder)

none_more : (folder : List ℕ) (n : ℕ) (at : Place) → IsNoPart folder n at → at ≢ part_place folder n → (k : ℕ) → k < suc n → at ≢ part_place folder k
none_more folder n at none other k below same = ⊎_elim (λ less. none.each k less same) (λ from. let e : k ≡ n = omega arith in other (same ∙ ap (part_place folder) e)) (cases_lt k n)

-- the place of a shard, with its index, or of none
pub find_part : (folder : List ℕ) (count : ℕ) (at : Place) → ((k : ℕ) × (k < count) × (at ≡ part_place folder k)) ⊎ IsNoPart folder count at
find_part folder zero at = inr (record { each = λ k below. absurd (omega arith) })
find_part folder (suc n) at = ⊎_elim
    (λ found. inl (found.0, omega (arith, found.1), found.2))
    (λ none. ⊎_elim
    (λ same. inl (n, omega arith, same))
    (λ other. inr (record { each = none_more folder n at none other }))
    (is_place at (part_place folder n)))
    (find_part folder n at)
