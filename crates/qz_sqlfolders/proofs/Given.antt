-- Databases that are handed out and given back.
use Rattle.std.proofs.Common.{◌≡◌, ℕ, ◌+◌, List, Option, IfSome, true, false, Bool, inr, refl, sym, ap, subst, ◌∙◌, arith}
use Rattle.std.proofs.lemmas.Bool.{false≢true}
use Rattle.std.proofs.lemmas.Slice.Eq.{bytes_eq-Decides}
use Rattle.qz_disks.specs.Shelves.{Place, RisesBy}
use Rattle.qz_sqlbases.specs.Databases.{ChangesAt, HandsOut, Lists, SameLists, Standing, told_by}
use Rattle.qz_sqlfolders.specs.Folders.{IsOpenedAs, IsSettled, KeepsElsewhere, Stays, Telling, catalog_place, part_place, standing_of}
use Rattle.qz_sqlfolders.specs.Names.{catalog_name, part_name}

-- ---- places

names-apart : part_name ≡ catalog_name → ⊥
names-apart is = false≢true ((bytes_eq-Decides part_name catalog_name).1 is)

pub apart : (folder : List ℕ) → part_place folder ≡ catalog_place folder → ⊥
apart folder same = names-apart (ap (λ (p : Place). p.name) same)

pub apart-too : (folder : List ℕ) → catalog_place folder ≡ part_place folder → ⊥
apart-too folder same = apart folder (sym same)

-- the other database is out as it was
pub part-kept : (folder : List ℕ) (old new : Lists) → ChangesAt (catalog_place folder) old new → (new.is_out (part_place folder) ≡ old.is_out (part_place folder)) × (new.list (part_place folder) ≡ old.list (part_place folder))
part-kept folder old new changes = (changes.is_out (part_place folder) (apart folder), changes.list (part_place folder) (apart folder))

pub catalog-kept : (folder : List ℕ) (old new : Lists) → ChangesAt (part_place folder) old new → (new.is_out (catalog_place folder) ≡ old.is_out (catalog_place folder)) × (new.list (catalog_place folder) ≡ old.list (catalog_place folder))
catalog-kept folder old new changes = (changes.is_out (catalog_place folder) (apart-too folder), changes.list (catalog_place folder) (apart-too folder))

pub elsewhere-by-catalog : (folder : List ℕ) (old new : Lists) → ChangesAt (catalog_place folder) old new → KeepsElsewhere folder old new
elsewhere-by-catalog folder old new changes = record { is_out = λ at none. changes.is_out at none.no_catalog; list = λ at none. changes.list at none.no_catalog }

pub elsewhere-by-part : (folder : List ℕ) (old new : Lists) → ChangesAt (part_place folder) old new → KeepsElsewhere folder old new
elsewhere-by-part folder old new changes = record { is_out = λ at none. changes.is_out at none.no_part; list = λ at none. changes.list at none.no_part }

pub elsewhere-same : (folder : List ℕ) (old new : Lists) → SameLists old new → KeepsElsewhere folder old new
elsewhere-same folder old new same = record { is_out = λ at none. same.is_out at; list = λ at none. same.list at }

pub elsewhere-both : (folder : List ℕ) (old mid new : Lists) → KeepsElsewhere folder old mid → KeepsElsewhere folder mid new → KeepsElsewhere folder old new
elsewhere-both folder old mid new one two = record { is_out = λ at none. two.is_out at none ∙ one.is_out at none; list = λ at none. two.list at none ∙ one.list at none }

-- ---- keepers

told-kept : (tells : Bool) (kept : Option (List (List ℕ))) (found : List (List ℕ)) → kept ≡ told_by tells found → IfSome kept (λ told. told ≡ found)
told-kept true kept found is = subst (λ o. IfSome o (λ told. told ≡ found)) (sym is) refl
told-kept false kept found is = subst (λ o. IfSome o (λ told. told ≡ found)) (sym is) tt

-- a database that was handed out
pub opened-as : {K : Type 0} (t : Telling K) (faults : K → ℕ) (at : Place) (old new : Lists) (tells : Bool) (keeper : K) (found : List (List ℕ)) → HandsOut at old new tells (t.kept keeper) (t.doubt keeper) found → faults keeper ≡ 0 → IsOpenedAs t faults (old.list at) keeper found
opened-as t faults at old new tells keeper found hands fresh = record { settled = hands.stands; kept = told-kept tells (t.kept keeper) found hands.told; fresh = fresh }

pub opened-like : {K : Type 0} (t : Telling K) (faults : K → ℕ) (stood like : Standing) (keeper : K) (found : List (List ℕ)) → like ≡ stood → IsOpenedAs t faults like keeper found → IsOpenedAs t faults stood keeper found
opened-like t faults stood like keeper found same opened = subst (λ s. IsOpenedAs t faults s keeper found) same opened

-- one that was given back as it was handed out
pub stays-settled : {K : Type 0} (t : Telling K) (faults : K → ℕ) (stood now : Standing) (keeper : K) (found : List (List ℕ)) → IsOpenedAs t faults stood keeper found → now ≡ standing_of t keeper → Stays stood now
stays-settled t faults stood now keeper found opened is = inr (found, subst (λ s. IsSettled stood s found) (sym is) opened.settled)

-- ---- counts

pub rises-both : (a b old mid now : ℕ) → RisesBy a old mid → RisesBy b mid now → RisesBy (a + b) old now
rises-both a b old mid now one two = record { later = omega (arith, one.later, two.later); risen = λ few. (let n = two.risen few in let m = one.risen (omega (arith, two.later, few)) in omega (arith, n, m)) }
