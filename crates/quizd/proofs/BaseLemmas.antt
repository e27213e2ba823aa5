-- No database of bases is out.
use Rattle.std.proofs.Common.{◌≡◌, ⊎_elim, ℕ, false, List, sym, ◌∙◌, subst}
use Rattle.qz_disks.specs.Shelves.{Place}
use Rattle.qz_disks.proofs.SlotLemmas.{apart_or_same}
use Rattle.qz_sqlbases.specs.Databases.{ChangesAt, Lists}
use Rattle.qz_sqlfolders.specs.Folders.{AreOut, KeepsElsewhere, catalog_place, part_place}
use Rattle.quizd.specs.Commands.{NoneOut}

in_none : (lists : Lists) (here at : Place) → lists.is_out here ≡ false → at ≡ here → lists.is_out at ≡ false
in_none lists here at free same = subst (λ (p : Place). lists.is_out p ≡ false) (sym same) free

pub neither_out : (folder : List ℕ) (lists : Lists) → NoneOut lists.is_out → AreOut false folder lists
neither_out folder lists none = record { catalog = none.each (catalog_place folder); part = none.each (part_place folder) }

off_part : (folder : List ℕ) (old new : Lists) (at : Place) → NoneOut old.is_out → AreOut false folder new → KeepsElsewhere folder old new → (at ≡ catalog_place folder → ⊥) → new.is_out at ≡ false
off_part folder old new at was free apart unlike = ⊎_elim
    (λ same. in_none new (part_place folder) at free.part same)
    (λ other. apart.is_out at (record { no_catalog = unlike; no_part = other }) ∙ was.each at)
    (apart_or_same at (part_place folder))

off_both : (folder : List ℕ) (old new : Lists) (at : Place) → NoneOut old.is_out → AreOut false folder new → KeepsElsewhere folder old new → new.is_out at ≡ false
off_both folder old new at was free apart = ⊎_elim
    (λ same. in_none new (catalog_place folder) at free.catalog same)
    (λ unlike. off_part folder old new at was free apart unlike)
    (apart_or_same at (catalog_place folder))

-- where both of a folder are back
pub both_none_out : (folder : List ℕ) (old new : Lists) → NoneOut old.is_out → AreOut false folder new → KeepsElsewhere folder old new → NoneOut new.is_out
both_none_out folder old new was free apart = record { each = λ at. off_both folder old new at was free apart }

off_one : (here : Place) (old new : Lists) (at : Place) → NoneOut old.is_out → new.is_out here ≡ false → ChangesAt here old new → new.is_out at ≡ false
off_one here old new at was free others = ⊎_elim
    (λ same. in_none new here at free same)
    (λ unlike. others.is_out at unlike ∙ was.each at)
    (apart_or_same at here)

-- where one is back
pub base_none_out : (here : Place) (old new : Lists) → NoneOut old.is_out → new.is_out here ≡ false → ChangesAt here old new → NoneOut new.is_out
base_none_out here old new was free others = record { each = λ at. off_one here old new at was free others }
