-- No file of a shelf is out.
use Rattle.std.proofs.Common.{◌≡◌, ◌⊎◌, ℕ, Bool, true, false, List, length, Option, Some, None, inl, inr, refl, sym, ap, ◌∙◌, subst}
use Rattle.std.specs.Prelude.{bytes_eq}
use Rattle.std.proofs.lemmas.Bool.{true≢false}
use Rattle.std.proofs.lemmas.Slice.Eq.{bytes_eq-Decides}
use Rattle.qz_disks.specs.Shelves.{ChangesAt, Files, NoneOutIn, Place, place}
use Rattle.qz_ending.specs.declared.stop.Stop.{Stop}
use Rattle.qz_found.specs.FoundEndings.{Shelved, Sunk}
use Rattle.qz_journal.specs.Journals.{Ledger}
use Rattle.qz_loading.specs.Places.{IsElsewhere, KeepsElsewhere}
use Rattle.qz_script_schools.specs.Folders.{Disks, FolderEnds, ServedFolder, Unserved}
use Rattle.qz_script_schools.proofs.FolderLemmas.{unloaded-for}
use Rattle.qz_school.specs.Solos.{School}
use Rattle.quizd.specs.Commands.{NoneOut}

same-folder : (folder : List ℕ) (at : Place) → at.folder ≡ folder → place folder at.name ≡ at
same-folder folder at is = ap (λ (f : List ℕ). place f at.name) (sym is)

other-folder : (folder : List ℕ) (count : ℕ) (at : Place) → (at.folder ≡ folder → ⊥) → IsElsewhere folder count at
other-folder folder count at apart = record {
  no_catalog = λ is. apart (ap (λ (p : Place). p.folder) is);
  no_part = record { each = λ k within is. apart (ap (λ (p : Place). p.folder) is) };
}

none-out-by : (folder : List ℕ) (old new : Files) (at : Place) (b : Bool) → bytes_eq at.folder folder ≡ b → NoneOut old.is_out → NoneOutIn folder new → ((at.folder ≡ folder → ⊥) → new.is_out at ≡ old.is_out at) → new.is_out at ≡ false
none-out-by folder old new at true same was inside apart =
    let is : at.folder ≡ folder = (bytes_eq-Decides at.folder folder).0 same in
    subst (λ (p : Place). new.is_out p ≡ false) (same-folder folder at is) (inside.each at.name)
none-out-by folder old new at false same was inside apart =
    let other : at.folder ≡ folder → ⊥ = λ is. true≢false (sym ((bytes_eq-Decides at.folder folder).1 is) ∙ same) in
    apart other ∙ was.each at

elsewhere_none_out : (folder : List ℕ) (count : ℕ) (old new : Files) → NoneOut old.is_out → NoneOutIn folder new → KeepsElsewhere folder count old new → NoneOut new.is_out
elsewhere_none_out folder count old new was inside apart = record { each = λ at. none-out-by folder old new at (bytes_eq at.folder folder) refl was inside (λ other. apart.is_out at (other-folder folder count at other)) }

pub one_none_out : (folder name : List ℕ) (old new : Files) → NoneOut old.is_out → NoneOutIn folder new → ChangesAt (place folder name) old new → NoneOut new.is_out
one_none_out folder name old new was inside others = record { each = λ at. none-out-by folder old new at (bytes_eq at.folder folder) refl was inside (λ other. others.is_out at (λ is. other (ap (λ (p : Place). p.folder) is))) }

pub folder_none_out : {D : Type 0} (disks : Disks D) (folder : List ℕ) (serves : School (Ledger D) → School (Ledger D) → Option Stop → Type 0) (kept : Type 0) (old new : Shelved) (before now : Sunk) (s : Option Stop)
    → NoneOut old.files.is_out → FolderEnds disks folder serves kept old new before now s → NoneOut new.files.is_out
folder_none_out disks folder serves kept old new before now s was e = by s e.by
  where
    by : (t : Option Stop) → ServedFolder disks folder (λ a b. serves a b t) old new ⊎ Unserved disks folder kept old new before now t → NoneOut new.files.is_out
    by t (inl done) = elsewhere_none_out folder (length done.loaded.parts) old.files new.files was e.none_out done.back.others
    by None (inr not) = absurd not
    by (Some t) (inr not) = record { each = λ at. (unloaded-for folder old new before now t not.0).unloaded.stay.is_out at ∙ was.each at }
