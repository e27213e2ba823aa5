-- A school of a folder that is analysed: its lists are sound, and what is said of them.
use Rattle.std.proofs.Common.{◌≡◌, ◌⊎◌, ℕ, ◌≤◌, List, length, get_or, Option, Some, None, Result, Ok, Err, inl, inr, refl, sym, ap, subst, ◌∙◌, arith, All}
use Rattle.std.specs.Prelude.{IfOk, String, string_bytes}
use Rattle.std.proofs.lemmas.List.Elements.{All-map}
use Rattle.std.proofs.lemmas.Option.{slice_get-get_or}
use Rattle.qz_book.specs.Held.{IsSound}
use Rattle.qz_catalog.specs.Keeping as catalog
use Rattle.qz_disks.specs.Shelves.{Files}
use Rattle.qz_ending.specs.declared.stop.Stop.{Stop}
use Rattle.qz_ending.specs.declared.stop.Stop.TheVariants as stop
use Rattle.qz_ending.specs.Endings.{status_of}
use Rattle.qz_found.specs.FoundEndings.{Shelved, Sunk}
use Rattle.qz_journal.specs.Journals.{Ledger}
use Rattle.qz_loading.specs.Opening.{IsLoadedFrom, lists_of}
use Rattle.qz_opening.specs.Unloaded.{UnloadedBy}
use Rattle.qz_outside.specs.Causes.{HasRisen}
use Rattle.qz_school.specs.Solos.{School}
use Rattle.qz_script_schools.specs.Folders.{Disks, ServedFolder, Unserved, disk_faults}
use Rattle.qz_script_schools.proofs.FolderLemmas.{not_raised, unserved_status}
use Rattle.qz_shard.specs.Keeping as part
use Rattle.qz_stats_school.specs.Lines.{stats_text}
use Rattle.qz_stats_school.specs.Endings.{Analysed, IsSaid, IsWritten, SaysAll, StatsEnds}

-- ---- lists

pub loaded-sound : {D : Type 0} (moment : D → ℕ) (left_at : D → ℕ → List ℕ → Type 0) (folder : List ℕ) (files : Files) (c : catalog.Keeping (Ledger D)) (parts : List (part.Keeping (Ledger D))) → IsLoadedFrom moment left_at folder files c parts → All IsSound (lists_of parts)
loaded-sound moment left_at folder files c parts loaded =
    All-map IsSound (λ (s : part.Keeping (Ledger _)). s.held.list) parts (λ k d inside.
    record { index = k; count = length parts; held = (loaded.parts_are.each k (get_or parts k d) (slice_get-get_or parts k d inside)).loaded.loaded.held })

-- ---- what is said

pub said-written : {Z E : Type 0} (told : Result (String Z) E) (text : List ℕ) (before now : Sunk) (s : Option Stop) → IfOk told (λ t. string_bytes t ≡ text) → IsSaid told before now s → IsWritten text before now s
said-written (Ok t) text before now s is said = subst (λ (bytes : List ℕ). IsWritten bytes before now s) is said
said-written (Err e) text before now s is said = subst (IsWritten text before now) (sym said.0) said.1

written-status : (text : List ℕ) (before now : Sunk) (s : Option Stop) → IsWritten text before now s → ¬ HasRisen before.faults now.faults → (status_of s ≡ 0) ⊎ (status_of s ≡ 8)
written-status text before now None written quiet = inl refl
written-status text before now (Some stop.BadWords) written quiet = absurd written
written-status text before now (Some (stop.Malformed line)) written quiet = absurd written
written-status text before now (Some (stop.Unreadable line rule)) written quiet = absurd written
written-status text before now (Some stop.SourceFault) written quiet = absurd written
written-status text before now (Some stop.SinkFault) written quiet = absurd (quiet written.1)
written-status text before now (Some stop.ShelfFault) written quiet = absurd written
written-status text before now (Some stop.Refused) written quiet = absurd written
written-status text before now (Some stop.Memory) written quiet = inr refl
written-status text before now (Some stop.TooLong) written quiet = absurd written
written-status text before now (Some stop.DoorFault) written quiet = absurd written
written-status text before now (Some stop.Gap) written quiet = absurd written

pub says_all : {D : Type 0} (disks : Disks D) (folder : List ℕ) (quiz : ℕ) (old new : Shelved) (before now : Sunk) (s : Option Stop) → StatsEnds disks folder quiz old new before now s → SaysAll old new before now (status_of s)
says_all disks folder quiz old new before now s ends = record { done = λ sink shelf. by sink shelf ends.by }
  where
    by : ¬ HasRisen before.faults now.faults → ¬ HasRisen old.faults new.faults → ServedFolder disks folder (λ a b. Analysed quiz before now s a b) old new ⊎ Unserved disks folder (Unit {0}) old new before now s
        → (status_of s ≡ 0) ⊎ ((status_of s ≡ 7) ⊎ (status_of s ≡ 8))
    by sink shelf (inl done) = elim (written-status _ before now s done.served.written sink) [ inl all ↦ inl all | inr wanting ↦ inr (inr wanting) ]
    by sink shelf (inr not) = inr (unserved_status disks folder (Unit {0}) old new before now s not sink shelf)

pub unsaid : (folder : List ℕ) (old new : Shelved) (before now : Sunk) (s : Stop) → UnloadedBy folder old new before now s → SaysAll old new before now (status_of (Some s))
unsaid folder old new before now s u = record { done = λ sink shelf. inr (not_raised folder old new before now s u sink shelf) }

pub said-of : {D Z E : Type 0} (told : Result (String Z) E) (quiz : ℕ) (shown : List (part.Keeping (Ledger D))) (a : School (Ledger D)) → shown ≡ a.parts → IfOk told (λ t. string_bytes t ≡ stats_text (lists_of shown) quiz)
    → IfOk told (λ t. string_bytes t ≡ stats_text (lists_of a.parts) quiz)
said-of {D} told quiz shown a same is = subst (λ (ps : List (part.Keeping (Ledger D))). IfOk told (λ t. string_bytes t ≡ stats_text (lists_of ps) quiz)) same is

-- ---- a school that is taken apart and made again

pub school-same : {D : Type 0} (a b : School (Ledger D)) (c : catalog.Keeping (Ledger D)) (parts : List (part.Keeping (Ledger D))) → b ≡ record { catalog = c; parts = parts } → c ≡ a.catalog → parts ≡ a.parts → b ≡ a
school-same {D} a b c parts made front back =
    let of : catalog.Keeping (Ledger D) → List (part.Keeping (Ledger D)) → School (Ledger D) = λ x ps. record { catalog = x; parts = ps } in
    made ∙ (ap (λ (x : catalog.Keeping (Ledger D)). of x parts) front ∙ ap (of a.catalog) back)

pub faults-same : {D : Type 0} (disks : Disks D) (a b : School (Ledger D)) → b ≡ a → disk_faults disks a ≤ disk_faults disks b
faults-same {D} disks a b same = subst (λ (x : School (Ledger D)). disk_faults disks a ≤ disk_faults disks x) (sym same) (omega arith)
