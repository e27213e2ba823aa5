-- How a command ends that serves the school of a folder: a school as it was loaded, and as it was given back.
use Rattle.std.specs.Prelude.{◌≡◌, ◌⊎◌, ℕ, ◌≤◌, List, length, Option, Some, None, IfSome, Ok, Err, slice_get}
use Rattle.std.specs.Io.KnownBytes.{Keeps}
use Rattle.qz_disks.specs.Shelves.{File, Files, NoneOutIn}
use Rattle.qz_ending.specs.declared.stop.Stop.{Stop}
use Rattle.qz_ending.specs.Endings.{Outside}
use Rattle.qz_found.specs.FoundEndings.{Shelved, Sunk}
use Rattle.qz_journal.specs.Journals.{IsSound, Ledger}
use Rattle.qz_loading.specs.Closing.{StandForList}
use Rattle.qz_loading.specs.Opening.{IsLoadedFrom}
use Rattle.qz_loading.specs.Places.{KeepsElsewhere, catalog_place, part_place}
use Rattle.qz_opening.specs.Restarting.{Reopens}
use Rattle.qz_opening.specs.Unloaded.{UnloadedBy}
use Rattle.qz_outside.specs.Causes.{HasRisen}
use Rattle.qz_script.specs.Retries.{Seen}
use Rattle.qz_script.specs.Scripts.{HasRisenBy, ServeEnds}
use Rattle.qz_shard.specs.Keeping as part
use Rattle.qz_school.specs.Solos.{GoOn, School, faults_of, lists_in}
use Rattle.qz_solo.specs.Standing.{StandAsSchool}
use Rattle.qz_terms.specs.Serial.{Held}

-- what is told of the disks of a shelf: the moment of one, what a crash at each moment may have left of it, that it fails no call, and how
-- often it has failed
pub record Disks (D : Type 0) : Type 1 where
  pub moment : D → ℕ
  pub left_at : D → ℕ → List ℕ → Type 0
  pub sound : D → Type 0
  pub faults : D → ℕ

-- how often the disk of a list's file failed
abbrev pub journal_faults : {D : Type 0} → Disks D → Ledger D → ℕ
journal_faults disks journal = disks.faults journal.disk

-- how often those of a school's files failed, in all
abbrev pub disk_faults : {D : Type 0} → Disks D → School (Ledger D) → ℕ
disk_faults disks a = faults_of (journal_faults disks) a

-- what is seen of a school whose lists journals keep
abbrev pub seen_of : {D : Type 0} → Disks D → School (Ledger D) → Seen
seen_of disks a = record { lists = lists_in a; faults = disk_faults disks a }

-- ---- a school that is served

-- each image that a crash may leave of a file stands for a list then, where the file was told
abbrev pub IsStanding : Held → File → File → Type 0
IsStanding held old new = IfSome old.reads (λ _. StandForList held new.left)

-- so do those of these shards' files
pub record PartsStand {D : Type 0} (folder : List ℕ) (parts : List (part.Keeping (Ledger D))) (old new : Files) : Type 0 where
  pub each : (k : ℕ) (s : part.Keeping (Ledger D)) → slice_get parts k ≡ Some s → IsStanding s.held (old.file (part_place folder k)) (new.file (part_place folder k))

-- The files of a folder gave the school a, and took b back: each stands for its list then, and no other file on the shelf changed. Whichever
-- of the lists that may stand do, they are a school's.
pub record IsGivenBack {D : Type 0} (disks : Disks D) (folder : List ℕ) (old new : Shelved) (a b : School (Ledger D)) : Type 0 where
  pub loaded : IsLoadedFrom disks.moment disks.left_at folder old.files a.catalog a.parts
  pub count : length b.parts ≡ length a.parts
  pub later : disk_faults disks a ≤ disk_faults disks b
  pub catalog : IsStanding b.catalog.held (old.files.file (catalog_place folder)) (new.files.file (catalog_place folder))
  pub parts : PartsStand folder b.parts old.files new.files
  pub school : StandAsSchool (lists_in b)
  pub others : KeepsElsewhere folder (length a.parts) old.files new.files
  -- the shelf's count takes those of the disks
  pub risen : HasRisenBy old.faults (disk_faults disks b) new.faults
  -- so however often they failed while it was served, the shelf's count rose as often
  pub as_often : (n : ℕ) → HasRisenBy (disk_faults disks a) n (disk_faults disks b) → HasRisenBy old.faults n new.faults

-- It was served so, from what it was as it was loaded to what it was as it was given back. Where the files stand for the lists of a school, it
-- was loaded with these.
pub record ServedFolder {D : Type 0} (disks : Disks D) (folder : List ℕ) (serves : School (Ledger D) → School (Ledger D) → Type 0) (old new : Shelved) : Type 0 where
  pub loaded : School (Ledger D)
  pub closed : School (Ledger D)
  pub restarts : Reopens folder old.files (Ok loaded)
  pub back : IsGivenBack disks folder old new loaded closed
  pub served : serves loaded closed

-- one after the other asked it, from what is seen of it before to what is seen of it afterwards, and disks that fail no call failed none
pub record ServedAlone {D : Type 0} (disks : Disks D) (serves : Seen → Seen → Type 0) (a b : School (Ledger D)) : Type 0 where
  pub goes_on : GoOn (IsSound disks.sound) (journal_faults disks) a b
  pub ends : serves (seen_of disks a) (seen_of disks b)

-- ---- how a command ends

-- The files don't give a school, and nothing else was done. Where they stand for the lists of one, a fault or want of memory kept it from being
-- opened.
abbrev pub Unserved : {D : Type 0} → Disks D → List ℕ → Type 0 → Shelved → Shelved → Sunk → Sunk → Option Stop → Type 0
Unserved disks folder stays old new before now None = ⊥
Unserved {D} disks folder stays old new before now (Some s) = UnloadedBy folder old new before now s × Reopens {D = D} folder old.files (Err s) × stays

-- The school of a folder was served so, or the files don't give one, and this stays. Each file is given back, and no count falls.
pub record FolderEnds {D : Type 0} (disks : Disks D) (folder : List ℕ) (serves : School (Ledger D) → School (Ledger D) → Option Stop → Type 0) (stays : Type 0) (old new : Shelved) (before now : Sunk) (s : Option Stop) : Type 0 where
  pub by : ServedFolder disks folder (λ a b. serves a b s) old new ⊎ Unserved disks folder stays old new before now s
  pub none_out : NoneOutIn folder new.files
  pub later : old.faults ≤ new.faults

abbrev pub sunk : Outside → Sunk
sunk o = record { holds = o.holds; faults = o.sink_faults }

-- a script was answered over it, or nothing of the source was read
abbrev pub ScriptFolderEnds : {D : Type 0} → Disks D → List ℕ → ℕ → Shelved → Shelved → Outside → Outside → Option Stop → Type 0
ScriptFolderEnds disks folder limit old new before now s =
    FolderEnds disks folder (λ a b t. ServedAlone disks (λ from to. ServeEnds limit from to before now t) a b) (Keeps before.left now.left) old new (sunk before) (sunk now) s

-- Where no count rose and the source is within the limit, all of it is answered, or the files don't give a school, or memory was wanting.
pub record ServesFolder (limit : ℕ) (old new : Shelved) (before now : Outside) (status : ℕ) : Type 0 where
  pub done : (text : List ℕ) → before.left ≡ Some text → length text ≤ limit
      → ¬ HasRisen before.source_faults now.source_faults → ¬ HasRisen before.sink_faults now.sink_faults → ¬ HasRisen old.faults new.faults
      → (status ≡ 0) ⊎ ((status ≡ 7) ⊎ (status ≡ 8))
