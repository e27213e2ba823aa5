-- How the command that founds a school ends.
use Rattle.std.specs.Prelude.{◌≡◌, ◌⊎◌, ℕ, List, [], ◌∷◌, ◌++◌, Option, Some, None, IfSome, Result, Ok, Err, codes, decimal}
use Rattle.std.specs.Io.KnownBytes.{Appends, Keeps}
use Rattle.qz_outside.specs.Causes.{HasRisen}
use Rattle.qz_outside.specs.Sources.{AppendsFront}
use Rattle.qz_disks.specs.Shelves.{ChangesAt, File, Files, NoneOutIn, place}
use Rattle.qz_terms.specs.Spelling.{spelling}
use Rattle.qz_journal.specs.Frames.{stands_for}
use Rattle.qz_folders.specs.declared.fault.FoundFault.{FoundFault}
use Rattle.qz_folders.specs.declared.fault.FoundFault.TheVariants as fault
use Rattle.qz_folders.specs.Founding.{EndsFounding, founding}
use Rattle.qz_folders.specs.Names.{catalog_name}
use Rattle.qz_ending.specs.declared.stop.Stop.{Stop}
use Rattle.qz_ending.specs.declared.stop.Stop.TheVariants as stop

-- the school that is to be founded: its folder, how many shards it has, and its manager's token
pub record School : Type 0 where
  pub folder : List ℕ
  pub shards : ℕ
  pub token : List ℕ

-- the files of a shelf, and its count of faults, to which those of its disks are added as they are given back
pub record Shelved : Type 1 where
  pub files : Files
  pub faults : ℕ

-- what a sink holds, where it tells it, and its count of faults
pub record Sunk : Type 0 where
  pub holds : Option (List ℕ)
  pub faults : ℕ

-- the file of the catalogue of the school in a folder
abbrev pub catalog_in : List ℕ → Shelved → File
catalog_in folder shelf = shelf.files.file (place folder catalog_name)

-- What became of the catalogue's list, where the shelf tells its file: it was empty and is the founding's record from then on, or this fault
-- kept it from that.
abbrev pub Founds : School → Shelved → Shelved → Result (Unit {0}) FoundFault → Type 0
Founds school old new result =
    IfSome (catalog_in school.folder old).reads (λ bytes. EndsFounding (spelling (founding school.shards school.token)) bytes
    (catalog_in school.folder old).left (catalog_in school.folder new).left result)

-- ---- what is said of it

abbrev pub founded_line : ℕ → List ℕ
founded_line shards = codes "founded " ++ (decimal shards ++ 10 ∷ [])

abbrev pub already_line : List ℕ
already_line = codes "founded already" ++ 10 ∷ []

-- the catalogue's file is damaged at this place
abbrev pub damaged_line : ℕ → List ℕ
damaged_line place = codes "damaged catalog.jnl " ++ (decimal place ++ 10 ∷ [])

-- only these two faults are refusals
abbrev pub refusal_of : FoundFault → Option (List ℕ)
refusal_of fault.Already = Some already_line
refusal_of (fault.Damaged place) = Some (damaged_line place)
refusal_of fault.Fault = None
refusal_of fault.Memory = None

abbrev pub said_of : ℕ → Result (Unit {0}) FoundFault → Option (List ℕ)
said_of shards (Ok done) = Some (founded_line shards)
said_of shards (Err fault) = refusal_of fault

-- ---- how it ends

-- the school is founded, and that was written
pub record FoundDone (school : School) (old new : Shelved) (before now : Sunk) : Type 0 where
  pub founds : Founds school old new (Ok tt)
  pub written : Appends before.holds now.holds (founded_line school.shards)

-- the catalogue's list isn't empty, or its file is damaged, and that was written
pub record FoundRefused (school : School) (old new : Shelved) (before now : Sunk) : Type 0 where
  pub cause : FoundFault
  pub line : List ℕ
  pub founds : Founds school old new (Err cause)
  pub said : refusal_of cause ≡ Some line
  pub written : Appends before.holds now.holds line

-- the shelf failed, or the file's disk, and nothing was written
pub record FoundFailed (school : School) (old new : Shelved) (before now : Sunk) : Type 0 where
  pub founds : Founds school old new (Err fault.Fault)
  pub unwritten : Keeps before.holds now.holds
  pub risen : HasRisen old.faults new.faults

-- the school is founded or refused, and the sink failed under what is said of it, behind a front
pub record FoundUnsaid (school : School) (old new : Shelved) (before now : Sunk) : Type 0 where
  pub result : Result (Unit {0}) FoundFault
  pub line : List ℕ
  pub founds : Founds school old new result
  pub said : said_of school.shards result ≡ Some line
  pub written : AppendsFront before.holds now.holds line
  pub risen : HasRisen before.faults now.faults

-- memory was wanting: the list is as it was, and nothing was written
pub record FoundNone (school : School) (old new : Shelved) (before now : Sunk) : Type 0 where
  pub founds : Founds school old new (Err fault.Memory)
  pub unwritten : Keeps before.holds now.holds

abbrev pub FoundBy : School → Shelved → Shelved → Sunk → Sunk → Option Stop → Type 0
FoundBy school old new before now None = FoundDone school old new before now
FoundBy school old new before now (Some stop.SinkFault) = FoundUnsaid school old new before now
FoundBy school old new before now (Some stop.ShelfFault) = FoundFailed school old new before now
FoundBy school old new before now (Some stop.Refused) = FoundRefused school old new before now
FoundBy school old new before now (Some stop.Memory) = FoundNone school old new before now
FoundBy school old new before now (Some s) = ⊥

-- it ends for this cause; the catalogue's file is given back, and no other changes
pub record FoundEnds (school : School) (old new : Shelved) (before now : Sunk) (s : Option Stop) : Type 0 where
  pub by : FoundBy school old new before now s
  pub none_out : NoneOutIn school.folder new.files
  pub others : ChangesAt (place school.folder catalog_name) old.files new.files

-- Where no count rose and the shelf tells a file of the empty list, the school is founded, or memory was wanting.
pub record FoundsAll (school : School) (old new : Shelved) (before now : Sunk) (status : ℕ) : Type 0 where
  pub done : (bytes : List ℕ) → (catalog_in school.folder old).reads ≡ Some bytes → stands_for bytes ≡ Ok []
      → ¬ HasRisen old.faults new.faults → ¬ HasRisen before.faults now.faults → (status ≡ 0) ⊎ (status ≡ 8)
