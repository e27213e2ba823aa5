-- How a file is opened as a journal, and what becomes of one that can't be.
use Rattle.std.specs.Prelude.{◌≡◌, ℕ, ◌≤◌, List, None, option_map, IfSome, Result, Ok, Err, IsErrOf, ⊤}
use Rattle.qz_outside.specs.Causes.{HasRisen}
use Rattle.qz_disks.specs.Shelves.{File}
use Rattle.qz_journal.specs.Frames.{stands_for}
use Rattle.qz_journal.specs.Journals.{Ledger, StandFor, StandsAs, IsSound}
use Rattle.qz_folders.specs.declared.fault.OpenFault.{OpenFault}
use Rattle.qz_folders.specs.declared.fault.OpenFault.TheVariants.{Damaged, Fault, Memory}

-- Since a moment at which a file was handed out a crash at each moment leaves what has P; at the first it left no more than of
-- the file.
pub record LeavesSince (P : List ℕ → Type 0) (file : File) (now : ℕ) (left_at : ℕ → List ℕ → Type 0) : Type 0 where
  pub began : ℕ
  pub later : began ≤ now
  pub begins : (c : List ℕ) → left_at began c → file.left c
  pub each : (t : ℕ) (c : List ℕ) → began ≤ t → t ≤ now → left_at t c → P c

-- A journal keeps exactly the payloads that a file stood for, and none is in doubt; from then on each crash leaves them, and
-- until then each left a list that one might have left before.
pub record IsOpened {D : Type 0} (moment : D → ℕ) (left_at : D → ℕ → List ℕ → Type 0) (file : File) (journal : Ledger D) (payloads : List (List ℕ)) : Type 0 where
  pub list : IfSome file.reads (λ bytes. stands_for bytes ≡ Ok payloads)
  pub kept : journal.kept ≡ option_map (λ _. payloads) file.reads
  pub no_doubt : journal.doubt ≡ None
  pub acknowledged : IfSome file.reads (λ _. StandFor payloads None (left_at journal.disk (moment journal.disk)))
  pub any_moment : IfSome file.reads (λ _. LeavesSince (StandsAs file.left) file (moment journal.disk) (left_at journal.disk))

-- each image that a crash may leave of a file stands for what one stood for that it might have left before, damage included
pub record StandsStill (old new : List ℕ → Type 0) : Type 0 where
  pub each : (c : List ℕ) → new c → StandsAs old c

-- damage is told with its place
abbrev pub TellsDamage : Result (List (List ℕ)) ℕ → OpenFault → Type 0
TellsDamage reading (Damaged place) = reading ≡ Err place
TellsDamage reading Fault = ⊤
TellsDamage reading Memory = ⊤

-- a count of faults never falls, and this fault is told only where it rose
pub record IsCaused {T E : Type 0} (fault : E) (before now : ℕ) (result : Result T E) : Type 0 where
  pub later : before ≤ now
  pub failed : IsErrOf result fault → HasRisen before now

-- A journal whose disk fails no call, and has failed none. Where the file was told, its keeper is sound.
pub record IsSoundOut {D : Type 0} (sound : D → Type 0) (faults : D → ℕ) (file : File) (journal : Ledger D) : Type 0 where
  pub disk : sound journal.disk
  pub no_faults : faults journal.disk ≡ 0
  pub keeper : IfSome file.reads (λ _. IsSound sound journal)
