-- What a disk in memory went through, and what a crash leaves of it.
use Rattle.std.specs.Prelude.{◌≡◌, ◌⊎◌, ℕ, List, [], ◌∷◌, length, take, refl}
use Rattle.std.proofs.Common.{ap, sym}
use mathlib.Core.Logic.{inl}
use Rattle.qz_disks.specs.Disks.{overwritten, Torn, Cut, Room}

-- a write of a piece at a place, a cut to a size, or a sync
pub data Change : Type 0 where
  Wrote : ℕ → List ℕ → Change
  Shortened : ℕ → Change
  Synced : Change

-- what a read gives after a change
abbrev pub changed : Change → List ℕ → List ℕ
changed (Wrote at piece) bytes = overwritten at piece bytes
changed (Shortened size) bytes = take size bytes
changed Synced bytes = bytes

-- what a crash may leave after a change of a disk that read as these bytes, of which a crash might have left these outcomes
abbrev pub Outcome : Change → (List ℕ → Type 0) → List ℕ → List ℕ → Type 0
Outcome (Wrote at piece) outcomes bytes c = (d : List ℕ) × outcomes d × Torn at (length piece) d c
Outcome (Shortened size) outcomes bytes c = (d : List ℕ) × outcomes d × Cut size d c
Outcome Synced outcomes bytes c = c ≡ bytes

abbrev pub changed_all : List Change → List ℕ → List ℕ
changed_all [] bytes = bytes
changed_all (change ∷ rest) bytes = changed_all rest (changed change bytes)

abbrev pub OutcomeOfAll : List Change → (List ℕ → Type 0) → List ℕ → List ℕ → Type 0
OutcomeOfAll [] outcomes bytes c = outcomes c
OutcomeOfAll (change ∷ rest) outcomes bytes c = OutcomeOfAll rest (Outcome change outcomes bytes) (changed change bytes) c

-- what a disk that was empty at first reads as after these changes
abbrev pub content : List Change → List ℕ
content changes = changed_all changes []

-- what a crash may leave of it: the disk as it reads, or an outcome of the changes
abbrev pub MayLeave : List Change → List ℕ → Type 0
MayLeave changes c = (c ≡ content changes) ⊎ OutcomeOfAll changes (λ d. d ≡ []) [] c

-- what a crash at a moment may have left of it: after so many of the changes
abbrev pub LeftAt : List Change → ℕ → List ℕ → Type 0
LeftAt changes t c = MayLeave (take t changes) c

take_length : (changes : List Change) → take (length changes) changes ≡ changes
take_length [] = refl
take_length (change ∷ rest) = ap (λ (l : List Change). change ∷ l) (take_length rest)

-- a disk as it reads may be left now
pub left_now : (changes : List Change) → MayLeave (take (length changes) changes) (content changes)
left_now changes = inl (ap content (sym (take_length changes)))

-- a disk in memory: what it went through since it was empty, the room made for it, the numbers of the calls that are to fail,
-- and how many calls and faults there were
pub record History : Type 0 where
  pub changes : List Change
  pub room : Room
  pub failing : List ℕ
  pub calls : ℕ
  pub faults : ℕ

-- a disk on which these bytes stand, all of them synced
abbrev pub holding : List ℕ → List Change
holding bytes = Wrote 0 bytes ∷ Synced ∷ []
