-- What reading a source whole and writing all of some bytes leave, and what sources and sinks in memory hold.
use Rattle.std.specs.Prelude.{◌≡◌, ℕ, ◌+◌, ◌-◌, ◌<◌, ◌≤◌, min, ◌==◌, nat_lt, ◌&&◌, if◌then◌else◌, List, ◌++◌, length, take, drop, Option, Result, MatchResult}
use Rattle.std.specs.Io.KnownBytes.{Appends, Consumes, IsAtEnd}
use Rattle.qz_outside.specs.declared.read.ReadStop.{ReadStop}
use Rattle.qz_outside.specs.declared.read.ReadStop.TheVariants.{Fault, TooLong, Memory}
use Rattle.qz_outside.specs.Causes.{HasRisen, counted}

-- a source lost these bytes, and its count of faults didn't fall
pub record ReadsOn (old new : Option (List ℕ)) (before now : ℕ) (bytes : List ℕ) : Type 0 where
  pub taken : Consumes old new bytes
  pub later : before ≤ now

-- it was read to its end, and these bytes, at most `limit` of them, are all that it had
pub record ReadsWhole (limit : ℕ) (old new : Option (List ℕ)) (before now : ℕ) (bytes : List ℕ) : Type 0 where
  pub taken : Consumes old new bytes
  pub at_end : IsAtEnd new
  pub within : length bytes ≤ limit
  pub later : before ≤ now

-- it failed behind some bytes, at most `limit` of them
pub record FailsReading (limit : ℕ) (old new : Option (List ℕ)) (before now : ℕ) : Type 0 where
  pub bytes : List ℕ
  pub taken : Consumes old new bytes
  pub within : length bytes ≤ limit
  pub later : before ≤ now
  pub risen : HasRisen before now

-- it had more than `limit` bytes, of which one past the limit was read
pub record ReadsPast (limit : ℕ) (old new : Option (List ℕ)) (before now : ℕ) : Type 0 where
  pub bytes : List ℕ
  pub taken : Consumes old new bytes
  pub past : limit < length bytes
  pub within : length bytes ≤ limit + 1
  pub later : before ≤ now

-- some bytes were read, at most so many
pub record ReadsSome (most : ℕ) (old new : Option (List ℕ)) (before now : ℕ) : Type 0 where
  pub bytes : List ℕ
  pub taken : Consumes old new bytes
  pub within : length bytes ≤ most
  pub later : before ≤ now

-- why a reading of at most `limit` bytes stopped
abbrev pub StopsReading : ℕ → Option (List ℕ) → Option (List ℕ) → ℕ → ℕ → ReadStop → Type 0
StopsReading limit old new before now Fault = FailsReading limit old new before now
StopsReading limit old new before now TooLong = ReadsPast limit old new before now
StopsReading limit old new before now Memory = ReadsSome (limit + 1) old new before now

-- how a reading of at most `limit` bytes ended
abbrev pub EndsReading : ℕ → Option (List ℕ) → Option (List ℕ) → ℕ → ℕ → Result (List ℕ) ReadStop → Type 0
EndsReading limit old new before now result = MatchResult result (ReadsWhole limit old new before now) (StopsReading limit old new before now)

-- one piece was read: these bytes stand behind `items` now, and none only at the end or with no room
pub record ReadsPiece (room : ℕ) (old new : Option (List ℕ)) (before now : ℕ) (items longer : List ℕ) (count : ℕ) : Type 0 where
  pub bytes : List ℕ
  pub taken : Consumes old new bytes
  pub longer_is : longer ≡ items ++ bytes
  pub count_is : count ≡ length bytes
  pub fits : count ≤ room
  pub at_end : count ≡ 0 → 0 < room → IsAtEnd new
  pub later : before ≤ now

-- a piece was not read: the source failed and lost none, or what was read found no memory
abbrev pub StopsPiece : ℕ → Option (List ℕ) → Option (List ℕ) → ℕ → ℕ → ReadStop → Type 0
StopsPiece room old new before now Fault = FailsReading 0 old new before now
StopsPiece room old new before now TooLong = ⊥
StopsPiece room old new before now Memory = ReadsSome room old new before now

-- a sink took a front of the bytes, behind which `rest` stands, and its count of faults didn't fall
pub record WritesOn (old new : Option (List ℕ)) (before now : ℕ) (bytes rest : List ℕ) : Type 0 where
  pub front : List ℕ
  pub split : bytes ≡ front ++ rest
  pub appends : Appends old new front
  pub later : before ≤ now

-- a sink took a front of the bytes
pub record AppendsFront (old new : Option (List ℕ)) (bytes : List ℕ) : Type 0 where
  pub front : List ℕ
  pub rest : List ℕ
  pub split : bytes ≡ front ++ rest
  pub appends : Appends old new front

-- a source in memory: the bytes left, the most of one call, the numbers of the calls that are to fail, and how many
-- calls and faults there were
pub record Feed : Type 0 where
  pub left : List ℕ
  pub most : ℕ
  pub failing : List ℕ
  pub calls : ℕ
  pub faults : ℕ

-- a call gave the front of the bytes left: as many as there are, the room has place for, and one call gives
pub record GivesFront (old new : Feed) (room filled : List ℕ) (count : ℕ) : Type 0 where
  pub count_is : count ≡ min (min old.most (length room)) (length old.left)
  pub filled_is : filled ≡ take count old.left ++ drop count room
  pub after : new ≡ record old { left = drop count old.left; calls = counted old.calls }

-- a sink in memory: the bytes held, the room left for more, and the rest as in a `Feed`
pub record Store : Type 0 where
  pub held : List ℕ
  pub room : ℕ
  pub most : ℕ
  pub failing : List ℕ
  pub calls : ℕ
  pub faults : ℕ

-- a full sink counts a fault for a piece that isn't empty
abbrev pub faults_after : Store → List ℕ → ℕ
faults_after old piece = if (old.room == 0) && nat_lt 0 (length piece) then counted old.faults else old.faults

-- a call took the front of the piece: as much as there is, the sink has room for, and one call takes
pub record TakesFront (old new : Store) (piece : List ℕ) (count : ℕ) : Type 0 where
  pub count_is : count ≡ min (min old.most old.room) (length piece)
  pub after : new ≡ record old {
    held = old.held ++ take count piece;
    room = old.room - count;
    calls = counted old.calls;
    faults = faults_after old piece;
  }

-- a reader or a writer of std, and how many of its calls failed
pub record Adapted (S : Type 0) : Type 0 where
  pub inner : S
  pub faults : ℕ
