-- How a command ends: its status, and what it has read and written then.
use Rattle.std.specs.Prelude.{◌≡◌, ℕ, ◌<◌, ◌≤◌, List, length, Option, Some, None}
use Rattle.std.specs.Io.KnownBytes.{Consumes, Keeps, IsAtEnd}
use Rattle.qz_outside.specs.declared.read.ReadStop.{ReadStop}
use Rattle.qz_outside.specs.declared.read.ReadStop.TheVariants as reading
use Rattle.qz_outside.specs.Causes.{HasRisen}
use Rattle.qz_ending.specs.declared.stop.Stop.{Stop}
use Rattle.qz_ending.specs.declared.stop.Stop.TheVariants as stop

-- the bytes that a source has left and a sink holds, where they tell, and their counts of faults
pub record Outside : Type 0 where
  pub left : Option (List ℕ)
  pub source_faults : ℕ
  pub holds : Option (List ℕ)
  pub sink_faults : ℕ

abbrev pub status_of : Option Stop → ℕ
status_of None = 0
status_of (Some stop.BadWords) = 2
status_of (Some (stop.Malformed line)) = 3
status_of (Some (stop.Unreadable line rule)) = 3
status_of (Some stop.SourceFault) = 4
status_of (Some stop.SinkFault) = 5
status_of (Some stop.ShelfFault) = 6
status_of (Some stop.Refused) = 7
status_of (Some stop.Memory) = 8
status_of (Some stop.TooLong) = 9
status_of (Some stop.DoorFault) = 10
status_of (Some stop.Gap) = 11

-- a call with this status ended so, for some stop
pub record Ended (Ends : Option Stop → Type 0) (status : ℕ) : Type 0 where
  pub stop : Option Stop
  pub status_is : status ≡ status_of stop
  pub cause : Ends stop

-- ---- a text that is read whole before anything is written

-- so many bytes a replay or a GIFT text has at most
abbrev pub text_limit : ℕ
text_limit = 8388608

abbrev pub stop_of_reading : ReadStop → Stop
stop_of_reading reading.Fault = stop.SourceFault
stop_of_reading reading.TooLong = stop.TooLong
stop_of_reading reading.Memory = stop.Memory

-- the source was read to its end, and these bytes, no more than the limit, are all that it had
pub record Read (old new : Outside) (bytes : List ℕ) : Type 0 where
  pub taken : Consumes old.left new.left bytes
  pub at_end : IsAtEnd new.left
  pub within : length bytes ≤ text_limit

-- some bytes were read, and nothing was written
pub record OnlyRead (old new : Outside) (bytes : List ℕ) : Type 0 where
  pub taken : Consumes old.left new.left bytes
  pub unwritten : Keeps old.holds new.holds

pub record SourceFailed (old new : Outside) : Type 0 where
  pub bytes : List ℕ
  pub read : OnlyRead old new bytes
  pub risen : HasRisen old.source_faults new.source_faults

pub record PastLimit (old new : Outside) : Type 0 where
  pub bytes : List ℕ
  pub read : OnlyRead old new bytes
  pub past : text_limit < length bytes

pub record MemoryWanted (old new : Outside) : Type 0 where
  pub bytes : List ℕ
  pub read : OnlyRead old new bytes
