-- How a replay ends.
use Rattle.std.specs.Prelude.{◌≡◌, ◌⊎◌, ℕ, ◌≤◌, List, length, Option, Some, None, Ok, Err}
use Rattle.std.specs.Io.KnownBytes.{Appends}
use Rattle.qz_outside.specs.Causes.{HasRisen}
use Rattle.qz_outside.specs.Sources.{AppendsFront}
use Rattle.qz_ending.specs.declared.stop.Stop.{Stop}
use Rattle.qz_ending.specs.declared.stop.Stop.TheVariants as stop
use Rattle.qz_ending.specs.Endings.{Outside, Read, SourceFailed, MemoryWanted, PastLimit, text_limit}
use Rattle.qz_replay.specs.Replayed.{replayed, output_of, malformed}

-- what is read and written where it is done
pub record ReplayDone (old new : Outside) : Type 0 where
  pub text : List ℕ
  pub output : List ℕ
  pub read : Read old new text
  pub reads : replayed text ≡ Ok output
  pub written : Appends old.holds new.holds output

-- the text has no reading, and this is its first line without one
pub record ReplayMalformed (old new : Outside) (line : ℕ) : Type 0 where
  pub text : List ℕ
  pub read : Read old new text
  pub reads : replayed text ≡ Err line
  pub written : Appends old.holds new.holds (malformed line)

-- a front of the output was written
pub record ReplayUnwritten (old new : Outside) : Type 0 where
  pub text : List ℕ
  pub read : Read old new text
  pub written : AppendsFront old.holds new.holds (output_of (replayed text))
  pub risen : HasRisen old.sink_faults new.sink_faults

abbrev pub ReplayEnds : Outside → Outside → Option Stop → Type 0
ReplayEnds old new None = ReplayDone old new
ReplayEnds old new (Some (stop.Malformed line)) = ReplayMalformed old new line
ReplayEnds old new (Some stop.SourceFault) = SourceFailed old new
ReplayEnds old new (Some stop.SinkFault) = ReplayUnwritten old new
ReplayEnds old new (Some stop.Memory) = MemoryWanted old new
ReplayEnds old new (Some stop.TooLong) = PastLimit old new
ReplayEnds old new (Some s) = ⊥

-- Where no count rose and no memory was wanting, a text that has a reading and isn't too long is replayed.
pub record ReplaysAll (old new : Outside) (status : ℕ) : Type 0 where
  pub done : (text output : List ℕ) → old.left ≡ Some text → length text ≤ text_limit → replayed text ≡ Ok output
      → ¬ HasRisen old.source_faults new.source_faults → ¬ HasRisen old.sink_faults new.sink_faults → (status ≡ 0) ⊎ (status ≡ 8)
