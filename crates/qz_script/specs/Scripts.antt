-- How a script ends: what it has read then, which of its lines it has answered, and what it has written.
use Rattle.std.specs.Prelude.{◌≡◌, ◌⊎◌, ℕ, ◌+◌, ◌-◌, ◌^◌, ◌<◌, ◌≤◌, List, [], ◌∷◌, ◌++◌, filter, flat_map, map, length, take, Option, Some, None}
use Rattle.std.specs.Io.KnownBytes.{Appends, Consumes, IsAtEnd, Keeps}
use Rattle.qz_outside.specs.Causes.{HasRisen}
use Rattle.qz_outside.specs.Sources.{AppendsFront}
use Rattle.qz_terms.specs.declared.reply.Reply.{Reply}
use Rattle.qz_terms.specs.Serial.{Serial}
use Rattle.qz_script.specs.declared.script_line.ScriptLine.{ScriptLine}
use Rattle.qz_ending.specs.declared.stop.Stop.{Stop}
use Rattle.qz_ending.specs.declared.stop.Stop.TheVariants as stop
use Rattle.qz_script.specs.ScriptLines.{kept_item, line_item}
use Rattle.qz_ending.specs.Endings.{Outside}
use Rattle.qz_script.specs.Inputs.{fed_parts}
use Rattle.qz_wire.specs.Lines.{lines_of}
use Rattle.qz_replies.specs.Replies.{reply_line}
use Rattle.qz_serial.specs.Standing.{is_keep_fault}
use Rattle.qz_script.specs.Retries.{ActOnce, AllStand, GoesOnce, Seen}

-- so many bytes a script has at most
abbrev pub script_limit : ℕ
script_limit = 1073741824

-- all but the last
abbrev pub but_last : {A : Type 0} → List A → List A
but_last [] = []
but_last (x ∷ []) = []
but_last (x ∷ y ∷ ys) = x ∷ but_last (y ∷ ys)

-- the lines that a line feed ends
abbrev pub ended_lines : List ℕ → List (List ℕ)
ended_lines text = but_last (fed_parts text)

-- a count of faults rose by at least this number, unless it stands at the last value of a `u64`
abbrev pub HasRisenBy : ℕ → ℕ → ℕ → Type 0
HasRisenBy before n after = after < 2 ^ 64 - 1 → before + n ≤ after

-- These lines are answered in turn, from what is seen in a to what is seen in b, and this is what is said. Each time that a keeper is said
-- to have failed, the count of faults rose. What is asked again with its key is told again, and stands in the lists at the end.
pub record Answered (a b : Seen) (lines : List (List ℕ)) (output : List ℕ) : Type 0 where
  pub replies : List Reply
  pub serial : Serial a.lists (map line_item lines) replies b.lists
  pub faults : HasRisenBy a.faults (length (filter is_keep_fault replies)) b.faults
  pub later : a.faults ≤ b.faults
  pub once : ActOnce (map line_item lines) replies
  pub stand : AllStand b.lists (map line_item lines) replies
  pub said : output ≡ flat_map reply_line replies

-- ---- how it ends

-- the source was read to its end, within the limit, and every line is answered
pub record ScriptDone (limit : ℕ) (a b : Seen) (old new : Outside) : Type 0 where
  pub bytes : List ℕ
  pub output : List ℕ
  pub taken : Consumes old.left new.left bytes
  pub at_end : IsAtEnd new.left
  pub within : length bytes ≤ limit
  pub answered : Answered a b (lines_of bytes) output
  pub written : Appends old.holds new.holds output

-- the source failed, and every whole line that was read is answered
pub record ScriptSourceFailed (limit : ℕ) (a b : Seen) (old new : Outside) : Type 0 where
  pub bytes : List ℕ
  pub output : List ℕ
  pub taken : Consumes old.left new.left bytes
  pub within : length bytes ≤ limit
  pub risen : HasRisen old.source_faults new.source_faults
  pub answered : Answered a b (ended_lines bytes) output
  pub written : Appends old.holds new.holds output

-- the source goes on behind the limit, of which one byte was read, and every whole line before it is answered
pub record ScriptTooLong (limit : ℕ) (a b : Seen) (old new : Outside) : Type 0 where
  pub bytes : List ℕ
  pub output : List ℕ
  pub taken : Consumes old.left new.left bytes
  pub past : length bytes ≡ limit + 1
  pub answered : Answered a b (ended_lines (take limit bytes)) output
  pub written : Appends old.holds new.holds output

-- the first lines of what was read; one that no line feed ends is among them only at the end of the source
abbrev pub AreFirst : List (List ℕ) → List ℕ → Option (List ℕ) → Type 0
AreFirst lines bytes left = ((more : List (List ℕ)) × (ended_lines bytes ≡ lines ++ more)) ⊎ ((lines ≡ lines_of bytes) × IsAtEnd left)

-- the first lines are answered, and a front of what is said is written; at most one byte was read past the limit
pub record ScriptCut (limit : ℕ) (a b : Seen) (old new : Outside) : Type 0 where
  pub bytes : List ℕ
  pub lines : List (List ℕ)
  pub output : List ℕ
  pub taken : Consumes old.left new.left bytes
  pub within : length bytes ≤ limit + 1
  pub first : AreFirst lines bytes new.left
  pub answered : Answered a b lines output
  pub written : AppendsFront old.holds new.holds output

-- it ends so over a desk of which a is seen before and b afterwards
abbrev pub ServeEnds : ℕ → Seen → Seen → Outside → Outside → Option Stop → Type 0
ServeEnds limit a b old new None = ScriptDone limit a b old new
ServeEnds limit a b old new (Some stop.SourceFault) = ScriptSourceFailed limit a b old new
ServeEnds limit a b old new (Some stop.SinkFault) = ScriptCut limit a b old new × HasRisen old.sink_faults new.sink_faults
ServeEnds limit a b old new (Some stop.Memory) = ScriptCut limit a b old new
ServeEnds limit a b old new (Some stop.TooLong) = ScriptTooLong limit a b old new
ServeEnds limit a b old new (Some s) = ⊥

-- Where no count rose, no memory was wanting and the source is within the limit, all of it is answered.
pub record ServesAll (limit : ℕ) (old new : Outside) (status : ℕ) : Type 0 where
  pub done : (text : List ℕ) → old.left ≡ Some text → length text ≤ limit
      → ¬ HasRisen old.source_faults new.source_faults → ¬ HasRisen old.sink_faults new.sink_faults → (status ≡ 0) ⊎ (status ≡ 8)

-- ---- one line

-- a reply was written, or a front of it
pub record Says (old new : Option (List ℕ)) (before now : ℕ) (r : Reply) : Type 0 where
  pub written : Appends old new (reply_line r)
  pub later : before ≤ now

abbrev pub SayStops : Option (List ℕ) → Option (List ℕ) → ℕ → ℕ → Reply → Stop → Type 0
SayStops old new before now r stop.SinkFault = AppendsFront old new (reply_line r) × HasRisen before now
SayStops old new before now r stop.Memory = Keeps old new
SayStops old new before now r s = ⊥

-- a line is answered, and its reply is written
pub record AnswersLine (a b : Seen) (old new : Option (List ℕ)) (before now : ℕ) (line : ScriptLine) : Type 0 where
  pub reply : Reply
  pub goes : GoesOnce a b (kept_item line) reply
  pub says : Says old new before now reply

-- it is answered, and a front of its reply is written
pub record LeavesLine (a b : Seen) (old new : Option (List ℕ)) (line : ScriptLine) : Type 0 where
  pub reply : Reply
  pub goes : GoesOnce a b (kept_item line) reply
  pub written : AppendsFront old new (reply_line reply)

-- memory was wanting before it was answered, or for its reply
abbrev pub AnswerStops : Seen → Seen → Option (List ℕ) → Option (List ℕ) → ℕ → ℕ → ScriptLine → Stop → Type 0
AnswerStops a b old new before now line stop.SinkFault = LeavesLine a b old new line × HasRisen before now
AnswerStops a b old new before now line stop.Memory = ((b ≡ a) × Keeps old new) ⊎ LeavesLine a b old new line
AnswerStops a b old new before now line s = ⊥
