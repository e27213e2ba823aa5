-- A source that is read piece by piece and given out line by line.
use Rattle.std.specs.Prelude.{◌≡◌, ℕ, ◌+◌, ◌<◌, ◌≤◌, Bool, List, [], ◌∷◌, ◌++◌, length, Option, MatchBool}
use Rattle.std.specs.Io.KnownBytes.{Consumes, IsAtEnd}
use Rattle.qz_outside.specs.Causes.{HasRisen}
use Rattle.qz_outside.specs.Sources.{FailsReading}
use Rattle.qz_script.specs.declared.script_input.Given.{Given}
use Rattle.qz_script.specs.declared.script_input.Given.TheVariants as given
use Rattle.qz_script.specs.declared.script_line.ScriptLine.{ScriptLine}
use Rattle.qz_script.specs.declared.script_line.ScriptLine.TheVariants as script
use Rattle.qz_ending.specs.declared.stop.Stop.{Stop}
use Rattle.qz_ending.specs.declared.stop.Stop.TheVariants as stop
use Rattle.qz_script.specs.ScriptLines.{kept, with_piece}
use Rattle.qz_wire.specs.Words.{parts_at}

-- the bytes that were read and not given out yet, how many were read in all, and how many may be
pub record Buffer : Type 0 where
  pub held : List ℕ
  pub read : ℕ
  pub limit : ℕ

-- the parts of a text between its line feeds
abbrev pub fed_parts : List ℕ → List (List ℕ)
fed_parts text = parts_at 10 text

-- no line feed stands in it
abbrev pub IsUnfed : List ℕ → Type 0
IsUnfed text = fed_parts text ≡ text ∷ []

-- so many bytes were read more, within the limit, and the source lost them
pub record ReadsMore (old new : Buffer) (left rest : Option (List ℕ)) (before now : ℕ) (bytes : List ℕ) : Type 0 where
  pub taken : Consumes left rest bytes
  pub count : new.read ≡ old.read + length bytes
  pub limit : new.limit ≡ old.limit
  pub within : new.read ≤ new.limit
  pub later : before ≤ now

-- ---- one reading

-- a piece was read: some bytes, or none at the end
pub record Fills (old new : Buffer) (left rest : Option (List ℕ)) (before now : ℕ) (more : Bool) : Type 0 where
  pub reads : ReadsMore old new left rest before now new.held
  pub some : MatchBool more (0 < length new.held) ((new.held ≡ []) × IsAtEnd rest)

-- one byte stood behind the last one that may be read
pub record GoesPast (old : Buffer) (left rest : Option (List ℕ)) (bytes : List ℕ) : Type 0 where
  pub more : List ℕ
  pub taken : Consumes left rest (bytes ++ more)
  pub full : old.read + length bytes ≡ old.limit
  pub one : length more ≡ 1

-- some bytes were read, at most one of them past the limit
pub record Unkept (old : Buffer) (left rest : Option (List ℕ)) : Type 0 where
  pub bytes : List ℕ
  pub taken : Consumes left rest bytes
  pub within : old.read + length bytes ≤ old.limit + 1

abbrev pub FillStops : Buffer → Option (List ℕ) → Option (List ℕ) → ℕ → ℕ → Stop → Type 0
FillStops old left rest before now stop.SourceFault = FailsReading 0 left rest before now
FillStops old left rest before now stop.TooLong = GoesPast old left rest []
FillStops old left rest before now stop.Memory = Unkept old left rest
FillStops old left rest before now s = ⊥

-- ---- one line of what is held

-- a piece up to a line feed was added to a line, or all that is held where there is none
pub record Ends (old new : Buffer) (line longer : ScriptLine) : Type 0 where
  pub piece : List ℕ
  pub parts : fed_parts old.held ≡ piece ∷ fed_parts new.held
  pub shorter : length new.held < length old.held
  pub longer_is : longer ≡ with_piece line piece
  pub read : new.read ≡ old.read
  pub limit : new.limit ≡ old.limit
  pub within : new.read ≤ new.limit

pub record GoesOn (old new : Buffer) (line longer : ScriptLine) : Type 0 where
  pub unfed : IsUnfed old.held
  pub empty : new.held ≡ []
  pub longer_is : longer ≡ with_piece line old.held
  pub read : new.read ≡ old.read
  pub limit : new.limit ≡ old.limit
  pub within : new.read ≤ new.limit

-- ---- the next line

-- the first line of what was held and read, which a line feed ends
pub record GivesLine (text held : List ℕ) (line : ScriptLine) : Type 0 where
  pub front : List ℕ
  pub parts : fed_parts text ≡ front ∷ fed_parts held
  pub shorter : length held < length text
  pub line_is : line ≡ kept front

-- the last line, which the end of the source ends
pub record GivesLast (text : List ℕ) (rest : Option (List ℕ)) (line : ScriptLine) : Type 0 where
  pub unfed : IsUnfed text
  pub some : 0 < length text
  pub at_end : IsAtEnd rest
  pub line_is : line ≡ kept text

abbrev pub Gives : List ℕ → List ℕ → Option (List ℕ) → Given → Type 0
Gives text held rest (given.Line line) = GivesLine text held line
Gives text held rest (given.Last line) = GivesLast text rest line
Gives text held rest given.End = (text ≡ []) × IsAtEnd rest

-- some bytes were read, and the next line is given of what was held and them
pub record GivesNext (old new : Buffer) (left rest : Option (List ℕ)) (before now : ℕ) (next : Given) : Type 0 where
  pub bytes : List ℕ
  pub reads : ReadsMore old new left rest before now bytes
  pub gives : Gives (old.held ++ bytes) new.held rest next

-- no line feed stands in what was held and read before the source failed
pub record NextFailed (old : Buffer) (left rest : Option (List ℕ)) (before now : ℕ) : Type 0 where
  pub bytes : List ℕ
  pub taken : Consumes left rest bytes
  pub within : old.read + length bytes ≤ old.limit
  pub unfed : IsUnfed (old.held ++ bytes)
  pub risen : HasRisen before now

pub record NextGoesPast (old : Buffer) (left rest : Option (List ℕ)) : Type 0 where
  pub bytes : List ℕ
  pub past : GoesPast old left rest bytes
  pub unfed : IsUnfed (old.held ++ bytes)

abbrev pub NextStops : Buffer → Option (List ℕ) → Option (List ℕ) → ℕ → ℕ → Stop → Type 0
NextStops old left rest before now stop.SourceFault = NextFailed old left rest before now
NextStops old left rest before now stop.TooLong = NextGoesPast old left rest
NextStops old left rest before now stop.Memory = Unkept old left rest
NextStops old left rest before now s = ⊥

-- what is given at the end of the source: a last line, if it has a byte
abbrev pub given_last : ScriptLine → Given
given_last (script.Kept []) = given.End
given_last line = given.Last line
