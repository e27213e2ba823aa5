-- A line of a script as it is kept, and what it asks.
use Rattle.std.specs.Prelude.{◌≡◌, ℕ, ◌++◌, if◌then◌else◌, nat_lt, List, length, Result, Ok, Err}
use Rattle.std.specs.Str.{is_utf8}
use Rattle.qz_terms.specs.declared.ask.Ask.{Ask}
use Rattle.qz_terms.specs.Serial.{Line, Unread, Asking}
use Rattle.qz_grading.specs.declared.refusal.Refusal.{Refusal}
use Rattle.qz_grading.specs.declared.refusal.Refusal.TheVariants as refusal
use Rattle.qz_script.specs.declared.script_line.ScriptLine.{ScriptLine}
use Rattle.qz_script.specs.declared.script_line.ScriptLine.TheVariants as script
use Rattle.qz_wire.specs.Words.{words_of}
use Rattle.qz_wire.specs.Asking.{ask_of}
use Rattle.qz_wire.specs.Faults.{Fault}

-- so many bytes a line has at most, its line feed not counted
abbrev pub line_limit : ℕ
line_limit = 17825792

-- a line that is too long isn't kept
abbrev pub kept : List ℕ → ScriptLine
kept front = if nat_lt line_limit (length front) then script.TooLong else script.Kept front

-- a line with a piece behind it
abbrev pub with_piece : ScriptLine → List ℕ → ScriptLine
with_piece script.TooLong piece = script.TooLong
with_piece (script.Kept front) piece = kept (front ++ piece)

abbrev pub item_by : Result (ℕ × Ask) Fault → Line
item_by (Ok x) = Asking x.0 x.1
item_by (Err f) = Unread f.place f.rule

-- a line that is too long isn't read, nor is one that is no UTF-8: both have the place 0
abbrev pub kept_item : ScriptLine → Line
kept_item script.TooLong = Unread 0 2
kept_item (script.Kept line) = if is_utf8 line then item_by (ask_of (words_of line)) else Unread 0 0

abbrev pub line_item : List ℕ → Line
line_item line = kept_item (kept line)

-- what a reader of the code answers: the item, or where memory was wanting none
abbrev pub IsUnread : Refusal → Line → Type 0
IsUnread (refusal.Malformed place rule) item = item ≡ Unread place rule
IsUnread refusal.Memory item = Unit {0}
IsUnread r item = ⊥

abbrev pub IsItem : Result (ℕ × Ask) Refusal → Line → Type 0
IsItem (Ok x) item = item ≡ Asking x.0 x.1
IsItem (Err r) item = IsUnread r item
