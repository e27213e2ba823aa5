-- The commands that the words of the command line name.
use Rattle.std.specs.Prelude.{ℕ, ◌≤◌, ◌&&◌, nat_le, if◌then◌else◌, List, [], ◌∷◌, length, Option, Some, None, option_map, bytes_eq, codes}
use Rattle.qz_terms.specs.declared.limits.TheConstants.{MOST_SHARDS}
use Rattle.qz_command.specs.declared.command.Command.{Command}
use Rattle.qz_command.specs.declared.command.Command.TheVariants as command
use Rattle.qz_command.specs.declared.command.Serving.{Serving}
use Rattle.qz_command.specs.Flags.{has_flag}
use Rattle.qz_decimal.specs.Decimals.{◌>>=◌}
use Rattle.qz_wire.specs.Brief.{IsBriefToken}
use Rattle.qz_wire.specs.Lines.{number_within}
use Rattle.qz_wire.specs.Words.{token_of}

-- ---- the command that stands behind a first word

abbrev pub replay_of : List (List ℕ) → Option Command
replay_of [] = Some command.Replay
replay_of words = None

-- what is done with a GIFT text
abbrev pub gift_by : List ℕ → Option Command
gift_by word =
    if bytes_eq word (codes "check") then Some command.GiftCheck
    else (if bytes_eq word (codes "fmt") then Some command.GiftFormat else None)

abbrev pub gift_of : List (List ℕ) → Option Command
gift_of (word ∷ []) = gift_by word
gift_of words = None

-- 1 to 4,096 bytes name a folder
abbrev pub folder_of : List ℕ → Option (List ℕ)
folder_of word = if nat_le 1 (length word) && nat_le (length word) 4096 then Some word else None

abbrev pub script_by : List ℕ → Option Command
script_by folder = option_map command.Script (folder_of folder)

abbrev pub script_of : List (List ℕ) → Option Command
script_of (folder ∷ []) = script_by folder
script_of words = None

-- a school of 1 to 64 shards, and the token of its manager
abbrev pub found_by : List ℕ → List ℕ → List ℕ → Option Command
found_by folder shards token = do
  count ← number_within 1 64 shards
  place ← folder_of folder
  name ← token_of token
  Some (command.Found place count name)

abbrev pub found_of : List (List ℕ) → Option Command
found_of (folder ∷ shards ∷ token ∷ []) = found_by folder shards token
found_of words = None

-- at a port, by 1 to 16 workers beside up to 8 regraders, until each worker took so many links
abbrev pub serving_by : List ℕ → List ℕ → List ℕ → List ℕ → List ℕ → Option Serving
serving_by folder port workers regraders links = do
  door ← number_within 1 65535 port
  crew ← number_within 1 16 workers
  judges ← number_within 0 8 regraders
  count ← number_within 1 1000000000 links
  place ← folder_of folder
  Some (record { folder = place; port = door; workers = crew; regraders = judges; links = count })

abbrev pub serving_of : List (List ℕ) → Option Serving
serving_of (folder ∷ port ∷ workers ∷ regraders ∷ links ∷ []) = serving_by folder port workers regraders links
serving_of words = None

abbrev pub serve_of : List (List ℕ) → Option Command
serve_of words = option_map command.Serve (serving_of words)

abbrev pub audit_of : List (List ℕ) → Option Command
audit_of words = option_map command.Audit (serving_of words)

-- a school of 1 to 2,000 students
abbrev pub bulk_by : List ℕ → Option Command
bulk_by count = option_map command.Bulk (number_within 1 2000 count)

abbrev pub bulk_of : List (List ℕ) → Option Command
bulk_of (count ∷ []) = bulk_by count
bulk_of words = None

-- a quiz with any number, by 1 to 16 workers
abbrev pub stats_by : List ℕ → List ℕ → List ℕ → Option Command
stats_by folder quiz workers = do
  number ← number_within 0 4294967295 quiz
  crew ← number_within 1 16 workers
  place ← folder_of folder
  Some (command.Stats place number crew)

abbrev pub stats_of : List (List ℕ) → Option Command
stats_of (folder ∷ quiz ∷ workers ∷ []) = stats_by folder quiz workers
stats_of words = None

-- at a port, until so many links were taken, 1 to 1,000 at once
abbrev pub poll_by : List ℕ → List ℕ → List ℕ → List ℕ → Option Command
poll_by folder port links visits = do
  door ← number_within 1 65535 port
  count ← number_within 1 1000000000 links
  most ← number_within 1 1000 visits
  place ← folder_of folder
  Some (command.Poll place door count most)

abbrev pub poll_of : List (List ℕ) → Option Command
poll_of (folder ∷ port ∷ links ∷ visits ∷ []) = poll_by folder port links visits
poll_of words = None

-- a folder, and the token of the manager where its databases hold no school yet
abbrev pub sql_by : List ℕ → List ℕ → Option Command
sql_by folder token = do
  place ← folder_of folder
  name ← token_of token
  Some (command.Sql place name)

abbrev pub sql_of : List (List ℕ) → Option Command
sql_of (folder ∷ token ∷ []) = sql_by folder token
sql_of words = None

-- a quiz with any number
abbrev pub sqlopen_by : List ℕ → List ℕ → Option Command
sqlopen_by folder quiz = do
  number ← number_within 0 4294967295 quiz
  place ← folder_of folder
  Some (command.SqlOpen place number)

abbrev pub sqlopen_of : List (List ℕ) → Option Command
sqlopen_of (folder ∷ quiz ∷ []) = sqlopen_by folder quiz
sqlopen_of words = None

-- ---- the command that all the words are

abbrev pub command_by : List ℕ → List (List ℕ) → Option Command
command_by first rest =
    if bytes_eq first (codes "replay") then replay_of rest
    else (if bytes_eq first (codes "gift") then gift_of rest
    else (if bytes_eq first (codes "script") then script_of rest
    else (if bytes_eq first (codes "found") then found_of rest
    else (if bytes_eq first (codes "serve") then serve_of rest
    else (if bytes_eq first (codes "bulk") then bulk_of rest
    else (if bytes_eq first (codes "stats") then stats_of rest
    else (if bytes_eq first (codes "audit") then audit_of rest
    else (if bytes_eq first (codes "poll") then poll_of rest
    else (if bytes_eq first (codes "sql") then sql_of rest
    else (if bytes_eq first (codes "sqlopen") then sqlopen_of rest else None))))))))))

-- no word of a command begins with a dash
abbrev pub command_of : List (List ℕ) → Option Command
command_of [] = None
command_of (first ∷ rest) = if has_flag (first ∷ rest) then None else command_by first rest

-- ---- numbers in their ranges

abbrev pub IsFolder : List ℕ → Type 0
IsFolder folder = (1 ≤ length folder) × (length folder ≤ 4096)

abbrev pub IsServing : Serving → Type 0
IsServing s =
    IsFolder s.folder × ((1 ≤ s.port) × (s.port ≤ 65535)) × ((1 ≤ s.workers) × (s.workers ≤ 16))
    × (s.regraders ≤ 8) × ((1 ≤ s.links) × (s.links ≤ 1000000000))

abbrev pub IsInRange : Command → Type 0
IsInRange (command.Script folder) = IsFolder folder
IsInRange (command.Found folder shards token) =
    IsFolder folder × ((1 ≤ shards) × (shards ≤ MOST_SHARDS)) × IsBriefToken token
IsInRange (command.Serve s) = IsServing s
IsInRange (command.Bulk count) = (1 ≤ count) × (count ≤ 2000)
IsInRange (command.Stats folder quiz workers) = IsFolder folder × ((1 ≤ workers) × (workers ≤ 16))
IsInRange (command.Audit s) = IsServing s
IsInRange (command.Poll folder port links visits) =
    IsFolder folder × ((1 ≤ port) × (port ≤ 65535)) × ((1 ≤ links) × (links ≤ 1000000000))
    × ((1 ≤ visits) × (visits ≤ 1000))
IsInRange (command.Sql folder token) = IsFolder folder × IsBriefToken token
IsInRange (command.SqlOpen folder quiz) = IsFolder folder
IsInRange c = Unit {0}
