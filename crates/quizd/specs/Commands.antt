-- The commands of the command line, and how a run of each ends.
use Rattle.std.specs.Prelude.{◌≡◌, ◌⊎◌, ℕ, Bool, true, false, List, ◌++◌, Option, Some, None, MatchBool, bytes_eq, codes}
use Rattle.std.specs.Io.KnownBytes.{Appends, Keeps}
use Rattle.qz_outside.specs.Causes.{HasRisen}
use Rattle.qz_outside.specs.Sources.{AppendsFront}
use Rattle.qz_command.specs.declared.command.Command.{Command}
use Rattle.qz_command.specs.declared.command.Command.TheVariants as command
use Rattle.qz_command.specs.Commands.{command_of}
use Rattle.qz_ending.specs.declared.stop.Stop.{Stop}
use Rattle.qz_ending.specs.declared.stop.Stop.TheVariants as stop
use Rattle.qz_ending.specs.Endings.{Outside}
use Rattle.qz_wire.specs.Lines.{newline}
use Rattle.qz_bulk.specs.Bulk.{BulkEnds}
use Rattle.qz_script_schools.specs.Folders.{Disks, ScriptFolderEnds, ServesFolder, sunk}
use Rattle.qz_script_schools.specs.Memory.{ScriptEnds, first_lists}
use Rattle.qz_replay.specs.ReplayEndings.{ReplayEnds, ReplaysAll}
use Rattle.qz_disks.specs.Shelves.{Place}
use Rattle.qz_found.specs.FoundEndings.{FoundEnds, FoundsAll, Shelved}
use Rattle.qz_serving.specs.Folders.{DoorsFolderEnds, ServesDoors}
use Rattle.qz_audit.specs.Folders.{AuditFolderEnds, AuditsDoors}
use Rattle.qz_doors.specs.Links.{Peer}
use Rattle.qz_polling.specs.Endings.{At, PollFolderEnds, PollsAll}
use Rattle.qz_sqlfolders.specs.Folders.{Based}
use Rattle.qz_sqlopen.specs.Open.{OpenEnds, ShowsAll}
use Rattle.qz_sqlscript.specs.SqlScripts.{AnswersDatabases, SqlEnds}
use Rattle.qz_stations.specs.Stations.{Serving}
use Rattle.qz_stats_school.specs.Endings.{SaysAll, StatsEnds}
use Rattle.qz_script.specs.Scripts.{ServesAll, script_limit}
use Rattle.qz_gift.specs.GiftEndings.{GiftEnds, GiftsAll}
use Rattle.sqlite_trees.specs.declared.store.Store.{Ghosts}

-- the school in memory of a script, which is no folder's
abbrev pub is_memory : List ℕ → Bool
is_memory folder = bytes_eq folder (codes "memory")

-- ---- words that are no command

abbrev pub usage : List ℕ
usage = codes "usage: quizd replay | gift check | gift fmt | script FOLDER | found FOLDER SHARDS TOKEN | serve FOLDER PORT WORKERS REGRADERS LINKS | bulk N" ++ newline

-- the usage line was written, or the sink failed under it
abbrev pub UsageWritten : Option (List ℕ) → Option (List ℕ) → ℕ → ℕ → Stop → Type 0
UsageWritten old new before now stop.BadWords = Appends old new usage
UsageWritten old new before now stop.SinkFault = AppendsFront old new usage × HasRisen before now
UsageWritten old new before now s = ⊥

-- nothing was read
pub record UsageShown (old new : Outside) (s : Stop) : Type 0 where
  pub unread : Keeps old.left new.left
  pub written : UsageWritten old.holds new.holds old.sink_faults new.sink_faults s

abbrev pub UsageEnds : Outside → Outside → Option Stop → Type 0
UsageEnds old new None = ⊥
UsageEnds old new (Some s) = UsageShown old new s

-- ---- how a run ends, and what it does where nothing fails

-- no file of a shelf is out, or no database of bases
pub record NoneOut (is_out : Place → Bool) : Type 0 where
  pub each : (at : Place) → is_out at ≡ false

-- What a run is given beside words, source and sink: doors with their clocks; a shelf, a door whose links never wait, and bases, each with
-- what it tells.
pub record Beside (R C F P L B : Type 0) : Type 1 where
  pub doors : List (R × C)
  pub shelf : F
  pub told : Shelved
  pub ready : At P L
  pub bases : B
  pub based : Based

-- What clocks tell, what the doors do with so many links, what is told of a link that never waits, whether what databases stand in tells what
-- it holds, and what it says of them.
pub record Outdoors (R C L S : Type 0) : Type 1 where
  pub tells : C → ℕ → C → Type 0
  pub serving : ℕ → Serving R C
  pub peer : L → Peer
  pub store_tells : Bool
  pub store : Ghosts S

abbrev pub AreLeft : {R C F P L B : Type 0} → Beside R C F P L B → Beside R C F P L B → Type 0
AreLeft at after = (after.doors ≡ at.doors) × (after.shelf ≡ at.shelf) × (after.ready ≡ at.ready) × (after.bases ≡ at.bases)

-- all but the shelf
abbrev pub OthersAreLeft : {R C F P L B : Type 0} → Beside R C F P L B → Beside R C F P L B → Type 0
OthersAreLeft at after = (after.doors ≡ at.doors) × (after.ready ≡ at.ready) × (after.bases ≡ at.bases)

-- all but the bases
abbrev pub AllButBases : {R C F P L B : Type 0} → Beside R C F P L B → Beside R C F P L B → Type 0
AllButBases at after = (after.doors ≡ at.doors) × (after.shelf ≡ at.shelf) × (after.ready ≡ at.ready)

-- how many clocks a command has beside those of the doors: one for each who regrades, or for each link that it serves at once
abbrev pub clocks_for : Option Command → ℕ
clocks_for (Some (command.Serve s)) = s.regraders
clocks_for (Some (command.Audit s)) = s.regraders
clocks_for (Some (command.Poll folder port links visits)) = visits
clocks_for c = 0

-- A script is answered over the school in memory, and the shelf stays; or over the school of a folder.
abbrev pub ScriptEndsIn : {D : Type 0} → Disks D → List ℕ → Type 0 → Shelved → Shelved → Outside → Outside → Option Stop → Type 0
ScriptEndsIn disks folder stays old new before now s =
    MatchBool (is_memory folder) (ScriptEnds script_limit first_lists before now s × stays)
    (ScriptFolderEnds disks folder script_limit old new before now s)

-- How each command ends. What an analysis tells doesn't depend on the number of its workers.
abbrev pub CommandEndsAt : {D R C F P L B S : Type 0} → Disks D → Outdoors R C L S → List C → Beside R C F P L B → Beside R C F P L B → Option Command → Outside → Outside → Option Stop → Type 0
CommandEndsAt disks out clocks at after None old new s = UsageEnds old new s × AreLeft at after
CommandEndsAt disks out clocks at after (Some command.Replay) old new s = ReplayEnds old new s × AreLeft at after
CommandEndsAt disks out clocks at after (Some command.GiftCheck) old new s = GiftEnds false old new s × AreLeft at after
CommandEndsAt disks out clocks at after (Some command.GiftFormat) old new s = GiftEnds true old new s × AreLeft at after
CommandEndsAt disks out clocks at after (Some (command.Bulk count)) old new s =
    Keeps old.left new.left × BulkEnds count old.holds new.holds old.sink_faults new.sink_faults s × AreLeft at after
CommandEndsAt disks out clocks at after (Some (command.Script folder)) old new s =
    OthersAreLeft at after × ScriptEndsIn disks folder (after.shelf ≡ at.shelf) at.told after.told old new s
CommandEndsAt disks out clocks at after (Some (command.Found folder shards token)) old new s =
    Keeps old.left new.left × OthersAreLeft at after
    × FoundEnds (record { folder = folder; shards = shards; token = token }) at.told after.told (sunk old) (sunk new) s
CommandEndsAt disks out clocks at after (Some (command.Serve c)) old new s =
    Keeps old.left new.left × ((after.ready ≡ at.ready) × (after.bases ≡ at.bases))
    × DoorsFolderEnds disks c.folder c.workers c.regraders (out.serving c.links) at.doors after.doors at.told after.told (sunk old) (sunk new) s
CommandEndsAt disks out clocks at after (Some (command.Audit c)) old new s =
    Keeps old.left new.left × ((after.ready ≡ at.ready) × (after.bases ≡ at.bases))
    × AuditFolderEnds disks c.folder c.workers c.regraders (out.serving c.links) at.doors after.doors at.told after.told (sunk old) (sunk new) s
CommandEndsAt disks out clocks at after (Some (command.Poll folder port links visits)) old new s =
    Keeps old.left new.left × ((after.doors ≡ at.doors) × (after.bases ≡ at.bases))
    × PollFolderEnds disks folder out.tells out.peer links clocks at.ready after.ready at.told after.told (sunk old) (sunk new) s
CommandEndsAt disks out clocks at after (Some (command.Stats folder quiz workers)) old new s =
    Keeps old.left new.left × OthersAreLeft at after × StatsEnds disks folder quiz at.told after.told (sunk old) (sunk new) s
CommandEndsAt disks out clocks at after (Some (command.Sql folder token)) old new s =
    AllButBases at after × SqlEnds out.store_tells out.store token folder script_limit at.based after.based old new s
CommandEndsAt disks out clocks at after (Some (command.SqlOpen folder quiz)) old new s =
    Keeps old.left new.left × AllButBases at after
    × OpenEnds out.store_tells out.store folder quiz at.based after.based (sunk old) (sunk new) s

-- memory was wanting for the words, and nothing was done
pub record WordsUnread {R C F P L B : Type 0} (at after : Beside R C F P L B) (old new : Outside) (s : Option Stop) : Type 0 where
  pub memory : s ≡ Some stop.Memory
  pub stays : AreLeft at after
  pub unread : Keeps old.left new.left
  pub unwritten : Keeps old.holds new.holds

abbrev pub RunEnds : {D R C F P L B S : Type 0} → Disks D → Outdoors R C L S → List C → Beside R C F P L B → Beside R C F P L B → List (List ℕ) → Outside → Outside → Option Stop → Type 0
RunEnds disks out clocks at after words old new s =
    CommandEndsAt disks out clocks at after (command_of words) old new s ⊎ WordsUnread at after old new s

-- over the school in memory, or of a folder
abbrev pub ScriptDoesAll : Shelved → Shelved → List ℕ → Outside → Outside → ℕ → Type 0
ScriptDoesAll at after folder old new status =
    MatchBool (is_memory folder) (ServesAll script_limit old new status) (ServesFolder script_limit at after old new status)

-- in a run in which no door failed, where this says so
abbrev pub CommandDoesAll : {R C F P L B : Type 0} → Type 0 → Beside R C F P L B → Beside R C F P L B → Option Command → Outside → Outside → ℕ → Type 0
CommandDoesAll none_fails at after None old new status = Unit {0}
CommandDoesAll none_fails at after (Some command.Replay) old new status = ReplaysAll old new status
CommandDoesAll none_fails at after (Some command.GiftCheck) old new status = GiftsAll old new status
CommandDoesAll none_fails at after (Some command.GiftFormat) old new status = GiftsAll old new status
CommandDoesAll none_fails at after (Some (command.Bulk count)) old new status = ¬ HasRisen old.sink_faults new.sink_faults → (status ≡ 0) ⊎ (status ≡ 8)
CommandDoesAll none_fails at after (Some (command.Script folder)) old new status = ScriptDoesAll at.told after.told folder old new status
CommandDoesAll none_fails at after (Some (command.Found folder shards token)) old new status =
    FoundsAll (record { folder = folder; shards = shards; token = token }) at.told after.told (sunk old) (sunk new) status
CommandDoesAll none_fails at after (Some (command.Serve c)) old new status = ServesDoors none_fails at.told after.told (sunk old) (sunk new) status
CommandDoesAll none_fails at after (Some (command.Audit c)) old new status = AuditsDoors none_fails at.told after.told (sunk old) (sunk new) status
CommandDoesAll none_fails at after (Some (command.Poll folder port links visits)) old new status =
    PollsAll at.ready after.ready at.told after.told (sunk old) (sunk new) status
CommandDoesAll none_fails at after (Some (command.Stats folder quiz workers)) old new status = SaysAll at.told after.told (sunk old) (sunk new) status
CommandDoesAll none_fails at after (Some (command.Sql folder token)) old new status =
    AnswersDatabases script_limit at.based after.based old new status
CommandDoesAll none_fails at after (Some (command.SqlOpen folder quiz)) old new status = ShowsAll at.based after.based (sunk old) (sunk new) status

abbrev pub RunsAll : {R C F P L B : Type 0} → Type 0 → Beside R C F P L B → Beside R C F P L B → List (List ℕ) → Outside → Outside → ℕ → Type 0
RunsAll none_fails at after words old new status = CommandDoesAll none_fails at after (command_of words) old new status
