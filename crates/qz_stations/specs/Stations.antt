-- The doors of a school, served side by side: what each who served one saw of the school, and how serving ended.
use Rattle.std.specs.Prelude.{◌≡◌, ℕ, ◌+◌, ◌<◌, false, ◌||◌, List, [], ◌++◌, length, drop, filter, option_map, slice_get, sum_by, unwrap_or, Option, Some, None, Result, Ok, Err}
use Rattle.std.specs.List.{list_any}
use Rattle.qz_doors.specs.declared.door.DoorEnd.{DoorEnd}
use Rattle.qz_asking.specs.Asking.{Answerer, Asks}
use Rattle.qz_doors.specs.Doors.{Entrance, ServesDoor}
use Rattle.qz_doors.specs.Links.{Peer}
use Rattle.qz_doors.specs.Replying.{replies_at}
use Rattle.qz_gather.specs.declared.note.Note.{Note}
use Rattle.qz_gather.specs.Clerks.{Answers, Clerk}
use Rattle.qz_grading.specs.declared.refusal.Refusal.TheVariants as refusal
use Rattle.qz_regrading.specs.declared.ends.LoopEnd.{LoopEnd}
use Rattle.qz_regrading.specs.Loops.{HasRisenBy, Regrades}
use Rattle.qz_school.specs.Solos.{School}
use Rattle.qz_serial.specs.Standing.{is_keep_fault}
use Rattle.qz_shard.specs.Keeping as part
use Rattle.qz_terms.specs.declared.ask.Ask.{Ask}
use Rattle.qz_terms.specs.declared.record.Record.{Record}
use Rattle.qz_terms.specs.declared.reply.Reply.{Reply}
use Rattle.qz_terms.specs.declared.reply.Reply.TheVariants as reply
use Rattle.qz_terms.specs.Serial.{Lists}
use Rattle.qz_turn.specs.declared.view.Tale.{Tale}
use Rattle.qz_turn.specs.declared.view.Turn.{Turn}
use Rattle.qz_turn.specs.Tales.{put_in}
use Rattle.qz_visit.specs.declared.last.Last.{Last}
use Rattle.qz_visit.specs.Visits.{Asked, Seats, Tellings, Visitor, lists_told, seen_in}
use Rattle.qz_visit.specs.Ways.{Part}

-- ---- a station

-- a place, which is a door with its clock, or a clock alone; one who asks the school there, the notes where they are taken; and how serving the
-- door ended
pub record Post (P : Type 0) : Type 0 where
  pub place : P
  pub visit : Visitor
  pub notes : Option (List Note)
  pub end : DoorEnd

abbrev pub at_place : {P : Type 0} → Post P → P
at_place p = p.place

abbrev pub notes_at : {P : Type 0} → Post P → List Note
notes_at p = unwrap_or p.notes []

-- ---- how serving ended

abbrev pub no_end : DoorEnd
no_end = record { taken = 0; fault = false; short = 0 }

abbrev pub both_ends : DoorEnd → DoorEnd → DoorEnd
both_ends a b = record { taken = a.taken + b.taken; fault = a.fault || b.fault; short = a.short + b.short }

-- of several doors: the links taken and those that were short in all, and whether one of the doors failed
abbrev pub all_ends : List DoorEnd → DoorEnd
all_ends ends = record { taken = sum_by (λ e. e.taken) ends; fault = list_any (λ e. e.fault) ends; short = sum_by (λ e. e.short) ends }

-- without what came with it
abbrev pub end_of : {B E : Type 0} → Result (DoorEnd × B) E → Result DoorEnd E
end_of (Ok sat) = Ok sat.0
end_of (Err why) = Err why

-- ---- keepers that failed

-- how often the keepers of the lists had failed, in all, as they were told
abbrev pub faults_in : List (Tale Record) → ℕ
faults_in ts = sum_by (λ t. t.faults) ts

abbrev pub faults_told : Tellings → ℕ
faults_told t = t.records.faults + faults_in t.parts

-- how often a keeper is said to have failed
abbrev pub fault_replies : List Reply → ℕ
fault_replies replies = length (filter is_keep_fault replies)

-- ---- passes that a school is asked with

-- The school was asked with these passes; or memory was wanting before, and nothing was asked.
pub data AsksWith (a b : Seats) (now : ℕ) (ask : Ask) (told : Reply) : Type 0 where
  asked : (last : Last) → Asked a b last now ask told → AsksWith a b now ask told
  unasked : b ≡ a → told ≡ reply.Refused refusal.Memory → AsksWith a b now ask told

-- the lists that they see
abbrev pub lists_seen : Seats → Lists
lists_seen p = lists_told (seen_in p)

-- they took no turn yet
pub record AreUnturned (p : Seats) : Type 0 where
  pub records : p.records.turns ≡ []
  pub parts : (k : ℕ) (q : Part) → slice_get p.parts k ≡ Some q → q.turns ≡ []

-- ---- how many records were put

-- the turns at the shard of this index
abbrev pub turns_at : List Part → ℕ → List (Turn Record)
turns_at parts k = unwrap_or (option_map (λ q. q.turns) (slice_get parts k)) []

-- how many records the turns of these passes put behind the list of this shard (none: that of the catalogue)
abbrev pub put_at : Option ℕ → Seats → ℕ
put_at None p = put_in p.records.turns
put_at (Some k) p = put_in (turns_at p.parts k)

-- and how many those of all of these
abbrev pub put_with : Option ℕ → List Seats → ℕ
put_with list passes = sum_by (λ p. put_at list p) passes

-- Each list of the second school has as many records as that of the first, and as the turns of these passes put.
pub record GrowsWith {K : Type 0} (passes : List Seats) (a b : School K) : Type 0 where
  pub catalog : length b.catalog.held.list ≡ length a.catalog.held.list + put_with None passes
  pub parts : (k : ℕ) (s t : part.Keeping K) → slice_get a.parts k ≡ Some s → slice_get b.parts k ≡ Some t → length t.held.list ≡ length s.held.list + put_with (Some k) passes

-- ---- doors

-- What serving a door means: the door, then what answers, of which the passes are told, before and after, and how it ended; and what was replied
-- there to all that was asked. The same of a clerk, who notes what is asked. What a clock tells belongs to it.
pub record Serving (D C : Type 0) : Type 1 where
  pub tells : C → ℕ → C → Type 0
  pub serves : D → D → Answerer Seats C → Answerer Seats C → DoorEnd → Type 0
  pub replies : {door served : D} {a b : Answerer Seats C} {end : DoorEnd} → serves door served a b end → List Reply
  pub notes : D → D → Answerer Clerk C → Answerer Clerk C → DoorEnd → Type 0

-- a link, by what is told of one
abbrev pub peer_by : {L : Type 0} → (left holds : L → Option (List ℕ)) → (faults : L → ℕ) → L → Peer
peer_by left holds faults link = record { left = left link; holds = holds link; faults = faults link }

-- a door, by what is told of one
abbrev pub entrance_by : {D L : Type 0} → (left returned : D → Option (List L)) → (returns out faults : D → ℕ) → D → Entrance L
entrance_by left returned returns out faults door = record { left = left door; returned = returned door; returns = returns door; out = out door; faults = faults door }

-- Doors are served, and each request is asked of the school: by what a clock tells, and by what links and doors are.
abbrev pub serving_by : {D L C : Type 0} → (C → ℕ → C → Type 0) → (L → Peer) → (D → Entrance L) → ℕ → Serving D C
serving_by tells peer entrance links = record {
  tells = tells;
  serves = λ door served a b end. ServesDoor (Asks tells AsksWith) peer links (entrance door) (entrance served) a b end;
  replies = λ going. replies_at going;
  notes = λ door served a b end. ServesDoor (Asks tells Answers) peer links (entrance door) (entrance served) a b end;
}

-- The door at this place was served by its clock with passes that had taken no turn and saw this much of the lists; these are they afterwards. Of
-- what they saw then this holds. As often as a reply there says that a keeper failed, the count of one rose meanwhile.
pub record ServesAt {D C : Type 0} (serves : Serving D C) (told : Tellings) (Kept : Tellings → Type 0) (old new : List (D × C)) (k : ℕ) (end : DoorEnd) (last : Seats) : Type 0 where
  pub door : D
  pub served : D
  pub clock : C
  pub ticked : C
  pub first : Seats
  pub told_is : seen_in first ≡ told
  pub unturned : AreUnturned first
  pub before : slice_get old k ≡ Some (door, clock)
  pub after : slice_get new k ≡ Some (served, ticked)
  pub going : serves.serves door served (record { desk = first; clock = clock }) (record { desk = last; clock = ticked }) end
  pub as_often : HasRisenBy (faults_told told) (fault_replies (serves.replies going)) (faults_told (seen_in last))
  pub kept : Kept (seen_in last)

-- ---- those that regrade

-- Somebody regraded, by a clock, with passes that had taken no turn and saw this much of the lists; these are they afterwards. Of what they saw
-- then this holds.
pub record RegradesOnce {C : Type 0} (tells : C → ℕ → C → Type 0) (told : Tellings) (Kept : Tellings → Type 0) (last : Seats) : Type 0 where
  pub clock : C
  pub ticked : C
  pub first : Seats
  pub told_is : seen_in first ≡ told
  pub unturned : AreUnturned first
  pub end : LoopEnd
  pub regrades : Regrades tells AsksWith lists_seen (record { desk = first; clock = clock }) (record { desk = last; clock = ticked }) end
  pub kept : Kept (seen_in last)

-- so many did, each with passes of their own
pub record RegradesBeside {C : Type 0} (tells : C → ℕ → C → Type 0) (told : Tellings) (Kept : Tellings → Type 0) (count : ℕ) : Type 0 where
  pub lasts : List Seats
  pub lasts_are : length lasts ≡ count
  pub each : (k : ℕ) (p : Seats) → slice_get lasts k ≡ Some p → RegradesOnce tells told Kept p

-- ---- doors, side by side

-- The first so many doors were served side by side, each with passes of its own, and ended so in all. The others stay.
pub record ServesBeside {D C : Type 0} (serves : Serving D C) (told : Tellings) (Kept : Tellings → Type 0) (count : ℕ) (old new : List (D × C)) (end : DoorEnd) : Type 0 where
  pub ends : List DoorEnd
  pub count_is : length ends ≡ count
  pub end_is : end ≡ all_ends ends
  pub lasts : List Seats
  pub lasts_are : length lasts ≡ count
  pub each : (k : ℕ) (e : DoorEnd) (p : Seats) → slice_get ends k ≡ Some e → slice_get lasts k ≡ Some p → ServesAt serves told Kept old new k e p
  pub others : drop count new ≡ drop count old
  pub as_many : length new ≡ length old

-- The first so many doors were served side by side, while so many regraded beside them, and of all of their passes afterwards this holds.
pub record ServesCrew {D C : Type 0} (serves : Serving D C) (told : Tellings) (Kept : Tellings → Type 0) (Put : List Seats → Type 0) (workers regraders : ℕ) (old new : List (D × C)) (end : DoorEnd) : Type 0 where
  pub beside : ServesBeside serves told Kept workers old new end
  pub regraded : RegradesBeside serves.tells told Kept regraders
  pub put : Put (beside.lasts ++ regraded.lasts)
