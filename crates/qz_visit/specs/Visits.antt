-- A school behind locks as one who asks it sees it: a pass of each lock, what a request found of each list, and what it came to.
use Rattle.std.specs.List.{All}
use Rattle.std.specs.Prelude.{◌≡◌, ◌≢◌, ◌⊎◌, ℕ, ◌+◌, ◌-◌, ◌<◌, ◌≤◌, Bool, true, false, List, [], ◌∷◌, ◌++◌, length, map, slice_get, sum_by, Option, None, Some, Result, MatchResult}
use Rattle.qz_terms.specs.declared.limits.TheConstants.{MOST_SHARDS}
use Rattle.qz_catalog_turns.specs.declared.replied.OwnRecord.{OwnRecord}
use Rattle.qz_catalog_turns.specs.declared.replied.OwnRecord.TheVariants as own
use Rattle.qz_catalog_turns.specs.declared.replied.Replied.{Replied}
use Rattle.qz_catalog_turns.specs.Owning.{Leaves}
use Rattle.qz_catalog_turns.specs.Turning.{Fails, IsLook, Looked, held_of}
use Rattle.qz_grading.specs.declared.refusal.Refusal.{Refusal}
use Rattle.qz_serial.specs.Once.{AskedOnce}
use Rattle.qz_serial.specs.Paths.{goes_to_part}
use Rattle.qz_shard_turns.specs.Tying.{Placed}
use Rattle.qz_terms.specs.declared.ask.Ask.{Ask}
use Rattle.qz_terms.specs.declared.people.Caller.TheVariants as caller
use Rattle.qz_terms.specs.declared.record.Record.{Record}
use Rattle.qz_terms.specs.declared.reply.Done.{Done}
use Rattle.qz_terms.specs.declared.reply.Reply.{Reply}
use Rattle.qz_terms.specs.declared.reply.Reply.TheVariants as reply
use Rattle.qz_terms.specs.SchoolAnswer.{asked_part}
use Rattle.qz_terms.specs.Serial.{Lists, Mended, is_catalog, is_part, is_report}
use Rattle.qz_turn.specs.declared.view.Tale.{Tale}
use Rattle.qz_turn.specs.declared.view.Turn.{Turn}
use Rattle.qz_turn.specs.Passes.{Lock, Standing}
use Rattle.qz_turn.specs.Tales.{Follows}
use Rattle.qz_turn.specs.Turns.{last_turn, Locked}
use Rattle.qz_visit.specs.declared.last.Last.{Last}
use Rattle.qz_visit.specs.declared.last.Said.{Said}

-- ---- its locks

-- the lock of the catalogue, and those of the shards in order
pub record Locks : Type 0 where
  pub records : Locked (Unit {0})
  pub parts : List (Locked Placed)

-- the lock of the shard at this index, of so many, tied to the catalogue's
pub record IsPlaced (records : Lock (Unit {0})) (count k : ℕ) (parts : Lock Placed) : Type 0 where
  pub place : Placed
  pub keyed : parts.key ≡ Some place
  pub own : place.note.lock ≡ records
  pub index_is : place.index ≡ k
  pub count_is : place.count ≡ count

-- there is a shard, there are 64 at most, and each shard's lock is that of its place
pub record IsSchool (records : Locked (Unit {0})) (parts : List (Locked Placed)) : Type 0 where
  pub some : 0 < length parts
  pub few : length parts ≤ MOST_SHARDS
  pub placed : (k : ℕ) (l : Locked Placed) → slice_get parts k ≡ Some l → IsPlaced records.lock (length parts) k l.lock

-- ---- its passes

-- a pass of the catalogue's lock, and one of each shard's
pub record Seats : Type 0 where
  pub records : Standing Record (Unit {0})
  pub parts : List (Standing Record Placed)

-- of this lock, with a number
pub record IsOf {K : Type 0} (lock : Lock K) (pass : Standing Record K) : Type 0 where
  pub own : pass.lock ≡ lock
  pub numbered : pass.numbers ≢ []

-- they are of this school's locks, each with a number
pub record AreOf (s : Locks) (p : Seats) : Type 0 where
  pub records : IsOf s.records.lock p.records
  pub count : length p.parts ≡ length s.parts
  pub parts : (k : ℕ) (l : Locked Placed) (q : Standing Record Placed) → slice_get s.parts k ≡ Some l → slice_get p.parts k ≡ Some q → IsOf l.lock q

-- ---- what was told of its lists

pub record Tellings : Type 0 where
  pub records : Tale Record
  pub parts : List (Tale Record)

abbrev pub lists_told : Tellings → Lists
lists_told t = record { records = held_of t.records; parts = map held_of t.parts }

abbrev pub seen_by : List (Standing Record Placed) → List (Tale Record)
seen_by passes = map (λ p. p.seen) passes

-- what its passes see
abbrev pub seen_in : Seats → Tellings
seen_in p = record { records = p.records.seen; parts = seen_by p.parts }

-- ---- a request

-- what was found, once it was mended; the count of faults is that which was found
abbrev pub IsMendedTo : Tale Record → Tale Record → Type 0
IsMendedTo found mended = Mended (held_of found) (held_of mended) × (mended.faults ≡ found.faults)

-- A request's last turn at a list found what goes on from what its pass had seen, and the pass sees what it left. No turn of the request
-- before it put a record.
pub record TookTurn {K : Type 0} (old new : Standing Record K) : Type 0 where
  pub begins : Follows old.seen new.found
  pub grows : Follows new.found new.seen
  pub earlier : List (Turn Record)
  pub looks : All IsLook earlier
  pub added : new.turns ≡ old.turns ++ (earlier ++ last_turn new ∷ [])
  pub numbers : new.numbers ≡ old.numbers
  pub lock : new.lock ≡ old.lock

-- What a request found of a list goes on from what its pass had seen, and what the pass sees now goes on from that. Either no turn of the
-- request put a record, and it is all that the pass sees now; or it is what the last turn found, once it was mended, and no turn before that
-- put one.
pub record IsFoundBy {K : Type 0} (old new : Standing Record K) (found : Tale Record) : Type 0 where
  pub begins : Follows old.seen found
  pub grows : Follows found new.seen
  pub turned : (Looked old new × (found ≡ new.seen)) ⊎ (TookTurn old new × IsMendedTo new.found found)
  pub numbers : new.numbers ≡ old.numbers
  pub lock : new.lock ≡ old.lock

-- so it is of each shard's list
pub data AreFoundBy : List (Standing Record Placed) → List (Standing Record Placed) → List (Tale Record) → Type 0 where
  none : AreFoundBy [] [] []
  more : (old new : Standing Record Placed) (found : Tale Record) (os ns : List (Standing Record Placed)) (fs : List (Tale Record)) → IsFoundBy old new found → AreFoundBy os ns fs → AreFoundBy (old ∷ os) (new ∷ ns) (found ∷ fs)

-- a keeper failed, that of the catalogue's list or that of a shard's
pub data Rose (found seen : Tellings) : Type 0 where
  of_catalog : Fails found.records seen.records → Rose found seen
  of_shard : (k : ℕ) (f s : Tale Record) → slice_get found.parts k ≡ Some f → slice_get seen.parts k ≡ Some s → Fails f s → Rose found seen

-- the record that a request put, at the list where it went; at no other list it has one
abbrev pub own_if : Bool → OwnRecord → OwnRecord
own_if true o = o
own_if false o = own.Absent

-- Between the lists that a request found and those that its passes see stands its own record, or is in doubt, at the list of this shard (none: of
-- the catalogue), as is said. All else is as it was found.
pub record Owns (found seen : Tellings) (part : Option ℕ) (o : OwnRecord) : Type 0 where
  pub records : Leaves (held_of found.records) (held_of seen.records) (own_if (is_catalog part) o)
  pub parts : (k : ℕ) (f s : Tale Record) → slice_get found.parts k ≡ Some f → slice_get seen.parts k ≡ Some s → Leaves (held_of f) (held_of s) (own_if (is_part k part) o)

-- the pass took a turn, or more
pub record TakesTurns {K : Type 0} (old new : Standing Record K) : Type 0 where
  pub first : Turn Record
  pub others : List (Turn Record)
  pub added : new.turns ≡ old.turns ++ first ∷ others

-- Where a shard is told, the request goes there, and it is one of those that there are. What is accepted there was answered in a turn of this
-- request, and a report in a turn at each shard. Where none is told, what was accepted goes to no shard alone.
pub record IsNamed (c : List Record) (old new : List (Standing Record Placed)) (ask : Ask) (list : Option ℕ) (told : Reply) : Type 0 where
  pub place : (k : ℕ) → list ≡ Some k → (goes_to_part ask.request ≡ true) × (asked_part c (length old) ask ≡ Some k) × (k < length old)
  pub turned : (k : ℕ) (o n : Standing Record Placed) (at : ℕ) (d : Done) → (list ≡ Some k) ⊎ (is_report ask.request ≡ true) → slice_get old k ≡ Some o → slice_get new k ≡ Some n → told ≡ reply.Ok at d → TakesTurns o n
  pub elsewhere : (at : ℕ) (d : Done) → list ≡ None → told ≡ reply.Ok at d → goes_to_part ask.request ≡ false

-- A request of one who holds these passes. Over the lists that it found it comes to what it may come to, and leaves those that its passes see.
-- A keeper is said to have failed only where the count of a list rose while the request was at it, of which a record is in doubt since.
pub record Visited (old new : Seats) (now : ℕ) (ask : Ask) (told : Said) : Type 0 where
  pub found : Tellings
  pub records : IsFoundBy old.records new.records found.records
  pub parts : AreFoundBy old.parts new.parts found.parts
  pub once : AskedOnce (Rose found (seen_in new)) (lists_told found) (lists_told (seen_in new)) now ask told.reply
  pub owns : Owns found (seen_in new) told.list told.own
  pub named : IsNamed found.records.list old.parts new.parts ask told.list told.reply

-- what was said by the shard at this place
abbrev pub at_part : ℕ → Replied → Said
at_part k told = record { reply = told.reply; list = Some k; own = told.own }

-- a refusal that no shard gave
abbrev pub refusing : Refusal → Said
refusing r = record { reply = reply.Refused r; list = None; own = own.Absent }

-- of an answer whose error is a refusal
abbrev pub Visits : Seats → Seats → ℕ → Ask → Result Said Refusal → Type 0
Visits old new now ask result = MatchResult result (Visited old new now ask) (λ r. Visited old new now ask (refusing r))

-- ---- what is kept of a request

-- how many records these lists have, one after the other
pub record AreCounted (tales : List (Tale Record)) (counts : List ℕ) : Type 0 where
  pub many : length counts ≡ length tales
  pub each : (k : ℕ) (t : Tale Record) → slice_get tales k ≡ Some t → slice_get counts k ≡ Some (length t.list)

-- how many records a list has without a request's own
abbrev pub without_own : OwnRecord → ℕ → ℕ
without_own own.Stands n = n - 1
without_own own.InDoubt n = n
without_own own.Absent n = n

-- how many records these lists have without that of a request at the list of this shard
pub record AreLeft (o : OwnRecord) (part : Option ℕ) (tales : List (Tale Record)) (counts : List ℕ) : Type 0 where
  pub many : length counts ≡ length tales
  pub each : (k : ℕ) (t : Tale Record) → slice_get tales k ≡ Some t → slice_get counts k ≡ Some (without_own (own_if (is_part k part) o) (length t.list))

-- the record put stands, or is in doubt
abbrev pub own_kept : Bool → Bool → OwnRecord
own_kept true doubt = own.Stands
own_kept false true = own.InDoubt
own_kept false false = own.Absent

abbrev pub said_by : Reply → Last → Said
said_by told last = record { reply = told; list = last.list; own = own_kept last.put last.doubt }

-- what is asked by a token takes a turn at the catalogue
abbrev pub AsksInTurn : {K : Type 0} → Standing Record K → Standing Record K → Ask → Type 0
AsksInTurn old new ask = (token : List ℕ) → ask.caller ≡ caller.Token token → TakesTurns old new

-- A request, as `Visited` tells, and what is kept of it: how long the lists are that it found, and what became of its own record.
pub record Asked (old new : Seats) (last : Last) (now : ℕ) (ask : Ask) (told : Reply) : Type 0 where
  pub visited : Visited old new now ask (said_by told last)
  pub in_turn : AsksInTurn old.records new.records ask
  pub catalog : last.catalog ≡ length visited.found.records.list
  pub parts : AreCounted visited.found.parts last.parts

-- nothing was asked yet
pub record IsUnasked (p : Seats) (last : Last) : Type 0 where
  pub catalog : last.catalog ≡ length p.records.seen.list
  pub parts : AreCounted (seen_by p.parts) last.parts
  pub list : last.list ≡ None
  pub own : own_kept last.put last.doubt ≡ own.Absent

-- passes of a school, and what is kept of their last request
pub record Holder : Type 0 where
  pub seats : Seats
  pub last : Last

-- ---- one who asks

-- a school, the passes of one who asks it, and what is kept of the last request
pub record Visitor : Type 0 where
  pub school : Locks
  pub passes : Seats
  pub last : Last

-- how often the keepers of the lists had failed, in all, when the passes last saw them
abbrev pub faults_seen : Seats → ℕ
faults_seen p = p.records.seen.faults + sum_by (λ q. q.seen.faults) p.parts
