-- What one who asks a school sees of its lists, from one time to a later one.
use Rattle.std.specs.Prelude.{ℕ, List, [], ◌∷◌}
use Rattle.qz_serial.specs.Once.{AskedOnce}
use Rattle.qz_terms.specs.declared.ask.Ask.{Ask}
use Rattle.qz_terms.specs.declared.record.Record.{Record}
use Rattle.qz_terms.specs.declared.reply.Reply.{Reply}
use Rattle.qz_turn.specs.declared.view.Tale.{Tale}
use Rattle.qz_turn.specs.Tales.{Follows}
use Rattle.qz_visit.specs.Visits.{Rose, Tellings, lists_told}

-- each of these goes on from the one at its place
pub data FollowEach : List (Tale Record) → List (Tale Record) → Type 0 where
  none : FollowEach [] []
  more : (a b : Tale Record) (xs bs : List (Tale Record)) → Follows a b → FollowEach xs bs → FollowEach (a ∷ xs) (b ∷ bs)

-- the catalogue's list goes on, and each shard's
pub record FollowAll (a b : Tellings) : Type 0 where
  pub records : Follows a.records b.records
  pub parts : FollowEach a.parts b.parts

-- What was seen of the lists before a request, a, begins what it found, and from that goes on what is seen now, b. Over the lists found it
-- comes to what it may come to, acts once, and leaves those seen. A keeper is said to have failed only where a count of faults rose between.
pub record IsAskedBeside (a b : Tellings) (now : ℕ) (ask : Ask) (told : Reply) : Type 0 where
  pub found : Tellings
  pub begins : FollowAll a found
  pub grows : FollowAll found b
  pub once : AskedOnce (Rose found b) (lists_told found) (lists_told b) now ask told
