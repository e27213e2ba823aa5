-- A school behind locks whose visitors, on one thread, serve the links of a door.
use Rattle.std.specs.Prelude.{◌≡◌, ℕ, ◌+◌, ◌<◌, ◌≤◌, Bool, true, false, ◌||◌, nat_lt, List, map, slice_get, None, Some}
use Rattle.qz_asking.specs.Asking.{Asks}
use Rattle.qz_doors.specs.Doors.{Entrance}
use Rattle.qz_doors.specs.Links.{Peer}
use Rattle.qz_ready_doors.specs.declared.end.PollWhy.{PollWhy}
use Rattle.qz_ready_doors.specs.declared.end.PollWhy.TheVariants as why
use Rattle.qz_ready_doors.specs.Halls.{Stops, answerer_of}
use Rattle.qz_ready_doors.specs.Runs.{ServesEach}
use Rattle.qz_served.specs.declared.saying.Served.{Served}
use Rattle.qz_stations.specs.Posts.{NoneTurned, TakesUp}
use Rattle.qz_stations.specs.Stations.{AreUnturned, Post, no_end}
use Rattle.qz_terms.specs.declared.ask.Ask.{Ask}
use Rattle.qz_terms.specs.declared.reply.Reply.{Reply}
use Rattle.qz_visit.specs.Visits.{Asked, Locks, Seats, Tellings, Visitor, seen_in}

-- ---- how serving ended, as it is said

abbrev pub is_fault : PollWhy → Bool
is_fault why.Over = false
is_fault why.Enough = false
is_fault why.DoorFault = true
is_fault why.Memory = false

abbrev pub is_wanting : PollWhy → Bool
is_wanting why.Over = false
is_wanting why.Enough = false
is_wanting why.DoorFault = false
is_wanting why.Memory = true

-- memory was wanting for a link, or for the run
abbrev pub served_of : ℕ → ℕ → PollWhy → Served
served_of taken short w = record { taken = taken; fault = is_fault w; short = nat_lt 0 short || is_wanting w }

-- ---- links

-- At most so many links were taken, and all of them were given back, in the order in which they ended. Each desk served its own in turn. Fewer
-- were taken only where none was left, the door failed, or memory was wanting.
pub record ServesLinks {L S : Type 0} (asks : S → S → Ask → Reply → Type 0) (peer : L → Peer) (most : ℕ) (old new : Entrance L) (befores afters : List S) (taken short : ℕ) (w : PollWhy) : Type 0 where
  pub each : ServesEach asks peer old new befores afters taken short
  pub within : taken ≤ most
  pub stops : Stops most old new taken w
  pub returns : new.returns ≡ old.returns + taken
  pub out : new.out ≡ old.out

-- ---- visitors of a school

-- what a visitor answers: the reply to a request over the lists that it finds then
abbrev pub Visits : Visitor → Visitor → ℕ → Ask → Reply → Type 0
Visits a b now ask told = (b.school ≡ a.school) × Asked a.passes b.passes b.last now ask told

abbrev pub visitor_passes : {C : Type 0} → Visitor × C → Seats
visitor_passes pair = pair.0.passes

-- The links of a door were served by one visitor a clock, whose passes had taken no turn, and to all of whom this was told of the lists at first.
-- Of what each sees of them in the end this holds, and that of all of their passes.
pub record VisitorsServe {L C : Type 0} (tells : C → ℕ → C → Type 0) (peer : L → Peer) (most : ℕ) (clocks : List C) (old new : Entrance L) (told : Tellings) (Kept : Tellings → Type 0) (Put : List Seats → Type 0) (end : Served) : Type 0 where
  pub taken : ℕ
  pub short : ℕ
  pub w : PollWhy
  pub befores : List (Visitor × C)
  pub afters : List (Visitor × C)
  pub clocks_are : clocks ≡ map (λ x. x.1) befores
  pub first : (k : ℕ) (x : Visitor × C) → slice_get befores k ≡ Some x → seen_in x.0.passes ≡ told
  pub unturned : (k : ℕ) (x : Visitor × C) → slice_get befores k ≡ Some x → AreUnturned x.0.passes
  pub serves : ∥ ServesLinks (Asks tells Visits) peer most old new (map answerer_of befores) (map answerer_of afters) taken short w ∥₁
  pub end_is : end ≡ served_of taken short w
  pub kept : (k : ℕ) (x : Visitor × C) → slice_get afters k ≡ Some x → Kept (seen_in x.0.passes)
  pub put : Put (map visitor_passes afters)

-- ---- their seats

-- a visitor with a clock
abbrev pub post_of : {C : Type 0} → Visitor × C → Post C
post_of pair = record { place = pair.1; visit = pair.0; notes = None; end = no_end }

-- Visitors have the first of these clocks, each with passes of its own, of those that had these numbers. These clocks are left.
pub record HaveSeats {C : Type 0} (s : Locks) (told : Tellings) (numbers : List ℕ) (clocks : List C) (passes : Seats) (pairs : List (Visitor × C)) : Type 0 where
  pub left : List C
  pub taken : TakesUp s told numbers clocks left passes (map post_of pairs)
  pub unturned : NoneTurned passes (map post_of pairs)
