-- A door whose links never wait, and the desks that serve them: what happens there, one thing after the other.
use Rattle.std.specs.Prelude.{◌≡◌, ℕ, ◌+◌, ◌<◌, ◌≤◌, List, [], ◌∷◌, map, slice_get, slice_set, Option, Some, option_map, IfSome}
use Rattle.qz_outside.specs.Causes.{HasRisen}
use Rattle.qz_terms.specs.declared.ask.Ask.{Ask}
use Rattle.qz_terms.specs.declared.reply.Reply.{Reply}
use Rattle.qz_http.specs.declared.items.LinkEnd.{LinkEnd}
use Rattle.qz_asking.specs.Asking.{Answerer}
use Rattle.qz_links.specs.Doors.{GivesBack}
use Rattle.qz_doors.specs.Doors.{Entrance, TakesNoLink, is_short, shorter}
use Rattle.qz_doors.specs.Links.{LinkEnds, Peer}
use Rattle.qz_ready_doors.specs.declared.end.PollWhy.{PollWhy}
use Rattle.qz_ready_doors.specs.declared.end.PollWhy.TheVariants as why

-- a desk that is free; or one that has a link: the link, and what answers it, as they were when it was taken
pub data Place (L S : Type 0) : Type 0 where
  free : S → Place L S
  busy : L → S → Place L S

pub record Hall (L S : Type 0) : Type 0 where
  pub entrance : Entrance L
  pub places : List (Place L S)

-- the next link is taken to a desk that is free
pub record TakesLink {L S : Type 0} (old new : Hall L S) : Type 0 where
  pub at : ℕ
  pub link : L
  pub a : S
  pub was_free : slice_get old.places at ≡ Some (free a)
  pub places : new.places ≡ slice_set old.places at (busy link a)
  pub left : old.entrance.left ≡ option_map (λ left. link ∷ left) new.entrance.left
  pub returned : new.entrance.returned ≡ old.entrance.returned
  pub returns : new.entrance.returns ≡ old.entrance.returns
  pub out : new.entrance.out ≡ old.entrance.out + 1
  pub later : old.entrance.faults ≤ new.entrance.faults

-- a link has ended so, as one does that its desk serves alone: it is given back, and its desk is free
pub record EndsLink {L S : Type 0} (asks : S → S → Ask → Reply → Type 0) (peer : L → Peer) (old new : Hall L S) (why : LinkEnd) : Type 0 where
  pub at : ℕ
  pub link : L
  pub served : L
  pub a : S
  pub b : S
  pub was_busy : slice_get old.places at ≡ Some (busy link a)
  pub ends : LinkEnds asks (peer link) (peer served) a b why
  pub places : new.places ≡ slice_set old.places at (free b)
  pub left : new.entrance.left ≡ old.entrance.left
  pub returned : GivesBack old.entrance.returned new.entrance.returned served
  pub returns : new.entrance.returns ≡ old.entrance.returns + 1
  pub out : old.entrance.out ≡ new.entrance.out + 1
  pub faults : new.entrance.faults ≡ old.entrance.faults

-- From one to the other these things happened: so many links were taken, and so many ended for want of memory.
pub data Happens {L S : Type 0} (asks : S → S → Ask → Reply → Type 0) (peer : L → Peer) (old : Hall L S) : Hall L S → ℕ → ℕ → Type 0 where
  none : Happens asks peer old old 0 0
  took : (mid new : Hall L S) (taken short : ℕ) → Happens asks peer old mid taken short → TakesLink mid new → Happens asks peer old new (taken + 1) short
  ended : (mid new : Hall L S) (taken short : ℕ) (why : LinkEnd) → Happens asks peer old mid taken short → EndsLink asks peer mid new why → Happens asks peer old new taken (shorter (is_short why) short)
  -- the door was tried, and no link was there
  tried : (mid new : Hall L S) (taken short : ℕ) → Happens asks peer old mid taken short → TakesNoLink mid.entrance new.entrance → new.places ≡ mid.places → Happens asks peer old new taken short

-- why no more than so many links were taken
abbrev pub Stops : {L : Type 0} → ℕ → Entrance L → Entrance L → ℕ → PollWhy → Type 0
Stops most old new taken why.Over = (taken < most) × IfSome new.left (λ left. left ≡ [])
Stops most old new taken why.Enough = taken ≡ most
Stops most old new taken why.DoorFault = (taken < most) × HasRisen old.faults new.faults
Stops most old new taken why.Memory = taken < most

abbrev pub entrance_by : {P L : Type 0} → (P → Option (List L)) → (P → Option (List L)) → (P → ℕ) → (P → ℕ) → (P → ℕ) → P → Entrance L
entrance_by left returned returns out faults door = record { left = left door; returned = returned door; returns = returns door; out = out door; faults = faults door }

-- a desk with its clock
abbrev pub answerer_of : {D C : Type 0} → D × C → Answerer D C
answerer_of pair = record { desk = pair.0; clock = pair.1 }

-- desks before a door, all of them free
abbrev pub all_free : {D L C : Type 0} → Entrance L → List (D × C) → Hall L (Answerer D C)
all_free entrance desks = record { entrance = entrance; places = map free (map answerer_of desks) }

-- At most so many links were taken, each to a desk that was free then. Each was served there, and given back as soon as it ended. All desks
-- are free again.
pub record ServesReady {D L C : Type 0} (asks : Answerer D C → Answerer D C → Ask → Reply → Type 0) (peer : L → Peer) (most : ℕ) (old : Hall L (Answerer D C)) (new : Entrance L) (desks : List (D × C)) (taken short : ℕ) (why : PollWhy) : Type 0 where
  pub happens : Happens asks peer old (all_free new desks) taken short
  pub within : taken ≤ most
  pub stops : Stops most old.entrance new taken why
  pub returns : new.returns ≡ old.entrance.returns + taken
  pub out : new.out ≡ old.entrance.out
