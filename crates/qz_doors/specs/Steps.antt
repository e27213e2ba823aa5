-- One step of serving a link: a piece that is read, and an item that is answered.
use Rattle.std.specs.Prelude.{◌≡◌, ◌⊎◌, ℕ, ◌<◌, ◌≤◌, true, false, List, [], length, Option}
use Rattle.std.specs.Io.KnownBytes.{Appends, Consumes, IsAtEnd, Keeps}
use Rattle.qz_outside.specs.Causes.{HasRisen}
use Rattle.qz_outside.specs.Sources.{AppendsFront}
use Rattle.qz_terms.specs.declared.ask.Ask.{Ask}
use Rattle.qz_terms.specs.declared.reply.Reply.{Reply}
use Rattle.qz_http.specs.declared.items.Item.{Item}
use Rattle.qz_http.specs.declared.items.Item.TheVariants as item
use Rattle.qz_http.specs.declared.items.LinkEnd.{LinkEnd}
use Rattle.qz_http.specs.declared.items.LinkEnd.TheVariants as end
use Rattle.qz_http.specs.Links.{Gives, Link, fed, written}
use Rattle.qz_http.specs.Talk.{ended_link, is_request}
use Rattle.qz_doors.specs.declared.halt.Halt.{Halt}
use Rattle.qz_doors.specs.declared.halt.Halt.TheVariants as halt
use Rattle.qz_doors.specs.Answers.{RepliesTo}
use Rattle.qz_doors.specs.Links.{Peer, has_response}

abbrev pub halt_end : Halt → LinkEnd
halt_end halt.ReadFault = end.ReadFault
halt_end halt.WriteFault = end.WriteFault
halt_end halt.Memory = end.Memory

-- ---- reading

-- a piece is fed; where none is left, the bytes have ended
pub data Feeds (core : Link) (left : Option (List ℕ)) : List ℕ → Link → Type 0 where
  more : (piece : List ℕ) → 0 < length piece → Feeds core left piece (fed core piece)
  ended : IsAtEnd left → Feeds core left [] (ended_link core)

pub record ReadsOn (old new : Peer) (core after : Link) : Type 0 where
  pub piece : List ℕ
  pub taken : Consumes old.left new.left piece
  pub feeds : Feeds core new.left piece after
  pub apart : new.holds ≡ old.holds
  pub later : old.faults ≤ new.faults

-- a piece was taken, and no memory was found for it
pub record LosesPiece (old new : Peer) : Type 0 where
  pub piece : List ℕ
  pub taken : Consumes old.left new.left piece
  pub apart : new.holds ≡ old.holds
  pub later : old.faults ≤ new.faults

-- nothing was read
pub record FailsToRead (old new : Peer) : Type 0 where
  pub kept : Keeps old.left new.left
  pub apart : new.holds ≡ old.holds
  pub later : old.faults ≤ new.faults
  pub risen : HasRisen old.faults new.faults

abbrev pub ReadStops : Peer → Peer → Halt → Type 0
ReadStops old new halt.ReadFault = FailsToRead old new
ReadStops old new halt.WriteFault = ⊥
ReadStops old new halt.Memory = LosesPiece old new

-- ---- answering

-- an item is answered, and its response written
pub record AnswersItem {S : Type 0} (asks : S → S → Ask → Reply → Type 0) (old new : Peer) (a b : S) (here : Link) (given : Item) : Type 0 where
  pub reply : Reply
  pub replied : RepliesTo asks given a b reply
  pub written : Appends old.holds new.holds (written here given reply)
  pub apart : new.left ≡ old.left
  pub later : old.faults ≤ new.faults

-- a front of its response is written
pub record LeavesItem {S : Type 0} (asks : S → S → Ask → Reply → Type 0) (old new : Peer) (a b : S) (here : Link) (given : Item) : Type 0 where
  pub reply : Reply
  pub replied : RepliesTo asks given a b reply
  pub written : AppendsFront old.holds new.holds (written here given reply)
  pub apart : new.left ≡ old.left
  pub later : old.faults ≤ new.faults

abbrev pub AnswerStops : {S : Type 0} → (S → S → Ask → Reply → Type 0) → Peer → Peer → S → S → Link → Item → Halt → Type 0
AnswerStops asks old new a b here given halt.ReadFault = ⊥
AnswerStops asks old new a b here given halt.WriteFault = LeavesItem asks old new a b here given × HasRisen old.faults new.faults
AnswerStops asks old new a b here given halt.Memory = LeavesItem asks old new a b here given

-- ---- an item that was given

-- Nothing is over: more bytes were needed, and read; or a request is answered.
abbrev pub GoesOn : {S : Type 0} → (S → S → Ask → Reply → Type 0) → Peer → Peer → S → S → Link → Link → Item → Type 0
GoesOn asks old new a b here after given =
    ((given ≡ item.Need) × ReadsOn old new here after × (b ≡ a)) ⊎ ((is_request given ≡ true) × AnswersItem asks old new a b here given × (after ≡ here))

-- it is over: the refusal of a head is written, and nothing for any other end
abbrev pub IsDone : {S : Type 0} → (S → S → Ask → Reply → Type 0) → Peer → Peer → S → S → Link → Item → LinkEnd → Type 0
IsDone asks old new a b here given why =
    (given ≡ item.Over why) × (((has_response given ≡ true) × AnswersItem asks old new a b here given) ⊎ ((has_response given ≡ false) × (new ≡ old) × (b ≡ a)))

-- it stopped
abbrev pub ItemStops : {S : Type 0} → (S → S → Ask → Reply → Type 0) → Peer → Peer → S → S → Link → Item → Halt → Type 0
ItemStops asks old new a b here given halt.ReadFault = (given ≡ item.Need) × FailsToRead old new × (b ≡ a)
ItemStops asks old new a b here given halt.WriteFault = (has_response given ≡ true) × LeavesItem asks old new a b here given × HasRisen old.faults new.faults
ItemStops asks old new a b here given halt.Memory = ((given ≡ item.Need) × LosesPiece old new × (b ≡ a)) ⊎ ((has_response given ≡ true) × LeavesItem asks old new a b here given)

-- ---- one step

pub record StepsOn {S : Type 0} (asks : S → S → Ask → Reply → Type 0) (old new : Peer) (a b : S) (core after : Link) : Type 0 where
  pub given : Item
  pub here : Link
  pub gives : Gives core given here
  pub goes : GoesOn asks old new a b here after given

pub record StepEnds {S : Type 0} (asks : S → S → Ask → Reply → Type 0) (old new : Peer) (a b : S) (core : Link) (why : LinkEnd) : Type 0 where
  pub given : Item
  pub here : Link
  pub gives : Gives core given here
  pub done : IsDone asks old new a b here given why

-- memory was wanting before an item was given, or it stopped at an item
pub data StepStops {S : Type 0} (asks : S → S → Ask → Reply → Type 0) (old new : Peer) (a b : S) (core : Link) : Halt → Type 0 where
  before : new ≡ old → b ≡ a → StepStops asks old new a b core halt.Memory
  within : (given : Item) (here : Link) (why : Halt) → Gives core given here → ItemStops asks old new a b here given why → StepStops asks old new a b core why
