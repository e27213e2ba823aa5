-- One step of serving a link that never waits.
use Rattle.std.specs.Prelude.{◌≡◌, ℕ, ◌+◌, ◌<◌, ◌≤◌, true, List, [], length, Option, Some, None, Result, Ok, Err}
use Rattle.std.specs.Io.KnownBytes.{Keeps}
use Rattle.qz_outside.specs.Causes.{HasRisen}
use Rattle.qz_outside.specs.Sources.{WritesOn}
use Rattle.qz_terms.specs.declared.ask.Ask.{Ask}
use Rattle.qz_terms.specs.declared.reply.Reply.{Reply}
use Rattle.qz_http.specs.declared.items.Item.{Item}
use Rattle.qz_http.specs.declared.items.Item.TheVariants as item
use Rattle.qz_http.specs.declared.items.LinkEnd.{LinkEnd}
use Rattle.qz_http.specs.declared.items.LinkEnd.TheVariants as end
use Rattle.qz_http.specs.Links.{Link, written}
use Rattle.qz_http.specs.Talk.{is_request}
use Rattle.qz_doors.proofs.ServeLemmas.{steps_left}
use Rattle.qz_doors.specs.Answers.{RepliesTo}
use Rattle.qz_doors.specs.Links.{LinkEnds, Peer, ServedSoFar}
use Rattle.qz_doors.specs.Steps.{FailsToRead, LosesPiece, ReadsOn}
use Rattle.qz_poll.specs.declared.sending.Sending.{Sending}
use Rattle.qz_poll.specs.declared.sending.Sending.TheVariants as sending
use Rattle.qz_poll.specs.declared.step.Step.{Step}
use Rattle.qz_poll.specs.declared.step.Step.TheVariants as step
use Rattle.qz_poll.specs.declared.step.Advance.{Advance}
use Rattle.qz_poll.specs.declared.step.Advance.TheVariants as advance
use Rattle.qz_poll.specs.declared.step.TheConstants.{MOST_AT_ONCE}
use Rattle.qz_poll.specs.Outsides.{IsLater, Outside}
use Rattle.qz_poll.specs.Stages.{IsUnderWay, Stage}

-- ---- writing

-- a link took a front of the unsent bytes, behind which the rest stands
pub record SendsOn (old new : Outside) (unsent rest : List ℕ) : Type 0 where
  pub writes : WritesOn old.peer.holds new.peer.holds old.peer.faults new.peer.faults unsent rest
  pub apart : new.peer.left ≡ old.peer.left
  pub later : IsLater old new

-- all is written, or the link found no room yet, or it failed
abbrev pub HowSent : {E : Type 0} → Outside → Outside → List ℕ → Result Sending E → Type 0
HowSent old new rest (Ok sending.Done) = rest ≡ []
HowSent old new rest (Ok sending.NotYet) = HasRisen old.stalls new.stalls
HowSent old new rest (Err why) = HasRisen old.peer.faults new.peer.faults × (0 < length rest)

-- ---- reading

-- no byte was there yet
pub record FindsNone (old new : Outside) (core after : Link) : Type 0 where
  pub kept : Keeps old.peer.left new.peer.left
  pub apart : new.peer.holds ≡ old.peer.holds
  pub faults : old.peer.faults ≤ new.peer.faults
  pub risen : HasRisen old.waits new.waits
  pub same : after ≡ core
  pub later : IsLater old new

-- a piece is fed, or the bytes have ended; or none was there yet; or the link is over
abbrev pub HowRead : Outside → Outside → Link → Link → Step → Type 0
HowRead old new core after step.Answered = ⊥
HowRead old new core after step.On = ReadsOn old.peer new.peer core after × IsLater old new
HowRead old new core after step.NotYet = FindsNone old new core after
HowRead old new core after (step.Over end.ReadFault) = FailsToRead old.peer new.peer
HowRead old new core after (step.Over end.Memory) = LosesPiece old.peer new.peer
HowRead old new core after (step.Over why) = ⊥

-- ---- answering

-- an item has a reply, and its response is to be written
pub record Responds {S : Type 0} (asks : S → S → Ask → Reply → Type 0) (a b : S) (here : Link) (given : Item) (unsent : List ℕ) : Type 0 where
  pub reply : Reply
  pub replied : RepliesTo asks given a b reply
  pub unsent_is : unsent ≡ written here given reply

-- an item has a reply, for whose response no memory was found
pub record IsReplied {S : Type 0} (asks : S → S → Ask → Reply → Type 0) (a b : S) (given : Item) : Type 0 where
  pub reply : Reply
  pub replied : RepliesTo asks given a b reply

-- ---- one item

-- nothing was read or written
pub record Fills {S : Type 0} (asks : S → S → Ask → Reply → Type 0) (old new : Stage S) (given : Item) : Type 0 where
  pub rest : new ≡ record old { at = new.at; unsent = new.unsent; over = new.over }
  pub responds : Responds asks old.at new.at old.core given new.unsent

abbrev pub HowAnswered : {S : Type 0} → (S → S → Ask → Reply → Type 0) → Stage S → Stage S → Item → Step → Type 0
HowAnswered asks old new given step.Answered = (is_request given ≡ true) × Fills asks old new given × (new.over ≡ old.over)
HowAnswered asks old new given step.On = (why : LinkEnd) × (given ≡ item.Over why) × Fills asks old new given × (new.over ≡ Some why)
HowAnswered asks old new given step.NotYet = ⊥
HowAnswered asks old new given (step.Over why) = (why ≡ end.Memory) × IsReplied asks old.at new.at given × (new.outside ≡ old.outside)

-- ---- from stage to stage

-- how much there may still be to do before a link is over
abbrev pub undecided : Option LinkEnd → ℕ
undecided None = 1
undecided (Some why) = 0

abbrev pub work_left : {S : Type 0} → Stage S → ℕ
work_left s = steps_left s.core + undecided s.over

-- it is still under way, and so many more requests have their replies
pub record IsFurther {S : Type 0} (asks : S → S → Ask → Reply → Type 0) (first : Peer) (a : S) (old new : Stage S) (answered : ℕ) : Type 0 where
  pub under_way : IsUnderWay asks first a new
  pub count : old.core.more ≡ new.core.more + answered
  pub later : IsLater old.outside new.outside

-- Why it doesn't go on yet: a write found no room; or a read found nothing, where each whole request of the bytes taken has its reply
-- and all responses are written.
pub data Pauses {S : Type 0} (asks : S → S → Ask → Reply → Type 0) (first : Peer) (a : S) (old new : Stage S) : Type 0 where
  stalled : HasRisen old.outside.stalls new.outside.stalls → Pauses asks first a old new
  waited : HasRisen old.outside.waits new.outside.waits → ServedSoFar asks first new.outside.peer a new.at → Pauses asks first a old new

abbrev pub Leaves : {S : Type 0} → (S → S → Ask → Reply → Type 0) → Peer → S → Stage S → Stage S → Step → Type 0
Leaves asks first a old new step.Answered = IsFurther asks first a old new 1 × (work_left new < work_left old)
Leaves asks first a old new step.On = IsFurther asks first a old new 0 × (work_left new < work_left old)
Leaves asks first a old new step.NotYet = IsFurther asks first a old new 0 × Pauses asks first a old new
Leaves asks first a old new (step.Over why) = LinkEnds asks first new.outside.peer a new.at why

-- ---- one poll's work

abbrev pub Advances : {S : Type 0} → (S → S → Ask → Reply → Type 0) → Peer → S → Stage S → Stage S → Advance → Type 0
Advances asks first a old new advance.NotYet = (answered : ℕ) × IsFurther asks first a old new answered × Pauses asks first a old new
Advances asks first a old new advance.Enough = IsFurther asks first a old new MOST_AT_ONCE
Advances asks first a old new (advance.Over why) = LinkEnds asks first new.outside.peer a new.at why
