-- A task that serves one link: when it may be polled, what a poll leaves, and what it gives at its end.
use Rattle.std.specs.Prelude.{◌≡◌, ◌⊎◌, ℕ, ◌+◌, ◌<◌, Bool, true, [], Option, Some, None, vec_len}
use Rattle.qz_terms.specs.declared.ask.Ask.{Ask}
use Rattle.qz_terms.specs.declared.reply.Reply.{Reply}
use Rattle.qz_terms.specs.Kept.{is_moment}
use Rattle.qz_http.specs.Items.{IsAskable}
use Rattle.qz_http.specs.Links.{new_link}
use Rattle.qz_asking.specs.Asking.{Answerer}
use Rattle.qz_doors.specs.Links.{LinkEnds, Peer}
use Rattle.qz_ready.specs.declared.ready_link.ReadyLink.{Ghosts}
use Rattle.qz_poll.specs.declared.serving.Serving.{Serving}
use Rattle.qz_poll.specs.declared.task.TaskEnd.{TaskEnd}
use Rattle.qz_poll.specs.declared.step.TheConstants.{MOST_AT_ONCE}
use Rattle.qz_poll.specs.Outsides.{IsLater, outside_of}
use Rattle.qz_poll.specs.Owed.{IsOwing}
use Rattle.qz_poll.specs.Stages.{IsUnderWay, Stage, stage_of}
use Rattle.qz_poll.specs.Steps.{Pauses}

-- a desk may be asked whatever a link can ask
pub record TakesAll (takes : ℕ → Ask → Type 0) : Type 0 where
  pub each : (moment : ℕ) (ask : Ask) → is_moment moment ≡ true → IsAskable ask → takes moment ask

module _ {D L C : Type 0} (asks : Answerer D C → Answerer D C → Ask → Reply → Type 0) (g : Ghosts L) where
  -- a link is under way from some beginning
  pub record HasBegun (s : Serving D L C) : Type 0 where
    pub first : Peer
    pub a : Answerer D C
    pub under_way : IsUnderWay asks first a (stage_of g s)

  -- it is, and there is room to read into
  pub record CanGoOn (s : Serving D L C) : Type 0 where
    pub room : 0 < vec_len s.room
    pub begun : ∥ HasBegun s ∥₁

  -- nothing was read of the link or written to it, and nothing asked
  pub record Begins (desk : D) (link : L) (clock : C) (s : Serving D L C) : Type 0 where
    pub room : 0 < vec_len s.room
    pub same : stage_of g s ≡ record { outside = outside_of g link; at = record { desk = desk; clock = clock }; core = new_link; unsent = []; over = None }
    pub under_way : IsUnderWay asks (outside_of g link).peer (record { desk = desk; clock = clock }) (stage_of g s)

  -- a task may be polled until it is over
  abbrev pub MayPoll : Option (Serving D L C) → Type 0
  MayPoll None = ⊥
  MayPoll (Some s) = CanGoOn s

  -- whatever beginning it is under way from, it ends as a link that is served from there does
  pub record EndsFrom (s : Serving D L C) (end : TaskEnd D L C) : Type 0 where
    pub each : (first : Peer) (a : Answerer D C) → IsUnderWay asks first a (stage_of g s)
        → LinkEnds asks first (outside_of g end.link).peer a (record { desk = end.desk; clock = end.clock }) end.why

  abbrev pub MayEnd : Option (Serving D L C) → TaskEnd D L C → Type 0
  MayEnd None end = ⊥
  MayEnd (Some s) end = EndsFrom s end

-- A poll that gives nothing yet. What is written is a front of what is owed for the bytes taken. The link paused; or so many requests
-- were answered at once, and the task has woken itself.
pub record Polls {S : Type 0} (asks : S → S → Ask → Reply → Type 0) (first : Peer) (a : S) (old new : Stage S) (woken : Bool) : Type 0 where
  pub under_way : IsUnderWay asks first a new
  pub owing : IsOwing asks first a new
  pub later : IsLater old.outside new.outside
  pub why : Pauses asks first a old new ⊎ ((old.core.more ≡ new.core.more + MOST_AT_ONCE) × (woken ≡ true))

module _ {D L C : Type 0} (asks : Answerer D C → Answerer D C → Ask → Reply → Type 0) (g : Ghosts L) where
  -- so from each beginning
  pub record GoesOn (old new : Serving D L C) (woken : Bool) : Type 0 where
    pub each : (first : Peer) (a : Answerer D C) → IsUnderWay asks first a (stage_of g old) → Polls asks first a (stage_of g old) (stage_of g new) woken

  abbrev pub PollsOn : Option (Serving D L C) → Option (Serving D L C) → Bool → Type 0
  PollsOn (Some old) (Some new) woken = GoesOn old new woken
  PollsOn (Some old) None woken = ⊥
  PollsOn None new woken = ⊥
