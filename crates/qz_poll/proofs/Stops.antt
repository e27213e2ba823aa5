-- Links that are given up before they are over.
use Rattle.std.proofs.Common.{inr}
use Rattle.qz_terms.specs.declared.ask.Ask.{Ask}
use Rattle.qz_terms.specs.declared.reply.Reply.{Reply}
use Rattle.qz_http.specs.declared.items.LinkEnd.TheVariants as end
use Rattle.qz_asking.specs.Asking.{Answerer}
use Rattle.qz_doors.specs.declared.halt.Halt.TheVariants as halt
use Rattle.qz_doors.specs.Links.{LinkEnds, Peer}
use Rattle.qz_doors.specs.Steps as steps
use Rattle.qz_doors.proofs.ServeLemmas.{stops_step}
use Rattle.qz_ready.specs.declared.ready_link.ReadyLink.{Ghosts}
use Rattle.qz_poll.specs.declared.serving.Serving.{Serving}
use Rattle.qz_poll.specs.Stages.{IsUnderWay, Stage, between, stage_of, within}
use Rattle.qz_poll.specs.Tasks.{EndsFrom}
use Rattle.qz_poll.proofs.StageLemmas.{ends_short}

-- some of the latest response may not be written
pub gives_up : {S : Type 0} (asks : S → S → Ask → Reply → Type 0) (first : Peer) (a : S) (s : Stage S) → IsUnderWay asks first a s → LinkEnds asks first s.outside.peer a s.at end.Memory
gives_up asks first a s (between serving none free) = ends_short asks first a s serving
gives_up asks first a s (within w) =
    stops_step asks first w.mid s.outside.peer a w.b s.at w.before halt.Memory w.serving (steps.within w.given s.core halt.Memory w.gives (inr (w.responds, w.left)))

pub stops_as : {D L C : Type 0} (asks : Answerer D C → Answerer D C → Ask → Reply → Type 0) (g : Ghosts L) (s : Serving D L C)
    → EndsFrom asks g s (record { why = end.Memory; link = s.link; desk = s.desk; clock = s.clock })
stops_as asks g s = record { each = λ first a is. gives_up asks first a (stage_of g s) is }
