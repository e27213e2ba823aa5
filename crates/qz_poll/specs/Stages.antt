-- How far a link is served: what was taken of it and answered, and what of the latest response is not yet written.
use Rattle.std.specs.Prelude.{◌≡◌, ℕ, true, List, [], Option, Some, None}
use Rattle.qz_terms.specs.declared.ask.Ask.{Ask}
use Rattle.qz_terms.specs.declared.reply.Reply.{Reply}
use Rattle.qz_http.specs.declared.items.Item.{Item}
use Rattle.qz_http.specs.declared.items.Item.TheVariants as item
use Rattle.qz_http.specs.declared.items.LinkEnd.{LinkEnd}
use Rattle.qz_http.specs.Links.{Gives, Link}
use Rattle.qz_doors.proofs.ServeLemmas.{IsServing}
use Rattle.qz_asking.specs.Asking.{Answerer}
use Rattle.qz_doors.specs.Links.{Peer, has_response}
use Rattle.qz_doors.specs.Steps.{LeavesItem}
use Rattle.qz_ready.specs.declared.ready_link.ReadyLink.{Ghosts}
use Rattle.qz_poll.specs.declared.serving.Serving.{Serving}
use Rattle.qz_poll.specs.Outsides.{Outside, outside_of}

-- the outside of a link, what answers it, the link as it was fed, the bytes of the latest response that are not yet written, and the
-- end that the latest item decided
pub record Stage (S : Type 0) : Type 0 where
  pub outside : Outside
  pub at : S
  pub core : Link
  pub unsent : List ℕ
  pub over : Option LinkEnd

abbrev pub stage_of : {D L C : Type 0} → Ghosts L → Serving D L C → Stage (Answerer D C)
stage_of g s = record {
  outside = outside_of g s.link;
  at = record { desk = s.desk; clock = s.clock };
  core = s.core;
  unsent = s.outbox;
  over = s.over;
}

-- the end that an item decides
abbrev pub decided : Item → Option LinkEnd
decided (item.Ask asked) = None
decided (item.Refused refusal) = None
decided (item.Bare status) = None
decided (item.Over why) = Some why
decided item.Need = None

-- From this beginning on all responses were written but the latest, of which so much is not yet written.
pub record IsAnswering {S : Type 0} (asks : S → S → Ask → Reply → Type 0) (first : Peer) (a : S) (s : Stage S) : Type 0 where
  pub mid : Peer
  pub before : Link
  pub b : S
  pub given : Item
  pub serving : IsServing asks first mid a b before
  pub gives : Gives before given s.core
  pub responds : has_response given ≡ true
  pub left : LeavesItem asks mid s.outside.peer b s.at s.core given
  pub unsent_is : left.written.rest ≡ s.unsent
  pub over_is : s.over ≡ decided given

-- A link is under way from this beginning: all responses are written, or all but the rest of the latest.
pub data IsUnderWay {S : Type 0} (asks : S → S → Ask → Reply → Type 0) (first : Peer) (a : S) (s : Stage S) : Type 0 where
  between : IsServing asks first s.outside.peer a s.at s.core → s.unsent ≡ [] → s.over ≡ None → IsUnderWay asks first a s
  within : IsAnswering asks first a s → IsUnderWay asks first a s
