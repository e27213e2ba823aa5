-- The outside of a link that never waits.
use Rattle.std.specs.Prelude.{◌≡◌, ℕ, ◌≤◌}
use Rattle.qz_doors.specs.Links.{Peer}
use Rattle.qz_ready.specs.declared.ready_link.ReadyLink.{Ghosts}

-- its key; what is left to be read and what was written, and how often it has failed; how often a read found nothing yet, and how
-- often a write found no room yet
pub record Outside : Type 0 where
  pub key : ℕ
  pub peer : Peer
  pub waits : ℕ
  pub stalls : ℕ

abbrev pub outside_of : {L : Type 0} → Ghosts L → L → Outside
outside_of g link = record {
  key = g.key link;
  peer = record { left = g.left link; holds = g.holds link; faults = g.faults link };
  waits = g.waits link;
  stalls = g.stalls link;
}

-- it is the same link, and neither count of pauses has fallen
pub record IsLater (old new : Outside) : Type 0 where
  pub key : new.key ≡ old.key
  pub waits : old.waits ≤ new.waits
  pub stalls : old.stalls ≤ new.stalls
