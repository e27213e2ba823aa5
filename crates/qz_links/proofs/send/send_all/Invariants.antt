use Rattle.std.proofs.Common.{◌≡◌, length}
use Rattle.qz_outside.specs.Sources.{WritesOn}
use Rattle.qz_links.proofs.send.send_all.Given as goal

abbrev pub invariant-loop-rest : goal.invariant-loop-rest
invariant-loop-rest g l = record {
  written : WritesOn (g.L.Link.holds l.fn.link) (g.L.Link.holds l.link) (g.L.Link.faults l.fn.link) (g.L.Link.faults l.link) l.bytes l.rest;
  apart : g.L.Link.left l.link ≡ g.L.Link.left l.fn.link;
}

abbrev pub decreases-loop-rest : goal.decreases-loop-rest
decreases-loop-rest g l = length l.rest
