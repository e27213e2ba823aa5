use Rattle.std.proofs.Common.{take, ◌≡◌}
use Rattle.qz_terms.specs.History.{learned_by}
use Rattle.qz_index.specs.Versions.{HasOrigins}
use Rattle.qz_index.proofs.VersionLemmas.{AreKnown}
use Rattle.qz_index.proofs.versions.Versions.put.Given as goal

abbrev pub invariant-loop-item : goal.invariant-loop-item
invariant-loop-item l = AreKnown l.self l.records l.record (take l.item (learned_by l.record.event)) × HasOrigins l.self (learned_by l.record.event) × (l.learned-items ≡ learned_by l.record.event)
