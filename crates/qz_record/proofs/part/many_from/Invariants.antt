use Rattle.std.proofs.Common.{◌≡◌, ◌-◌}
use Rattle.qz_record.specs.Fields.{many}
use Rattle.qz_record.proofs.Many.{behind}
use Rattle.qz_record.proofs.part.many_from.Given as goal

abbrev pub invariant-loop : goal.invariant-loop
invariant-loop g l = behind l.items.items (many g.T.Part.field (l.count - l.counter) l.rest.now) ≡ many g.T.Part.field l.count l.fn.rest.now
