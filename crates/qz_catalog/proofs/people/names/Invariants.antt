use Rattle.std.proofs.Common.{◌≡◌, take}
use Rattle.std.specs.Prelude.{filter_map}
use Rattle.qz_catalog.specs.Readings.{made_name}
use Rattle.qz_catalog.proofs.people.names.Given as goal

abbrev pub invariant-loop-record : goal.invariant-loop-record
invariant-loop-record l = l.items.items ≡ filter_map made_name (take l.record-index l.records)
