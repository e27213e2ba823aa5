use Rattle.std.proofs.Common.{◌≡◌, ◌-◌, ◌^◌, take, min}
use Rattle.qz_journal.specs.Journals.{gate_behind}
use Rattle.qz_loading.proofs.places.gate_behind.Given as goal

abbrev pub invariant-loop-payload : goal.invariant-loop-payload
invariant-loop-payload l = l.gate ≡ min (gate_behind (take l.payload-index l.payloads)) (2 ^ 64 - 1)
