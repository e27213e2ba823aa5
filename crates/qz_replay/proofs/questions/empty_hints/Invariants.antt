use Rattle.std.proofs.Common.{◌≡◌, [], replicate}
use Rattle.qz_replay.proofs.questions.empty_hints.Given as goal

abbrev pub invariant-loop : goal.invariant-loop
invariant-loop l = l.items.items ≡ replicate l.counter []
