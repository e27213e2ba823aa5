use Rattle.std.proofs.Common.{◌≡◌, ◌<◌, None}
use Rattle.qz_catalog_turns.specs.Turning.{held_of}
use Rattle.qz_shard_turns.specs.Tying.{HasLooked}
use Rattle.qz_terms.specs.Serial.{Mended}
use Rattle.qz_visit.specs.Visits.{TookTurn}
use Rattle.qz_visit.proofs.attempts.answer_planned.Given as goal

abbrev pub invariant-loop-tries : goal.invariant-loop-tries
invariant-loop-tries g l = HasLooked l.fn.seen l.seen × HasLooked l.fn.pass l.pass × (l.fn.pass.seen.doubt ≡ None → l.pass.seen.doubt ≡ None)
    × (0 < l._tries → TookTurn l.fn.seen l.seen × Mended (held_of l.seen.found) (held_of l.seen.seen))
