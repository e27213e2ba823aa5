use Rattle.std.proofs.Common.{ap, ◌∙◌}
use Rattle.qz_turn.specs.Passes.{Lock}
use Rattle.qz_shard_turns.specs.Tying.{Placed}
use Rattle.qz_shard_turns.proofs.Jobs.{worked-turn}
use Rattle.qz_shard_turns.proofs.working.work.Goals as goal

pub returns-clause-answer : goal.returns-clause-answer
returns-clause-answer g c =
    record {
      at = λ place keyed. worked-turn g.K.Keeper.faults _ _ _ place c.turn.ensures.value_before c.turn.ensures.value_after _ _ _ c.in-Some.told (c.turn.ensures.fits_before.at place (ap (λ (l : Lock Placed). l.key) c.requires.pass ∙ keyed)) c.turn.ensures.went c.in-Some.is c.turn.ensures.found c.turn.ensures.seen
          c.turn.ensures.begins c.turn.ensures.grows c.turn.ensures.numbers c.turn.ensures.lock c.turn.ensures.turns;
    }
