use Rattle.std.proofs.Common.{ap, ◌∙◌}
use Rattle.qz_terms.specs.declared.record.Record.{Record}
use Rattle.qz_turn.specs.Passes.{Lock, Standing}
use Rattle.qz_shard_turns.specs.Tying.{Placed}
use Rattle.qz_shard_turns.proofs.Posing.{answered-turn}
use Rattle.qz_shard_turns.proofs.answering.answer.Goals as goal

pub returns-clause-answer : goal.returns-clause-answer
returns-clause-answer g c =
    record {
      at = λ place keyed. answered-turn g.K.Keeper.faults _ _ _ _ _ _ place c.turn.ensures.value_before c.turn.ensures.value_after _ _ _ c.in-Some.told (ap (λ (n : Standing Record (Unit {0})). n.seen.list) c.note-note.ensures.given)
          (c.turn.ensures.fits_before.at place (ap (λ (l : Lock Placed). l.key) c.requires.pass ∙ keyed)) c.turn.ensures.went c.in-Some.is c.turn.ensures.found c.turn.ensures.seen c.turn.ensures.begins c.turn.ensures.grows c.turn.ensures.numbers c.turn.ensures.lock c.turn.ensures.turns;
    }
