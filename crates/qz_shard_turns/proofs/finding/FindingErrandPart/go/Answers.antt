use Rattle.std.proofs.Common.{Some, ap, subst, sym}
use Rattle.qz_catalog_turns.proofs.Turning.{call-grows, looks-grow}
use Rattle.qz_shard.specs.Keeping.{TellsQuiz}
use Rattle.qz_shard_turns.specs.Tying.{IsTied}
use Rattle.qz_shard_turns.proofs.Posing.{look-did}
use Rattle.qz_shard_turns.proofs.Tying.{look-tied}
use Rattle.qz_shard_turns.proofs.finding.FindingErrandPart.go.Goals as goal

pub returns-clause-done : goal.returns-clause-done
returns-clause-done g c =
    rw (← c.part.view_is) (record {
      looked = record {
        did = look-did g.K.Keeper.sound g.K.Keeper.faults (TellsQuiz c.args.self.now.attempt) c.part.inside.shard c.quiz_of-told.new.self c.quiz_of-told.result c.quiz_of-told.ensures.told c.quiz_of-told.ensures.shard c.len-found.ensures.legal c.len-left.ensures.legal;
        kept = c.note.ensures.kept;
      };
      noted = ap (λ n. Some n) c.note.ensures.given;
    })

pub returns-clause-grows : goal.returns-clause-grows
returns-clause-grows g c =
    rw (← c.part.view_is) (record { begins = call-grows _ _ _ c.part.inside.shard.held c.quiz_of-told.new.self.held _ (looks-grow _) c.quiz_of-told.ensures.told; faults = c.quiz_of-told.ensures.goes_on.later })

pub returns-clause-fits : goal.returns-clause-fits
returns-clause-fits g c = record {
  still = λ place seen fitted begins can.
      look-tied _ _ place (record { shard = c.part.inside.shard; note = c.part.inside.note }) (record { shard = c.quiz_of-told.new.self; note = c.note.new.pass }) c.quiz_of-told.result (subst (IsTied place) (sym c.part.view_is) fitted)
      c.quiz_of-told.ensures.told c.quiz_of-told.ensures.shard c.note.ensures.kept;
}
