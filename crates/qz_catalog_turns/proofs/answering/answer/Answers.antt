use Rattle.qz_catalog_turns.proofs.Owning.{replied-turn}
use Rattle.qz_catalog_turns.proofs.answering.answer.Goals as goal

pub returns : goal.returns
returns g c =
    rw c.in-Some.told-is
    (replied-turn g.K.Keeper.faults _ c.turn.ensures.value_before c.turn.ensures.value_after _ _ c.turn.new.errand.told c.in-Some.told c.turn.ensures.went c.in-Some.is c.turn.ensures.found c.turn.ensures.seen c.turn.ensures.begins c.turn.ensures.grows c.turn.ensures.numbers c.turn.ensures.lock c.turn.ensures.turns)
