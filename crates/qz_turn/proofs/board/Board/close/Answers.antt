use Rattle.qz_turn.proofs.Closing.{gives_back}
use Rattle.qz_turn.proofs.board.Board.close.Goals as goal

pub returns-clause-follows : goal.returns-clause-follows
returns-clause-follows g c = (gives_back _ _ _ _ _ _ _ _ _ _ c.close_with-closed.ensures.values.2 c.requires.rests c.requires.all.number c.take-value.ensures.value).0

pub returns-clause-fits : goal.returns-clause-fits
returns-clause-fits g c = (gives_back _ _ _ _ _ _ _ _ _ _ c.close_with-closed.ensures.values.2 c.requires.rests c.requires.all.number c.take-value.ensures.value).1

pub returns-clause-grown : goal.returns-clause-grown
returns-clause-grown g c = (gives_back _ _ _ _ _ _ _ _ _ _ c.close_with-closed.ensures.values.2 c.requires.rests c.requires.all.number c.take-value.ensures.value).2
