use Rattle.std.proofs.Common.{subst}
use Rattle.qz_turn.specs.Steps.{Ends}
use Rattle.qz_turn.proofs.Turning.{sent, sent_may_end, turned}
use Rattle.qz_turn.proofs.board.Board.serve.Goals as goal

pub leave-requires-clause-may : goal.leave-requires-clause-may
leave-requires-clause-may g c =
    let gone = sent _ _ g.E.Errand.can _ _ _ _ _ _ c.requires.can c.enter.ensures.comes c.send.ensures.went in
    rw c.measure-len.ensures.same (sent_may_end _ _ g.E.Errand.can _ _ _ _ _ c.requires.can gone)

pub returns-clause-turn : goal.returns-clause-turn
returns-clause-turn g c =
    let gone = sent _ _ g.E.Errand.can _ _ _ _ _ _ c.requires.can c.enter.ensures.comes c.send.ensures.went in
    turned _ _ g.E.Errand.can _ _ _ _ _ _ gone (subst (λ m. Ends g.T.Told.tells m c.leave.new.seat.me) c.measure-len.ensures.same c.leave.ensures.ends)
