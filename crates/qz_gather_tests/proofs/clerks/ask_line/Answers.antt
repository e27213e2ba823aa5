use Rattle.qz_gather_tests.proofs.Asking.{asked_goes, may_ask}
use Rattle.qz_visit.proofs.Holding.{goes_self}
use Rattle.qz_gather_tests.proofs.clerks.ask_line.Goals as goal

pub ask-requires : goal.ask-requires
ask-requires g c = may_ask _ _ _ c.in-Ok.ensures.asked

pub returns-in_default : goal.returns-in_default
returns-in_default g c = goes_self _

pub returns : goal.returns
returns g c = asked_goes _ _ _ _ _ c.ask.ensures
