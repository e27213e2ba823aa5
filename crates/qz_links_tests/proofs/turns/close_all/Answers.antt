use Rattle.qz_links_tests.proofs.Gathering.{gathers_first, gathers_next}
use Rattle.qz_links_tests.proofs.turns.close_all.Goals as goal

pub loop-other-init : goal.loop-other-init
loop-other-init c = gathers_first _ _ _ _ _ c.in-Some.ensures.items c.requires.seats.0 c.requires.numbers

pub loop-other-preserved : goal.loop-other-preserved
loop-other-preserved c =
    gathers_next _ _ _ _ _ _ _ c.loop-other.invariant c.in-Some-pop.ensures.items c.join.ensures.lock c.join.ensures.numbers
