use Rattle.std.proofs.Common.{arith, refl, subst}
use Rattle.std.specs.List.{All}
use Rattle.std.proofs.lemmas.List.{take_all}
use Rattle.qz_ready_doors.specs.Waits.{IsHeard}
use Rattle.qz_ready_doors.proofs.round.round.Goals as goal

pub loop-at-init : goal.loop-at-init
loop-at-init g c = record {
  kept = c.admit-turn.ensures.kept;
  heard = λ k d less. absurd (omega (arith, less));
  armed = c.admit-turn.ensures.armed;
  goes_on = c.admit-turn.ensures.goes_on;
  long = refl;
  since = c.admit-turn.ensures.long;
  most = c.admit-turn.ensures.most;
}

pub returns-clause-heard : goal.returns-clause-heard
returns-clause-heard g c = subst (All (IsHeard c.loop-at.cx)) (take_all c.loop-at.at c.loop-at.desks.slots.items (omega (arith, c.loop-at.invariant.long, c.loop-at.desks.slots.ok, c.loop-at-test.false))) c.loop-at.invariant.heard
