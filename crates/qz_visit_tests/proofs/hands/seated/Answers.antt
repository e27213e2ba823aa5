use Rattle.std.proofs.Common.{ap, arith, length, length-append, ◌∙◌}
use Rattle.qz_turn.specs.Rule.{below}
use Rattle.qz_visit.proofs.Holding.{passes_held}
use Rattle.qz_visit_tests.proofs.Splitting.{given_may, one_fewer}
use Rattle.qz_visit_tests.proofs.hands.seated.Goals as goal

pub loop-init : goal.loop-init
loop-init g c = (record { numbers = below 8; held = c.requires; enough = omega arith }, ap (λ l. length l) c.new-hands.ensures.items)

pub split-requires : goal.split-requires
split-requires g c = record { own = passes_held _ _ _ c.loop.invariant.0.held }

pub new-visit-requires : goal.new-visit-requires
new-visit-requires g c = let test = c.loop-test.true in given_may _ 8 _ _ _ _ (omega (arith, test)) c.loop.invariant.0 c.in_ok-given.ensures.given

pub loop-preserved : goal.loop-preserved
loop-preserved g c =
    let test = c.loop-test.true in
    let long = c.loop.invariant.1 in
    let pushed = ap (λ l. length l) c.in_ok-push.ensures.items ∙ length-append c.loop.hands.items _ in
    (one_fewer _ 8 _ _ _ _ (omega (arith, test)) c.loop.invariant.0 c.in_ok-given.ensures.given, omega (arith, long, pushed))
