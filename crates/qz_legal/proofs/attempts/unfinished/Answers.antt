use Rattle.std.proofs.Common.{◌≡◌, Bool, true, false, Some, None, refl, ◌∙◌}
use Rattle.std.specs.Prelude.{if◌then◌else◌}
use Rattle.std.specs.Bool.{then_some}
use Rattle.qz_terms.specs.Cause.{goes_on}
use Rattle.qz_terms.proofs.Walks.{first_passing_at}
use Rattle.qz_legal.proofs.attempts.unfinished.Goals as goal

then_some-is : {A : Type 0} (b : Bool) (x : A) → then_some b x ≡ (if b then Some x else None)
then_some-is true x = refl
then_some-is false x = refl

pub loop-attempt-preserved : goal.loop-attempt-preserved
loop-attempt-preserved c = c.or-found.ensures ∙ first_passing_at (goes_on c.args.book.now c.args.settings.now c.args.moment) c.args.attempts.now c.loop-attempt.attempt-index _ c.loop-attempt.found c.then_some-here.result c.goes_on.result c.loop-attempt-test.true c.goes_on.ensures (c.then_some-here.ensures ∙ then_some-is c.goes_on.result _) c.loop-attempt.invariant
