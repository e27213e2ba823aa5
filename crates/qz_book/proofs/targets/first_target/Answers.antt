use Rattle.std.proofs.Common.{sym, ◌∙◌}
use Rattle.qz_book.proofs.SearchLemmas.{fewer, no-target, none-here, passed-more, target-there}
use Rattle.qz_book.proofs.targets.first_target.Goals as goal

pub returns-in-Some-first_left-clause-target : goal.returns-in-Some-first_left-clause-target
returns-in-Some-first_left-clause-target c =
    let sound = c.requires.sound in
    sym (target-there sound.index sound.count c.args.book.now c.args.job c.args.quiz c.args.position c.loop-attempt.passed sound.held.legal c.loop-attempt.invariant c.in-Some.attempt c.in-Some-first_left.slot (sym c.in-Some.ensures) (sym c.in-Some-first_left.ensures))

pub loop-attempt-smaller : goal.loop-attempt-smaller
loop-attempt-smaller c = fewer c.args.book.now c.args.quiz c.loop-attempt.passed c.in-Some.attempt (sym c.in-Some.ensures)

pub loop-attempt-preserved : goal.loop-attempt-preserved
loop-attempt-preserved c =
    passed-more c.args.book.now c.args.quiz c.args.job c.args.position c.loop-attempt.passed c.in-Some.attempt c.loop-attempt.invariant (sym c.in-Some.ensures)
    (none-here _ (sym c.in_default-first_left.is ∙ c.first_left.ensures))

pub returns-clause-target : goal.returns-clause-target
returns-clause-target c =
    let sound = c.requires.sound in
    sym (no-target sound.index sound.count c.args.book.now c.args.job c.args.quiz c.args.position c.loop-attempt.passed sound.held.legal c.loop-attempt.invariant (sym c.in_default.ensures))
