use Rattle.std.proofs.Common.{sym, subst}
use Rattle.qz_grading.specs.declared.refusal.AttemptId.{AttemptId}
use Rattle.qz_book.specs.Cursors.{IsPassed}
use Rattle.qz_book.proofs.CursorLemmas.{passed-so_far}
use Rattle.qz_book.proofs.targets.next_target.Goals as goal

pub first_target-search-requires-clause-passed : goal.first_target-search-requires-clause-passed
first_target-search-requires-clause-passed c =
    let sound = c.requires.sound in
    subst (λ (p : AttemptId). IsPassed c.args.book.now c.args.quiz c.args.job c.args.position p) (sym c.passed-passed.ensures)
    (passed-so_far sound.index sound.count c.args.book.now c.args.cursors.now c.args.quiz c.args.job c.args.position sound.held.legal c.requires.cursors)
