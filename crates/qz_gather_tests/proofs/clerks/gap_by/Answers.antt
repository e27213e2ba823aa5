use Rattle.qz_gather_tests.proofs.Lost.{one_book}
use Rattle.qz_gather_tests.proofs.clerks.gap_by.Goals as goal

pub gather-closed-requires-clause-true_of : goal.gather-closed-requires-clause-true_of
gather-closed-requires-clause-true_of g c = one_book _ _ _ c.args.notes.items c.new-books.ensures.items c.in_ok-push.ensures.items c.requires.true_of
