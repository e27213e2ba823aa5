use Rattle.qz_links_tests.proofs.Gathering.{numbered_still}
use Rattle.qz_links_tests.proofs.turns.put_eight_fold.Goals as goal

pub close_all-requires-clause-numbers : goal.close_all-requires-clause-numbers
close_all-requires-clause-numbers g c =
    numbered_still _ _ 8 _ _ _ _ c.in-Ok.ensures.passes c.as_mut_slice.ensures.value c.in-Ok.made.1.ok.0 c.put_side_by_side.ensures
