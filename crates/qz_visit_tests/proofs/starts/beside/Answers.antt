use Rattle.qz_visit.proofs.Holding.{holds_opened}
use Rattle.qz_visit_tests.proofs.starts.beside.Goals as goal

pub seated-requires : goal.seated-requires
seated-requires g c = holds_opened _ 8 _ _ _ c.into_parts-catalog.ensures.solo c.in-Ok.ensures.opened
