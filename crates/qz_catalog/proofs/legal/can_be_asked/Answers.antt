use Rattle.qz_catalog.proofs.Bounds.{entries-few}
use Rattle.qz_catalog.proofs.legal.can_be_asked.Goals as goal

pub is_causeless-requires-clause-few : goal.is_causeless-requires-clause-few
is_causeless-requires-clause-few c = entries-few c.args.book.now.records.items c.requires.indexed.held.legal
