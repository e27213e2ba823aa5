use Rattle.qz_catalog.proofs.Bounds.{entries-few}
use Rattle.qz_catalog.proofs.decision.decide.Goals as goal

pub early_cause-requires-clause-few : goal.early_cause-requires-clause-few
early_cause-requires-clause-few c = entries-few c.args.book.now.records.items c.requires.indexed.held.legal
