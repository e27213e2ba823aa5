use Rattle.std.proofs.lemmas.List.Elements.{All-push}
use Rattle.qz_terms.specs.Kept.{IsKept}
use Rattle.qz_legal.proofs.job_puts.can_rebind.Goals as goal

pub is_alike-requires-clause-newer : goal.is_alike-requires-clause-newer
is_alike-requires-clause-newer c = c.version_with.ensures.kept (All-push IsKept c.args.book.now c.args.made.now c.requires.sound.held.kept c.requires.kept)
