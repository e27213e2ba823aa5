use Rattle.std.proofs.Common.{refl}
use Rattle.qz_catalog.proofs.LoadLemmas.{added, none-behind}
use Rattle.qz_catalog.proofs.loading.take.Goals as goal

pub adopt-requires-clause-allowed : goal.adopt-requires-clause-allowed
adopt-requires-clause-allowed c = c.in_ok-is_allowed.ensures.0 c.if-not-branch.false

pub returns-then-not-branch-clause-taken : goal.returns-then-not-branch-clause-taken
returns-then-not-branch-clause-taken c = (refl, none-behind c.args.book.now.records.items c.in-Ok.made c.args.payload.now c.in_ok-is_allowed.field-0 c.in_ok-is_allowed.ensures c.if-not-branch.true c.in-Ok.ensures.only)

pub returns-clause-taken : goal.returns-clause-taken
returns-clause-taken c = added c.args.book.now.records.items c.adopt.new.book.records.items c.in-Ok.made c.args.payload.now c.in_ok-is_allowed.field-0 c.in_ok-is_allowed.ensures c.if-not-branch.false c.in-Ok.ensures.found.0 c.in-Ok.ensures.found.1 c.in_ok-adopt.ensures.list
