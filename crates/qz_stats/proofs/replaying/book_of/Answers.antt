use Rattle.std.proofs.Common.{List, sym, subst}
use Rattle.qz_book.specs.Nexts.{CanGrow}
use Rattle.qz_terms.specs.declared.record.Record.{Record}
use Rattle.qz_stats.proofs.Following.{can-grow}
use Rattle.qz_stats.proofs.replaying.book_of.Goals as goal

pub follow-requires-clause-grows : goal.follow-requires-clause-grows
follow-requires-clause-grows c =
    subst (λ (h : List Record). CanGrow h c.next-item.result) (sym c.loop-next.invariant)
    (can-grow c.args.records.now c.loop-next.next-index c.next-item.result c.requires c.loop-next-test.true c.next-item.is)
