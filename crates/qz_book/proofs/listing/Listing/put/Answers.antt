use Rattle.std.proofs.Common.{List, sym, ap, subst, ◌∙◌, Vec, Global}
use Rattle.qz_index.specs.Attempts.{IsNext}
use Rattle.qz_terms.specs.declared.record.Record.{Record}
use Rattle.qz_book.proofs.Growing.{numbered}
use Rattle.qz_book.proofs.listing.Listing.put.Goals as goal

pub put-requires-clause-next : goal.put-requires-clause-next
put-requires-clause-next g c =
    subst (λ (l : List Record). IsNext l c.args.made) (sym (c.deref.ensures.value ∙ ap (λ (v : Vec Record Global). v.items) c.follow.ensures.followed.records))
    (numbered c.args.self.now.records.items c.args.made c.requires.grows)
