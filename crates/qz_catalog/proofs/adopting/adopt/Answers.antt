use Rattle.std.proofs.Common.{◌++◌, ◌∷◌, [], sym, subst}
use Rattle.qz_catalog.specs.Holdings.{IsHeld}
use Rattle.qz_catalog.proofs.AdoptLemmas.{allowed-free, allowed-next, held-more}
use Rattle.qz_catalog.proofs.adopting.adopt.Goals as goal

pub prepare_allowed-requires : goal.prepare_allowed-requires
prepare_allowed-requires c = allowed-free c.args.book.now.records.items c.args.book.now.entries c.args.record c.requires.book.indexed.held c.requires.allowed

pub put_record-requires-clause-can : goal.put_record-requires-clause-can
put_record-requires-clause-can c =
    let list = c.args.book.now.records.items in
    let r = c.args.record in
    record {
      next = allowed-next list r c.requires.book.indexed.held.legal c.requires.allowed;
      kept = c.requires.kept;
      change = c.in_ok-prepared.ensures.ready;
      held = λ few. subst (IsHeld (list ++ r ∷ [])) (sym c.in_ok-prepared.ensures.prepared) (held-more list c.args.book.now.entries r c.requires.book.indexed.held c.requires.allowed c.requires.kept c.requires.described few);
    }
