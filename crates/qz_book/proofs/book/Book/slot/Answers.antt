use Rattle.std.proofs.Common.{◌≡◌, List, Some, sym, ap, subst, ◌∙◌}
use Rattle.qz_index.specs.Indexed.{IsIndexed}
use Rattle.qz_lives.specs.Attempts.{slot_of}
use Rattle.qz_terms.specs.declared.plan.Bound.{Bound}
use Rattle.qz_terms.specs.declared.record.Record.{Record}
use Rattle.qz_terms.specs.History.{slot, version}
use Rattle.qz_usage.specs.Runs.{IsBound}
use Rattle.qz_book.proofs.SlotLemmas.{played}
use Rattle.qz_book.proofs.book.Book.slot.Goals as goal

pub returns : goal.returns
returns c =
    let h = c.self.inside.listing.records.items in
    let run = c.in_ok-run.run'.now in
    let question = c.in-Some.question.now in
    let told : Some question ≡ version h run.bound.entry run.bound.version =
    c.in-Some.ensures.value (subst (IsIndexed c.self.inside.listing.index) (sym c.deref.ensures.value) c.self.invariant.indexed)
    ∙ ap (λ (l : List Record). version l c.bound-bound.result.now.entry c.bound-bound.result.now.version) c.deref.ensures.value
    ∙ ap (λ (b : Bound). version h b.entry b.version) c.bound-bound.ensures.value in
    subst (λ (l : List Record). (slot l c.args.attempt c.args.slot ≡ Some (slot_of run question)) × IsBound run question) c.self.view_is
    (played h c.args.attempt c.args.slot run question (c.in_ok-run.ensures.plays h c.self.invariant.alive) told)
