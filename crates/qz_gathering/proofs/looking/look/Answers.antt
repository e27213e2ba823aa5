use Rattle.std.proofs.Common.{◌≡◌, ◌+◌, ◌∙◌, ℕ, List, sym, subst}
use Rattle.qz_gather.specs.declared.note.Note.{Note}
use Rattle.qz_school.specs.Solos.{lists_in}
use Rattle.qz_gathering.specs.Gathering.{IsFirstGap, all_notes, count_before}
use Rattle.qz_gathering.specs.Marking.{AreMarked}
use Rattle.qz_gathering.proofs.Missing.{all_covered, first_gap}
use Rattle.qz_gathering.proofs.looking.look.Goals as goal

pub returns-in-None : goal.returns-in-None
returns-in-None g c =
    let a = lists_in c.args.solo.now in
    let base = c.args.base.now in
    let same : c.as_slice.result.now ≡ all_notes c.args.books.items = c.as_slice.ensures ∙ c.in-Ok.ensures in
    let marked = subst (λ (ns : List Note). AreMarked a base ns c.mark_all.new.marks) same c.mark_all.ensures.marked in
    (c.in-Ok.ensures, all_covered a base (all_notes c.args.books.items) c.mark_all.new.marks marked c.in-None.ensures)

pub returns : goal.returns
returns g c =
    let a = lists_in c.args.solo.now in
    let base = c.args.base.now in
    let list = c.in-Some.field-0.list in
    let index = c.in-Some.field-0.index in
    let notes = all_notes c.args.books.items in
    let same : c.as_slice.result.now ≡ notes = c.as_slice.ensures ∙ c.in-Ok.ensures in
    let marked = subst (λ (ns : List Note). AreMarked a base ns c.mark_all.new.marks) same c.mark_all.ensures.marked in
    let count : c.count_before.result ≡ count_before base list = c.count_before.ensures in
    subst (λ (p : ℕ). IsFirstGap a base notes list (p + index + 1)) (sym count) (first_gap a base notes c.mark_all.new.marks marked list index c.in-Some.ensures)
