use Rattle.qz_visit.proofs.Asking.{records_visited}
use Rattle.qz_visit.proofs.Standing.{some_part}
use Rattle.qz_visit.proofs.school.School.answer_records.Goals as goal

pub returns : goal.returns
returns g c =
    let ps = c.passes.inside.parts.items in
    let own = rw (← c.passes.view_is, ← c.self.view_is) at c.requires.own in
    rw (c.by_catalog.ensures, ← c.passes.view_is) (records_visited c.passes.inside.records c.answer-told.new.pass ps c.args.moment c.args.ask.now c.args.user.now c.answer-told.result (some_part _ _ c.passes.inside.records ps c.self.invariant.0 own) c.requires.asked
    (rw (← c.passes.view_is) at c.requires.known) c.requires.catalog c.answer-told.ensures)
