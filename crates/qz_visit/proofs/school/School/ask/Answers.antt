use Rattle.std.proofs.Common.{◌∙◌, sym}
use Rattle.qz_visit.proofs.Counting.{asked_by}
use Rattle.qz_visit.proofs.Reporting.{count_found}
use Rattle.qz_visit.proofs.school.School.ask.Goals as goal

pub invariant_of-passes : goal.invariant_of-passes
invariant_of-passes g c =
    let v = c.say-said.ensures.visited in
    c.passes.invariant ∙ sym (count_found c.passes.inside.seats.parts c.say-said.new.seats.parts v.found.parts v.parts)

pub returns : goal.returns
returns g c =
    let kept = c.keep.ensures in
    rw (kept.seats, ← c.passes.view_is) (asked_by c.passes.inside.seats c.say-said.new.seats c.keep.new.self.last c.args.moment c.args.ask.now c.say-said.result c.say-said.ensures.visited kept.list kept.own kept.catalog kept.parts c.say-said.ensures.in_turn)
