use Rattle.std.proofs.Common.{[]}
use Rattle.std.proofs.lemmas.Result.{err_from_is_err_and}
use Rattle.qz_turn.specs.Turns.{last_turn}
use Rattle.qz_visit.proofs.Asking.{user_untold}
use Rattle.qz_visit.proofs.Passing.{turn_looked}
use Rattle.qz_visit.proofs.Standing.{some_part, visits_take, visits_then}
use Rattle.qz_visit.proofs.school.School.answer_token.Goals as goal

pub returns-in_err-user-clause-visits : goal.returns-in_err-user-clause-visits
returns-in_err-user-clause-visits g c =
    let p = err_from_is_err_and c.from_residual.result c.from_residual.ensures.1 in
    let ps = c.passes.inside.parts.items in
    let own = rw (← c.passes.view_is, ← c.self.view_is) at c.requires.own in
    rw (p.1, p.2, ← c.passes.view_is) (user_untold c.passes.inside.records c.user.new.pass ps c.args.moment c.args.ask.now c.args.token.now c.in_err-user.field-0.0 (some_part _ _ c.passes.inside.records ps c.self.invariant.0 own) c.requires.asked c.requires.caller c.in_err-user.ensures)

pub returns-clause-visits : goal.returns-clause-visits
returns-clause-visits g c =
    let t = c.user.ensures in
    rw (← c.passes.view_is) (visits_then c.passes.inside.records c.user.new.pass c.passes.inside.parts.items c.answer_user.new.passes c.args.moment c.args.ask.now c.answer_user.result (turn_looked _ _ _ c.passes.inside.records c.user.new.pass c.user.result t) c.answer_user.ensures)

pub returns-in_err-user-clause-in_turn : goal.returns-in_err-user-clause-in_turn
returns-in_err-user-clause-in_turn g c = rw (← c.passes.view_is) (record { first = last_turn c.user.new.pass; others = []; added = c.in_err-user.ensures.turns })

pub returns-clause-in_turn : goal.returns-clause-in_turn
returns-clause-in_turn g c =
    rw (← c.passes.view_is) (visits_take c.passes.inside.records c.user.new.pass c.passes.inside.parts.items c.answer_user.new.passes c.args.moment c.args.ask.now c.answer_user.result c.user.ensures.turns c.answer_user.ensures)
