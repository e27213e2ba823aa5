use Rattle.std.proofs.Common.{◌≤◌, ℕ, sym, subst}
use Rattle.std.proofs.lemmas.Result.{err_from_is_err_and}
use Rattle.qz_visit.proofs.Standing.{some_part, step_untold, step_visited}
use Rattle.qz_visit.proofs.school.School.step_nowhere.Goals as goal

pub returns-in_err-job : goal.returns-in_err-job
returns-in_err-job g c =
    let p = err_from_is_err_and c.from_residual.result c.from_residual.ensures.1 in
    let ps = c.passes.inside.parts.items in
    let own = rw (← c.passes.view_is, ← c.self.view_is) at c.requires.own in
    rw (p.1, p.2, ← c.passes.view_is) (step_untold c.passes.inside.records c.job.new.pass ps c.args.moment c.args.ask.now c.args._user.now c.args.number c.args.shard c.in_err-job.field-0.0 (some_part _ _ c.passes.inside.records ps c.self.invariant.0 own) c.requires.asked
    (rw (← c.passes.view_is) at c.requires.known) c.requires.may c.requires.work c.in_err-job.ensures)

pub returns : goal.returns
returns g c =
    let ps = c.passes.inside.parts.items in
    let own = rw (← c.passes.view_is, ← c.self.view_is) at c.requires.own in
    let past = rw (← c.self.view_is) at c.requires.beyond in
    rw (← c.passes.view_is) (step_visited c.passes.inside.records c.job.new.pass ps c.args.moment c.args.ask.now c.args._user.now c.args.number c.args.shard c.in_ok-job.field-0 (some_part _ _ c.passes.inside.records ps c.self.invariant.0 own) c.requires.asked
    (rw (← c.passes.view_is) at c.requires.known) c.requires.may c.requires.work (subst (λ (n : ℕ). n ≤ c.args.shard) (sym own.count) past) c.in_ok-job.ensures)
