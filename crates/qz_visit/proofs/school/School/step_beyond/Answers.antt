use Rattle.std.proofs.Common.{◌≤◌, ℕ, sym, subst}
use Rattle.std.proofs.lemmas.Result.{err_from_is_err_and}
use Rattle.qz_visit.proofs.Standing.{some_part}
use Rattle.qz_visit.proofs.Working.{beyond_visited, jobless_visited}
use Rattle.qz_visit.proofs.school.School.step_beyond.Goals as goal

pub returns-in_err-job : goal.returns-in_err-job
returns-in_err-job g c =
    let p = err_from_is_err_and c.from_residual.result c.from_residual.ensures.1 in
    let ps = c.passes.inside.parts.items in
    let own = rw (← c.passes.view_is, ← c.self.view_is) at c.requires.own in
    rw (p.1, p.2, ← c.passes.view_is) (jobless_visited c.passes.inside.records c.job.new.pass ps c.args.moment c.args.ask.now c.args.number c.args.shard c.in_err-job.field-0.0
    (record { some = some_part _ _ c.passes.inside.records ps c.self.invariant.0 own; may = c.requires.asked; caller_is = c.requires.caller; request_is = c.requires.work }) c.in_err-job.ensures)

pub returns : goal.returns
returns g c =
    let ps = c.passes.inside.parts.items in
    let own = rw (← c.passes.view_is, ← c.self.view_is) at c.requires.own in
    let past = rw (← c.self.view_is) at c.requires.beyond in
    rw (← c.passes.view_is) (beyond_visited c.passes.inside.records c.job.new.pass ps c.args.moment c.args.ask.now c.args.number c.args.shard c.in_ok-job.field-0
    (record { some = some_part _ _ c.passes.inside.records ps c.self.invariant.0 own; may = c.requires.asked; caller_is = c.requires.caller; request_is = c.requires.work }) (subst (λ (n : ℕ). n ≤ c.args.shard) (sym own.count) past) c.in_ok-job.ensures)
