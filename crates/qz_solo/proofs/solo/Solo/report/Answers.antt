use Rattle.std.proofs.Common.{length}
use Rattle.std.proofs.lemmas.Result.{err_from_is_err_and}
use Rattle.qz_school.proofs.Rows.{report_done}
use Rattle.qz_solo.proofs.Reporting.{Reports, each_legal, missing_first, report_served, report_stopped, report_wants, stopped_solo, whole_solo}
use Rattle.qz_solo.proofs.Seeing.{known_seen, seen_from, seen_still}
use Rattle.qz_solo.proofs.Serving.{either_served, report_other, wants_served}
use Rattle.qz_solo.proofs.solo.Solo.report.Goals as goal

pub returns-in_err-policy : goal.returns-in_err-policy
returns-in_err-policy g c =
    let p = err_from_is_err_and c.from_residual.result c.from_residual.ensures.1 in
    let cs = c.self.inside.catalog in
    let ss = c.self.inside.shards.items in
    let ask = c.args.ask.now in
    let user = c.args._user.now in
    let known = known_seen c.args.self.now (record { catalog = cs; parts = ss }) ask user c.self.view_is c.requires.known in
    rw (p.1, p.2) (seen_still g.K.Keeper.sound g.K.Keeper.faults c.args.self.now (record { catalog = cs; parts = ss }) c.args.moment ask _ c.self.view_is
    (either_served g.K.Keeper.sound g.K.Keeper.faults cs ss c.args.moment ask user c.in_err-policy.field-0.0 c.self.invariant c.requires.asked known (report_other ask c.args.quiz c.requires.report)
    (missing_first cs.held.list user ask c.args.quiz c.in_err-policy.field-0.0 c.requires.report c.requires.may (rw c.core.ensures at c.in_err-policy.ensures.refused))))

pub returns-in_err-names : goal.returns-in_err-names
returns-in_err-names g c =
    let p = err_from_is_err_and c.from_residual-in_err-names.result c.from_residual-in_err-names.ensures.1 in
    let cs = c.self.inside.catalog in
    let ss = c.self.inside.shards.items in
    let ask = c.args.ask.now in
    let user = c.args._user.now in
    let known = known_seen c.args.self.now (record { catalog = cs; parts = ss }) ask user c.self.view_is c.requires.known in
    rw (p.1, p.2, c.in_err-names.ensures.wants) (seen_still g.K.Keeper.sound g.K.Keeper.faults c.args.self.now (record { catalog = cs; parts = ss }) c.args.moment ask _ c.self.view_is
    (wants_served g.K.Keeper.sound g.K.Keeper.faults cs ss c.args.moment ask user c.self.invariant c.requires.asked known))

pub invariant_of-self : goal.invariant_of-self
invariant_of-self g c = stopped_solo g.K.Keeper.sound g.K.Keeper.faults c.self.inside.catalog c.args.quiz c.in_ok-policy.policy c.self.inside.shards.items c.rows_of_all.new.shards.items c.in_err-all.field-0.0 c.self.invariant c.in_err-all.ensures.stops

pub returns-in_err-all : goal.returns-in_err-all
returns-in_err-all g c =
    let p = err_from_is_err_and c.from_residual-in_err-all.result c.from_residual-in_err-all.ensures.1 in
    let cs = c.self.inside.catalog in
    let ss = c.self.inside.shards.items in
    let ask = c.args.ask.now in
    let user = c.args._user.now in
    let known = known_seen c.args.self.now (record { catalog = cs; parts = ss }) ask user c.self.view_is c.requires.known in
    let w : Reports cs ss ask c.args.moment user c.args.quiz = record { solo = c.self.invariant; may = c.requires.asked; known = known; request_is = c.requires.report; allowed = c.requires.may; there = rw c.core.ensures at c.in_ok-policy.ensures.there } in
    rw (p.1, p.2) (seen_from g.K.Keeper.sound g.K.Keeper.faults c.args.self.now (record { catalog = cs; parts = ss }) _ c.args.moment ask _ c.self.view_is
    (report_stopped g.K.Keeper.sound g.K.Keeper.faults cs ss c.rows_of_all.new.shards.items c.args.moment ask user c.args.quiz c.in_ok-policy.policy c.in_err-all.field-0.0 w c.in_err-all.ensures.stops))

pub invariant_of-self-in_err-grades : goal.invariant_of-self-in_err-grades
invariant_of-self-in_err-grades g c = whole_solo g.K.Keeper.sound g.K.Keeper.faults c.self.inside.catalog c.args.quiz c.in_ok-policy.policy c.self.inside.shards.items c.rows_of_all.new.shards.items c.in_ok-all.all c.self.invariant c.in_ok-all.ensures.rows

pub returns-in_err-grades : goal.returns-in_err-grades
returns-in_err-grades g c =
    let p = err_from_is_err_and c.from_residual-in_err-grades.result c.from_residual-in_err-grades.ensures.1 in
    let cs = c.self.inside.catalog in
    let ss = c.self.inside.shards.items in
    let ask = c.args.ask.now in
    let user = c.args._user.now in
    let known = known_seen c.args.self.now (record { catalog = cs; parts = ss }) ask user c.self.view_is c.requires.known in
    let w : Reports cs ss ask c.args.moment user c.args.quiz = record { solo = c.self.invariant; may = c.requires.asked; known = known; request_is = c.requires.report; allowed = c.requires.may; there = rw c.core.ensures at c.in_ok-policy.ensures.there } in
    rw (p.1, p.2) (seen_from g.K.Keeper.sound g.K.Keeper.faults c.args.self.now (record { catalog = cs; parts = ss }) _ c.args.moment ask _ c.self.view_is
    (report_wants g.K.Keeper.sound g.K.Keeper.faults cs ss c.rows_of_all.new.shards.items (length ss) c.args.moment ask user c.args.quiz w c.in_ok-all.ensures.rows.read))

pub invariant_of-self-in_err-rows : goal.invariant_of-self-in_err-rows
invariant_of-self-in_err-rows g c = whole_solo g.K.Keeper.sound g.K.Keeper.faults c.self.inside.catalog c.args.quiz c.in_ok-policy.policy c.self.inside.shards.items c.rows_of_all.new.shards.items c.in_ok-all.all c.self.invariant c.in_ok-all.ensures.rows

pub returns-in_err-rows : goal.returns-in_err-rows
returns-in_err-rows g c =
    let p = err_from_is_err_and c.from_residual-in_err-rows.result c.from_residual-in_err-rows.ensures.1 in
    let cs = c.self.inside.catalog in
    let ss = c.self.inside.shards.items in
    let ask = c.args.ask.now in
    let user = c.args._user.now in
    let known = known_seen c.args.self.now (record { catalog = cs; parts = ss }) ask user c.self.view_is c.requires.known in
    let w : Reports cs ss ask c.args.moment user c.args.quiz = record { solo = c.self.invariant; may = c.requires.asked; known = known; request_is = c.requires.report; allowed = c.requires.may; there = rw c.core.ensures at c.in_ok-policy.ensures.there } in
    rw (p.1, p.2) (seen_from g.K.Keeper.sound g.K.Keeper.faults c.args.self.now (record { catalog = cs; parts = ss }) _ c.args.moment ask _ c.self.view_is
    (report_wants g.K.Keeper.sound g.K.Keeper.faults cs ss c.rows_of_all.new.shards.items (length ss) c.args.moment ask user c.args.quiz w c.in_ok-all.ensures.rows.read))

pub invariant_of-self-2 : goal.invariant_of-self-2
invariant_of-self-2 g c = whole_solo g.K.Keeper.sound g.K.Keeper.faults c.self.inside.catalog c.args.quiz c.in_ok-policy.policy c.self.inside.shards.items c.rows_of_all.new.shards.items c.in_ok-all.all c.self.invariant c.in_ok-all.ensures.rows

pub returns : goal.returns
returns g c =
    let cs = c.self.inside.catalog in
    let ss = c.self.inside.shards.items in
    let ask = c.args.ask.now in
    let user = c.args._user.now in
    let known = known_seen c.args.self.now (record { catalog = cs; parts = ss }) ask user c.self.view_is c.requires.known in
    let w : Reports cs ss ask c.args.moment user c.args.quiz = record { solo = c.self.invariant; may = c.requires.asked; known = known; request_is = c.requires.report; allowed = c.requires.may; there = rw c.core.ensures at c.in_ok-policy.ensures.there } in
    let gs = c.rows_of_all.new.shards.items in
    let are = c.in_ok-all.ensures.rows in
    let solo = whole_solo g.K.Keeper.sound g.K.Keeper.faults cs c.args.quiz c.in_ok-policy.policy ss gs c.in_ok-all.all c.self.invariant are in
    let legal = each_legal g.K.Keeper.sound g.K.Keeper.faults cs c.args.quiz c.in_ok-policy.policy ss gs c.in_ok-all.all solo are in
    let done = report_done cs.held.list _ c.args.quiz c.in_ok-policy.policy c.len.result c.in_ok-rows.rows c.in_ok-names.names c.in_ok-all.all c.in_ok-grades.grades.entries legal (rw c.core.ensures at c.in_ok-policy.ensures.policy) c.len.ensures.count (rw c.core-2.ensures at c.in_ok-names.ensures.names) are.rows_are
    (rw c.as_slice.ensures at c.in_ok-grades.ensures) (rw c.as_slice-2.ensures at c.in_ok-rows.ensures) in
    seen_from g.K.Keeper.sound g.K.Keeper.faults c.args.self.now (record { catalog = cs; parts = ss }) _ c.args.moment ask _ c.self.view_is
    (report_served g.K.Keeper.sound g.K.Keeper.faults cs ss gs c.args.moment ask user c.args.quiz c.in_ok-policy.policy c.in_ok-all.all _ w are done)
