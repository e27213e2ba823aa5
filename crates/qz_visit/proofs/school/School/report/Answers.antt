use Rattle.std.proofs.Common.{length}
use Rattle.std.proofs.lemmas.Result.{err_from_is_err_and}
use Rattle.qz_catalog_turns.specs.Headings.{TellsHeading}
use Rattle.qz_catalog_turns.specs.Turning.{Fails, held_of}
use Rattle.qz_school.proofs.Calls.{look_told}
use Rattle.qz_visit.proofs.Passing.{took_turned}
use Rattle.qz_visit.proofs.Reporting.{Reports, headless_report, stopped_report, told_report, wants_report}
use Rattle.qz_visit.proofs.Standing.{all_at, some_part}
use Rattle.qz_visit.proofs.school.School.report.Goals as goal

pub returns-in_err-heading : goal.returns-in_err-heading
returns-in_err-heading g c =
    let p = err_from_is_err_and c.from_residual.result c.from_residual.ensures.1 in
    let ps = c.passes.inside.parts.items in
    let own = rw (← c.passes.view_is, ← c.self.view_is) at c.requires.own in
    rw (p.1, p.2, ← c.passes.view_is) (headless_report c.passes.inside.records c.heading.new.pass ps c.args.moment c.args.ask.now c.args._user.now c.args.quiz c.in_err-heading.field-0.0 (some_part _ _ c.passes.inside.records ps c.self.invariant.0 own) c.requires.asked
    (rw (← c.passes.view_is) at c.requires.known) c.requires.report c.requires.may c.in_err-heading.ensures)

pub rows_of_all-requires-clause-own : goal.rows_of_all-requires-clause-own
rows_of_all-requires-clause-own g c =
    let own = rw (← c.passes.view_is, ← c.self.view_is) at c.requires.own in
    all_at c.self.inside.records c.self.inside.parts.items c.passes.inside.records c.passes.inside.parts.items c.self.invariant.0 own

pub returns-in_err-all : goal.returns-in_err-all
returns-in_err-all g c =
    let p = err_from_is_err_and c.from_residual-in_err-all.result c.from_residual-in_err-all.ensures.1 in
    let ps = c.passes.inside.parts.items in
    let so = c.passes.inside.records in
    let sn = c.heading.new.pass in
    let own = rw (← c.passes.view_is, ← c.self.view_is) at c.requires.own in
    let known = rw (← c.passes.view_is) at c.requires.known in
    let t = c.in_ok-heading.ensures in
    let told = look_told (Fails sn.found sn.seen) (TellsHeading c.args.quiz) (held_of sn.found) (held_of sn.seen) c.in_ok-heading.heading t.calls.call in
    let w : Reports so sn ps c.args.ask.now c.args.moment c.args._user.now c.args.quiz = record {
      some = some_part _ _ so ps c.self.invariant.0 own;
      may = c.requires.asked;
      known = known;
      request_is = c.requires.report;
      allowed = c.requires.may;
      found = took_turned _ _ _ so sn _ t;
      mended = told.0;
      there = told.1.policy.there;
    } in
    rw (p.1, p.2, ← c.passes.view_is) (stopped_report so sn ps c.rows_of_all.new.passes.items c.args.moment c.args.ask.now c.args._user.now c.args.quiz c.in_ok-heading.heading.policy c.in_err-all.field-0.0 w c.in_err-all.ensures)

pub returns-in_err-rows : goal.returns-in_err-rows
returns-in_err-rows g c =
    let p = err_from_is_err_and c.from_residual-in_err-rows.result c.from_residual-in_err-rows.ensures.1 in
    let ps = c.passes.inside.parts.items in
    let so = c.passes.inside.records in
    let sn = c.heading.new.pass in
    let own = rw (← c.passes.view_is, ← c.self.view_is) at c.requires.own in
    let known = rw (← c.passes.view_is) at c.requires.known in
    let t = c.in_ok-heading.ensures in
    let told = look_told (Fails sn.found sn.seen) (TellsHeading c.args.quiz) (held_of sn.found) (held_of sn.seen) c.in_ok-heading.heading t.calls.call in
    let w : Reports so sn ps c.args.ask.now c.args.moment c.args._user.now c.args.quiz = record {
      some = some_part _ _ so ps c.self.invariant.0 own;
      may = c.requires.asked;
      known = known;
      request_is = c.requires.report;
      allowed = c.requires.may;
      found = took_turned _ _ _ so sn _ t;
      mended = told.0;
      there = told.1.policy.there;
    } in
    let are = c.in_ok-all.ensures in
    rw (p.1, p.2, ← c.passes.view_is) (wants_report so sn ps c.rows_of_all.new.passes.items are.found (length ps) c.args.moment c.args.ask.now c.args._user.now c.args.quiz w are.read)

pub returns : goal.returns
returns g c =
    let ps = c.passes.inside.parts.items in
    let so = c.passes.inside.records in
    let sn = c.heading.new.pass in
    let own = rw (← c.passes.view_is, ← c.self.view_is) at c.requires.own in
    let known = rw (← c.passes.view_is) at c.requires.known in
    let t = c.in_ok-heading.ensures in
    let told = look_told (Fails sn.found sn.seen) (TellsHeading c.args.quiz) (held_of sn.found) (held_of sn.seen) c.in_ok-heading.heading t.calls.call in
    let w : Reports so sn ps c.args.ask.now c.args.moment c.args._user.now c.args.quiz = record {
      some = some_part _ _ so ps c.self.invariant.0 own;
      may = c.requires.asked;
      known = known;
      request_is = c.requires.report;
      allowed = c.requires.may;
      found = took_turned _ _ _ so sn _ t;
      mended = told.0;
      there = told.1.policy.there;
    } in
    let are = c.in_ok-all.ensures in
    let rows_are = rw (c.as_slice.ensures, c.as_slice-2.ensures) at c.in_ok-rows.ensures in
    rw (c.without.ensures, ← c.passes.view_is) (told_report so sn ps c.rows_of_all.new.passes.items c.args.moment c.args.ask.now c.args._user.now c.args.quiz c.in_ok-heading.heading c.in_ok-all.all c.in_ok-rows.rows w told.1 are rows_are)
