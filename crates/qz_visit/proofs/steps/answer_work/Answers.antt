use Rattle.std.proofs.lemmas.Result.{err_from_is_err_and}
use Rattle.qz_catalog.specs.Keeping.{TellsJob}
use Rattle.qz_catalog_turns.specs.Turning.{Fails, held_of}
use Rattle.qz_school.proofs.Calls.{look_told}
use Rattle.qz_terms.specs.Legal.{IsLegal}
use Rattle.qz_visit.proofs.Asking.{user_on}
use Rattle.qz_visit.proofs.Passing.{turn_sees}
use Rattle.qz_visit.proofs.Turning.{stepped_none, stepped_told}
use Rattle.qz_visit.proofs.steps.answer_work.Goals as goal

pub returns-in_err-job : goal.returns-in_err-job
returns-in_err-job g c =
    let p = err_from_is_err_and c.from_residual.result c.from_residual.ensures.1 in
    rw (p.1, p.2) (stepped_none c.args.seen.now c.job.new.pass c.args.pass.now c.args.moment c.args.ask.now c.args.user.now c.args.number c.in_err-job.field-0.0 c.in_err-job.ensures)

pub work-requires-clause-job : goal.work-requires-clause-job
work-requires-clause-job g c =
    let m = c.job.new.pass in
    let t = c.in_ok-job.ensures in
    let gave = look_told (Fails m.found m.seen) (TellsJob c.args.number) (held_of m.found) (held_of m.seen) c.in_ok-job.job t.calls.call in
    let sees = turn_sees _ _ _ c.args.seen.now m _ t in
    record {
      legal = t.calls.seen_may.without;
      number = c.args.number;
      job_is = gave.1;
      who = c.args.ask.now.caller;
      user = c.args.user.now;
      known = user_on c.args.seen.now.seen.list m.seen.list c.args.ask.now.caller c.args.user.now sees.begins.begins c.requires.known;
      caller_is = Rattle.std.proofs.Common.refl;
      in_range = c.requires.asked.moment_kept;
    }

pub returns : goal.returns
returns g c =
    let place = c.requires.tied.tie.place in
    stepped_told (IsLegal place.index place.count) c.args.seen.now c.job.new.pass c.work.new.seen c.args.pass.now c.work.new.pass c.args.moment c.args.ask.now c.args.user.now c.args.number c.in_ok-job.job c.work.result c.in_ok-job.ensures c.work.ensures.seen
    (c.work.ensures.answer.at place c.requires.tied.tie.keyed)
