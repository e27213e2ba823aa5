use Rattle.std.proofs.Common.{◌<◌, ◌≤◌, length, arith}
use Rattle.std.proofs.lemmas.Result.{err_from_is_err_and}
use Rattle.qz_catalog.specs.Keeping.{IsJob}
use Rattle.qz_solo.proofs.Seeing.{known_seen, seen_from, seen_still}
use Rattle.qz_solo.proofs.Serving.{among_served, either_served, part_served}
use Rattle.qz_solo.proofs.Standing.{changed_part, part_there}
use Rattle.qz_school.proofs.Missing.{work_nowhere}
use Rattle.qz_solo.proofs.Steps.{job_refused, work_goes, work_means, work_other, workable}
use Rattle.qz_solo.proofs.UnderPlans.{answers_agree}
use Rattle.qz_solo.proofs.solo.Solo.answer_work.Goals as goal

pub returns-in_err-job : goal.returns-in_err-job
returns-in_err-job g c =
    let p = err_from_is_err_and c.from_residual.result c.from_residual.ensures.1 in
    let cs = c.self.inside.catalog in
    let ss = c.self.inside.shards.items in
    let ask = c.args.ask.now in
    let user = c.args.user.now in
    let known = known_seen c.args.self.now (record { catalog = cs; parts = ss }) ask user c.self.view_is c.requires.known in
    rw (p.1, p.2) (seen_still g.K.Keeper.sound g.K.Keeper.faults c.args.self.now (record { catalog = cs; parts = ss }) c.args.moment ask _ c.self.view_is
    (either_served g.K.Keeper.sound g.K.Keeper.faults cs ss c.args.moment ask user c.in_err-job.field-0.0 c.self.invariant c.requires.asked known (work_other ask c.args.job c.args.shard c.requires.work)
    (job_refused cs.held.list ask user c.args.job c.args.shard c.in_err-job.field-0.0 c.len-records.ensures.legal.without c.requires.work c.requires.may (rw c.core.ensures at c.in_err-job.ensures.refused))))

pub returns-in_err-index : goal.returns-in_err-index
returns-in_err-index g c =
    let p = err_from_is_err_and c.from_residual-in_err-index.result c.from_residual-in_err-index.ensures.1 in
    let cs = c.self.inside.catalog in
    let ss = c.self.inside.shards.items in
    let ask = c.args.ask.now in
    let user = c.args.user.now in
    let known = known_seen c.args.self.now (record { catalog = cs; parts = ss }) ask user c.self.view_is c.requires.known in
    let missing = c.in_err-index.ensures.missing in
    let long = c.len.ensures in
    let beyond = missing.0 in
    let past : length ss ≤ c.args.shard = omega (arith, long, beyond) in
    rw (p.1, p.2, missing.1) (seen_still g.K.Keeper.sound g.K.Keeper.faults c.args.self.now (record { catalog = cs; parts = ss }) c.args.moment ask _ c.self.view_is
    (among_served g.K.Keeper.sound g.K.Keeper.faults cs ss c.args.moment ask user _ c.self.invariant c.requires.asked known (work_other ask c.args.job c.args.shard c.requires.work)
    (work_nowhere cs.held.list (length ss) ask user c.args.job c.args.shard c.in_ok-job.job c.requires.work c.requires.may (rw c.core.ensures at c.in_ok-job.ensures.job) past)))

pub work-requires : goal.work-requires
work-requires g c =
    let cs = c.self.inside.catalog in
    let ss = c.self.inside.shards.items in
    let s = c.index_mut-shard.result.now in
    let there = c.in_ok-index.ensures.there in
    let at = there.0 in
    let within = there.1 in
    let long = c.len.ensures in
    let inside : c.in_ok-index.index < length ss = omega (arith, at, within, long) in
    let own : IsJob c.core.result.now c.args.job c.in_ok-job.job = record { job_is = c.in_ok-job.ensures.job; kept = c.in_ok-job.ensures.kept; each = c.in_ok-job.ensures.each } in
    let given : IsJob cs.held.list c.args.job c.in_ok-job.job = rw c.core.ensures at own in
    workable cs.held.list c.args.job c.in_ok-job.job c.args.moment s c.len-records.ensures.legal.without given c.requires.asked.moment_kept (c.self.invariant.agree.each c.in_ok-index.index s (part_there ss c.in_ok-index.index s inside c.index_mut-shard.ensures.value)) c.len-length.ensures.legal

pub invariant_of-self : goal.invariant_of-self
invariant_of-self g c =
    let cs = c.self.inside.catalog in
    let ss = c.self.inside.shards.items in
    let s = c.index_mut-shard.result.now in
    let ask = c.args.ask.now in
    let user = c.args.user.now in
    let known = known_seen c.args.self.now (record { catalog = cs; parts = ss }) ask user c.self.view_is c.requires.known in
    let there = c.in_ok-index.ensures.there in
    let at = there.0 in
    let within = there.1 in
    let long = c.len.ensures in
    let inside : c.in_ok-index.index < length ss = omega (arith, at, within, long) in
    let own = part_there ss c.in_ok-index.index s inside c.index_mut-shard.ensures.value in
    changed_part cs ss c.in_ok-index.index s c.work.new.shard c.self.invariant own c.work.ensures.same
    (answers_agree g.K.Keeper.sound g.K.Keeper.faults cs.held.list c.args.moment user ask s c.work.new.shard c.work.result c.len-records.ensures.legal.without known.found c.len-length.ensures.legal (c.self.invariant.agree.each c.in_ok-index.index s own)
    (work_means g.K.Keeper.sound g.K.Keeper.faults cs.held.list c.args.moment ask user c.args.job c.args.shard c.in_ok-job.job s c.work.new.shard c.work.result c.requires.work c.requires.may (rw c.core.ensures at c.in_ok-job.ensures.job) c.work.ensures))

pub returns : goal.returns
returns g c =
    let cs = c.self.inside.catalog in
    let ss = c.self.inside.shards.items in
    let s = c.index_mut-shard.result.now in
    let ask = c.args.ask.now in
    let user = c.args.user.now in
    let known = known_seen c.args.self.now (record { catalog = cs; parts = ss }) ask user c.self.view_is c.requires.known in
    let there = c.in_ok-index.ensures.there in
    let at = there.0 in
    let within = there.1 in
    let long = c.len.ensures in
    let inside : c.in_ok-index.index < length ss = omega (arith, at, within, long) in
    let fits : c.args.shard < length ss = omega (arith, within, long) in
    let job_is = rw c.core.ensures at c.in_ok-job.ensures.job in
    seen_from g.K.Keeper.sound g.K.Keeper.faults c.args.self.now (record { catalog = cs; parts = ss }) _ c.args.moment ask c.work.result c.self.view_is
    (part_served g.K.Keeper.sound g.K.Keeper.faults cs ss c.in_ok-index.index s c.work.new.shard c.args.moment ask user c.work.result c.self.invariant (part_there ss c.in_ok-index.index s inside c.index_mut-shard.ensures.value) c.requires.asked known
    (work_goes cs.held.list (length ss) ask user c.args.job c.args.shard c.in_ok-index.index c.in_ok-job.job c.requires.work c.requires.may job_is (at, fits))
    (work_means g.K.Keeper.sound g.K.Keeper.faults cs.held.list c.args.moment ask user c.args.job c.args.shard c.in_ok-job.job s c.work.new.shard c.work.result c.requires.work c.requires.may job_is c.work.ensures))
