use Rattle.std.proofs.Common.{◌<◌, ◌≤◌, length, arith}
use Rattle.std.proofs.lemmas.Result.{err_from_is_err_and}
use Rattle.qz_catalog.specs.Keeping.{TellsJob}
use Rattle.qz_terms.specs.Catalog.{worker}
use Rattle.qz_solo.proofs.Seeing.{seen_from}
use Rattle.qz_solo.proofs.Settling.{job_found, job_untold, jobless_served, work_served, worker_known, worker_may_work}
use Rattle.qz_solo.proofs.Standing.{changed_part, looked_records, part_there}
use Rattle.qz_solo.proofs.Steps.{work_means, workable}
use Rattle.qz_solo.proofs.UnderPlans.{answers_agree, legal_mended}
use Rattle.qz_solo.proofs.solo.Solo.work_for_worker.Goals as goal

pub invariant_of-self : goal.invariant_of-self
invariant_of-self g c = looked_records _ c.self.inside.catalog c.job.new.self c.self.inside.shards.items _ (TellsJob c.args.job) c.job.result c.self.invariant c.job.ensures.told

pub returns-in_err-job : goal.returns-in_err-job
returns-in_err-job g c =
    let p = err_from_is_err_and c.from_residual.result c.from_residual.ensures.1 in
    let cs = c.self.inside.catalog in
    let ss = c.self.inside.shards.items in
    rw (p.1, p.2) (seen_from g.K.Keeper.sound g.K.Keeper.faults c.args.self.now (record { catalog = cs; parts = ss }) _ c.args.moment c.args.ask.now _ c.self.view_is
    (job_untold g.K.Keeper.sound g.K.Keeper.faults cs c.job.new.self ss c.args.moment c.args.ask.now c.args.job c.args.shard c.in_err-job.field-0.0 c.self.invariant c.requires.asked c.requires.caller c.requires.work c.len-records.ensures.legal
    (record { call = c.in_err-job.ensures.told; goes_on = c.in_err-job.ensures.goes_on })))

pub invariant_of-self-in_err-index : goal.invariant_of-self-in_err-index
invariant_of-self-in_err-index g c = looked_records _ c.self.inside.catalog c.job.new.self c.self.inside.shards.items _ (TellsJob c.args.job) c.job.result c.self.invariant c.job.ensures.told

pub returns-in_err-index : goal.returns-in_err-index
returns-in_err-index g c =
    let p = err_from_is_err_and c.from_residual-in_err-index.result c.from_residual-in_err-index.ensures.1 in
    let cs = c.self.inside.catalog in
    let ss = c.self.inside.shards.items in
    let found = job_found g.K.Keeper.sound g.K.Keeper.faults c.args.job c.in_ok-job.job cs c.job.new.self (record { call = c.in_ok-job.ensures.told; goes_on = c.in_ok-job.ensures.goes_on }) in
    let missing = c.in_err-index.ensures.missing in
    let long = c.len.ensures in
    let beyond = missing.0 in
    let past : length ss ≤ c.args.shard = omega (arith, long, beyond) in
    rw (p.1, p.2) (seen_from g.K.Keeper.sound g.K.Keeper.faults c.args.self.now (record { catalog = cs; parts = ss }) _ c.args.moment c.args.ask.now _ c.self.view_is
    (jobless_served g.K.Keeper.sound g.K.Keeper.faults cs c.job.new.self ss c.args.moment c.args.ask.now c.args.job c.args.shard c.in_ok-job.job c.in_err-index.field-0.0 c.self.invariant c.requires.asked c.requires.caller c.requires.work found c.job.ensures.goes_on
    (past, missing.1)))

pub work-requires : goal.work-requires
work-requires g c =
    let cs = c.self.inside.catalog in
    let ss = c.self.inside.shards.items in
    let s = c.index_mut-shard.result.now in
    let found = job_found g.K.Keeper.sound g.K.Keeper.faults c.args.job c.in_ok-job.job cs c.job.new.self (record { call = c.in_ok-job.ensures.told; goes_on = c.in_ok-job.ensures.goes_on }) in
    let solo = looked_records _ cs c.job.new.self ss _ (TellsJob c.args.job) c.job.result c.self.invariant c.job.ensures.told in
    let there = c.in_ok-index.ensures.there in
    let at = there.0 in
    let within = there.1 in
    let long = c.len.ensures in
    let inside : c.in_ok-index.index < length ss = omega (arith, at, within, long) in
    workable c.job.new.self.held.list c.args.job c.in_ok-job.job c.args.moment s (legal_mended cs.held c.job.new.self.held found.settled c.len-records.ensures.legal) found.is_job c.requires.asked.moment_kept
    (solo.agree.each c.in_ok-index.index s (part_there ss c.in_ok-index.index s inside c.index_mut-shard.ensures.value)) c.len-length.ensures.legal

pub invariant_of-self-2 : goal.invariant_of-self-2
invariant_of-self-2 g c =
    let cs = c.self.inside.catalog in
    let ds = c.job.new.self in
    let ss = c.self.inside.shards.items in
    let s = c.index_mut-shard.result.now in
    let ask = c.args.ask.now in
    let found = job_found g.K.Keeper.sound g.K.Keeper.faults c.args.job c.in_ok-job.job cs ds (record { call = c.in_ok-job.ensures.told; goes_on = c.in_ok-job.ensures.goes_on }) in
    let solo = looked_records _ cs ds ss _ (TellsJob c.args.job) c.job.result c.self.invariant c.job.ensures.told in
    let there = c.in_ok-index.ensures.there in
    let at = there.0 in
    let within = there.1 in
    let long = c.len.ensures in
    let inside : c.in_ok-index.index < length ss = omega (arith, at, within, long) in
    let own = part_there ss c.in_ok-index.index s inside c.index_mut-shard.ensures.value in
    changed_part ds ss c.in_ok-index.index s c.work.new.shard solo own c.work.ensures.same
    (answers_agree g.K.Keeper.sound g.K.Keeper.faults ds.held.list c.args.moment worker ask s c.work.new.shard c.work.result (legal_mended cs.held ds.held found.settled c.len-records.ensures.legal) (worker_known ds.held.list ask c.requires.caller) c.len-length.ensures.legal
    (solo.agree.each c.in_ok-index.index s own)
    (work_means g.K.Keeper.sound g.K.Keeper.faults ds.held.list c.args.moment ask worker c.args.job c.args.shard c.in_ok-job.job s c.work.new.shard c.work.result c.requires.work (worker_may_work ask c.args.job c.args.shard c.requires.work) found.is_job.job_is c.work.ensures))

pub returns : goal.returns
returns g c =
    let cs = c.self.inside.catalog in
    let ds = c.job.new.self in
    let ss = c.self.inside.shards.items in
    let s = c.index_mut-shard.result.now in
    let ask = c.args.ask.now in
    let found = job_found g.K.Keeper.sound g.K.Keeper.faults c.args.job c.in_ok-job.job cs ds (record { call = c.in_ok-job.ensures.told; goes_on = c.in_ok-job.ensures.goes_on }) in
    let there = c.in_ok-index.ensures.there in
    let at = there.0 in
    let within = there.1 in
    let long = c.len.ensures in
    let inside : c.in_ok-index.index < length ss = omega (arith, at, within, long) in
    let own = part_there ss c.in_ok-index.index s inside c.index_mut-shard.ensures.value in
    seen_from g.K.Keeper.sound g.K.Keeper.faults c.args.self.now (record { catalog = cs; parts = ss }) _ c.args.moment ask c.work.result c.self.view_is
    (work_served g.K.Keeper.sound g.K.Keeper.faults cs ds ss c.in_ok-index.index s c.work.new.shard c.args.moment ask c.args.job c.args.shard c.in_ok-job.job c.work.result c.self.invariant own c.requires.asked c.requires.caller c.requires.work at found c.job.ensures.goes_on
    (work_means g.K.Keeper.sound g.K.Keeper.faults ds.held.list c.args.moment ask worker c.args.job c.args.shard c.in_ok-job.job s c.work.new.shard c.work.result c.requires.work (worker_may_work ask c.args.job c.args.shard c.requires.work) found.is_job.job_is c.work.ensures))
