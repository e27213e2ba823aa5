use Rattle.std.proofs.Common.{None, refl, arith}
use Rattle.qz_school.specs.Solos.{lists_in}
use Rattle.qz_audit.proofs.Audited.{audits, each_true, finds_counted, goes_on}
use Rattle.qz_audit.proofs.Records.{no_fewer}
use Rattle.qz_audit.proofs.auditing.audit_school.Goals as goal

pub gather-closed-requires-clause-own : goal.gather-closed-requires-clause-own
gather-closed-requires-clause-own g c = c.in-Ok.ensures.own

pub gather-closed-requires-clause-every : goal.gather-closed-requires-clause-every
gather-closed-requires-clause-every g c = c.in-Ok.ensures.every

pub gather-closed-requires-clause-founded : goal.gather-closed-requires-clause-founded
gather-closed-requires-clause-founded g c = c.in-Ok.ensures.founded

pub gather-closed-requires-clause-true_of : goal.gather-closed-requires-clause-true_of
gather-closed-requires-clause-true_of g c = each_true _ _ c.in-Ok.ensures.true_of

pub overflow_sub-after : goal.overflow_sub-after
overflow_sub-after g c =
    let n = rw c.count_records-loaded.ensures.same at c.in-Ok.ensures in
    let left = c.gather-closed.result.0 in
    let more = no_fewer g.K.Keeper.faults c.args.solo left (goes_on g.K.Keeper.sound g.K.Keeper.faults _ _ _ _ _ left _ _ _ _ _ c.args.doors.now.items _ _ None n c.gather-closed.ensures.closes c.gather-closed.ensures.grown) in
    let before = c.count_records-loaded.ensures.count in
    let later = c.count_records-solo.ensures.count in
    omega (arith, more, before, later)

pub returns : goal.returns
returns g c =
    let n = rw c.count_records-loaded.ensures.same at c.in-Ok.ensures in
    let left = c.gather-closed.result.0 in
    let closes = c.gather-closed.ensures.closes in
    let more = no_fewer g.K.Keeper.faults c.args.solo left (goes_on g.K.Keeper.sound g.K.Keeper.faults _ _ _ _ _ left _ _ _ _ _ c.args.doors.now.items _ _ None n closes c.gather-closed.ensures.grown) in
    let is = finds_counted (lists_in c.args.solo) (lists_in left) _ _ _ _ _ _ more c.count_records-loaded.ensures.count c.count_records-solo.ensures.count c.found-gathered.ensures c.gather-closed.ensures.gathers in
    let lasts = rw c.count_records-solo.ensures.same at c.regrade_last-last.ensures in
    audits _ _ _ _ _ _ _ _ _ _ _ _ _ _ _ _ _ n closes c.gather-closed.ensures.grown _ c.gather-closed.ensures.true_of is lasts
