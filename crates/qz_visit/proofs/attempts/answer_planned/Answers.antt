use Rattle.std.proofs.Common.{arith}
use Rattle.std.proofs.lemmas.Result.{err_from_is_err_and}
use Rattle.qz_terms.specs.Legal.{IsLegal}
use Rattle.qz_shard_turns.proofs.Tying.{looked-self}
use Rattle.qz_visit.proofs.Passing.{looked_on, older_looked, turn_looked}
use Rattle.qz_visit.proofs.Turning.{planned_gave, planned_none, planned_pose, planned_short, planned_told}
use Rattle.qz_visit.proofs.attempts.answer_planned.Goals as goal

pub returns-in_err-plan : goal.returns-in_err-plan
returns-in_err-plan g c =
    let p = err_from_is_err_and c.from_residual.result c.from_residual.ensures.1 in
    let i = c.loop-tries.invariant in
    rw (p.1, p.2) (planned_none c.args.seen.now c.loop-tries.seen c.plan.new.pass c.args.pass.now c.loop-tries.pass c.args.moment c.args.ask.now c.args.user.now c.args.quiz c.args.owner c.args.whole c.in_err-plan.field-0.0 i.0 i.1 i.2 c.in_err-plan.ensures)

pub answer-requires-clause-posed : goal.answer-requires-clause-posed
answer-requires-clause-posed g c =
    let i = c.loop-tries.invariant in
    record {
      at = λ place keyed.
          planned_pose c.args.seen.now c.loop-tries.seen c.plan.new.pass c.args.pass.now c.loop-tries.pass place.index place.count c.args.moment c.args.ask.now c.args.user.now c.args.quiz c.args.owner c.args.whole c.in_ok-plan.plan i.0 i.1 (c.requires.may.at place keyed) c.in_ok-plan.ensures;
    }

pub returns-in-Ok : goal.returns-in-Ok
returns-in-Ok g c =
    let i = c.loop-tries.invariant in
    let place = c.requires.tied.tie.place in
    planned_told (IsLegal place.index place.count) c.args.seen.now c.loop-tries.seen c.plan.new.pass c.answer.new.seen c.args.pass.now c.loop-tries.pass c.answer.new.pass c.args.moment c.args.ask.now c.args.user.now c.args.quiz c.args.owner c.args.whole c.in_ok-plan.plan c.in-Ok.replied
    i.0 i.1 c.in_ok-plan.ensures c.answer.ensures.seen (c.in-Ok.ensures.answer.at place c.requires.tied.tie.keyed)

pub loop-tries-init : goal.loop-tries-init
loop-tries-init g c = (looked-self c.args.seen.now, looked-self c.args.pass.now, λ clear. clear, λ some. absurd (omega (arith, some)))

pub loop-tries-preserved : goal.loop-tries-preserved
loop-tries-preserved g c =
    let i = c.loop-tries.invariant in
    let older = c.in-Err.ensures.older in
    let plan = turn_looked _ _ _ c.loop-tries.seen c.plan.new.pass _ c.in_ok-plan.ensures in (
      rw c.answer.ensures.seen (looked_on c.args.seen.now c.loop-tries.seen c.plan.new.pass i.0 plan),
      looked_on c.args.pass.now c.loop-tries.pass c.answer.new.pass i.1 (older_looked _ _ c.loop-tries.pass c.answer.new.pass _ older),
      λ clear. older.older.no_doubt,
      λ some. rw c.answer.ensures.seen (planned_gave c.args.seen.now c.loop-tries.seen c.plan.new.pass c.args.quiz c.args.owner c.args.whole c.in_ok-plan.plan i.0 c.in_ok-plan.ensures),
    )

pub returns : goal.returns
returns g c =
    let i = c.loop-tries.invariant in
    planned_short c.args.seen.now c.loop-tries.seen c.args.pass.now c.loop-tries.pass c.args.moment c.args.ask.now c.args.user.now c.args.quiz c.args.owner c.args.whole (i.3 (omega arith)) i.1 i.2
