use Rattle.std.proofs.Common.{◌≡◌, ◌∙◌, arith}
use Rattle.std.proofs.Math.Logic.{∥∥₁_elim}
use Rattle.std.specs.Coded.{le_prop}
use Rattle.qz_poll.specs.Stages.{stage_of}
use Rattle.qz_poll.proofs.StageLemmas.{further, further_on, pauses}
use Rattle.qz_poll.proofs.serving.Serving.advance.Goals as goal

pub loop-answered-smaller-in-Answered : goal.loop-answered-smaller-in-Answered
loop-answered-smaller-in-Answered g c =
    ∥∥₁_elim c.requires.going.begun le_prop (λ s. (c.in-Answered.ensures.leaves s.first s.a (c.loop-answered.invariant.keeps.each s.first s.a s.under_way).under_way).1)

pub loop-answered-preserved-in-Answered : goal.loop-answered-preserved-in-Answered
loop-answered-preserved-in-Answered g c = record {
  keeps = record {
    each = λ first a is.
        let before = c.loop-answered.invariant.keeps.each first a is in
        further _ first a (stage_of g.L.ReadyLink c.args.self.now) (stage_of g.L.ReadyLink c.loop-answered.self) (stage_of g.L.ReadyLink c.step.new.self) c.loop-answered.answered 1 before (c.in-Answered.ensures.leaves first a before.under_way).0;
  };
  room = c.step.ensures.room ∙ c.loop-answered.invariant.room;
  few = omega (arith, c.loop-answered-test.true);
}

pub loop-answered-smaller : goal.loop-answered-smaller
loop-answered-smaller g c =
    ∥∥₁_elim c.requires.going.begun le_prop (λ s. (c.in-On.ensures.leaves s.first s.a (c.loop-answered.invariant.keeps.each s.first s.a s.under_way).under_way).1)

pub loop-answered-preserved : goal.loop-answered-preserved
loop-answered-preserved g c = record {
  keeps = record {
    each = λ first a is.
        let before = c.loop-answered.invariant.keeps.each first a is in
        further_on _ first a (stage_of g.L.ReadyLink c.args.self.now) (stage_of g.L.ReadyLink c.loop-answered.self) (stage_of g.L.ReadyLink c.step.new.self) c.loop-answered.answered before (c.in-On.ensures.leaves first a before.under_way).0;
  };
  room = c.step.ensures.room ∙ c.loop-answered.invariant.room;
  few = c.loop-answered.invariant.few;
}

pub returns-in-NotYet-clause-advances : goal.returns-in-NotYet-clause-advances
returns-in-NotYet-clause-advances g c = λ first a is.
    let before = c.loop-answered.invariant.keeps.each first a is in
    let left = c.in-NotYet.ensures.leaves first a before.under_way in (
      c.loop-answered.answered,
      further_on _ first a (stage_of g.L.ReadyLink c.args.self.now) (stage_of g.L.ReadyLink c.loop-answered.self) (stage_of g.L.ReadyLink c.step.new.self) c.loop-answered.answered before left.0,
      pauses _ first a (stage_of g.L.ReadyLink c.args.self.now) (stage_of g.L.ReadyLink c.loop-answered.self) (stage_of g.L.ReadyLink c.step.new.self) before.later left.1,
    )

pub returns-in-Over-clause-advances : goal.returns-in-Over-clause-advances
returns-in-Over-clause-advances g c = λ first a is. c.in-Over.ensures.leaves first a (c.loop-answered.invariant.keeps.each first a is).under_way

pub returns-clause-advances : goal.returns-clause-advances
returns-clause-advances g c = λ first a is.
    let all : c.loop-answered.answered ≡ 64 = omega (arith, c.loop-answered.invariant.few, c.loop-answered-test.false) in
    rw all at (c.loop-answered.invariant.keeps.each first a is)
