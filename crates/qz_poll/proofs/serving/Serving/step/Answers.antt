use Rattle.std.proofs.Common.{arith}
use Rattle.qz_poll.specs.Outsides.{outside_of}
use Rattle.qz_poll.specs.Stages.{stage_of}
use Rattle.qz_poll.specs.Steps.{stalled}
use Rattle.qz_poll.proofs.StageLemmas.{ends_sent, ends_unsent, sends_first, sends_on}
use Rattle.qz_poll.proofs.serving.Serving.step.Goals as goal

pub returns-in-Some-clause-leaves : goal.returns-in-Some-clause-leaves
returns-in-Some-clause-leaves g c = λ first a is.
    let sent = rw c.in-Ok-Done.field-0-is at c.in-Ok-Done.ensures.sent in
    ends_sent _ first a _ c.in-Some.end (sends_on _ first a (stage_of g.L.ReadyLink c.args.self.now) (outside_of g.L.ReadyLink c.send_on.new.link) c.send_on.new.outbox is c.send_on.ensures.sends) sent c.in-Some.is

pub returns-in-None-clause-leaves : goal.returns-in-None-clause-leaves
returns-in-None-clause-leaves g c = λ first a is.
    sends_first _ first a (stage_of g.L.ReadyLink c.args.self.now) (stage_of g.L.ReadyLink c.take_item.new.self) (outside_of g.L.ReadyLink c.send_on.new.link) c.send_on.new.outbox c.take_item.result c.send_on.ensures.sends.later
    (c.take_item.ensures.leaves first a (sends_on _ first a (stage_of g.L.ReadyLink c.args.self.now) (outside_of g.L.ReadyLink c.send_on.new.link) c.send_on.new.outbox is c.send_on.ensures.sends))

pub returns-in-Ok-NotYet-clause-leaves : goal.returns-in-Ok-NotYet-clause-leaves
returns-in-Ok-NotYet-clause-leaves g c = λ first a is.
    let risen = rw c.in-Ok-NotYet.field-0-is at c.in-Ok-NotYet.ensures.sent in (
      record {
        under_way = sends_on _ first a (stage_of g.L.ReadyLink c.args.self.now) (outside_of g.L.ReadyLink c.send_on.new.link) c.send_on.new.outbox is c.send_on.ensures.sends;
        count = omega arith;
        later = c.send_on.ensures.sends.later;
      },
      stalled risen,
    )

pub returns-in-Err-clause-leaves : goal.returns-in-Err-clause-leaves
returns-in-Err-clause-leaves g c = λ first a is.
    ends_unsent _ first a (stage_of g.L.ReadyLink c.args.self.now) (outside_of g.L.ReadyLink c.send_on.new.link) c.send_on.new.outbox is c.send_on.ensures.sends c.in-Err.ensures.sent.0 c.in-Err.ensures.sent.1
