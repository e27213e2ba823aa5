use Rattle.std.proofs.Common.{sym, ◌∙◌}
use Rattle.qz_doors.proofs.ServeLemmas.{ends_silent, need_unfinished}
use Rattle.qz_poll.specs.Outsides.{outside_of}
use Rattle.qz_poll.specs.Stages.{stage_of}
use Rattle.qz_poll.proofs.StageLemmas.{answers, ends_short, reads, rests}
use Rattle.qz_poll.proofs.serving.Serving.take_item.Goals as goal

pub returns-in_default-clause-leaves : goal.returns-in_default-clause-leaves
returns-in_default-clause-leaves g c = λ first a is.
    ends_short _ first a (stage_of g.L.ReadyLink c.args.self.now) (rests _ first a _ is c.requires.sent c.requires.undecided)

pub returns-then-has_response-clause-leaves : goal.returns-then-has_response-clause-leaves
returns-then-has_response-clause-leaves g c = λ first a is.
    answers _ first a (stage_of g.L.ReadyLink c.args.self.now) (stage_of g.L.ReadyLink c.answer.new.self) c.next.new.self c.in-Ok.item c.answer.result
    (rests _ first a _ is c.requires.sent c.requires.undecided) c.requires.undecided c.in-Ok.ensures.given (sym c.has_response.ensures ∙ c.if-has_response.true) c.answer.ensures.answers

pub returns-in-Over-clause-leaves : goal.returns-in-Over-clause-leaves
returns-in-Over-clause-leaves g c = λ first a is.
    ends_silent _ first _ a _ _ c.next.new.self c.in-Ok.item c.in-Over.end (rests _ first a (stage_of g.L.ReadyLink c.args.self.now) is c.requires.sent c.requires.undecided) c.in-Over.is c.in-Ok.ensures.given
    (sym c.has_response.ensures ∙ c.if-has_response.false)

pub read_on-requires-clause-unfinished : goal.read_on-requires-clause-unfinished
read_on-requires-clause-unfinished g c = need_unfinished _ c.next.new.self c.in-Ok.item c.in-Need.is c.in-Ok.ensures.given

pub returns-in-Need-clause-leaves : goal.returns-in-Need-clause-leaves
returns-in-Need-clause-leaves g c = λ first a is.
    reads _ first a (stage_of g.L.ReadyLink c.args.self.now) c.next.new.self c.read_on.new.core c.in-Ok.item (outside_of g.L.ReadyLink c.read_on.new.link) c.read_on.result
    (rests _ first a _ is c.requires.sent c.requires.undecided) c.requires.sent c.requires.undecided c.in-Need.is c.in-Ok.ensures.given c.read_on.ensures
