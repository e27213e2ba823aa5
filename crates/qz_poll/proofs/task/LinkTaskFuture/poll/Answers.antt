use Rattle.qz_poll.proofs.TaskLemmas.{again, ends_as, ends_over, pauses_on, yields_on}
use Rattle.qz_poll.proofs.task.LinkTaskFuture.poll.Goals as goal

pub unreachable-requires : goal.unreachable-requires
unreachable-requires g c = rw c.in_default.is at c.requires.0

pub advance-requires-clause-takes : goal.advance-requires-clause-takes
advance-requires-clause-takes g c = c.requires.1.each

pub advance-requires-clause-going : goal.advance-requires-clause-going
advance-requires-clause-going g c = rw c.in-Some.is at c.requires.0

pub returns-in-Enough-clause-again : goal.returns-in-Enough-clause-again
returns-in-Enough-clause-again g c =
    let can = rw c.in-Some.is at c.requires.0 in
    let goes = yields_on _ _ c.in-Some.serving c.advance.new.self c.yield_now.new.self.is_woken c.in-Enough.ensures.advances c.yield_now.ensures.woken in
    rw c.yield_now.ensures.pending (again _ _ c.in-Some.serving c.advance.new.self _ goes can c.advance.ensures.room, c.requires.1)

pub returns-in-Enough-clause-same : goal.returns-in-Enough-clause-same
returns-in-Enough-clause-same g c =
    let goes = yields_on _ _ c.in-Some.serving c.advance.new.self c.yield_now.new.self.is_woken c.in-Enough.ensures.advances c.yield_now.ensures.woken in
    rw c.yield_now.ensures.pending (λ ended ends. rw c.in-Some.is (ends_as _ _ c.in-Some.serving c.advance.new.self _ ended goes ends))

pub returns-in-Enough-clause-polls : goal.returns-in-Enough-clause-polls
returns-in-Enough-clause-polls g c = rw (c.yield_now.ensures.pending, c.in-Some.is) (yields_on _ _ c.in-Some.serving c.advance.new.self c.yield_now.new.self.is_woken c.in-Enough.ensures.advances c.yield_now.ensures.woken)

pub returns-in-Ready-Ok-clause-again : goal.returns-in-Ready-Ok-clause-again
returns-in-Ready-Ok-clause-again g c =
    let can = rw c.in-Some.is at c.requires.0 in
    let goes = pauses_on _ _ c.in-Some.serving c.advance.new.self c.blocked.new.self.is_woken c.in-NotYet.ensures.advances in
    rw c.blocked.ensures.pending (again _ _ c.in-Some.serving c.advance.new.self _ goes can c.advance.ensures.room, c.requires.1)

pub returns-in-Ready-Ok-clause-same : goal.returns-in-Ready-Ok-clause-same
returns-in-Ready-Ok-clause-same g c =
    let goes = pauses_on _ _ c.in-Some.serving c.advance.new.self c.blocked.new.self.is_woken c.in-NotYet.ensures.advances in
    rw c.blocked.ensures.pending (λ ended ends. rw c.in-Some.is (ends_as _ _ c.in-Some.serving c.advance.new.self _ ended goes ends))

pub returns-in-Ready-Ok-clause-polls : goal.returns-in-Ready-Ok-clause-polls
returns-in-Ready-Ok-clause-polls g c = rw (c.blocked.ensures.pending, c.in-Some.is) (pauses_on _ _ c.in-Some.serving c.advance.new.self c.blocked.new.self.is_woken c.in-NotYet.ensures.advances)

pub returns-in-Ready-Err-clause-again : goal.returns-in-Ready-Err-clause-again
returns-in-Ready-Err-clause-again g c =
    let can = rw c.in-Some.is at c.requires.0 in
    let goes = pauses_on _ _ c.in-Some.serving c.advance.new.self c.yield_now-in-Ready-Err.new.self.is_woken c.in-NotYet.ensures.advances in
    rw c.yield_now-in-Ready-Err.ensures.pending (again _ _ c.in-Some.serving c.advance.new.self _ goes can c.advance.ensures.room, c.requires.1)

pub returns-in-Ready-Err-clause-same : goal.returns-in-Ready-Err-clause-same
returns-in-Ready-Err-clause-same g c =
    let goes = pauses_on _ _ c.in-Some.serving c.advance.new.self c.yield_now-in-Ready-Err.new.self.is_woken c.in-NotYet.ensures.advances in
    rw c.yield_now-in-Ready-Err.ensures.pending (λ ended ends. rw c.in-Some.is (ends_as _ _ c.in-Some.serving c.advance.new.self _ ended goes ends))

pub returns-in-Ready-Err-clause-polls : goal.returns-in-Ready-Err-clause-polls
returns-in-Ready-Err-clause-polls g c = rw (c.yield_now-in-Ready-Err.ensures.pending, c.in-Some.is) (pauses_on _ _ c.in-Some.serving c.advance.new.self c.yield_now-in-Ready-Err.new.self.is_woken c.in-NotYet.ensures.advances)

pub returns-in-Pending-clause-again : goal.returns-in-Pending-clause-again
returns-in-Pending-clause-again g c =
    let can = rw c.in-Some.is at c.requires.0 in
    let goes = pauses_on _ _ c.in-Some.serving c.advance.new.self c.poll_fired-fired.new.self.is_woken c.in-NotYet.ensures.advances in
    (again _ _ c.in-Some.serving c.advance.new.self _ goes can c.advance.ensures.room, c.requires.1)

pub returns-in-Pending-clause-same : goal.returns-in-Pending-clause-same
returns-in-Pending-clause-same g c =
    let goes = pauses_on _ _ c.in-Some.serving c.advance.new.self c.poll_fired-fired.new.self.is_woken c.in-NotYet.ensures.advances in
    λ ended ends. rw c.in-Some.is (ends_as _ _ c.in-Some.serving c.advance.new.self _ ended goes ends)

pub returns-in-Pending-clause-polls : goal.returns-in-Pending-clause-polls
returns-in-Pending-clause-polls g c = rw c.in-Some.is (pauses_on _ _ c.in-Some.serving c.advance.new.self c.poll_fired-fired.new.self.is_woken c.in-NotYet.ensures.advances)

pub returns-in-Over-clause-value : goal.returns-in-Over-clause-value
returns-in-Over-clause-value g c = rw (c.end.ensures, c.in-Some.is) (ends_over _ _ c.in-Some.serving c.advance.new.self c.in-Over.why c.in-Over.ensures.advances)
