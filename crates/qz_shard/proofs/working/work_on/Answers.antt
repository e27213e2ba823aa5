use Rattle.std.proofs.Common.{sym, ap, subst, ◌∙◌}
use Rattle.qz_terms.specs.Answer.{put_target}
use Rattle.qz_shard.specs.Holdings.{HasSlot}
use Rattle.qz_shard.proofs.WorkLemmas.{done-there, put-work, undone}
use Rattle.qz_shard.proofs.working.work_on.Goals as goal

pub returns-in-Some-clause-work : goal.returns-in-Some-clause-work
returns-in-Some-clause-work c = done-there c.args.book.now c.args.now c.args.caller c.args.job.now c.in-Some.place c.in-Some.ensures

pub put_target-requires-clause-slot : goal.put_target-requires-clause-slot
put_target-requires-clause-slot c = subst (HasSlot c.args.book.now c.args.job.now) (sym c.in_ok-target.ensures.target) c.requires.slot

pub returns-clause-work : goal.returns-clause-work
returns-clause-work c = put-work c.args.book.now c.args.now c.args.caller c.args.job.now c.in_ok-record.record (undone c.args.book.now c.args.job.now.number c.in_default.ensures)
    (c.in_ok-record.ensures ∙ ap (put_target c.args.book.now c.args.now c.args.caller c.args.job.now) c.in_ok-target.ensures.target)
