use Rattle.std.proofs.Common.{sym, subst, ◌∙◌}
use Rattle.std.proofs.lemmas.Bool.{false≢true}
use Rattle.qz_shard.specs.Holdings.{HasSlot}
use Rattle.qz_shard.proofs.working.put_target.Goals as goal

pub unreachable-requires : goal.unreachable-requires
unreachable-requires c =
    let there = subst (HasSlot c.args.book.now c.args.job.now) c.in-Some.is c.requires.slot in
    let none = sym c.in_default-2.is ∙ c.in_ok-event.ensures in
    absurd (false≢true (rw (← none) at there))
