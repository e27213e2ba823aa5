use Rattle.qz_solo.proofs.MarkLemmas.{look_still}
use Rattle.qz_solo.proofs.marks.looked.Goals as goal

pub returns : goal.returns
returns g c =
    let still = look_still _ c.args.shard.now.index c.args.shard.now.count 1000 c.args.user.now c.args.plan.now c.args.ask.now c.args.shard.now.held c.look.new.self.held c.look.result c.requires.clear c.look.ensures.answer in
    record { told = still.1; held = still.0; shard = c.look.ensures.shard }
