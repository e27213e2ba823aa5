use Rattle.std.proofs.Common.{◌≡◌, length, arith}
use Rattle.std.proofs.lemmas.Grind.{common_steps}
use Rattle.std.proofs.lemmas.List.{nil_from_length}
use Rattle.qz_loading.proofs.GivingBack.{all_back, all_here, begun, given_all, given_next}
use Rattle.qz_loading.proofs.Sounding.{sound_at, stays_both, stays_itself}
use Rattle.qz_loading.proofs.closing.give_back_parts.Goals as goal

pub loop-shard-init : goal.loop-shard-init
loop-shard-init g c = record { giving = begun g.F.Disk.Disk.faults c.args.folder.now c.args.shards.items (g.F.Shelf.files c.args.shelf.now) (g.F.Shelf.faults c.args.shelf.now) c.requires.out; sound = λ are. stays_itself _ _ }

pub loop-shard-preserved : goal.loop-shard-preserved
loop-shard-preserved g c =
    let counted : c.len-index.result ≡ length c.pop.new.self.items = grind (arith, common_steps) in
    let got = sound_at g.F.Disk.Disk.sound g.F.Disk.Disk.faults c.args.shards.items c.loop-shard.rest.items c.pop.new.self.items c.loop-shard.invariant.giving.behind c.in-Some.shard c.loop-shard.invariant.giving.split c.in-Some.ensures.items in
    record {
      giving =
          given_next g.F.Disk.Disk.faults c.args.folder.now c.args.shards.items c.loop-shard.rest.items c.pop.new.self.items c.in-Some.shard (g.F.Shelf.files c.args.shelf.now) (g.F.Shelf.files c.loop-shard.shelf) (g.F.Shelf.files c.give_back_part.new.shelf)
          (g.F.Shelf.faults c.args.shelf.now) (g.F.Shelf.faults c.loop-shard.shelf) (g.F.Shelf.faults c.give_back_part.new.shelf) c.requires.few c.len-index.result counted c.loop-shard.invariant.giving c.in-Some.ensures.items
          c.give_back_part.ensures.here c.give_back_part.ensures.back c.give_back_part.ensures.others c.give_back_part.ensures.faults;
      sound = λ are. stays_both _ _ _ _ _ _ ⊥ ⊥ (c.loop-shard.invariant.sound are) (c.give_back_part.ensures.stays_sound (are.disk (length c.pop.new.self.items) c.in-Some.shard got) (are.no_faults (length c.pop.new.self.items) c.in-Some.shard got));
    }

pub returns-clause-here : goal.returns-clause-here
returns-clause-here g c =
    let empty : length c.loop-shard.rest.items ≡ 0 = grind (arith, common_steps) in
    all_here _ _ _ _ _ _ _ (given_all _ _ _ _ _ _ _ _ c.loop-shard.invariant.giving (nil_from_length _ empty))

pub returns-clause-back : goal.returns-clause-back
returns-clause-back g c =
    let empty : length c.loop-shard.rest.items ≡ 0 = grind (arith, common_steps) in
    all_back _ _ _ _ _ _ _ (given_all _ _ _ _ _ _ _ _ c.loop-shard.invariant.giving (nil_from_length _ empty))
