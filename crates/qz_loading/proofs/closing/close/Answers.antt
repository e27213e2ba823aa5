use Rattle.std.proofs.Common.{length}
use Rattle.qz_loading.proofs.Returning.{catalog_kept, none_left_out, others_kept, parts_still_out}
use Rattle.qz_loading.proofs.GivingBack.{back_same, rises_then}
use Rattle.qz_loading.proofs.Sounding.{stays_both}
use Rattle.qz_loading.proofs.closing.close.Goals as goal

pub give_back_parts-requires-clause-out : goal.give_back_parts-requires-clause-out
give_back_parts-requires-clause-out g c κs within = parts_still_out c.args.folder.now (length c.args.loaded.shards.items) (g.F.Shelf.files c.args.shelf.now) (g.F.Shelf.files c.give_back_catalog.new.shelf) c.requires.out c.give_back_catalog.ensures.others

pub returns-clause-none_out : goal.returns-clause-none_out
returns-clause-none_out g c =
    none_left_out c.args.folder.now (length c.args.loaded.shards.items) (g.F.Shelf.files c.args.shelf.now) (g.F.Shelf.files c.give_back_catalog.new.shelf) (g.F.Shelf.files c.give_back_parts.new.shelf) c.requires.out
    c.give_back_catalog.ensures.here c.give_back_catalog.ensures.others c.give_back_parts.ensures.here c.give_back_parts.ensures.others

pub returns-clause-catalog : goal.returns-clause-catalog
returns-clause-catalog g c =
    back_same c.args.loaded.catalog.keeper c.args.loaded.catalog.held _ _
    (catalog_kept c.args.folder.now (length c.args.loaded.shards.items) (g.F.Shelf.files c.give_back_catalog.new.shelf) (g.F.Shelf.files c.give_back_parts.new.shelf) c.give_back_parts.ensures.others) c.give_back_catalog.ensures.back

pub returns-clause-others : goal.returns-clause-others
returns-clause-others g c =
    others_kept c.args.folder.now (length c.args.loaded.shards.items) (g.F.Shelf.files c.args.shelf.now) (g.F.Shelf.files c.give_back_catalog.new.shelf) (g.F.Shelf.files c.give_back_parts.new.shelf) c.give_back_catalog.ensures.others c.give_back_parts.ensures.others

pub returns-clause-faults : goal.returns-clause-faults
returns-clause-faults g c = rises_then _ _ _ _ _ c.give_back_catalog.ensures.faults c.give_back_parts.ensures.faults

pub returns-clause-stays_sound : goal.returns-clause-stays_sound
returns-clause-stays_sound g c = λ disk none are. stays_both _ _ _ _ _ _ ⊥ ⊥ (c.give_back_catalog.ensures.stays_sound disk none) (c.give_back_parts.ensures.stays_sound are)
