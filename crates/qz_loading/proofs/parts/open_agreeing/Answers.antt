use Rattle.std.proofs.Common.{arith}
use Rattle.std.proofs.lemmas.Result.{err_from_is_err_and}
use Rattle.qz_loading.specs.Places.{part_place}
use Rattle.qz_loading.proofs.Listing.{part_in}
use Rattle.qz_loading.proofs.OpeningParts.{changes_twice}
use Rattle.qz_loading.proofs.Refusing.{no_fault_told, shard_disagrees, shard_unopened}
use Rattle.qz_loading.proofs.Sounding.{stays_then, stays_told}
use Rattle.qz_loading.proofs.Standing.{stays_back}
use Rattle.qz_loading.proofs.parts.open_agreeing.Goals as goal

pub agree-requires : goal.agree-requires
agree-requires g c = record { index = c.args.index; count = c.args.count; legal = rw c.records.ensures c.in_ok-shard.ensures.opened.loaded.loaded.held.legal }

pub returns-in-Err-clause-stays : goal.returns-in-Err-clause-stays
returns-in-Err-clause-stays g c =
    let is = c.in_ok-shard.ensures.opened in
    stays_back g.F.Disk.Disk.moment g.F.Disk.Disk.left_at _ _ c.in_ok-shard.shard.keeper c.in_ok-shard.shard.held is.payloads is.opened (g.met.F.Shelf.reads_now c.args.shelf.now (part_place c.args.folder.now c.args.index) c.requires.free)
    is.loaded.no_doubt is.loaded.loaded.spelled c.give_back_part.ensures.back

pub returns-in-Err-clause-others : goal.returns-in-Err-clause-others
returns-in-Err-clause-others g c = changes_twice (part_place c.args.folder.now c.args.index) _ _ _ c.open_part.ensures.others c.give_back_part.ensures.others

pub returns-in-Err-clause-why : goal.returns-in-Err-clause-why
returns-in-Err-clause-why g c =
    shard_disagrees _ c.args.index c.args.count c.args.catalog.now c.in_ok-shard.shard.held.list c.in-Err.fault
    (part_in g.F.Disk.Disk.moment g.F.Disk.Disk.left_at _ c.args.index c.args.count c.in_ok-shard.shard c.in_ok-shard.ensures.opened) (rw c.records.ensures at c.in-Err.ensures.why)

pub returns-in-Err-clause-cause : goal.returns-in-Err-clause-cause
returns-in-Err-clause-cause g c = record {
  later = omega (arith, c.open_part.ensures.cause.later, c.give_back_part.ensures.faults.later);
  failed = λ is. absurd (no_fault_told c.args.catalog.now c.args.index _ c.in-Err.fault c.in-Err.ensures.why is);
}

pub returns-in-Err-clause-stays_sound : goal.returns-in-Err-clause-stays_sound
returns-in-Err-clause-stays_sound g c =
    stays_then _ _ _ _ _ _ ⊥ _ (stays_told _ _ _ _ _ ⊥ c.open_part.ensures.stays_sound (λ none. absurd none))
    (λ was. stays_told _ _ _ _ ⊥ _ (c.give_back_part.ensures.stays_sound (c.in_ok-shard.ensures.sound was).disk (c.in_ok-shard.ensures.sound was).no_faults) (λ is. no_fault_told c.args.catalog.now c.args.index _ c.in-Err.fault c.in-Err.ensures.why is))

pub returns-in_err-shard-clause-why : goal.returns-in_err-shard-clause-why
returns-in_err-shard-clause-why g c =
    let p = err_from_is_err_and c.from_residual.result c.from_residual.ensures.1 in
    rw (p.1, p.2) (shard_unopened _ c.args.index c.args.count c.args.catalog.now c.in_err-shard.field-0.0 c.in_err-shard.ensures.why)
