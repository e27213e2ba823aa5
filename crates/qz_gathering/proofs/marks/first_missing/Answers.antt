use Rattle.std.proofs.Common.{◌≡◌, ◌∙◌, ◌<◌, List, Bool, Option, Some, ap, sym, subst, arith, length, ℕ, [], get_or, refl}
use Rattle.std.specs.List.{position}
use Rattle.std.specs.Prelude.{not, slice_get, unwrap_or}
use Rattle.std.proofs.lemmas.Option.{slice_get_read}
use Rattle.qz_gathering.specs.Marking.{marks_of}
use Rattle.qz_gathering.specs.declared.marks.Marks.{Marks}
use Rattle.qz_gathering.proofs.Missing.{SetBefore, catalog_missing, first_in, none_in, none_missing, part_missing, set_more}
use Rattle.qz_gathering.proofs.marks.first_missing.Goals as goal

part-at : (m : Marks) (items : List (List Bool)) (k : ℕ) (part : List Bool) → items ≡ m.parts.items → k < length items → part ≡ get_or items k part → marks_of m (Some k) ≡ part
part-at m items k part same within is =
    ap (λ (ls : List (List Bool)). unwrap_or (slice_get ls k) []) (sym same) ∙ ap (λ (o : Option (List Bool)). unwrap_or o []) (slice_get_read items (length items) k part refl within is)

pub returns-in-Some : goal.returns-in-Some
returns-in-Some c =
    catalog_missing c.args.marks.now c.in-Some.index (first_in c.args.marks.now.catalog c.in-Some.index (ap (position not) (sym c.as_slice.ensures) ∙ sym c.first_unmarked.ensures ∙ c.in-Some.is))

pub loop-shard-init : goal.loop-shard-init
loop-shard-init c = record {
  catalog = none_in c.args.marks.now.catalog (ap (position not) (sym c.as_slice.ensures) ∙ sym c.first_unmarked.ensures ∙ c.in_default.is);
  parts = λ k less. absurd (omega arith);
}

pub returns-in-Some-first_unmarked : goal.returns-in-Some-first_unmarked
returns-in-Some-first_unmarked c =
    let value = c.deref-part-items.ensures.value in
    let at = part-at c.args.marks.now c.deref-part-items.result.now c.loop-shard.shard c.part-item.result value c.loop-shard-test.true c.part-item.is in
    part_missing c.args.marks.now c.loop-shard.shard c.in-Some-first_unmarked.index c.part-item.result c.loop-shard.invariant at
    (first_in c.part-item.result c.in-Some-first_unmarked.index (ap (position not) (sym c.as_slice-in-loop-shard.ensures) ∙ sym c.first_unmarked-in-loop-shard.ensures ∙ c.in-Some-first_unmarked.is))

pub loop-shard-preserved : goal.loop-shard-preserved
loop-shard-preserved c =
    let value = c.deref-part-items.ensures.value in
    let at = part-at c.args.marks.now c.deref-part-items.result.now c.loop-shard.shard c.part-item.result value c.loop-shard-test.true c.part-item.is in
    set_more c.args.marks.now c.loop-shard.shard c.part-item.result c.loop-shard.invariant at
    (none_in c.part-item.result (ap (position not) (sym c.as_slice-in-loop-shard.ensures) ∙ sym c.first_unmarked-in-loop-shard.ensures ∙ c.in_default-first_unmarked.is))

pub returns : goal.returns
returns c =
    let whole : c.loop-shard.shard ≡ length c.args.marks.now.parts.items = let long = c.deref-part-items.ensures.len in let end = c.loop-shard.auto in let past = c.loop-shard-test.false in omega arith in
    none_missing c.args.marks.now (subst (SetBefore c.args.marks.now) whole c.loop-shard.invariant)
