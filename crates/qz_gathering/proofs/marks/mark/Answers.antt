use Rattle.std.proofs.Common.{◌≡◌, ◌<◌, List, Bool, Option, Some, [], length, refl, sym, ap, ◌∙◌, arith}
use Rattle.std.specs.Prelude.{unwrap_or}
use Rattle.std.proofs.lemmas.Option.{slice_get_read}
use Rattle.qz_school.specs.Solos.{lists_in}
use Rattle.qz_gathering.specs.Marking.{marked}
use Rattle.qz_gathering.proofs.Marking.{noted_part, noted_past}
use Rattle.qz_gathering.proofs.marks.mark.Goals as goal

pub returns-then-index-len : goal.returns-then-index-len
returns-then-index-len g c =
    let e = c.from-index.ensures in
    let own : c.args.note.now.list ≡ Some c.from-index.result = cc in
    let parts = c.args.marks.now.parts.items in
    let within : c.from-index.result < length parts = omega arith in
    let there = slice_get_read parts (length parts) c.from-index.result c.index_mut.result.now refl within c.index_mut.ensures.value in
    noted_part (lists_in c.args.solo.now) c.args.base.now c.args.note.now c.args.marks.now c.from-index.result own _ c.mark_in-then-index-len.new.marks refl refl within
    (c.mark_in-then-index-len.ensures ∙ ap (λ (o : Option (List Bool)). marked (lists_in c.args.solo.now) c.args.base.now c.args.note.now (unwrap_or o [])) (sym there))

pub returns-else-index-len : goal.returns-else-index-len
returns-else-index-len g c =
    let e = c.from-index.ensures in
    let own : c.args.note.now.list ≡ Some c.from-index.result = cc in
    noted_past (lists_in c.args.solo.now) c.args.base.now c.args.note.now c.args.marks.now c.from-index.result own (omega arith)
