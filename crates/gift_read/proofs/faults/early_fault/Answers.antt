use Rattle.std.proofs.Common.{sym}
use Rattle.gift_read.proofs.FaultLemmas.{too_many_parts}
use Rattle.gift_read.proofs.faults.early_fault.Goals as goal

pub returns-then-part_count-gt-MOST_PARTS-clause-told : goal.returns-then-part_count-gt-MOST_PARTS-clause-told
returns-then-part_count-gt-MOST_PARTS-clause-told c =
    let counted = rw (c.sort.ensures, c.answers.ensures) at c.part_count.ensures in
    too_many_parts c.args.block.now c.part_count.result c.requires (sym c.if-is_nameless.ensures) (sym c.if-has_stray_brace.ensures) (sym c.if-is_unclosed.ensures) counted c.if-part_count-gt-MOST_PARTS.true
