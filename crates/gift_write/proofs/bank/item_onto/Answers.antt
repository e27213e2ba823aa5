use Rattle.std.proofs.Common.{append_assoc}
use Rattle.gift_write.proofs.bank.item_onto.Goals as goal

pub returns : goal.returns
returns c = rw (c.in_ok-category_line_onto.ensures, append_assoc, c.as_slice.ensures) at c.question_onto.ensures
