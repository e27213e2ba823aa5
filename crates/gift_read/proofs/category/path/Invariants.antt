use Rattle.std.proofs.Common.{◌≡◌, ◌++◌, map, length}
use Rattle.gift_read.specs.Texts.{text_of}
use Rattle.gift_read.specs.Category.{names, path}
use Rattle.gift_read.proofs.category.path.Given as goal

abbrev pub invariant-loop-items : goal.invariant-loop-items
invariant-loop-items l = l.items.items ++ map text_of (names l.rest) ≡ path l.fn.marks

abbrev pub decreases-loop-items : goal.decreases-loop-items
decreases-loop-items l = length l.rest
