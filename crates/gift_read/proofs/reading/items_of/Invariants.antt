use Rattle.std.proofs.Common.{◌≡◌, [], ◌∷◌, length}
use Rattle.std.specs.Prelude.{codes}
use Rattle.gift_lex.specs.Blocks.{blocks_of}
use Rattle.gift_read.specs.Gift.{items_of}
use Rattle.gift_read.proofs.ReadLemmas.{in_front}
use Rattle.gift_read.proofs.reading.items_of.Given as goal

abbrev pub invariant-loop-gathered : goal.invariant-loop-gathered
invariant-loop-gathered l = in_front l.gathered.items (items_of l.gathered.names l.blocks) ≡ items_of (codes "Default" ∷ []) (blocks_of l.fn.text)

abbrev pub decreases-loop-gathered : goal.decreases-loop-gathered
decreases-loop-gathered l = length l.blocks
