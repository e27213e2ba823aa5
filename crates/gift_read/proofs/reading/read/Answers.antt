use Rattle.gift_lex.specs.Blocks.{blocks_of}
use Rattle.std.proofs.Common.{[], ◌∷◌}
use Rattle.std.specs.Prelude.{codes}
use Rattle.gift_read.proofs.QuestionLemmas.{items-kept}
use Rattle.gift_read.proofs.reading.read.Goals as goal

pub returns-in_ok-items_of-in-Ok-clause-questions : goal.returns-in_ok-items_of-in-Ok-clause-questions
returns-in_ok-items_of-in-Ok-clause-questions c =
    items-kept (codes "Default" ∷ []) (blocks_of c.in-Ok.text.now) c.in_ok-items_of-in-Ok.field-0 c.in_ok-items_of-in-Ok.ensures
