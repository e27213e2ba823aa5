use Rattle.std.proofs.Common.{◌∙◌}
use Rattle.gift_read.proofs.TextLemmas.{characters_at-whole}
use Rattle.gift_read.proofs.texts.spells.Goals as goal

pub returns-then-marks-word : goal.returns-then-marks-word
returns-then-marks-word c = c.characters_at.ensures ∙ characters_at-whole c.args.word.now c.args.marks.now c.if-marks-word.true
