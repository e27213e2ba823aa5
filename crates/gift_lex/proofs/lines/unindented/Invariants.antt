use Rattle.std.proofs.Common.{◌≡◌, length}
use denote.Text.{Utf8}
use denote.Shadow.{shadow}
use Rattle.std.specs.Str.{chars}
use Rattle.gift_lex.specs.Blocks.{unindented}
use Rattle.gift_lex.proofs.lines.unindented.Given as goal

abbrev pub invariant-loop-after : goal.invariant-loop-after
invariant-loop-after l = shadow (Utf8 l.rest) × (unindented (chars l.rest) ≡ unindented (chars l.line))

abbrev pub decreases-loop-after : goal.decreases-loop-after
decreases-loop-after l = length l.rest
