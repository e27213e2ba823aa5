use Rattle.std.proofs.Common.{◌≡◌, ◌++◌, length}
use denote.Text.{Utf8}
use denote.Shadow.{shadow}
use Rattle.std.specs.Str.{chars}
use Rattle.gift_lex.specs.Blocks.{marks_of}
use Rattle.gift_lex.proofs.marks.push_marks.Given as goal

abbrev pub invariant-loop-mark : goal.invariant-loop-mark
invariant-loop-mark l = shadow (Utf8 l.rest) × (l.marks-inside.items.items ++ marks_of (chars l.rest) ≡ l.initial.marks-inside.items.items ++ marks_of (chars l.line))

abbrev pub decreases-loop-mark : goal.decreases-loop-mark
decreases-loop-mark l = length l.rest
