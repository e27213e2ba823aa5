use Rattle.std.proofs.Common.{◌≡◌, ◌++◌, string_bytes, flat_map, take}
use Rattle.gift_write.proofs.answer_lines.lines_onto.Given as goal

abbrev pub invariant-loop-line : goal.invariant-loop-line
invariant-loop-line g l = string_bytes l.out ≡ string_bytes l.initial.out ++ flat_map (g.L.AnswerLine.line l.default) (take l.line-index l.lines)
