use Rattle.std.proofs.Common.{◌≡◌, ◌+◌, length, flat_map}
use Rattle.qz_grading.proofs.room.behind_lines.Given as goal

abbrev pub invariant-loop-rest : goal.invariant-loop-rest
invariant-loop-rest g l = l.room + length (flat_map (g.L.AnswerLine.line l.default) l.rest) ≡ l.left + length (flat_map (g.L.AnswerLine.line l.default) l.lines)

abbrev pub decreases-loop-rest : goal.decreases-loop-rest
decreases-loop-rest g l = length l.rest
