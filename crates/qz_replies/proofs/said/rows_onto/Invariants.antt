use Rattle.std.proofs.Common.{◌≡◌, ◌++◌, map, take}
use Rattle.qz_replies.specs.Replies.{row_word}
use Rattle.qz_replies.proofs.said.rows_onto.Given as goal

abbrev pub invariant-loop-row : goal.invariant-loop-row
invariant-loop-row l = l.words ≡ l.initial.words ++ map row_word (take l.row-index l.rows)
