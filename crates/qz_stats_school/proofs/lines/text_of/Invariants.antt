use Rattle.std.proofs.Common.{◌≡◌, take}
use Rattle.std.specs.Prelude.{flat_map, string_bytes}
use Rattle.qz_stats_school.specs.Lines.{row_text}
use Rattle.qz_stats_school.proofs.lines.text_of.Given as goal

abbrev pub invariant-loop-row : goal.invariant-loop-row
invariant-loop-row l = string_bytes l.out ≡ flat_map row_text (take l.row-index l.rows)
