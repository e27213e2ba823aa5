use Rattle.std.proofs.Common.{◌≡◌, ◌++◌, take}
use Rattle.std.specs.Prelude.{flat_map, string_bytes}
use Rattle.qz_stats_school.specs.Lines.{pick_line}
use Rattle.qz_stats_school.proofs.lines.picks_onto.Given as goal

abbrev pub invariant-loop-pick : goal.invariant-loop-pick
invariant-loop-pick l = string_bytes l.out ≡ string_bytes l.initial.out ++ flat_map pick_line (take l.pick-index l.picks)
