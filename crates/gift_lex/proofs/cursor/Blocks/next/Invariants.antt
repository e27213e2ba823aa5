use Rattle.std.proofs.Common.{◌≡◌, ◌+◌, length}
use Rattle.std.specs.List.{enumerate_from}
use Rattle.std.specs.Str.{IsUtf8, chars}
use Rattle.gift_lex.specs.Gathering.{gathered, split_lines, to_come}
use Rattle.gift_lex.proofs.cursor.Blocks.next.Given as goal

abbrev pub invariant-loop-alloc : goal.invariant-loop-alloc
invariant-loop-alloc l = record {
  utf8 : IsUtf8 l.self-inside.rest.now;
  same : gathered l.started (enumerate_from (l.self-inside.taken + 1) (split_lines (chars l.self-inside.rest.now)))
      ≡ to_come l.initial.self-inside.taken (chars l.initial.self-inside.rest.now);
}

abbrev pub decreases-loop-alloc : goal.decreases-loop-alloc
decreases-loop-alloc l = length l.self-inside.rest.now
