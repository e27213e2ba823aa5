use Rattle.std.proofs.Common.{◌≡◌, ◌<◌, ◌++◌, true, length}
use Rattle.std.specs.List.{list_all}
use Rattle.qz_wire.specs.BankWords.{is_hint}
use Rattle.qz_wire.specs.Words.{parts_at}
use Rattle.qz_wire.proofs.bank_words.lines_in.Given as goal

abbrev pub invariant-loop-line : goal.invariant-loop-line
invariant-loop-line l = record {
  joined : parts_at 10 l.text ≡ l.items.items ++ parts_at 10 l.rest;
  all : list_all is_hint l.items.items ≡ true;
  few : length l.items.items < 20;
}

abbrev pub decreases-loop-line : goal.decreases-loop-line
decreases-loop-line l = length l.rest
