use Rattle.std.proofs.Common.{◌≡◌, ◌++◌, string_bytes, take}
use Rattle.qz_wire.specs.Spaced.{behind}
use Rattle.qz_wire.proofs.listed.behind_onto.Given as goal

abbrev pub invariant-loop-word : goal.invariant-loop-word
invariant-loop-word l = string_bytes l.out ≡ string_bytes l.initial.out ++ behind (take l.word-index l.words)
