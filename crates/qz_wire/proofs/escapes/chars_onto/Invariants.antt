use Rattle.std.proofs.Common.{◌≡◌, ◌++◌, string_bytes, encode_utf8_all}
use Rattle.qz_wire.specs.Escapes.{escaped}
use Rattle.qz_wire.proofs.escapes.chars_onto.Given as goal

abbrev pub invariant-loop-c : goal.invariant-loop-c
invariant-loop-c l = string_bytes l.out ≡ string_bytes l.initial.out ++ escaped (encode_utf8_all l.yielded)
