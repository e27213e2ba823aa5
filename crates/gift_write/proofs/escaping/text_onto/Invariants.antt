use Rattle.std.proofs.Common.{◌≡◌, ◌++◌, string_bytes, encode_utf8_all}
use Rattle.gift_write.specs.Escapes.{written_text}
use Rattle.gift_write.proofs.escaping.text_onto.Given as goal

abbrev pub invariant-loop-c : goal.invariant-loop-c
invariant-loop-c l = string_bytes l.out ≡ string_bytes l.initial.out ++ written_text l.escape (encode_utf8_all l.yielded)
