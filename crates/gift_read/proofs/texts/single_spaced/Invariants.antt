use Rattle.std.proofs.Common.{◌≡◌, ◌++◌, length}
use Rattle.std.specs.Prelude.{string_bytes, encode_utf8_all}
use Rattle.gift_read.specs.Texts.{single_spaced}
use Rattle.gift_read.proofs.texts.single_spaced.Given as goal

abbrev pub invariant-loop-rest : goal.invariant-loop-rest
invariant-loop-rest l = string_bytes l.items ++ encode_utf8_all (single_spaced l.rest) ≡ encode_utf8_all (single_spaced l.marks)

abbrev pub decreases-loop-rest : goal.decreases-loop-rest
decreases-loop-rest l = length l.rest
