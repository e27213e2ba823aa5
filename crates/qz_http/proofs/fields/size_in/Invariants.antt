use Rattle.std.proofs.Common.{◌≡◌, ℕ, ◌<◌, take, get_or}
use Rattle.std.specs.Int.{IsInRange}
use Rattle.std.specs.Str.Parse.{digits_value}
use Rattle.qz_http.proofs.fields.size_in.Given as goal

abbrev pub invariant-loop-digit : goal.invariant-loop-digit
invariant-loop-digit l = record {
  digits : (k : ℕ) → k < l.digit-index → IsInRange 48 57 (get_or l.value k 0);
  size : l.size ≡ digits_value 10 (take l.digit-index l.value);
}
