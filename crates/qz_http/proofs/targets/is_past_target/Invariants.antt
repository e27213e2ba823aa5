use Rattle.std.specs.Prelude.{◌≡◌, take}
use Rattle.qz_http.specs.Targets.{place_after}
use Rattle.qz_http.proofs.targets.is_past_target.Given as goal

abbrev pub invariant-loop-byte : goal.invariant-loop-byte
invariant-loop-byte l = l.place ≡ place_after (take l.byte-index l.bytes)
