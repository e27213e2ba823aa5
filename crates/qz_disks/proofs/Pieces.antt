-- What a write and a cut make of the bytes is an outcome of a crash in them.
use Rattle.std.proofs.Common.{◌≡◌, ℕ, ◌+◌, ◌≤◌, List, ◌++◌, length, take, drop, max, ◌∙◌, ap, arith, length-append, length-take, length-drop}
use Rattle.std.proofs.lemmas.List.{append_assoc, take_at, drop_at, take_min}
use Rattle.qz_disks.specs.Disks.{overwritten, Torn, Cut}

pub length-overwritten : (at : ℕ) (piece bytes : List ℕ) → at ≤ length bytes → length (overwritten at piece bytes) ≡ max (length bytes) (at + length piece)
length-overwritten at piece bytes le =
    let wider = length-append (take at bytes ++ piece) (drop (at + length piece) bytes) in
    let front = length-append (take at bytes) piece in
    let size : length (overwritten at piece bytes) ≡ length (take at bytes) + length piece + length (drop (at + length piece) bytes) = omega (arith, wider, front) in
    omega (arith, size, length-take at bytes, length-drop (at + length piece) bytes)

pub torn_overwritten : (at : ℕ) (piece bytes : List ℕ) → at ≤ length bytes → Torn at (length piece) bytes (overwritten at piece bytes)
torn_overwritten at piece bytes le =
    let front : length (take at bytes) ≡ at = omega (arith, length-take at bytes) in
    let wider : length (take at bytes ++ piece) ≡ at + length piece = omega (arith, front, length-append (take at bytes) piece) in
    record {
      before = ap (λ (l : List ℕ). take at l) (append_assoc (take at bytes) piece (drop (at + length piece) bytes))
          ∙ take_at (take at bytes) (piece ++ drop (at + length piece) bytes) at front;
      after = drop_at (take at bytes ++ piece) (drop (at + length piece) bytes) (at + length piece) wider;
      no_shorter = omega (arith, length-overwritten at piece bytes le);
      no_longer = omega (arith, length-overwritten at piece bytes le);
    }

pub cut_taken : (size : ℕ) (bytes : List ℕ) → Cut size bytes (take size bytes)
cut_taken size bytes = record {
  no_shorter = omega (arith, length-take size bytes);
  front = ap (λ (n : ℕ). take n bytes) (length-take size bytes) ∙ take_min size bytes;
}
