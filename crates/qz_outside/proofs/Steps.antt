-- One more piece read or written.
use Rattle.std.proofs.Common.{◌≡◌, ℕ, ◌-◌, ◌+◌, ◌<◌, ◌≤◌, min, List, [], ◌++◌, length, take, drop, Option, sym, ◌∙◌, ap, append_assoc, take-append-drop, length-append, length-take, length-drop, arith}
use Rattle.std.proofs.lemmas.List.{take_rest, take_at, drop_all}
use Rattle.std.specs.Io.KnownBytes.{Appends}
use Rattle.std.proofs.KnownBytes.{Appends-trans, Consumes-trans}
use Rattle.qz_outside.specs.declared.read.ReadStop.{ReadStop}
use Rattle.qz_outside.specs.declared.read.ReadStop.TheVariants.{Fault, TooLong, Memory}
use Rattle.qz_outside.specs.Sources.{ReadsOn, StopsReading, StopsPiece, WritesOn}

-- a piece that is `take (length rest - n) (drop n rest)` is what stands behind the first n bytes
pub writes_more : (old mid new : Option (List ℕ)) (before between now : ℕ) (bytes rest : List ℕ) (n : ℕ) → WritesOn old mid before between bytes rest
    → Appends mid new (take n rest) → between ≤ now → WritesOn old new before now bytes (take (length rest - n) (drop n rest))
writes_more old mid new before between now bytes rest n written appends later = record {
  front = written.front ++ take n rest;
  split = written.split ∙ ap (λ l. written.front ++ l) (sym (take-append-drop n rest)) ∙ sym (append_assoc written.front (take n rest) (drop n rest))
      ∙ ap (λ l. (written.front ++ take n rest) ++ l) (sym (take_rest rest n));
  appends = Appends-trans old mid new written.front (take n rest) written.appends appends;
  later = omega arith;
}

-- a piece that was not read ends the reading of the whole
pub stops_more : (limit room : ℕ) (old mid new : Option (List ℕ)) (before between now : ℕ) (items : List ℕ) (stop : ReadStop) → ReadsOn old mid before between items
    → length items ≤ limit → length items + room ≤ limit + 1 → StopsPiece room mid new between now stop → StopsReading limit old new before now stop
stops_more limit room old mid new before between now items Fault reads within fits stopped = record {
  bytes = items ++ stopped.bytes;
  taken = Consumes-trans old mid new items stopped.bytes reads.taken stopped.taken;
  within = omega (arith, length-append items stopped.bytes, stopped.within);
  later = omega (arith, reads.later, stopped.later);
  risen = λ below. omega (arith, reads.later, stopped.risen below);
}
stops_more limit room old mid new before between now items TooLong reads within fits stopped = absurd stopped
stops_more limit room old mid new before between now items Memory reads within fits stopped = record {
  bytes = items ++ stopped.bytes;
  taken = Consumes-trans old mid new items stopped.bytes reads.taken stopped.taken;
  within = omega (arith, length-append items stopped.bytes, stopped.within);
  later = omega (arith, reads.later, stopped.later);
}

-- what a source in memory gives of `rest`, the bytes left, is a front of them, and nothing only at the end or with no room
pub gives_front : (rest room piece : List ℕ) (most n : ℕ) → n ≡ min (min most (length room)) (length rest) → 0 < most → piece ≡ take n rest
    → (rest ≡ take n (piece ++ drop n room) ++ drop n rest) × (n ≡ 0 → 0 < length (piece ++ drop n room) → drop n rest ≡ [])
gives_front rest room piece most n count_is some piece_is =
    let size : length piece ≡ n = omega (arith, ap length piece_is, length-take n rest) in (
      rw (take_at piece (drop n room) n size, piece_is) (sym (take-append-drop n rest)),
      λ none has_room.
          let full : length (piece ++ drop n room) ≡ n + (length room - n) = omega (arith, length-append piece (drop n room), length-drop n room) in
          drop_all n rest (omega arith),
    )
