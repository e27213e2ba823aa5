-- Reading frame by frame.
use Rattle.std.proofs.Common.{◌≡◌, ℕ, ◌+◌, ◌<◌, true, List, [], ◌∷◌, ◌++◌, length, take, drop, get_or, Ok, Err, Result, Option, Some, None, IfSome, refl, sym, ◌∙◌, ap, subst, arith, length-take, length-drop}
use Rattle.std.specs.Int.{from_le_bytes, w32}
use Rattle.std.proofs.lemmas.Bool.{lt-ltb}
use Rattle.std.proofs.lemmas.Bool.Decides.{nat_tests}
use Rattle.std.proofs.lemmas.List.{append_assoc, take-take, drop-drop, drop_more}
use Rattle.qz_journal.specs.Frames.{header, in_front, payload_length, is_whole, frames_from, stands_for}
use Rattle.qz_journal.specs.Journals.{gate_behind, frames_at, StandsAt, NextFrame, length_behind}
use Rattle.std.proofs.lemmas.Slice.Eq.{bytes_eq-Decides}
use Rattle.qz_journal.proofs.Images.{long_image}
use Rattle.qz_journal.proofs.Fronts.{enough_frames, open_whole}

length_open : (gate count : ℕ) (behind : List ℕ) → length_behind (gate ∷ behind) ≡ Some count → (gate ≡ 1) × (from_le_bytes w32 (take 4 behind) ≡ count)
length_open gate count behind told = grind (arith, nat_tests)

-- a whole open frame, by the bytes read of it
pub frame_stands : (bytes : List ℕ) (gate count : ℕ) → gate + 5 + count < length bytes → length_behind (take 5 (drop gate bytes)) ≡ Some count → StandsAt gate bytes (take count (drop (gate + 5) bytes))
frame_stands bytes gate count fits told =
    let first = get_or bytes gate 0 in
    let rest = drop (gate + 1) bytes in
    let here : drop gate bytes ≡ first ∷ rest = drop_more bytes gate 0 (omega arith) in
    let told_here : length_behind (first ∷ take 4 rest) ≡ Some count = rw here at told in
    let parts = length_open first count (take 4 rest) told_here in
    let counted : payload_length rest ≡ count = ap (from_le_bytes w32) (sym (take-take 4 4 rest (omega arith))) ∙ parts.1 in
    let payload = take count (drop (gate + 5) bytes) in
    let after = drop (gate + 5 + count) bytes in
    let whole : is_whole rest ≡ true = lt-ltb (4 + payload_length rest) (length rest) (omega (arith, counted, length-drop (gate + 1) bytes)) in
    let opened = open_whole (length rest) gate first rest parts.0 whole in
    let inner : take (payload_length rest) (drop 4 rest) ≡ payload = rw counted (ap (λ (l : List ℕ). take count l) (drop-drop 4 (gate + 1) bytes ∙ ap (λ (n : ℕ). drop n bytes) (let same : gate + 1 + 4 ≡ gate + 5 = omega arith in same))) in
    let beyond : drop (4 + payload_length rest) rest ≡ after = rw counted (drop-drop (4 + count) (gate + 1) bytes ∙ ap (λ (n : ℕ). drop n bytes) (let same : gate + 1 + (4 + count) ≡ gate + 5 + count = omega arith in same)) in
    let size : length payload ≡ count = omega (arith, length-take count (drop (gate + 5) bytes), length-drop (gate + 5) bytes) in
    record {
      fits = omega (arith, size);
      reads = ap (λ (l : List ℕ). frames_from (length l) gate l) here ∙ opened
          ∙ rw (inner, beyond, counted, size) (ap (in_front payload) (enough_frames (length rest) (length after) (gate + 5 + count) after (omega (arith, length-drop (gate + 1) bytes, length-drop (gate + 5 + count) bytes)) (omega arith)));
    }

pub next_frame_stands : (o mid : Option (List ℕ)) (gate count size : ℕ) (head payload : List ℕ) → mid ≡ o → IfSome o (λ bytes. size ≡ length bytes) → gate + 5 + count < size
    → IfSome o (λ bytes. head ≡ take 5 (drop gate bytes)) → length_behind head ≡ Some count → IfSome mid (λ bytes. payload ≡ take count (drop (gate + 5) bytes))
    → IfSome o (λ bytes. NextFrame gate bytes (Some payload))
next_frame_stands None mid gate count size head payload same whole fits is told read = whole
next_frame_stands (Some bytes) mid gate count size head payload same whole fits is told read =
    let read_here : payload ≡ take count (drop (gate + 5) bytes) = subst (λ o. IfSome o (λ bytes. payload ≡ take count (drop (gate + 5) bytes))) same read in
    subst (StandsAt gate bytes) (sym read_here) (frame_stands bytes gate count (omega arith) (ap length_behind (sym is) ∙ told))

-- the frames read so far

abbrev pub led_by : List (List ℕ) → Result (List (List ℕ)) ℕ → Result (List (List ℕ)) ℕ
led_by payloads (Ok rest) = Ok (payloads ++ rest)
led_by payloads (Err place) = Err place

pub record SoFar (gate : ℕ) (payloads : List (List ℕ)) (bytes : List ℕ) : Type 0 where
  pub place : gate ≡ gate_behind payloads
  pub stands : stands_for bytes ≡ led_by payloads (frames_at gate bytes)

led_by_none : (r : Result (List (List ℕ)) ℕ) → r ≡ led_by [] r
led_by_none (Ok rest) = refl
led_by_none (Err place) = refl

led_by_more : (payloads : List (List ℕ)) (payload : List ℕ) (r : Result (List (List ℕ)) ℕ) → led_by payloads (in_front payload r) ≡ led_by (payloads ++ payload ∷ []) r
led_by_more payloads payload (Ok rest) = ap (λ (l : List (List ℕ)). Ok l) (sym (append_assoc payloads (payload ∷ []) rest))
led_by_more payloads payload (Err place) = refl

gate_more : (payloads : List (List ℕ)) (payload : List ℕ) → gate_behind (payloads ++ payload ∷ []) ≡ gate_behind payloads + (5 + length payload)
gate_more [] payload = omega arith
gate_more (first ∷ rest) payload = omega (arith, gate_more rest payload)

pub none_yet : (o mid : Option (List ℕ)) (size : ℕ) (start : List ℕ) → mid ≡ o → IfSome o (λ bytes. size ≡ length bytes) → 9 < size → IfSome o (λ bytes. start ≡ take 8 (drop 0 bytes)) → start ≡ header
    → IfSome o (SoFar 8 [])
none_yet None mid size start same whole long read begins = whole
none_yet (Some bytes) mid size start same whole long read begins =
    let front : take 8 bytes ≡ header = sym read ∙ begins in
    record {
      place = refl;
      stands = long_image bytes (omega arith) ((bytes_eq-Decides (take 8 bytes) header).1 front)
          ∙ enough_frames (length bytes) (length (drop 8 bytes)) 8 (drop 8 bytes) (omega (arith, length-drop 8 bytes)) (omega arith)
          ∙ led_by_none (frames_at 8 bytes);
    }

pub one_more : (o mid : Option (List ℕ)) (gate : ℕ) (payloads : List (List ℕ)) (payload : List ℕ) → mid ≡ o → IfSome o (SoFar gate payloads) → IfSome mid (λ bytes. NextFrame gate bytes (Some payload))
    → IfSome o (SoFar (gate + (5 + length payload)) (payloads ++ payload ∷ []))
one_more None mid gate payloads payload same so_far next = so_far
one_more (Some bytes) mid gate payloads payload same so_far next =
    let here : StandsAt gate bytes payload = subst (λ o. IfSome o (λ bytes. StandsAt gate bytes payload)) same next in
    record {
      place = omega (arith, gate_more payloads payload, so_far.place);
      stands = so_far.stands ∙ ap (led_by payloads) here.reads ∙ led_by_more payloads payload (frames_at (gate + 5 + length payload) bytes)
          ∙ ap (λ (n : ℕ). led_by (payloads ++ payload ∷ []) (frames_at n bytes)) (let same : gate + 5 + length payload ≡ gate + (5 + length payload) = omega arith in same);
    }
