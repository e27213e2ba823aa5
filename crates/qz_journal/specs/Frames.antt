-- What the bytes of a journal stand for: a header of eight bytes and frames. A frame is a gate, the payload's length in four
-- bytes, and the payload. A gate is open where it is 1; behind the last frame stands a closed one.
use Rattle.std.specs.Int.{from_le_bytes, to_le_bytes, w32}
use Rattle.std.specs.Prelude.{ℕ, zero, suc, ◌+◌, Bool, not, List, [], ◌∷◌, ◌++◌, length, take, drop, if◌then◌else◌, nat_lt, nat_le, ◌==◌, Ok, Err, bytes_eq, Result}

abbrev pub header : List ℕ
header = 81 ∷ 90 ∷ 74 ∷ 49 ∷ 1 ∷ 0 ∷ 0 ∷ 0 ∷ []

-- what is written of a payload, with its gate open
abbrev pub open_frame : List ℕ → List ℕ
open_frame payload = 1 ∷ (to_le_bytes w32 (length payload) ++ payload)

-- what stands behind its own gate: its length, the payload, and a closed gate
abbrev pub shut_frame : List ℕ → List ℕ
shut_frame payload = to_le_bytes w32 (length payload) ++ (payload ++ 0 ∷ [])

-- a payload in front of the frames that follow it
abbrev pub in_front : List ℕ → Result (List (List ℕ)) ℕ → Result (List (List ℕ)) ℕ
in_front payload (Ok payloads) = Ok (payload ∷ payloads)
in_front payload (Err place) = Err place

abbrev pub payload_length : List ℕ → ℕ
payload_length behind_gate = from_le_bytes w32 (take 4 behind_gate)

-- a frame is whole, and a gate follows it
abbrev pub is_whole : List ℕ → Bool
is_whole behind_gate = nat_lt (4 + payload_length behind_gate) (length behind_gate)

-- the payloads from a place on, up to the first gate that isn't open, or the place of the open gate whose frame is damaged;
-- there are at most so many frames
abbrev pub frames_from : ℕ → ℕ → List ℕ → Result (List (List ℕ)) ℕ
frames_from zero place bytes = Ok []
frames_from (suc most) place [] = Ok []
frames_from (suc most) place (gate ∷ rest) =
    if not (gate == 1) then Ok []
    else (if is_whole rest then in_front (take (payload_length rest) (drop 4 rest)) (frames_from most (place + 5 + payload_length rest) (drop (4 + payload_length rest) rest)) else Err place)

-- an image of at most nine bytes stands for the empty list, whatever it holds; a longer one with another header is damaged
abbrev pub stands_for : List ℕ → Result (List (List ℕ)) ℕ
stands_for image = if nat_le (length image) 9 then Ok [] else (if bytes_eq (take 8 image) header then frames_from (length image) 8 (drop 8 image) else Err 0)
