-- What a journal on a disk keeps: its list, the place of the closed gate behind it, and the payload in doubt.
use Rattle.std.specs.Prelude.{◌≡◌, ◌⊎◌, ◌≢◌, ℕ, ◌+◌, ◌<◌, List, [], ◌∷◌, ◌++◌, ◌≤◌, length, take, drop, replicate, Option, Some, None, is_some, true, Ok, Err, Result, IsErrOf, ⊤, ◌==◌, if◌then◌else◌}
use Rattle.std.specs.Int.{from_le_bytes, w32}
use Rattle.std.specs.Result.{result_unwrap_or}
use Rattle.qz_disks.specs.Disks.{IsDurable}
use Rattle.qz_disks.specs.Keepers.{with_one_more}
use Rattle.qz_outside.specs.Causes.{HasRisen}
use Rattle.qz_journal.specs.Frames.{header, shut_frame, in_front, payload_length, frames_from, stands_for}
use Rattle.qz_journal.specs.declared.fault.JournalFault.{JournalFault}
use Rattle.qz_journal.specs.declared.fault.JournalFault.TheVariants.{Fault, Damaged, Memory}

-- the place of the gate behind open frames of these payloads
abbrev pub gate_behind : List (List ℕ) → ℕ
gate_behind [] = 8
gate_behind (payload ∷ rest) = 5 + length payload + gate_behind rest

-- the payloads that an image stands for; none where it is damaged
abbrev pub payloads_of : List ℕ → List (List ℕ)
payloads_of image = result_unwrap_or (stands_for image) []

-- the payloads of the frames in front of a place
abbrev pub payloads_before : ℕ → List ℕ → List (List ℕ)
payloads_before place bytes = payloads_of (take place bytes ++ 0 ∷ [])

-- an image stands for these payloads, or, where one is in doubt, for them with it
abbrev pub StandsFor : List (List ℕ) → Option (List ℕ) → List ℕ → Type 0
StandsFor payloads None image = stands_for image ≡ Ok payloads
StandsFor payloads (Some payload) image = (stands_for image ≡ Ok payloads) ⊎ (stands_for image ≡ Ok (with_one_more payload payloads))

-- each of these outcomes of a crash does
pub record StandFor (payloads : List (List ℕ)) (doubt : Option (List ℕ)) (outcomes : List ℕ → Type 0) : Type 0 where
  pub each : (c : List ℕ) → outcomes c → StandsFor payloads doubt c

-- the bytes are a header, what stands in front of the gate, the gate, which isn't open, and anything behind it, as the room
-- made ahead; all of it is on the disk
pub record IsAtRest (gate : ℕ) (bytes : List ℕ) (outcomes : List ℕ → Type 0) : Type 0 where
  pub shut : ℕ
  pub behind : List ℕ
  pub closed : shut ≢ 1
  pub file : bytes ≡ take gate bytes ++ shut ∷ behind
  pub begins : take 8 bytes ≡ header
  pub durable : IsDurable bytes outcomes

-- a journal on a disk that reads as these bytes: a crash leaves its list, with the payload in doubt or without, and
-- where none is in doubt the file is at rest
pub record IsKept (gate : ℕ) (doubt : Option (List ℕ)) (outcomes : List ℕ → Type 0) (bytes : List ℕ) : Type 0 where
  pub place : gate ≡ gate_behind (payloads_before gate bytes)
  pub stand : StandFor (payloads_before gate bytes) doubt outcomes
  pub at_rest : doubt ≡ None → IsAtRest gate bytes outcomes

-- what the frames from a place on stand for
abbrev pub frames_at : ℕ → List ℕ → Result (List (List ℕ)) ℕ
frames_at place bytes = frames_from (length (drop place bytes)) place (drop place bytes)

-- a whole open frame stands at a place
pub record StandsAt (place : ℕ) (bytes payload : List ℕ) : Type 0 where
  pub fits : place + 5 + length payload < length bytes
  pub reads : frames_at place bytes ≡ in_front payload (frames_at (place + 5 + length payload) bytes)

-- the payload of the frame at a place, or none where its gate isn't open
abbrev pub NextFrame : ℕ → List ℕ → Option (List ℕ) → Type 0
NextFrame place bytes None = frames_at place bytes ≡ Ok []
NextFrame place bytes (Some payload) = StandsAt place bytes payload

-- the length of the payload behind a gate that is open, by the bytes from the gate on
abbrev pub length_behind : List ℕ → Option ℕ
length_behind [] = None
length_behind (gate ∷ behind) = if gate == 1 then Some (from_le_bytes w32 (take 4 behind)) else None

-- no damage was told
abbrev pub IsWhole : JournalFault → Type 0
IsWhole Fault = ⊤
IsWhole (Damaged place) = ⊥
IsWhole Memory = ⊤

-- where a journal's damage was told, the bytes are damaged at that place
abbrev pub TellsDamage : Result (List (List ℕ)) ℕ → JournalFault → Type 0
TellsDamage reading Fault = ⊤
TellsDamage reading (Damaged place) = reading ≡ Err place
TellsDamage reading Memory = ⊤

-- a count of faults never falls, and `Fault` is told only where it rose
pub record HasJournalCause {T : Type 0} (before now : ℕ) (result : Result T JournalFault) : Type 0 where
  pub later : before ≤ now
  pub failed : IsErrOf result Fault → HasRisen before now

-- bytes that were read: their number, the place of the first gate that isn't open, and the payloads in front of it
pub record IsRead (size gate : ℕ) (payloads : List (List ℕ)) (bytes : List ℕ) : Type 0 where
  pub whole : size ≡ length bytes
  pub place : gate ≡ gate_behind payloads
  pub stands : stands_for bytes ≡ Ok payloads

-- the payload of a frame that stands behind its own gate, whatever stands behind the frame
abbrev pub payload_of : List ℕ → List ℕ
payload_of frame = take (payload_length frame) (drop 4 frame)

-- what is written behind a gate: a payload's frame with a shut gate, and so many zeros as room for what comes
abbrev pub roomy_frame : ℕ → List ℕ → List ℕ
roomy_frame room payload = shut_frame payload ++ replicate room 0

-- a payload's frame with a shut gate, and anything behind it
pub record HoldsFrame (frame : List ℕ) : Type 0 where
  pub behind : List ℕ
  pub split : frame ≡ shut_frame (payload_of frame) ++ behind

-- a journal: its disk, and the list kept and the payload in doubt, where the disk tells them
pub record Ledger (D : Type 0) : Type 0 where
  pub disk : D
  pub kept : Option (List (List ℕ))
  pub doubt : Option (List ℕ)

-- A journal fails no call where its disk fails none and tells its bytes: it then knows that they aren't damaged.
pub record IsSound {D : Type 0} (sound : D → Type 0) (journal : Ledger D) : Type 0 where
  pub disk : sound journal.disk
  pub tells : is_some journal.kept ≡ true

-- an image stands for what one of these outcomes stands for, damage included
pub record StandsAs (outcomes : List ℕ → Type 0) (image : List ℕ) : Type 0 where
  pub outcome : List ℕ
  pub possible : outcomes outcome
  pub same : stands_for image ≡ stands_for outcome

-- an image stands for what these bytes stand for, damage included
pub record StandsLike (bytes image : List ℕ) : Type 0 where
  pub same : stands_for image ≡ stands_for bytes

-- a payload was put behind the gate of a journal of these payloads, and its own gate was opened
pub record IsPut (gate : ℕ) (payload : List ℕ) (payloads : List (List ℕ)) (outcomes : List ℕ → Type 0) (bytes : List ℕ) : Type 0 where
  pub kept : IsKept (gate + 5 + length payload) None outcomes bytes
  pub list : payloads_before (gate + 5 + length payload) bytes ≡ with_one_more payload payloads

-- a file at rest with these payloads
pub record IsLoaded (gate : ℕ) (payloads : List (List ℕ)) (outcomes : List ℕ → Type 0) (bytes : List ℕ) : Type 0 where
  pub kept : IsKept gate None outcomes bytes
  pub list : payloads_before gate bytes ≡ payloads
