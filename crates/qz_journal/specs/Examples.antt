-- Worked images.
use Rattle.std.specs.Prelude.{◌≡◌, ℕ, List, [], ◌∷◌, ◌++◌, take, replicate, Ok, Err, refl}
use Rattle.qz_journal.specs.Frames.{header, open_frame, stands_for}

abbrev two_frames : List ℕ
two_frames = header ++ open_frame (7 ∷ 8 ∷ []) ++ open_frame (9 ∷ [])

pub an_empty_file : stands_for [] ≡ Ok []
an_empty_file = refl

pub nothing_yet : stands_for (header ++ 0 ∷ []) ≡ Ok []
nothing_yet = refl

pub nine_bytes_of_anything : stands_for (replicate 9 255) ≡ Ok []
nine_bytes_of_anything = refl

pub two_payloads : stands_for (two_frames ++ 0 ∷ []) ≡ Ok ((7 ∷ 8 ∷ []) ∷ (9 ∷ []) ∷ [])
two_payloads = refl

-- whatever stands behind a gate that isn't open
pub up_to_the_gate : stands_for (two_frames ++ 255 ∷ 1 ∷ 1 ∷ []) ≡ Ok ((7 ∷ 8 ∷ []) ∷ (9 ∷ []) ∷ [])
up_to_the_gate = refl

-- the first frame has 7 bytes, and the second is damaged: no gate follows it, or it isn't whole
pub no_gate_behind : stands_for two_frames ≡ Err 15
no_gate_behind = refl

pub not_whole : stands_for (header ++ open_frame (7 ∷ 8 ∷ []) ++ 1 ∷ 9 ∷ 0 ∷ 0 ∷ 0 ∷ 1 ∷ []) ≡ Err 15
not_whole = refl

pub another_header : stands_for (replicate 10 0) ≡ Err 0
another_header = refl

-- a record of 35 bytes begins its frame so
pub begins_a_frame : take 5 (open_frame (replicate 35 0)) ≡ 1 ∷ 35 ∷ 0 ∷ 0 ∷ 0 ∷ []
begins_a_frame = refl
