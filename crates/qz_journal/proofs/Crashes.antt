-- What a crash leaves of a journal in each step of an append, and of a mending.
use Rattle.std.proofs.Common.{◌≡◌, inl, inr, ℕ, zero, suc, ◌+◌, ◌-◌, ◌^◌, ◌≤◌, ◌<◌, List, [], ◌∷◌, ◌++◌, length, take, drop, get_or, Ok, Some, sym, ◌∙◌, ap, arith, length-append, length-take, take-append-drop}
use Rattle.std.specs.Int.{to_le_bytes, w32}
use Rattle.std.proofs.lemmas.Bool.{cases_eq}
use Rattle.std.proofs.lemmas.List.{append_assoc, take_at, drop_at, drop_more}
use Rattle.qz_disks.specs.Disks.{overwritten, Torn, Cut}
use Rattle.qz_disks.specs.Keepers.{with_one_more}
use Rattle.qz_journal.specs.Frames.{header, open_frame, shut_frame, stands_for}
use Rattle.qz_journal.specs.Journals.{gate_behind, StandsFor}
use Rattle.qz_journal.proofs.Fronts.{IsFront, length-front, one_frame, front_and}
use Rattle.qz_journal.proofs.Images.{framed, Framed, Resting, resting_gate}

take_past : (xs ys : List ℕ) (m n : ℕ) → m ≡ length xs + n → take m (xs ++ ys) ≡ xs ++ take n ys
take_past [] ys m n is = let same : m ≡ n = omega arith in ap (λ (k : ℕ). take k ys) same
take_past (x ∷ xs) ys zero n is = absurd (omega arith)
take_past (x ∷ xs) ys (suc m) n is = ap (λ (l : List ℕ). x ∷ l) (take_past xs ys m n (omega arith))

module _ (payloads : List (List ℕ)) (place : ℕ) (bytes : List ℕ) (r : Resting payloads place bytes) where
  -- the gate stays shut in each outcome of a write behind it
  pub torn_behind : (count : ℕ) (c : List ℕ) → Torn (place + 1) count bytes c → stands_for c ≡ Ok payloads
  torn_behind count c torn =
      let behind = drop (place + 1) c in
      let front : take (place + 1) c ≡ header ++ (r.front ++ r.gate ∷ []) = torn.before ∙ resting_gate payloads place bytes r in
      let whole : c ≡ header ++ (r.front ++ r.gate ∷ behind) =
      sym (take-append-drop (place + 1) c) ∙ ap (λ (l : List ℕ). l ++ behind) front
      ∙ ap (λ (l : List ℕ). header ++ l) (append_assoc r.front (r.gate ∷ []) behind) in
      ap stands_for whole ∙ framed payloads r.front r.gate behind r.front_is r.shut

  -- the file with this behind the shut gate
  abbrev pub staged : List ℕ → List ℕ
  staged behind = header ++ (r.front ++ r.gate ∷ behind)

  -- what a write behind it leaves there
  abbrev pub rest_behind : List ℕ → List ℕ
  rest_behind frame = drop (place + 1 + length frame) bytes

  pub written_behind : (frame : List ℕ) → overwritten (place + 1) frame bytes ≡ staged (frame ++ rest_behind frame)
  written_behind frame =
      append_assoc (take (place + 1) bytes) frame (rest_behind frame)
      ∙ ap (λ (l : List ℕ). l ++ (frame ++ rest_behind frame)) (resting_gate payloads place bytes r)
      ∙ ap (λ (l : List ℕ). header ++ l) (append_assoc r.front (r.gate ∷ []) (frame ++ rest_behind frame))

  length-staged : (behind : List ℕ) → length (staged behind) ≡ place + 1 + length behind
  length-staged behind = let before = r.size in omega (arith, before, length-append r.front (r.gate ∷ behind))

  staged_front : (behind : List ℕ) → take place (staged behind) ≡ header ++ r.front
  staged_front behind = let before = r.size in take_at (header ++ r.front) (r.gate ∷ behind) place (omega (arith, before))

  staged_behind : (behind : List ℕ) → drop (place + 1) (staged behind) ≡ behind
  staged_behind behind =
      let before = r.size in
      let split : staged behind ≡ (header ++ (r.front ++ r.gate ∷ [])) ++ behind = ap (λ (l : List ℕ). header ++ l) (sym (append_assoc r.front (r.gate ∷ []) behind)) in
      ap (λ (l : List ℕ). drop (place + 1) l) split
      ∙ drop_at (header ++ (r.front ++ r.gate ∷ [])) behind (place + 1) (omega (arith, before, length-append r.front (r.gate ∷ [])))

  -- the payload with its gate opened
  opened : (payload behind : List ℕ) → header ++ (r.front ++ 1 ∷ (shut_frame payload ++ behind)) ≡ header ++ ((r.front ++ open_frame payload) ++ 0 ∷ behind)
  opened payload behind =
      let size = to_le_bytes w32 (length payload) in
      ap (λ (l : List ℕ). header ++ (r.front ++ 1 ∷ l)) (append_assoc size (payload ++ 0 ∷ []) behind ∙ ap (λ (l : List ℕ). size ++ l) (append_assoc payload (0 ∷ []) behind) ∙ sym (append_assoc size payload (0 ∷ behind)))
      ∙ ap (λ (l : List ℕ). header ++ l) (sym (append_assoc r.front (open_frame payload) (0 ∷ behind)))

  pub longer : (payload : List ℕ) → length payload < 2 ^ 32 → IsFront (with_one_more payload payloads) (r.front ++ open_frame payload)
  longer payload fits = front_and payloads (payload ∷ []) r.front (open_frame payload) r.front_is (one_frame payload fits)

  -- the frame stands whole in each outcome of a write of its gate
  pub torn_gate : (payload behind : List ℕ) → length payload < 2 ^ 32 → (c : List ℕ) → Torn place 1 (staged (shut_frame payload ++ behind)) c → StandsFor payloads (Some payload) c
  torn_gate payload behind fits c torn =
      let frame = shut_frame payload ++ behind in
      let long = length-staged frame in
      let gate = get_or c place 0 in
      let from_gate : drop place c ≡ gate ∷ frame = drop_more c place 0 (omega (arith, torn.no_shorter, long)) ∙ ap (λ (l : List ℕ). gate ∷ l) (torn.after ∙ staged_behind frame) in
      let whole : c ≡ header ++ (r.front ++ gate ∷ frame) = sym (take-append-drop place c) ∙ ap (λ (l : List ℕ). l ++ drop place c) (torn.before ∙ staged_front frame) ∙ ap (λ (l : List ℕ). (header ++ r.front) ++ l) from_gate in
      elim (cases_eq gate 1) [
        | inl is_open ↦ inr (ap stands_for (whole ∙ ap (λ (g : ℕ). header ++ (r.front ++ g ∷ frame)) is_open ∙ opened payload behind) ∙ framed (with_one_more payload payloads) (r.front ++ open_frame payload) 0 behind (longer payload fits) (omega arith))
        | inr shut ↦ inl (ap stands_for whole ∙ framed payloads r.front gate frame r.front_is shut)
      ]

  -- and then the file is at rest with it
  pub written_gate : (payload behind : List ℕ) → length payload < 2 ^ 32 → Resting (with_one_more payload payloads) (place + 5 + length payload) (overwritten place (1 ∷ []) (staged (shut_frame payload ++ behind)))
  written_gate payload behind fits =
      let frame = shut_frame payload ++ behind in
      let before = r.size in
      record {
        front = r.front ++ open_frame payload;
        gate = 0;
        behind = behind;
        split = ap (λ (l : List ℕ). (l ++ 1 ∷ []) ++ drop (place + 1) (staged frame)) (staged_front frame)
            ∙ ap (λ (l : List ℕ). ((header ++ r.front) ++ 1 ∷ []) ++ l) (staged_behind frame)
            ∙ append_assoc (header ++ r.front) (1 ∷ []) frame
            ∙ opened payload behind;
        front_is = longer payload fits;
        shut = omega arith;
        size = omega (arith, before, length-append r.front (open_frame payload), length-append (to_le_bytes w32 (length payload)) payload);
      }

-- mending a file of more than nine bytes

module _ (payloads : List (List ℕ)) (place : ℕ) (bytes : List ℕ) (f : Framed payloads bytes) (at : place ≡ gate_behind payloads) where
  before : 8 + length f.front ≡ place
  before = omega (arith, at, length-front payloads f.front f.front_is)

  parts : bytes ≡ (header ++ (f.front ++ f.gate ∷ [])) ++ f.behind
  parts = f.split ∙ ap (λ (l : List ℕ). header ++ l) (sym (append_assoc f.front (f.gate ∷ []) f.behind))

  pub length-framed : place + 1 ≤ length bytes
  length-framed = let sizes = ap length f.split in omega (arith, sizes, before, length-append f.front (f.gate ∷ f.behind))

  taken : (n : ℕ) → take (place + 1 + n) bytes ≡ header ++ (f.front ++ f.gate ∷ take n f.behind)
  taken n =
      ap (λ (l : List ℕ). take (place + 1 + n) l) parts
      ∙ take_past (header ++ (f.front ++ f.gate ∷ [])) f.behind (place + 1 + n) n (omega (arith, before, length-append f.front (f.gate ∷ [])))
      ∙ ap (λ (l : List ℕ). header ++ l) (append_assoc f.front (f.gate ∷ []) (take n f.behind))

  -- the gate stays in each outcome of a cut behind it
  pub cut_behind : (c : List ℕ) → Cut (place + 1) bytes c → stands_for c ≡ Ok payloads
  cut_behind c cut =
      let n = length c - (place + 1) in
      let long = length-framed in
      let count : length c ≡ place + 1 + n = omega (arith, cut.no_shorter, long) in
      let whole : c ≡ header ++ (f.front ++ f.gate ∷ take n f.behind) = sym cut.front ∙ ap (λ (k : ℕ). take k bytes) count ∙ taken n in
      ap stands_for whole ∙ framed payloads f.front f.gate (take n f.behind) f.front_is f.shut

  pub cut_rests : Resting payloads place (take (place + 1) bytes)
  cut_rests = record {
    front = f.front;
    gate = f.gate;
    behind = [];
    split = ap (λ (k : ℕ). take k bytes) (let same : place + 1 ≡ place + 1 + 0 = omega arith in same) ∙ taken 0;
    front_is = f.front_is;
    shut = f.shut;
    size = before;
  }

-- mending a file of at most nine bytes

pub cut_short : (bytes c : List ℕ) → length bytes ≤ 9 → Cut 0 bytes c → length c ≤ 9
cut_short bytes c short cut = let sizes = ap length cut.front in omega (arith, sizes, length-take (length c) bytes)

pub torn_short : (bytes c : List ℕ) → length bytes ≤ 9 → Torn 0 9 bytes c → length c ≤ 9
torn_short bytes c short torn = omega (arith, torn.no_longer)
