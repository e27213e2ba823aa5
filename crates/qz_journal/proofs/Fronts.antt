-- The bytes of open frames, one behind the other, and how `frames_from` reads them.
use Rattle.std.proofs.Common.{◌≡◌, ◌≢◌, inl, inr, ℕ, zero, suc, ◌+◌, ◌^◌, ◌≤◌, ◌<◌, true, false, not, ◌==◌, if◌then◌else◌, List, [], ◌∷◌, ◌++◌, length, take, drop, Ok, Err, Result, is_ok, refl, sym, ◌∙◌, ap, subst, arith, length-append, length-take, length-drop, take-append-drop}
use Rattle.std.specs.Int.{from_le_bytes, to_le_bytes, w32}
use Rattle.std.proofs.lemmas.Nat.{from_le_bytes-to_le_bytes_4}
use Rattle.std.proofs.lemmas.Bool.{cases_eq, cases_Bool, lt-ltb, ltb-true, false≢true}
use Rattle.std.proofs.lemmas.Bool.Decides.{nat_tests}
use Rattle.std.proofs.lemmas.List.{append_assoc, append-nil, take_at, drop_at, drop-drop}
use Rattle.std.specs.Result.{result_unwrap_or}
use Rattle.qz_journal.specs.Frames.{open_frame, in_front, payload_length, is_whole, frames_from}
use Rattle.qz_journal.specs.Journals.{gate_behind}

-- bytes that are open frames of these payloads
abbrev pub IsFront : List (List ℕ) → List ℕ → Type 0
IsFront [] front = front ≡ []
IsFront (payload ∷ rest) front =
    (size : List ℕ) × (behind : List ℕ) × (length size ≡ 4) × (from_le_bytes w32 size ≡ length payload) × (front ≡ 1 ∷ (size ++ (payload ++ behind))) × IsFront rest behind

pub length-front : (payloads : List (List ℕ)) (front : List ℕ) → IsFront payloads front → 8 + length front ≡ gate_behind payloads
length-front [] front is = omega (arith, ap length is)
length-front (payload ∷ rest) front (size, behind, four, says, is, more) =
    let inner = length-front rest behind more in
    let parts = length-append size (payload ++ behind) in
    let payload_parts = length-append payload behind in
    omega (arith, ap length is, inner, parts, payload_parts, four)

pub one_frame : (payload : List ℕ) → length payload < 2 ^ 32 → IsFront (payload ∷ []) (open_frame payload)
one_frame payload fits = (to_le_bytes w32 (length payload), [], refl, from_le_bytes-to_le_bytes_4 (length payload) fits, ap (λ (l : List ℕ). 1 ∷ (to_le_bytes w32 (length payload) ++ l)) (sym (append-nil payload)), refl)

pub front_and : (payloads more : List (List ℕ)) (front behind : List ℕ) → IsFront payloads front → IsFront more behind → IsFront (payloads ++ more) (front ++ behind)
front_and [] more front behind is also = subst (λ (l : List ℕ). IsFront more (l ++ behind)) (sym is) also
front_and (payload ∷ rest) more front behind (size, inner, four, says, is, within) also =
    (size, inner ++ behind, four, says, ap (λ (l : List ℕ). l ++ behind) is ∙ ap (λ (l : List ℕ). 1 ∷ l) (append_assoc size (payload ++ inner) behind ∙ ap (λ (l : List ℕ). size ++ l) (append_assoc payload inner behind)), front_and rest more inner behind within also)

-- the front of the first payloads
pub record Parted (payloads more : List (List ℕ)) (front : List ℕ) : Type 0 where
  pub first : List ℕ
  pub second : List ℕ
  pub split : front ≡ first ++ second
  pub first_is : IsFront payloads first

pub parted : (payloads more : List (List ℕ)) (front : List ℕ) → IsFront (payloads ++ more) front → Parted payloads more front
parted [] more front is = record { first = []; second = front; split = refl; first_is = refl }
parted (payload ∷ rest) more front (size, behind, four, says, is, within) =
    let inner = parted rest more behind within in
    record {
      first = 1 ∷ (size ++ (payload ++ inner.first));
      second = inner.second;
      split = is ∙ ap (λ (l : List ℕ). 1 ∷ l) (ap (λ (l : List ℕ). size ++ (payload ++ l)) inner.split
          ∙ ap (λ (l : List ℕ). size ++ l) (sym (append_assoc payload inner.first inner.second)) ∙ sym (append_assoc size (payload ++ inner.first) inner.second));
      first_is = (size, inner.first, four, says, refl, inner.first_is);
    }

-- reading

shut_gate : (most place gate : ℕ) (rest : List ℕ) → gate ≢ 1 → frames_from (suc most) place (gate ∷ rest) ≡ Ok []
shut_gate most place gate rest shut = grind (arith, nat_tests)

pub open_whole : (most place gate : ℕ) (rest : List ℕ) → gate ≡ 1 → is_whole rest ≡ true
    → frames_from (suc most) place (gate ∷ rest) ≡ in_front (take (payload_length rest) (drop 4 rest)) (frames_from most (place + 5 + payload_length rest) (drop (4 + payload_length rest) rest))
open_whole most place gate rest is_open whole = rw (is_open, whole) refl

open_damaged : (most place gate : ℕ) (rest : List ℕ) → gate ≡ 1 → is_whole rest ≡ false → frames_from (suc most) place (gate ∷ rest) ≡ Err place
open_damaged most place gate rest is_open short = rw (is_open, short) refl

-- one open frame, and what stands behind it
one_step : (most place : ℕ) (size payload after : List ℕ) → length size ≡ 4 → from_le_bytes w32 size ≡ length payload → 0 < length after
    → frames_from (suc most) place (1 ∷ (size ++ (payload ++ after))) ≡ in_front payload (frames_from most (place + 5 + length payload) after)
one_step most place size payload after four says some =
    let rest = size ++ (payload ++ after) in
    let count : payload_length rest ≡ length payload = ap (from_le_bytes w32) (take_at size (payload ++ after) 4 four) ∙ says in
    let whole : is_whole rest ≡ true = lt-ltb (4 + payload_length rest) (length rest) (omega (arith, count, length-append size (payload ++ after), length-append payload after)) in
    let inner : take (payload_length rest) (drop 4 rest) ≡ payload = rw (drop_at size (payload ++ after) 4 four, count) (take_at payload after (length payload) refl) in
    let wide : length (size ++ payload) ≡ 4 + length payload = omega (arith, length-append size payload, four) in
    let beyond : drop (4 + payload_length rest) rest ≡ after = rw (count, ← append_assoc size payload after) (drop_at (size ++ payload) after (4 + length payload) wide) in
    open_whole most place 1 rest refl whole ∙ rw (inner, beyond, count) refl

-- open frames and then a gate that isn't open, whatever stands behind it
pub read_front : (payloads : List (List ℕ)) (front : List ℕ) (most place gate : ℕ) (behind : List ℕ) → IsFront payloads front → gate ≢ 1
    → length (front ++ gate ∷ behind) ≤ most → frames_from most place (front ++ gate ∷ behind) ≡ Ok payloads
read_front payloads front zero place gate behind is shut enough = absurd (omega (arith, length-append front (gate ∷ behind)))
read_front [] front (suc most) place gate behind is shut enough = rw is (shut_gate most place gate behind shut)
read_front (payload ∷ rest) front (suc most) place gate behind (size, more, four, says, is, within) shut enough =
    let after = more ++ gate ∷ behind in
    let bytes_are : front ++ gate ∷ behind ≡ 1 ∷ (size ++ (payload ++ after)) =
    ap (λ (l : List ℕ). l ++ gate ∷ behind) is ∙ ap (λ (l : List ℕ). 1 ∷ l) (append_assoc size (payload ++ more) (gate ∷ behind) ∙ ap (λ (l : List ℕ). size ++ l) (append_assoc payload more (gate ∷ behind))) in
    let counts = ap length bytes_are in
    let size_parts = length-append size (payload ++ after) in
    let payload_parts = length-append payload after in
    let after_parts = length-append more (gate ∷ behind) in
    let inner = read_front rest more most (place + 5 + length payload) gate behind within shut (omega (arith, counts, size_parts, payload_parts, enough)) in
    ap (frames_from (suc most) place) bytes_are ∙ one_step most place size payload after four says (omega (arith, after_parts)) ∙ ap (in_front payload) inner

-- how many frames there may be at most doesn't matter, where there are at most so many bytes
pub enough_frames : (m n place : ℕ) (bytes : List ℕ) → length bytes ≤ m → length bytes ≤ n → frames_from m place bytes ≡ frames_from n place bytes
enough_frames zero zero place bytes le le' = refl
enough_frames zero (suc n) place [] le le' = refl
enough_frames zero (suc n) place (gate ∷ rest) le le' = absurd (omega arith)
enough_frames (suc m) zero place [] le le' = refl
enough_frames (suc m) zero place (gate ∷ rest) le le' = absurd (omega arith)
enough_frames (suc m) (suc n) place [] le le' = refl
enough_frames (suc m) (suc n) place (gate ∷ rest) le le' =
    let behind = drop (4 + payload_length rest) rest in
    let shorter = length-drop (4 + payload_length rest) rest in
    let same = enough_frames m n (place + 5 + payload_length rest) behind (omega (arith, shorter)) (omega (arith, shorter)) in
    ap (λ r. if not (gate == 1) then Ok [] else (if is_whole rest then in_front (take (payload_length rest) (drop 4 rest)) r else Err place)) same

-- bytes that stand for payloads: open frames, a gate that isn't open, and what stands behind it
pub record AtGate (payloads : List (List ℕ)) (bytes : List ℕ) : Type 0 where
  pub front : List ℕ
  pub gate : ℕ
  pub behind : List ℕ
  pub split : bytes ≡ front ++ gate ∷ behind
  pub front_is : IsFront payloads front
  pub shut : gate ≢ 1

pub same_ok : (x y : List (List ℕ)) → ◌≡◌ {A = Result (List (List ℕ)) ℕ} (Ok x) (Ok y) → x ≡ y
same_ok x y same = ap (λ (r : Result (List (List ℕ)) ℕ). result_unwrap_or r x) same

pub err_not_ok : (place : ℕ) (x : List (List ℕ)) → ◌≡◌ {A = Result (List (List ℕ)) ℕ} (Err place) (Ok x) → ⊥
err_not_ok place x same = false≢true (ap is_ok same)

in_front_ok : (payload : List ℕ) (result : Result (List (List ℕ)) ℕ) (payloads : List (List ℕ)) → in_front payload result ≡ Ok payloads → (rest : List (List ℕ)) × (result ≡ Ok rest) × (payloads ≡ payload ∷ rest)
in_front_ok payload (Ok rest) payloads same = (rest, refl, sym (same_ok (payload ∷ rest) payloads same))
in_front_ok payload (Err place) payloads same = absurd (err_not_ok place payloads same)

-- bytes that begin with a whole open frame
pub frame_parts : (rest : List ℕ) → is_whole rest ≡ true
    → (length (take 4 rest) ≡ 4) × (payload_length rest ≡ length (take (payload_length rest) (drop 4 rest)))
    × (rest ≡ take 4 rest ++ (take (payload_length rest) (drop 4 rest) ++ drop (4 + payload_length rest) rest)) × (0 < length (drop (4 + payload_length rest) rest))
frame_parts rest whole =
    let fits = ltb-true (4 + payload_length rest) (length rest) whole in
    let inner = length-drop 4 rest in
    let joined : drop (payload_length rest) (drop 4 rest) ≡ drop (4 + payload_length rest) rest = drop-drop (payload_length rest) 4 rest in (
      omega (arith, length-take 4 rest),
      omega (arith, length-take (payload_length rest) (drop 4 rest), inner),
      rw (← joined, take-append-drop (payload_length rest) (drop 4 rest)) (sym (take-append-drop 4 rest)),
      omega (arith, length-drop (4 + payload_length rest) rest),
    )

pub at_gate : (most place : ℕ) (bytes : List ℕ) (payloads : List (List ℕ)) → frames_from most place bytes ≡ Ok payloads → 0 < length bytes → length bytes ≤ most → AtGate payloads bytes
at_gate most place [] payloads reads some enough = absurd (omega arith)
at_gate zero place (gate ∷ rest) payloads reads some enough = absurd (omega arith)
at_gate (suc most) place (gate ∷ rest) payloads reads some enough = elim (cases_eq gate 1) [
  | inr shut ↦
      let none : [] ≡ payloads = same_ok [] payloads (sym (shut_gate most place gate rest shut) ∙ reads) in
      record { front = []; gate = gate; behind = rest; split = refl; front_is = subst (λ l. IsFront l []) none refl; shut = shut }
  | inl is_open ↦ elim (cases_Bool (is_whole rest)) [
    | inr short ↦ absurd (err_not_ok place payloads (sym (open_damaged most place gate rest is_open short) ∙ reads))
    | inl whole ↦
        let payload = take (payload_length rest) (drop 4 rest) in
        let after = drop (4 + payload_length rest) rest in
        let parts = frame_parts rest whole in
        let found = in_front_ok payload (frames_from most (place + 5 + payload_length rest) after) payloads (sym (open_whole most place gate rest is_open whole) ∙ reads) in
        let inner = at_gate most (place + 5 + payload_length rest) after found.0 found.1 parts.3 (omega (arith, length-drop (4 + payload_length rest) rest)) in
        let rest_is : rest ≡ (take 4 rest ++ (payload ++ inner.front)) ++ inner.gate ∷ inner.behind =
        parts.2 ∙ ap (λ (l : List ℕ). take 4 rest ++ (payload ++ l)) inner.split
        ∙ ap (λ (l : List ℕ). take 4 rest ++ l) (sym (append_assoc payload inner.front (inner.gate ∷ inner.behind)))
        ∙ sym (append_assoc (take 4 rest) (payload ++ inner.front) (inner.gate ∷ inner.behind)) in
        record {
          front = 1 ∷ (take 4 rest ++ (payload ++ inner.front));
          gate = inner.gate;
          behind = inner.behind;
          split = (λ i. is_open i ∷ rest_is i);
          front_is = subst (λ l. IsFront l (1 ∷ (take 4 rest ++ (payload ++ inner.front)))) (sym found.2) (take 4 rest, inner.front, parts.0, parts.1, refl, inner.front_is);
          shut = inner.shut;
        }
  ]
]
