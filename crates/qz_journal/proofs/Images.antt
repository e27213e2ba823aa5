-- What images of a journal stand for.
use Rattle.std.proofs.Common.{◌≡◌, ◌≢◌, inl, inr, ⊎_elim, ℕ, ◌+◌, ◌≤◌, ◌<◌, true, false, bytes_eq, List, [], ◌∷◌, ◌++◌, length, take, drop, Ok, Err, Result, refl, sym, ◌∙◌, ap, subst, arith, length-append, length-take, length-drop, take-append-drop}
use Rattle.std.specs.Result.{result_unwrap_or}
use Rattle.std.proofs.lemmas.Bool.{cases_lt, le-leb, lt-leb, cases_Bool}
use Rattle.std.proofs.lemmas.List.{append_assoc, take_at}
use Rattle.std.proofs.lemmas.Slice.Eq.{bytes_eq-Decides}
use Rattle.qz_disks.specs.Disks.{IsDurable}
use Rattle.qz_journal.specs.Frames.{header, frames_from, stands_for}
use Rattle.qz_journal.specs.Journals.{gate_behind, payloads_before, IsAtRest}
use Rattle.qz_journal.proofs.Fronts.{IsFront, length-front, parted, read_front, at_gate, same_ok, err_not_ok}

-- the two readings of an image

pub short_image : (image : List ℕ) → length image ≤ 9 → stands_for image ≡ Ok []
short_image image short = rw (le-leb (length image) 9 short) refl

pub long_image : (image : List ℕ) → 9 < length image → bytes_eq (take 8 image) header ≡ true → stands_for image ≡ frames_from (length image) 8 (drop 8 image)
long_image image long begins = rw (lt-leb (length image) 9 long, begins) refl

other_image : (image : List ℕ) → 9 < length image → bytes_eq (take 8 image) header ≡ false → stands_for image ≡ Err 0
other_image image long begins = rw (lt-leb (length image) 9 long, begins) refl

pub gate_least : (payloads : List (List ℕ)) → 8 ≤ gate_behind payloads
gate_least [] = omega arith
gate_least (payload ∷ rest) = omega (arith, gate_least rest)

-- a header, open frames, and a gate that isn't open, whatever stands behind it
pub framed : (payloads : List (List ℕ)) (front : List ℕ) (gate : ℕ) (behind : List ℕ) → IsFront payloads front → gate ≢ 1 → stands_for (header ++ (front ++ gate ∷ behind)) ≡ Ok payloads
framed [] front gate behind is shut = ⊎_elim
    (λ long. long_image (header ++ (front ++ gate ∷ behind)) long refl ∙ read_front [] front (length (header ++ (front ++ gate ∷ behind))) 8 gate behind is shut (omega arith))
    (λ short. short_image (header ++ (front ++ gate ∷ behind)) short)
    (cases_lt 9 (length (header ++ (front ++ gate ∷ behind))))
framed (payload ∷ rest) front gate behind is shut =
    let size = length-front (payload ∷ rest) front is in
    let parts = length-append front (gate ∷ behind) in
    let deep = gate_least rest in
    long_image (header ++ (front ++ gate ∷ behind)) (omega (arith, size, parts, deep)) refl
    ∙ read_front (payload ∷ rest) front (length (header ++ (front ++ gate ∷ behind))) 8 gate behind is shut (omega arith)

-- an image of more than nine bytes that stands for payloads is of this form
pub record Framed (payloads : List (List ℕ)) (image : List ℕ) : Type 0 where
  pub front : List ℕ
  pub gate : ℕ
  pub behind : List ℕ
  pub split : image ≡ header ++ (front ++ gate ∷ behind)
  pub front_is : IsFront payloads front
  pub shut : gate ≢ 1

pub framed_of : (image : List ℕ) (payloads : List (List ℕ)) → 9 < length image → stands_for image ≡ Ok payloads → Framed payloads image
framed_of image payloads long stands = elim (cases_Bool (bytes_eq (take 8 image) header)) [
  | inr other ↦ absurd (err_not_ok 0 payloads (sym (other_image image long other) ∙ stands))
  | inl begins ↦
      let found = at_gate (length image) 8 (drop 8 image) payloads (sym (long_image image long begins) ∙ stands) (omega (arith, length-drop 8 image)) (omega (arith, length-drop 8 image)) in
      let same : take 8 image ≡ header = (bytes_eq-Decides (take 8 image) header).0 begins in
      record {
        front = found.front;
        gate = found.gate;
        behind = found.behind;
        split = sym (take-append-drop 8 image) ∙ ap (λ (l : List ℕ). l ++ drop 8 image) same ∙ ap (λ (l : List ℕ). header ++ l) found.split;
        front_is = found.front_is;
        shut = found.shut;
      }
]

-- the payloads in front of a place behind the first of them
pub kept_before : (image : List ℕ) (payloads more : List (List ℕ)) (gate : ℕ) → stands_for image ≡ Ok (payloads ++ more) → gate ≡ gate_behind payloads → payloads_before gate image ≡ payloads
kept_before image payloads more gate stands place = ap (λ (r : Result (List (List ℕ)) ℕ). result_unwrap_or r []) (⊎_elim long short (cases_lt 9 (length image)))
  where
    long : 9 < length image → stands_for (take gate image ++ 0 ∷ []) ≡ Ok payloads
    long le =
        let f = framed_of image (payloads ++ more) le stands in
        let p = parted payloads more f.front f.front_is in
        let size = length-front payloads p.first p.first_is in
        let split : image ≡ (header ++ p.first) ++ (p.second ++ f.gate ∷ f.behind) =
        f.split ∙ ap (λ (l : List ℕ). header ++ (l ++ f.gate ∷ f.behind)) p.split
        ∙ ap (λ (l : List ℕ). header ++ l) (append_assoc p.first p.second (f.gate ∷ f.behind)) in
        let front : take gate image ≡ header ++ p.first = ap (λ (l : List ℕ). take gate l) split ∙ take_at (header ++ p.first) (p.second ++ f.gate ∷ f.behind) gate (omega (arith, size, place)) in
        ap (λ (l : List ℕ). stands_for (l ++ 0 ∷ [])) front ∙ framed payloads p.first 0 [] p.first_is (omega arith)

    short : length image ≤ 9 → stands_for (take gate image ++ 0 ∷ []) ≡ Ok payloads
    short le = none payloads more place (same_ok [] (payloads ++ more) (sym (short_image image le) ∙ stands))
      where
        none : (ps qs : List (List ℕ)) → gate ≡ gate_behind ps → [] ≡ ps ++ qs → stands_for (take gate image ++ 0 ∷ []) ≡ Ok ps
        none [] qs at empty = short_image (take gate image ++ 0 ∷ []) (omega (arith, at, length-append (take gate image) (0 ∷ []), length-take gate image))
        none (p ∷ ps) qs at empty = absurd (let sizes = ap length empty in omega (arith, sizes))

-- a file at rest: a header, open frames, and a gate that isn't open, whatever stands behind it
pub record Resting (payloads : List (List ℕ)) (place : ℕ) (bytes : List ℕ) : Type 0 where
  pub front : List ℕ
  pub gate : ℕ
  pub behind : List ℕ
  pub split : bytes ≡ header ++ (front ++ gate ∷ behind)
  pub front_is : IsFront payloads front
  pub shut : gate ≢ 1
  pub size : 8 + length front ≡ place

file_size : (place gate : ℕ) (bytes behind : List ℕ) → bytes ≡ take place bytes ++ gate ∷ behind → length bytes ≡ place + 1 + length behind
file_size place gate bytes behind file = let sizes = ap length file in omega (arith, sizes, length-append (take place bytes) (gate ∷ behind), length-take place bytes)

pub resting : (payloads : List (List ℕ)) (place : ℕ) (bytes : List ℕ) (outcomes : List ℕ → Type 0) → IsAtRest place bytes outcomes → stands_for bytes ≡ Ok payloads → place ≡ gate_behind payloads → Resting payloads place bytes
resting payloads place bytes outcomes rest stands at = ⊎_elim long short (cases_lt 9 (length bytes))
  where
    long : 9 < length bytes → Resting payloads place bytes
    long le =
        let f = framed_of bytes payloads le stands in
        let size = length-front payloads f.front f.front_is in
        record {
          front = f.front;
          gate = f.gate;
          behind = f.behind;
          split = f.split;
          front_is = f.front_is;
          shut = f.shut;
          size = omega (arith, size, at);
        }

    short : length bytes ≤ 9 → Resting payloads place bytes
    short le =
        let whole = file_size place rest.shut bytes rest.behind rest.file in
        let deep = gate_least payloads in
        let eight : place ≡ 8 = omega (arith, whole, deep, at) in
        let none : [] ≡ payloads = same_ok [] payloads (sym (short_image bytes le) ∙ stands) in
        record {
          front = [];
          gate = rest.shut;
          behind = rest.behind;
          split = rest.file ∙ ap (λ (l : List ℕ). l ++ rest.shut ∷ rest.behind) (ap (λ (n : ℕ). take n bytes) eight ∙ rest.begins);
          front_is = subst (λ l. IsFront l []) none refl;
          shut = rest.closed;
          size = omega (arith, eight);
        }

pub at_rest : (payloads : List (List ℕ)) (place : ℕ) (bytes : List ℕ) (outcomes : List ℕ → Type 0) → Resting payloads place bytes → IsDurable bytes outcomes → IsAtRest place bytes outcomes
at_rest payloads place bytes outcomes r durable = record {
  shut = r.gate;
  behind = r.behind;
  closed = r.shut;
  file = joined ∙ ap (λ (l : List ℕ). l ++ r.gate ∷ r.behind) (sym front);
  begins = ap (λ (l : List ℕ). take 8 l) r.split;
  durable = durable;
}
  where
    joined : bytes ≡ (header ++ r.front) ++ r.gate ∷ r.behind
    joined = r.split

    front : take place bytes ≡ header ++ r.front
    front = ap (λ (l : List ℕ). take place l) joined ∙ take_at (header ++ r.front) (r.gate ∷ r.behind) place (let size = r.size in omega (arith, size))

pub resting_stands : (payloads : List (List ℕ)) (place : ℕ) (bytes : List ℕ) → Resting payloads place bytes → stands_for bytes ≡ Ok payloads
resting_stands payloads place bytes r = ap stands_for r.split ∙ framed payloads r.front r.gate r.behind r.front_is r.shut

pub resting_place : (payloads : List (List ℕ)) (place : ℕ) (bytes : List ℕ) → Resting payloads place bytes → place ≡ gate_behind payloads
resting_place payloads place bytes r = omega (arith, r.size, length-front payloads r.front r.front_is)

-- such a file up to its gate
pub resting_gate : (payloads : List (List ℕ)) (place : ℕ) (bytes : List ℕ) (r : Resting payloads place bytes) → take (place + 1) bytes ≡ header ++ (r.front ++ r.gate ∷ [])
resting_gate payloads place bytes r =
    ap (λ (l : List ℕ). take (place + 1) l) (r.split ∙ ap (λ (l : List ℕ). header ++ l) (sym (append_assoc r.front (r.gate ∷ []) r.behind)))
    ∙ take_at (header ++ (r.front ++ r.gate ∷ [])) r.behind (place + 1) (let size = r.size in omega (arith, size, length-append r.front (r.gate ∷ [])))
