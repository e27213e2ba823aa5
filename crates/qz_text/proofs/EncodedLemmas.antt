-- Fitting characters, and fitting their bytes in UTF-8.
use Rattle.std.proofs.Common.{◌≡◌, ℕ, ◌+◌, ◌/◌, ◌≤◌, Bool, true, cond, ltb, Decides, List, [], ◌∷◌, ◌++◌, length, map, take, drop, get_or, IsUtf8, encode_utf8_all, refl, sym, ap, ap₂, ◌∙◌, subst, arith, append_assoc, append-nil, length-append}
use Rattle.std.proofs.lemmas.Bool.{and_parts, cond_both, ltb-true}
use Rattle.std.proofs.lemmas.List.{length-map, take_at, drop_at, get_or-append-add}
use Rattle.std.proofs.lemmas.Str.{encodes-append, encodes_same, cons_from_encodes, IsUtf8-take, IsUtf8-drop}
use Rattle.std.specs.Char.{encode_utf8}
use Rattle.std.specs.Str.{IsCharBoundary}
use lib.Utf8.{next, scalar, scalars}
use Rattle.qz_text.specs.Gaps.{EndingFits}
use Rattle.qz_text.specs.Patterns.{FitsParts, woven}
use Rattle.qz_text.proofs.FitsLemmas.{FitsParts-one, FitsParts-from_one, FitsParts-first, FitsParts-from_first}

-- ---- cutting a text where characters stand

-- characters begin with these
record SplitsText (text : List ℕ) (front ending : List ℕ) : Type 0 where
  head : List ℕ
  tail : List ℕ
  whole : text ≡ head ++ tail
  front_is : encode_utf8_all head ≡ front
  ending_is : encode_utf8_all tail ≡ ending
  tail_scalars : scalars tail ≡ true

-- the bytes of some characters at the front are those characters
encodes-front : (text part rest : List ℕ) → encode_utf8_all text ≡ encode_utf8_all part ++ rest → (tail : List ℕ) × (text ≡ part ++ tail) × (encode_utf8_all tail ≡ rest)
encodes-front text [] rest e = (text, refl, e)
encodes-front text (c ∷ part) rest e =
    let first = cons_from_encodes text (encode_utf8_all part ++ rest) c (e ∙ append_assoc (encode_utf8 c) (encode_utf8_all part) rest) in
    let later = encodes-front first.0 part rest first.2 in
    (later.0, first.1 ∙ ap (λ l. c ∷ l) later.1, later.2)

-- a character begins with no byte that goes on with one
leads : (c : ℕ) (rest : List ℕ) → 128 ≤ get_or (encode_utf8 c ++ rest) 0 0 → 192 ≤ get_or (encode_utf8 c ++ rest) 0 0
unfolding encode_utf8
leads c rest =
    let P : List ℕ → Type 0 = λ bs. 128 ≤ get_or (bs ++ rest) 0 0 → 192 ≤ get_or (bs ++ rest) 0 0 in
    let two : List ℕ = (192 + c / 64) ∷ next c ∷ [] in
    let three : List ℕ = (224 + c / 4096) ∷ next (c / 64) ∷ next c ∷ [] in
    let four : List ℕ = (240 + c / 262144) ∷ next (c / 4096) ∷ next (c / 64) ∷ next c ∷ [] in
    cond_both (ltb c 128) (c ∷ []) (cond (ltb c 2048) two (cond (ltb c 65536) three four)) P (λ t le. absurd (omega (arith, ltb-true c 128 t)))
    (λ _. cond_both (ltb c 2048) two (cond (ltb c 65536) three four) P (λ _ _. omega arith)
    (λ _. cond_both (ltb c 65536) three four P (λ _ _. omega arith) (λ _ _. omega arith)))

-- so a text is cut before the bytes of a character
splits_at : (text front rest : List ℕ) (c : ℕ) → scalars text ≡ true → encode_utf8_all text ≡ front ++ (encode_utf8 c ++ rest) → SplitsText text front (encode_utf8 c ++ rest)
splits_at text front rest c all e =
    let bytes : List ℕ = encode_utf8_all text in
    let more : List ℕ = encode_utf8 c ++ rest in
    let here : get_or bytes (length front + 0) 0 ≡ get_or more 0 0 = ap (λ l. get_or l (length front + 0) 0) e ∙ get_or-append-add front more 0 0 in
    let same : length front + 0 ≡ length front = omega arith in
    let at : get_or bytes (length front) 0 ≡ get_or more 0 0 = ap (λ n. get_or bytes n 0) (sym same) ∙ here in
    let boundary : IsCharBoundary bytes (length front) =
    (omega (arith, ap length e, length-append front more), λ _ goes_on. omega (arith, at, leads c rest (omega arith))) in
    let utf8 : IsUtf8 bytes = (text, (all, refl)) in
    let head = IsUtf8-take bytes (length front) utf8 boundary in
    let tail = IsUtf8-drop bytes (length front) utf8 boundary in
    let front_is : encode_utf8_all head.0 ≡ front = head.1.1 ∙ ap (take (length front)) e ∙ take_at front more (length front) refl in
    let ending_is : encode_utf8_all tail.0 ≡ more = tail.1.1 ∙ ap (drop (length front)) e ∙ drop_at front more (length front) refl in
    record {
      head = head.0;
      tail = tail.0;
      whole = encodes_same text (head.0 ++ tail.0) (e ∙ sym (encodes-append head.0 tail.0 ∙ ap₂ ◌++◌ front_is ending_is));
      front_is = front_is;
      ending_is = ending_is;
      tail_scalars = tail.1.0;
    }

-- ---- from characters to bytes

encode_utf8_all-woven : (parts runs : List (List ℕ)) → encode_utf8_all (woven parts runs) ≡ woven (map encode_utf8_all parts) (map encode_utf8_all runs)
encode_utf8_all-woven [] runs = refl
encode_utf8_all-woven (part ∷ parts) [] = refl
encode_utf8_all-woven (part ∷ parts) (run ∷ runs) =
    encodes-append part (run ++ woven parts runs)
    ∙ ap (λ l. encode_utf8_all part ++ l) (encodes-append run (woven parts runs) ∙ ap (λ l. encode_utf8_all run ++ l) (encode_utf8_all-woven parts runs))

FitsParts-encoded : (parts : List (List ℕ)) (text : List ℕ) → FitsParts parts text → FitsParts (map encode_utf8_all parts) (encode_utf8_all text)
FitsParts-encoded parts text h =
    record {
      runs = map encode_utf8_all h.runs;
      one_each = ap (λ n. n + 1) (length-map h.runs encode_utf8_all) ∙ h.one_each ∙ sym (length-map parts encode_utf8_all);
      filled = ap encode_utf8_all h.filled ∙ encode_utf8_all-woven parts h.runs;
    }

-- ---- and back

scalars-append_right : (head tail : List ℕ) → scalars (head ++ tail) ≡ true → scalars tail ≡ true
scalars-append_right [] tail all = all
scalars-append_right (c ∷ head) tail all = scalars-append_right head tail (and_parts (scalar c) (scalars (head ++ tail)) all).1

scalars-tail : (text head tail : List ℕ) → scalars text ≡ true → text ≡ head ++ tail → scalars tail ≡ true
scalars-tail text head tail all e = scalars-append_right head tail (sym (ap scalars e) ∙ all)

EndingFits-decoded : (parts : List (List ℕ)) (text front ending : List ℕ) → scalars text ≡ true → encode_utf8_all text ≡ front ++ ending → FitsParts (map encode_utf8_all parts) ending → EndingFits parts text
EndingFits-decoded [] text front ending all e h = absurd (omega (arith, h.one_each))
EndingFits-decoded ([] ∷ []) text front ending all e h =
    record { front = text; ending = []; split = sym (append-nil text); fits = FitsParts-from_one [] [] refl }
EndingFits-decoded ((c ∷ cs) ∷ []) text front ending all e h =
    let one = FitsParts-one (encode_utf8_all (c ∷ cs)) ending h in
    let cut = splits_at text front (encode_utf8_all cs) c all (e ∙ ap (λ l. front ++ l) one) in
    record { front = cut.head; ending = cut.tail; split = cut.whole; fits = FitsParts-from_one (c ∷ cs) cut.tail (encodes_same cut.tail (c ∷ cs) cut.ending_is) }
EndingFits-decoded ([] ∷ next ∷ later) text front ending all e h =
    let first = FitsParts-first [] (encode_utf8_all next) ending (map encode_utf8_all later) h in
    let ends = first.fits in
    let rest = EndingFits-decoded (next ∷ later) text (front ++ ends.front) ends.ending all (e ∙ ap (λ l. front ++ l) (first.split ∙ ends.split) ∙ sym (append_assoc front ends.front ends.ending)) ends.fits in
    record { front = []; ending = text; split = refl; fits = FitsParts-from_first [] text (next ∷ later) (record { rest = text; split = refl; fits = rest }) }
EndingFits-decoded ((c ∷ cs) ∷ next ∷ later) text front ending all e h =
    let first = FitsParts-first (encode_utf8_all (c ∷ cs)) (encode_utf8_all next) ending (map encode_utf8_all later) h in
    let ends = first.fits in
    let split : ending ≡ encode_utf8 c ++ (encode_utf8_all cs ++ first.rest) = first.split ∙ append_assoc (encode_utf8 c) (encode_utf8_all cs) first.rest in
    let cut = splits_at text front (encode_utf8_all cs ++ first.rest) c all (e ∙ ap (λ l. front ++ l) split) in
    let tail = encodes-front cut.tail (c ∷ cs) first.rest (cut.ending_is ∙ sym (append_assoc (encode_utf8 c) (encode_utf8_all cs) first.rest)) in
    let rest = EndingFits-decoded (next ∷ later) tail.0 ends.front ends.ending (scalars-tail cut.tail (c ∷ cs) tail.0 cut.tail_scalars tail.1) (tail.2 ∙ ends.split) ends.fits in
    record {
      front = cut.head;
      ending = cut.tail;
      split = cut.whole;
      fits = FitsParts-from_first (c ∷ cs) cut.tail (next ∷ later) (record { rest = tail.0; split = tail.1; fits = rest });
    }

FitsParts-decoded : (parts : List (List ℕ)) (text : List ℕ) → scalars text ≡ true → FitsParts (map encode_utf8_all parts) (encode_utf8_all text) → FitsParts parts text
FitsParts-decoded [] text all h = absurd (omega (arith, h.one_each))
FitsParts-decoded (part ∷ []) text all h = FitsParts-from_one part text (encodes_same text part (FitsParts-one (encode_utf8_all part) (encode_utf8_all text) h))
FitsParts-decoded (part ∷ next ∷ later) text all h =
    let first = FitsParts-first (encode_utf8_all part) (encode_utf8_all next) (encode_utf8_all text) (map encode_utf8_all later) h in
    let ends = first.fits in
    let tail = encodes-front text part first.rest first.split in
    let rest = EndingFits-decoded (next ∷ later) tail.0 ends.front ends.ending (scalars-tail text part tail.0 all tail.1) (tail.2 ∙ ends.split) ends.fits in
    FitsParts-from_first part text (next ∷ later) (record { rest = tail.0; split = tail.1; fits = rest })

scalars-from_utf8 : (cs bs : List ℕ) → IsUtf8 bs → bs ≡ encode_utf8_all cs → scalars cs ≡ true
scalars-from_utf8 cs bs utf8 e = ap scalars (encodes_same cs utf8.0 (sym e ∙ sym utf8.1.1)) ∙ utf8.1.0

-- a test of the bytes tells it of the characters
pub Decides-decoded : (parts kept : List (List ℕ)) (text bytes : List ℕ) (r : Bool) → kept ≡ map encode_utf8_all parts → bytes ≡ encode_utf8_all text → IsUtf8 bytes → Decides r (FitsParts kept bytes) → Decides r (FitsParts parts text)
Decides-decoded parts kept text bytes r kept_is bytes_is utf8 tells =
    let all = scalars-from_utf8 text bytes utf8 bytes_is in
    let same = ap₂ FitsParts kept_is bytes_is in (
      λ yes. FitsParts-decoded parts text all (subst (λ P. P) same (tells.0 yes)),
      λ h. tells.1 (subst (λ P. P) (sym same) (FitsParts-encoded parts text h)),
    )
