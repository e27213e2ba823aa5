-- Texts written piece by piece.
use Rattle.std.proofs.Common.{◌≡◌, ℕ, suc, Result, Ok, Err, OnErr, ◌<◌, ◌≤◌, List, [], ◌∷◌, ◌++◌, Option, sym, ◌∙◌, ap, append_assoc, append-nil, arith, length, get_or, drop, drop-cons, ◌+◌, add-one}
use Rattle.std.specs.Io.KnownBytes.{Appends}
use Rattle.std.proofs.KnownBytes.{Appends-trans}
use Rattle.qz_grading.specs.declared.question.Item.{Item}
use Rattle.qz_grading.specs.Canonical.{category_line, canonical_question, canonical_items}
use Rattle.qz_outside.specs.Sources.{AppendsFront, WritesOn}

-- a piece was written, behind which `rest` stands
pub writes_piece : (old mid new : Option (List ℕ)) (before between now : ℕ) (bytes piece rest : List ℕ) → WritesOn old mid before between bytes (piece ++ rest)
    → Appends mid new piece → between ≤ now → WritesOn old new before now bytes rest
writes_piece old mid new before between now bytes piece rest written appends later = record {
  front = written.front ++ piece;
  split = written.split ∙ sym (append_assoc written.front piece rest);
  appends = Appends-trans old mid new written.front piece written.appends appends;
  later = omega (arith, written.later);
}

-- or a front of it
pub writes_front : (old mid new : Option (List ℕ)) (before between : ℕ) (bytes piece rest : List ℕ) → WritesOn old mid before between bytes (piece ++ rest)
    → AppendsFront mid new piece → AppendsFront old new bytes
writes_front old mid new before between bytes piece rest written part = record {
  front = written.front ++ part.front;
  rest = part.rest ++ rest;
  split = written.split ∙ ap (λ t. written.front ++ t) (ap (λ t. t ++ rest) part.split ∙ append_assoc part.front part.rest rest) ∙ sym (append_assoc written.front part.front (part.rest ++ rest));
  appends = Appends-trans old mid new written.front part.front written.appends part.appends;
}

-- what is left begins with the item at this place
pub left-item : (before : List (List ℕ)) (items : List Item) (n : ℕ) (item : Item) → n < length items → item ≡ get_or items n item
    → canonical_items before (drop n items) ≡ (category_line before item.category ++ canonical_question item.question) ++ canonical_items item.category (drop (n + 1) items)
left-item before items n item within is =
    ap (canonical_items before) (drop-cons items n item within ∙ ap (λ (x : Item). x ∷ drop (suc n) items) (sym is) ∙ ap (λ k. item ∷ drop k items) (sym (add-one n)))

pub on_err : {T E : Type 0} (r : Result T E) (P : Type 0) → P → OnErr r P
on_err (Ok x) P h = tt
on_err (Err e) P h = h
