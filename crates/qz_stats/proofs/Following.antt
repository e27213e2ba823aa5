-- Each record of a shard's list may be put behind those before it.
use Rattle.std.proofs.Common.{◌&&◌, ◌≡◌, ℕ, ◌+◌, ◌<◌, true, List, ◌∷◌, ◌++◌, length, take, drop, get_or, min, sym, ap, subst, ◌∙◌, arith, All}
use Rattle.std.specs.List.{list_all}
use Rattle.std.proofs.lemmas.List.{drop_more, length-take, take-append-drop}
use Rattle.std.proofs.lemmas.List.Elements.{All-take}
use Rattle.std.proofs.lemmas.List.Folds.{list_all-append}
use Rattle.qz_book.specs.Held.{IsHeld, IsSound, is_asked}
use Rattle.qz_book.specs.Nexts.{CanGrow, IsNext}
use Rattle.qz_lemmas.proofs.Bools.{and-left, and-right}
use Rattle.qz_lives.proofs.Keeping.{All-seam}
use Rattle.qz_lives.proofs.Legality.{legal-before}
use Rattle.qz_terms.specs.declared.record.Record.{Record}
use Rattle.qz_terms.specs.Kept.{IsKept}
use Rattle.qz_terms.specs.Legal.{IsLegal}

-- a list at one of its records
pub record IsCut (h : List Record) (i : ℕ) (r : Record) : Type 0 where
  pub rest : List Record
  pub stands : take i h ++ r ∷ rest ≡ h

pub cut-at : (h : List Record) (i : ℕ) (r : Record) → i < length h → r ≡ get_or h i r → IsCut h i r
cut-at h i r inside is = record {
  rest = drop (i + 1) h;
  stands =
      let behind : drop i h ≡ get_or h i r ∷ drop (i + 1) h = drop_more h i r inside in
      ap (λ (x : Record). take i h ++ x ∷ drop (i + 1) h) is ∙ (sym (ap (λ (t : List Record). take i h ++ t) behind) ∙ take-append-drop i h);
}

asked-all : (h l : List Record) (r : Record) (rest : List Record) → l ++ r ∷ rest ≡ h → list_all is_asked h ≡ true → (list_all is_asked l ≡ true) × (is_asked r ≡ true)
asked-all h l r rest e all =
    let both : (list_all is_asked l && list_all is_asked (r ∷ rest)) ≡ true = sym (list_all-append is_asked l (r ∷ rest)) ∙ (ap (list_all is_asked) e ∙ all) in
    (and-left (list_all is_asked l) (list_all is_asked (r ∷ rest)) both, and-left (is_asked r) (list_all is_asked rest) (and-right (list_all is_asked l) (list_all is_asked (r ∷ rest)) both))

held-before : (index count : ℕ) (h : List Record) (i : ℕ) (r : Record) (rest : List Record) → take i h ++ r ∷ rest ≡ h → IsHeld index count h → IsHeld index count (take i h)
held-before index count h i r rest e held = record {
  shard = held.shard;
  legal = legal-before index count (take i h) (r ∷ rest) (subst (IsLegal index count) (sym e) held.legal);
  kept = All-take IsKept i h held.kept;
  asked = (asked-all h (take i h) r rest e held.asked).0;
  few = let short : length (take i h) ≡ min i (length h) = length-take i h in let long = held.few in omega arith;
}

next-there : (index count : ℕ) (h : List Record) (i : ℕ) (r : Record) (rest : List Record) → take i h ++ r ∷ rest ≡ h → IsHeld index count h → IsNext index count (take i h) r
next-there index count h i r rest e held = record {
  allowed = held.legal.each (take i h) r rest (sym e);
  kept = All-seam IsKept (take i h) r rest (subst (All IsKept) (sym e) held.kept);
  asked = (asked-all h (take i h) r rest e held.asked).1;
}

pub can-grow : (h : List Record) (i : ℕ) (r : Record) → IsSound h → i < length h → r ≡ get_or h i r → CanGrow (take i h) r
can-grow h i r sound inside is =
    let cut = cut-at h i r inside is in
    record {
      index = sound.index;
      count = sound.count;
      held = held-before sound.index sound.count h i r cut.rest cut.stands sound.held;
      next = next-there sound.index sound.count h i r cut.rest cut.stands sound.held;
    }
