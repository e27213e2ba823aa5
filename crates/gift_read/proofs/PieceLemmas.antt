-- The first sign of a cut stands before its first piece alone.
use Rattle.std.proofs.Common.{◌≡◌, ℕ, ◌+◌, ◌≤◌, Bool, true, false, cond, ◌||◌, List, [], ◌∷◌, length, refl, sym, ap, ◌∙◌, arith}
use Rattle.std.specs.List.{list_any}
use Rattle.gift_read.specs.declared.faults_of_values.Flaw.{Flaw}
use Rattle.gift_read.specs.declared.faults_of_values.Flaw.TheVariants as flaw
use Rattle.gift_read.specs.Flaws.{has_flaw}
use Rattle.gift_read.specs.Places.{Marks, character, before, from, are_blank}
use Rattle.gift_read.specs.Parts.{Part, onto_part, cut, unless_blank, pieces}
use Rattle.gift_read.proofs.PartLemmas.{later, cut-first}

pub length-cut : (begins : Marks → Bool) (one other : ℕ) (marks : Marks) → length (cut begins one marks) ≡ length (cut begins other marks)
length-cut begins one other marks = rw (cut-first begins marks one, cut-first begins marks other) refl

-- so no flaw of a piece hangs on it
has_flaw-sign : (f : Flaw) (one other : ℕ) (piece : Marks) → has_flaw f (one, piece) ≡ has_flaw f (other, piece)
has_flaw-sign flaw.Weight one other piece = refl
has_flaw-sign flaw.BlankNumber one other piece = refl
has_flaw-sign flaw.NoNumber one other piece = refl

pub list_any-cut : (f : Flaw) (begins : Marks → Bool) (one other : ℕ) (marks : Marks) → list_any (has_flaw f) (cut begins one marks) ≡ list_any (has_flaw f) (cut begins other marks)
list_any-cut f begins one other marks =
    let first = before begins marks in
    let behind = list_any (has_flaw f) (later begins (from begins marks)) in
    ap (list_any (has_flaw f)) (cut-first begins marks one)
    ∙ ap (λ (b : Bool). b || behind) (has_flaw-sign f one other first)
    ∙ sym (ap (list_any (has_flaw f)) (cut-first begins marks other))

-- pieces are no more than marks and one
length-cut-le : (begins : Marks → Bool) (sign : ℕ) (marks : Marks) → length (cut begins sign marks) ≤ length marks + 1
length-cut-le begins sign [] = omega arith
length-cut-le begins sign (m ∷ marks) = go (begins (m ∷ marks)) (length-cut-le begins sign marks) (length-cut-le begins (character m) marks)
  where
    onto : (parts : List Part) → length (onto_part (m ∷ []) parts) ≡ length parts
    onto [] = refl
    onto (p ∷ parts) = refl

    go : (b : Bool) → length (cut begins sign marks) ≤ length marks + 1 → length (cut begins (character m) marks) ≤ length marks + 1
        → length (cond b ((sign, []) ∷ cut begins (character m) marks) (onto_part (m ∷ []) (cut begins sign marks))) ≤ length (m ∷ marks) + 1
    go true same next = omega arith
    go false same next = omega (arith, onto (cut begins sign marks))

pub length-pieces-le : (begins : Marks → Bool) (sign : ℕ) (marks : Marks) → length (pieces begins sign marks) ≤ length marks + 1
length-pieces-le begins sign marks = omega (arith, drops (cut begins sign marks), length-cut-le begins sign marks)
  where
    drops : (parts : List Part) → length (unless_blank parts) ≤ length parts
    drops [] = omega arith
    drops (p ∷ parts) = go (are_blank p.1)
      where
        go : (b : Bool) → length (cond b parts (p ∷ parts)) ≤ length (p ∷ parts)
        go true = omega arith
        go false = omega arith
