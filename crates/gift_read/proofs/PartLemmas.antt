-- Pieces, one by one.
use Rattle.std.proofs.Common.{◌≡◌, ℕ, ◌-◌, ◌<◌, ◌≤◌, Bool, true, false, cond, List, [], ◌∷◌, length, take, drop, get_or, refl, arith, length-drop}
use Rattle.std.proofs.lemmas.List.{take_rest}
use Rattle.gift_lex.specs.declared.block.Piece.{Piece}
use Rattle.gift_read.specs.Places.{Marks, character, before, from}
use Rattle.gift_read.specs.Parts.{Part, cut, onto_part}
use Rattle.gift_read.proofs.PlaceLemmas.{from-length}

-- the pieces behind the first, by what stands from the place where they begin
abbrev pub later : (Marks → Bool) → Marks → List Part
later here [] = []
later here (m ∷ marks) = cut here (character m) marks

pub cut-first : (here : Marks → Bool) (marks : Marks) (sign : ℕ) → cut here sign marks ≡ (sign, before here marks) ∷ later here (from here marks)
cut-first here [] sign = refl
cut-first here (m ∷ marks) sign = go (here (m ∷ marks)) (cut-first here marks sign)
  where
    go : (b : Bool) → cut here sign marks ≡ (sign, before here marks) ∷ later here (from here marks)
        → cond b ((sign, []) ∷ cut here (character m) marks) (onto_part (m ∷ []) (cut here sign marks))
        ≡ (sign, cond b [] (m ∷ before here marks)) ∷ later here (cond b (m ∷ marks) (from here marks))
    go true e = refl
    go false e = rw e refl

pub later-none : (here : Marks → Bool) (rest : Marks) → length rest < 1 → later here rest ≡ []
later-none here [] few = refl
later-none here (m ∷ rest) few = absurd (omega arith)

pub later-some : (here : Marks → Bool) (rest : Marks) (d : Piece) → 1 ≤ length rest → later here rest ≡ cut here (character (get_or rest 0 d)) (take (length rest - 1) (drop 1 rest))
later-some here [] d some = absurd (omega arith)
later-some here (m ∷ rest) d some = rw (take_rest (m ∷ rest) 1) refl

pub behind_from-shorter : (here : Marks → Bool) (marks : Marks) → 1 ≤ length (from here marks) → length (take (length (from here marks) - 1) (drop 1 (from here marks))) < length marks
behind_from-shorter here marks some = rw (take_rest (from here marks) 1, length-drop 1 (from here marks)) (omega (arith, from-length here marks))
