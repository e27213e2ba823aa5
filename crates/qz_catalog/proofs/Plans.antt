-- The slots of a plan, one more at a time, and the sum of their max marks.
use Rattle.std.proofs.Common.{◌≡◌, ℕ, ◌+◌, ◌*◌, ◌<◌, ◌≤◌, Bool, true, false, List, ◌++◌, Option, length, take, get_or, map, refl, sym, ap, ◌∙◌, arith}
use Rattle.std.specs.Prelude.{ℤ, pos, negsuc, int_le, ◌&&◌, option_to_list, unsigned_abs}
use Rattle.std.proofs.lemmas.Int.{ints}
use Rattle.qz_decimal.specs.Numbers.{one}
use Rattle.qz_grading.specs.declared.question.Question.{Question}
use Rattle.qz_terms.specs.declared.plan.Planned.{Planned}
use Rattle.qz_terms.specs.declared.record.Record.{Record}
use Rattle.qz_terms.specs.Catalog.{questions, version}
use Rattle.qz_terms.specs.Rows.{sum_of}
use Rattle.qz_terms.proofs.Walks.{all_kept}

-- ---- the sum of max marks

pub record IsAdded (ss : List Planned) (count sum : ℕ) : Type 0 where
  pub is : pos sum ≡ sum_of (map (λ (s : Planned). s.max) ss)
  pub range : sum ≤ count * (10000 * one)

pub within : (m : ℤ) → int_le (pos 0) m && int_le m (pos (10000 * one)) ≡ true → (m ≡ pos (unsigned_abs m)) × (unsigned_abs m ≤ 10000 * one)
within (pos n) is = (refl, small n (int_le (pos n) (pos (10000 * one))) refl is)
  where
    small : (n : ℕ) (b : Bool) → int_le (pos n) (pos (10000 * one)) ≡ b → int_le (pos 0) (pos n) && b ≡ true → n ≤ 10000 * one
    small n true e is = omega (arith, ints, e)
    small n false e is = absurd (none (int_le (pos 0) (pos n)) is)
      where
        none : (b : Bool) → b && false ≡ true → ⊥
        none true e = absurd cc
        none false e = absurd cc
within (negsuc n) is = absurd cc

-- ---- questions

pub questions-more : (c : List Record) (ss : List Planned) (i : ℕ) (x : Planned) (found more : List Question) (o : Option Question) → i < length ss → x ≡ get_or ss i x → o ≡ version c x.entry x.version → found ≡ questions c (take i ss) → more ≡ found ++ option_to_list o → more ≡ questions c (take (i + 1) ss)
questions-more c ss i x found more o inside is told so_far more_is =
    more_is ∙ ap (λ (qs : List Question). qs ++ option_to_list o) so_far ∙ ap (λ (p : Option Question). questions c (take i ss) ++ option_to_list p) told ∙ sym (all_kept (λ (s : Planned). version c s.entry s.version) ss i x inside is)
