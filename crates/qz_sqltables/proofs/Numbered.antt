-- Rows whose rowids count from 1: one more behind them, and what is read of them.
use Rattle.std.proofs.Common.{◌≡◌, ℕ, ℤ, suc, ◌+◌, ◌<◌, pos, ◌+ℤ◌, ◌<ℤ◌, List, [], ◌∷◌, ◌++◌, length, map, fold, refl, ap, ◌∙◌, arith, Less, add-zero}
use Rattle.std.specs.List.{AllByRecursion, enumerate_from}
use Rattle.std.proofs.lemmas.Int.{ints}
use Rattle.sqlite_keyed.specs.Keyed.{IsKeyedBy}
use Rattle.sqlite_keyed.proofs.KeyedLemmas.{Less-from_lt}
use Rattle.sqlite_rules.specs.Edit.{id_in, numbered, put_all}
use Rattle.sqlite_rules.specs.declared.error.Rowids.TheVariants.{Chosen}
use Rattle.sqlite_trees.specs.Tree.{put_row, rowid}
use Rattle.sqlite_value.proofs.OrderLemmas.{value_cmp-Int}
use Rattle.sqlite_value.specs.declared.value.Value.TheVariants.{Null, Int}
use Rattle.sqlite_value.specs.Order.{Row, value_cmp}
use Rattle.qz_sqltables.specs.Schema.{numbered_row, numbered_rows}

abbrev pub number_of : {X : Type 0} → ℕ × X → ℤ
number_of p = pos p.0

all_past : {X : Type 0} (j k : ℕ) (xs : List X) → j < k → AllByRecursion (λ (p : ℕ × X). pos j <ℤ number_of p) (enumerate_from k xs)
all_past j k [] below = tt
all_past j k (x ∷ xs) below = (omega (arith, ints), all_past j (k + 1) xs (omega arith))

pub numbers_rise : {X : Type 0} (k : ℕ) (xs : List X) → IsKeyedBy number_of (enumerate_from k xs)
numbers_rise k [] = tt
numbers_rise k (x ∷ xs) = (all_past k (k + 1) xs (omega arith), numbers_rise (k + 1) xs)

pub map-enumerate_from : {X Y : Type 0} (f : X → Y) (k : ℕ) (xs : List X) → map (λ (p : ℕ × X). f p.1) (enumerate_from k xs) ≡ map f xs
map-enumerate_from f k [] = refl
map-enumerate_from f k (x ∷ xs) = ap (λ l. f x ∷ l) (map-enumerate_from f (k + 1) xs)

module _ {X : Type 0} (cells : X → Row) where
  pub next_after : (k : ℕ) (xs : List X) → fold (λ _ r. id_in (rowid r) +ℤ pos 1) (pos k) (map (numbered_row cells) (enumerate_from k xs)) ≡ pos (k + length xs)
  next_after k [] = let e : k ≡ k + 0 = omega arith in ap pos e
  next_after k (x ∷ xs) = let e : k + 1 + length xs ≡ k + suc (length xs) = omega arith in next_after (k + 1) xs ∙ ap pos e

  put_behind : (k : ℕ) (xs : List X) (x : X) → put_row (numbered_row cells (k + length xs, x)) (map (numbered_row cells) (enumerate_from k xs)) ≡ map (numbered_row cells) (enumerate_from k (xs ++ x ∷ []))
  put_behind k [] x = rw add-zero
  put_behind k (y ∷ ys) x =
      let low : pos k <ℤ pos (k + suc (length ys)) = omega (arith, ints) in
      let less : value_cmp (Int (pos k)) (Int (pos (k + suc (length ys)))) ≡ Less = value_cmp-Int (pos k) (pos (k + suc (length ys))) ∙ Less-from_lt (pos k) (pos (k + suc (length ys))) low in
      let e : k + suc (length ys) ≡ k + 1 + length ys = omega arith in
      rw less (ap (λ l. numbered_row cells (k, y) ∷ l) (ap (λ n. put_row (numbered_row cells (n, x)) (map (numbered_row cells) (enumerate_from (k + 1) ys))) e ∙ put_behind (k + 1) ys x))

  -- a row whose rowid is chosen comes behind the others, with the next number
  pub puts_next : (xs : List X) (x : X) → put_all (numbered_rows cells xs) (numbered Chosen (numbered_rows cells xs) ((Null ∷ cells x) ∷ [])) ≡ numbered_rows cells (xs ++ x ∷ [])
  puts_next xs x = ap (λ id. put_row (Int id ∷ cells x) (numbered_rows cells xs)) (next_after 1 xs) ∙ put_behind 1 xs x
