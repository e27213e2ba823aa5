-- That no attempt has two rows, by the key of its table.
use Rattle.std.proofs.Common.{◌≡◌, ℕ, List, Bool, true, false, not, ◌&&◌, refl, sym, ap, subst, ◌∙◌, int_eq, map-id}
use Rattle.std.proofs.lemmas.Bool.{not-true}
use Rattle.std.specs.List.{AllByRecursion, enumerate_from, list_any}
use Rattle.sqlite_keyed.specs.Rules.{AreApart, is_apart}
use Rattle.sqlite_keyed.proofs.ListLemmas.{all_unmap, all_weaker, any_from_none, ascending-map, ascending_from_map, none_from_any}
use Rattle.sqlite_keyed.proofs.RuleLemmas.{apart_from_each, first_of_both}
use Rattle.sqlite_schema.specs.declared.schema.Constraint.TheVariants.{Unique}
use Rattle.sqlite_schema.specs.Rules.{agree, differ, passes}
use Rattle.sqlite_sql.specs.declared.ops.CompareOp.TheVariants.{Ne}
use Rattle.sqlite_trees.specs.Tree.{Trees, rowid}
use Rattle.sqlite_typed.proofs.TestLemmas.{at_ints, last_term, then_term}
use Rattle.sqlite_value.specs.Keys.{first_key}
use Rattle.sqlite_value.specs.Order.{Row}
use Rattle.qz_sqltables.specs.Rows.{AttemptRow, same_attempt}
use Rattle.qz_sqltables.specs.Schema.{attempt_cells, attempts_at, first_two, keeper_schema, numbered_row, numbered_rows, rising}
use Rattle.qz_sqltables.proofs.Numbered.{map-enumerate_from, number_of, numbers_rise}
use Rattle.qz_sqltables.proofs.Values.{equals}

-- a row of an attempt with its number
abbrev pub Counted : Type 0
Counted = ℕ × AttemptRow

abbrev pub clash : Counted → Counted → Bool
clash a b = same_attempt a.1 b.1

abbrev stored : Counted → Row
stored = numbered_row attempt_cells

swapped : (a b : Bool) → (a && b) ≡ false → (b && a) ≡ false
swapped true true h = h
swapped true false h = refl
swapped false true h = refl
swapped false false h = refl

tests_are : (p q : Counted) → (agree rising first_two (stored q) first_two (stored p) && differ (rowid (stored q)) (rowid (stored p))) ≡ (clash q p && not (int_eq (number_of q) (number_of p)))
unfolding first_key
tests_are p q = then_term (then_term (equals q.1.owner p.1.owner) (last_term (equals q.1.nth p.1.nth))) (at_ints false Ne (number_of q) (number_of p))

module _ (all : List AttemptRow) (db : Trees) (has : db 1 ≡ numbered_rows attempt_cells all) where
  abbrev counted : List Counted
  counted = enumerate_from 1 all

  stands_apart : (p : Counted) → passes Unique keeper_schema db attempts_at (stored p) ≡ true → is_apart number_of clash counted p ≡ true
  stands_apart p h =
      let test = λ (other : Row). agree rising first_two other first_two (stored p) && differ (rowid other) (rowid (stored p)) in
      let none : list_any test (db 1) ≡ false = not-true _ (first_of_both _ _ h) in
      let each = all_unmap (λ other. test other ≡ false) stored counted (subst (AllByRecursion (λ other. test other ≡ false)) has (none_from_any test (db 1) none)) in
      ap not (any_from_none (λ q. not (int_eq (number_of q) (number_of p)) && clash q p) counted
      (all_weaker _ (λ q. (not (int_eq (number_of q) (number_of p)) && clash q p) ≡ false) (λ q no. swapped (clash q p) (not (int_eq (number_of q) (number_of p))) (sym (tests_are p q) ∙ no)) counted each))

  pub apart_by_key : AllByRecursion (λ row. passes Unique keeper_schema db attempts_at row ≡ true) (db 1) → AreApart same_attempt all
  apart_by_key unique =
      let P = λ (row : Row). passes Unique keeper_schema db attempts_at row ≡ true in
      let rows = all_unmap P stored counted (subst (AllByRecursion P) has unique) in
      let each = all_weaker _ (λ p. is_apart number_of clash counted p ≡ true) stands_apart counted rows in
      let apart = apart_from_each clash number_of (is_apart number_of clash counted) counted (λ p h. h) (numbers_rise 1 all) each in
      subst (AreApart same_attempt) (map-enumerate_from (λ a. a) 1 all ∙ map-id all) (ascending-map (λ a b. same_attempt a b ≡ false) (λ (n : Counted). n.1) counted apart)

-- numbered, they are apart too
pub apart_counted : (all : List AttemptRow) → AreApart same_attempt all → AreApart clash (enumerate_from 1 all)
apart_counted all apart =
    ascending_from_map (λ a b. same_attempt a b ≡ false) (λ (n : Counted). n.1) (enumerate_from 1 all) (subst (AreApart same_attempt) (sym (map-enumerate_from (λ a. a) 1 all ∙ map-id all)) apart)
