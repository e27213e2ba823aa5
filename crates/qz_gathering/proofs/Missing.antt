-- A place without a mark is one for which no note speaks.
use Rattle.std.proofs.Common.{◌≡◌, ℕ, ◌+◌, ◌-◌, ◌<◌, ◌≤◌, Bool, true, false, List, [], length, subst, cond, get_or, Option, Some, None, refl, sym, ap, ◌∙◌, inl, inr, arith}
use Rattle.std.specs.List.{list_any, position, position_or_len}
use Rattle.std.specs.Prelude.{◌||◌, nat_le, nat_lt, not, unwrap_or}
use Rattle.std.proofs.lemmas.Bool.{cases_eq, cases_lt, le-leb, lt-leb, ltb-false, not-false}
use Rattle.std.proofs.lemmas.Option.{slice_get_past}
use Rattle.std.proofs.lemmas.List.Quantifiers.{position-Some}
use Rattle.std.proofs.lemmas.List.Sums.{fails_before_first}
use Rattle.qz_gather.specs.declared.note.Note.{Note}
use Rattle.qz_terms.specs.Serial.{Lists, held_in}
use Rattle.qz_visit.specs.declared.last.Last.{Last}
use Rattle.qz_gathering.specs.declared.marks.Marks.{Marks}
use Rattle.qz_gathering.specs.Gathering.{AllCovered, ComesBefore, IsFirstGap, IsPlace, count_before, is_covered, speaks_for}
use Rattle.qz_gathering.specs.Marking.{AreMarked, IsFirstMissing, NoneMissing, marks_of}

-- ---- in one list

true-not-false : (b : Bool) → not b ≡ true → b ≡ false
true-not-false true is = absurd cc
true-not-false false is = refl

pub none_in : (marks : List Bool) → position not marks ≡ None → (j : ℕ) → j < length marks → get_or marks j false ≡ true
none_in marks is j inside = not-false (get_or marks j false) (fails_before_first not marks j false (by (nat_lt (position_or_len not marks) (length marks)) refl is))
  where
    by : (v : Bool) → nat_lt (position_or_len not marks) (length marks) ≡ v → cond v (Some (position_or_len not marks)) None ≡ None → j < position_or_len not marks
    by true so none = absurd cc
    by false so none = let far = ltb-false (position_or_len not marks) (length marks) so in omega arith

-- the first without a mark
pub record IsFirstIn (marks : List Bool) (index : ℕ) : Type 0 where
  pub there : index < length marks
  pub missing : get_or marks index false ≡ false
  pub before : (j : ℕ) → j < index → get_or marks j false ≡ true

pub first_in : (marks : List Bool) (index : ℕ) → position not marks ≡ Some index → IsFirstIn marks index
first_in marks index is =
    let found = position-Some not marks index false is in
    record { there = found.0; missing = true-not-false (get_or marks index false) found.1; before = λ j less. not-false (get_or marks j false) (found.2 j less) }

-- ---- in all lists

or-right : (x : Bool) → (x || true) ≡ true
or-right true = refl
or-right false = refl

module _ (a : Lists) (base : Last) (notes : List Note) (m : Marks) (are : AreMarked a base notes m) where
  -- a place whose mark is set, if it has one, is covered
  covered-at : (list : Option ℕ) (place : ℕ) → IsPlace a list place → ((j : ℕ) → j < length (marks_of m list) → count_before base list + j + 1 ≡ place → get_or (marks_of m list) j false ≡ true) → is_covered a base notes list place ≡ true
  covered-at list place is set =
      let b = count_before base list in
      let marked = are.each list in
      let long = marked.has.count in
      elim (cases_lt b place) [
        | inl above ↦
            let j = place - b - 1 in
            let inside : j < length (marks_of m list) = omega (arith, is.from, is.to, long) in
            let same : b + j + 1 ≡ place = omega (arith, is.from) in
            let spoken : list_any (speaks_for a list place) notes ≡ true = ap (λ (p : ℕ). list_any (speaks_for a list p) notes) (sym same) ∙ sym (marked.each j inside) ∙ set j inside same in
            ap (λ (v : Bool). nat_le place b || v) spoken ∙ or-right (nat_le place b)
        | inr within ↦ ap (λ (v : Bool). v || list_any (speaks_for a list place) notes) (le-leb place b within)
      ]

  pub all_covered : NoneMissing m → AllCovered a base notes
  all_covered none = record { each = λ list place is. covered-at list place is (λ j inside same. none.each list j inside) }

  pub first_gap : (list : Option ℕ) (index : ℕ) → IsFirstMissing m list index → IsFirstGap a base notes list (count_before base list + index + 1)
  first_gap list index is =
      let b = count_before base list in
      let marked = are.each list in
      let long = marked.has.count in
      let inside = is.there in
      let unspoken : list_any (speaks_for a list (b + index + 1)) notes ≡ false = sym (marked.each index inside) ∙ is.missing in
      record {
        there = record { from = omega arith; to = omega (arith, long, inside) };
        gap = ap (λ (v : Bool). v || list_any (speaks_for a list (b + index + 1)) notes) (lt-leb (b + index + 1) b (omega arith)) ∙ unspoken;
        before = λ other there less. covered-at list other there (λ j within same. is.before j (omega arith));
        lists_before = λ other place first there. covered-at other place there (λ j within same. is.lists_before other j first within);
      }

  -- its number has 64 bits
  pub gap_fits : (list : Option ℕ) (index : ℕ) → IsFirstMissing m list index → count_before base list + index + 1 ≤ length (held_in a list).list
  gap_fits list index is = (first_gap list index is).there.to

-- ---- how they are looked for

-- each place of a list has its mark
abbrev pub AllSet : List Bool → Type 0
AllSet marks = (j : ℕ) → j < length marks → get_or marks j false ≡ true

-- so it is of the catalogue's list, and of the shards before this one
pub record SetBefore (m : Marks) (shard : ℕ) : Type 0 where
  pub catalog : AllSet m.catalog
  pub parts : (k : ℕ) → k < shard → AllSet (marks_of m (Some k))

pub catalog_missing : (m : Marks) (index : ℕ) → IsFirstIn m.catalog index → IsFirstMissing m None index
catalog_missing m index is = record { there = is.there; missing = is.missing; before = is.before; lists_before = earlier }
  where
    earlier : (other : Option ℕ) (j : ℕ) → ComesBefore other None → j < length (marks_of m other) → get_or (marks_of m other) j false ≡ true
    earlier None j first inside = absurd first
    earlier (Some k) j first inside = absurd first

pub part_missing : (m : Marks) (shard index : ℕ) (marks : List Bool) → SetBefore m shard → marks_of m (Some shard) ≡ marks → IsFirstIn marks index → IsFirstMissing m (Some shard) index
part_missing m shard index marks set same first = subst (λ (l : List Bool). IsFirstIn l index → IsFirstMissing m (Some shard) index) same (λ (is : IsFirstIn (marks_of m (Some shard)) index). record {
  there = is.there;
  missing = is.missing;
  before = is.before;
  lists_before = earlier;
}) first
  where
    earlier : (other : Option ℕ) (j : ℕ) → ComesBefore other (Some shard) → j < length (marks_of m other) → get_or (marks_of m other) j false ≡ true
    earlier None j first inside = set.catalog j inside
    earlier (Some k) j first inside = set.parts k first j inside

pub none_missing : (m : Marks) → SetBefore m (length m.parts.items) → NoneMissing m
none_missing m set = record { each = all }
  where
    all : (list : Option ℕ) (j : ℕ) → j < length (marks_of m list) → get_or (marks_of m list) j false ≡ true
    all None j inside = set.catalog j inside
    all (Some k) j inside = elim (cases_lt k (length m.parts.items)) [
      | inl within ↦ set.parts k within j inside
      | inr past ↦ let none = ap (λ (o : Option (List Bool)). length (unwrap_or o [])) (slice_get_past m.parts.items k past) in absurd (omega (arith, none, inside))
    ]

-- one shard more
pub set_more : (m : Marks) (shard : ℕ) (marks : List Bool) → SetBefore m shard → marks_of m (Some shard) ≡ marks → AllSet marks → SetBefore m (shard + 1)
set_more m shard marks set same all = record {
  catalog = set.catalog;
  parts = λ k within. elim (cases_eq k shard) [
    | inl here ↦ subst (λ (i : ℕ). AllSet (marks_of m (Some i))) (sym here) (subst AllSet (sym same) all)
    | inr apart ↦ set.parts k (omega arith)
  ];
}
