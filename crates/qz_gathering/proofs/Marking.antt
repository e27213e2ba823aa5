-- The marks of a school's lists after one note more.
use Rattle.std.proofs.Common.{◌≡◌, ℕ, ◌+◌, ◌-◌, ◌<◌, ◌≤◌, Bool, true, false, List, [], ◌∷◌, ◌++◌, length, get_or, Option, Some, None, refl, sym, ap, subst, ◌∙◌, inl, inr, arith}
use Rattle.std.specs.List.{list_any}
use Rattle.std.specs.Prelude.{◌&&◌, ◌||◌, ◌==◌, if◌then◌else◌, nat_le, slice_get, slice_set, unwrap_or}
use Rattle.std.proofs.lemmas.Bool.{and_cases, and_from, and_left, and_parts, and_right, cases_eq, eq-eqb, eqb-true, leb-false, leb-true, ne_eqb}
use Rattle.std.proofs.lemmas.Grind.{get_or-set_at}
use Rattle.std.proofs.lemmas.List.{get_or-set_other, length-set}
use Rattle.std.proofs.lemmas.List.Folds.{list_any-append}
use Rattle.std.proofs.lemmas.Option.{slice_get-get_or, slice_get_past}
use Rattle.qz_gather.specs.declared.note.Note.{Note}
use Rattle.qz_grading.proofs.StepLemmas.{or-false}
use Rattle.qz_lemmas.proofs.Lists.{set-apart, set-here}
use Rattle.qz_terms.specs.Serial.{Lists}
use Rattle.qz_visit.specs.declared.last.Last.{Last}
use Rattle.qz_gathering.specs.declared.marks.Marks.{Marks}
use Rattle.qz_gathering.specs.Gathering.{count_before, counted, is_list, is_owned, speaks_for}
use Rattle.qz_gathering.specs.Marking.{AreMarked, IsMarked, MarksNote, marked, marks_of, speaks_next}

-- ---- marks, one of which is set

or-true : (b : Bool) → (b || true) ≡ true
or-true true = refl
or-true false = refl

length-raised : (v : Bool) (marks : List Bool) (k : ℕ) → length (let l : List Bool = if v then slice_set marks k true else marks in l) ≡ length marks
length-raised true marks k = length-set marks k true
length-raised false marks k = refl

-- Marks that tell for which places an old test holds: with the place behind c records set, where it is told of, they tell for which a new one does.
module _ (marks : List Bool) (b c : ℕ) (s : Bool) (old new : ℕ → Bool) (each : (j : ℕ) → j < length marks → get_or marks j false ≡ old (b + j + 1)) (is : (p : ℕ) → new p ≡ (old p || (((c + 1) == p) && s))) where
  here : (p : ℕ) → p ≡ c + 1 → s ≡ true → new p ≡ true
  here p same so = is p ∙ ap (λ (x : Bool). old p || x) (and_from ((c + 1) == p) s (eq-eqb (c + 1) p (sym same)) so) ∙ or-true (old p)

  stays : (p : ℕ) → (((c + 1) == p) && s) ≡ false → new p ≡ old p
  stays p none = is p ∙ ap (λ (x : Bool). old p || x) none ∙ or-false (old p)

  apart-from : (p : ℕ) → (c + 1 ≡ p → ⊥) → new p ≡ old p
  apart-from p apart = stays p (and_left ((c + 1) == p) s (ne_eqb (c + 1) p apart))

  raise-by : (v : Bool) → (nat_le b c && s) ≡ v → (j : ℕ) → j < length marks → get_or (let l : List Bool = if v then slice_set marks (c - b) true else marks in l) j false ≡ new (b + j + 1)
  raise-by true so j inside =
      let parts = and_parts (nat_le b c) s so in
      let above = leb-true b c parts.0 in
      elim (cases_eq j (c - b)) [
        | inl same ↦ get_or-set_at marks (c - b) j true false same (omega arith) ∙ sym (here (b + j + 1) (omega arith) parts.1)
        | inr apart ↦ get_or-set_other marks (c - b) j true false apart ∙ each j inside ∙ sym (apart-from (b + j + 1) (λ e. apart (omega arith)))
      ]
  raise-by false so j inside =
      each j inside ∙ sym (elim (and_cases (nat_le b c) s so) [
        | inl below ↦ let less = leb-false b c below in apart-from (b + j + 1) (λ e. absurd (omega arith))
        | inr none ↦ stays (b + j + 1) (and_right ((c + 1) == (b + j + 1)) s none)
      ])

  pub raised : (j : ℕ) → j < length marks → get_or (let l : List Bool = if nat_le b c && s then slice_set marks (c - b) true else marks in l) j false ≡ new (b + j + 1)
  raised j inside = raise-by (nat_le b c && s) refl j inside

-- ---- one note more

any-more : {A : Type 0} (p : A → Bool) (xs : List A) (x : A) → list_any p (xs ++ x ∷ []) ≡ (list_any p xs || p x)
any-more p xs x = list_any-append p xs (x ∷ []) ∙ ap (λ (b : Bool). list_any p xs || b) (or-false (p x))

list-same : (x y : Option ℕ) → is_list x y ≡ true → x ≡ y
list-same None None is = refl
list-same None (Some k) is = absurd cc
list-same (Some k) None is = absurd cc
list-same (Some k) (Some j) is = ap (λ (n : ℕ). Some n) (sym (eqb-true j k is))

list-self : (x : Option ℕ) → is_list x x ≡ true
list-self None = refl
list-self (Some k) = eq-eqb k k refl

-- at its own place a note speaks as it does for the next one
at-next : (c p : ℕ) (put doubt : Bool) (owned : ℕ → Bool) → (((c + 1) == p) && (put || (doubt && owned p))) ≡ (((c + 1) == p) && (put || (doubt && owned (c + 1))))
at-next c p put doubt owned = by ((c + 1) == p) refl
  where
    by : (v : Bool) → ((c + 1) == p) ≡ v → (v && (put || (doubt && owned p))) ≡ (v && (put || (doubt && owned (c + 1))))
    by true same = ap (λ (q : ℕ). put || (doubt && owned q)) (sym (eqb-true (c + 1) p same))
    by false apart = refl

module _ (a : Lists) (base : Last) (notes : List Note) (n : Note) where
  speaks-own : (p : ℕ) → speaks_for a n.list p n ≡ (((counted n + 1) == p) && speaks_next a n)
  speaks-own p = ap (λ (v : Bool). v && (((counted n + 1) == p) && (n.put || (n.doubt && is_owned a n p)))) (list-self n.list) ∙ at-next (counted n) p n.put n.doubt (is_owned a n)

  own-marked : (marks : List Bool) → IsMarked a base notes n.list marks → IsMarked a base (notes ++ n ∷ []) n.list (marked a base n marks)
  own-marked marks is =
      let b = count_before base n.list in
      let c = counted n in
      let s = speaks_next a n in
      let same : length (marked a base n marks) ≡ length marks = length-raised (nat_le b c && s) marks (c - b) in
      record {
        has = record { fits = is.has.fits; count = same ∙ is.has.count };
        each = λ j inside. raised marks b c s (λ p. list_any (speaks_for a n.list p) notes) (λ p. list_any (speaks_for a n.list p) (notes ++ n ∷ [])) is.each
            (λ p. any-more (speaks_for a n.list p) notes n ∙ ap (λ (v : Bool). list_any (speaks_for a n.list p) notes || v) (speaks-own p)) j (subst (λ (m : ℕ). j < m) same inside);
      }

  other-marked : (list : Option ℕ) (marks : List Bool) → is_list list n.list ≡ false → IsMarked a base notes list marks → IsMarked a base (notes ++ n ∷ []) list marks
  other-marked list marks apart is = record {
    has = is.has;
    each = λ j inside.
        let p = count_before base list + j + 1 in
        is.each j inside ∙ sym (any-more (speaks_for a list p) notes n ∙ ap (λ (v : Bool). list_any (speaks_for a list p) notes || (v && (((counted n + 1) == p) && (n.put || (n.doubt && is_owned a n p))))) apart
        ∙ or-false (list_any (speaks_for a list p) notes));
  }

  noted-by : (v : Bool) (list : Option ℕ) (marks : List Bool) → is_list list n.list ≡ v → IsMarked a base notes list marks → IsMarked a base (notes ++ n ∷ []) list (if v then marked a base n marks else marks)
  noted-by true list marks so is =
      let same = list-same list n.list so in
      subst (λ (l : Option ℕ). IsMarked a base (notes ++ n ∷ []) l (marked a base n marks)) (sym same) (own-marked marks (subst (λ (l : Option ℕ). IsMarked a base notes l marks) same is))
  noted-by false list marks so is = other-marked list marks so is

  pub marks_more : (old new : Marks) → AreMarked a base notes old → MarksNote a base n old new → AreMarked a base (notes ++ n ∷ []) new
  marks_more old new are so = record {
    each = λ list. subst (IsMarked a base (notes ++ n ∷ []) list) (sym (so.each list)) (noted-by (is_list list n.list) list (marks_of old list) refl (are.each list));
  }

-- ---- where they are kept

if-list : (x y : List Bool) (list o p : Option ℕ) (v : Bool) → o ≡ p → is_list list p ≡ v → (let l : List Bool = if v then x else y in l) ≡ (let l : List Bool = if is_list list o then x else y in l)
if-list x y list o p v same is = ap (λ (b : Bool). let l : List Bool = if b then x else y in l) (sym is ∙ ap (is_list list) (sym same))

none-raised : (v : Bool) (k : ℕ) → [] ≡ (let l : List Bool = if v then slice_set [] k true else [] in l)
none-raised true k = refl
none-raised false k = refl

module _ (a : Lists) (base : Last) (n : Note) (m : Marks) (k : ℕ) (own : n.list ≡ Some k) where
  -- the marks of a shard that is there
  pub noted_part : (new : Marks) (x : List Bool) → new.catalog ≡ m.catalog → new.parts.items ≡ slice_set m.parts.items k x → k < length m.parts.items → x ≡ marked a base n (marks_of m (Some k)) → MarksNote a base n m new
  noted_part new x same changed within is = record { count = ap length changed ∙ length-set m.parts.items k x; each = all }
    where
      all : (list : Option ℕ) → marks_of new list ≡ (let l : List Bool = if is_list list n.list then marked a base n (marks_of m list) else marks_of m list in l)
      all None = same ∙ if-list (marked a base n m.catalog) m.catalog None n.list (Some k) false own refl
      all (Some j) = elim (cases_eq j k) [
        | inl here ↦
            ap (λ (ls : List (List Bool)). unwrap_or (slice_get ls j) []) changed ∙ ap (λ (i : ℕ). unwrap_or (slice_get (slice_set m.parts.items k x) i) []) here
            ∙ ap (λ (o : Option (List Bool)). unwrap_or o []) (set-here m.parts.items k (get_or m.parts.items k []) x (slice_get-get_or m.parts.items k [] within)) ∙ is
            ∙ ap (λ (i : ℕ). marked a base n (marks_of m (Some i))) (sym here)
            ∙ if-list (marked a base n (marks_of m (Some j))) (marks_of m (Some j)) (Some j) n.list (Some k) true own (eq-eqb k j (sym here))
        | inr apart ↦
            ap (λ (ls : List (List Bool)). unwrap_or (slice_get ls j) []) changed ∙ ap (λ (o : Option (List Bool)). unwrap_or o []) (set-apart m.parts.items k j x apart)
            ∙ if-list (marked a base n (marks_of m (Some j))) (marks_of m (Some j)) (Some j) n.list (Some k) false own (ne_eqb k j (λ e. apart (sym e)))
      ]

  -- there is no such shard
  pub noted_past : length m.parts.items ≤ k → MarksNote a base n m m
  noted_past past = record { count = refl; each = all }
    where
      all : (list : Option ℕ) → marks_of m list ≡ (let l : List Bool = if is_list list n.list then marked a base n (marks_of m list) else marks_of m list in l)
      all None = if-list (marked a base n m.catalog) m.catalog None n.list (Some k) false own refl
      all (Some j) = elim (cases_eq j k) [
        | inl here ↦
            let none : marks_of m (Some j) ≡ [] = ap (λ (o : Option (List Bool)). unwrap_or o []) (slice_get_past m.parts.items j (omega arith)) in
            none ∙ none-raised (nat_le (count_before base n.list) (counted n) && speaks_next a n) (counted n - count_before base n.list) ∙ ap (marked a base n) (sym none)
            ∙ if-list (marked a base n (marks_of m (Some j))) (marks_of m (Some j)) (Some j) n.list (Some k) true own (eq-eqb k j (sym here))
        | inr apart ↦ if-list (marked a base n (marks_of m (Some j))) (marks_of m (Some j)) (Some j) n.list (Some k) false own (ne_eqb k j (λ e. apart (sym e)))
      ]
