-- Sums of marks, with one slot more.
use Rattle.std.proofs.Common.{◌≡◌, ℕ, ◌+◌, ◌*◌, ◌-◌, ◌^◌, ◌<◌, ◌≤◌, ℤ, pos, ◌+ℤ◌, ◌≤ℤ◌, List, [], ◌∷◌, ◌++◌, Option, Some, None, option_map, length, map, refl, sym, ap, subst, ◌∙◌, append-nil, arith}
use Rattle.std.specs.Prelude.{IfSome, filter_map, option_to_list, unsigned_abs}
use Rattle.std.proofs.lemmas.Int.{ints}
use Rattle.std.proofs.lemmas.List.{length_push, map-append}
use Rattle.std.proofs.lemmas.List.Sums.{fold-append}
use Rattle.qz_book.specs.declared.book.Played.{Played}
use Rattle.qz_decimal.specs.Numbers.{IsMaxMark, one}
use Rattle.qz_terms.specs.History.{Slot, mark_in}
use Rattle.qz_terms.specs.Rows.{sum_of}
use Rattle.qz_terms.proofs.Walks.{all_of-push}
use Rattle.qz_stats.specs.declared.marks.Marks.{Marks}
use Rattle.qz_stats.specs.Rows.{mark_sum, marked, max_sum}
use Rattle.qz_stats.specs.Shards.{IsPlayed, slot_in}
use Rattle.qz_stats.specs.Sums.{AreSums, HaveRoom}

-- ---- numbers

within-more : (m a x b : ℤ) → pos 0 ≤ℤ x → pos 0 ≤ℤ b → unsigned_abs m ≤ 6 * unsigned_abs x → unsigned_abs a ≤ 6 * unsigned_abs b → unsigned_abs (m +ℤ a) ≤ 6 * unsigned_abs (x +ℤ b)
within-more m a x b x_least b_least one_within other_within = omega (arith, ints)

most-more : (x b : ℤ) (n : ℕ) → pos 0 ≤ℤ x → IsMaxMark b → unsigned_abs x ≤ 10000 * one * n → unsigned_abs (x +ℤ b) ≤ 10000 * one * (n + 1)
most-more x b n least max most = omega (arith, ints, max.0, max.1)

least-more : (x b : ℤ) → pos 0 ≤ℤ x → pos 0 ≤ℤ b → pos 0 ≤ℤ (x +ℤ b)
least-more x b x_least b_least = omega (arith, ints)

sum-push : (xs : List ℤ) (x : ℤ) → sum_of (xs ++ x ∷ []) ≡ sum_of xs +ℤ x
sum-push xs x = fold-append ◌+ℤ◌ (pos 0) xs (x ∷ [])

mark-push : (ms : List (ℤ × ℤ)) (m : ℤ × ℤ) → mark_sum (ms ++ m ∷ []) ≡ mark_sum ms +ℤ m.0
mark-push ms m = ap sum_of (map-append (λ (m : ℤ × ℤ). m.0) ms (m ∷ [])) ∙ sum-push (map (λ (m : ℤ × ℤ). m.0) ms) m.0

max-push : (ms : List (ℤ × ℤ)) (m : ℤ × ℤ) → max_sum (ms ++ m ∷ []) ≡ max_sum ms +ℤ m.1
max-push ms m = ap sum_of (map-append (λ (m : ℤ × ℤ). m.1) ms (m ∷ [])) ∙ sum-push (map (λ (m : ℤ × ℤ). m.1) ms) m.1

-- ---- one slot more

-- which has a mark
pub sums-more : (m n : Marks) (xs : List Slot) (s : Slot) (mark : ℤ) → mark_in s ≡ Some mark → IsMaxMark s.bound.max → unsigned_abs mark ≤ 6 * unsigned_abs s.bound.max
    → n.tried ≡ m.tried + 1 → n.marks ≡ m.marks +ℤ mark → n.maxes ≡ m.maxes +ℤ s.bound.max → AreSums m xs → AreSums n (xs ++ s ∷ [])
sums-more m n xs s mark is max within tried marks maxes sums =
    let told : marked s ≡ Some (mark, s.bound.max) = ap (option_map (λ (a : ℤ). (a, s.bound.max))) is in
    let longer : filter_map marked (xs ++ s ∷ []) ≡ filter_map marked xs ++ (mark, s.bound.max) ∷ [] = all_of-push marked xs s ∙ ap (λ (o : Option (ℤ × ℤ)). filter_map marked xs ++ option_to_list o) told in
    let long = length_push (filter_map marked xs) (mark, s.bound.max) in
    let all = length_push xs s in
    record {
      tried = tried ∙ (ap (λ (k : ℕ). k + 1) sums.tried ∙ sym (ap length longer ∙ long));
      marks = marks ∙ (ap (λ (z : ℤ). z +ℤ mark) sums.marks ∙ sym (ap mark_sum longer ∙ mark-push (filter_map marked xs) (mark, s.bound.max)));
      maxes = maxes ∙ (ap (λ (z : ℤ). z +ℤ s.bound.max) sums.maxes ∙ sym (ap max_sum longer ∙ max-push (filter_map marked xs) (mark, s.bound.max)));
      few = let before = sums.few in omega arith;
      least = subst (λ (z : ℤ). pos 0 ≤ℤ z) (sym maxes) (least-more m.maxes s.bound.max sums.least max.0);
      most = subst (λ (z : ℤ). unsigned_abs z ≤ 10000 * one * length (xs ++ s ∷ [])) (sym maxes) (subst (λ (k : ℕ). unsigned_abs (m.maxes +ℤ s.bound.max) ≤ 10000 * one * k) (sym all) (most-more m.maxes s.bound.max (length xs) sums.least max sums.most));
      within = subst (λ (z : ℤ). unsigned_abs z ≤ 6 * unsigned_abs n.maxes) (sym marks) (subst (λ (z : ℤ). unsigned_abs (m.marks +ℤ mark) ≤ 6 * unsigned_abs z) (sym maxes) (within-more m.marks mark m.maxes s.bound.max sums.least max.0 sums.within within));
    }

-- which has none
pub sums-same : (m : Marks) (xs : List Slot) (s : Slot) → mark_in s ≡ None → AreSums m xs → AreSums m (xs ++ s ∷ [])
sums-same m xs s is sums =
    let told : marked s ≡ None = ap (option_map (λ (a : ℤ). (a, s.bound.max))) is in
    let same : filter_map marked (xs ++ s ∷ []) ≡ filter_map marked xs = all_of-push marked xs s ∙ (ap (λ (o : Option (ℤ × ℤ)). filter_map marked xs ++ option_to_list o) told ∙ append-nil (filter_map marked xs)) in
    let all = length_push xs s in
    record {
      tried = sums.tried ∙ sym (ap length same);
      marks = sums.marks ∙ sym (ap mark_sum same);
      maxes = sums.maxes ∙ sym (ap max_sum same);
      few = let before = sums.few in omega arith;
      least = sums.least;
      most = let before = sums.most in omega arith;
      within = sums.within;
    }

-- that is played
pub slot-more : (m n : Marks) (xs : List Slot) (p : Played) (mark : ℤ) → IsPlayed p → Some mark ≡ mark_in (slot_in p) → n.tried ≡ m.tried + 1 → n.marks ≡ m.marks +ℤ mark → n.maxes ≡ m.maxes +ℤ p.run.now.bound.max
    → AreSums m xs → AreSums n (xs ++ slot_in p ∷ [])
slot-more m n xs p mark played is tried marks maxes sums =
    let within : unsigned_abs mark ≤ 6 * unsigned_abs p.run.now.bound.max = subst (λ (o : Option ℤ). IfSome o (λ m. unsigned_abs m ≤ 6 * unsigned_abs p.run.now.bound.max)) (sym is) played.within in
    sums-more m n xs (slot_in p) mark (sym is) played.max within tried marks maxes sums

pub sums-none : AreSums (record { tried = 0; marks = pos 0; maxes = pos 0 }) []
sums-none = record { tried = refl; marks = refl; maxes = refl; few = omega arith; least = omega (arith, ints); most = omega arith; within = omega arith }

-- ---- room

pub room-left : (m : Marks) (xs : List Slot) → AreSums m xs → length xs < 2 ^ 32 - 1 → HaveRoom m
room-left m xs sums few =
    let tried = sums.few in
    let most = sums.most in
    let within = sums.within in
    record { tried = omega arith; marks_least = omega (arith, ints); marks_most = omega (arith, ints); maxes_least = omega (arith, ints); maxes_most = omega (arith, ints) }

pub most-maxes : (m : Marks) (xs : List Slot) → AreSums m xs → length xs < 2 ^ 32 → unsigned_abs m.maxes ≤ 2 ^ 80
most-maxes m xs sums few = let most = sums.most in omega arith
