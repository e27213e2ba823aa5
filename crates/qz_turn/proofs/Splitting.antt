-- A seat is cut in two: its first number goes to a new seat, or a new seat without a number has seen the same.
use Rattle.std.proofs.Common.{◌≡◌, ℕ, ◌+◌, ⊎_elim, List, [], ◌∷◌, ◌++◌, length, take, drop, set, refl, ap, sym, subst, arith}
use Rattle.std.proofs.lemmas.List.Sums.{sum_by-cons, sum_by_push}
use mathlib.Core.Option.{some}
use lib.ListN.{get_elem?}
use Rattle.atomic_table.specs.Table.{State, Splits}
use Rattle.atomic_table.proofs.Lists.{at_snoc, set_again}
use Rattle.qz_turn.specs.declared.view.Tale.{Tale}
use Rattle.qz_turn.specs.declared.view.Turn.{Turn}
use Rattle.qz_turn.specs.declared.view.Stage.{Stage}
use Rattle.qz_turn.specs.declared.view.Stage.TheVariants.{Resting}
use Rattle.qz_turn.specs.declared.view.View.{View}
use Rattle.qz_turn.specs.Tales.{put_in, turns_given, turns_kept}
use Rattle.qz_turn.specs.Rule.{Stands, IsWell, Kept, tickets, tickets_of, count_of_numbers, one_if, times, times_at, put_at}
use Rattle.qz_turn.specs.Steps.{dealing, dealt_to, noted}
use Rattle.qz_turn.proofs.Prefixes.{follows_blank}
use Rattle.qz_turn.proofs.Frames.{all_set, sum_set, value_set, value_push}

both_counts : (ns : List ℕ) → length (drop 1 ns) + length (take 1 ns) ≡ length ns
both_counts [] = refl
both_counts (n ∷ ns) = omega arith

both_times : (x : ℕ) (ns : List ℕ) → times x (drop 1 ns) + times x (take 1 ns) ≡ times x ns
both_times x [] = refl
both_times x (n ∷ ns) = let one = sum_by-cons (one_if x) n ns in let alone = sum_by-cons (one_if x) n [] in omega (arith, one, alone)

module _ {I : Type 0} where
  both_puts : (ns : List ℕ) (ts : List (Turn I)) → put_in (turns_kept ns ts) + put_in (turns_given ns ts) ≡ put_in ts
  both_puts [] ts = omega arith
  both_puts (n ∷ ns) ts = omega arith

  idle_kept : (ns : List ℕ) (ts : List (Turn I)) → ns ≡ [] → turns_kept ns ts ≡ []
  idle_kept [] ts none = refl
  idle_kept (n ∷ ns) ts none = absurd (cc none)

  idle_given : (ns : List ℕ) (ts : List (Turn I)) → (ns ≡ [] → ts ≡ []) → take 1 ns ≡ [] → turns_given (drop 1 ns) ts ≡ []
  idle_given [] ts idle none = idle refl
  idle_given (n ∷ ns) ts idle none = absurd (cc none)

module _ {I K S : Type 0} (tells : S → Tale I) (fits : K → S → Type 0) (key : K) (seats start : ℕ) where
  -- one more view, which rests, has no number, and has seen what another one has seen
  with_note : (s : State S (View I K)) (h : Kept tells fits key seats start s) (id : ℕ) (v : View I K) → get_elem? s.views id ≡ some v
      → Kept tells fits key seats start record { words = s.words; homes = s.homes; views = s.views ++ noted v ∷ [] }
  with_note s h id v at =
      let w = noted v in
      let mine = h.each id v at in record {
        base = h.base;
        queue = h.queue;
        tale = h.tale;
        words = h.words;
        few = h.few;
        drawn = let sums = sum_by_push tickets s.views w in let was = h.drawn in omega arith;
        dealt = let sums = sum_by_push count_of_numbers s.views w in let was = h.dealt in omega arith;
        once = λ x. let sums = sum_by_push (times_at x) s.views w in let none : times_at x w ≡ 0 = refl in let was = h.once x in omega arith;
        grown = let sums = sum_by_push put_at s.views w in let none : put_at w ≡ 0 = refl in let was = h.grown in omega arith;
        each = λ j u e. ⊎_elim
            (λ (was : get_elem? s.views j ≡ some u). h.each j u was)
            (λ (is : w ≡ u). subst (IsWell key h.base h.queue h.tale j) is record { keyed = mine.keyed; stands = tt; numbered = omega arith; idle = λ none. refl; seen = mine.seen; beside = follows_blank h.tale })
            (at_snoc s.views w u j e);
        value = value_push tells fits key h.tale s w refl h.value;
      }

  pub keeps_note : (id : ℕ) (v : View I K) → Splits (Kept tells fits key seats start) id v v (noted v)
  keeps_note id v s h at =
      subst (λ (vs : List (View I K)). Kept tells fits key seats start record { words = s.words; homes = s.homes; views = vs ++ noted v ∷ [] }) (sym (set_again s.views id v at)) (with_note s h id v at)

  pub keeps_deal : (id : ℕ) (v : View I K) → v.stage ≡ Resting → Splits (Kept tells fits key seats start) id v (dealing v) (dealt_to v)
  keeps_deal id v rests s h at =
      let l = dealing v in
      let r = dealt_to v in
      let mine = h.each id v at in
      let none_held : tickets v ≡ 0 = ap tickets_of rests in record {
        base = h.base;
        queue = h.queue;
        tale = h.tale;
        words = h.words;
        few = h.few;
        drawn = let sums = sum_set tickets s.views id v l at in let more = sum_by_push tickets (set s.views id l) r in let was = h.drawn in omega arith;
        dealt = let sums = sum_set count_of_numbers s.views id v l at in let more = sum_by_push count_of_numbers (set s.views id l) r in let both = both_counts v.numbers in let was = h.dealt in omega arith;
        once = λ x. let sums = sum_set (times_at x) s.views id v l at in let more = sum_by_push (times_at x) (set s.views id l) r in let both = both_times x v.numbers in let was = h.once x in omega arith;
        grown = let sums = sum_set put_at s.views id v l at in let more = sum_by_push put_at (set s.views id l) r in let both = both_puts (drop 1 v.numbers) v.turns in let was = h.grown in omega arith;
        each = λ j u e. ⊎_elim
            (λ (was : get_elem? (set s.views id l) j ≡ some u). all_set (IsWell key h.base h.queue h.tale) s.views id l
            record { keyed = mine.keyed; stands = mine.stands; numbered = omega arith; idle = idle_kept (drop 1 v.numbers) v.turns; seen = mine.seen; beside = mine.beside }
            (λ i t apart there. h.each i t there) j u was)
            (λ (is : r ≡ u). subst (IsWell key h.base h.queue h.tale j) is record { keyed = mine.keyed; stands = tt; numbered = omega arith; idle = idle_given v.numbers v.turns mine.idle; seen = mine.seen; beside = follows_blank h.tale })
            (at_snoc (set s.views id l) r u j e);
        value = value_push tells fits key h.tale record { words = s.words; homes = s.homes; views = set s.views id l } r refl
            (value_set tells fits key h.tale s s.words id v l at (λ serves. (serves, refl)) (λ serves. serves) h.value);
      }
