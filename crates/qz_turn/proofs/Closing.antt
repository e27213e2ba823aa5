-- A new table, and one that is closed by the pass that has all numbers.
use Rattle.std.proofs.Common.{◌≡◌, ◌≢◌, ℕ, zero, suc, ◌+◌, ◌^◌, ◌≤◌, ◌<◌, inl, ⊎_elim, List, [], ◌∷◌, length, refl, ap, sym, ◌∙◌, subst, arith, zero-add, eq-eqb, ne_eqb}
use Rattle.std.specs.Prelude.{Some, Contains, slice_index_or, if◌then◌else◌}
use Rattle.std.specs.List.{range_with_len}
use Rattle.std.proofs.lemmas.List.Sums.{sum_by-cons}
use Rattle.std.proofs.lemmas.List.FromFn.{length-range_with_len}
use mathlib.Core.Option.{some, some-injective, some-ne-none}
use mathlib.Core.Logic.{dite}
use native.Mathlib.Decide.{ℕ_discrete}
use lib.ListN.{get_elem?}
use Rattle.atomic_table.specs.Table.{State, opening, Final, Seen}
use Rattle.qz_turn.specs.declared.view.Tale.{Tale}
use Rattle.qz_turn.specs.declared.view.Stage.TheVariants.{Resting}
use Rattle.qz_turn.specs.declared.view.View.{View}
use Rattle.qz_turn.specs.Tales.{Follows, put_in}
use Rattle.qz_turn.specs.Rule.{Serves, IsWell, IsHome, IsOut, Kept, tickets, tickets_of, times, times_at, put_at, dealer, one_if}
use Rattle.qz_turn.proofs.Prefixes.{follows_self, follows_blank}
use Rattle.qz_turn.proofs.Frames.{never_rests, one_there, sum_alone, sum_two}

times_here : (x n : ℕ) (ns : List ℕ) → n ≡ x → times x (n ∷ ns) ≡ 1 + times x ns
times_here x n ns e = let one : one_if x n ≡ 1 = ap (λ b. if b then 1 else 0) (eq-eqb n x e) in omega (arith, sum_by-cons (one_if x) n ns)

times_else : (x n : ℕ) (ns : List ℕ) → n ≢ x → times x (n ∷ ns) ≡ times x ns
times_else x n ns e = let none : one_if x n ≡ 0 = ap (λ b. if b then 1 else 0) (ne_eqb n x e) in omega (arith, sum_by-cons (one_if x) n ns)

-- a number of a run stands in it once, and is none of those before it or past its end
none_before : (x a n : ℕ) → x < a → times x (range_with_len a n) ≡ 0
none_before x a zero lt = refl
none_before x a (suc n) lt = times_else x a (range_with_len (a + 1) n) (λ e. omega arith) ∙ none_before x (a + 1) n (omega arith)

at_most_once : (x a n : ℕ) → times x (range_with_len a n) ≤ 1
at_most_once x a zero = omega arith
at_most_once x a (suc n) = dite (ℕ_discrete a x)
    (λ same. let here = times_here x a (range_with_len (a + 1) n) same in let none = none_before x (a + 1) n (omega arith) in omega arith)
    (λ other. let else_ = times_else x a (range_with_len (a + 1) n) other in let more = at_most_once x (a + 1) n in omega arith)

within : (x a n : ℕ) → 0 < times x (range_with_len a n) → x < a + n
within x a zero h = absurd (omega arith)
within x a (suc n) h = dite (ℕ_discrete a x)
    (λ same. omega arith)
    (λ other. let else_ = times_else x a (range_with_len (a + 1) n) other in let more = within x (a + 1) n (omega arith) in omega arith)

-- a number that stands in a list, at some place
there_at : (x k : ℕ) (ns : List ℕ) → k < length ns → slice_index_or ns k x ≡ x → 1 ≤ times x ns
there_at x k [] lt e = absurd (omega arith)
there_at x zero (n ∷ ns) lt e = omega (arith, times_here x n ns e)
there_at x (suc k) (n ∷ ns) lt e = let more = there_at x k ns (omega arith) e in omega (arith, sum_by-cons (one_if x) n ns)

some_is : {K : Type 0} (a b : K) → Some a ≡ Some b → b ≡ a
some_is a b e = cc

module _ {I K S : Type 0} (tells : S → Tale I) (fits : K → S → Type 0) (key : K) (seats start : ℕ) where
  pub keeps_new : (value : S) → fits key value → seats < 2 ^ 32 → start ≡ length (tells value).list → Kept tells fits key seats start (opening (0 ∷ 0 ∷ []) (value ∷ []) (dealer key (tells value) seats))
  keeps_new value is few begun = record {
    base = 0;
    queue = [];
    tale = tells value;
    words = refl;
    few = few;
    drawn = refl;
    dealt = zero-add _ ∙ length-range_with_len 0 seats;
    once = λ x. zero-add _;
    grown = omega arith;
    each = one;
    value = inl record { value = value; homes = refl; tells_tale = refl; fits_key = is; nobody = alone };
  }
    where
      one : (id : ℕ) (v : View I K) → get_elem? (dealer key (tells value) seats ∷ []) id ≡ some v → IsWell key 0 [] (tells value) id v
      one zero v e = subst (IsWell key 0 [] (tells value) 0) (some-injective _ _ e)
          record { keyed = λ k is. some_is key k is; stands = tt; numbered = omega arith; idle = λ none. refl; seen = follows_self (tells value); beside = follows_blank (tells value) }
      one (suc id) v e = absurd (some-ne-none v (sym e))

      alone : (id : ℕ) (v : View I K) → get_elem? (dealer key (tells value) seats ∷ []) id ≡ some v → ¬ Serves v.stage
      alone zero v e = subst (λ (u : View I K). ¬ Serves u.stage) (some-injective _ _ e) (never_rests Resting refl)
      alone (suc id) v e = absurd (some-ne-none v (sym e))

  -- where one seat has all numbers, no other has any
  others_none : (s : State S (View I K)) (h : Kept tells fits key seats start s) (id : ℕ) (v : View I K) → get_elem? s.views id ≡ some v → ((n : ℕ) → n < seats → Contains v.numbers n)
      → (j : ℕ) (u : View I K) → id ≢ j → get_elem? s.views j ≡ some u → u.numbers ≡ []
  others_none s h id v at all j u apart there = none u.numbers refl
    where
      none : (ns : List ℕ) → u.numbers ≡ ns → u.numbers ≡ []
      none [] is = is
      none (x ∷ ns) is = absurd (
          let theirs : 1 ≤ times_at x u = subst (λ l. 1 ≤ times x l) (sym is) (there_at x 0 (x ∷ ns) (omega arith) refl) in
          let everywhere = h.once x in
          let two = sum_two (times_at x) s.views id j v u apart at there in
          let once = at_most_once x 0 seats in
          let inside = within x 0 seats (omega arith) in
          let own = all x (omega arith) in
          let mine = there_at x own.0 v.numbers own.1 own.2 in
          omega arith)

  -- The seat that has all numbers is the only one that may hold a ticket, so the value is at home.
  pub home_at_last : (s : State S (View I K)) (h : Kept tells fits key seats start s) (id : ℕ) (v : View I K) → get_elem? s.views id ≡ some v → v.stage ≡ Resting → ((n : ℕ) → n < seats → Contains v.numbers n)
      → IsHome tells fits key h.tale s
  home_at_last s h id v at rests all = ⊎_elim
      (λ (home : IsHome tells fits key h.tale s). home)
      (λ (o : IsOut h.tale s). dite (ℕ_discrete id o.server)
      (λ same. let is = one_there s.views id v o.view at (subst (λ j. get_elem? s.views j ≡ some o.view) (sym same) o.there) in
      absurd (never_rests v.stage rests (subst (λ (u : View I K). Serves u.stage) (sym is) o.serves)))
      (λ apart.
      let none = ap length (others_none s h id v at all o.server o.view apart o.there) in
      let held : tickets o.view ≡ 1 = ap tickets_of o.serves.1 in
      let least = (h.each o.server o.view o.there).numbered in
      absurd (omega arith)))
      h.value

  -- It is the only one that has turns, so by what they put the list has grown.
  grown_at_last : (s : State S (View I K)) (h : Kept tells fits key seats start s) (id : ℕ) (v : View I K) → get_elem? s.views id ≡ some v → ((n : ℕ) → n < seats → Contains v.numbers n)
      → length h.tale.list ≡ start + put_in v.turns
  grown_at_last s h id v at all =
      let alone = sum_alone put_at s.views id v at (λ j u apart there. ap put_in ((h.each j u there).idle (others_none s h id v at all j u (λ same. apart (sym same)) there))) in
      let was = h.grown in
      omega arith

  -- what a closed table gives back
  pub gives_back : (words : List ℕ) (slots : List S) (id : ℕ) (v : View I K) (y : S) → Final (Seen (Kept tells fits key seats start) id v) words slots → v.stage ≡ Resting → ((n : ℕ) → n < seats → Contains v.numbers n)
      → get_elem? slots 0 ≡ some y → Follows v.seen (tells y) × fits key y × (length (tells y).list ≡ start + put_in v.turns)
  gives_back words slots id v y last rests all taken =
      let s = last.0 in
      let kept = last.1.0 in
      let home = home_at_last s kept id v last.1.1 rests all in
      let back = last.4 0 home.value (ap (λ hs. get_elem? hs 0) home.homes) in
      let same : home.value ≡ y = some-injective _ _ (sym back ∙ taken) in
      let follows = subst (Follows v.seen) (sym home.tells_tale) (kept.each id v last.1.1).seen in
      let long = ap (λ (t : Tale I). length t.list) (sym (ap tells same) ∙ home.tells_tale) in
      (subst (λ z. Follows v.seen (tells z)) same follows, subst (fits key) same home.fits_key, long ∙ grown_at_last s kept id v last.1.1 all)
