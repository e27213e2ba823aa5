-- A waiting seat looks which ticket is served, and takes the value where it is its own.
use Rattle.std.proofs.Common.{◌≡◌, ◌≢◌, ℕ, ◌-◌, ◌%◌, ◌^◌, ◌<◌, inr, ⊎_elim, [], ◌∷◌, length, set, get_or, refl, ap, sym, ◌∙◌, subst, arith}
use mathlib.Core.Option.{some, none}
use mathlib.Core.Logic.{dite}
use native.Mathlib.Decide.{ℕ_discrete}
use lib.ListN.{get_elem?}
use lib.Seq.{set-get_or}
use Rattle.atomic_table.specs.Table.{State, Me, Step, Act, keeps, takes, Valid, stepped, carried_after, Allows}
use Rattle.atomic_table.proofs.Lists.{set_again, set_here, one_turn}
use Rattle.qz_turn.specs.declared.view.Tale.{Tale}
use Rattle.qz_turn.specs.declared.view.Stage.TheVariants.{Waiting}
use Rattle.qz_turn.specs.declared.view.View.{View}
use Rattle.qz_turn.specs.Tales.{Follows}
use Rattle.qz_turn.specs.Rule.{Stands, Serves, IsWell, IsHome, IsOut, Kept, tickets, tickets_of, count_of_numbers, times_at, put_at}
use Rattle.qz_turn.specs.Steps.{serving, looks}
use Rattle.qz_turn.proofs.Frames.{never_waits, one_there, is_inside, all_set, sum_set, sum_below}

waiting_is : (a b : ℕ) → Waiting a ≡ Waiting b → a ≡ b
waiting_is a b e = cc

module _ {I K S : Type 0} (tells : S → Tale I) (fits : K → S → Type 0) (key : K) (seats start : ℕ) where
  -- there are no more tickets than numbers
  few_wait : (s : State S (View I K)) (h : Kept tells fits key seats start s) → length h.queue < 2 ^ 32
  few_wait s h = let less = sum_below tickets count_of_numbers s.views (λ j u e. (h.each j u e).numbered) in let a = h.drawn in let b = h.dealt in let c = h.few in omega arith

  -- the seat that serves stands first
  pub first_serves : (s : State S (View I K)) (h : Kept tells fits key seats start s) (id : ℕ) (v : View I K) → get_elem? s.views id ≡ some v → Serves v.stage → get_elem? h.queue 0 ≡ some id
  first_serves s h id v at serves = (subst (Stands h.base h.queue id) serves.1 (h.each id v at).stands).1

  -- the ticket that is served is the seat's own, where their numbers agree
  own_turn : (s : State S (View I K)) (h : Kept tells fits key seats start s) (id : ℕ) (v : View I K) (t : ℕ) → get_elem? s.views id ≡ some v → v.stage ≡ Waiting t → get_or s.words 1 0 ≡ t % 2 ^ 64
      → (h.base ≡ t) × (get_elem? h.queue 0 ≡ some id)
  own_turn s h id v t at waits agree =
      let place = subst (Stands h.base h.queue id) waits (h.each id v at).stands in
      let inside = is_inside h.queue (t - h.base) id place.1 in
      let few = few_wait s h in
      let same = one_turn h.base t (2 ^ 64) place.0 (omega arith) (sym (ap (λ ws. get_or ws 1 0) h.words) ∙ agree) in
      (same, subst (λ k. get_elem? h.queue k ≡ some id) (omega arith) place.1)

  takes_it : (id : ℕ) (m : Me S (View I K)) (st : Step S) (t : ℕ) → m.0.stage ≡ Waiting t → m.1 ≡ [] → (s : State S (View I K)) (h : Kept tells fits key seats start s) → get_elem? s.views id ≡ some m.0
      → (agree : get_or s.words 1 0 ≡ t % 2 ^ 64) → IsHome tells fits key h.tale s
      → (w : View I K) × (a : Act S) × Valid s.homes m.1 a × Kept tells fits key seats start (stepped s 1 (get_or s.words 1 0) id m.1 w a) × looks tells fits st m (get_or s.words 1 0) (w, carried_after m.1 a)
  takes_it id m st t waits bare s h at agree home =
      let v = m.0 in
      let y = home.value in
      let own = own_turn s h id v t at waits agree in
      let w = serving t (tells y) v in
      let mine = h.each id v at in
      let one_held : tickets v ≡ 1 = ap tickets_of waits in (
        w,
        takes 0 y,
        ap (λ hs. get_elem? hs 0) home.homes,
        record {
          base = h.base;
          queue = h.queue;
          tale = h.tale;
          words = set-get_or s.words 1 0 ∙ h.words;
          few = h.few;
          drawn = let sums = sum_set tickets s.views id v w at in let was = h.drawn in omega arith;
          dealt = let sums = sum_set count_of_numbers s.views id v w at in let was = h.dealt in omega arith;
          once = λ x. let sums = sum_set (times_at x) s.views id v w at in let was = h.once x in omega arith;
          grown = let sums = sum_set put_at s.views id v w at in let was = h.grown in omega arith;
          each = all_set (IsWell key h.base h.queue h.tale) s.views id w
              record { keyed = mine.keyed; stands = (sym own.0, own.1); numbered = let was = mine.numbered in omega arith; idle = mine.idle; seen = mine.seen; beside = mine.beside }
              (λ j u apart e. h.each j u e);
          value = inr record {
            server = id;
            view = w;
            homes = ap (λ hs. set hs 0 none) home.homes;
            there = set_here s.views id w (is_inside s.views id v at);
            serves = (t, refl);
            finds = home.tells_tale;
          };
        },
        record {
          comes = λ n is _. record {
            ticket = n;
            value = y;
            after = λ i. (serving (waiting_is t n (sym waits ∙ is) i) (tells y) v, (0, y) ∷ bare i);
            begins = subst (Follows v.seen) (sym home.tells_tale) mine.seen;
            fits_key = λ k has. subst (λ z. fits z y) (sym (mine.keyed k has)) home.fits_key;
          };
          stays = λ n is other. absurd (other (agree ∙ ap (λ z. z % 2 ^ 64) (waiting_is t n (sym waits ∙ is))));
        },
      )

  looks_on : (id : ℕ) (m : Me S (View I K)) (st : Step S) (t : ℕ) → m.0.stage ≡ Waiting t → (s : State S (View I K)) (h : Kept tells fits key seats start s) → get_elem? s.views id ≡ some m.0
      → (other : get_or s.words 1 0 ≢ t % 2 ^ 64)
      → (w : View I K) × (a : Act S) × Valid s.homes m.1 a × Kept tells fits key seats start (stepped s 1 (get_or s.words 1 0) id m.1 w a) × looks tells fits st m (get_or s.words 1 0) (w, carried_after m.1 a)
  looks_on id m st t waits s h at other =
      let same : stepped s 1 (get_or s.words 1 0) id m.1 m.0 keeps ≡ s = λ i. record { words = set-get_or s.words 1 0 i; homes = s.homes; views = set_again s.views id m.0 at i } in (
        m.0,
        keeps,
        tt,
        subst (Kept tells fits key seats start) (sym same) h,
        record { comes = λ n is agree. absurd (other (agree ∙ ap (λ z. z % 2 ^ 64) (waiting_is n t (sym is ∙ waits)))); stays = λ n is _. refl },
      )

  pub keeps_look : (slots id : ℕ) (m : Me S (View I K)) (st : Step S) (t : ℕ) → m.0.stage ≡ Waiting t → m.1 ≡ [] → Allows (Kept tells fits key seats start) slots id m 1 (λ n. n) (looks tells fits st m)
  keeps_look slots id m st t waits bare s h homes at small = dite (ℕ_discrete (get_or s.words 1 0) (t % 2 ^ 64))
      (λ agree. ⊎_elim
      (takes_it id m st t waits bare s h at agree)
      (λ (o : IsOut h.tale s). let own = own_turn s h id m.0 t at waits agree in
      let first = first_serves s h o.server o.view o.there o.serves in
      let me = one_there h.queue 0 o.server id first own.1 in
      let view = one_there s.views id o.view m.0 (subst (λ j. get_elem? s.views j ≡ some o.view) me o.there) at in
      absurd (never_waits m.0.stage t waits (subst (λ (u : View I K). Serves u.stage) view o.serves)))
      h.value)
      (looks_on id m st t waits s h at)
