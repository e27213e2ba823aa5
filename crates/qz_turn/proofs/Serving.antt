-- The seat that has the turn gives the value back, and the turn goes on.
use Rattle.std.proofs.Common.{◌≡◌, ◌≢◌, ℕ, suc, ◌+◌, ◌-◌, ◌%◌, ◌^◌, inl, ⊎_elim, List, [], ◌∷◌, length, drop, set, get_or, refl, ap, sym, ◌∙◌, subst, arith}
use Rattle.std.proofs.Math.Nat.{mod-add-mod}
use Rattle.std.proofs.lemmas.List.Sums.{sum_by_push}
use mathlib.Core.Option.{some}
use mathlib.Core.Logic.{dite}
use native.Mathlib.Decide.{ℕ_discrete}
use lib.ListN.{get_elem?}
use Rattle.atomic_table.specs.Table.{State, Me, Step, Act, gives, Valid, stepped, carried_after, put_back, rest, Allows}
use Rattle.atomic_table.proofs.Lists.{drop_at}
use Rattle.qz_turn.specs.declared.view.Tale.{Tale}
use Rattle.qz_turn.specs.declared.view.Stage.{Stage}
use Rattle.qz_turn.specs.declared.view.Stage.TheVariants.{Resting, Waiting, Serving}
use Rattle.qz_turn.specs.declared.view.View.{View}
use Rattle.qz_turn.specs.Tales.{Follows, put_by, turn}
use Rattle.qz_turn.specs.Rule.{Stands, Serves, IsWell, IsHome, IsOut, Kept, tickets, tickets_of, count_of_numbers, times_at, put_at}
use Rattle.qz_turn.specs.Steps.{served, ends, MayEnd}
use Rattle.qz_turn.proofs.Prefixes.{follows_self, follows_trans, prefix_length}
use Rattle.qz_turn.proofs.Frames.{never_rests, one_there, all_set, sum_set}
use Rattle.qz_turn.proofs.Looking.{first_serves}

-- who isn't first stands one place nearer to the front
stands_nearer : (base : ℕ) (queue : List ℕ) (first id : ℕ) (stage : Stage) → id ≢ first → Stands base (first ∷ queue) id stage → Stands (base + 1) queue id stage
stands_nearer base queue first id Resting apart h = tt
stands_nearer base queue first id (Waiting t) apart h = dite (ℕ_discrete t base)
    (λ same. let here : t - base ≡ 0 = omega arith in absurd (apart (one_there (first ∷ queue) 0 id first (subst (λ k. get_elem? (first ∷ queue) k ≡ some id) here h.1) refl)))
    (λ later. let on = h.0 in let next : t - base ≡ suc (t - (base + 1)) = omega arith in (omega arith, subst (λ k. get_elem? (first ∷ queue) k ≡ some id) next h.1))
stands_nearer base queue first id (Serving t) apart h = absurd (apart (one_there (first ∷ queue) 0 id first h.1 refl))

abbrev one_carried : {S : Type 0} → S → List (ℕ × S)
one_carried y = (0, y) ∷ []

abbrev value_of : {S : Type 0} → S → List (ℕ × S) → S
value_of y [] = y
value_of y (x ∷ xs) = x.1

pub carried_one : {S : Type 0} (y z : S) → one_carried y ≡ one_carried z → y ≡ z
carried_one y z e = ap (value_of y) e

module _ {I K S : Type 0} (tells : S → Tale I) (fits : K → S → Type 0) (key : K) (seats start : ℕ) where
  gives_on : (id : ℕ) (m : Me S (View I K)) (st : Step S) (may : MayEnd tells fits m) (s : State S (View I K)) (h : Kept tells fits key seats start s) → get_elem? s.views id ≡ some m.0 → IsOut h.tale s
      → (w : View I K) × (a : Act S) × Valid s.homes m.1 a × Kept tells fits key seats start (stepped s 1 ((get_or s.words 1 0 + 1) % 2 ^ 64) id m.1 w a) × ends tells st m (get_or s.words 1 0) (w, carried_after m.1 a)
  gives_on id m st may s h at out =
      let v = m.0 in
      let y = may.value in
      let first = first_serves tells fits key seats start s h id v at (may.ticket, may.serves) in
      let me = one_there h.queue 0 out.server id (first_serves tells fits key seats start s h out.server out.view out.there out.serves) first in
      let view = one_there s.views id out.view v (subst (λ j. get_elem? s.views j ≡ some out.view) me out.there) at in
      let found : h.tale ≡ v.found = sym out.finds ∙ ap (λ (u : View I K). u.found) view in
      let grows : Follows h.tale (tells y) = subst (λ z. Follows z (tells y)) (sym found) may.grows in
      let w = served (tells y) v in
      let mine = h.each id v at in
      let front : h.queue ≡ id ∷ drop 1 h.queue = drop_at h.queue 0 id first in
      let long = ap length front in
      let one_held : tickets v ≡ 1 = ap tickets_of may.serves in
      let next : ((h.base % 2 ^ 64) + 1) % 2 ^ 64 ≡ (h.base + 1) % 2 ^ 64 = mod-add-mod h.base (2 ^ 64) 1 in
      let tail : (h.base + length h.queue) % 2 ^ 64 ≡ ((h.base + 1) + length (drop 1 h.queue)) % 2 ^ 64 = ap (λ k. k % 2 ^ 64) (omega arith) in
      let others = λ (j : ℕ) (u : View I K) (apart : j ≢ id) (e : get_elem? s.views j ≡ some u). subst (λ q. Stands h.base q j u.stage) front (h.each j u e).stands in (
        w,
        gives,
        tt,
        record {
          base = h.base + 1;
          queue = drop 1 h.queue;
          tale = tells y;
          words = ap (λ ws. set ws 1 ((get_or ws 1 0 + 1) % 2 ^ 64)) h.words ∙ (λ i. tail i ∷ next i ∷ []);
          few = h.few;
          drawn = let sums = sum_set tickets s.views id v w at in let was = h.drawn in omega arith;
          dealt = let sums = sum_set count_of_numbers s.views id v w at in let was = h.dealt in omega arith;
          once = λ x. let sums = sum_set (times_at x) s.views id v w at in let was = h.once x in omega arith;
          grown =
              let sums = sum_set put_at s.views id v w at in
              let added = sum_by_push put_by v.turns (turn v.found (tells y)) in
              let was = h.grown in
              let long = ap (λ (z : Tale I). length z.list) found in
              let more = prefix_length v.found.list (tells y).list may.grows.begins in
              omega arith;
          each = all_set (IsWell key (h.base + 1) (drop 1 h.queue) (tells y)) s.views id w
              record { keyed = mine.keyed; stands = tt; numbered = omega arith; idle = λ none. absurd (let gone = ap length none in let few = mine.numbered in omega arith); seen = follows_self (tells y); beside = follows_trans v.beside h.tale (tells y) mine.beside grows }
              (λ j u apart e. let was = h.each j u e in record {
                keyed = was.keyed;
                stands = stands_nearer h.base (drop 1 h.queue) id j u.stage apart (others j u apart e);
                numbered = was.numbered;
                idle = was.idle;
                seen = follows_trans u.seen h.tale (tells y) was.seen grows;
                beside = follows_trans u.beside h.tale (tells y) was.beside grows;
              });
          value = inl record {
            value = y;
            homes = ap (put_back s.homes) may.holds ∙ ap (λ hs. set hs 0 (some y)) out.homes;
            tells_tale = refl;
            fits_key = subst (λ z. fits z y) (mine.keyed may.key may.keyed) may.fits_key;
            nobody = all_set (λ j u. ¬ Serves u.stage) s.views id w (never_rests w.stage refl) (λ j u apart e serves. apart (one_there h.queue 0 j id (first_serves tells fits key seats start s h j u e serves) first));
          };
        },
        record { after = λ z is. let same = carried_one y z (sym may.holds ∙ is) in λ i. (served (tells (same i)) v, ap rest may.holds i) },
      )

  pub keeps_serve : (slots id : ℕ) (m : Me S (View I K)) (st : Step S) → MayEnd tells fits m → Allows (Kept tells fits key seats start) slots id m 1 (λ n. (n + 1) % 2 ^ 64) (ends tells st m)
  keeps_serve slots id m st may s h homes at small = ⊎_elim
      (λ (home : IsHome tells fits key h.tale s). absurd (home.nobody id m.0 at (may.ticket, may.serves)))
      (gives_on id m st may s h at)
      h.value
