-- A seat that rests and has a number draws a ticket.
use Rattle.std.proofs.Common.{◌≡◌, ◌≢◌, ℕ, ◌+◌, ◌-◌, ◌%◌, ◌^◌, ◌<◌, List, [], ◌∷◌, ◌++◌, length, set, get_or, refl, ap, sym, ◌∙◌, arith, length-append}
use Rattle.std.proofs.Math.Nat.{mod-add-mod}
use Rattle.atomic_table.specs.Table.{Me, Step, keeps, Allows}
use Rattle.atomic_table.proofs.Lists.{at_longer, at_last}
use Rattle.qz_turn.specs.declared.view.Tale.{Tale}
use Rattle.qz_turn.specs.declared.view.Stage.{Stage}
use Rattle.qz_turn.specs.declared.view.Stage.TheVariants.{Resting, Waiting, Serving}
use Rattle.qz_turn.specs.declared.view.View.{View}
use Rattle.qz_turn.specs.Rule.{Stands, IsWell, Kept, tickets, tickets_of, count_of_numbers, times_at, put_at}
use Rattle.qz_turn.specs.Steps.{waiting, draws}
use Rattle.qz_turn.proofs.Frames.{never_rests, never_waits, all_set, sum_set, value_set}

stands_longer : (base : ℕ) (queue more : List ℕ) (id : ℕ) (stage : Stage) → Stands base queue id stage → Stands base (queue ++ more) id stage
stands_longer base queue more id Resting h = tt
stands_longer base queue more id (Waiting t) h = (h.0, at_longer queue more (t - base) id h.1)
stands_longer base queue more id (Serving t) h = (h.0, at_longer queue more 0 id h.1)

module _ {I K S : Type 0} (tells : S → Tale I) (fits : K → S → Type 0) (key : K) (seats start : ℕ) where
  pub keeps_draw : (slots id : ℕ) (m : Me S (View I K)) (st : Step S) → m.0.stage ≡ Resting → 0 < length m.0.numbers
      → Allows (Kept tells fits key seats start) slots id m 0 (λ n. (n + 1) % 2 ^ 64) (draws st m)
  keeps_draw slots id m st rests has s h homes at small =
      let v = m.0 in
      let n = length h.queue in
      let t = h.base + n in
      let w = waiting t v in
      let mine = h.each id v at in
      let none_held : tickets v ≡ 0 = ap tickets_of rests in
      let grown : n + 1 ≡ length (h.queue ++ id ∷ []) = sym (length-append h.queue (id ∷ [])) in
      let next : ((t % 2 ^ 64) + 1) % 2 ^ 64 ≡ (h.base + length (h.queue ++ id ∷ [])) % 2 ^ 64 = mod-add-mod t (2 ^ 64) 1 ∙ ap (λ k. k % 2 ^ 64) (omega (arith, grown)) in (
        w,
        keeps,
        tt,
        record {
          base = h.base;
          queue = h.queue ++ id ∷ [];
          tale = h.tale;
          words = ap (λ ws. set ws 0 ((get_or ws 0 0 + 1) % 2 ^ 64)) h.words ∙ ap (λ k. k ∷ h.base % 2 ^ 64 ∷ []) next;
          few = h.few;
          drawn = let sums = sum_set tickets s.views id v w at in let was = h.drawn in omega arith;
          dealt = let sums = sum_set count_of_numbers s.views id v w at in let was = h.dealt in omega arith;
          once = λ x. let sums = sum_set (times_at x) s.views id v w at in let was = h.once x in omega arith;
          grown = let sums = sum_set put_at s.views id v w at in let was = h.grown in omega arith;
          each = all_set (IsWell key h.base (h.queue ++ id ∷ []) h.tale) s.views id w
              record { keyed = mine.keyed; stands = (omega arith, at_last h.queue id (t - h.base) (omega arith)); numbered = omega arith; idle = mine.idle; seen = mine.seen; beside = mine.beside }
              (λ j u apart e. let was = h.each j u e in record { keyed = was.keyed; stands = stands_longer h.base h.queue (id ∷ []) j u.stage was.stands; numbered = was.numbered; idle = was.idle; seen = was.seen; beside = was.beside });
          value = value_set tells fits key h.tale s _ id v w at (λ serves. absurd (never_rests v.stage rests serves)) (λ serves. absurd (never_waits w.stage t refl serves)) h.value;
        },
        record { ticket = t; drawn = ap (λ ws. get_or ws 0 0) h.words; after = refl },
      )

pub some_stand : (ns : List ℕ) → ns ≢ [] → 0 < length ns
some_stand [] h = absurd (h refl)
some_stand (n ∷ ns) h = omega arith
