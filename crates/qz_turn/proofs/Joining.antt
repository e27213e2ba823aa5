-- Two seats become one, and the list that each had seen is compared.
use Rattle.std.proofs.Common.{◌≡◌, ℕ, List, [], ◌∷◌, ◌++◌, set, refl, ap, sym, ◌∙◌, arith, length-append}
use Rattle.std.specs.Prelude.{Some, None}
use Rattle.std.proofs.lemmas.List.Sums.{sum_by-append}
use mathlib.Core.Option.{some}
use lib.ListN.{get_elem?}
use lib.Seq.{set-get_or}
use Rattle.atomic_table.specs.Table.{Me, Step, keeps, Allows, Joins}
use Rattle.atomic_table.proofs.Lists.{set_else}
use Rattle.qz_turn.specs.declared.view.Tale.{Tale}
use Rattle.qz_turn.specs.declared.view.Turn.{Turn}
use Rattle.qz_turn.specs.declared.view.Stage.TheVariants.{Resting}
use Rattle.qz_turn.specs.declared.view.View.{View}
use Rattle.qz_turn.specs.Passes.{spent_view}
use Rattle.qz_turn.specs.Tales.{put_by}
use Rattle.qz_turn.specs.Rule.{IsWell, Kept, tickets, tickets_of, count_of_numbers, one_if, times_at, put_at}
use Rattle.qz_turn.specs.Steps.{joining, compared, compares}
use Rattle.qz_turn.proofs.Prefixes.{follows_blank, follows_merged, one_of_two}
use Rattle.qz_turn.proofs.Frames.{never_rests, all_set, sum_set, value_set}

no_key : {K : Type 0} (k : K) → None ≡ Some k → ⊥
no_key k e = cc

-- two seats that have no turn where they have no number, together
idle_both : {I : Type 0} (ns ms : List ℕ) (ts us : List (Turn I)) → (ns ≡ [] → ts ≡ []) → (ms ≡ [] → us ≡ []) → ns ++ ms ≡ [] → ts ++ us ≡ []
idle_both [] ms ts us one two none = ap (λ (l : List _). l ++ us) (one refl) ∙ two none
idle_both (n ∷ ns) ms ts us one two none = absurd (cc none)

module _ {I K S : Type 0} (tells : S → Tale I) (fits : K → S → Type 0) (key : K) (seats start : ℕ) where
  pub keeps_join : (id : ℕ) (v : View I K) (other : ℕ) (w : View I K) → w.stage ≡ Resting → Joins (Kept tells fits key seats start) id v other w (joining v w) spent_view
  keeps_join id v other w rests s h at apart there =
      let b = joining v w in
      let vs = set s.views id b in
      let before : get_elem? s.views other ≡ some w = sym (set_else s.views id other b apart) ∙ there in
      let mine = h.each id v at in
      let theirs = h.each other w before in
      let none_held : tickets w ≡ 0 = ap tickets_of rests in
      let more = length-append v.numbers w.numbers in record {
        base = h.base;
        queue = h.queue;
        tale = h.tale;
        words = h.words;
        few = h.few;
        drawn = let one = sum_set tickets s.views id v b at in let two = sum_set tickets vs other w spent_view there in let was = h.drawn in omega arith;
        dealt = let one = sum_set count_of_numbers s.views id v b at in let two = sum_set count_of_numbers vs other w spent_view there in let was = h.dealt in omega arith;
        once = λ x. let one = sum_set (times_at x) s.views id v b at in let two = sum_set (times_at x) vs other w spent_view there in let both = sum_by-append (one_if x) v.numbers w.numbers in let was = h.once x in omega arith;
        grown = let one = sum_set put_at s.views id v b at in let two = sum_set put_at vs other w spent_view there in let both = sum_by-append put_by v.turns w.turns in let was = h.grown in omega arith;
        each = all_set (IsWell key h.base h.queue h.tale) vs other spent_view
            record { keyed = λ k e. absurd (no_key k e); stands = tt; numbered = omega arith; idle = λ none. refl; seen = follows_blank h.tale; beside = follows_blank h.tale }
            (λ j u _ e. all_set (IsWell key h.base h.queue h.tale) s.views id b
            record { keyed = mine.keyed; stands = mine.stands; numbered = let was = mine.numbered in omega arith; idle = idle_both v.numbers w.numbers v.turns w.turns mine.idle theirs.idle; seen = mine.seen; beside = theirs.seen }
            (λ i t _ e'. h.each i t e') j u e);
        value = value_set tells fits key h.tale record { words = s.words; homes = s.homes; views = vs } s.words other w spent_view there (λ serves. absurd (never_rests w.stage rests serves)) (λ serves. absurd (never_rests Resting refl serves))
            (value_set tells fits key h.tale s s.words id v b at (λ serves. (serves, refl)) (λ serves. serves) h.value);
      }

  pub keeps_compare : (slots id : ℕ) (m : Me S (View I K)) (st : Step S) → Allows (Kept tells fits key seats start) slots id m 0 (λ n. n) (compares st m)
  keeps_compare slots id m st s h homes at small =
      let v = m.0 in
      let w = compared v in
      let mine = h.each id v at in (
        w,
        keeps,
        tt,
        record {
          base = h.base;
          queue = h.queue;
          tale = h.tale;
          words = set-get_or s.words 0 0 ∙ h.words;
          few = h.few;
          drawn = let sums = sum_set tickets s.views id v w at in let was = h.drawn in omega arith;
          dealt = let sums = sum_set count_of_numbers s.views id v w at in let was = h.dealt in omega arith;
          once = λ x. let sums = sum_set (times_at x) s.views id v w at in let was = h.once x in omega arith;
          grown = let sums = sum_set put_at s.views id v w at in let was = h.grown in omega arith;
          each = all_set (IsWell key h.base h.queue h.tale) s.views id w
              record { keyed = mine.keyed; stands = mine.stands; numbered = mine.numbered; idle = mine.idle; seen = follows_merged v.seen v.beside h.tale mine.seen mine.beside; beside = mine.beside }
              (λ j u _ e. h.each j u e);
          value = value_set tells fits key h.tale s _ id v w at (λ serves. (serves, refl)) (λ serves. serves) h.value;
        },
        record { after = refl; one_list = one_of_two v.seen.list v.beside.list h.tale.list mine.seen.begins mine.beside.begins },
      )
