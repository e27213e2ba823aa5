-- The numbers are dealt one after the other, each to a pass of its own.
use Rattle.std.proofs.Common.{◌≡◌, ℕ, suc, ◌+◌, ◌-◌, ◌<◌, List, [], ◌∷◌, ◌++◌, map, take, drop, refl, ap, sym, ◌∙◌, subst, arith}
use Rattle.std.specs.List.{range_with_len}
use Rattle.std.proofs.lemmas.List.FromFn.{map-range_with_len_more}
use Rattle.atomic_table.specs.Table.{Me}
use Rattle.atomic_table.specs.Seated.{TableId}
use Rattle.qz_turn.specs.declared.view.Stage.TheVariants.{Resting}
use Rattle.qz_turn.specs.declared.view.Turn.{Turn}
use Rattle.qz_turn.specs.declared.view.View.{View}
use Rattle.qz_turn.specs.Passes.{Standing, standing_at}
use Rattle.qz_turn.specs.Rule.{below}
use Rattle.qz_turn.specs.Tales.{turns_given, turns_kept}
use Rattle.qz_turn.specs.Steps.{MayDeal, dealing, dealt_to}
use Rattle.qz_turn.specs.Turns.{dealt_pass}

-- the seat m has the numbers from `number` on, and the passes have those before
pub record Deals {I K S : Type 0} (id : TableId) (v : View I K) (count number : ℕ) (m : Me S (View I K)) (passes : List (Standing I K)) : Type 0 where
  pub rests : m.0.stage ≡ Resting
  pub bare : m.1 ≡ []
  pub key : m.0.key ≡ v.key
  pub numbers : m.0.numbers ≡ range_with_len number (count - number)
  pub found : m.0.found ≡ v.seen
  pub seen : m.0.seen ≡ v.seen
  pub fresh : m.0.turns ≡ []
  pub passes_are : passes ≡ map (dealt_pass id v) (below number)

module _ {I : Type 0} where
  none_kept : (ns : List ℕ) (ts : List (Turn I)) → ts ≡ [] → turns_kept ns ts ≡ []
  none_kept [] ts none = refl
  none_kept (n ∷ ns) ts none = none

  none_given : (ns : List ℕ) (ts : List (Turn I)) → ts ≡ [] → turns_given ns ts ≡ []
  none_given [] ts none = none
  none_given (n ∷ ns) ts none = refl

module _ {I K S : Type 0} (id : TableId) (count : ℕ) where
  pub deals_none : (m : Me S (View I K)) (passes : List (Standing I K)) → MayDeal count m → passes ≡ [] → Deals id m.0 count 0 m passes
  deals_none m passes may none = record { rests = may.rests; bare = may.bare; key = refl; numbers = may.numbers ∙ ap (range_with_len 0) (omega arith); found = may.found; seen = refl; fresh = may.fresh; passes_are = none }

  pub deals_one : (v : View I K) (number : ℕ) (m m' : Me S (View I K)) (passes : List (Standing I K)) (pass : Standing I K) → Deals id v count number m passes → number < count
      → m' ≡ (dealing m.0, m.1) → pass ≡ standing_at id (dealt_to m.0) → Deals id v count (number + 1) m' (passes ++ pass ∷ [])
  deals_one v number m m' passes pass was left next is =
      let some_left : count - number ≡ suc (count - (number + 1)) = omega arith in
      let run : m.0.numbers ≡ number ∷ range_with_len (number + 1) (count - (number + 1)) = was.numbers ∙ ap (range_with_len number) some_left in
      let dealt : pass ≡ dealt_pass id v number = is ∙ (λ i. record { lock = record { table = id; key = was.key i }; numbers = take 1 (run i); found = was.found i; seen = was.seen i; turns = none_given (drop 1 m.0.numbers) m.0.turns was.fresh i }) in record {
        rests = ap (λ z. z.0.stage) next ∙ was.rests;
        bare = ap (λ z. z.1) next ∙ was.bare;
        key = ap (λ z. z.0.key) next ∙ was.key;
        numbers = ap (λ z. z.0.numbers) next ∙ ap (drop 1) run;
        found = ap (λ z. z.0.found) next ∙ was.found;
        seen = ap (λ z. z.0.seen) next ∙ was.seen;
        fresh = ap (λ z. z.0.turns) next ∙ none_kept (drop 1 m.0.numbers) m.0.turns was.fresh;
        passes_are = (λ i. was.passes_are i ++ dealt i ∷ []) ∙ sym (map-range_with_len_more (dealt_pass id v) 0 number number (omega arith));
      }

  -- the same, as the calls tell it
  pub deals_on : (v : View I K) (number : ℕ) (m m' given : Me S (View I K)) (of : TableId) (passes longer : List (Standing I K)) (pass : Standing I K) → Deals id v count number m passes → number < count
      → m' ≡ (dealing m.0, m.1) → given ≡ (dealt_to m.0, []) → of ≡ id → pass ≡ standing_at of given.0 → longer ≡ passes ++ pass ∷ [] → Deals id v count (number + 1) m' longer
  deals_on v number m m' given of passes longer pass was left next is same stands more =
      subst (Deals id v count (number + 1) m') (sym more) (deals_one v number m m' passes pass was left next (stands ∙ (λ i. standing_at (same i) (is i).0)))
