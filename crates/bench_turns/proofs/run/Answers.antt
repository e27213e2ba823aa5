use Rattle.std.proofs.Common.{◌≡◌, ◌≢◌, ℕ, [], map, rules, refl, sym, subst, ◌∙◌}
use Rattle.std.specs.List.{All}
use Rattle.std.proofs.lemmas.List.Elements.{All-map}
use Rattle.qz_turn.specs.declared.view.Tale.{Tale}
use Rattle.qz_turn.specs.Passes.{Lock, Standing}
use Rattle.qz_turn.specs.Rule.{below}
use Rattle.qz_turn.specs.Turns.{new_pass}
use Rattle.bench_turns.proofs.run.Goals as goal

module _ {I K : Type 0} (lock : Lock K) where
  abbrev HasPart : Standing I K → Type 0
  HasPart p = (p.lock ≡ lock) × (p.numbers ≢ [])

  has_part : (tale : Tale I) (n : ℕ) → HasPart (new_pass lock tale n)
  has_part tale n = (refl, search rules)

  have_parts : (tale : Tale I) (seats : ℕ) → All HasPart (map (new_pass lock tale) (below seats))
  have_parts tale seats = All-map HasPart (new_pass lock tale) (below seats) (λ k d lt. has_part tale _)

pub run_all-requires-clause-passes : goal.run_all-requires-clause-passes
run_all-requires-clause-passes g c κs within =
    subst (All (HasPart c.in-Ok.made.0.lock)) (sym (c.as_mut_slice.ensures.value ∙ c.in-Ok.ensures.passes)) (have_parts c.in-Ok.made.0.lock _ c.args.threads)
