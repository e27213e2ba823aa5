use Rattle.std.proofs.Common.{ℕ, rules, tests, sym, ap, ◌∙◌}
use Rattle.std.specs.List.{list_any}
use Rattle.std.specs.Prelude.{◌==◌}
use Rattle.std.proofs.lemmas.Iterator.{YieldsList-from_slice}
use Rattle.std.proofs.lemmas.Iterator.Search.{any_from_yields_List}
use Rattle.qz_stats.specs.Picks.{picks}
use Rattle.qz_stats.proofs.numbers.picks.Goals as goal

pub returns-in-Picks : goal.returns-in-Picks
returns-in-Picks c =
    any_from_yields_List (λ (n : ℕ). n == c.args.number) _ _ _ c.any.ensures.ran (YieldsList-from_slice c.as_slice.result.now cc) (λ x b q k. search (rules, tests))
    ∙ (ap (list_any (λ (n : ℕ). n == c.args.number)) c.as_slice.ensures ∙ sym (ap (picks c.args.number) c.in-Picks.is))
