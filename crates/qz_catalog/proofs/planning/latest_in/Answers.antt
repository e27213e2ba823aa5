use Rattle.std.proofs.Common.{ℕ, Option, ap, ◌∙◌}
use Rattle.std.specs.Prelude.{unwrap_or}
use Rattle.qz_catalog.proofs.planning.latest_in.Goals as goal

pub returns : goal.returns
returns c = λ list follows. c.unwrap_or.ensures ∙ ap (λ (o : Option ℕ). unwrap_or o 0) c.latest.ensures ∙ c.follows_the_records.ensures.latest list c.args.entries.now c.args.entry follows
