use Rattle.std.proofs.Common.{ℕ, List, ◌++◌, ap, ◌∙◌}
use Rattle.std.specs.Prelude.{codes}
use Rattle.std.specs.Fmt.{styled_decimal}
use Rattle.qz_folders.proofs.Naming.{padded_to_two}
use Rattle.qz_folders.proofs.names.part_name.Goals as goal

pub returns : goal.returns
returns c =
    c.in_ok-format.ensures.ok
    ∙ ap (λ s. codes "part-" ++ (styled_decimal s c.args.shard ++ codes ".jnl")) c.laid_out.ensures
    ∙ ap (λ (t : List ℕ). codes "part-" ++ (t ++ codes ".jnl")) (padded_to_two c.args.shard)
