use Rattle.std.proofs.Common.{ℕ, List, ◌++◌, ap, sym}
use Rattle.std.specs.Prelude.{codes}
use Rattle.qz_folders.proofs.Naming.{two_digits}
use Rattle.qz_loading.proofs.names.part_name.Goals as goal

pub returns : goal.returns
returns c = sym (ap (λ (d : List ℕ). codes "part-" ++ d ++ codes ".jnl") (two_digits c.args.shard c.requires))
