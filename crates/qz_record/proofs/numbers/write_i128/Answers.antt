use Rattle.std.proofs.Common.{ℕ, List, ◌++◌, ap, ◌∙◌, ℤ}
use Rattle.std.specs.Int.{w128}
use Rattle.std.proofs.lemmas.Int.{to_z-of_z}
use Rattle.qz_terms.specs.Spelling.{wide_bytes}
use Rattle.qz_record.proofs.numbers.write_i128.Goals as goal

pub returns-clause-appends : goal.returns-clause-appends
returns-clause-appends c =
    c.in_ok-extend_from_slice.ensures.items
    ∙ ap (λ (bytes : List ℕ). c.args.out.now.items ++ bytes) c.to_le_bytes.ensures
    ∙ ap (λ (z : ℤ). c.args.out.now.items ++ wide_bytes z) (to_z-of_z w128 c.args.number c.ranges.number)
