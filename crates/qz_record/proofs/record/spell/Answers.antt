use Rattle.std.proofs.Common.{◌≡◌, ℕ, List, length, ap, arith, rules}
use Rattle.qz_terms.specs.Spelling.{spelling}
use Rattle.qz_record.proofs.Parsing.{kept-asks}
use Rattle.qz_record.proofs.record.spell.Goals as goal

pub returns-clause-fits : goal.returns-clause-fits
returns-clause-fits c = λ kept short.
    let whole : c.write_record.new.out.items ≡ spelling c.args.record.now = search rules in
    let same : length c.write_record.new.out.items ≡ length (spelling c.args.record.now) = ap (λ (bytes : List ℕ). length bytes) whole in
    (c.in_ok-write_record.ensures.fits (kept-asks c.args.record.now kept)).fits (omega (arith, same, short))
