use Rattle.std.proofs.Common.{◌≡◌, ◌^◌, ◌++◌, ◌%◌, ◌∙◌, List, ℕ, sym, ap, arith, string_bytes}
use Rattle.qz_grading.proofs.DigitLemmas.{whole_number}
use Rattle.qz_grading.proofs.spelled.size_onto.Goals as goal

pub returns-then-part-eq0 : goal.returns-then-part-eq0
returns-then-part-eq0 c =
    let none : c.args.units % 10 ^ 10 ≡ 0 = omega (arith, c.if-part-eq0.true) in
    c.in_ok-write.ensures.bytes ∙ ap (λ (t : List ℕ). string_bytes c.args.out.now ++ t) (sym (whole_number 10 c.args.units none))
