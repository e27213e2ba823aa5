-- Seven digits of the part, with zeros in front.
use Rattle.std.proofs.Common.{◌≡◌, ◌++◌, ◌%◌, List, ℕ, refl, sym, ap, append_assoc, ◌∙◌, string_bytes, ◌/◌, ◌∷◌}
use Rattle.std.specs.Prelude.{codes}
use Rattle.std.proofs.Padding.{padded_integral_zeros}
use Rattle.std.specs.Fmt.{decimal, styled_decimal, format_spec}
use Rattle.qz_grading.specs.Words.{in_digits}
use Rattle.qz_bulk.proofs.bulk_school.units_onto.Goals as goal

seven : (n : ℕ) → styled_decimal (format_spec 32 0 4 7 18446744073709551615) n ≡ in_digits 7 n
seven n = padded_integral_zeros (format_spec 32 0 4 7 18446744073709551615) (decimal n) refl refl

pub returns : goal.returns
returns c =
    c.in_ok-write.ensures.bytes
    ∙ ap (λ s. string_bytes c.args.out.now ++ (decimal (c.args.units / 10000000) ++ 46 ∷ styled_decimal s (c.args.units % 10000000))) c.laid_out.ensures
    ∙ ap (λ (t : List ℕ). string_bytes c.args.out.now ++ (decimal (c.args.units / 10000000) ++ 46 ∷ t)) (seven (c.args.units % 10000000))
    ∙ ap (λ (t : List ℕ). string_bytes c.args.out.now ++ t) (sym (append_assoc (decimal (c.args.units / 10000000)) (codes ".") (in_digits 7 (c.args.units % 10000000))))
