use Rattle.std.proofs.Common.{◌≡◌, get_or, take, arith, ap, ◌∙◌, below_more, Some}
use Rattle.std.specs.Int.{IsInRange}
use Rattle.std.specs.Str.Parse.{digits_value}
use Rattle.std.proofs.lemmas.Bool.Decides.{nat_tests}
use Rattle.std.proofs.lemmas.List.{take_all}
use Rattle.qz_wire.proofs.NumberLemmas.{digits_value-next}
use Rattle.qz_http.proofs.SizeLemmas.{front_small, no_size, some_size}
use Rattle.qz_http.proofs.fields.size_in.Goals as goal

pub returns-then-not-is_ascii_digit : goal.returns-then-not-is_ascii_digit
returns-then-not-is_ascii_digit c =
    let test = c.if-not-is_ascii_digit.ensures.value in
    no_size c.args.value.now c.loop-digit.digit-index (omega arith) (λ h. grind (arith, nat_tests))

pub overflow_mul-size : goal.overflow_mul-size
overflow_mul-size c =
    omega (arith, c.loop-digit.invariant.size, front_small c.args.value.now c.loop-digit.digit-index (omega arith) (omega arith) c.loop-digit.invariant.digits)

pub overflow_add-size : goal.overflow_add-size
overflow_add-size c =
    omega (arith, c.loop-digit.invariant.size, c.type_inv.value c.loop-digit.digit-index, front_small c.args.value.now c.loop-digit.digit-index (omega arith) (omega arith) c.loop-digit.invariant.digits)

pub loop-digit-preserved : goal.loop-digit-preserved
loop-digit-preserved c =
    let test = c.if-not-is_ascii_digit.ensures.value in
    let digit : IsInRange 48 57 (get_or c.args.value.now c.loop-digit.digit-index 0) = grind (arith, nat_tests) in
    let next = digits_value-next c.args.value.now c.loop-digit.digit-index (omega arith) digit in
    record {
      digits = below_more _ _ c.loop-digit.invariant.digits digit;
      size = omega (arith, next, c.loop-digit.invariant.size);
    }

pub returns : goal.returns
returns c =
    let whole : take c.loop-digit.digit-index c.args.value.now ≡ c.args.value.now = take_all c.loop-digit.digit-index c.args.value.now (omega arith) in
    ap (λ n. Some n) (c.loop-digit.invariant.size ∙ ap (digits_value 10) whole) ∙ some_size c.args.value.now (let empty = c.is_empty.ensures in let test = c.if-is_empty.false in grind (arith, nat_tests)) (omega arith) (λ i lt. c.loop-digit.invariant.digits i (omega arith))
