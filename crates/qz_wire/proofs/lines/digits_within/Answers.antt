use Rattle.std.proofs.Common.{◌+◌, get_or, arith, ap, ◌∙◌, below_more}
use Rattle.std.specs.Int.{IsInRange}
use Rattle.std.specs.Str.Parse.{digits_value}
use Rattle.std.proofs.lemmas.Bool.Decides.{nat_tests}
use Rattle.std.proofs.lemmas.List.{take_all}
use Rattle.qz_wire.proofs.NumberLemmas.{digits_value-next, no_digit, too_great, small_digits}
use Rattle.qz_wire.proofs.lines.digits_within.Goals as goal
use Rattle.qz_wire.proofs.lines.digits_within.Goals.{Then-value-from, Else-value-from}

pub returns-then-not-is_ascii_digit-clause-value : goal.returns-then-not-is_ascii_digit-clause-value
returns-then-not-is_ascii_digit-clause-value c =
    let test = c.if-not-is_ascii_digit.ensures.value in
    no_digit c.args.most c.args.word.now c.loop-digit.digit-index (omega arith) (λ h. grind (arith, nat_tests))

pub returns-then-value-from-clause-value : goal.returns-then-value-from-clause-value
returns-then-value-from-clause-value c =
    let test = c.if-not-is_ascii_digit.ensures.value in
    let digit : IsInRange 48 57 (get_or c.args.word.now c.loop-digit.digit-index 0) = grind (arith, nat_tests) in
    let next = digits_value-next c.args.word.now c.loop-digit.digit-index (omega arith) digit in
    too_great c.args.most c.args.word.now (c.loop-digit.digit-index + 1) (omega (arith, next, c.loop-digit.invariant.value))

pub loop-digit-preserved : goal.loop-digit-preserved
loop-digit-preserved c =
    let test = c.if-not-is_ascii_digit.ensures.value in
    let digit : IsInRange 48 57 (get_or c.args.word.now c.loop-digit.digit-index 0) = grind (arith, nat_tests) in
    let next = digits_value-next c.args.word.now c.loop-digit.digit-index (omega arith) digit in
    record {
      digits = below_more _ _ c.loop-digit.invariant.digits digit;
      value = omega (arith, next, c.loop-digit.invariant.value);
      small = omega arith;
    }

pub returns-clause-value : goal.returns-clause-value
returns-clause-value c =
    small_digits c.args.most c.loop-digit.value c.args.word.now (λ i lt. c.loop-digit.invariant.digits i (omega arith))
    (c.loop-digit.invariant.value ∙ ap (digits_value 10) (take_all c.loop-digit.digit-index c.args.word.now (omega arith)))
    c.loop-digit.invariant.small
