use Rattle.std.proofs.Common.{◌<◌, length, arith, sym, add-one}
use Rattle.std.proofs.lemmas.Bool.{eqb-false}
use Rattle.qz_wire.proofs.LineLemmas.{first_at, one_line}
use Rattle.qz_wire.proofs.lines.split_line.Goals as goal

pub split_at-requires : goal.split_at-requires
split_at-requires c = omega (arith, (first_at c.args.text.now c.in-Some.end (sym c.in-Some.ensures)).inside)

pub split_at-requires-in-Some : goal.split_at-requires-in-Some
split_at-requires-in-Some c = omega (arith, (first_at c.args.text.now c.in-Some.end (sym c.in-Some.ensures)).inside)

pub returns-in-None-clause-line : goal.returns-in-None-clause-line
returns-in-None-clause-line c =
    let some : 0 < length c.args.text.now = omega (arith, eqb-false (length c.args.text.now) 0 (sym c.if-is_empty.ensures)) in
    one_line c.args.text.now some (sym c.in-None.ensures)

pub returns-in-Some-clause-line : goal.returns-in-Some-clause-line
returns-in-Some-clause-line c =
    let first = first_at c.args.text.now c.in-Some.end (sym c.in-Some.ensures) in
    rw (c.split_at.ensures.front, c.split_at-in-Some.ensures.back, add-one) first.lines
