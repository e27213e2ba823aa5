use Rattle.gift_lex.proofs.Breaks.{split_lines-whole, split_lines-first, IsCharBoundary-break}
use Rattle.gift_lex.proofs.lines.split_line.Goals as goal

pub split_at-requires : goal.split_at-requires
split_at-requires c = IsCharBoundary-break c.args.text.now c.in-Some.at c.in-Some.ensures

pub returns-in-None-clause-lines : goal.returns-in-None-clause-lines
returns-in-None-clause-lines c = split_lines-whole c.args.text.now c.utf8.text c.in-None.ensures

pub returns-in-Some-clause-lines : goal.returns-in-Some-clause-lines
returns-in-Some-clause-lines c =
    rw (c.after_break.ensures.rest, c.split_at.ensures.front, c.split_at.ensures.back) (split_lines-first c.args.text.now c.in-Some.at c.utf8.text c.in-Some.ensures)
