use Rattle.gift_lex.specs.declared.block.Piece.TheVariants.{Escaped}
use Rattle.gift_read.specs.Places.{is_at}
use Rattle.gift_read.proofs.PartLemmas.{cut-first, later-none, later-some, behind_from-shorter}
use Rattle.gift_read.proofs.parts.split_piece.Goals as goal

pub returns-in-empty-clause-pieces : goal.returns-in-empty-clause-pieces
returns-in-empty-clause-pieces c sign =
    let none = later-none (is_at c.args.begins) c.split.result.1.now c.in-empty.len_below in
    rw (c.split.ensures.before, ← none, c.split.ensures.from) (cut-first (is_at c.args.begins) c.args.marks.now sign)

pub returns-in-len1-up-clause-pieces : goal.returns-in-len1-up-clause-pieces
returns-in-len1-up-clause-pieces c sign =
    let some = later-some (is_at c.args.begins) c.split.result.1.now (Escaped 0) c.in-len1-up.len_at_least in
    rw (c.character.ensures, ← some, c.split.ensures.before, c.split.ensures.from) (cut-first (is_at c.args.begins) c.args.marks.now sign)

pub returns-in-len1-up-clause-shorter : goal.returns-in-len1-up-clause-shorter
returns-in-len1-up-clause-shorter c =
    let some = rw c.split.ensures.from at c.in-len1-up.len_at_least in
    rw c.split.ensures.from (behind_from-shorter (is_at c.args.begins) c.args.marks.now some)
