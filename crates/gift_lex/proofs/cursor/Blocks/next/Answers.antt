use Rattle.std.proofs.Common.{◌≡◌, ◌+◌, ◌++◌, refl, sym, ◌∙◌}
use Rattle.std.specs.List.{enumerate_from}
use Rattle.std.specs.Option.{option_to_list}
use Rattle.std.specs.Str.{chars}
use Rattle.std.proofs.lemmas.Bool.{eqb-true}
use Rattle.std.proofs.lemmas.List.{nil_from_length}
use Rattle.gift_lex.specs.Gathering.{gathered, split_lines, to_come}
use Rattle.gift_lex.proofs.ComingLemmas.{gathered-first, gathered-last, last_block, to_come-gathered, to_come-nothing, coming-block, coming-none}
use Rattle.gift_lex.proofs.cursor.Blocks.next.Goals as goal
use Rattle.gift_lex.proofs.cursor.Blocks.next.Goals.{In_ok-block}

pub loop-alloc-init : goal.loop-alloc-init
loop-alloc-init c = record { utf8 = c.self.invariant; same = to_come-gathered c.self.inside.taken (chars c.self.inside.rest.now) }

-- a line is taken
stepped : (c : In_ok-block) → option_to_list c.in_ok-block.field-0 ++ gathered c.take_line.new.started (enumerate_from (c.in_ok-self-inside.field-0 + 1) (split_lines (chars c.unwrap_or-self-inside.result.now)))
    ≡ to_come c.self.inside.taken (chars c.self.inside.rest.now)
stepped c =
    let counted = rw c.in_ok-self-inside.ensures.ok_part at c.checked_add.ensures in
    sym (gathered-first c.loop-alloc.started c.take_line.new.started c.loop-alloc.self-inside.taken c.in_ok-self-inside.field-0 c.loop-alloc.self-inside.rest.now (chars c.split_line.result.0.now) c.split_line.result.1 _ c.unwrap_or-self-inside.result c.in_ok-block.field-0 counted.1 refl c.unwrap_or-self-inside.ensures c.split_line.ensures.lines c.in_ok-block.ensures.taken)
    ∙ c.loop-alloc.invariant.same

pub returns-in-Some : goal.returns-in-Some
returns-in-Some c =
    sym c.self.view_is ∙ sym (stepped (goal.at.returns-in-Some c).In_ok-block)
    ∙ coming-block c.in_ok-block.field-0 c.in-Some.block c.take_line.new.started c.in_ok-self-inside.field-0 (chars c.unwrap_or-self-inside.result.now) c.in-Some.is c.in_ok-block.ensures.over

pub loop-alloc-preserved : goal.loop-alloc-preserved
loop-alloc-preserved c = record {
  utf8 = c.unwrap_or-self-inside.utf8;
  same = sym (coming-none c.in_ok-block.field-0 _ c.in_default.is) ∙ stepped (goal.at.loop-alloc-preserved c).In_ok-block;
}

pub returns : goal.returns
returns c =
    let empty = nil_from_length c.loop-alloc.self-inside.rest.now (eqb-true _ _ (sym c.loop-alloc-test.ensures)) in
    last_block c.end.result _ _ (c.end.ensures.block ∙ sym (gathered-last c.loop-alloc.started c.loop-alloc.self-inside.taken c.loop-alloc.self-inside.rest.now empty) ∙ c.loop-alloc.invariant.same ∙ c.self.view_is) (to_come-nothing c.loop-alloc.self-inside.taken c.loop-alloc.self-inside.rest.now empty)
