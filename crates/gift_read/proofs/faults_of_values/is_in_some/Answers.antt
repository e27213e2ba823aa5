use Rattle.std.proofs.Common.{◌≡◌, Bool, false, ◌||◌, sym, ap, ◌∙◌}
use Rattle.std.specs.List.{list_any}
use Rattle.gift_read.specs.Flaws.{has_flaw}
use Rattle.gift_read.specs.Parts.{cut}
use Rattle.gift_read.specs.Places.{is_at}
use Rattle.gift_read.proofs.PieceLemmas.{list_any-cut}
use Rattle.gift_read.proofs.faults_of_values.is_in_some.Goals as goal

pub loop-after-init : goal.loop-after-init
loop-after-init c =
    list_any-cut c.args.flaw (is_at c.args.begins) 0 c.in-Some.field-0-0 c.in-Some.rest.now ∙ ap (list_any (has_flaw c.args.flaw)) (sym c.in-Some.ensures)

pub loop-after-preserved : goal.loop-after-preserved
loop-after-preserved c =
    let test = has_flaw c.args.flaw in
    let next = c.in-Some-next.field-0-0 in
    let after = c.in-Some-next.after.now in
    let step = (rw c.in-Some-next.is at c.split_piece.ensures.pieces) 0 in
    let clean : test (0, c.split_piece.result.0.now) ≡ false = sym (c.in_ok-is_in.ensures 0) ∙ c.if-branch.false in
    let passed = ap (list_any test) step ∙ ap (λ (b : Bool). b || list_any test (cut (is_at c.args.begins) next after)) clean in
    list_any-cut c.args.flaw (is_at c.args.begins) 0 next after ∙ sym passed ∙ c.loop-after.invariant
