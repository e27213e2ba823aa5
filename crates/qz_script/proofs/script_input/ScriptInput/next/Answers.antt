use Rattle.std.proofs.Common.{arith, refl}
use Rattle.std.proofs.lemmas.Result.{err_from_is_err_and}
use Rattle.qz_script.specs.Inputs.{Ends, GoesOn}
use Rattle.qz_script.proofs.InputLemmas.{begins, gives_line, gives_last, goes_on, holds_line, never_unfed, stops_next}
use Rattle.qz_script.proofs.script_input.ScriptInput.next.Goals as goal

pub loop-longer-init : goal.loop-longer-init
loop-longer-init g c = record { begun = begins _ _ _ c.empty-line.result c.empty-line.ensures; room = c.requires; prompt = λ fed. (refl, refl) }

pub returns-then-ended-clause-given : goal.returns-then-ended-clause-given
returns-then-ended-clause-given g c =
    let ends : Ends c.loop-longer.self c.lengthen.new.self c.loop-longer.line c.in_ok-longer.longer = rw c.if-ended.true at c.in_ok-longer.ensures.longer in
    gives_line _ _ _ _ _ _ _ _ _ c.loop-longer.invariant.begun ends

pub returns-in_err-fill-clause-given : goal.returns-in_err-fill-clause-given
returns-in_err-fill-clause-given g c =
    let p = err_from_is_err_and c.from_residual-in_err-fill.result c.from_residual-in_err-fill.ensures.1 in
    let held : GoesOn c.loop-longer.self c.lengthen.new.self c.loop-longer.line c.in_ok-longer.longer = rw c.if-ended.false at c.in_ok-longer.ensures.longer in
    rw (p.1, p.2) (stops_next _ _ _ _ _ _ _ _ _ c.in_err-fill.field-0.0 (holds_line _ _ _ _ _ _ _ _ _ c.loop-longer.invariant.begun held) c.in_err-fill.ensures)

pub returns-then-not-branch-clause-given : goal.returns-then-not-branch-clause-given
returns-then-not-branch-clause-given g c =
    let held : GoesOn c.loop-longer.self c.lengthen.new.self c.loop-longer.line c.in_ok-longer.longer = rw c.if-ended.false at c.in_ok-longer.ensures.longer in
    let filled = rw c.if-not-branch.true at c.in_ok-fill.ensures in
    rw c.given_last.ensures (gives_last _ _ _ _ _ _ _ _ _ _ (holds_line _ _ _ _ _ _ _ _ _ c.loop-longer.invariant.begun held) filled)

pub loop-longer-preserved : goal.loop-longer-preserved
loop-longer-preserved g c =
    let held : GoesOn c.loop-longer.self c.lengthen.new.self c.loop-longer.line c.in_ok-longer.longer = rw c.if-ended.false at c.in_ok-longer.ensures.longer in
    let filled = rw c.if-not-branch.false at c.in_ok-fill.ensures in
    record { begun = goes_on _ _ _ _ _ _ _ _ _ _ (holds_line _ _ _ _ _ _ _ _ _ c.loop-longer.invariant.begun held) filled; room = omega arith; prompt = λ fed. absurd (never_unfed _ _ c.loop-longer.invariant.prompt held.unfed fed) }

pub returns-in_err-fill-clause-prompt : goal.returns-in_err-fill-clause-prompt
returns-in_err-fill-clause-prompt g c = λ fed.
    let held : GoesOn c.loop-longer.self c.lengthen.new.self c.loop-longer.line c.in_ok-longer.longer = rw c.if-ended.false at c.in_ok-longer.ensures.longer in
    absurd (never_unfed _ _ c.loop-longer.invariant.prompt held.unfed fed)

pub returns-then-not-branch-clause-prompt : goal.returns-then-not-branch-clause-prompt
returns-then-not-branch-clause-prompt g c = λ fed.
    let held : GoesOn c.loop-longer.self c.lengthen.new.self c.loop-longer.line c.in_ok-longer.longer = rw c.if-ended.false at c.in_ok-longer.ensures.longer in
    absurd (never_unfed _ _ c.loop-longer.invariant.prompt held.unfed fed)
