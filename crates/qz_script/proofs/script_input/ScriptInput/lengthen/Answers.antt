use Rattle.std.proofs.Common.{drop, ap, ◌∙◌}
use Rattle.std.proofs.lemmas.List.{take_rest}
use Rattle.qz_script.proofs.InputLemmas.{ends_at}
use Rattle.qz_script.proofs.script_input.ScriptInput.lengthen.Goals as goal

pub returns-in_ok-longer-in-Some-clause-longer : goal.returns-in_ok-longer-in-Some-clause-longer
returns-in_ok-longer-in-Some-clause-longer c =
    rw (← c.self.view_is)
    (ends_at c.self.inside.piece.items _ c.in-Some.piece.now c.in-Some.field-0-1.now c.self.inside.at c.self.inside.read c.self.inside.limit c.args.line c.in_ok-longer-in-Some.longer
    (take_rest c.deref.result.now c.self.inside.at ∙ ap (drop c.self.inside.at) c.deref.ensures.value) c.in-Some.ensures c.in_ok-longer-in-Some.ensures c.self.invariant.1)
