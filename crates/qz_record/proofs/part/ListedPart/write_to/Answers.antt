use Rattle.std.proofs.Common.{◌≡◌, subst, take, ◌∙◌, arith}
use Rattle.std.proofs.lemmas.List.{take_all}
use Rattle.qz_record.proofs.Fitting.{AreFit, list}
use Rattle.qz_record.proofs.part.ListedPart.write_to.Goals as goal

pub returns-clause-fits : goal.returns-clause-fits
returns-clause-fits g c =
    let all : take c.loop-item.item-index c.as_slice-item-items.result.now ≡ c.args.self.now = take_all c.loop-item.item-index c.as_slice-item-items.result.now (omega (arith, c.loop-item-test.false)) ∙ c.as_slice-item-items.ensures in
    list g.T.Part.field g.T.Part.bytes c.args.self.now (subst (AreFit g.T.Part.field g.T.Part.bytes) all c.loop-item.invariant.fit)
