use Rattle.std.proofs.Common.{Option, None, sym, ap, ◌∙◌}
use Rattle.std.specs.Prelude.{unwrap_or}
use Rattle.qz_terms.specs.declared.access.Override.{Override}
use Rattle.qz_terms.specs.declared.request.Whom.{Whom}
use Rattle.qz_terms.specs.Catalog.{override}
use Rattle.qz_roster.proofs.overrides.Overrides.of.Goals as goal

pub returns-in_ok-get-in-User : goal.returns-in_ok-get-in-User
returns-in_ok-get-in-User c = λ list are.
    ap (λ (o : Option (Option Override)). unwrap_or o None) c.in_ok-get-in-User.ensures.value ∙ are.each c.args.quiz _ c.args.number ∙ ap (λ (w : Whom). override list c.args.quiz w c.args.number) (sym c.in-User.is)

pub returns-in_ok-get-in-Group : goal.returns-in_ok-get-in-Group
returns-in_ok-get-in-Group c = λ list are.
    ap (λ (o : Option (Option Override)). unwrap_or o None) c.in_ok-get-in-Group.ensures.value ∙ are.each c.args.quiz _ c.args.number ∙ ap (λ (w : Whom). override list c.args.quiz w c.args.number) (sym c.in-Group.is)
