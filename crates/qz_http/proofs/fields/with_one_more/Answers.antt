use Rattle.std.proofs.Common.{◌∙◌, subst, [], ap, ◌++◌, ◌∷◌}
use Rattle.std.specs.Prelude.{option_copied}
use Rattle.qz_http.specs.Found.{Finds, with_value}
use Rattle.qz_http.proofs.FieldLemmas.{second, further}
use Rattle.qz_http.proofs.fields.with_one_more.Goals as goal

pub returns-in-One : goal.returns-in-One
returns-in-One c = λ before finds.
    let only = subst (λ f. Finds before f) c.in-One.is finds in
    (c.in-Some.value.now, [], ap (λ v. with_value before (option_copied v)) c.in-Some.is ∙ second before c.in-One.first.now c.in-Some.value.now only)

pub returns-in-Several : goal.returns-in-Several
returns-in-Several c = λ before finds.
    let several = subst (λ f. Finds before f) c.in-Several.is finds in
    (several.0, several.1 ++ c.in-Some.value.now ∷ [], ap (λ v. with_value before (option_copied v)) c.in-Some.is ∙ further before several.1 c.in-Several.first.now several.0 c.in-Some.value.now several.2)
