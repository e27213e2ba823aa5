use Rattle.std.proofs.Common.{◌≡◌, Some, ap, sym, ◌∙◌}
use Rattle.std.specs.Prelude.{option_copied}
use Rattle.qz_grading.specs.Grading.{at_place}
use Rattle.qz_catalog.specs.Readings.{with_questions}
use Rattle.qz_catalog.proofs.PinLemmas.{job-pinned}
use Rattle.qz_catalog.proofs.jobs.job.Goals as goal

pub returns-clause-value : goal.returns-clause-value
returns-clause-value c =
    let list = c.args.book.now.records.items in
    let p = c.in-Some.pinned.now in
    let told : Some p ≡ at_place c.args.book.now.pinned.items c.args.number = ap option_copied (sym c.in-Some.is) ∙ c.pinned.ensures in
    let copy : c.in_ok-plan.plan ≡ p = c.in_ok-plan.ensures in
    let whole : c.in_ok-with_questions.field-0 ≡ with_questions list p = c.in_ok-with_questions.ensures ∙ ap (with_questions list) copy in
    rw (whole, copy) (job-pinned list c.args.book.now.pinned.items c.args.number p c.requires.indexed.held.legal c.requires.pinned told)
