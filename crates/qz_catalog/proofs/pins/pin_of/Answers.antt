use Rattle.std.proofs.Common.{◌≡◌, ◌+◌, List, length, Some, None, option_map, sym, ap, subst, ◌∙◌, arith, false}
use Rattle.qz_grading.specs.Grading.{at_place}
use Rattle.qz_terms.specs.declared.access.Settings.{Settings}
use Rattle.qz_terms.specs.declared.record.Record.{Record}
use Rattle.qz_terms.specs.Catalog.{asked, own_settings, plan_under, quizzes, regrade_by}
use Rattle.qz_roster.specs.Told.{named_in}
use Rattle.qz_catalog.specs.Holdings.{IsPin, lean}
use Rattle.qz_catalog.proofs.PinLemmas.{pin-told, regrade-there}
use Rattle.qz_catalog.proofs.pins.pin_of.Goals as goal

pub unreachable-requires : goal.unreachable-requires
unreachable-requires c =
    let list = c.args.book.now.records.items in
    let q = c.in-Some.quiz in
    let none : at_place (quizzes list) q ≡ None = ap (λ (l : List Record). at_place (quizzes l) q) (sym c.deref.ensures.value) ∙ sym c.named.ensures ∙ ap (option_map named_in) c.in_default-named.is in
    regrade-there list c.args.record.now (c.len.result + 1) (c.in-Some.field-0-0, q) c.requires.next (sym c.in-Some.ensures) none

pub returns : goal.returns
returns c =
    let list = c.args.book.now.records.items in
    let r = c.args.record.now in
    let q = c.in-Some.quiz in
    let place : c.len.result + 1 ≡ length list + 1 = let long = c.len.ensures in omega arith in
    let told : regrade_by (length list + 1) (asked r) ≡ Some (c.in-Some.field-0-0, q) = ap (λ n. regrade_by n (asked r)) (sym place) ∙ sym c.in-Some.ensures in
    let own = c.own_settings.ensures in
    let laid : option_map (lean false) (plan_under (own_settings list q) list q) ≡ Some c.in_ok-plan.plan = ap (λ (s : Settings). option_map (lean false) (plan_under s list q)) (sym own) ∙ c.in_ok-plan.ensures in
    subst (λ n. IsPin list r (Some (record c.in_ok-plan.plan { at = n }))) (sym place) (pin-told list r (c.in-Some.field-0-0, q) c.in_ok-plan.plan told laid)
