use Rattle.std.proofs.Common.{◌∷◌, [], ◌++◌, List, Option, ℕ, take, sym, ap, ◌∙◌, append-nil}
use Rattle.std.specs.Prelude.{filter_map, option_copied, option_to_list}
use Rattle.std.proofs.lemmas.List.{take_all}
use Rattle.qz_terms.proofs.Walks.{all_kept}
use Rattle.qz_catalog.specs.Readings.{made_name}
use Rattle.qz_catalog.proofs.Users.{names-told}
use Rattle.qz_catalog.proofs.people.names.Goals.{in-Some+in_ok-of+in_ok-push, in_default}
use Rattle.qz_catalog.proofs.people.names.Goals as goal

pub loop-record-preserved : goal.loop-record-preserved
loop-record-preserved c =
    let all = all_kept made_name c.args.records.now c.loop-record.record-index c.record-item.result c.loop-record-test.true c.record-item.is in
    let before = filter_map made_name (take c.loop-record.record-index c.args.records.now) in
    elim c.match-made_name.branch [
      | in-Some+in_ok-of+in_ok-push w ↦ rw w.items-is (w.in_ok-push.ensures.items ∙ ap (λ (t : List (List ℕ)). t ++ w.in_ok-of.field-0 ∷ []) c.loop-record.invariant ∙ ap (λ (t : List ℕ). before ++ t ∷ []) w.in_ok-of.ensures ∙ ap (λ (o : Option (List ℕ)). before ++ option_to_list o) (ap option_copied (sym w.in-Some.is) ∙ c.made_name.ensures) ∙ sym all)
      | in_default w ↦ rw w.items-is (c.loop-record.invariant ∙ sym (append-nil before) ∙ ap (λ (o : Option (List ℕ)). before ++ option_to_list o) (ap option_copied (sym w.in_default.is) ∙ c.made_name.ensures) ∙ sym all)
    ]

pub returns : goal.returns
returns c = c.loop-record.invariant ∙ ap (filter_map made_name) (take_all c.loop-record.record-index c.args.records.now c.loop-record-test.false) ∙ names-told c.args.records.now
