use Rattle.std.proofs.Common.{◌++◌, List, Option, Some, sym, ap, ◌∙◌, append-nil, ◌≡◌, length, arith}
use Rattle.std.specs.Prelude.{filter_map, option_to_list}
use Rattle.qz_terms.specs.declared.access.Override.{Override}
use Rattle.qz_terms.specs.Catalog.{groups}
use Rattle.qz_terms.specs.Lists.{places_to}
use Rattle.qz_catalog.specs.Readings.{group_override}
use Rattle.qz_catalog.proofs.Groups.{groups-more, groups-whole}
use Rattle.qz_catalog.proofs.settings.group_overrides.Goals.{in-Some+in_ok-push, in_default}
use Rattle.qz_catalog.proofs.settings.group_overrides.Goals as goal

pub loop-before-preserved : goal.loop-before-preserved
loop-before-preserved c =
    let all = groups-more c.args.book.now.records.items c.args.quiz c.args.user c.loop-before.before in
    let before = filter_map (group_override c.args.book.now.records.items c.args.quiz c.args.user) (places_to c.loop-before.before) in
    elim c.match-group_override.branch [
      | in-Some+in_ok-push w ↦ rw w.found-is (w.in_ok-push.ensures.items ∙ ap (λ (t : List Override). t ++ option_to_list (Some w.in-Some.set)) c.loop-before.invariant ∙ ap (λ (o : Option Override). before ++ option_to_list o) w.in-Some.ensures ∙ sym all)
      | in_default w ↦ rw w.found-is (c.loop-before.invariant ∙ sym (append-nil before) ∙ ap (λ (o : Option Override). before ++ option_to_list o) w.in_default.ensures ∙ sym all)
    ]

pub returns : goal.returns
returns c =
    let whole : c.loop-before.before ≡ length (groups c.args.book.now.records.items) = (let past = c.loop-before-test.false in let within = c.loop-before.auto.before-end in omega arith) ∙ c.groups-before-end.ensures.value c.args.book.now.records.items c.requires.roster.counts in
    c.loop-before.invariant ∙ ap (λ n. filter_map (group_override c.args.book.now.records.items c.args.quiz c.args.user) (places_to n)) whole ∙ groups-whole c.args.book.now.records.items c.args.quiz c.args.user
