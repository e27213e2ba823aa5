use Rattle.std.proofs.Common.{◌≡◌, Some, rules, refl, arith}
use Rattle.qz_terms.specs.declared.request.Request.TheVariants as request
use Rattle.qz_terms.specs.Catalog.{asked}
use Rattle.qz_roster.specs.Quizzes.{made}
use Rattle.qz_roster.proofs.QuizLemmas.{renewed, slot-there}
use Rattle.qz_roster.proofs.Reading.{map-set}
use Rattle.qz_roster.proofs.quizzes.renew_slot.Goals as goal

pub returns-in-Asked-Remax-clause-made : goal.returns-in-Asked-Remax-clause-made
returns-in-Asked-Remax-clause-made c =
    let is : asked c.args.record.now ≡ Some (request.Remax c.in-Asked-Remax.other c.in-Asked-Remax.slot c.in-Asked-Remax.max) = search rules in
    let there = slot-there _ _ _ _ _ is c.requires in
    let slot = c.from.ensures in
    map-set made c.args.slots.now.items _ c.index_mut.result.now _ (let from = there.0 in let inside = there.1 in omega arith) c.index_mut.ensures.value refl

pub returns-in-Asked-Remax-clause-anew : goal.returns-in-Asked-Remax-clause-anew
returns-in-Asked-Remax-clause-anew c = λ k.
    let is : asked c.args.record.now ≡ Some (request.Remax c.in-Asked-Remax.other c.in-Asked-Remax.slot c.in-Asked-Remax.max) = search rules in
    let there = slot-there _ _ _ _ _ is c.requires in
    rw c.from.ensures (renewed c.args.slots.now.items c.args.quiz k c.in-Asked-Remax.other c.in-Asked-Remax.slot c.in-Asked-Remax.max (asked c.args.record.now) _ is c.if-other-quiz.true there.0 there.1 refl)
