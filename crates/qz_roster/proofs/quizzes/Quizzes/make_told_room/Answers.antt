use Rattle.std.proofs.Common.{◌-◌, length, sym, ◌∙◌, arith}
use Rattle.std.proofs.lemmas.Result.{on_ok_weaker}
use Rattle.qz_terms.specs.Catalog.{asked}
use Rattle.qz_roster.specs.declared.quizzes.Quiz.{Quiz}
use Rattle.qz_roster.proofs.QuizLemmas.{own-room, place-told, told-same}
use Rattle.qz_roster.proofs.Reading.{map-set, some-same}
use Rattle.qz_roster.proofs.quizzes.Quizzes.make_told_room.Goals as goal

pub overflow_sub-number : goal.overflow_sub-number
overflow_sub-number c = (place-told (length c.args.self.now.quizzes.items) c.in-Some.number (c.requires c.in-Some.number (sym c.quiz_told.ensures ∙ c.in-Some.is))).0

pub index_mut-requires : goal.index_mut-requires
index_mut-requires c = let there = place-told (length c.args.self.now.quizzes.items) c.in-Some.number (c.requires c.in-Some.number (sym c.quiz_told.ensures ∙ c.in-Some.is)) in let from = there.0 in let inside = there.1 in omega arith

pub returns-in-Some-clause-room : goal.returns-in-Some-clause-room
returns-in-Some-clause-room c =
    let there = place-told (length c.args.self.now.quizzes.items) c.in-Some.number (c.requires c.in-Some.number (sym c.quiz_told.ensures ∙ c.in-Some.is)) in
    on_ok_weaker c.make_room.result (λ room q names.
    own-room c.args.self.now.quizzes.items c.in-Some.number q c.make_room.new.self (asked c.args.record.now) there.0 there.1 (some-same _ _ (sym names ∙ sym c.quiz_told.ensures ∙ c.in-Some.is)) room) c.make_room.ensures.room

pub returns-in-Some-clause-places : goal.returns-in-Some-clause-places
returns-in-Some-clause-places c =
    let there = place-told (length c.args.self.now.quizzes.items) c.in-Some.number (c.requires c.in-Some.number (sym c.quiz_told.ensures ∙ c.in-Some.is)) in
    map-set (λ (x : Quiz). x.at) c.args.self.now.quizzes.items (c.in-Some.number - 1) c.index_mut.result.now c.make_room.new.self (let from = there.0 in let inside = there.1 in omega arith) c.index_mut.ensures.value c.make_room.ensures.at

pub returns-in-Some-clause-told : goal.returns-in-Some-clause-told
returns-in-Some-clause-told c = λ q.
    let there = place-told (length c.args.self.now.quizzes.items) c.in-Some.number (c.requires c.in-Some.number (sym c.quiz_told.ensures ∙ c.in-Some.is)) in
    told-same c.args.self.now.quizzes.items (c.in-Some.number - 1) q c.index_mut.result.now c.make_room.new.self (let from = there.0 in let inside = there.1 in omega arith) c.index_mut.ensures.value c.make_room.ensures.told
