use Rattle.std.proofs.Common.{◌≡◌, ◌+◌, ◌-◌, Some, length, ap, sym, subst, ◌∙◌, arith}
use Rattle.std.specs.Prelude.{option_map}
use Rattle.qz_terms.specs.Catalog.{asked}
use Rattle.qz_roster.specs.declared.quizzes.Quiz.{Quiz}
use Rattle.qz_roster.specs.Quizzes.{TellsMore, has_its_slot, quiz_told, slot_room, told}
use Rattle.qz_roster.proofs.QuizLemmas.{told-more}
use Rattle.qz_roster.proofs.Reading.{at-get, map-set, some-same}
use Rattle.qz_roster.proofs.quizzes.Quizzes.keep_told.Goals as goal

pub overflow_sub-number : goal.overflow_sub-number
overflow_sub-number c = let room = c.requires c.in-Some.number (sym c.quiz_told.ensures ∙ c.in-Some.is) in room.from

pub tell-requires-clause-room : goal.tell-requires-clause-room
tell-requires-clause-room c =
    let room = c.requires c.in-Some.number (sym c.quiz_told.ensures ∙ c.in-Some.is) in
    let at = at-get c.args.self.now.quizzes.items c.in-Some.number c.index_mut.result.now room.from room.inside in
    some-same _ _ (sym (ap (option_map (slot_room (asked c.args.record.now))) (at ∙ ap Some (sym c.index_mut.ensures.value))) ∙ room.room)

pub tell-requires-clause-there : goal.tell-requires-clause-there
tell-requires-clause-there c =
    let room = c.requires c.in-Some.number (sym c.quiz_told.ensures ∙ c.in-Some.is) in
    let at = at-get c.args.self.now.quizzes.items c.in-Some.number c.index_mut.result.now room.from room.inside in
    some-same _ _ (sym (ap (option_map (λ (x : Quiz). has_its_slot (length x.slots.items) (asked c.args.record.now))) (at ∙ ap Some (sym c.index_mut.ensures.value))) ∙ room.there)

pub returns-in-Some-clause-places : goal.returns-in-Some-clause-places
returns-in-Some-clause-places c =
    let room = c.requires c.in-Some.number (sym c.quiz_told.ensures ∙ c.in-Some.is) in
    map-set (λ (x : Quiz). x.at) c.args.self.now.quizzes.items (c.in-Some.number - 1) c.index_mut.result.now c.tell.new.self (let from = room.from in let inside = room.inside in omega arith) c.index_mut.ensures.value c.tell.ensures.at

pub returns-in-Some-clause-told : goal.returns-in-Some-clause-told
returns-in-Some-clause-told c = λ q.
    let names : quiz_told (asked c.args.record.now) ≡ Some c.in-Some.number = sym c.quiz_told.ensures ∙ c.in-Some.is in
    let room = c.requires c.in-Some.number names in
    let place : c.in-Some.number ≡ c.in-Some.number - 1 + 1 = let from = room.from in omega arith in
    told-more c.args.self.now.quizzes.items (c.in-Some.number - 1) q c.args.place c.args.record.now c.index_mut.result.now c.tell.new.self (let from = room.from in let inside = room.inside in omega arith) c.index_mut.ensures.value
    (names ∙ ap Some place) (subst (λ n. TellsMore n c.args.place c.args.record.now (told c.index_mut.result.now) (told c.tell.new.self)) place c.tell.ensures.told)
