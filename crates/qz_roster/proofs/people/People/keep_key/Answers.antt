use Rattle.std.proofs.Common.{Some, ap, sym, ◌∙◌, arith}
use Rattle.std.specs.Prelude.{option_copied, option_map}
use Rattle.qz_roster.specs.Texts.{has_room}
use Rattle.qz_roster.proofs.PeopleLemmas.{key-set}
use Rattle.qz_roster.proofs.Reading.{at-get, some-same}
use Rattle.qz_roster.proofs.people.People.keep_key.Goals as goal

pub overflow_sub-record : goal.overflow_sub-record
overflow_sub-record c = let room = c.requires c.in-Some.key.now (sym c.asked_key.ensures ∙ ap option_copied c.in-Some.is) in omega arith

pub index_mut-requires : goal.index_mut-requires
index_mut-requires c = let room = c.requires c.in-Some.key.now (sym c.asked_key.ensures ∙ ap option_copied c.in-Some.is) in omega arith

pub give-requires : goal.give-requires
give-requires c =
    let room = c.requires c.in-Some.key.now (sym c.asked_key.ensures ∙ ap option_copied c.in-Some.is) in
    let at = at-get c.args.self.now.keys.items c.args.record.now.caller c.index_mut.result.now room.from room.inside in
    some-same _ _ (sym (ap (option_map (λ m. has_room m c.in-Some.key.now)) (at ∙ ap Some (sym c.index_mut.ensures.value))) ∙ room.room)

pub returns-in-Some-clause-keys : goal.returns-in-Some-clause-keys
returns-in-Some-clause-keys c = λ n k.
    let room = c.requires c.in-Some.key.now (sym c.asked_key.ensures ∙ ap option_copied c.in-Some.is) in
    key-set c.args.self.now.keys.items c.args.record.now n c.args.place c.in-Some.key.now k c.index_mut.result.now c.give.new.texts (sym c.asked_key.ensures ∙ ap option_copied c.in-Some.is) room.from room.inside c.index_mut.ensures.value (c.give.ensures k)
