use Rattle.std.proofs.Common.{◌+◌, ◌++◌, List, length, ap, ◌∙◌, arith}
use Rattle.std.specs.Int.{from_bool}
use Rattle.std.specs.Option.{option_or}
use Rattle.std.specs.Prelude.{is_some, option_and_then, option_to_list}
use Rattle.qz_terms.specs.Catalog.{made_user}
use Rattle.qz_grading.specs.Grading.{at_place}
use Rattle.qz_terms.specs.declared.people.Role.{Role}
use Rattle.qz_roster.specs.People.{owner_told, role_told}
use Rattle.qz_roster.specs.Texts.{has_room, value_at}
use Rattle.qz_roster.proofs.PeopleLemmas.{people-kept}
use Rattle.qz_roster.proofs.Reading.{length-told}
use Rattle.qz_roster.proofs.people.People.keep.Goals as goal

pub keep_user-requires-clause-few : goal.keep_user-requires-clause-few
keep_user-requires-clause-few c =
    let same = c.keep_key.ensures.count in
    let count = c.requires.people.count in
    let few = length-told made_user c.args.records.now in
    let all = c.requires.few in
    omega arith

pub keep_user-requires-clause-room : goal.keep_user-requires-clause-room
keep_user-requires-clause-room c = λ t told.
    let room = c.requires.room.user t told in
    record {
      keys = let less = room.keys in let same = c.keep_key.ensures.count in let long = c.keep_key.ensures.capacity in omega arith;
      room = ap (λ m. has_room m t) c.keep_key.ensures.tokens ∙ room.room;
    }

pub returns : goal.returns
returns c =
    let r = c.args.record.now in
    let at = length c.args.records.now in
    people-kept c.args.records.now r c.args.self.now c.keep_role.new.self c.requires.people
    (ap (λ (ms : List _). length ms) c.keep_role.ensures.keys ∙ c.keep_user.ensures.count ∙ ap (λ n. n + from_bool (is_some (made_user r))) c.keep_key.ensures.count)
    (λ n k. ap (λ ms. option_and_then (λ m. value_at m k) (at_place ms n)) c.keep_role.ensures.keys ∙ c.keep_user.ensures.keys n k ∙ c.keep_key.ensures.keys n k)
    (λ t. ap (λ m. value_at m t) c.keep_role.ensures.tokens ∙ c.keep_user.ensures.tokens t
    ∙ ap (λ m. option_or (value_at m t) (owner_told r (1 + length c.keep_key.new.self.keys.items) at t)) c.keep_key.ensures.tokens
    ∙ ap (λ n. option_or (value_at c.args.self.now.tokens t) (owner_told r (1 + n) at t)) c.keep_key.ensures.count)
    (c.keep_role.ensures.roles ∙ ap (λ (rs : List Role). rs ++ option_to_list (role_told r)) (ap (λ v. v.items) c.keep_user.ensures.roles ∙ ap (λ v. v.items) c.keep_key.ensures.roles))
