use Rattle.std.proofs.Common.{ap, ◌∙◌, arith}
use Rattle.std.proofs.lemmas.Result.{on_ok_weaker}
use Rattle.qz_roster.specs.Texts.{has_room}
use Rattle.qz_roster.proofs.people.People.make_room.Goals as goal

pub returns-clause-room : goal.returns-clause-room
returns-clause-room c = on_ok_weaker c.make_key_room.result (λ told. record {
  user = λ t is.
      let room = c.in_ok-make_user_room.ensures.room t is in
      record {
        keys = let less = room.keys in let same = c.make_key_room.ensures.count in let long = c.make_key_room.ensures.capacity in omega arith;
        room = ap (λ m. has_room m t) c.make_key_room.ensures.tokens ∙ room.room;
      };
  key = told;
  role = rw (c.make_key_room.ensures.roles, c.make_user_room.ensures.roles) (let room = c.in_ok-reserve.ensures in omega arith);
}) c.make_key_room.ensures.room
