use Rattle.qz_roster.proofs.members.Members.make_room.Goals as goal

pub returns-in-Some-clause-unchanged : goal.returns-in-Some-clause-unchanged
returns-in-Some-clause-unchanged c = λ g u. c.make.ensures.same (g, u)
