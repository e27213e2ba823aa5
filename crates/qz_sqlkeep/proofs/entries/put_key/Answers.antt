use Rattle.std.proofs.Common.{to_z-of_z, ◌∙◌}
use Rattle.qz_sqlkeep.proofs.entries.put_key.Goals as goal

pub returns-in-Some-clause-turns : goal.returns-in-Some-clause-turns
returns-in-Some-clause-turns g c clean inside n is = rw (c.in-Some.is, ← c.as_str.ensures) (c.put_reply.ensures.turns clean inside n (to_z-of_z c.ranges.place ∙ is))
