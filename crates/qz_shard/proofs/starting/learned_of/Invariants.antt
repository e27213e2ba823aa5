use Rattle.std.proofs.Common.{◌≡◌, take}
use Rattle.qz_terms.specs.Answer.{new_versions}
use Rattle.qz_legal.proofs.Learning.{learned_all}
use Rattle.qz_shard.proofs.starting.learned_of.Given as goal

abbrev pub invariant-loop-place : goal.invariant-loop-place
invariant-loop-place l = l.items.items ≡ new_versions l.book (take l.place (learned_all l.slots l.questions))
