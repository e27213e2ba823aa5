use Rattle.qz_shard.proofs.shard.Shard.settle.Given as goal

abbrev pub ghosts-adopt : goal.ghosts-adopt
ghosts-adopt a b = record { name = b.blank.name; parts = b.blank.parts }
