use Rattle.qz_shard_turns.proofs.working.WorkingErrandPart.go.Given as goal

abbrev pub ghosts-worked : goal.ghosts-worked
ghosts-worked g a = record { name = a.blank.name; parts = a.blank.parts }
