use Rattle.qz_shard_turns.proofs.answering.AnsweringErrandPart.go.Given as goal

abbrev pub ghosts-answered : goal.ghosts-answered
ghosts-answered g a = record { name = a.blank.name; parts = a.blank.parts }
