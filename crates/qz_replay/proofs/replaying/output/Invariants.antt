use Rattle.qz_replay.proofs.replaying.output.Given as goal

abbrev pub ghosts-counted_output : goal.ghosts-counted_output
ghosts-counted_output a = record { name = a.blank.name; parts = a.blank.parts }
