use Rattle.qz_shard_turns.proofs.looking.RowsOfQuestion.look_up.Given as goal

abbrev pub ghosts-rows_of : goal.ghosts-rows_of
ghosts-rows_of g a = record { name = a.blank.name; parts = a.blank.parts }
