use Rattle.qz_solo.proofs.marks.parts.Given as goal

abbrev pub ghosts-looked : goal.ghosts-looked
ghosts-looked g a = record { name = a.blank.name; parts = a.blank.parts }
