use Rattle.qz_solo.proofs.working.work.Given as goal

abbrev pub ghosts-worked : goal.ghosts-worked
ghosts-worked g a = record { name = a.blank.name; parts = a.blank.parts }
