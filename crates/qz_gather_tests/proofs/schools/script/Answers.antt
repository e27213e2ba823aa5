use Rattle.qz_gather_tests.proofs.schools.script.Goals as goal

pub returns : goal.returns
returns c = c.script_folder.ensures.ended.cause.none_out
