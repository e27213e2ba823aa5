use Rattle.qz_polling_tests.proofs.schools.found.Goals as goal

pub returns : goal.returns
returns c = c.found_folder.ensures.ended.cause.none_out
