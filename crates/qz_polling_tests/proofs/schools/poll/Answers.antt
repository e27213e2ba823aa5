use Rattle.qz_polling_tests.proofs.schools.poll.Goals as goal

pub returns : goal.returns
returns g c = c.poll_folder-status.ensures.ended.cause.none_out
