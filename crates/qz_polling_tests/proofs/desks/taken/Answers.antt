use Rattle.qz_polling_tests.proofs.desks.taken.Goals as goal

pub serve_ready-links-requires : goal.serve_ready-links-requires
serve_ready-links-requires g c = record { takes = record { each = λ moment ask is may. tt } }
