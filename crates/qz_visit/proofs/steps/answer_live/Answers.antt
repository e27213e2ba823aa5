use Rattle.qz_terms.specs.Legal.{IsLegal}
use Rattle.qz_visit.proofs.Turning.{live_told, live_untold}
use Rattle.qz_visit.proofs.steps.answer_live.Goals as goal

pub returns-in-Ok : goal.returns-in-Ok
returns-in-Ok g c = record { at = λ place keyed. live_told (IsLegal place.index place.count) c.args.attempt c.args.pass.now c.live.new.pass c.in-Ok.place c.in-Ok.attempt (c.in-Ok.ensures.at place keyed) }

pub returns-in-Err : goal.returns-in-Err
returns-in-Err g c = record { at = λ place keyed. live_untold (IsLegal place.index place.count) c.args.attempt c.args.pass.now c.live.new.pass c.in-Err.refusal (c.in-Err.ensures.at place keyed) }
