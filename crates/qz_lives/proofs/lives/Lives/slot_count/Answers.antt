use Rattle.qz_lives.proofs.Reading.{few-slots}
use Rattle.qz_lives.proofs.lives.Lives.slot_count.Goals as goal

pub returns-in-Some-clause-few : goal.returns-in-Some-clause-few
returns-in-Some-clause-few c = λ h lives. few-slots c.args.self.now h c.args.attempt c.in-Some.begun lives (c.in-Some.ensures h lives)
