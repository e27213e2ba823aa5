use Rattle.qz_lives.proofs.Growing.{lives-alike, lives-rowed, still-there}
use Rattle.qz_lives.proofs.lives.Lives.grow_end.Goals as goal

pub grow_row-requires : goal.grow_row-requires
grow_row-requires c = still-there c.args.self.now c.reserve_all.new.self c.args.attempt c.reserve_all.ensures.kept c.requires.there

pub returns-in_err-reserve_all-clause-kept : goal.returns-in_err-reserve_all-clause-kept
returns-in_err-reserve_all-clause-kept c = lives-alike c.args.self.now c.reserve_all.new.self c.reserve_all.ensures.kept

pub returns-clause-kept : goal.returns-clause-kept
returns-clause-kept c = λ h lives. lives-rowed c.reserve_all.new.self c.grow_row.new.self c.grow_row.ensures.rest c.grow_row.ensures.kept h (lives-alike c.args.self.now c.reserve_all.new.self c.reserve_all.ensures.kept h lives)
