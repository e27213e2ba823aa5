use Rattle.std.proofs.Common.{◌≡◌, ℕ, refl}
use Rattle.qz_terms.specs.declared.request.Whom.{Whom}
use Rattle.qz_terms.specs.declared.request.Whom.TheVariants as whom
use Rattle.qz_roster.specs.Overrides.{set_in}
use Rattle.qz_roster.proofs.overrides.Overrides.make_room.Goals as goal

pub returns-in-User-clause-unchanged : goal.returns-in-User-clause-unchanged
returns-in-User-clause-unchanged c = λ q w n. by q w n
  where
    by : (q : ℕ) (w : Whom) (n : ℕ) → set_in (record { users = c.make.new.map; groups = c.args.self.now.groups; count = c.args.self.now.count }) q w n ≡ set_in c.args.self.now q w n
    by q whom.User n = c.make.ensures.same (q, n)
    by q whom.Group n = refl

pub returns-in-Group-clause-unchanged : goal.returns-in-Group-clause-unchanged
returns-in-Group-clause-unchanged c = λ q w n. by q w n
  where
    by : (q : ℕ) (w : Whom) (n : ℕ) → set_in (record { users = c.args.self.now.users; groups = c.make-in-Group.new.map; count = c.args.self.now.count }) q w n ≡ set_in c.args.self.now q w n
    by q whom.User n = refl
    by q whom.Group n = c.make-in-Group.ensures.same (q, n)
