-- The answer over both lists is that over the shard's list, where the catalogue gives the user and the plan.
use Rattle.std.proofs.Common.{◌≡◌, ℕ, List, Option, Some, refl}
use Rattle.qz_terms.specs.declared.ask.Ask.{Ask}
use Rattle.qz_terms.specs.declared.people.Caller.{Caller}
use Rattle.qz_terms.specs.declared.people.User.{User}
use Rattle.qz_terms.specs.declared.plan.Plan.{Plan}
use Rattle.qz_terms.specs.declared.record.Record.{Record}
use Rattle.qz_terms.specs.declared.request.Request.{Request}
use Rattle.qz_terms.specs.declared.request.Request.TheVariants as request
use Rattle.qz_terms.specs.Answer.{answer_here, list_after}
use Rattle.qz_terms.specs.SchoolAnswer.{plan_for, answer_by, after_by}
use Rattle.qz_terms.specs.Laws.{AnsweredHere}

abbrev asking : Caller → Option (List ℕ) → Request → Ask
asking who key x = record { caller = who; key = key; request = x }

by-plan : (c h : List Record) (now : ℕ) (who : Caller) (key : Option (List ℕ)) (x : Request) (user : User) (plan : Plan) → plan_for c h user x ≡ Some plan → answer_by c h now user (asking who key x) x ≡ answer_here h now user plan (asking who key x)
by-plan l h now who key (request.User a b c) user plan e = absurd cc
by-plan l h now who key (request.Group a) user plan e = absurd cc
by-plan l h now who key (request.Member a b) user plan e = absurd cc
by-plan l h now who key (request.Import a) user plan e = absurd cc
by-plan l h now who key (request.Edit a b) user plan e = absurd cc
by-plan l h now who key (request.Tune a b c) user plan e = absurd cc
by-plan l h now who key (request.Quiz a b) user plan e = absurd cc
by-plan l h now who key (request.Slot a b c) user plan e = absurd cc
by-plan l h now who key (request.Ready a) user plan e = absurd cc
by-plan l h now who key (request.Remax a b c) user plan e = absurd cc
by-plan l h now who key (request.Policy a b c) user plan e = absurd cc
by-plan l h now who key (request.Times a b c d f g i j) user plan e = absurd cc
by-plan l h now who key (request.Override a b c d f g i) user plan e = absurd cc
by-plan l h now who key (request.Regrade a) user plan e = absurd cc
by-plan l h now who key (request.Start a) user plan e = rw e refl
by-plan l h now who key (request.Save a b c d) user plan e = rw e refl
by-plan l h now who key (request.Submit a b c d) user plan e = rw e refl
by-plan l h now who key (request.Again a b) user plan e = rw e refl
by-plan l h now who key (request.Finish a) user plan e = rw e refl
by-plan l h now who key (request.Mark a b c) user plan e = rw e refl
by-plan l h now who key (request.Work a b) user plan e = absurd cc
by-plan l h now who key (request.Settle a) user plan e = rw e refl
by-plan l h now who key (request.Live a b) user plan e = absurd cc
by-plan l h now who key request.Jobs user plan e = absurd cc
by-plan l h now who key (request.View a b) user plan e = rw e refl
by-plan l h now who key (request.Total a) user plan e = rw e refl
by-plan l h now who key (request.Page a) user plan e = rw e refl
by-plan l h now who key (request.Grade a b) user plan e = rw e refl
by-plan l h now who key (request.Report a) user plan e = absurd cc
by-plan l h now who key (request.Bank a b) user plan e = absurd cc

after-plan : (c h : List Record) (now : ℕ) (who : Caller) (key : Option (List ℕ)) (x : Request) (user : User) (plan : Plan) → plan_for c h user x ≡ Some plan → after_by c h now user (asking who key x) x ≡ list_after h now user plan (asking who key x)
after-plan l h now who key (request.User a b c) user plan e = absurd cc
after-plan l h now who key (request.Group a) user plan e = absurd cc
after-plan l h now who key (request.Member a b) user plan e = absurd cc
after-plan l h now who key (request.Import a) user plan e = absurd cc
after-plan l h now who key (request.Edit a b) user plan e = absurd cc
after-plan l h now who key (request.Tune a b c) user plan e = absurd cc
after-plan l h now who key (request.Quiz a b) user plan e = absurd cc
after-plan l h now who key (request.Slot a b c) user plan e = absurd cc
after-plan l h now who key (request.Ready a) user plan e = absurd cc
after-plan l h now who key (request.Remax a b c) user plan e = absurd cc
after-plan l h now who key (request.Policy a b c) user plan e = absurd cc
after-plan l h now who key (request.Times a b c d f g i j) user plan e = absurd cc
after-plan l h now who key (request.Override a b c d f g i) user plan e = absurd cc
after-plan l h now who key (request.Regrade a) user plan e = absurd cc
after-plan l h now who key (request.Start a) user plan e = rw e refl
after-plan l h now who key (request.Save a b c d) user plan e = rw e refl
after-plan l h now who key (request.Submit a b c d) user plan e = rw e refl
after-plan l h now who key (request.Again a b) user plan e = rw e refl
after-plan l h now who key (request.Finish a) user plan e = rw e refl
after-plan l h now who key (request.Mark a b c) user plan e = rw e refl
after-plan l h now who key (request.Work a b) user plan e = absurd cc
after-plan l h now who key (request.Settle a) user plan e = rw e refl
after-plan l h now who key (request.Live a b) user plan e = absurd cc
after-plan l h now who key request.Jobs user plan e = absurd cc
after-plan l h now who key (request.View a b) user plan e = rw e refl
after-plan l h now who key (request.Total a) user plan e = rw e refl
after-plan l h now who key (request.Page a) user plan e = rw e refl
after-plan l h now who key (request.Grade a b) user plan e = rw e refl
after-plan l h now who key (request.Report a) user plan e = absurd cc
after-plan l h now who key (request.Bank a b) user plan e = absurd cc

pub joined_law : AnsweredHere
joined_law = record {
  reply = λ c h now who key x user plan found free planned. rw (found, free) (by-plan c h now who key x user plan planned);
  list = λ c h now who key x user plan found free planned. rw (found, free) (after-plan c h now who key x user plan planned);
}
