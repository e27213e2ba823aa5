-- A plan without its questions serves every request but a start.
use Rattle.std.proofs.Common.{◌≡◌, ℕ, false, List, Option, refl}
use Rattle.qz_terms.specs.declared.ask.Ask.{Ask}
use Rattle.qz_terms.specs.declared.people.Caller.{Caller}
use Rattle.qz_terms.specs.declared.people.User.{User}
use Rattle.qz_terms.specs.declared.plan.Plan.{Plan}
use Rattle.qz_terms.specs.declared.record.Record.{Record}
use Rattle.qz_terms.specs.declared.request.Request.{Request}
use Rattle.qz_terms.specs.declared.request.Request.TheVariants as request
use Rattle.qz_terms.specs.Answer.{answer_here, list_after}
use Rattle.qz_terms.specs.Cause.{verdict_here}
use Rattle.qz_school.specs.Agreement.{NeedsNoQuestions, is_start, without_questions}

abbrev asking : Caller → Option (List ℕ) → Request → Ask
asking who key x = record { caller = who; key = key; request = x }

lean-verdict : (h : List Record) (moment : ℕ) (user : User) (plan : Plan) (who : Caller) (key : Option (List ℕ)) (x : Request) → is_start x ≡ false → verdict_here h moment user (without_questions plan) (asking who key x) ≡ verdict_here h moment user plan (asking who key x)
lean-verdict h moment user plan who key (request.Start q) other = absurd cc
lean-verdict h moment user plan who key x other = refl

lean-reply : (h : List Record) (now : ℕ) (user : User) (plan : Plan) (who : Caller) (key : Option (List ℕ)) (x : Request) → is_start x ≡ false → answer_here h now user (without_questions plan) (asking who key x) ≡ answer_here h now user plan (asking who key x)
lean-reply h now user plan who key (request.Start q) other = absurd cc
lean-reply h now user plan who key x other = refl

lean-list : (h : List Record) (now : ℕ) (user : User) (plan : Plan) (who : Caller) (key : Option (List ℕ)) (x : Request) → is_start x ≡ false → list_after h now user (without_questions plan) (asking who key x) ≡ list_after h now user plan (asking who key x)
lean-list h now user plan who key (request.Start q) other = absurd cc
lean-list h now user plan who key x other = refl

pub leaning_law : NeedsNoQuestions
leaning_law = record {
  verdict = λ h moment user plan ask other. lean-verdict h moment user plan ask.caller ask.key ask.request other;
  reply = λ h now user plan ask other. lean-reply h now user plan ask.caller ask.key ask.request other;
  list = λ h now user plan ask other. lean-list h now user plan ask.caller ask.key ask.request other;
}
