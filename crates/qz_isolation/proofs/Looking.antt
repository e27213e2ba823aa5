-- A look tells the same over lists that agree for the user whom it names.
use Rattle.std.proofs.Common.{◌≡◌, ℕ, Bool, List, refl, map}
use Rattle.std.specs.Prelude.{option_and_then, option_map, unwrap_or}
use Rattle.qz_grading.specs.declared.refusal.AttemptId.{AttemptId}
use Rattle.qz_grading.specs.Steps.{is_answering}
use Rattle.qz_terms.specs.declared.people.User.{User}
use Rattle.qz_terms.specs.declared.plan.Bound.{Bound}
use Rattle.qz_terms.specs.declared.plan.Plan.{Plan}
use Rattle.qz_terms.specs.declared.record.Record.{Record}
use Rattle.qz_terms.specs.declared.reply.Done.TheVariants as done
use Rattle.qz_terms.specs.declared.reply.Reply.TheVariants as reply
use Rattle.qz_terms.specs.declared.request.Request.{Request}
use Rattle.qz_terms.specs.declared.request.Request.TheVariants as request
use Rattle.qz_terms.specs.Access.{due}
use Rattle.qz_terms.specs.Answer.{due_now, looked, looked_by, named_user, sees_grade, status_by, viewed}
use Rattle.qz_terms.specs.Cause.{sees_marks}
use Rattle.qz_terms.specs.History.{Start}
use Rattle.qz_terms.specs.Laws.{AgreeFor}
use Rattle.qz_terms.specs.Lists.{how_many}
use Rattle.qz_terms.specs.Parts.{part}
use Rattle.qz_terms.specs.Review.{shown_state, shown_value}
use Rattle.qz_terms.proofs.Isolated.{isolated_law}
use Rattle.qz_isolation.proofs.Causes.{sees-own, slots-own}

viewed-own : (index count : ℕ) (h g : List Record) (a : AttemptId) (k : ℕ) (visible other : Bool) → visible ≡ other → AgreeFor index count a.user h g → viewed h visible a k ≡ viewed g other a k
viewed-own index count h g a k visible other same agree =
    λ i. done.SlotView (shown_state (same i) (isolated_law.state index count a k h g agree i)) (shown_value (same i) (isolated_law.mark index count a k h g agree i))
    (unwrap_or (option_map (λ (b : Bound). b.version) (isolated_law.bound index count a k h g agree i)) 0) (how_many is_answering (isolated_law.steps index count a k h g agree i))

due-own : (index count : ℕ) (h g : List Record) (plan : Plan) (a : AttemptId) → AgreeFor index count a.user h g → due_now h plan a ≡ due_now g plan a
due-own index count h g plan a agree = λ i. option_and_then (λ (s : Start). due plan.settings s.moment) (isolated_law.start index count a h g agree i)

looked_by-own : (index count moment : ℕ) (user : User) (plan : Plan) (h g : List Record) (x : Request) → AgreeFor index count (named_user user x) h g → looked_by h moment user plan x ≡ looked_by g moment user plan x
looked_by-own index count moment user plan h g (request.View a k) agree = viewed-own index count h g a k (sees_marks h plan.settings user a moment) (sees_marks g plan.settings user a moment) (sees-own index count plan.settings user a moment h g agree) agree
looked_by-own index count moment user plan h g (request.Total a) agree =
    λ i. done.Attempt (status_by (isolated_law.ended index count a h g agree i)) (shown_value (sees-own index count plan.settings user a moment h g agree i) (isolated_law.total index count a h g agree i)) (due-own index count h g plan a agree i)
looked_by-own index count moment user plan h g (request.Page a) agree =
    λ i. done.Page a plan.name (due-own index count h g plan a agree i) (map (part (sees-own index count plan.settings user a moment h g agree i)) (slots-own index count a h g agree i))
looked_by-own index count moment user plan h g (request.Grade quiz owner) agree = λ i. done.Grade (shown_value (sees_grade user plan.settings moment) (isolated_law.row index count quiz plan.policy owner h g agree i))
looked_by-own index count moment user plan h g x agree = refl

pub looked-own : (index count moment : ℕ) (user : User) (plan : Plan) (h g : List Record) (x : Request) → AgreeFor index count (named_user user x) h g → looked h moment user plan x ≡ looked g moment user plan x
looked-own index count moment user plan h g x agree = λ i. reply.Ok (isolated_law.place index count (named_user user x) h g agree i) (looked_by-own index count moment user plan h g x agree i)
