-- What the definitions have to mean: facts that hold of all lists.
use Rattle.std.specs.List.{list_all}
use Rattle.std.specs.Prelude.{◌≡◌, ℕ, Bool, true, false, List, [], ◌∷◌, ◌++◌, map, ℤ, pos, ◌≤ℤ◌, is_some, Some, None, filter, Option}
use Rattle.qz_grading.specs.declared.outcome.Behaviour.{Behaviour}
use Rattle.qz_grading.specs.declared.question.Question.{Question}
use Rattle.qz_grading.specs.declared.refusal.AttemptId.{AttemptId}
use Rattle.qz_grading.specs.declared.refusal.Refusal.{Refusal}
use Rattle.qz_grading.specs.declared.refusal.Refusal.TheVariants as refusal
use Rattle.qz_grading.specs.declared.response.Response.{Response}
use Rattle.qz_grading.specs.declared.response.Step.{Step}
use Rattle.qz_grading.specs.declared.response.Step.TheVariants as step
use Rattle.qz_grading.specs.Behaviours.{has_ended}
use Rattle.qz_grading.specs.Slots.{slot_mark, slot_state}
use Rattle.qz_terms.specs.declared.ask.Ask.{Ask}
use Rattle.qz_terms.specs.declared.grades.Method.TheVariants as method
use Rattle.qz_terms.specs.declared.grades.Policy.{Policy}
use Rattle.qz_terms.specs.declared.people.Caller.{Caller}
use Rattle.qz_terms.specs.declared.people.User.{User}
use Rattle.qz_terms.specs.declared.plan.Bound.{Bound}
use Rattle.qz_terms.specs.declared.plan.Plan.{Plan}
use Rattle.qz_terms.specs.declared.record.Event.{Event}
use Rattle.qz_terms.specs.declared.record.Event.TheVariants as event
use Rattle.qz_terms.specs.declared.record.Learned.{Learned}
use Rattle.qz_terms.specs.declared.record.Record.{Record}
use Rattle.qz_terms.specs.declared.reply.Done.{Done}
use Rattle.qz_terms.specs.declared.reply.Reply.{Reply}
use Rattle.qz_terms.specs.declared.reply.Reply.TheVariants as reply
use Rattle.qz_terms.specs.declared.request.Request.{Request}
use Rattle.qz_terms.specs.Answer.{answer_here, list_after, moment_of, put_here, said}
use Rattle.qz_terms.specs.CatalogAnswer.{asks_catalog}
use Rattle.qz_terms.specs.SchoolAnswer.{answer, first_refusal, plan_for, school_answer, shard_list}
use Rattle.qz_terms.specs.Catalog as catalog
use Rattle.qz_terms.specs.Cause.{Repeated, by_key, forbidden, is_keyed, missing_here, spells, verdict_here}
use Rattle.qz_terms.specs.History as history
use Rattle.qz_terms.specs.Legal.{has_its_owner, is_plan_for}
use Rattle.qz_terms.specs.Rows.{row_of}

-- A record of a step that was the same as before changes no reading of an attempt and no grade.
abbrev pub noted : Record → AttemptId → ℕ → Step → Record
noted r b j x = record r { event = event.Noted b j x }

pub record NotedChangesNothing : Type 0 where
  pub steps : (h : List Record) (r : Record) (b : AttemptId) (j : ℕ) (x : Step) (a : AttemptId) (k : ℕ) → history.steps (h ++ noted r b j x ∷ []) a k ≡ history.steps h a k
  pub bound : (h : List Record) (r : Record) (b : AttemptId) (j : ℕ) (x : Step) (a : AttemptId) (k : ℕ) → history.bound (h ++ noted r b j x ∷ []) a k ≡ history.bound h a k
  pub state : (h : List Record) (r : Record) (b : AttemptId) (j : ℕ) (x : Step) (a : AttemptId) (k : ℕ) → history.state (h ++ noted r b j x ∷ []) a k ≡ history.state h a k
  pub mark : (h : List Record) (r : Record) (b : AttemptId) (j : ℕ) (x : Step) (a : AttemptId) (k : ℕ) → history.mark (h ++ noted r b j x ∷ []) a k ≡ history.mark h a k
  pub total : (h : List Record) (r : Record) (b : AttemptId) (j : ℕ) (x : Step) (a : AttemptId) → history.total (h ++ noted r b j x ∷ []) a ≡ history.total h a
  pub row : (h : List Record) (r : Record) (b : AttemptId) (j : ℕ) (x : Step) (q u : ℕ) (policy : Policy) → history.row (h ++ noted r b j x ∷ []) q policy u ≡ history.row h q policy u

-- A job that binds the version and the max mark that are bound already changes neither the state nor the mark of the slot.
abbrev pub rebound : Record → ℕ → AttemptId → ℕ → Bound → List Learned → Record
rebound r job a k b learned = record r { event = event.Rebound job a k b learned }

abbrev pub later_bound : Bound → ℕ → Bound
later_bound b position = record b { at = position }

pub record SameBoundChangesNothing : Type 0 where
  pub state : (h : List Record) (r : Record) (job position : ℕ) (a : AttemptId) (k : ℕ) (b : Bound) (learned : List Learned) (q : Question) → history.bound h a k ≡ Some b → history.version h b.entry b.version ≡ Some q
      → history.state (h ++ rebound r job a k (later_bound b position) learned ∷ []) a k ≡ history.state h a k
  pub mark : (h : List Record) (r : Record) (job position : ℕ) (a : AttemptId) (k : ℕ) (b : Bound) (learned : List Learned) (q : Question) → history.bound h a k ≡ Some b → history.version h b.entry b.version ≡ Some q
      → history.mark (h ++ rebound r job a k (later_bound b position) learned ∷ []) a k ≡ history.mark h a k

-- A response that is saved behind the end of a slot changes neither its mark nor its state.
pub record SaveKeepsTheEnd : Type 0 where
  pub mark : (b : Behaviour) (q : Question) (max : ℤ) (s : List Step) (r : Response) → has_ended b q s ≡ true → slot_mark b q max (s ++ step.Save r ∷ []) ≡ slot_mark b q max s
  pub state : (b : Behaviour) (q : Question) (s : List Step) (r : Response) → has_ended b q s ≡ true → slot_state b q (s ++ step.Save r ∷ []) ≡ slot_state b q s

-- A request that is refused, one that repeats a kept one, and one that puts no record leave the list as it was.
pub record AddsNothing : Type 0 where
  pub refused : (h : List Record) (now : ℕ) (user : User) (plan : Plan) (ask : Ask) (r : Refusal) → answer_here h now user plan ask ≡ reply.Refused r → list_after h now user plan ask ≡ h
  pub repeated : (h : List Record) (now : ℕ) (user : User) (plan : Plan) (ask : Ask) (l : List Record) (r : Record) → verdict_here h (moment_of h now user ask.request) user plan ask ≡ Repeated l r → list_after h now user plan ask ≡ h
  pub looked : (h : List Record) (now : ℕ) (user : User) (plan : Plan) (ask : Ask) → put_here h (moment_of h now user ask.request) user plan ask ≡ None → list_after h now user plan ask ≡ h

-- that the keeper of a list failed, or that memory was wanting
abbrev pub is_from_outside : Refusal → Bool
is_from_outside refusal.KeepFault = true
is_from_outside refusal.Memory = true
is_from_outside r = false

abbrev pub tells_of_outside : Reply → Bool
tells_of_outside (reply.Refused r) = is_from_outside r
tells_of_outside r = false

-- No answer tells of what is outside of the lists.
pub record AnswersAreOwn : Type 0 where
  pub own : (c : List Record) (parts : List (List Record)) (now : ℕ) (ask : Ask) → tells_of_outside (school_answer c parts now ask) ≡ false

-- ---- retries

-- A request stands in a list: of the records with its caller and its key the first spells it, and nothing refuses it before its key is
-- looked at. This was said of that record.
pub record Stands (h : List Record) (user : User) (ask : Ask) (told : Reply) : Type 0 where
  pub records : List Record
  pub own : Record
  pub may : forbidden user ask.request ≡ None
  pub there : missing_here h user ask.request ≡ None
  pub found : by_key (spells ask.request) user.number ask.key h ≡ Some (Repeated records own)
  pub said : told ≡ said records own

-- What is accepted with a key stands in the list from then on. Asked again, it has the reply that it had, and adds nothing.
pub record ActsOnce : Type 0 where
  pub stands : (h : List Record) (now : ℕ) (user : User) (plan : Plan) (ask : Ask) (place : ℕ) (d : Done) → is_keyed ask ≡ true → is_some ask.key ≡ true → asks_catalog ask.request ≡ false → is_plan_for h plan ask.request ≡ true
      → answer_here h now user plan ask ≡ reply.Ok place d → Stands (list_after h now user plan ask) user ask (reply.Ok place d)
  pub stays : (h rest : List Record) (user : User) (ask : Ask) (told : Reply) → Stands h user ask told → Stands (h ++ rest) user ask told
  pub again : (h : List Record) (now : ℕ) (user : User) (plan : Plan) (ask : Ask) (told : Reply) → Stands h user ask told → (answer_here h now user plan ask ≡ told) × (list_after h now user plan ask ≡ h)

-- Where the catalogue gives the user and the plan and finds nothing missing, the answer is that over the shard's list alone.
pub record AnsweredHere : Type 0 where
  pub reply : (c h : List Record) (now : ℕ) (who : Caller) (key : Option (List ℕ)) (x : Request) (user : User) (plan : Plan) → catalog.user_of c who ≡ Some user → first_refusal c user x ≡ None → plan_for c h user x ≡ Some plan
      → answer c h now (record { caller = who; key = key; request = x }) ≡ answer_here h now user plan (record { caller = who; key = key; request = x })
  pub list : (c h : List Record) (now : ℕ) (who : Caller) (key : Option (List ℕ)) (x : Request) (user : User) (plan : Plan) → catalog.user_of c who ≡ Some user → first_refusal c user x ≡ None → plan_for c h user x ≡ Some plan
      → shard_list c h now (record { caller = who; key = key; request = x }) ≡ list_after h now user plan (record { caller = who; key = key; request = x })

-- The grade by the highest total is at least that of each attempt's total alone.
pub record HighestIsHighest : Type 0 where
  pub row : (policy : Policy) (front rest : List (Option ℤ)) (t g alone : ℤ) → policy.method ≡ method.Highest → pos 0 ≤ℤ policy.grade → row_of policy (front ++ Some t ∷ rest) ≡ Some g → row_of policy (Some t ∷ []) ≡ Some alone → alone ≤ℤ g

-- ---- what a student's readings depend on

-- a record without the versions that its shard learned by it
abbrev pub unlearned_event : Event → Event
unlearned_event (event.Started quiz nth behaviour bounds learned) = event.Started quiz nth behaviour bounds []
unlearned_event (event.Rebound job a k bound learned) = event.Rebound job a k bound []
unlearned_event e = e

abbrev pub unlearned : Record → Record
unlearned r = record r { event = unlearned_event r.event }

abbrev pub own_records : ℕ → List Record → List Record
own_records u h = map unlearned (filter (history.is_owned u) h)

-- Two lists, each record of which has its owner, have the same records of a user but for what was learned, and give the
-- same question for each version that is bound in an attempt of this user.
pub record AgreeFor (index count u : ℕ) (h g : List Record) : Type 0 where
  pub owners : list_all (has_its_owner index count) h ≡ true
  pub others : list_all (has_its_owner index count) g ≡ true
  pub own : own_records u h ≡ own_records u g
  pub versions : (a : AttemptId) (k : ℕ) (b : Bound) → a.user ≡ u → history.bound h a k ≡ Some b → history.version h b.entry b.version ≡ history.version g b.entry b.version

-- Then all that is read of this user's attempts is the same, whatever the records of others are.
pub record OwnReadingsAgree : Type 0 where
  pub place : (index count u : ℕ) (h g : List Record) → AgreeFor index count u h g → history.place h u ≡ history.place g u
  pub time : (index count u now : ℕ) (h g : List Record) → AgreeFor index count u h g → history.time h u now ≡ history.time g u now
  pub start : (index count : ℕ) (a : AttemptId) (h g : List Record) → AgreeFor index count a.user h g → history.start h a ≡ history.start g a
  pub ended : (index count : ℕ) (a : AttemptId) (h g : List Record) → AgreeFor index count a.user h g → history.ended h a ≡ history.ended g a
  pub bound : (index count : ℕ) (a : AttemptId) (k : ℕ) (h g : List Record) → AgreeFor index count a.user h g → history.bound h a k ≡ history.bound g a k
  pub steps : (index count : ℕ) (a : AttemptId) (k : ℕ) (h g : List Record) → AgreeFor index count a.user h g → history.steps h a k ≡ history.steps g a k
  pub state : (index count : ℕ) (a : AttemptId) (k : ℕ) (h g : List Record) → AgreeFor index count a.user h g → history.state h a k ≡ history.state g a k
  pub mark : (index count : ℕ) (a : AttemptId) (k : ℕ) (h g : List Record) → AgreeFor index count a.user h g → history.mark h a k ≡ history.mark g a k
  pub total : (index count : ℕ) (a : AttemptId) (h g : List Record) → AgreeFor index count a.user h g → history.total h a ≡ history.total g a
  pub attempts : (index count q u : ℕ) (h g : List Record) → AgreeFor index count u h g → history.attempts h q u ≡ history.attempts g q u
  pub row : (index count q : ℕ) (policy : Policy) (u : ℕ) (h g : List Record) → AgreeFor index count u h g → history.row h q policy u ≡ history.row g q policy u
