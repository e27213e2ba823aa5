-- The answer over the catalogue and a shard, and that of a school with several shards.
use Rattle.std.specs.Prelude.{ℕ, ◌%◌, not, ◌||◌, List, [], ◌∷◌, map, length, is_some, if◌then◌else◌, nat_lt, slice_get, Some, None, flat_map, Option, unwrap_or, option_map, option_and_then}
use Rattle.qz_grading.specs.declared.refusal.AttemptId.{AttemptId}
use Rattle.qz_grading.specs.declared.refusal.Refusal.{Refusal}
use Rattle.qz_grading.specs.declared.refusal.Refusal.TheVariants as refusal
use Rattle.qz_grading.specs.declared.refusal.Thing.TheVariants as thing
use Rattle.qz_grading.specs.Behaviours.{first_some}
use Rattle.qz_grading.specs.Grading.{at_place}
use Rattle.qz_terms.specs.declared.ask.Ask.{Ask}
use Rattle.qz_terms.specs.declared.grades.Policy.{Policy}
use Rattle.qz_terms.specs.declared.people.User.{User}
use Rattle.qz_terms.specs.declared.plan.Plan.{Plan}
use Rattle.qz_terms.specs.declared.record.Record.{Record}
use Rattle.qz_terms.specs.declared.reply.Done.TheVariants as done
use Rattle.qz_terms.specs.declared.reply.Reply.{Reply}
use Rattle.qz_terms.specs.declared.reply.Reply.TheVariants as reply
use Rattle.qz_terms.specs.declared.reply.Row.{Row}
use Rattle.qz_terms.specs.declared.request.Request.{Request}
use Rattle.qz_terms.specs.declared.request.Request.TheVariants as request
use Rattle.qz_terms.specs.Catalog as catalog
use Rattle.qz_terms.specs.Cause.{forbidden, missing_in, missing_shard}
use Rattle.qz_terms.specs.History as history
use Rattle.qz_terms.specs.Lists.{in_order}
use Rattle.qz_terms.specs.Answer.{answer_here, attempt_named, list_after, live_answer, named_user, work_after, work_answer}
use Rattle.qz_terms.specs.CatalogAnswer.{asks_catalog, catalog_after, catalog_answer}

-- ---- reports

abbrev pub name_of : List Record → ℕ → List ℕ
name_of c u = unwrap_or (option_map (λ (x : User). x.name) (at_place (catalog.users c) u)) []

-- a user's row is read in the user's own shard
abbrev pub report_row : List Record → List (List Record) → Policy → ℕ → ℕ → Row
report_row c parts policy q u = record { user = u; name = name_of c u; grade = unwrap_or (option_map (λ h. history.row h q policy u) (slice_get parts (u % length parts))) None }

abbrev pub report_rows : List Record → List (List Record) → Policy → ℕ → List Row
report_rows c parts policy q = map (report_row c parts policy q) (in_order nat_lt (flat_map (λ h. history.takers h q) parts))

abbrev pub report_answer : List Record → List (List Record) → ℕ → Reply
report_answer c parts q = reply.Ok (length c) (done.Report (report_rows c parts (catalog.policy c q) q))

-- ---- the answer over the catalogue and a shard

-- the plan under which a request to a shard is answered, where there is one
abbrev pub plan_for : List Record → List Record → User → Request → Option Plan
plan_for c h user (request.Start quiz) = catalog.plan c quiz user.number
plan_for c h user (request.Grade quiz owner) = catalog.plan c quiz owner
plan_for c h user x = option_and_then (λ (a : AttemptId). option_and_then (λ q. catalog.plan c q a.user) (history.quiz h a)) (attempt_named x)

-- an attempt that isn't there has no plan
abbrev pub shard_answer : List Record → List Record → ℕ → User → Ask → Reply
shard_answer c h now user ask = unwrap_or (option_map (λ plan. answer_here h now user plan ask) (plan_for c h user ask.request)) (reply.Refused (refusal.Unknown thing.Attempt))

abbrev pub shard_after : List Record → List Record → ℕ → User → Ask → List Record
shard_after c h now user ask = unwrap_or (option_map (λ plan. list_after h now user plan ask) (plan_for c h user ask.request)) h

abbrev pub job_answer : List Record → List Record → ℕ → User → ℕ → Reply
job_answer c h now user number = unwrap_or (option_map (work_answer h now user.number) (catalog.job c number)) (reply.Refused (refusal.Unknown thing.Job))

abbrev pub job_after : List Record → List Record → ℕ → User → ℕ → List Record
job_after c h now user number = unwrap_or (option_map (work_after h now user.number) (catalog.job c number)) h

-- what isn't refused before
abbrev pub answer_by : List Record → List Record → ℕ → User → Ask → Request → Reply
answer_by c h now user ask (request.Work job shard) = job_answer c h now user job
answer_by c h now user ask (request.Live shard attempt) = live_answer h attempt
answer_by c h now user ask (request.Report quiz) = report_answer c (h ∷ []) quiz
answer_by c h now user ask x = if asks_catalog x then catalog_answer c now user ask else shard_answer c h now user ask

abbrev pub after_by : List Record → List Record → ℕ → User → Ask → Request → List Record
after_by c h now user ask (request.Work job shard) = job_after c h now user job
after_by c h now user ask x = if asks_catalog x then h else shard_after c h now user ask

-- a user's request, refused first by the rules of callers and by what the catalogue doesn't have
abbrev pub first_refusal : List Record → User → Request → Option Refusal
first_refusal c user x = first_some (forbidden user x ∷ missing_in c x ∷ [])

abbrev pub user_answer : List Record → List Record → ℕ → Ask → User → Reply
user_answer c h now ask user = unwrap_or (option_map reply.Refused (first_refusal c user ask.request)) (answer_by c h now user ask ask.request)

abbrev pub user_after : List Record → List Record → ℕ → Ask → User → List Record
user_after c h now ask user = if is_some (first_refusal c user ask.request) then h else after_by c h now user ask ask.request

-- the answer over the catalogue and the shard that the request goes to, which is there; nobody has an unknown token
abbrev pub answer : List Record → List Record → ℕ → Ask → Reply
answer c h now ask = unwrap_or (option_map (user_answer c h now ask) (catalog.user_of c ask.caller)) (reply.Refused refusal.UnknownToken)

-- the shard's list afterwards
abbrev pub shard_list : List Record → List Record → ℕ → Ask → List Record
shard_list c h now ask = unwrap_or (option_map (user_after c h now ask) (catalog.user_of c ask.caller)) h

-- the catalogue's list afterwards
abbrev pub catalog_list : List Record → ℕ → Ask → List Record
catalog_list c now ask = unwrap_or (option_map (λ user. if is_some (first_refusal c user ask.request) || not (asks_catalog ask.request) then c else catalog_after c now user ask) (catalog.user_of c ask.caller)) c

-- ---- the answer of a school, which has as many shards as there are lists

-- the shard that a request goes to, of so many: the one that it names, or that of the user whose attempt or grade it names
abbrev pub part_of : ℕ → User → Request → ℕ
part_of count user (request.Work job shard) = shard
part_of count user (request.Live shard attempt) = shard
part_of count user x = named_user user x % count

abbrev pub part_at : List (List Record) → ℕ → List Record
part_at parts k = unwrap_or (slice_get parts k) []

-- what the catalogue refuses, or else a shard that isn't there
abbrev pub refusal_among : List Record → ℕ → User → Request → Option Refusal
refusal_among c count user x = first_some (first_refusal c user x ∷ missing_shard count x ∷ [])

-- a report reads every shard, and any other request at most one
abbrev pub answer_among : List Record → List (List Record) → ℕ → User → Ask → Request → Reply
answer_among c parts now user ask (request.Report quiz) = report_answer c parts quiz
answer_among c parts now user ask x = answer_by c (part_at parts (part_of (length parts) user x)) now user ask x

abbrev pub school_answer_by : List Record → List (List Record) → ℕ → Ask → User → Reply
school_answer_by c parts now ask user =
    unwrap_or (option_map reply.Refused (refusal_among c (length parts) user ask.request)) (answer_among c parts now user ask ask.request)

abbrev pub school_answer : List Record → List (List Record) → ℕ → Ask → Reply
school_answer c parts now ask = unwrap_or (option_map (school_answer_by c parts now ask) (catalog.user_of c ask.caller)) (reply.Refused refusal.UnknownToken)

-- the shard that a request goes to, where it goes to one
abbrev pub asked_part : List Record → ℕ → Ask → Option ℕ
asked_part c count ask = option_and_then (λ user. if asks_catalog ask.request then None else Some (part_of count user ask.request)) (catalog.user_of c ask.caller)
