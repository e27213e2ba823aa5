-- Every schedule: what turns, mendings and stops, in any order, make of the lists of a school. No thread stands in it.
use Rattle.std.specs.List.{range_with_len}
use Rattle.std.specs.Prelude.{◌≡◌, ℕ, ◌+◌, ◌-◌, ◌%◌, Bool, true, false, not, ◌&&◌, ◌||◌, ◌⊎◌, List, [], ◌∷◌, ◌++◌, map, length, drop, replicate, pos, if◌then◌else◌, nat_lt, ◌==◌, slice_get, Some, None, fold, Option, unwrap_or, option_map, option_to_list, slice_set}
use Rattle.qz_grading.specs.declared.refusal.AttemptId.{AttemptId}
use Rattle.qz_grading.specs.declared.refusal.Refusal.{Refusal}
use Rattle.qz_grading.specs.declared.refusal.Refusal.TheVariants as refusal
use Rattle.qz_grading.specs.declared.refusal.Thing.TheVariants as thing
use Rattle.qz_grading.specs.Behaviours.{first_some}
use Rattle.qz_grading.specs.Grading.{at_place}
use Rattle.qz_grading.specs.Steps.{before}
use Rattle.qz_school.specs.Agreement.{is_start}
use Rattle.qz_terms.specs.declared.ask.Ask.{Ask}
use Rattle.qz_terms.specs.declared.grades.Method.TheVariants as method
use Rattle.qz_terms.specs.declared.grades.Policy.{Policy}
use Rattle.qz_terms.specs.declared.people.Caller.{Caller}
use Rattle.qz_terms.specs.declared.people.Caller.TheVariants as caller
use Rattle.qz_terms.specs.declared.people.User.{User}
use Rattle.qz_terms.specs.declared.plan.Job.{Job}
use Rattle.qz_terms.specs.declared.plan.Plan.{Plan}
use Rattle.qz_terms.specs.declared.record.Record.{Record}
use Rattle.qz_terms.specs.declared.reply.Done.TheVariants as done
use Rattle.qz_terms.specs.declared.reply.Reply.{Reply}
use Rattle.qz_terms.specs.declared.reply.Reply.TheVariants as reply
use Rattle.qz_terms.specs.declared.reply.Row.{Row}
use Rattle.qz_terms.specs.declared.request.Request.{Request}
use Rattle.qz_terms.specs.declared.request.Request.TheVariants as request
use Rattle.qz_terms.specs.Answer.{answer_here, attempt_named, list_after, live_answer, named_user, work_after, work_answer}
use Rattle.qz_terms.specs.CatalogAnswer.{asks_catalog, catalog_after, catalog_answer}
use Rattle.qz_terms.specs.Catalog as catalog
use Rattle.qz_terms.specs.Cause.{forbidden, is_keyed, missing_attempt, missing_in, missing_shard, rule_of}
use Rattle.qz_terms.specs.History as history
use Rattle.qz_terms.specs.Lists.{first_of, in_order}
use Rattle.qz_terms.specs.Parts.{part}
use Rattle.qz_terms.specs.Serial.{Held, Lists, held_in}

-- ---- the turns of one ask, in order

-- for the user; for the quiz of the attempt; for the plan; for the job; for a report's plan and names, and for its rows in
-- each shard; and for the request itself
pub data Stage : Type 0 where
  ForUser : Stage
  ForQuiz : AttemptId → Stage
  ForPlan : Stage
  ForJob : ℕ → Stage
  ForNames : ℕ → Stage
  ForRows : (quiz part : ℕ) → Stage
  ForRequest : Stage

abbrev pub user_stage : Caller → List Stage
user_stage (caller.Token token) = ForUser ∷ []
user_stage caller.Worker = []

abbrev pub attempt_stages : Option AttemptId → List Stage
attempt_stages None = ForRequest ∷ []
attempt_stages (Some a) = ForQuiz a ∷ ForPlan ∷ ForRequest ∷ []

abbrev pub request_stages : ℕ → Request → List Stage
request_stages count (request.Report quiz) = ForNames quiz ∷ map (ForRows quiz) (range_with_len 0 count)
request_stages count (request.Work job shard) = ForJob job ∷ ForRequest ∷ []
request_stages count (request.Start quiz) = ForPlan ∷ ForRequest ∷ []
request_stages count (request.Grade quiz owner) = ForPlan ∷ ForRequest ∷ []
request_stages count x = attempt_stages (attempt_named x)

abbrev pub stages : ℕ → Ask → List Stage
stages count ask = user_stage ask.caller ++ request_stages count ask.request

-- ---- worlds

-- what a caller has seen of each list, the ask that it is in and how many of its turns were made, and what these gave
pub record Visit : Type 0 where
  pub records : List Record
  pub parts : List (List Record)
  pub ask : Option Ask
  pub made : ℕ
  pub user : Option User
  pub quiz : Option ℕ
  pub plan : Option Plan
  pub job : Option Job
  pub names : List (List ℕ)
  pub rows : List Row

-- a reply, with the lists that its caller had then seen, without its own record
pub record Told : Type 0 where
  pub caller : ℕ
  pub ask : Ask
  pub moment : ℕ
  pub reply : Reply
  pub records : List Record
  pub parts : List (List Record)

pub record World : Type 0 where
  pub records : Held
  pub parts : List Held
  pub visits : List Visit
  pub told : List Told

-- what becomes of a record in doubt, where there is one
pub data Mending : Type 0 where
  Adopts : Mending
  Drops : Mending
  Stays : Refusal → Mending

-- the turn is answered; its record is left in doubt; or memory was wanting
pub data Choice : Type 0 where
  Answers : Choice
  LeavesInDoubt : Choice
  LacksMemory : Choice

-- the first turn of an ask, by a caller that is in none; or the next turn of the ask that the caller is in, so many of whose
-- turns were made
pub data Next : Type 0 where
  Begins : Ask → Next
  GoesOn : (made : ℕ) → Next

-- a turn of a caller; a mending of the catalogue or of a shard; or a stop, which tells for each list the record more that is
-- kept there, if any
pub data Happening : Type 0 where
  Turns : (caller moment : ℕ) → Next → Mending → Choice → Happening
  Mends : (part : Option ℕ) → (adopts : Bool) → Happening
  Stops : (records : Option Record) → (parts : List (Option Record)) → Happening

-- ---- lists

abbrev pub lists_in : World → Lists
lists_in w = record { records = w.records; parts = w.parts }

-- the list of a shard, or of the catalogue
abbrev pub held_at : World → Option ℕ → Held
held_at w part = held_in (lists_in w) part

abbrev pub with_held : World → Option ℕ → Held → World
with_held w None held = record w { records = held }
with_held w (Some k) held = record w { parts = slice_set w.parts k held }

abbrev pub mended_by : Mending → Held → Option Record → Held
mended_by m held None = held
mended_by Adopts held (Some x) = record { list = held.list ++ x ∷ []; doubt = None }
mended_by Drops held (Some x) = record { list = held.list; doubt = None }
mended_by (Stays r) held (Some x) = held

-- ---- visits

abbrev pub ended_visit : Visit → Visit
ended_visit v = record { records = v.records; parts = v.parts; ask = None; made = 0; user = None; quiz = None; plan = None; job = None; names = []; rows = [] }

abbrev pub fresh_visit : ℕ → Visit
fresh_visit count = record { records = []; parts = replicate count []; ask = None; made = 0; user = None; quiz = None; plan = None; job = None; names = []; rows = [] }

abbrev pub seeing : Visit → Option ℕ → List Record → Visit
seeing v None list = record v { records = list }
seeing v (Some k) list = record v { parts = slice_set v.parts k list }

abbrev pub with_visit : World → ℕ → Visit → World
with_visit w k v = record w { visits = slice_set w.visits k v }

-- the ask ends with a reply; what was seen without the own record is told with it
abbrev pub replied : World → ℕ → ℕ → Ask → Visit → Visit → Reply → World
replied w k moment ask before after r = record w {
  visits = slice_set w.visits k (ended_visit after);
  told = w.told ++ record { caller = k; ask = ask; moment = moment; reply = r; records = before.records; parts = before.parts } ∷ [];
}

-- the ask goes on
abbrev pub goes_on_with : World → ℕ → Ask → Visit → World
goes_on_with w k ask v = with_visit w k (record v { ask = Some ask; made = v.made + 1 })

-- a start reads its plan again
abbrev pub goes_back : World → ℕ → Ask → Visit → World
goes_back w k ask v = with_visit w k (record v { ask = Some ask; made = v.made - 1; plan = None })

-- ---- where a turn is made

-- a worker stands as a manager of number 0
abbrev pub visitor : Visit → Ask → User
visitor v ask = unwrap_or v.user catalog.worker

abbrev pub request_part : ℕ → User → Request → Option ℕ
request_part count user (request.Work job shard) = Some shard
request_part count user (request.Live shard attempt) = Some shard
request_part count user x = if asks_catalog x then None else Some (named_user user x % count)

abbrev pub stage_part : ℕ → User → Request → Stage → Option ℕ
stage_part count user x (ForQuiz a) = Some (a.user % count)
stage_part count user x (ForRows quiz part) = Some part
stage_part count user x ForRequest = request_part count user x
stage_part count user x stage = None

abbrev pub is_there : ℕ → Option ℕ → Bool
is_there count None = true
is_there count (Some k) = nat_lt k count

-- ---- what a turn reads

abbrev pub read_or_refused : World → ℕ → ℕ → Ask → Visit → Option Refusal → Visit → World
read_or_refused w k moment ask v (Some r) reading = replied w k moment ask v v (reply.Refused r)
read_or_refused w k moment ask v None reading = goes_on_with w k ask reading

-- where attempts go on is asked of a shard alone, and one that isn't there is found without a turn
abbrev pub missing_live : ℕ → Request → Option Refusal
missing_live count (request.Live shard attempt) = missing_shard count (request.Live shard attempt)
missing_live count x = None

abbrev pub user_refusal : ℕ → Option User → Request → Option Refusal
user_refusal count None x = Some refusal.UnknownToken
user_refusal count (Some user) x = first_some (forbidden user x ∷ missing_live count x ∷ [])

abbrev pub planned_quiz : Visit → Request → ℕ
planned_quiz v (request.Start quiz) = quiz
planned_quiz v (request.Grade quiz owner) = quiz
planned_quiz v x = unwrap_or v.quiz 0

abbrev pub row_in : List Record → List (List ℕ) → ℕ → Policy → ℕ → Row
row_in h names q policy u = record { user = u; name = unwrap_or (at_place names u) []; grade = history.row h q policy u }

abbrev pub policy_of : Option Plan → Policy
policy_of None = record { method = method.Highest; grade = pos 0; sum = pos 0 }
policy_of (Some plan) = plan.policy

abbrev pub row_before : Row → Row → Bool
row_before a b = nat_lt a.user b.user

-- a report's last turn gives its reply
abbrev pub rows_read : World → ℕ → ℕ → Ask → Visit → Bool → World
rows_read w k moment ask v false = goes_on_with w k ask v
rows_read w k moment ask v true = replied w k moment ask v v (reply.Ok (unwrap_or (option_map (λ (p : Plan). p.at) v.plan) 0) (done.Report (in_order row_before v.rows)))

-- ---- the request itself

pub record Answered : Type 0 where
  pub reply : Reply
  pub list : List Record

abbrev pub answered_by_job : List Record → ℕ → User → Option Job → Answered
answered_by_job l moment user None = record { reply = reply.Refused (refusal.Unknown thing.Job); list = l }
answered_by_job l moment user (Some job) = record { reply = work_answer l moment user.number job; list = work_after l moment user.number job }

abbrev pub answered_by_plan : List Record → ℕ → User → Ask → Option Plan → Answered
answered_by_plan l moment user ask None = record { reply = reply.Refused (refusal.Unknown thing.Attempt); list = l }
answered_by_plan l moment user ask (Some plan) = record { reply = answer_here l moment user plan ask; list = list_after l moment user plan ask }

abbrev pub answered : List Record → ℕ → User → Visit → Ask → Request → Answered
answered l moment user v ask (request.Work job shard) = answered_by_job l moment user v.job
answered l moment user v ask (request.Live shard attempt) = record { reply = live_answer l attempt; list = l }
answered l moment user v ask x = if asks_catalog x then record { reply = catalog_answer l moment user ask; list = catalog_after l moment user ask } else answered_by_plan l moment user ask v.plan

-- a start whose plan is older than the floor of its quiz
abbrev pub is_older : List Record → Visit → Request → Bool
is_older l v x = is_start x && unwrap_or (option_map (λ (p : Plan). nat_lt p.at (history.floor l p.quiz)) v.plan) false

abbrev pub request_made : World → ℕ → ℕ → Ask → Visit → Option ℕ → List Record → Answered → World
request_made w k moment ask v part l a = replied (with_held w part (record { list = a.list; doubt = None })) k moment ask v (seeing v part a.list) a.reply

-- the record that was to be put, if any, is left in doubt
abbrev pub request_doubted : World → ℕ → ℕ → Ask → Visit → Option ℕ → List Record → Answered → Option Record → World
request_doubted w k moment ask v part l a None = request_made w k moment ask v part l a
request_doubted w k moment ask v part l a (Some x) = replied (with_held w part (record { list = l; doubt = Some x })) k moment ask v v (reply.Refused refusal.KeepFault)

abbrev pub request_turn : World → ℕ → ℕ → Ask → Visit → Option ℕ → List Record → Choice → Answered → World
request_turn w k moment ask v part l Answers a = request_made w k moment ask v part l a
request_turn w k moment ask v part l LeavesInDoubt a = request_doubted w k moment ask v part l a (first_of (drop (length l) a.list))
request_turn w k moment ask v part l LacksMemory a = replied w k moment ask v v (reply.Refused refusal.Memory)

-- ---- the second part of a turn, at a list without doubt which the caller has now seen

abbrev pub reading_turn : World → ℕ → ℕ → Ask → Visit → List Record → ℕ → Stage → World
reading_turn w k moment ask v l count ForUser = read_or_refused w k moment ask v (user_refusal count (catalog.user_of l ask.caller) ask.request) (record v { user = catalog.user_of l ask.caller })
reading_turn w k moment ask v l count (ForQuiz a) = read_or_refused w k moment ask v (missing_attempt l (visitor v ask) a) (record v { quiz = history.quiz l a })
reading_turn w k moment ask v l count ForPlan = read_or_refused w k moment ask v (missing_in l ask.request) (record v { plan = catalog.plan l (planned_quiz v ask.request) (named_user (visitor v ask) ask.request) })
reading_turn w k moment ask v l count (ForJob number) = read_or_refused w k moment ask v (first_some (missing_in l ask.request ∷ missing_shard count ask.request ∷ [])) (record v { job = catalog.job l number })
reading_turn w k moment ask v l count (ForNames quiz) = read_or_refused w k moment ask v (missing_in l ask.request) (record v { plan = catalog.plan l quiz 0; names = map (λ (u : User). u.name) (catalog.users l) })
reading_turn w k moment ask v l count (ForRows quiz part) = rows_read w k moment ask (record v { rows = v.rows ++ map (row_in l v.names quiz (policy_of v.plan)) (history.takers l quiz) }) (part + 1 == count)
reading_turn w k moment ask v l count ForRequest = w

abbrev pub second_part : World → ℕ → ℕ → Ask → Visit → Option ℕ → List Record → ℕ → Choice → Stage → World
second_part w k moment ask v part l count choice ForRequest = if is_older l v ask.request then goes_back w k ask v else request_turn w k moment ask v part l choice (answered l moment (visitor v ask) v ask ask.request)
second_part w k moment ask v part l count LacksMemory stage = replied w k moment ask v v (reply.Refused refusal.Memory)
second_part w k moment ask v part l count choice stage = reading_turn w k moment ask v l count stage

abbrev pub stays_in_doubt : Option Record → Mending → Option Refusal
stays_in_doubt (Some x) (Stays r) = Some r
stays_in_doubt doubt m = None

-- a turn at a list that stays in doubt ends, and its caller has then seen the list as it stands
abbrev pub turn_at : World → ℕ → ℕ → Ask → Visit → ℕ → Mending → Choice → Option ℕ → Held → Stage → World
turn_at w k moment ask v count mending choice part held stage =
    let mended = mended_by mending held held.doubt in
    elim (stays_in_doubt held.doubt mending) [
      | Some r ↦ replied w k moment ask (seeing v part held.list) (seeing v part held.list) (reply.Refused r)
      | None ↦ second_part (with_held w part mended) k moment ask (seeing v part mended.list) part mended.list count choice stage
    ]

-- so it is by a worker, who has no turn before
abbrev pub not_there : World → ℕ → ℕ → Ask → Visit → Option Refusal → World
not_there w k moment ask v None = w
not_there w k moment ask v (Some r) = replied w k moment ask v v (reply.Refused r)

abbrev pub turn_by : World → ℕ → ℕ → Ask → Visit → ℕ → Mending → Choice → Option Stage → World
turn_by w k moment ask v count mending choice None = w
turn_by w k moment ask v count mending choice (Some stage) =
    let part = stage_part count (visitor v ask) ask.request stage in
    if is_there count part then turn_at w k moment ask v count mending choice part (held_at w part) stage else not_there w k moment ask v (missing_live count ask.request)

abbrev pub turn_with : World → ℕ → ℕ → Ask → Visit → ℕ → Mending → Choice → World
turn_with w k moment ask v made mending choice = turn_by w k moment ask v (length w.parts) mending choice (slice_get (stages (length w.parts) ask) made)

-- a turn that isn't the next one of its caller's ask changes nothing
abbrev pub turn_in : World → ℕ → ℕ → Visit → Mending → Choice → Next → Option Ask → World
turn_in w k moment v mending choice (Begins ask) None = turn_with w k moment ask v 0 mending choice
turn_in w k moment v mending choice (GoesOn made) (Some ask) = if made == v.made then turn_with w k moment ask v made mending choice else w
turn_in w k moment v mending choice next asking = w

abbrev pub turn_of : World → ℕ → ℕ → Next → Mending → Choice → Option Visit → World
turn_of w k moment next mending choice None = w
turn_of w k moment next mending choice (Some v) = turn_in w k moment v mending choice next v.ask

-- ---- the law of motion

abbrev pub adopted_if : Bool → Mending
adopted_if true = Adopts
adopted_if false = Drops

abbrev pub kept_with : Held → Option Record → Held
kept_with held kept = record { list = held.list ++ option_to_list kept; doubt = None }

abbrev pub kept_parts : List Held → List (Option Record) → List Held
kept_parts [] kept = []
kept_parts (h ∷ hs) [] = kept_with h None ∷ kept_parts hs []
kept_parts (h ∷ hs) (o ∷ os) = kept_with h o ∷ kept_parts hs os

-- after a stop nobody is in an ask, holds anything or has seen anything
abbrev pub stopped : World → Option Record → List (Option Record) → World
stopped w kept parts = record w {
  records = kept_with w.records kept;
  parts = kept_parts w.parts parts;
  visits = map (λ v. fresh_visit (length w.parts)) w.visits;
}

abbrev pub after : World → Happening → World
after w (Turns caller moment next mending choice) = turn_of w caller moment next mending choice (slice_get w.visits caller)
after w (Mends part adopts) = with_held w part (mended_by (adopted_if adopts) (held_at w part) (held_at w part).doubt)
after w (Stops kept parts) = stopped w kept parts

-- what events, in order, make of a world
abbrev pub world : World → List Happening → World
world w events = fold after w events

-- a school that was loaded, with so many callers
abbrev pub loaded : List Record → List (List Record) → ℕ → World
loaded c parts callers = record {
  records = record { list = c; doubt = None };
  parts = map (λ l. record { list = l; doubt = None }) parts;
  visits = replicate callers (fresh_visit (length parts));
  told = [];
}

-- ---- which events are possible

abbrev pub is_worker : Caller → Bool
is_worker (caller.Token token) = false
is_worker caller.Worker = true

-- an ask has a key exactly where its request has one, and a worker asks only what workers may
abbrev pub is_formed : Ask → Bool
is_formed ask = is_keyed ask && (not (is_worker ask.caller) || (rule_of ask.request == 4))

-- so has one that a turn begins; one that goes on was formed when it began
abbrev pub begins_formed : Next → Bool
begins_formed (Begins ask) = is_formed ask
begins_formed (GoesOn made) = true

abbrev pub is_keep_or_memory : Refusal → Bool
is_keep_or_memory refusal.KeepFault = true
is_keep_or_memory refusal.Memory = true
is_keep_or_memory r = false

abbrev pub MendingIsPossible : Mending → Type 0
MendingIsPossible Adopts = Unit {0}
MendingIsPossible Drops = Unit {0}
MendingIsPossible (Stays r) = is_keep_or_memory r ≡ true

-- a turn could put the record at the list's end now
pub record CouldPut (w : World) (part : Option ℕ) (r : Record) : Type 0 where
  pub caller : ℕ
  pub moment : ℕ
  pub next : Next
  pub formed : begins_formed next ≡ true
  pub puts : (held_at (after w (Turns caller moment next Drops Answers)) part).list ≡ (held_at w part).list ++ r ∷ []

-- what a stop keeps is the record in doubt, or one that a turn could put there now
abbrev pub KeepIsPossible : World → Option ℕ → Option Record → Type 0
KeepIsPossible w part None = Unit {0}
KeepIsPossible w part (Some r) = ((held_at w part).doubt ≡ Some r) ⊎ CouldPut w part r

pub record StopIsPossible (w : World) (kept : Option Record) (parts : List (Option Record)) : Type 0 where
  pub records : KeepIsPossible w None kept
  pub each : (k : ℕ) → KeepIsPossible w (Some k) (unwrap_or (slice_get parts k) None)

pub record TurnIsPossible (next : Next) (mending : Mending) : Type 0 where
  pub formed : begins_formed next ≡ true
  pub mends : MendingIsPossible mending

abbrev pub IsPossible : World → Happening → Type 0
IsPossible w (Turns caller moment next mending choice) = TurnIsPossible next mending
IsPossible w (Mends part adopts) = Unit {0}
IsPossible w (Stops kept parts) = StopIsPossible w kept parts

-- each event is possible after those before it
pub record AllPossible (w : World) (events : List Happening) : Type 0 where
  pub each : (front : List Happening) (e : Happening) (rest : List Happening) → events ≡ front ++ e ∷ rest → IsPossible (world w front) e
