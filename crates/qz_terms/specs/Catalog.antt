-- What the records of the catalogue tell: of users and groups, of the bank, of quizzes and of jobs. Each is numbered from 1
-- in the order in which the records made them.
use Rattle.std.specs.List.{enumerate_from, list_any}
use Rattle.std.specs.Prelude.{ℕ, ◌+◌, ◌-◌, ◌*◌, Bool, true, false, ◌&&◌, List, [], map, length, take, ℤ, pos, is_some, if◌then◌else◌, nat_le, ◌==◌, Some, None, codes, bytes_eq, fold, filter, flat_map, filter_map, Option, unwrap_or, option_map, option_and_then}
use Rattle.qz_decimal.specs.Numbers.{grade_one}
use Rattle.qz_grading.specs.declared.outcome.Behaviour.{Behaviour}
use Rattle.qz_grading.specs.declared.question.Bank.{Bank}
use Rattle.qz_grading.specs.declared.question.Item.{Item}
use Rattle.qz_grading.specs.declared.question.Question.{Question}
use Rattle.qz_grading.specs.Grading.{at_place}
use Rattle.qz_grading.specs.Steps.{last_of}
use Rattle.qz_terms.specs.declared.access.Override.{Override}
use Rattle.qz_terms.specs.declared.access.Settings.{Settings}
use Rattle.qz_terms.specs.declared.grades.Method.{Method}
use Rattle.qz_terms.specs.declared.grades.Method.TheVariants as method
use Rattle.qz_terms.specs.declared.grades.Policy.{Policy}
use Rattle.qz_terms.specs.declared.people.Caller.{Caller}
use Rattle.qz_terms.specs.declared.people.Caller.TheVariants as caller
use Rattle.qz_terms.specs.declared.people.Role.{Role}
use Rattle.qz_terms.specs.declared.people.Role.TheVariants as role
use Rattle.qz_terms.specs.declared.people.User.{User}
use Rattle.qz_terms.specs.declared.plan.Job.{Job}
use Rattle.qz_terms.specs.declared.plan.Plan.{Plan}
use Rattle.qz_terms.specs.declared.plan.Planned.{Planned}
use Rattle.qz_terms.specs.declared.record.Event.{Event}
use Rattle.qz_terms.specs.declared.record.Event.TheVariants as event
use Rattle.qz_terms.specs.declared.record.Record.{Record}
use Rattle.qz_terms.specs.declared.reply.Done.{Done}
use Rattle.qz_terms.specs.declared.reply.Done.TheVariants as done
use Rattle.qz_terms.specs.declared.request.Request.{Request}
use Rattle.qz_terms.specs.declared.request.Request.TheVariants as request
use Rattle.qz_terms.specs.declared.request.Whom.{Whom}
use Rattle.qz_terms.specs.declared.request.Whom.TheVariants as whom
use Rattle.qz_terms.specs.Access.{default_settings, effective}
use Rattle.qz_terms.specs.Lists.{first_of, places_to, up_to_first}
use Rattle.qz_terms.specs.Rows.{sum_of}

abbrev pub asked_by : Event → Option Request
asked_by (event.Asked request) = Some request
asked_by e = None

-- the request that a record keeps
abbrev pub asked : Record → Option Request
asked r = asked_by r.event

-- ---- users and groups

-- who a user is, beside the number
pub record Person : Type 0 where
  pub name : List ℕ
  pub role : Role
  pub token : List ℕ

abbrev pub person_by : Request → Option Person
person_by (request.User name role token) = Some (record { name = name; role = role; token = token })
person_by x = None

abbrev pub person_in : Event → Option Person
person_in (event.Founded shards token) = Some (record { name = codes "admin"; role = role.Manager; token = token })
person_in (event.Asked x) = person_by x
person_in e = None

-- the user that a record makes; the first is the manager of the founding
abbrev pub made_user : Record → Option Person
made_user r = person_in r.event

abbrev pub user_with : ℕ → Person → User
user_with number p = record { number = number; name = p.name; role = p.role; token = p.token }

abbrev pub users : List Record → List User
users c = map (λ (u : ℕ × Person). user_with u.0 u.1) (enumerate_from 1 (filter_map made_user c))

abbrev pub has_token : List ℕ → User → Bool
has_token token u = bytes_eq u.token token

abbrev pub user_of_token : List Record → List ℕ → Option User
user_of_token c token = first_of (filter (has_token token) (users c))

-- a worker stands as a manager of number 0
abbrev pub worker : User
worker = record { number = 0; name = []; role = role.Manager; token = [] }

abbrev pub user_of : List Record → Caller → Option User
user_of c (caller.Token token) = user_of_token c token
user_of c caller.Worker = Some worker

abbrev pub is_made_with : List ℕ → Option Person → Bool
is_made_with token None = false
is_made_with token (Some p) = bytes_eq p.token token

-- the place of the record that made the user of a token, where there is one
abbrev pub token_place : List Record → List ℕ → Option ℕ
token_place c token = option_map (λ u. length (up_to_first (λ r. is_made_with token (made_user r)) c)) (user_of_token c token)

abbrev pub group_by : Option Request → Option (List ℕ)
group_by (Some (request.Group name)) = Some name
group_by x = None

abbrev pub groups : List Record → List (List ℕ)
groups c = filter_map (λ r. group_by (asked r)) c

abbrev pub joins_by : ℕ → ℕ → Option Request → Bool
joins_by group user (Some (request.Member g u)) = (g == group) && (u == user)
joins_by group user x = false

abbrev pub is_member : List Record → ℕ → ℕ → Bool
is_member c group user = list_any (λ r. joins_by group user (asked r)) c

abbrev pub founded_by : Event → Option ℕ
founded_by (event.Founded shards token) = Some shards
founded_by e = None

-- how many shards the school was founded with
abbrev pub shards : List Record → Option ℕ
shards c = first_of (filter_map (λ (r : Record). founded_by r.event) c)

-- ---- the bank

abbrev pub imports_by : Option Request → List Item
imports_by (Some (request.Import gift)) = gift.items
imports_by x = []

-- the entries, as they were imported
abbrev pub entries : List Record → List Item
entries c = flat_map (λ r. imports_by (asked r)) c

abbrev pub changes_by : ℕ → Option Request → Option Request
changes_by entry (Some (request.Edit e gift)) = if e == entry then Some (request.Edit e gift) else None
changes_by entry (Some (request.Tune e penalty hints)) = if e == entry then Some (request.Tune e penalty hints) else None
changes_by entry x = None

-- the edits and tunings of an entry
abbrev pub changes : List Record → ℕ → List Request
changes c entry = filter_map (λ r. changes_by entry (asked r)) c

-- an edited version keeps the penalty and the hints of the one before
abbrev pub edited : Question → Question → Question
edited old gift = record gift { penalty = old.penalty; hints = old.hints }

abbrev pub tuned : Question → ℤ → List (List ℕ) → Question
tuned old penalty hints = record old { penalty = penalty; hints = hints }

-- what an edit or a tuning makes of the version before
abbrev pub changed_by : Question → Request → Question
changed_by old (request.Edit entry gift) = edited old gift
changed_by old (request.Tune entry penalty hints) = tuned old penalty hints
changed_by old x = old

-- the greatest version of an entry, and 0 where it isn't there
abbrev pub latest : List Record → ℕ → ℕ
latest c entry = if is_some (at_place (entries c) entry) then length (changes c entry) + 1 else 0

-- the imported question, changed by so many edits and tunings less one
abbrev pub version : List Record → ℕ → ℕ → Option Question
version c entry number =
    if nat_le 1 number && nat_le number (latest c entry) then option_map (λ (i : Item). fold changed_by i.question (take (number - 1) (changes c entry))) (at_place (entries c) entry) else None

-- ---- quizzes

abbrev pub quiz_by : Option Request → Option (List ℕ × Behaviour)
quiz_by (Some (request.Quiz name behaviour)) = Some (name, behaviour)
quiz_by x = None

-- the name and behaviour of each
abbrev pub quizzes : List Record → List (List ℕ × Behaviour)
quizzes c = filter_map (λ r. quiz_by (asked r)) c

abbrev pub slot_by : ℕ → Option Request → Option (ℕ × ℤ)
slot_by q (Some (request.Slot quiz entry max)) = if quiz == q then Some (entry, max) else None
slot_by q x = None

-- the entry and the first max mark of each slot
abbrev pub slots_made : List Record → ℕ → List (ℕ × ℤ)
slots_made c q = filter_map (λ r. slot_by q (asked r)) c

abbrev pub remax_by : ℕ → ℕ → Option Request → Option ℤ
remax_by q k (Some (request.Remax quiz slot max)) = if (quiz == q) && (slot == k) then Some max else None
remax_by q k x = None

abbrev pub remaxed : List Record → ℕ → ℕ → Option ℤ
remaxed c q k = last_of (filter_map (λ r. remax_by q k (asked r)) c)

abbrev pub planned : List Record → ℕ → ℕ → ℕ → ℤ → Planned
planned c q k entry max = record { entry = entry; version = latest c entry; max = unwrap_or (remaxed c q k) max }

-- each slot with its entry, that entry's latest version, and the last max mark
abbrev pub slots : List Record → ℕ → List Planned
slots c q = map (λ (s : ℕ × (ℕ × ℤ)). planned c q s.0 s.1.0 s.1.1) (enumerate_from 1 (slots_made c q))

abbrev pub readies_by : ℕ → Option Request → Bool
readies_by q (Some (request.Ready quiz)) = quiz == q
readies_by q x = false

abbrev pub readies : ℕ → Record → Bool
readies q r = readies_by q (asked r)

abbrev pub is_ready : List Record → ℕ → Bool
is_ready c q = list_any (readies q) c

-- the place since which it is
abbrev pub ready_at : List Record → ℕ → Option ℕ
ready_at c q = if is_ready c q then Some (length (up_to_first (readies q) c)) else None

abbrev pub times_by : ℕ → Option Request → Option Settings
times_by q (Some (request.Times quiz opens closes limit allowed handling grace review)) =
    if quiz == q then Some (record { opens = opens; closes = closes; limit = limit; allowed = allowed; handling = handling; grace = grace; review = review }) else None
times_by q x = None

-- the quiz's own settings
abbrev pub own_settings : List Record → ℕ → Settings
own_settings c q = unwrap_or (last_of (filter_map (λ r. times_by q (asked r)) c)) default_settings

abbrev pub same_whom : Whom → Whom → Bool
same_whom whom.User whom.User = true
same_whom whom.Group whom.Group = true
same_whom a b = false

abbrev pub override_by : ℕ → Whom → ℕ → Option Request → Option Override
override_by q w n (Some (request.Override quiz whom number opens closes limit allowed)) =
    if (quiz == q) && (same_whom whom w && (number == n)) then Some (record { opens = opens; closes = closes; limit = limit; allowed = allowed }) else None
override_by q w n x = None

-- what is set otherwise for a user or a group: a second request replaces the first whole
abbrev pub override : List Record → ℕ → Whom → ℕ → Option Override
override c q w n = last_of (filter_map (λ r. override_by q w n (asked r)) c)

abbrev pub groups_of : List Record → ℕ → List ℕ
groups_of c u = filter (λ g. is_member c g u) (places_to (length (groups c)))

abbrev pub settings : List Record → ℕ → ℕ → Settings
settings c q u = effective (own_settings c q) (override c q whom.User u) (filter_map (override c q whom.Group) (groups_of c u))

abbrev pub policy_by : ℕ → Option Request → Option (Method × ℤ)
policy_by q (Some (request.Policy quiz method grade)) = if quiz == q then Some (method, grade) else None
policy_by q x = None

-- the highest total, for a grade of 10
abbrev pub default_policy : Method × ℤ
default_policy = (method.Highest, pos (10 * grade_one))

abbrev pub policy_with : List Planned → Method × ℤ → Policy
policy_with planned p = record { method = p.0; grade = p.1; sum = sum_of (map (λ (s : Planned). s.max) planned) }

abbrev pub policy : List Record → ℕ → Policy
policy c q = policy_with (slots c q) (unwrap_or (last_of (filter_map (λ r. policy_by q (asked r)) c)) default_policy)

abbrev pub questions : List Record → List Planned → List Question
questions c planned = filter_map (λ (s : Planned). version c s.entry s.version) planned

-- a quiz as these records give it, under these settings
abbrev pub plan_under : Settings → List Record → ℕ → Option Plan
plan_under s c q = option_map (λ (named : List ℕ × Behaviour). record {
  at = length c;
  quiz = q;
  name = named.0;
  ready = is_ready c q;
  behaviour = named.1;
  settings = s;
  policy = policy c q;
  slots = slots c q;
  questions = questions c (slots c q);
}) (at_place (quizzes c) q)

abbrev pub plan : List Record → ℕ → ℕ → Option Plan
plan c q u = plan_under (settings c q u) c q

-- ---- jobs

abbrev pub regrade_by : ℕ → Option Request → Option (ℕ × ℕ)
regrade_by place (Some (request.Regrade quiz)) = Some (place, quiz)
regrade_by place x = None

-- the position and the quiz of each
abbrev pub jobs : List Record → List (ℕ × ℕ)
jobs c = filter_map (λ (r : ℕ × Record). regrade_by r.0 (asked r.1)) (enumerate_from 1 c)

abbrev pub job_with : List Record → ℕ → ℕ × ℕ → Option Job
job_with c number j = option_map (λ plan. record { number = number; position = j.0; plan = plan }) (plan_under (own_settings (take j.0 c) j.1) (take j.0 c) j.1)

-- a job has the plan of its quiz at its position, with the quiz's own settings
abbrev pub job : List Record → ℕ → Option Job
job c number = option_and_then (job_with c number) (at_place (jobs c) number)

-- ---- what is said of the last record

-- the first of the entries that the last import made, and 0 where it made none
abbrev pub first_entry : List Record → Bank → ℕ
first_entry c gift = if length gift.items == 0 then 0 else length (entries c) - length gift.items + 1

-- of a request that was accepted
abbrev pub asked_reply : List Record → Request → Done
asked_reply c (request.User name role token) = done.Made (length (users c))
asked_reply c (request.Group name) = done.Made (length (groups c))
asked_reply c (request.Import gift) = done.Imported (first_entry c gift) (length gift.items)
asked_reply c (request.Edit entry gift) = done.Version entry (latest c entry)
asked_reply c (request.Tune entry penalty hints) = done.Version entry (latest c entry)
asked_reply c (request.Quiz name behaviour) = done.Made (length (quizzes c))
asked_reply c (request.Slot quiz entry max) = done.Slot (length (slots c quiz))
asked_reply c (request.Regrade quiz) = done.Job (length (jobs c))
asked_reply c x = done.Done
