-- Worked lines of a school with two shards: each user's attempts are in one of them, and a report reads both.
use Rattle.std.specs.Prelude.{◌≡◌, ℕ, Bool, true, false, is_some, List, [], ◌∷◌, map, length, pos, Some, None, codes, refl}
use Rattle.qz_grading.specs.declared.outcome.Behaviour.TheVariants.{Deferred}
use Rattle.qz_grading.specs.declared.outcome.State.TheVariants as state
use Rattle.qz_grading.specs.declared.refusal.AttemptId.{AttemptId}
use Rattle.qz_grading.specs.declared.refusal.Refusal.TheVariants as refusal
use Rattle.qz_grading.specs.declared.refusal.Thing.TheVariants as thing
use Rattle.qz_grading.specs.declared.response.Answer.TheVariants as answer
use Rattle.qz_terms.specs.declared.ask.Ask.{Ask}
use Rattle.qz_terms.specs.declared.people.Role.TheVariants as role
use Rattle.qz_terms.specs.declared.record.Event.TheVariants as event
use Rattle.qz_terms.specs.declared.reply.Done.TheVariants as done
use Rattle.qz_terms.specs.declared.reply.Reply.{Reply}
use Rattle.qz_terms.specs.declared.reply.Reply.TheVariants as reply
use Rattle.qz_terms.specs.declared.reply.Shown.TheVariants as shown
use Rattle.qz_terms.specs.declared.request.Request.{Request}
use Rattle.qz_terms.specs.declared.request.Request.TheVariants as request
use Rattle.qz_terms.specs.SchoolAnswer.{asked_part}
use Rattle.qz_terms_examples.specs.ExamplesSchool.{asked_with, first_attempt, look, one_of, true_false}
use Rattle.qz_terms.specs.Serial.{Held, Lists, doubt_over, is_settled, lists_over, lists_read, part_list, reads_part, reply_over}
use Rattle.qz_schedule.specs.Worlds.{Answers, Begins, Drops, GoesOn, Told, Turns, World, loaded, world}

abbrev founded : Lists
founded = record { records = record { list = record { moment = 0; caller = 0; owner = 0; key = None; terms = None; event = event.Founded 2 (codes "root") } ∷ []; doubt = None }; parts = record { list = []; doubt = None } ∷ record { list = []; doubt = None } ∷ [] }

abbrev by_root : Lists → List ℕ → Request → Lists
by_root a key x = lists_over a 100 (asked_with (codes "root") key x)

abbrev with_ann : Lists
with_ann = by_root founded (codes "a1") (request.User (codes "ann") role.Student (codes "ann"))

abbrev with_bob : Lists
with_bob = by_root with_ann (codes "a2") (request.User (codes "bob") role.Student (codes "bob"))

abbrev with_sky : Lists
with_sky = by_root with_bob (codes "a3") (request.Import (one_of (true_false (codes "Sky") true)))

abbrev with_quiz : Lists
with_quiz = by_root with_sky (codes "a4") (request.Quiz (codes "Q") Deferred)

abbrev with_slot : Lists
with_slot = by_root with_quiz (codes "a5") (request.Slot 1 1 (pos 20000000))

abbrev school : Lists
school = by_root with_slot (codes "a6") (request.Ready 1)

abbrev bobs_attempt : AttemptId
bobs_attempt = record { user = 3; nth = 1 }

abbrev start : List ℕ → Ask
start token = asked_with token (codes "k1") (request.Start 1)

abbrev save : List ℕ → AttemptId → ℕ → Ask
save token a n = asked_with token (codes "k2") (request.Save a 1 0 (answer.Pick n))

abbrev finish : List ℕ → AttemptId → Ask
finish token a = asked_with token (codes "k3") (request.Finish a)

abbrev lengths : Lists → List ℕ
lengths a = map {B = ℕ} (λ (h : Held). length h.list) a.parts

-- ---- user 2 belongs to shard 0, and user 3 to shard 1

abbrev bob_started : Lists
bob_started = lists_over school 110 (start (codes "bob"))

abbrev both_started : Lists
both_started = lists_over bob_started 111 (start (codes "ann"))

pub bob_starts : reply_over school 110 (start (codes "bob")) ≡ reply.Ok 1 (done.Started bobs_attempt 1 None)
bob_starts = refl

pub in_shard_1 : lengths bob_started ≡ 0 ∷ 1 ∷ []
in_shard_1 = refl

pub ann_starts : reply_over bob_started 111 (start (codes "ann")) ≡ reply.Ok 1 (done.Started first_attempt 1 None)
ann_starts = refl

pub in_shard_0 : lengths both_started ≡ 1 ∷ 1 ∷ []
in_shard_0 = refl

-- where a request goes: by the user whose attempt or grade it names, by its own words, or to no shard
pub by_the_attempt : asked_part school.records.list 2 (look (codes "root") (request.Total bobs_attempt)) ≡ Some 1
by_the_attempt = refl

pub by_the_user : asked_part school.records.list 2 (look (codes "root") (request.Grade 1 2)) ≡ Some 0
by_the_user = refl

pub by_the_caller : asked_part school.records.list 2 (start (codes "bob")) ≡ Some 1
by_the_caller = refl

pub by_its_words : asked_part school.records.list 2 (look (codes "root") (request.Work 1 1)) ≡ Some 1
by_its_words = refl

pub to_none : asked_part school.records.list 2 (look (codes "root") request.Jobs) ≡ None
to_none = refl

-- ---- bob's start is left in doubt: his shard is mended before it is read, and the other isn't touched

abbrev doubtful : Lists
doubtful = doubt_over school 110 (start (codes "bob"))

abbrev in_doubt : Lists → List Bool
in_doubt a = map {B = Bool} (λ (h : Held). is_some h.doubt) a.parts

pub one_is_in_doubt : in_doubt doubtful ≡ false ∷ true ∷ []
one_is_in_doubt = refl

abbrev read_by : Ask → List Bool
read_by ask = map (reads_part doubtful ask) (0 ∷ 1 ∷ [])

pub anns_shard_alone : read_by (start (codes "ann")) ≡ true ∷ false ∷ []
anns_shard_alone = refl

pub both_for_a_report : read_by (look (codes "root") (request.Report 1)) ≡ true ∷ true ∷ []
both_for_a_report = refl

-- in order, up to the first in doubt
pub no_further_than_anns : lists_read (doubt_over school 110 (start (codes "ann"))) (look (codes "root") (request.Report 1)) ≡ None ∷ Some 0 ∷ []
no_further_than_anns = refl

pub none_for_a_refused_one : read_by (look (codes "ann") (request.Report 1)) ≡ false ∷ false ∷ []
none_for_a_refused_one = refl

pub ann_isnt_in_the_way : is_settled doubtful (start (codes "ann")) ≡ true
ann_isnt_in_the_way = refl

pub bob_is : is_settled doubtful (start (codes "bob")) ≡ false
bob_is = refl

pub bobs_doubt_stays : in_doubt (lists_over doubtful 111 (start (codes "ann"))) ≡ false ∷ true ∷ []
bobs_doubt_stays = refl

-- ---- both finish, ann with a right answer and bob with a wrong one

abbrev both_finished : Lists
both_finished = lists_over (lists_over (lists_over (lists_over both_started 120 (save (codes "ann") first_attempt 1)) 121 (save (codes "bob") bobs_attempt 2)) 130 (finish (codes "ann") first_attempt)) 131 (finish (codes "bob") bobs_attempt)

abbrev two_rows : Reply
two_rows = reply.Ok 7 (done.Report (record { user = 2; name = codes "ann"; grade = Some (pos 1000000) } ∷ record { user = 3; name = codes "bob"; grade = Some (pos 0) } ∷ []))

pub the_report : reply_over both_finished 140 (look (codes "root") (request.Report 1)) ≡ two_rows
the_report = refl

pub no_quiz_to_report : reply_over both_finished 140 (look (codes "root") (request.Report 2)) ≡ reply.Refused (refusal.Unknown thing.Quiz)
no_quiz_to_report = refl

pub not_for_students : reply_over both_finished 140 (look (codes "ann") (request.Report 1)) ≡ reply.Refused (refusal.Forbidden 2)
not_for_students = refl

-- turn by turn, too
abbrev roots_report : World
roots_report = loaded both_finished.records.list (part_list both_finished 0 ∷ part_list both_finished 1 ∷ []) 1

pub the_report_by_turns : map (λ (t : Told). t.reply) (world roots_report (Turns 0 140 (Begins (look (codes "root") (request.Report 1))) Drops Answers ∷ Turns 0 140 (GoesOn 1) Drops Answers ∷ Turns 0 140 (GoesOn 2) Drops Answers ∷ Turns 0 140 (GoesOn 3) Drops Answers ∷ [])).told ≡ two_rows ∷ []
the_report_by_turns = refl

-- ---- a job works in each shard by itself

abbrev with_job : Lists
with_job = by_root (by_root both_finished (codes "c1") (request.Edit 1 (true_false (codes "Sky") false))) (codes "c2") (request.Regrade 1)

abbrev work : ℕ → Ask
work shard = look (codes "root") (request.Work 1 shard)

abbrev bob_bound : Lists
bob_bound = lists_over with_job 150 (work 1)

pub bob_is_bound : reply_over with_job 150 (work 1) ≡ reply.Ok 4 (done.Rebound bobs_attempt 1 state.GradedRight (shown.Value (pos 20000000)))
bob_is_bound = refl

pub shard_1_is_done : reply_over bob_bound 151 (work 1) ≡ reply.Ok 5 (done.JobDone 1)
shard_1_is_done = refl

pub shard_0_isnt : reply_over bob_bound 151 (work 0) ≡ reply.Ok 4 (done.Rebound first_attempt 1 state.GradedWrong (shown.Value (pos 0)))
shard_0_isnt = refl

pub no_third_shard : reply_over with_job 150 (work 2) ≡ reply.Refused (refusal.Unknown thing.Shard)
no_third_shard = refl

-- an attempt that goes on is looked for in its shard alone
abbrev live_in : ℕ → Ask
live_in shard = look (codes "root") (request.Live shard (record { user = 0; nth = 0 }))

pub bob_is_live : reply_over bob_started 115 (live_in 1) ≡ reply.Ok 1 (done.Live (Some bobs_attempt))
bob_is_live = refl

pub none_is_live : reply_over bob_started 115 (live_in 0) ≡ reply.Ok 0 (done.Live None)
none_is_live = refl
