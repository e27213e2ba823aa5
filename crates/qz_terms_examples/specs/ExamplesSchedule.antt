-- Worked schedules: callers in turn at the same lists, records in doubt, a stop, a start that reads its plan again, and a report.
use Rattle.std.specs.Prelude.{◌≡◌, ℕ, Bool, true, false, List, [], ◌∷◌, ◌++◌, map, length, drop, is_none, Some, None, codes, pos, refl}
use Rattle.std.proofs.Common.{ap, inl, inr, sym, ◌∙◌}
use Rattle.qz_grading.specs.declared.refusal.Refusal.TheVariants as refusal
use Rattle.qz_grading.specs.declared.refusal.Thing.TheVariants as thing
use Rattle.qz_terms.specs.declared.ask.Ask.{Ask}
use Rattle.qz_terms.specs.declared.people.Caller.TheVariants as caller
use Rattle.qz_terms.specs.declared.record.Record.{Record}
use Rattle.qz_terms.specs.declared.reply.Done.TheVariants as done
use Rattle.qz_terms.specs.declared.reply.Reply.{Reply}
use Rattle.qz_terms.specs.declared.reply.Reply.TheVariants as reply
use Rattle.qz_terms.specs.declared.reply.Shown.TheVariants as shown
use Rattle.qz_terms.specs.declared.reply.Status.TheVariants as status
use Rattle.qz_terms.specs.declared.request.Request.{Request}
use Rattle.qz_terms.specs.declared.request.Request.TheVariants as request
use Rattle.qz_terms_examples.specs.ExamplesFirstAttempt.{finished}
use Rattle.qz_terms_examples.specs.ExamplesLegal.{start_record}
use Rattle.qz_terms_examples.specs.ExamplesSchool.{asked_with, first_attempt, look, school, true_false}
use Rattle.qz_terms.specs.SchoolAnswer.{school_answer}
use Rattle.qz_terms.specs.Serial.{Held}
use Rattle.qz_schedule.specs.Worlds.{CouldPut, after, Answers, Begins, Drops, Adopts, GoesOn, Happening, KeepIsPossible, LacksMemory, LeavesInDoubt, Mending, Mends, Stays, Stops, Told, Turns, Visit, World, held_at, is_formed, loaded, world}

abbrev two_callers : World
two_callers = loaded school.records (school.part ∷ []) 2

abbrev anns_start : Ask
anns_start = asked_with (codes "ann") (codes "k1") (request.Start 1)

abbrev bobs_start : Ask
bobs_start = asked_with (codes "bob") (codes "k1") (request.Start 1)

abbrev begins : ℕ → Ask → Happening
begins caller ask = Turns caller 110 (Begins ask) Drops Answers

abbrev goes_on : ℕ → ℕ → Happening
goes_on caller made = Turns caller 110 (GoesOn made) Drops Answers

-- ann's and bob's turns by turns; bob's record is left in doubt
abbrev both : List Happening
both = begins 0 anns_start ∷ begins 1 bobs_start ∷ goes_on 0 1 ∷ goes_on 1 1 ∷ goes_on 0 2 ∷ Turns 1 110 (GoesOn 2) Drops LeavesInDoubt ∷ []

abbrev replies_of : World → List Reply
replies_of w = map (λ (t : Told). t.reply) w.told

pub both_are_answered : replies_of (world two_callers both) ≡ reply.Ok 1 (done.Started first_attempt 1 None) ∷ reply.Refused refusal.KeepFault ∷ []
both_are_answered = refl

-- what each had then seen, without the own record: seven records of the catalogue, and ann's alone
abbrev seen_by : Told → ℕ × List ℕ
seen_by t = (length t.records, map (λ l. length l) t.parts)

pub what_was_seen : map seen_by (world two_callers both).told ≡ (7, 0 ∷ []) ∷ (7, 1 ∷ []) ∷ []
what_was_seen = refl

-- and with it: ann has seen her own record behind, and so has what bob has seen of it
pub what_is_seen_now : map {B = List ℕ} (λ (v : Visit). map (λ l. length l) v.parts) (world two_callers both).visits ≡ (1 ∷ []) ∷ (1 ∷ []) ∷ []
what_is_seen_now = refl

-- ---- a turn that isn't the next one of its caller's ask changes nothing

pub out_of_turn : world two_callers (goes_on 0 0 ∷ goes_on 0 1 ∷ []) ≡ two_callers
out_of_turn = refl

abbrev turns_made : World → List ℕ
turns_made w = map {B = ℕ} (λ (v : Visit). v.made) w.visits

-- nor does one that was made already, one too early, or one that would begin another ask
pub made_once : turns_made (world two_callers (begins 0 anns_start ∷ goes_on 0 1 ∷ goes_on 0 1 ∷ [])) ≡ 2 ∷ 0 ∷ []
made_once = refl

pub not_too_early : turns_made (world two_callers (begins 0 anns_start ∷ goes_on 0 2 ∷ [])) ≡ 1 ∷ 0 ∷ []
not_too_early = refl

pub one_ask_at_a_time : turns_made (world two_callers (begins 0 anns_start ∷ begins 0 bobs_start ∷ [])) ≡ 1 ∷ 0 ∷ []
one_ask_at_a_time = refl

-- ---- doubt

-- so many records in the shard, and whether none is in doubt
abbrev standing : World → List (ℕ × Bool)
standing w = map {B = ℕ × Bool} (λ (h : Held). (length h.list, is_none h.doubt)) w.parts

pub one_in_doubt : standing (world two_callers both) ≡ (1, false) ∷ []
one_in_doubt = refl

pub adopted_by_mending : standing (world (world two_callers both) (Mends (Some 0) true ∷ [])) ≡ (2, true) ∷ []
adopted_by_mending = refl

pub dropped_by_mending : standing (world (world two_callers both) (Mends (Some 0) false ∷ [])) ≡ (1, true) ∷ []
dropped_by_mending = refl

-- adopted by a mending, the record is answered again by its key; dropped, it is put anew
abbrev asked_again : List Happening
asked_again = begins 1 bobs_start ∷ goes_on 1 1 ∷ goes_on 1 2 ∷ []

pub adopted : replies_of (world (world two_callers both) (Mends (Some 0) true ∷ asked_again)) ≡ reply.Ok 1 (done.Started first_attempt 1 None) ∷ reply.Refused refusal.KeepFault ∷ reply.Ok 1 (done.Started (record { user = 3; nth = 1 }) 1 None) ∷ []
adopted = refl

pub as_many_records : standing (world (world two_callers both) (Mends (Some 0) true ∷ asked_again)) ≡ (2, true) ∷ []
as_many_records = refl

pub put_anew : standing (world (world two_callers both) (Mends (Some 0) false ∷ asked_again)) ≡ (2, true) ∷ []
put_anew = refl

-- ann looks at her slot: the turn for the quiz, which is at the shard, adopts bob's record, drops it, or leaves it in doubt
abbrev anns_total : Ask
anns_total = look (codes "ann") (request.Total first_attempt)

abbrev mending_by : Mending → World
mending_by mending = world (world two_callers both) (begins 0 anns_total ∷ Turns 0 120 (GoesOn 1) mending Answers ∷ goes_on 0 2 ∷ goes_on 0 3 ∷ [])

abbrev last_reply : World → List Reply
last_reply w = map (λ (t : Told). t.reply) (drop 2 w.told)

pub a_turn_adopts : standing (mending_by Adopts) ≡ (2, true) ∷ []
a_turn_adopts = refl

pub a_turn_drops : standing (mending_by Drops) ≡ (1, true) ∷ []
a_turn_drops = refl

pub then_it_is_answered : last_reply (mending_by Adopts) ≡ reply.Ok 1 (done.Attempt status.Live shown.None None) ∷ []
then_it_is_answered = refl

pub it_stays_in_doubt : standing (mending_by (Stays refusal.KeepFault)) ≡ (1, false) ∷ []
it_stays_in_doubt = refl

pub then_it_is_refused : last_reply (mending_by (Stays refusal.KeepFault)) ≡ reply.Refused refusal.KeepFault ∷ []
then_it_is_refused = refl

-- a caller whose turn ends in doubt has then seen the list as it stands: three records, behind which ann's start is in doubt
abbrev third_in_doubt : World
third_in_doubt = world (loaded finished.records (finished.part ∷ []) 2) (begins 0 (asked_with (codes "ann") (codes "k9") (request.Start 1)) ∷ goes_on 0 1 ∷ Turns 0 150 (GoesOn 2) Drops LeavesInDoubt ∷ Turns 1 150 (Begins (record { caller = caller.Worker; key = None; request = request.Live 0 first_attempt })) (Stays refusal.KeepFault) Answers ∷ [])

pub both_are_refused : replies_of third_in_doubt ≡ reply.Refused refusal.KeepFault ∷ reply.Refused refusal.KeepFault ∷ []
both_are_refused = refl

pub as_it_stands : map seen_by third_in_doubt.told ≡ (7, 3 ∷ []) ∷ (0, 3 ∷ []) ∷ []
as_it_stands = refl

-- ---- want of memory: the ask ends, in a reading turn too, and no list changes

pub no_memory_to_read : replies_of (world two_callers (begins 0 anns_start ∷ Turns 0 110 (GoesOn 1) Drops LacksMemory ∷ goes_on 0 2 ∷ [])) ≡ reply.Refused refusal.Memory ∷ []
no_memory_to_read = refl

abbrev short_of_memory : World
short_of_memory = world two_callers (begins 0 anns_start ∷ goes_on 0 1 ∷ Turns 0 110 (GoesOn 2) Drops LacksMemory ∷ [])

pub no_memory_to_put : replies_of short_of_memory ≡ reply.Refused refusal.Memory ∷ []
no_memory_to_put = refl

pub nothing_was_put : standing short_of_memory ≡ (0, true) ∷ []
nothing_was_put = refl

-- ---- a stop

-- it keeps nothing more: ann's record stands, bob's doesn't, no list is in doubt, and nobody is in an ask
abbrev after_stop : World
after_stop = world (world two_callers both) (Stops None [] ∷ [])

pub one_record_stands : standing after_stop ≡ (1, true) ∷ []
one_record_stands = refl

pub nobody_asks : map {B = Bool × ℕ} (λ (v : Visit). (is_none v.ask, length v.records)) after_stop.visits ≡ (true, 0) ∷ (true, 0) ∷ []
nobody_asks = refl

-- it may keep the record in doubt
pub may_be_kept : KeepIsPossible (world two_callers both) (Some 0) (held_at (world two_callers both) (Some 0)).doubt
may_be_kept = inl refl

pub two_records_stand : standing (world (world two_callers both) (Stops None ((held_at (world two_callers both) (Some 0)).doubt ∷ []) ∷ [])) ≡ (2, true) ∷ []
two_records_stand = refl

-- or one that a turn could put there now: ann's start, whose plan she holds
abbrev about_to_start : World
about_to_start = world two_callers (begins 0 anns_start ∷ goes_on 0 1 ∷ [])

pub none_yet : (held_at about_to_start (Some 0)).list ≡ []
none_yet = refl

pub then_one : (held_at (after about_to_start (Turns 0 110 (GoesOn 2) Drops Answers)) (Some 0)).list ≡ start_record ∷ []
then_one = refl

pub could_be_put : CouldPut about_to_start (Some 0) start_record
could_be_put = record { caller = 0; moment = 110; next = GoesOn 2; formed = refl; puts = then_one ∙ sym (ap (λ (l : List Record). l ++ start_record ∷ []) none_yet) }

pub may_be_kept_too : KeepIsPossible about_to_start (Some 0) (Some start_record)
may_be_kept_too = inr could_be_put

-- the catalogue's list, too, may have a record in doubt, which a mending or a stop keeps or drops
abbrev group_in_doubt : World
group_in_doubt = world two_callers (begins 0 (asked_with (codes "root") (codes "g1") (request.Group (codes "red"))) ∷ Turns 0 110 (GoesOn 1) Drops LeavesInDoubt ∷ [])

abbrev records_in : World → ℕ × Bool
records_in w = (length w.records.list, is_none w.records.doubt)

pub a_group_in_doubt : records_in group_in_doubt ≡ (7, false)
a_group_in_doubt = refl

pub the_group_adopted : records_in (world group_in_doubt (Mends None true ∷ [])) ≡ (8, true)
the_group_adopted = refl

pub the_group_kept : records_in (world group_in_doubt (Stops group_in_doubt.records.doubt [] ∷ [])) ≡ (8, true)
the_group_kept = refl

pub the_group_lost : records_in (world group_in_doubt (Stops None [] ∷ [])) ≡ (7, true)
the_group_lost = refl

-- ---- which asks are possible

abbrev by_worker : Request → Ask
by_worker x = record { caller = caller.Worker; key = None; request = x }

pub a_start_has_a_key : is_formed (look (codes "ann") (request.Start 1)) ≡ false
a_start_has_a_key = refl

pub a_worker_looks_at_nothing : is_formed (by_worker (request.Grade 1 2)) ≡ false
a_worker_looks_at_nothing = refl

pub a_worker_works : is_formed (by_worker (request.Work 1 0)) ≡ true
a_worker_works = refl

-- ---- shards that aren't there

abbrev live_in : ℕ → Request
live_in shard = request.Live shard (record { user = 0; nth = 0 })

pub none_is_live : replies_of (world two_callers (begins 0 (by_worker (live_in 0)) ∷ [])) ≡ reply.Ok 0 (done.Live None) ∷ []
none_is_live = refl

-- he has seen nothing of the catalogue, and is answered over what he has seen, as everybody is
abbrev answers_over : World → List Reply
answers_over w = map (λ (t : Told). school_answer t.records t.parts t.moment t.ask) w.told

abbrev one_asks_for_live : World
one_asks_for_live = world two_callers (begins 0 (by_worker (live_in 0)) ∷ [])

pub nothing_of_the_catalogue : map seen_by one_asks_for_live.told ≡ (0, 0 ∷ []) ∷ []
nothing_of_the_catalogue = refl

pub answered_over_that : answers_over one_asks_for_live ≡ replies_of one_asks_for_live
answered_over_that = refl

pub and_without_a_shard : answers_over (world two_callers (begins 0 (by_worker (live_in 1)) ∷ [])) ≡ reply.Refused (refusal.Unknown thing.Shard) ∷ []
and_without_a_shard = refl

pub no_such_shard : replies_of (world two_callers (begins 0 (by_worker (live_in 1)) ∷ [])) ≡ reply.Refused (refusal.Unknown thing.Shard) ∷ []
no_such_shard = refl

pub nor_for_root : replies_of (world two_callers (begins 0 (look (codes "root") (live_in 1)) ∷ [])) ≡ reply.Refused (refusal.Unknown thing.Shard) ∷ []
nor_for_root = refl

-- ---- a start whose plan has become too old

-- bob has read his plan; then root corrects the question and asks for a job, and a worker does it
abbrev job_beside : List Happening
job_beside =
    begins 0 bobs_start ∷ goes_on 0 1
    ∷ begins 1 (asked_with (codes "root") (codes "c1") (request.Edit 1 (true_false (codes "Sky") false))) ∷ goes_on 1 1
    ∷ begins 1 (asked_with (codes "root") (codes "c2") (request.Regrade 1)) ∷ goes_on 1 1
    ∷ begins 1 (by_worker (request.Work 1 0)) ∷ goes_on 1 1
    ∷ []

pub the_job_is_done : replies_of (world two_callers job_beside) ≡ reply.Ok 8 (done.Version 1 2) ∷ reply.Ok 9 (done.Job 1) ∷ reply.Ok 1 (done.JobDone 1) ∷ []
the_job_is_done = refl

-- his start has no reply and puts nothing, and goes back to the turn for the plan
abbrev gone_back : World
gone_back = world two_callers (job_beside ++ goes_on 0 2 ∷ [])

pub no_reply_yet : length (replies_of gone_back) ≡ 3
no_reply_yet = refl

pub one_turn_is_left : turns_made gone_back ≡ 1 ∷ 0 ∷ []
one_turn_is_left = refl

pub the_job_alone : standing gone_back ≡ (1, true) ∷ []
the_job_alone = refl

pub then_it_starts : map (λ (t : Told). t.reply) (drop 3 (world gone_back (goes_on 0 1 ∷ goes_on 0 2 ∷ [])).told) ≡ reply.Ok 1 (done.Started (record { user = 3; nth = 1 }) 1 None) ∷ []
then_it_starts = refl

-- ---- a report takes one turn for the plan and the names, and one in each shard

abbrev roots_report : World
roots_report = loaded finished.records (finished.part ∷ []) 1

pub the_report : replies_of (world roots_report (begins 0 (look (codes "root") (request.Report 1)) ∷ goes_on 0 1 ∷ goes_on 0 2 ∷ [])) ≡ reply.Ok 7 (done.Report (record { user = 2; name = codes "ann"; grade = Some (pos 1000000) } ∷ [])) ∷ []
the_report = refl
