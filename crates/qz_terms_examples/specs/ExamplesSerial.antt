-- Worked serial runs: a line without a reading and a start; then a save that the keeper fails to keep, and the same line again.
use Rattle.std.specs.Prelude.{◌≡◌, ℕ, zero, suc, Bool, true, false, List, [], ◌∷◌, map, length, is_some, slice_get, Some, None, codes, Option, refl}
use Rattle.std.proofs.Common.{true≢false}
use Rattle.qz_grading.specs.declared.outcome.State.TheVariants as state
use Rattle.qz_grading.specs.declared.refusal.Refusal.TheVariants as refusal
use Rattle.qz_grading.specs.declared.response.Answer.TheVariants as answer
use Rattle.qz_terms.specs.declared.ask.Ask.{Ask}
use Rattle.qz_terms.specs.declared.people.Caller.TheVariants as caller
use Rattle.qz_terms.specs.declared.record.Record.{Record}
use Rattle.qz_terms.specs.declared.reply.Done.TheVariants as done
use Rattle.qz_terms.specs.declared.reply.Reply.{Reply}
use Rattle.qz_terms.specs.declared.reply.Reply.TheVariants as reply
use Rattle.qz_terms.specs.declared.reply.Shown.TheVariants as shown
use Rattle.qz_terms.specs.declared.request.Request.{Request}
use Rattle.qz_terms.specs.declared.request.Request.TheVariants as request
use Rattle.qz_terms_examples.specs.ExamplesFirstAttempt.{started}
use Rattle.qz_terms_examples.specs.ExamplesLegal.{save_record, start_record}
use Rattle.qz_terms_examples.specs.ExamplesSchool.{asked_with, first_attempt, look, school}
use Rattle.qz_terms.specs.Serial.{Asking, Asks, Held, Lists, Serial, Unread, adopted, answered, doubt_over, dropped, ended, is_settled, lists_over, lists_read, next, no_memory, puts_record, put_in_doubt, reads_part, reply_over, stayed_in_doubt, stays}

abbrev one_shard : Lists
one_shard = record { records = record { list = school.records; doubt = None }; parts = record { list = []; doubt = None } ∷ [] }

abbrev anns_start : Ask
anns_start = asked_with (codes "ann") (codes "k1") (request.Start 1)

abbrev with_start : Lists
with_start = lists_over one_shard 110 anns_start

abbrev in_turn : Asks one_shard with_start 110 anns_start (reply_over one_shard 110 anns_start)
in_turn = record { mended = one_shard; mends = record { records = stays one_shard.records; parts = (stays (record { list = []; doubt = None }), tt) }; keeps = record { records = λ unread. refl; parts = λ k unread. refl }; turn = answered one_shard 110 anns_start refl }

pub two_lines : Serial one_shard (Unread 5 0 ∷ Asking 110 anns_start ∷ []) (reply.Refused (refusal.Malformed 5 0) ∷ reply_over one_shard 110 anns_start ∷ []) with_start
two_lines = next one_shard one_shard with_start (Unread 5 0) (reply.Refused (refusal.Malformed 5 0)) (Asking 110 anns_start ∷ []) (reply_over one_shard 110 anns_start ∷ []) (refl, refl) (next one_shard with_start with_start (Asking 110 anns_start) (reply_over one_shard 110 anns_start) [] [] in_turn (ended with_start))

pub the_reply : reply_over one_shard 110 anns_start ≡ reply.Ok 1 (done.Started first_attempt 1 None)
the_reply = refl

pub one_record_more : map {B = ℕ} (λ (h : Held). length h.list) with_start.parts ≡ 1 ∷ []
one_record_more = refl

-- the start is in doubt
abbrev in_doubt : Lists
in_doubt = doubt_over one_shard 110 anns_start

-- a student asks for a report, which the catalogue refuses: the shard isn't read, and its doubt stays
abbrev anns_report : Ask
anns_report = record anns_start { key = None; request = request.Report 1 }

pub reads_no_shard : is_settled in_doubt anns_report ≡ true
reads_no_shard = refl

pub doubt_stays : map {B = Bool} (λ (h : Held). is_some h.doubt) (lists_over in_doubt 120 anns_report).parts ≡ true ∷ []
doubt_stays = refl

-- her total is read of the shard, which is mended before
pub reads_the_shard : is_settled in_doubt (record anns_start { key = None; request = request.Total first_attempt }) ≡ false
reads_the_shard = refl

-- ---- ann saves, and the keeper fails

abbrev list_of_one : List Record → Option Record → Lists
list_of_one part doubt = record { records = record { list = started.records; doubt = None }; parts = record { list = part; doubt = doubt } ∷ [] }

abbrev begun : Lists
begun = list_of_one (start_record ∷ []) None

abbrev doubtful : Lists
doubtful = list_of_one (start_record ∷ []) (Some save_record)

abbrev kept : Lists
kept = list_of_one (start_record ∷ save_record ∷ []) None

abbrev save_true : Ask
save_true = asked_with (codes "ann") (codes "k2") (request.Save first_attempt 1 0 (answer.Pick 1))

abbrev view : Ask
view = look (codes "ann") (request.View first_attempt 1)

abbrev no_part_differs : (old new : Lists) (ask : Ask) → Type 0
no_part_differs old new ask = (k : ℕ) → reads_part new ask k ≡ false → slice_get new.parts k ≡ slice_get old.parts k

-- the shard is read, so it may be mended
mended_is_read : no_part_differs doubtful kept save_true
mended_is_read zero unread = absurd (true≢false unread)
mended_is_read (suc k) unread = refl

dropped_is_read : no_part_differs doubtful begun save_true
dropped_is_read zero unread = absurd (true≢false unread)
dropped_is_read (suc k) unread = refl

keeper_fails : Asks begun doubtful 120 save_true (reply.Refused refusal.KeepFault)
keeper_fails = record { mended = begun; mends = record { records = stays begun.records; parts = (stays (record { list = start_record ∷ []; doubt = None }), tt) }; keeps = record { records = λ unread. refl; parts = λ k unread. refl }; turn = put_in_doubt begun 120 save_true refl refl }

abbrev it_is_saved : Reply
it_is_saved = reply.Ok 2 (done.Stepped state.Complete shown.None)

-- the record was kept after all: it is adopted, and the same line gets its reply
adopted_then_answered : Asks doubtful kept 120 save_true it_is_saved
adopted_then_answered = record { mended = kept; mends = record { records = stays begun.records; parts = (adopted (start_record ∷ []) save_record, tt) }; keeps = record { records = λ unread. refl; parts = mended_is_read }; turn = answered kept 120 save_true refl }

-- it wasn't: it is dropped, and the same line puts it anew
dropped_then_answered : Asks doubtful kept 120 save_true it_is_saved
dropped_then_answered = record { mended = begun; mends = record { records = stays begun.records; parts = (dropped (start_record ∷ []) save_record, tt) }; keeps = record { records = λ unread. refl; parts = dropped_is_read }; turn = answered begun 120 save_true refl }

-- the keeper fails once more while the list is mended
stays_doubtful : Asks doubtful doubtful 120 save_true (reply.Refused refusal.KeepFault)
stays_doubtful = record { mended = doubtful; mends = record { records = stays begun.records; parts = (stays (record { list = start_record ∷ []; doubt = Some save_record }), tt) }; keeps = record { records = λ unread. refl; parts = λ k unread. refl }; turn = stayed_in_doubt doubtful 120 save_true refl }

wants_memory : Asks begun begun 120 save_true (reply.Refused refusal.Memory)
wants_memory = record { mended = begun; mends = record { records = stays begun.records; parts = (stays (record { list = start_record ∷ []; doubt = None }), tt) }; keeps = record { records = λ unread. refl; parts = λ k unread. refl }; turn = no_memory begun 120 save_true }

-- one step, whichever it was
it_is_viewed : Asks kept kept 130 view (reply.Ok 2 (done.SlotView state.Complete shown.None 1 1))
it_is_viewed = record { mended = kept; mends = record { records = stays begun.records; parts = (stays (record { list = start_record ∷ save_record ∷ []; doubt = None }), tt) }; keeps = record { records = λ unread. refl; parts = λ k unread. refl }; turn = answered kept 130 view refl }

pub three_lines : Serial begun (Asking 120 save_true ∷ Asking 120 save_true ∷ Asking 130 view ∷ []) (reply.Refused refusal.KeepFault ∷ it_is_saved ∷ reply.Ok 2 (done.SlotView state.Complete shown.None 1 1) ∷ []) kept
three_lines =
    next begun doubtful kept (Asking 120 save_true) (reply.Refused refusal.KeepFault) (Asking 120 save_true ∷ Asking 130 view ∷ []) (it_is_saved ∷ reply.Ok 2 (done.SlotView state.Complete shown.None 1 1) ∷ []) keeper_fails (
    next doubtful kept kept (Asking 120 save_true) it_is_saved (Asking 130 view ∷ []) (reply.Ok 2 (done.SlotView state.Complete shown.None 1 1) ∷ []) adopted_then_answered (
    next kept kept kept (Asking 130 view) (reply.Ok 2 (done.SlotView state.Complete shown.None 1 1)) [] [] it_is_viewed (ended kept)))

-- a report reads the list of each shard, which has to be mended, and a look at the catalogue reads none
pub a_report_reads_it : is_settled doubtful (look (codes "root") (request.Report 1)) ≡ false
a_report_reads_it = refl

pub jobs_read_none : is_settled doubtful (look (codes "root") request.Jobs) ≡ true
jobs_read_none = refl

-- a look puts no record, so none is left in doubt
pub a_look_puts_nothing : puts_record kept 130 view ≡ false
a_look_puts_nothing = refl

-- ---- a group is in doubt at the catalogue

abbrev unsure : Lists
unsure = doubt_over kept 140 (asked_with (codes "root") (codes "g1") (request.Group (codes "red")))

abbrev by_worker : Request → Ask
by_worker x = record { caller = caller.Worker; key = None; request = x }

abbrev live : Ask
live = by_worker (request.Live 0 (record { user = 0; nth = 0 }))

-- where attempts go on a worker reads of the shard alone: it is answered, and the catalogue's doubt stays
pub of_the_shard_alone : lists_read unsure live ≡ Some 0 ∷ []
of_the_shard_alone = refl

pub it_is_settled : is_settled unsure live ≡ true
it_is_settled = refl

pub the_live_one : reply_over unsure 150 live ≡ reply.Ok 2 (done.Live (Some first_attempt))
the_live_one = refl

pub the_group_stays_in_doubt : is_some (lists_over unsure 150 live).records.doubt ≡ true
the_group_stays_in_doubt = refl

-- a settling finds its attempt in the shard before the catalogue is read
pub one_to_settle : lists_read unsure (by_worker (request.Settle first_attempt)) ≡ Some 0 ∷ None ∷ []
one_to_settle = refl

pub none_to_settle : lists_read unsure (by_worker (request.Settle (record { user = 2; nth = 9 }))) ≡ Some 0 ∷ []
none_to_settle = refl

-- what a worker may not ask reads nothing
pub not_a_workers : lists_read unsure (by_worker (request.Grade 1 2)) ≡ []
not_a_workers = refl

-- a user is looked for first, so her shard isn't read
pub no_further : lists_read unsure view ≡ None ∷ []
no_further = refl

pub she_isnt_answered : is_settled unsure view ≡ false
she_isnt_answered = refl
