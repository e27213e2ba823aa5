-- How a worker's requests come out, by what the turns at single lists came to.
use Rattle.std.proofs.Common.{◌≡◌, inl, inr, ℕ, ◌<◌, ◌≤◌, ◌%◌, true, false, List, Option, Some, None, Result, Ok, Err, length, option_map, is_some, refl, sym, ap, ◌∙◌, subst}
use Rattle.std.specs.Prelude.{slice_get, slice_set}
use Rattle.qz_catalog.specs.Keeping as records
use Rattle.qz_catalog_turns.specs.declared.replied.Replied.{Replied}
use Rattle.qz_catalog_turns.specs.Owning.{TurnReplies, absent}
use Rattle.qz_catalog_turns.specs.Turning.{Fails, TurnCalls, held_of}
use Rattle.qz_grading.specs.declared.refusal.AttemptId.{AttemptId}
use Rattle.qz_grading.specs.declared.refusal.Refusal.{Refusal}
use Rattle.qz_grading.specs.declared.refusal.Refusal.TheVariants as refusal
use Rattle.qz_grading.specs.declared.refusal.Thing.TheVariants as thing
use Rattle.qz_keeper.specs.Lists.{IsSettled, Looks, OneCall}
use Rattle.qz_serial.specs.Calls.{CatalogAnswers, LookEnds, ShardAnswers}
use Rattle.qz_serial.specs.Once.{AskedOnce}
use Rattle.qz_serial.specs.Paths.{goes_to_part}
use Rattle.qz_serial.specs.Workers.{FindsJob, FindsPlan, IsWorkers}
use Rattle.qz_serial.proofs.Acting.{asked_once}
use Rattle.qz_serial.proofs.Composing.{calls_mean, look_ends, looks_are_calls}
use Rattle.qz_serial.proofs.Seats.{all_stay, mended_grows, set_get, set_twice}
use Rattle.qz_serial.proofs.Settling.{settling_law}
use Rattle.qz_serial.proofs.Workers.{err-is, workers_law}
use Rattle.qz_shard.specs.Keeping.{TellsQuiz}
use Rattle.qz_shard_turns.specs.Tying.{HasLooked}
use Rattle.qz_school.specs.Answering.{MayBeAsked}
use Rattle.qz_school.proofs.Calls.{look_told}
use Rattle.qz_school.proofs.Missing.{job_absent, job_present}
use Rattle.qz_terms.specs.declared.ask.Ask.{Ask}
use Rattle.qz_terms.specs.declared.people.Caller.TheVariants as caller
use Rattle.qz_terms.specs.declared.plan.Job.{Job}
use Rattle.qz_terms.specs.declared.plan.Plan.{Plan}
use Rattle.qz_terms.specs.declared.record.Record.{Record}
use Rattle.qz_terms.specs.declared.reply.Reply.{Reply}
use Rattle.qz_terms.specs.declared.reply.Reply.TheVariants as reply
use Rattle.qz_terms.specs.declared.request.Request.{Request}
use Rattle.qz_terms.specs.declared.request.Request.TheVariants as request
use Rattle.qz_terms.specs.Answer.{live_answer}
use Rattle.qz_terms.specs.Catalog as catalog
use Rattle.qz_terms.specs.Catalog.{worker}
use Rattle.qz_terms.specs.Cause.{forbidden, may_ask, missing_in, rule_of}
use Rattle.qz_terms.specs.History as history
use Rattle.qz_terms.specs.SchoolAnswer.{part_of}
use Rattle.qz_terms.specs.Legal.{AllAgree, IsLegalCatalog}
use Rattle.qz_terms.specs.Serial.{Asks, Held, no_memory, stays}
use Rattle.qz_visit.specs.Visits.{IsFoundBy, TookTurn, Visited, at_part, refusing}
use Rattle.qz_visit.specs.Ways as way
use Rattle.qz_visit.specs.Ways.{Answered, Part, Planned, Seen, Stepped, Tried, refused_with}
use Rattle.qz_visit.proofs.Asking.{Split, askable, count_set, lost, lost_again, lost_as, lost_mend, reply_is, settled_self, split, untold_split, whole}
use Rattle.qz_visit.proofs.Coming.{no_missing, step_ends}
use Rattle.qz_visit.proofs.Owning.{as_seen, call_again, ends_again, ends_mend, found_mended, found_settled, leaves_grow, look_again, rested, with_held}
use Rattle.qz_visit.proofs.Passing.{Either, GoesThere, asked_mean, by_catalog, count_helds, found_after, found_looked, found_rested, goes_there, held_there, helds, lists, put_none, refused_mute, refused_there, seats, took_after, took_sees, took_turned, turn_speaks, visited_both, visited_records, visited_still}
use Rattle.qz_visit.proofs.Planning.{quiz_on}
use Rattle.qz_shard_turns.proofs.Tying.{looked-self}

-- a worker asks this
pub record Works (ps : List Part) (ask : Ask) (now : ℕ) (x : Request) : Type 0 where
  pub some : 0 < length ps
  pub may : MayBeAsked ask now
  pub caller_is : ask.caller ≡ caller.Worker
  pub request_is : ask.request ≡ x

works-over : (h : Held) (hs : List Held) (ps : List Part) (ask : Ask) (now : ℕ) (x : Request) → length hs ≡ length ps → Works ps ask now x → IsWorkers (lists h hs) ask x
works-over h hs ps ask now x long w = record { askable = askable h hs (length ps) now ask w.some long w.may; caller_is = w.caller_is; request_is = w.request_is }

works-here : (h : Held) (ps : List Part) (ask : Ask) (now : ℕ) (x : Request) → Works ps ask now x → IsWorkers (lists h (helds ps)) ask x
works-here h ps ask now x w = works-over h (helds ps) ps ask now x (count_helds ps) w

works-set : (h : Held) (ps : List Part) (k : ℕ) (g : Held) (ask : Ask) (now : ℕ) (x : Request) → Works ps ask now x → IsWorkers (lists h (slice_set (helds ps) k g)) ask x
works-set h ps k g ask now x w = works-over h (slice_set (helds ps) k g) ps ask now x (count_set ps k g) w

-- every catalogue knows who it is
worker-part : (c : List Record) (n k : ℕ) (ask : Ask) → ask.caller ≡ caller.Worker → goes_to_part ask.request ≡ true → part_of n worker ask.request ≡ k → GoesThere c n ask k
worker-part c n k ask by goes part = goes_there c n k ask worker (rw by refl) goes part

-- ---- nothing is read

pub wants_visited : (s : Seen) (ps : List Part) (now : ℕ) (ask : Ask) → 0 < length ps → MayBeAsked ask now → Visited (seats s ps) (seats s ps) now ask (refusing refusal.Memory)
wants_visited s ps now ask some may =
    let a = lists (held_of s.seen) (helds ps) in
    let asks : Asks a a now ask (reply.Refused refusal.Memory) = record {
      mended = a;
      mends = record { records = stays (held_of s.seen); parts = all_stay (helds ps) };
      keeps = record { records = λ unread. refl; parts = λ k unread. refl };
      turn = no_memory a now ask;
    } in
    visited_still s ps now ask refusal.Memory (asked_once ⊥ a a now ask (reply.Refused refusal.Memory) (askable (held_of s.seen) (helds ps) (length ps) now ask some (count_helds ps) may).shards may.keyed asks (λ is. absurd (other is)))
  where
    other : reply.Refused refusal.Memory ≡ reply.Refused refusal.KeepFault → ⊥
    other is = absurd cc

forbids-by : (x : Request) (b : _) (r : Refusal) → may_ask worker x ≡ b → forbidden worker x ≡ Some r → (b ≡ false) × (r ≡ refusal.Forbidden (rule_of x))
forbids-by x true r is forbids = let none : None ≡ Some r = rw is at forbids in absurd cc
forbids-by x false r is forbids = let some : Some (refusal.Forbidden (rule_of x)) ≡ Some r = rw is at forbids in (refl, cc)

-- the rules of callers forbid it
pub refused_visited : (s : Seen) (ps : List Part) (now : ℕ) (ask : Ask) (r : Refusal) → Works ps ask now ask.request → forbidden worker ask.request ≡ Some r → Visited (seats s ps) (seats s ps) now ask (refusing r)
refused_visited s ps now ask r w forbids =
    let why = forbids-by ask.request (may_ask worker ask.request) r refl forbids in
    visited_still s ps now ask r (rw why.1 ((workers_law ⊥).refused (lists (held_of s.seen) (helds ps)) now ask (works-here (held_of s.seen) ps ask now ask.request w) why.0))

-- ---- the jobs

pub jobs_visited : (so sn : Seen) (ps : List Part) (now : ℕ) (ask : Ask) (told : Replied) → Works ps ask now request.Jobs → TurnReplies IsLegalCatalog reply.Refused (records.IsTold now worker ask) so sn told.reply told.own → Visited (seats so ps) (seats sn ps) now ask (by_catalog told)
jobs_visited so sn ps now ask told w t =
    let failed = Fails sn.found sn.seen in
    let m = t.turn.calls.call.mended in
    let says = records.IsTold now worker ask in
    visited_records so sn ps (with_held sn m) now ask told (λ at d is. rw w.request_is refl) (found_mended so sn m (took_turned IsLegalCatalog reply.Refused says so sn told.reply t.turn) t.turn.calls.call.mends (leaves_grow m (held_of sn.seen) told.own t.leaves)) t.leaves
    ((workers_law failed).jobs (lists m (helds ps)) (held_of sn.seen) now ask told.reply (works-here m ps ask now request.Jobs w)
    ((calls_mean failed failed reply.Refused says (CatalogAnswers now worker ask)).each m (held_of sn.seen) told.reply (λ why. why) (λ h x g is. (is.reply, is.list)) (call_again failed reply.Refused says (held_of sn.found) (held_of sn.seen) told.reply t.turn.calls.call)))

-- ---- the attempts that go on

pub nowhere_visited : (s : Seen) (ps : List Part) (now : ℕ) (ask : Ask) (shard : ℕ) (attempt : AttemptId) (r : Refusal) → Works ps ask now (request.Live shard attempt) → (length ps ≤ shard) × (r ≡ refusal.Unknown thing.Shard) → Visited (seats s ps) (seats s ps) now ask (refusing r)
nowhere_visited s ps now ask shard attempt r w past =
    visited_still s ps now ask r
    (rw past.1 ((workers_law ⊥).nowhere (lists (held_of s.seen) (helds ps)) now ask shard attempt (works-here (held_of s.seen) ps ask now (request.Live shard attempt) w) (subst (λ (n : ℕ). n ≤ shard) (sym (count_helds ps)) past.0)))

pub live_visited : (P : List Record → Type 0) (s : Seen) (ps : List Part) (k : ℕ) (po pn : Part) (now : ℕ) (ask : Ask) (attempt : AttemptId) (told : Reply) → slice_get ps k ≡ Some po → Works ps ask now (request.Live k attempt)
    → TurnCalls P reply.Refused (Looks (λ h t. t ≡ live_answer h attempt)) po pn told → Visited (seats s ps) (seats s (slice_set ps k pn)) now ask (at_part k (put_none told))
live_visited P s ps k po pn now ask attempt told at w t =
    let failed = Fails pn.found pn.seen in
    let worse = Either s.seen s (as_seen pn) pn in
    let hs = slice_set (helds ps) k (held_of pn.seen) in
    let says = λ (h : List Record) (t : Reply). t ≡ live_answer h attempt in
    visited_both s s ps k po pn s.seen (as_seen pn) now ask (put_none told) (worker-part s.seen.list (length ps) k ask w.caller_is (rw w.request_is refl) (rw w.request_is refl))
    (turn_speaks po pn told (took_turned P reply.Refused (Looks says) po pn told t)) at (found_rested s s (looked-self s)) (found_looked P reply.Refused says po pn told t) (absent (held_of s.seen)) (absent (held_of pn.seen))
    (subst (λ (gs : List Held). AskedOnce worse (lists (held_of s.seen) hs) (lists (held_of s.seen) gs) now ask told) (set_twice (helds ps) k (held_of pn.seen) (held_of pn.seen))
    ((workers_law worse).live (lists (held_of s.seen) hs) (held_of pn.seen) (held_of pn.seen) now ask k attempt told (works-set (held_of s.seen) ps k (held_of pn.seen) ask now (request.Live k attempt) w) (set_get (helds ps) k (held_of po.seen) (held_of pn.seen) (held_there ps k po at))
    ((calls_mean failed worse reply.Refused (Looks says) (Looks says)).each (held_of pn.seen) (held_of pn.seen) told (λ why. inr why) (λ h x l is. is) (look_again failed reply.Refused says (held_of pn.found) (held_of pn.seen) told t.calls.call))))

-- ---- a step of a job

missing-none : (c : List Record) (x : Request) (number shard : ℕ) (job : Job) → x ≡ request.Work number shard → catalog.job c number ≡ Some job → missing_in c x ≡ None
missing-none c x number shard job is there = ap (missing_in c) is ∙ job_present c number shard job there

finds-missing : (c : List Record) (x : Request) (number shard : ℕ) (r : Refusal) → x ≡ request.Work number shard → IsLegalCatalog c → records.TellsJob number c (Err r) → FindsJob x c (Err r)
finds-missing c x number shard r is legal says = ap (missing_in c) is ∙ (job_absent c number shard legal says.1 ∙ ap (λ (y : Refusal). Some y) (sym says.0))

-- the catalogue didn't tell the job
jobless-asked : (sn : Seen) (hs : List Held) (now : ℕ) (ask : Ask) (number shard : ℕ) (r : Refusal) → IsWorkers (lists (held_of sn.found) hs) ask (request.Work number shard) → IsLegalCatalog sn.seen.list
    → LookEnds (Fails sn.found sn.seen) (λ r. Err r) (records.TellsJob number) (held_of sn.found) (held_of sn.seen) (Err r) → AskedOnce (Fails sn.found sn.seen) (lists (held_of sn.found) hs) (lists (held_of sn.seen) hs) now ask (reply.Refused r)
jobless-asked sn hs now ask number shard r w legal ends =
    let failed = Fails sn.found sn.seen in
    (workers_law failed).job (lists (held_of sn.found) hs) (held_of sn.seen) now ask number shard (Err r) w
    ((looks_are_calls failed (λ r. Err r) (records.TellsJob number) (λ r. Err r) (Looks (FindsJob ask.request))).alone (held_of sn.found) (held_of sn.seen) (Err r) (Err r) ends
    (λ says. (finds-missing sn.seen.list ask.request number shard r w.request_is legal says, refl)) (λ x is. is))

-- a step in a shard that isn't there: the job isn't told
pub jobless_visited : (so sn : Seen) (ps : List Part) (now : ℕ) (ask : Ask) (number shard : ℕ) (r : Refusal) → Works ps ask now (request.Work number shard) → TurnCalls IsLegalCatalog (λ r. Err r) (Looks (records.TellsJob number)) so sn (Err r)
    → Visited (seats so ps) (seats sn ps) now ask (refusing r)
jobless_visited so sn ps now ask number shard r w t =
    let failed = Fails sn.found sn.seen in
    let says = records.TellsJob number in
    let ends = look_ends failed (λ r. Err r) says (held_of sn.found) (held_of sn.seen) (Err r) t.calls.call in
    visited_records so sn ps (as_seen sn) now ask (refused_with r) (refused_there ask.request r) (found_looked IsLegalCatalog (λ r. Err r) says so sn (Err r) t) (absent (held_of sn.seen))
    (jobless-asked (rested sn) (helds ps) now ask number shard r (works-here (held_of sn.seen) ps ask now (request.Work number shard) w) t.calls.seen_may.without (ends_again failed (λ r. Err r) says (held_of sn.found) (held_of sn.seen) (Err r) ends))

-- or it is
pub beyond_visited : (so sn : Seen) (ps : List Part) (now : ℕ) (ask : Ask) (number shard : ℕ) (job : Job) → Works ps ask now (request.Work number shard) → length ps ≤ shard → TurnCalls IsLegalCatalog (λ r. Err r) (Looks (records.TellsJob number)) so sn (Ok job)
    → Visited (seats so ps) (seats sn ps) now ask (refusing (refusal.Unknown thing.Shard))
beyond_visited so sn ps now ask number shard job w past t =
    let failed = Fails sn.found sn.seen in
    let told = look_told failed (records.TellsJob number) (held_of sn.found) (held_of sn.seen) job t.calls.call in
    visited_records so sn ps (as_seen sn) now ask (refused_with (refusal.Unknown thing.Shard)) (refused_there ask.request (refusal.Unknown thing.Shard)) (found_looked IsLegalCatalog (λ r. Err r) (records.TellsJob number) so sn (Ok job) t) (absent (held_of sn.seen))
    ((workers_law failed).jobless (lists (held_of sn.seen) (helds ps)) (held_of sn.seen) now ask number shard (works-here (held_of sn.seen) ps ask now (request.Work number shard) w) (settled_self (held_of sn.seen) told.0.no_doubt)
    (missing-none sn.seen.list ask.request number shard job w.request_is told.1.job_is) (subst (λ (n : ℕ). n ≤ shard) (sym (count_helds ps)) past))

pub work_visited : (so sn : Seen) (ps : List Part) (k : ℕ) (po pn : Part) (now : ℕ) (ask : Ask) (number : ℕ) (told : Replied) → slice_get ps k ≡ Some po → Works ps ask now (request.Work number k) → Stepped so sn po pn now ask worker number told
    → Visited (seats so ps) (seats sn (slice_set ps k pn)) now ask (at_part k told)
work_visited so sn ps k po pn now ask number told at w (way.taken job first mended there second call leaves) =
    let failed = Fails pn.found pn.seen in
    let m = call.mended in
    let worse = Either (as_seen sn) sn (with_held pn m) pn in
    let hs = slice_set (helds ps) k m in
    let says = ShardAnswers sn.seen.list now worker ask in
    let ends = step_ends sn.seen.list pn now ask worker number k job told w.request_is (may-work ask number k w.request_is) there.job_is call in
    visited_both so sn ps k po pn (as_seen sn) (with_held pn m) now ask told (worker-part sn.seen.list (length ps) k ask w.caller_is (rw w.request_is refl) (rw w.request_is refl)) (turn_speaks po pn told.reply second) at (found_settled so sn first mended.mends) (found_mended po pn m second call.mends (leaves_grow m (held_of pn.seen) told.own leaves)) (absent (held_of sn.seen)) leaves
    (subst (λ (gs : List Held). AskedOnce worse (lists (held_of sn.seen) hs) (lists (held_of sn.seen) gs) now ask told.reply) (set_twice (helds ps) k m (held_of pn.seen))
    ((workers_law worse).work (lists (held_of sn.seen) hs) (held_of sn.seen) m (held_of pn.seen) now ask number k told.reply (works-set (held_of sn.seen) ps k m ask now (request.Work number k) w) (settled_self (held_of sn.seen) mended.no_doubt)
    (missing-none sn.seen.list ask.request number k job w.request_is there.job_is) (set_get (helds ps) k (held_of po.seen) m (held_there ps k po at))
    ((calls_mean failed worse reply.Refused says says).each m (held_of pn.seen) told.reply (λ why. inr why) (λ h x l is. is) (record { mended = m; mends = stays m; ends = ends }))))
  where
    may-work : (ask : Ask) (number shard : ℕ) → ask.request ≡ request.Work number shard → forbidden worker ask.request ≡ None
    may-work ask number shard is = rw is refl
work_visited so sn ps k po pn now ask number told at w (way.jobless r first untold legal same said) =
    let failed = Fails sn.found sn.seen in
    let worse = Either (as_seen sn) sn po.seen po in
    let hs = slice_set (helds ps) k (held_of po.seen) in
    let a = lists (held_of sn.seen) hs in
    let says = records.TellsJob number in
    subst (λ (t : Replied). Visited (seats so ps) (seats sn (slice_set ps k pn)) now ask (at_part k t)) (sym said)
    (subst (λ (p : Part). Visited (seats so ps) (seats sn (slice_set ps k p)) now ask (at_part k (refused_with r))) (sym same)
    (visited_both so sn ps k po po (as_seen sn) po.seen now ask (refused_with r) (worker-part sn.seen.list (length ps) k ask w.caller_is (rw w.request_is refl) (rw w.request_is refl)) (refused_mute po po r) at (found_settled so sn first (ends_mend failed (λ r. Err r) says (held_of sn.found) (held_of sn.seen) (Err r) untold)) (found_rested po po (looked-self po)) (absent (held_of sn.seen)) (absent (held_of po.seen))
    (asked_mean failed worse a a now ask (reply.Refused r) (λ why. inl why)
    (jobless-asked (rested sn) hs now ask number k r (works-set (held_of sn.seen) ps k (held_of po.seen) ask now (request.Work number k) w) legal (ends_again failed (λ r. Err r) says (held_of sn.found) (held_of sn.seen) (Err r) untold)))))

-- ---- a settling

quiz-start : (h : List Record) (a : AttemptId) (q : ℕ) (o : Option history.Start) → history.start h a ≡ o → option_map (λ (s : history.Start). s.quiz) o ≡ Some q → is_some (history.start h a) ≡ true
quiz-start h a q None is of_quiz = absurd cc
quiz-start h a q (Some s) is of_quiz = rw is refl

some-start : (h : List Record) (a : AttemptId) (q : ℕ) → history.quiz h a ≡ Some q → is_some (history.start h a) ≡ true
some-start h a q of_quiz = quiz-start h a q (history.start h a) refl of_quiz

-- where the attempt's shard stands
pub record Settles (ps : List Part) (ask : Ask) (now : ℕ) (attempt : AttemptId) (k : ℕ) (po : Part) : Type 0 where
  pub works : Works ps ask now (request.Settle attempt)
  pub place : attempt.user % length ps ≡ k
  pub there : slice_get ps k ≡ Some po

settle-part : (c : List Record) (ps : List Part) (ask : Ask) (now : ℕ) (attempt : AttemptId) (k : ℕ) (po : Part) → Settles ps ask now attempt k po → GoesThere c (length ps) ask k
settle-part c ps ask now attempt k po w = worker-part c (length ps) k ask w.works.caller_is (rw w.works.request_is refl) (rw w.works.request_is w.place)

own-place : (ps : List Part) (ask : Ask) (now : ℕ) (attempt : AttemptId) (k : ℕ) (po : Part) (g : Held) → Settles ps ask now attempt k po → attempt.user % length (slice_set (helds ps) k g) ≡ k
own-place ps ask now attempt k po g w = subst (λ (n : ℕ). attempt.user % n ≡ k) (sym (count_set ps k g)) w.place

own-held : (ps : List Part) (ask : Ask) (now : ℕ) (attempt : AttemptId) (k : ℕ) (po : Part) (g : Held) → Settles ps ask now attempt k po → slice_get (slice_set (helds ps) k g) (attempt.user % length (slice_set (helds ps) k g)) ≡ Some g
own-held ps ask now attempt k po g w =
    subst (λ (j : ℕ). slice_get (slice_set (helds ps) k g) j ≡ Some g) (sym (own-place ps ask now attempt k po g w)) (set_get (helds ps) k (held_of po.seen) g (held_there ps k po w.there))

-- the lists afterwards
own-lists : (failed : Type 0) (h m : Held) (ps : List Part) (ask : Ask) (now : ℕ) (attempt : AttemptId) (k : ℕ) (po : Part) (g new : Held) (told : Reply) → Settles ps ask now attempt k po
    → AskedOnce failed (lists h (slice_set (helds ps) k g)) (lists m (slice_set (slice_set (helds ps) k g) (attempt.user % length (slice_set (helds ps) k g)) new)) now ask told
    → AskedOnce failed (lists h (slice_set (helds ps) k g)) (lists m (slice_set (helds ps) k new)) now ask told
own-lists failed h m ps ask now attempt k po g new told w once =
    subst (λ (gs : List Held). AskedOnce failed (lists h (slice_set (helds ps) k g)) (lists m gs) now ask told) (set_twice (helds ps) k g new)
    (subst (λ (j : ℕ). AskedOnce failed (lists h (slice_set (helds ps) k g)) (lists m (slice_set (slice_set (helds ps) k g) j new)) now ask told) (own-place ps ask now attempt k po g w) once)

-- the shard didn't tell the quiz, in a list of which nothing was mended any more
unfound-asked : (s : Seen) (ps : List Part) (k : ℕ) (po pn : Part) (now : ℕ) (ask : Ask) (attempt : AttemptId) (r : Refusal) → Settles ps ask now attempt k po
    → OneCall (Fails pn.found pn.seen) (λ r. Err r) (Looks (TellsQuiz attempt)) (held_of pn.seen) (held_of pn.seen) (Err r)
    → AskedOnce (Fails pn.found pn.seen) (lists (held_of s.seen) (slice_set (helds ps) k (held_of pn.seen))) (lists (held_of s.seen) (slice_set (helds ps) k (held_of pn.seen))) now ask (reply.Refused r)
unfound-asked s ps k po pn now ask attempt r w call =
    let failed = Fails pn.found pn.seen in
    own-lists failed (held_of s.seen) (held_of s.seen) ps ask now attempt k po (held_of pn.seen) (held_of pn.seen) (reply.Refused r) w
    ((settling_law failed).quiz (lists (held_of s.seen) (slice_set (helds ps) k (held_of pn.seen))) (held_of pn.seen) (held_of pn.seen) now ask attempt (Err r) (works-set (held_of s.seen) ps k (held_of pn.seen) ask now (request.Settle attempt) w.works)
    (own-held ps ask now attempt k po (held_of pn.seen) w) call)

-- the shard didn't tell the quiz
unfound-visited : (so sn : Seen) (ps : List Part) (k : ℕ) (po pn : Part) (now : ℕ) (ask : Ask) (attempt : AttemptId) (r : Refusal) → Settles ps ask now attempt k po → HasLooked so sn → TookTurn po pn
    → OneCall (Fails pn.found pn.seen) (λ r. Err r) (Looks (TellsQuiz attempt)) (held_of pn.found) (held_of pn.seen) (Err r) → Visited (seats so ps) (seats sn (slice_set ps k pn)) now ask (at_part k (refused_with r))
unfound-visited so sn ps k po pn now ask attempt r w sees second call =
    let failed = Fails pn.found pn.seen in
    let worse = Either sn.seen sn (as_seen pn) pn in
    let a = lists (held_of sn.seen) (slice_set (helds ps) k (held_of pn.seen)) in
    let says = TellsQuiz attempt in
    let mends = ends_mend failed (λ r. Err r) says (held_of pn.found) (held_of pn.seen) (Err r) (look_ends failed (λ r. Err r) says (held_of pn.found) (held_of pn.seen) (Err r) call) in
    visited_both so sn ps k po pn sn.seen (as_seen pn) now ask (refused_with r) (settle-part sn.seen.list ps ask now attempt k po w) (refused_mute po pn r) w.there (found_rested so sn sees) (found_settled po pn second mends) (absent (held_of sn.seen)) (absent (held_of pn.seen))
    (asked_mean failed worse a a now ask (reply.Refused r) (λ why. inr why)
    (unfound-asked sn ps k po pn now ask attempt r w (look_again failed (λ r. Err r) says (held_of pn.found) (held_of pn.seen) (Err r) call)))

-- the catalogue didn't tell the plan
planless-visited : (so sn : Seen) (ps : List Part) (k : ℕ) (po pn : Part) (now : ℕ) (ask : Ask) (attempt : AttemptId) (r : Refusal) → Settles ps ask now attempt k po → TookTurn so sn → IsFoundBy po pn pn.seen → pn.seen.doubt ≡ None
    → is_some (history.start pn.seen.list attempt) ≡ true → LookEnds (Fails sn.found sn.seen) (λ r. Err r) (λ (_ : List Record) (_ : Result (Unit {0}) Refusal). ⊥) (held_of sn.found) (held_of sn.seen) (Err r)
    → Visited (seats so ps) (seats sn (slice_set ps k pn)) now ask (at_part k (refused_with r))
planless-visited so sn ps k po pn now ask attempt r w first second clear begun ends =
    let failed = Fails sn.found sn.seen in
    let worse = Either (as_seen sn) sn pn.seen pn in
    let hs = slice_set (helds ps) k (held_of pn.seen) in
    let a = lists (held_of sn.seen) hs in
    let again = lost_again failed (held_of sn.found) (held_of sn.seen) r ends in
    let other = lost_as {A = Result (Unit {0}) Refusal} {B = Result Plan Refusal} failed (λ r. Err r) (λ r. Err r) (held_of sn.seen) (held_of sn.seen) r (λ x is. err-is r x is) again in
    let call = (looks_are_calls failed (λ r. Err r) (λ (_ : List Record) (_ : Result Plan Refusal). ⊥) (λ r. Err r) (Looks (FindsPlan pn.seen.list ask.request))).alone (held_of sn.seen) (held_of sn.seen) (Err r) (Err r) other (λ no. absurd no) (λ x is. is) in
    let once = (settling_law failed).plan a (held_of pn.seen) (held_of pn.seen) (held_of sn.seen) now ask attempt (Err r) (works-set (held_of sn.seen) ps k (held_of pn.seen) ask now (request.Settle attempt) w.works) (own-held ps ask now attempt k po (held_of pn.seen) w)
    (settled_self (held_of pn.seen) clear) begun call in
    visited_both so sn ps k po pn (as_seen sn) pn.seen now ask (refused_with r) (settle-part sn.seen.list ps ask now attempt k po w) (refused_mute po pn r) w.there (found_settled so sn first (lost_mend failed (held_of sn.found) (held_of sn.seen) r ends)) second (absent (held_of sn.seen)) (absent (held_of pn.seen))
    (asked_mean failed worse a a now ask (reply.Refused r) (λ why. inl why) (own-lists failed (held_of sn.seen) (held_of sn.seen) ps ask now attempt k po (held_of pn.seen) (held_of pn.seen) (reply.Refused r) w once))

-- the shard was asked under the plan, from its mended list on
settled-asked : (sn : Seen) (ps : List Part) (k : ℕ) (po pn : Part) (m : Held) (now : ℕ) (ask : Ask) (attempt : AttemptId) (q : ℕ) (told : Reply) → Settles ps ask now attempt k po → sn.seen.doubt ≡ None → history.quiz m.list attempt ≡ Some q
    → Split (Fails pn.found pn.seen) reply.Refused (ShardAnswers sn.seen.list now worker ask) m (held_of pn.seen) told
    → AskedOnce (Fails pn.found pn.seen) (lists (held_of sn.seen) (slice_set (helds ps) k m)) (lists (held_of sn.seen) (slice_set (helds ps) k (held_of pn.seen))) now ask told
settled-asked sn ps k po pn m now ask attempt q told w clear of_quiz (whole mended settled call) =
    let failed = Fails pn.found pn.seen in
    let a = lists (held_of sn.seen) (slice_set (helds ps) k m) in
    let grown = mended_grows m mended settled.mends in
    let later = quiz_on m.list mended.list attempt q (grown.rest, sym grown.grown) of_quiz in
    own-lists failed (held_of sn.seen) (held_of sn.seen) ps ask now attempt k po m (held_of pn.seen) told w
    ((settling_law failed).settle a m mended (held_of sn.seen) (held_of pn.seen) now ask attempt told (works-set (held_of sn.seen) ps k m ask now (request.Settle attempt) w.works) (own-held ps ask now attempt k po m w) settled
    (some-start mended.list attempt q later) (settled_self (held_of sn.seen) clear) call)
settled-asked sn ps k po pn m now ask attempt q told w clear of_quiz (lost r ends is) =
    let failed = Fails pn.found pn.seen in
    let other = lost_as {A = Reply} {B = Result ℕ Refusal} failed reply.Refused (λ r. Err r) m (held_of pn.seen) r (reply_is r) ends in
    let call = (looks_are_calls failed (λ r. Err r) (λ (_ : List Record) (_ : Result ℕ Refusal). ⊥) (λ r. Err r) (Looks (TellsQuiz attempt))).alone m (held_of pn.seen) (Err r) (Err r) other (λ no. absurd no) (λ x is. is) in
    subst (AskedOnce failed (lists (held_of sn.seen) (slice_set (helds ps) k m)) (lists (held_of sn.seen) (slice_set (helds ps) k (held_of pn.seen))) now ask) (sym is)
    (own-lists failed (held_of sn.seen) (held_of sn.seen) ps ask now attempt k po m (held_of pn.seen) (reply.Refused r) w
    ((settling_law failed).quiz (lists (held_of sn.seen) (slice_set (helds ps) k m)) m (held_of pn.seen) now ask attempt (Err r) (works-set (held_of sn.seen) ps k m ask now (request.Settle attempt) w.works) (own-held ps ask now attempt k po m w) call))

-- the shard was asked under the plan
settled-by : (so sn : Seen) (ps : List Part) (k : ℕ) (po pn : Part) (now : ℕ) (ask : Ask) (attempt : AttemptId) (q : ℕ) (told : Replied) → Settles ps ask now attempt k po → TookTurn so sn → IsSettled (held_of sn.found) (held_of sn.seen)
    → TookTurn po pn → history.quiz pn.found.list attempt ≡ Some q → Answered sn.seen.list now ask worker pn told → Visited (seats so ps) (seats sn (slice_set ps k pn)) now ask (at_part k told)
settled-by so sn ps k po pn now ask attempt q told w first mended second of_quiz is =
    let failed = Fails pn.found pn.seen in
    let m = is.call.mended in
    let worse = Either (as_seen sn) sn (with_held pn m) pn in
    let says = ShardAnswers sn.seen.list now worker ask in
    let grown = mended_grows (held_of pn.found) m is.call.mends in
    let later = quiz_on pn.found.list m.list attempt q (grown.rest, sym grown.grown) of_quiz in
    visited_both so sn ps k po pn (as_seen sn) (with_held pn m) now ask told (settle-part sn.seen.list ps ask now attempt k po w) (turn_speaks po pn told.reply second) w.there (found_settled so sn first mended.mends) (found_mended po pn m second is.call.mends (leaves_grow m (held_of pn.seen) told.own is.leaves)) (absent (held_of sn.seen)) is.leaves
    (asked_mean failed worse (lists (held_of sn.seen) (slice_set (helds ps) k m)) (lists (held_of sn.seen) (slice_set (helds ps) k (held_of pn.seen))) now ask told.reply (λ why. inr why)
    (settled-asked sn ps k po pn m now ask attempt q told.reply w mended.no_doubt later (split failed reply.Refused says m (held_of pn.seen) told.reply (call_again failed reply.Refused says (held_of pn.found) (held_of pn.seen) told.reply is.call))))

settle-planned : (so sm sn : Seen) (ps : List Part) (k : ℕ) (po pm pn : Part) (now : ℕ) (ask : Ask) (attempt : AttemptId) (q : ℕ) (told : Replied) → Settles ps ask now attempt k po → HasLooked so sm → HasLooked po pm → history.quiz pm.seen.list attempt ≡ Some q → pm.seen.doubt ≡ None
    → AllAgree sm.seen.list pm.seen.list → Planned sm sn pm pn now ask worker q attempt.user false told → Visited (seats so ps) (seats sn (slice_set ps k pn)) now ask (at_part k told)
settle-planned so sm sn ps k po pm pn now ask attempt q told w sees looks of_quiz clear agree (way.under p first mended plan second is) =
    let found = quiz_on pm.seen.list pn.found.list attempt q second.begins.begins of_quiz in
    settled-by so sn ps k po pn now ask attempt q told w (took_after so sm sn sees first) mended (took_after po pm pn looks second) found is
settle-planned so sm sn ps k po pm pn now ask attempt q told w sees looks of_quiz clear agree (way.planless r first untold second stays_clear is) =
    let found = quiz_on pm.seen.list pn.seen.list attempt q second.begins.begins of_quiz in
    subst (λ (t : Replied). Visited (seats so ps) (seats sn (slice_set ps k pn)) now ask (at_part k t)) (sym is)
    (elim (untold_split (Fails sn.found sn.seen) (records.TellsPlan q attempt.user false) (held_of sn.found) (held_of sn.seen) r untold) [
      | inl both ↦ no_missing sm sn pm attempt q r (took_sees sm sn first) agree of_quiz both.1
      | inr ends ↦ planless-visited so sn ps k po pn now ask attempt r w (took_after so sm sn sees first) (found_after po pm pn pn.seen looks second) (stays_clear clear) (some-start pn.seen.list attempt q found) ends
    ])

pub settle_visited : (so sn : Seen) (ps : List Part) (k : ℕ) (po pn : Part) (now : ℕ) (ask : Ask) (attempt : AttemptId) (told : Replied) → Settles ps ask now attempt k po → Tried so sn po pn now ask worker attempt told
    → Visited (seats so ps) (seats sn (slice_set ps k pn)) now ask (at_part k told)
settle_visited so sn ps k po pn now ask attempt told w (way.unfound r same second call is) =
    subst (λ (t : Replied). Visited (seats so ps) (seats sn (slice_set ps k pn)) now ask (at_part k t)) (sym is) (unfound-visited so sn ps k po pn now ask attempt r w (subst (HasLooked so) (sym same) (looked-self so)) second call)
settle_visited so sn ps k po pn now ask attempt told w (way.of_quiz q sm pm sees looks of_quiz clear agree planned) = settle-planned so sm sn ps k po pm pn now ask attempt q told w sees looks of_quiz clear agree planned
