-- A worker's requests, through the lists of a school.
use Rattle.std.proofs.Common.{◌≡◌, ℕ, ◌<◌, ◌≤◌, Bool, true, false, not, ◌||◌, List, [], ◌∷◌, Option, Some, None, Result, Ok, Err, MatchResult, length, refl, sym, ap, ◌∙◌, subst, arith}
use Rattle.std.specs.List.{list_any}
use Rattle.std.specs.Prelude.{if◌then◌else◌, is_none, is_some, nat_le, slice_get}
use Rattle.std.proofs.lemmas.Bool.Decides.{nat_tests}
use Rattle.std.proofs.lemmas.List.{length-set}
use Rattle.std.proofs.lemmas.Option.{slice_get_within}
use Rattle.qz_grading.specs.declared.refusal.AttemptId.{AttemptId}
use Rattle.qz_grading.specs.declared.refusal.Refusal.{Refusal}
use Rattle.qz_grading.specs.declared.refusal.Refusal.TheVariants as refusal
use Rattle.qz_grading.specs.declared.refusal.Thing.TheVariants as thing
use Rattle.qz_terms.specs.declared.ask.Ask.{Ask}
use Rattle.qz_terms.specs.declared.people.Caller.TheVariants as caller
use Rattle.qz_terms.specs.declared.people.User.{User}
use Rattle.qz_terms.specs.declared.plan.Job.{Job}
use Rattle.qz_terms.specs.declared.record.Record.{Record}
use Rattle.qz_terms.specs.declared.reply.Reply.{Reply}
use Rattle.qz_terms.specs.declared.reply.Reply.TheVariants as reply
use Rattle.qz_terms.specs.declared.request.Request.{Request}
use Rattle.qz_terms.specs.declared.request.Request.TheVariants as request
use Rattle.qz_terms.specs.Answer.{live_answer}
use Rattle.qz_terms.specs.CatalogAnswer.{asks_catalog}
use Rattle.qz_terms.specs.SchoolAnswer.{catalog_list, first_refusal, part_of, refusal_among}
use Rattle.qz_terms.specs.Catalog.{user_of, worker}
use Rattle.qz_terms.specs.Cause.{may_ask, missing_in, missing_shard, rule_of}
use Rattle.qz_terms.specs.Lists.{up_to_first}
use Rattle.qz_terms.specs.Serial.{Asks, Held, Lists, Mended, goes_on, is_catalog, is_in_doubt, is_report, is_settled, part_read, reads_catalog, reply_over, route, shards_asked, worker_route}
use Rattle.qz_keeper.specs.Lists.{IsSettled, Looks, OneCall}
use Rattle.qz_serial.specs.Calls.{CatalogAnswers, LookEnds, ShardAnswers, looked, unlooked, unread}
use Rattle.qz_serial.specs.Once.{AskedOnce}
use Rattle.qz_serial.specs.Paths.{IsAskable, IsGoing, with_both, with_part, with_records}
use Rattle.qz_serial.specs.Workers.{FindsJob, IsWorkers, WorkersAsk}
use Rattle.qz_serial.proofs.Acting.{asked_once}
use Rattle.qz_serial.proofs.Composing.{calls_mean, look_ends}
use Rattle.qz_serial.proofs.Joining.{alone_read, alone_reads, behind_read, call_cause, failed_asks, not-memory, part_asks, part_cause, records_ask, records_keep, records_mended, still_asks, wanting_asks}
use Rattle.qz_serial.proofs.Over.{goes_other, part_read_is, records_kept, refused_said}
use Rattle.qz_serial.proofs.Seats.{all_stay, set_get}
use Rattle.qz_serial.proofs.Tokens.{ended_clear, ended_nothing, ended_shards, no_shard, own_records, refused_ends, refused_own}

-- ---- a worker

pub worker_found : (c : List Record) (ask : Ask) → ask.caller ≡ caller.Worker → user_of c ask.caller ≡ Some worker
worker_found c ask who = ap (user_of c) who

pub worker_ways : (l : Lists) (ask : Ask) (x : Request) → ask.caller ≡ caller.Worker → ask.request ≡ x → route l ask ask.caller ≡ worker_route l ask x
worker_ways l ask x who is = ap (route l ask) who ∙ ap (worker_route l ask) is

pub one_shard : (l : Lists) (ask : Ask) (k : ℕ) → is_report ask.request ≡ false → part_read l ask ≡ Some k → shards_asked l ask ≡ Some k ∷ []
one_shard l ask k other read = rw (other, read) refl

-- a request that a worker may ask, and that names nothing that is missing
pub worker_among : (c : List Record) (n : ℕ) (ask : Ask) (x : Request) → ask.request ≡ x → may_ask worker x ≡ true → missing_in c x ≡ None → missing_shard n x ≡ None → refusal_among c n worker ask.request ≡ None
worker_among c n ask x is may there shard =
    let free : refusal_among c n worker x ≡ None = rw (may, there, shard) refl in
    ap (refusal_among c n worker) is ∙ free

at-set : (a : Lists) (m h : Held) (k : ℕ) (ask : Ask) (user : User) → IsGoing m.list (length a.parts) ask user k → IsGoing m.list (length (Rattle.std.specs.Prelude.slice_set a.parts k h)) ask user k
at-set a m h k ask user going = subst (λ (n : ℕ). IsGoing m.list n ask user k) (sym (length-set a.parts k h)) going

-- the shard that is asked, where a worker's request goes to one
pub worker_shard : (a : Lists) (m h : Held) (k : ℕ) (ask : Ask) → IsGoing m.list (length a.parts) ask worker k → shards_asked (with_both a m k h) ask ≡ Some k ∷ []
worker_shard a m h k ask going = one_shard (with_both a m k h) ask k (goes_other m.list (length a.parts) ask worker k going).1 (part_read_is (with_both a m k h) ask worker k (at-set a m h k ask worker going))

-- ---- what it may not ask

no-way : (l : Lists) (ask : Ask) (x : Request) → may_ask worker x ≡ false → worker_route l ask x ≡ []
no-way l ask (request.Live shard attempt) may = absurd cc
no-way l ask (request.Settle attempt) may = absurd cc
no-way l ask (request.Work number shard) may = absurd cc
no-way l ask request.Jobs may = absurd cc
no-way l ask x may = refl

none-read : (a : Lists) (now : ℕ) (ask : Ask) (r : Refusal) → route a ask ask.caller ≡ [] → ask.caller ≡ caller.Worker → refusal_among a.records.list (length a.parts) worker ask.request ≡ Some r → catalog_list a.records.list now ask ≡ a.records.list → Asks a a now ask (reply.Refused r)
none-read a now ask r ways who refused kept =
    let found = worker_found a.records.list ask who in
    let ended = refused_ends a ask worker r found refused in
    let settled : is_settled a ask ≡ true = ap (λ (w : List (Option ℕ)). not (list_any (is_in_doubt a) w)) ways in
    still_asks a a now ask (reply.Refused r) (record { records = Rattle.qz_terms.specs.Serial.stays a.records; parts = all_stay a.parts }) (record { records = λ skips. refl; parts = λ k skips. refl })
    settled (ended_clear a ask ended) (ended_nothing a now ask ended kept) (refused_said a now ask worker r found refused)

first-kept : (c : List Record) (now : ℕ) (ask : Ask) (user : User) (r : Refusal) → user_of c ask.caller ≡ Some user → first_refusal c user ask.request ≡ Some r → catalog_list c now ask ≡ c
first-kept c now ask user r found refused = rw (found, refused) refl

refused-path : (failed : Type 0) (a : Lists) (now : ℕ) (ask : Ask) → IsWorkers a ask ask.request → may_ask worker ask.request ≡ false → AskedOnce failed a a now ask (reply.Refused (refusal.Forbidden (rule_of ask.request)))
refused-path failed a now ask w may =
    let c = a.records.list in
    let r = refusal.Forbidden (rule_of ask.request) in
    let first : first_refusal c worker ask.request ≡ Some r = rw may refl in
    let among : refusal_among c (length a.parts) worker ask.request ≡ Some r = rw may refl in
    let found = worker_found c ask w.caller_is in
    asked_once failed a a now ask (reply.Refused r) w.askable.shards w.askable.keyed
    (none-read a now ask r (worker_ways a ask ask.request w.caller_is refl ∙ no-way a ask ask.request may) w.caller_is among (first-kept c now ask worker r found first))
    (λ fault. absurd (refused_own a now ask worker r found among fault))

-- ---- the jobs that there are

jobs-path : (failed : Type 0) (a : Lists) (new : Held) (now : ℕ) (ask : Ask) (told : Reply) → IsWorkers a ask request.Jobs → OneCall failed reply.Refused (CatalogAnswers now worker ask) a.records new told → AskedOnce failed a (with_records a new) now ask told
jobs-path failed a new now ask told w call =
    let m = call.mended in
    let l = with_records a m in
    let of_catalog : asks_catalog ask.request ≡ true = ap asks_catalog w.request_is in
    let found = worker_found m.list ask w.caller_is in
    let ways = worker_ways l ask request.Jobs w.caller_is w.request_is ∙ ap (λ (rest : List (Option ℕ)). None ∷ rest) (no_shard l ask worker of_catalog found) in
    asked_once failed a (with_records a new) now ask told w.askable.shards w.askable.keyed
    (records_ask failed a m new now ask worker told call.mends (alone_reads a m ask ways) of_catalog found call.ends)
    (call_cause failed (CatalogAnswers now worker ask) m new told (λ g is. own_records a m.list now ask worker told g of_catalog found is) call.ends)

-- ---- where attempts go on

past : (n shard : ℕ) → n ≤ shard → nat_le n shard ≡ true
past n shard over = grind (arith, nat_tests)

inside : (n shard : ℕ) → shard < n → nat_le n shard ≡ false
inside n shard within = grind (arith, nat_tests)

nowhere-path : (failed : Type 0) (a : Lists) (now : ℕ) (ask : Ask) (shard : ℕ) (attempt : AttemptId) → IsWorkers a ask (request.Live shard attempt) → length a.parts ≤ shard → AskedOnce failed a a now ask (reply.Refused (refusal.Unknown thing.Shard))
nowhere-path failed a now ask shard attempt w over =
    let c = a.records.list in
    let r = refusal.Unknown thing.Shard in
    let missing : refusal_among c (length a.parts) worker (request.Live shard attempt) ≡ Some r = rw (past (length a.parts) shard over) refl in
    let among : refusal_among c (length a.parts) worker ask.request ≡ Some r = ap (refusal_among c (length a.parts) worker) w.request_is ∙ missing in
    let found = worker_found c ask w.caller_is in
    let none = ended_shards a ask (is_report ask.request) refl (refused_ends a ask worker r found among) in
    asked_once failed a a now ask (reply.Refused r) w.askable.shards w.askable.keyed
    (none-read a now ask r (worker_ways a ask (request.Live shard attempt) w.caller_is w.request_is ∙ none) w.caller_is among (records_kept c now ask (ap asks_catalog w.request_is)))
    (λ fault. absurd (refused_own a now ask worker r found among fault))

live-going : (a : Lists) (c : List Record) (ask : Ask) (shard : ℕ) (attempt : AttemptId) → IsWorkers a ask (request.Live shard attempt) → shard < length a.parts → IsGoing c (length a.parts) ask worker shard
live-going a c ask shard attempt w within = record {
  goes = ap Rattle.qz_serial.specs.Paths.goes_to_part w.request_is;
  found = worker_found c ask w.caller_is;
  among = worker_among c (length a.parts) ask (request.Live shard attempt) w.request_is refl refl (rw (inside (length a.parts) shard within) refl);
  part = ap (part_of (length a.parts) worker) w.request_is;
}

live-answers : (c : List Record) (now : ℕ) (ask : Ask) (shard : ℕ) (attempt : AttemptId) → ask.request ≡ request.Live shard attempt → (h : List Record) (told : Reply) (g : List Record) → Looks (λ h told. told ≡ live_answer h attempt) h told g → ShardAnswers c now worker ask h told g
live-answers c now ask shard attempt is h told g both = (both.0 ∙ sym (rw is refl), both.1 ∙ sym (rw is refl))

live-path : (failed : Type 0) (a : Lists) (held new : Held) (now : ℕ) (ask : Ask) (shard : ℕ) (attempt : AttemptId) (told : Reply) → IsWorkers a ask (request.Live shard attempt) → slice_get a.parts shard ≡ Some held
    → OneCall failed reply.Refused (Looks (λ h told. told ≡ live_answer h attempt)) held new told → AskedOnce failed a (with_part a shard new) now ask told
live-path failed a held new now ask shard attempt told w is look =
    let m = a.records in
    let going = live-going a m.list ask shard attempt w (slice_get_within a.parts shard held is) in
    let call = (calls_mean failed failed reply.Refused (Looks (λ h told. told ≡ live_answer h attempt)) (ShardAnswers m.list now worker ask)).each held new told (λ why. why) (live-answers m.list now ask shard attempt w.request_is) look in
    let l = with_both a m shard call.mended in
    let ways = worker_ways l ask (request.Live shard attempt) w.caller_is w.request_is ∙ worker_shard a m call.mended shard ask going in
    asked_once failed a (with_part a shard new) now ask told w.askable.shards w.askable.keyed
    (part_asks failed a m held new shard now ask worker told call (Rattle.qz_terms.specs.Serial.stays m) is going (alone_read l ask shard call.mended ways (set_get a.parts shard held call.mended is)) (λ skips. refl))
    (part_cause failed a m held new shard now ask worker told is going call)

-- ---- a step of a job

-- the catalogue is read first
first-read : (p : Option ℕ → Bool) (rest : List (Option ℕ)) (b : Bool) → p None ≡ b → list_any is_catalog (up_to_first p (None ∷ rest)) ≡ true
first-read p rest true is = rw is refl
first-read p rest false is = rw is refl

pub first_reads : (l : Lists) (ask : Ask) (rest : List (Option ℕ)) → route l ask ask.caller ≡ None ∷ rest → reads_catalog l ask ≡ true
first_reads l ask rest ways = ap (λ (w : List (Option ℕ)). list_any is_catalog (up_to_first (is_in_doubt l) w)) ways ∙ first-read (is_in_doubt l) rest (is_in_doubt l None) refl

pub first_doubt : (l : Lists) (ask : Ask) (rest : List (Option ℕ)) → route l ask ask.caller ≡ None ∷ rest → is_some l.records.doubt ≡ true → is_settled l ask ≡ false
first_doubt l ask rest ways doubt = ap (λ (w : List (Option ℕ)). not (list_any (is_in_doubt l) w)) ways ∙ ap (λ b. not (b || list_any (is_in_doubt l) rest)) doubt

pub first_keep : (a : Lists) (m : Held) (ask : Ask) (rest : List (Option ℕ)) → route (with_records a m) ask ask.caller ≡ None ∷ rest → reads_catalog (with_records a m) ask ≡ false → m ≡ a.records
first_keep a m ask rest ways skips = let wrong : true ≡ false = sym (first_reads (with_records a m) ask rest ways) ∙ skips in absurd cc

work-ways : (l : Lists) (ask : Ask) (number shard : ℕ) (a : Lists) → IsWorkers a ask (request.Work number shard) → route l ask ask.caller ≡ None ∷ shards_asked l ask
work-ways l ask number shard a w = worker_ways l ask (request.Work number shard) w.caller_is w.request_is

work-refused : (failed : Type 0) (a : Lists) (m : Held) (now : ℕ) (ask : Ask) (number shard : ℕ) (r : Refusal) → IsWorkers a ask (request.Work number shard) → IsSettled a.records m → refusal_among m.list (length a.parts) worker ask.request ≡ Some r
    → AskedOnce failed a (with_records a m) now ask (reply.Refused r)
work-refused failed a m now ask number shard r w settled refused =
    let l = with_records a m in
    let found = worker_found m.list ask w.caller_is in
    let ended = refused_ends l ask worker r found refused in
    let ways = work-ways l ask number shard a w ∙ ap (λ (rest : List (Option ℕ)). None ∷ rest) (ended_shards l ask (is_report ask.request) refl ended) in
    asked_once failed a l now ask (reply.Refused r) w.askable.shards w.askable.keyed
    (still_asks a l now ask (reply.Refused r) (records_mended a m settled.mends) (records_keep a m ask (first_keep a m ask [] ways)) ((alone_reads a m ask ways).settled settled.no_doubt) (ended_clear l ask ended)
    (ended_nothing l now ask ended (records_kept m.list now ask (ap asks_catalog w.request_is))) (refused_said l now ask worker r found refused))
    (λ fault. absurd (refused_own l now ask worker r found refused fault))

pub err-ok : {A : Type 0} (x : A) (r : Refusal) → ◌≡◌ {A = Result A Refusal} (Ok x) (Err r) → ⊥
err-ok x r same = cc

pub err-is : {A : Type 0} (r s : Refusal) → ◌≡◌ {A = Result A Refusal} (Err r) (Err s) → r ≡ s
err-is r s same = cc

missing-first : (c : List Record) (n : ℕ) (ask : Ask) (number shard : ℕ) (r : Refusal) → ask.request ≡ request.Work number shard → missing_in c ask.request ≡ Some r → refusal_among c n worker ask.request ≡ Some r
missing-first c n ask number shard r is missing =
    let may : may_ask worker ask.request ≡ true = ap (may_ask worker) is in
    rw (may, missing) refl

job-by : (failed : Type 0) (a : Lists) (m : Held) (now : ℕ) (ask : Ask) (number shard : ℕ) (told : Result Job Refusal) → IsWorkers a ask (request.Work number shard) → LookEnds failed (λ r. Err r) (FindsJob ask.request) a.records m told
    → MatchResult told (λ _. IsSettled a.records m × (missing_in m.list ask.request ≡ None)) (λ r. AskedOnce failed a (with_records a m) now ask (reply.Refused r))
job-by failed a m now ask number shard (Ok job) w (looked settled says) = (settled, says)
job-by failed a m now ask number shard (Ok job) w (unread why mends doubt is) = absurd (err-ok job refusal.KeepFault is)
job-by failed a m now ask number shard (Ok job) w (unlooked mends is) = absurd (err-ok job refusal.Memory is)
job-by failed a m now ask number shard (Err r) w (looked settled says) = work-refused failed a m now ask number shard r w settled (missing-first m.list (length a.parts) ask number shard r w.request_is says)
job-by failed a m now ask number shard (Err r) w (unread why mends doubt is) =
    let l = with_records a m in
    let ways = work-ways l ask number shard a w in
    asked_once failed a l now ask (reply.Refused r) w.askable.shards w.askable.keyed
    (subst (λ (x : Refusal). Asks a l now ask (reply.Refused x)) (sym (err-is {A = Job} r refusal.KeepFault is)) (failed_asks a l now ask (records_mended a m mends) (records_keep a m ask (first_keep a m ask (shards_asked l ask) ways)) (first_doubt l ask (shards_asked l ask) ways doubt)))
    (λ fault. why)
job-by failed a m now ask number shard (Err r) w (unlooked mends is) =
    let l = with_records a m in
    asked_once failed a l now ask (reply.Refused r) w.askable.shards w.askable.keyed
    (subst (λ (x : Refusal). Asks a l now ask (reply.Refused x)) (sym (err-is {A = Job} r refusal.Memory is)) (wanting_asks a l now ask (records_mended a m mends) (records_keep a m ask (first_keep a m ask (shards_asked l ask) (work-ways l ask number shard a w)))))
    (λ fault. absurd (not-memory (reply.Refused r) (ap reply.Refused (err-is {A = Job} r refusal.Memory is)) fault))

jobless-path : (failed : Type 0) (a : Lists) (m : Held) (now : ℕ) (ask : Ask) (number shard : ℕ) → IsWorkers a ask (request.Work number shard) → IsSettled a.records m → missing_in m.list ask.request ≡ None → length a.parts ≤ shard
    → AskedOnce failed a (with_records a m) now ask (reply.Refused (refusal.Unknown thing.Shard))
jobless-path failed a m now ask number shard w settled there over =
    let may : may_ask worker ask.request ≡ true = ap (may_ask worker) w.request_is in
    let gone : missing_shard (length a.parts) (request.Work number shard) ≡ Some (refusal.Unknown thing.Shard) = rw (past (length a.parts) shard over) refl in
    let missing : missing_shard (length a.parts) ask.request ≡ Some (refusal.Unknown thing.Shard) = ap (missing_shard (length a.parts)) w.request_is ∙ gone in
    work-refused failed a m now ask number shard (refusal.Unknown thing.Shard) w settled (rw (may, there, missing) refl)

work-going : (a : Lists) (c : List Record) (ask : Ask) (number shard : ℕ) → IsWorkers a ask (request.Work number shard) → missing_in c ask.request ≡ None → shard < length a.parts → IsGoing c (length a.parts) ask worker shard
work-going a c ask number shard w there within = record {
  goes = ap Rattle.qz_serial.specs.Paths.goes_to_part w.request_is;
  found = worker_found c ask w.caller_is;
  among = worker_among c (length a.parts) ask (request.Work number shard) w.request_is refl (ap (missing_in c) (sym w.request_is) ∙ there) (rw (inside (length a.parts) shard within) refl);
  part = ap (part_of (length a.parts) worker) w.request_is;
}

work-path : (failed : Type 0) (a : Lists) (m held new : Held) (now : ℕ) (ask : Ask) (number shard : ℕ) (told : Reply) → IsWorkers a ask (request.Work number shard) → IsSettled a.records m → missing_in m.list ask.request ≡ None
    → slice_get a.parts shard ≡ Some held → OneCall failed reply.Refused (ShardAnswers m.list now worker ask) held new told → AskedOnce failed a (with_both a m shard new) now ask told
work-path failed a m held new now ask number shard told w settled there is call =
    let going = work-going a m.list ask number shard w there (slice_get_within a.parts shard held is) in
    let l = with_both a m shard call.mended in
    let ways = work-ways l ask number shard a w ∙ ap (λ (rest : List (Option ℕ)). None ∷ rest) (worker_shard a m call.mended shard ask going) in
    asked_once failed a (with_both a m shard new) now ask told w.askable.shards w.askable.keyed
    (part_asks failed a m held new shard now ask worker told call settled.mends is going (behind_read l ask shard call.mended ways (ap is_some settled.no_doubt) (set_get a.parts shard held call.mended is))
    (λ skips. let wrong : true ≡ false = sym (first_reads l ask (Some shard ∷ []) ways) ∙ skips in absurd cc))
    (part_cause failed a m held new shard now ask worker told is going call)

pub workers_law : (failed : Type 0) → WorkersAsk failed
workers_law failed = record {
  refused = refused-path failed;
  jobs = jobs-path failed;
  nowhere = nowhere-path failed;
  live = live-path failed;
  job = λ a m now ask number shard told w call. job-by failed a m now ask number shard told w (look_ends failed (λ r. Err r) (FindsJob ask.request) a.records m told call);
  jobless = jobless-path failed;
  work = work-path failed;
}
