-- How a school serves a worker, by what its calls at single lists came to.
use Rattle.std.proofs.Common.{◌≡◌, ℕ, ◌≤◌, ◌%◌, true, false, List, [], ◌∷◌, ◌++◌, Option, Some, None, IfSome, Result, Ok, Err, MatchResult, length, refl, sym, ap, ◌∙◌, subst}
use Rattle.std.specs.Prelude.{is_some, option_map, slice_get, slice_set}
use Rattle.qz_catalog.specs.Applying.{IsAsked}
use Rattle.qz_catalog.specs.Keeping as records
use Rattle.qz_grading.specs.declared.refusal.AttemptId.{AttemptId}
use Rattle.qz_grading.specs.declared.refusal.Refusal.{Refusal}
use Rattle.qz_grading.specs.declared.refusal.Refusal.TheVariants as refusal
use Rattle.qz_grading.specs.declared.refusal.Thing.TheVariants as thing
use Rattle.qz_grading.specs.Behaviours.{first_some}
use Rattle.qz_keeper.specs.Lists.{EachMayStand, IsSettled, Looks, OneCall}
use Rattle.qz_keeper.specs.Recording.{GoesOn, HasFailed}
use Rattle.qz_keeper.proofs.Calls.{call_doubts}
use Rattle.qz_shard.specs.Keeping as part
use Rattle.qz_terms.specs.declared.ask.Ask.{Ask}
use Rattle.qz_terms.specs.declared.people.Caller.TheVariants as caller
use Rattle.qz_terms.specs.declared.people.User.{User}
use Rattle.qz_terms.specs.declared.plan.Job.{Job}
use Rattle.qz_terms.specs.declared.plan.Plan.{Plan}
use Rattle.qz_terms.specs.declared.record.Record.{Record}
use Rattle.qz_terms.specs.declared.reply.Reply.{Reply}
use Rattle.qz_terms.specs.declared.reply.Reply.TheVariants as reply
use Rattle.qz_terms.specs.declared.request.Request.{Request}
use Rattle.qz_terms.specs.declared.request.Request.TheVariants as request
use Rattle.qz_terms.specs.Answer.{attempt_named, live_answer}
use Rattle.qz_terms.specs.Catalog as catalog
use Rattle.qz_terms.specs.Catalog.{worker}
use Rattle.qz_terms.specs.Cause.{forbidden, may_ask, missing_in, missing_quiz, missing_user, rule_of}
use Rattle.qz_terms.specs.History as history
use Rattle.qz_terms.specs.Legal.{AllAgree, IsLegalCatalog}
use Rattle.qz_terms.specs.Serial.{Asks, Held, Lists, no_memory, stays}
use Rattle.qz_serial.specs.Calls.{CatalogAnswers, ShardAnswers}
use Rattle.qz_serial.specs.Once.{AskedOnce}
use Rattle.qz_serial.specs.Paths.{with_both, with_part}
use Rattle.qz_serial.specs.Workers.{FindsJob, FindsPlan, IsWorkers}
use Rattle.qz_serial.proofs.Acting.{asked_once}
use Rattle.qz_serial.proofs.Composing.{look_ends, looks_are_calls}
use Rattle.qz_serial.proofs.Seats.{all_stay, set_get, set_twice}
use Rattle.qz_serial.proofs.Settling.{settling_law}
use Rattle.qz_serial.proofs.Workers.{workers_law}
use Rattle.qz_school.specs.Answering.{IsServed, MayBeAsked, PartAnswers, PartLooks}
use Rattle.qz_school.specs.Solos.{Fails, GoOn, IsSolo, School, held_of, lists_in}
use Rattle.qz_school.proofs.Calls.{look_told, means_there, stand_as}
use Rattle.qz_school.proofs.Keepers.{call_blames, fails_part, fails_records, fails_then, go_both, go_none, go_part, go_records}
use Rattle.qz_school.proofs.Planning.{plan_there}
use Rattle.qz_solo.proofs.Serving.{RecordsAnswer, askable}
use Rattle.qz_solo.proofs.Standing.{count_held, held_there, lists_both, lists_part}
use Rattle.qz_school.proofs.Missing.{job_absent, job_present}

pub worker_asks : {K : Type 0} (c : records.Keeping K) (ss : List (part.Keeping K)) (ask : Ask) (now : ℕ) (x : Request) → IsSolo c ss → MayBeAsked ask now → ask.caller ≡ caller.Worker → ask.request ≡ x → let a : School K = record { catalog = c; parts = ss } in IsWorkers (lists_in a) ask x
worker_asks c ss ask now x solo may by is = record { askable = askable c ss ask now solo may; caller_is = by; request_is = is }

-- ---- nothing is read

-- memory was wanting
pub worker_wants : {K : Type 0} (sound : K → Type 0) (faults : K → ℕ) (c : records.Keeping K) (ss : List (part.Keeping K)) (now : ℕ) (ask : Ask) → IsSolo c ss → MayBeAsked ask now → IsServed sound faults (record { catalog = c; parts = ss }) (record { catalog = c; parts = ss }) now ask (reply.Refused refusal.Memory)
worker_wants sound faults c ss now ask solo may =
    let a : School _ = record { catalog = c; parts = ss } in
    let asks : Asks (lists_in a) (lists_in a) now ask (reply.Refused refusal.Memory) = record {
      mended = lists_in a;
      mends = record { records = stays c.held; parts = all_stay (held_of ss) };
      keeps = record { records = λ unread. refl; parts = λ k unread. refl };
      turn = no_memory (lists_in a) now ask;
    } in
    record { once = asked_once (Fails sound faults a a) (lists_in a) (lists_in a) now ask (reply.Refused refusal.Memory) (askable c ss ask now solo may).shards may.keyed asks (λ is. absurd (other is)); goes_on = go_none sound faults a }
  where
    other : reply.Refused refusal.Memory ≡ reply.Refused refusal.KeepFault → ⊥
    other is = absurd cc

forbids-by : (x : Request) (b : _) (r : Refusal) → may_ask worker x ≡ b → forbidden worker x ≡ Some r → (b ≡ false) × (r ≡ refusal.Forbidden (rule_of x))
forbids-by x true r is forbids = let none : None ≡ Some r = rw is at forbids in absurd cc
forbids-by x false r is forbids = let some : Some (refusal.Forbidden (rule_of x)) ≡ Some r = rw is at forbids in (refl, cc)

-- the rules of callers forbid it
pub worker_refused : {K : Type 0} (sound : K → Type 0) (faults : K → ℕ) (c : records.Keeping K) (ss : List (part.Keeping K)) (now : ℕ) (ask : Ask) (r : Refusal) → IsSolo c ss → MayBeAsked ask now → ask.caller ≡ caller.Worker → forbidden worker ask.request ≡ Some r
    → IsServed sound faults (record { catalog = c; parts = ss }) (record { catalog = c; parts = ss }) now ask (reply.Refused r)
worker_refused sound faults c ss now ask r solo may by forbids =
    let a : School _ = record { catalog = c; parts = ss } in
    let why = forbids-by ask.request (may_ask worker ask.request) r refl forbids in
    record { once = rw why.1 ((workers_law (Fails sound faults a a)).refused (lists_in a) now ask (worker_asks c ss ask now ask.request solo may by refl) why.0); goes_on = go_none sound faults a }

pub jobs_served : {K : Type 0} (sound : K → Type 0) (faults : K → ℕ) (c d : records.Keeping K) (ss : List (part.Keeping K)) (now : ℕ) (ask : Ask) (told : Reply) → IsSolo c ss → MayBeAsked ask now → ask.caller ≡ caller.Worker → ask.request ≡ request.Jobs
    → RecordsAnswer sound faults reply.Refused (records.IsTold now worker ask) c d told → IsServed sound faults (record { catalog = c; parts = ss }) (record { catalog = d; parts = ss }) now ask told
jobs_served sound faults c d ss now ask told solo may by is call =
    let a : School _ = record { catalog = c; parts = ss } in
    let b : School _ = record { catalog = d; parts = ss } in
    let failed = HasFailed (sound c.keeper) (faults c.keeper) (faults d.keeper) in
    record {
      once = (workers_law (Fails sound faults a b)).jobs (lists_in a) d.held now ask told (worker_asks c ss ask now request.Jobs solo may by is)
          (call_blames failed (Fails sound faults a b) reply.Refused (records.IsTold now worker ask) (CatalogAnswers now worker ask) c.held d.held told (fails_records sound faults c d ss) (λ h t g says. (says.reply, says.list)) call.call);
      goes_on = go_records sound faults c d ss call.goes_on;
    }

-- ---- the attempts that go on

pub nowhere_served : {K : Type 0} (sound : K → Type 0) (faults : K → ℕ) (c : records.Keeping K) (ss : List (part.Keeping K)) (now : ℕ) (ask : Ask) (shard : ℕ) (attempt : AttemptId) (r : Refusal) → IsSolo c ss → MayBeAsked ask now → ask.caller ≡ caller.Worker → ask.request ≡ request.Live shard attempt
    → (length ss ≤ shard) × (r ≡ refusal.Unknown thing.Shard) → IsServed sound faults (record { catalog = c; parts = ss }) (record { catalog = c; parts = ss }) now ask (reply.Refused r)
nowhere_served sound faults c ss now ask shard attempt r solo may by is past =
    let a : School _ = record { catalog = c; parts = ss } in
    record {
      once = rw past.1 ((workers_law (Fails sound faults a a)).nowhere (lists_in a) now ask shard attempt (worker_asks c ss ask now (request.Live shard attempt) solo may by is) (subst (λ (n : ℕ). n ≤ shard) (sym (count_held ss)) past.0));
      goes_on = go_none sound faults a;
    }

pub live_served : {K : Type 0} (sound : K → Type 0) (faults : K → ℕ) (c : records.Keeping K) (ss : List (part.Keeping K)) (k : ℕ) (s g : part.Keeping K) (now : ℕ) (ask : Ask) (shard : ℕ) (attempt : AttemptId) (told : Reply) → IsSolo c ss → slice_get ss k ≡ Some s → MayBeAsked ask now
    → ask.caller ≡ caller.Worker → ask.request ≡ request.Live shard attempt → k ≡ shard → PartAnswers sound faults (Looks (λ h t. t ≡ live_answer h attempt)) s g told → IsServed sound faults (record { catalog = c; parts = ss }) (record { catalog = c; parts = slice_set ss k g }) now ask told
live_served sound faults c ss k s g now ask shard attempt told solo there may by is place call =
    let a : School _ = record { catalog = c; parts = ss } in
    let b : School _ = record { catalog = c; parts = slice_set ss k g } in
    let failed = HasFailed (sound s.keeper) (faults s.keeper) (faults g.keeper) in
    let worse = Fails sound faults a b in
    let says = Looks (λ h t. t ≡ live_answer h attempt) in
    let own : ask.request ≡ request.Live k attempt = is ∙ ap (λ (n : ℕ). request.Live n attempt) (sym place) in
    record {
      once = subst (λ (l : Lists). AskedOnce worse (lists_in a) l now ask told) (sym (lists_part c ss k g))
          ((workers_law worse).live (lists_in a) s.held g.held now ask k attempt told (worker_asks c ss ask now (request.Live k attempt) solo may by own) (held_there ss k s there)
          (call_blames failed worse reply.Refused says says s.held g.held told (fails_part sound faults c ss k s g there) (λ h t l x. x) call.call));
      goes_on = go_part sound faults c ss k s g there call.goes_on;
    }

-- ---- a step of a job

finds-job : (c : List Record) (number shard : ℕ) (told : Result Job Refusal) → IsLegalCatalog c → records.TellsJob number c told → FindsJob (request.Work number shard) c told
finds-job c number shard (Ok job) legal is = job_present c number shard job is.job_is
finds-job c number shard (Err r) legal is = job_absent c number shard legal is.1 ∙ ap (λ (x : Refusal). Some x) (sym is.0)

finds-same : (c : List Record) (x y : Request) (told : Result Job Refusal) → x ≡ y → FindsJob y c told → FindsJob x c told
finds-same c x y told is finds = subst (λ (z : Request). FindsJob z c told) (sym is) finds

job-call : {K : Type 0} (sound : K → Type 0) (faults : K → ℕ) (worse : Type 0) (c d : records.Keeping K) (x : Request) (number shard : ℕ) (told : Result Job Refusal) → (HasFailed (sound c.keeper) (faults c.keeper) (faults d.keeper) × (is_some d.held.doubt ≡ true) → worse) → x ≡ request.Work number shard → EachMayStand IsLegalCatalog c.held
    → RecordsAnswer sound faults (λ r. Err r) (Looks (records.TellsJob number)) c d told → OneCall worse (λ r. Err r) (Looks (FindsJob x)) c.held d.held told
job-call sound faults worse c d x number shard told to is legal call =
    let failed = HasFailed (sound c.keeper) (faults c.keeper) (faults d.keeper) in
    means_there (failed × (is_some d.held.doubt ≡ true)) worse (λ r. Err r) (Looks (records.TellsJob number)) (Looks (FindsJob x)) c.held d.held told to
    (stand_as (λ h. (t : Result Job Refusal) (g : List Record) → Looks (records.TellsJob number) h t g → Looks (FindsJob x) h t g) IsLegalCatalog c.held (λ h own t g says. (finds-same h x (request.Work number shard) t is (finds-job h number shard t own says.0), says.1)) legal)
    (call_doubts failed (λ r. Err r) (Looks (records.TellsJob number)) c.held d.held told call.call)

job-told : {K : Type 0} (sound : K → Type 0) (faults : K → ℕ) (c d : records.Keeping K) (ss : List (part.Keeping K)) (now : ℕ) (ask : Ask) (number shard : ℕ) (told : Result Job Refusal) → IsSolo c ss → MayBeAsked ask now → ask.caller ≡ caller.Worker → ask.request ≡ request.Work number shard → EachMayStand IsLegalCatalog c.held
    → RecordsAnswer sound faults (λ r. Err r) (Looks (records.TellsJob number)) c d told
    → let a : School K = record { catalog = c; parts = ss } in let b : School K = record { catalog = d; parts = ss } in
    MatchResult told (λ _. IsSettled c.held d.held × (missing_in d.held.list ask.request ≡ None)) (λ r. AskedOnce (Fails sound faults a b) (lists_in a) (lists_in b) now ask (reply.Refused r))
job-told sound faults c d ss now ask number shard told solo may by is legal call =
    let a : School _ = record { catalog = c; parts = ss } in
    let b : School _ = record { catalog = d; parts = ss } in
    (workers_law (Fails sound faults a b)).job (lists_in a) d.held now ask number shard told (worker_asks c ss ask now (request.Work number shard) solo may by is)
    (job-call sound faults (Fails sound faults a b) c d ask.request number shard told (fails_records sound faults c d ss) is legal call)

pub job_untold : {K : Type 0} (sound : K → Type 0) (faults : K → ℕ) (c d : records.Keeping K) (ss : List (part.Keeping K)) (now : ℕ) (ask : Ask) (number shard : ℕ) (r : Refusal) → IsSolo c ss → MayBeAsked ask now → ask.caller ≡ caller.Worker → ask.request ≡ request.Work number shard → EachMayStand IsLegalCatalog c.held
    → RecordsAnswer sound faults (λ r. Err r) (Looks (records.TellsJob number)) c d (Err r) → IsServed sound faults (record { catalog = c; parts = ss }) (record { catalog = d; parts = ss }) now ask (reply.Refused r)
job_untold sound faults c d ss now ask number shard r solo may by is legal call = record { once = job-told sound faults c d ss now ask number shard (Err r) solo may by is legal call; goes_on = go_records sound faults c d ss call.goes_on }

-- the job that was told is that of the catalogue that was mended
pub record JobFound {K : Type 0} (number : ℕ) (job : Job) (c d : records.Keeping K) : Type 0 where
  pub settled : IsSettled c.held d.held
  pub is_job : records.IsJob d.held.list number job

pub job_found : {K : Type 0} (sound : K → Type 0) (faults : K → ℕ) (number : ℕ) (job : Job) (c d : records.Keeping K) → RecordsAnswer sound faults (λ r. Err r) (Looks (records.TellsJob number)) c d (Ok job) → JobFound number job c d
job_found sound faults number job c d call = let both = look_told (HasFailed (sound c.keeper) (faults c.keeper) (faults d.keeper)) (records.TellsJob number) c.held d.held job call.call in record { settled = both.0; is_job = both.1 }

missing-none : (c : List Record) (x : Request) (number shard : ℕ) (job : Job) → x ≡ request.Work number shard → catalog.job c number ≡ Some job → missing_in c x ≡ None
missing-none c x number shard job is there = ap (missing_in c) is ∙ job_present c number shard job there

pub jobless_served : {K : Type 0} (sound : K → Type 0) (faults : K → ℕ) (c d : records.Keeping K) (ss : List (part.Keeping K)) (now : ℕ) (ask : Ask) (number shard : ℕ) (job : Job) (r : Refusal) → IsSolo c ss → MayBeAsked ask now → ask.caller ≡ caller.Worker → ask.request ≡ request.Work number shard → JobFound number job c d
    → GoesOn (sound c.keeper) (sound d.keeper) (faults c.keeper) (faults d.keeper) → (length ss ≤ shard) × (r ≡ refusal.Unknown thing.Shard) → IsServed sound faults (record { catalog = c; parts = ss }) (record { catalog = d; parts = ss }) now ask (reply.Refused r)
jobless_served sound faults c d ss now ask number shard job r solo may by is found on past =
    let a : School _ = record { catalog = c; parts = ss } in
    let b : School _ = record { catalog = d; parts = ss } in
    record {
      once = rw past.1 ((workers_law (Fails sound faults a b)).jobless (lists_in a) d.held now ask number shard (worker_asks c ss ask now (request.Work number shard) solo may by is) found.settled (missing-none d.held.list ask.request number shard job is found.is_job.job_is)
          (subst (λ (n : ℕ). n ≤ shard) (sym (count_held ss)) past.0));
      goes_on = go_records sound faults c d ss on;
    }

-- the whole of two calls, at the catalogue and at a shard
pub go_two : {K : Type 0} (sound : K → Type 0) (faults : K → ℕ) (c d : records.Keeping K) (ss : List (part.Keeping K)) (k : ℕ) (s g : part.Keeping K) → slice_get ss k ≡ Some s → GoesOn (sound c.keeper) (sound d.keeper) (faults c.keeper) (faults d.keeper) → GoesOn (sound s.keeper) (sound g.keeper) (faults s.keeper) (faults g.keeper)
    → GoOn sound faults (record { catalog = c; parts = ss }) (record { catalog = d; parts = slice_set ss k g })
go_two sound faults c d ss k s g is first then = go_both sound faults (record { catalog = c; parts = ss }) (record { catalog = d; parts = ss }) (record { catalog = d; parts = slice_set ss k g }) (go_records sound faults c d ss first) (go_part sound faults d ss k s g is then)

pub fails_second : {K : Type 0} (sound : K → Type 0) (faults : K → ℕ) (c d : records.Keeping K) (ss : List (part.Keeping K)) (k : ℕ) (s g : part.Keeping K) → slice_get ss k ≡ Some s → GoesOn (sound c.keeper) (sound d.keeper) (faults c.keeper) (faults d.keeper)
    → HasFailed (sound s.keeper) (faults s.keeper) (faults g.keeper) × (is_some g.held.doubt ≡ true) → Fails sound faults (record { catalog = c; parts = ss }) (record { catalog = d; parts = slice_set ss k g })
fails_second sound faults c d ss k s g is first why = fails_then sound faults (record { catalog = c; parts = ss }) (record { catalog = d; parts = ss }) (record { catalog = d; parts = slice_set ss k g }) (go_records sound faults c d ss first) (fails_part sound faults d ss k s g is why)

pub work_served : {K : Type 0} (sound : K → Type 0) (faults : K → ℕ) (c d : records.Keeping K) (ss : List (part.Keeping K)) (k : ℕ) (s g : part.Keeping K) (now : ℕ) (ask : Ask) (number shard : ℕ) (job : Job) (told : Reply) → IsSolo c ss → slice_get ss k ≡ Some s → MayBeAsked ask now → ask.caller ≡ caller.Worker
    → ask.request ≡ request.Work number shard → k ≡ shard → JobFound number job c d → GoesOn (sound c.keeper) (sound d.keeper) (faults c.keeper) (faults d.keeper) → PartAnswers sound faults (ShardAnswers d.held.list now worker ask) s g told
    → IsServed sound faults (record { catalog = c; parts = ss }) (record { catalog = d; parts = slice_set ss k g }) now ask told
work_served sound faults c d ss k s g now ask number shard job told solo there may by is place found on call =
    let a : School _ = record { catalog = c; parts = ss } in
    let b : School _ = record { catalog = d; parts = slice_set ss k g } in
    let failed = HasFailed (sound s.keeper) (faults s.keeper) (faults g.keeper) in
    let worse = Fails sound faults a b in
    let own : ask.request ≡ request.Work number k = is ∙ ap (λ (n : ℕ). request.Work number n) (sym place) in
    let says = ShardAnswers d.held.list now worker ask in
    record {
      once = subst (λ (l : Lists). AskedOnce worse (lists_in a) l now ask told) (sym (lists_both c d ss k g))
          ((workers_law worse).work (lists_in a) d.held s.held g.held now ask number k told (worker_asks c ss ask now (request.Work number k) solo may by own) found.settled (missing-none d.held.list ask.request number k job own found.is_job.job_is) (held_there ss k s there)
          (call_blames failed worse reply.Refused says says s.held g.held told (fails_second sound faults c d ss k s g there on) (λ h t l x. x) call.call));
      goes_on = go_two sound faults c d ss k s g there on call.goes_on;
    }

-- ---- a settling

some-start : (h : List Record) (a : AttemptId) (q : ℕ) (o : Option history.Start) → history.start h a ≡ o → option_map (λ (s : history.Start). s.quiz) o ≡ Some q → is_some (history.start h a) ≡ true
some-start h a q None is of_quiz = absurd cc
some-start h a q (Some s) is of_quiz = rw is refl

-- the shard of an attempt
pub record IsSettling {K : Type 0} (c : records.Keeping K) (ss : List (part.Keeping K)) (ask : Ask) (now : ℕ) (attempt : AttemptId) (k : ℕ) (s : part.Keeping K) : Type 0 where
  pub solo : IsSolo c ss
  pub may : MayBeAsked ask now
  pub caller_is : ask.caller ≡ caller.Worker
  pub request_is : ask.request ≡ request.Settle attempt
  pub place : attempt.user % length ss ≡ k
  pub there : slice_get ss k ≡ Some s

own-place : {K : Type 0} (c : records.Keeping K) (ss : List (part.Keeping K)) (ask : Ask) (now : ℕ) (attempt : AttemptId) (k : ℕ) (s : part.Keeping K) → IsSettling c ss ask now attempt k s → attempt.user % length (held_of ss) ≡ k
own-place c ss ask now attempt k s w = subst (λ (n : ℕ). attempt.user % n ≡ k) (sym (count_held ss)) w.place

own-held : {K : Type 0} (c : records.Keeping K) (ss : List (part.Keeping K)) (ask : Ask) (now : ℕ) (attempt : AttemptId) (k : ℕ) (s : part.Keeping K) → IsSettling c ss ask now attempt k s → slice_get (held_of ss) (attempt.user % length (held_of ss)) ≡ Some s.held
own-held c ss ask now attempt k s w = subst (λ (j : ℕ). slice_get (held_of ss) j ≡ Some s.held) (sym (own-place c ss ask now attempt k s w)) (held_there ss k s w.there)

settles : {K : Type 0} (c : records.Keeping K) (ss : List (part.Keeping K)) (ask : Ask) (now : ℕ) (attempt : AttemptId) (k : ℕ) (s : part.Keeping K) → IsSettling c ss ask now attempt k s → let a : School K = record { catalog = c; parts = ss } in IsWorkers (lists_in a) ask (request.Settle attempt)
settles c ss ask now attempt k s w = worker_asks c ss ask now (request.Settle attempt) w.solo w.may w.caller_is w.request_is

-- the attempt isn't there, or its shard didn't tell
pub quiz_unsettled : {K : Type 0} (sound : K → Type 0) (faults : K → ℕ) (c : records.Keeping K) (ss : List (part.Keeping K)) (now : ℕ) (ask : Ask) (attempt : AttemptId) (k : ℕ) (s m : part.Keeping K) (r : Refusal) → IsSettling c ss ask now attempt k s → PartLooks sound faults (part.TellsQuiz attempt) s m (Err r)
    → IsServed sound faults (record { catalog = c; parts = ss }) (record { catalog = c; parts = slice_set ss k m }) now ask (reply.Refused r)
quiz_unsettled sound faults c ss now ask attempt k s m r w call =
    let a : School _ = record { catalog = c; parts = ss } in
    let b : School _ = record { catalog = c; parts = slice_set ss k m } in
    let failed = HasFailed (sound s.keeper) (faults s.keeper) (faults m.keeper) in
    let worse = Fails sound faults a b in
    let says = Looks (part.TellsQuiz attempt) in
    let once = (settling_law worse).quiz (lists_in a) s.held m.held now ask attempt (Err r) (settles c ss ask now attempt k s w) (own-held c ss ask now attempt k s w)
    (call_blames failed worse (λ r. Err r) says says s.held m.held (Err r) (fails_part sound faults c ss k s m w.there) (λ h t l x. x) call.call) in
    record {
      once = subst (λ (l : Lists). AskedOnce worse (lists_in a) l now ask (reply.Refused r)) (ap (λ (j : ℕ). with_part (lists_in a) j m.held) (own-place c ss ask now attempt k s w) ∙ sym (lists_part c ss k m)) once;
      goes_on = go_part sound faults c ss k s m w.there call.goes_on;
    }

-- it is there, and its shard is mended
pub record IsThere {K : Type 0} (a : AttemptId) (q : ℕ) (s m : part.Keeping K) : Type 0 where
  pub settled : IsSettled s.held m.held
  pub of_quiz : history.quiz m.held.list a ≡ Some q

-- the catalogue didn't tell its plan
plan-absurd : (c h : List Record) (attempt : AttemptId) (q : ℕ) (r : Refusal) → AllAgree c h → history.quiz h attempt ≡ Some q → first_some (missing_quiz c q ∷ missing_user c attempt.user ∷ []) ≡ Some r → ⊥
plan-absurd c h attempt q r agree of_quiz first = let none : None ≡ Some r = sym (plan_there c h attempt q agree of_quiz) ∙ first in absurd cc

err-same : {A : Type 0} (r s : Refusal) → ◌≡◌ {A = Result A Refusal} (Err r) (Err s) → r ≡ s
err-same r s e = cc

plan-call : {K : Type 0} (worse : Type 0) (c d : records.Keeping K) (h : List Record) (x : Request) (attempt : AttemptId) (q : ℕ) (r : Refusal) → AllAgree d.held.list h → history.quiz h attempt ≡ Some q → OneCall worse (λ r. Err r) (Looks (records.TellsPlan q attempt.user false)) c.held d.held (Err r)
    → OneCall worse (λ r. Err r) (Looks (FindsPlan h x)) c.held d.held (Err r)
plan-call worse c d h x attempt q r agree of_quiz call =
    (looks_are_calls worse (λ r. Err r) (records.TellsPlan q attempt.user false) (λ r. Err r) (Looks (FindsPlan h x))).alone c.held d.held (Err r) (Err r) (look_ends worse (λ r. Err r) (records.TellsPlan q attempt.user false) c.held d.held (Err r) call)
    (λ says. absurd (plan-absurd d.held.list h attempt q r agree of_quiz says)) (λ y is. ap (λ (z : Refusal). let e : Result Plan Refusal = Err z in e) (err-same r y is))

pub plan_unsettled : {K : Type 0} (sound : K → Type 0) (faults : K → ℕ) (c d : records.Keeping K) (ss : List (part.Keeping K)) (now : ℕ) (ask : Ask) (attempt : AttemptId) (q k : ℕ) (s m : part.Keeping K) (r : Refusal) → IsSettling c ss ask now attempt k s → IsThere attempt q s m
    → GoesOn (sound s.keeper) (sound m.keeper) (faults s.keeper) (faults m.keeper) → AllAgree d.held.list m.held.list → RecordsAnswer sound faults (λ r. Err r) (Looks (records.TellsPlan q attempt.user false)) c d (Err r)
    → IsServed sound faults (record { catalog = c; parts = ss }) (record { catalog = d; parts = slice_set ss k m }) now ask (reply.Refused r)
plan_unsettled sound faults c d ss now ask attempt q k s m r w found on agree call =
    let ms = slice_set ss k m in
    let a : School _ = record { catalog = c; parts = ss } in
    let n : School _ = record { catalog = c; parts = ms } in
    let b : School _ = record { catalog = d; parts = ms } in
    let failed = HasFailed (sound c.keeper) (faults c.keeper) (faults d.keeper) in
    let worse = Fails sound faults a b in
    let go = go_part sound faults c ss k s m w.there on in
    let says = Looks (records.TellsPlan q attempt.user false) in
    let other = call_blames failed worse (λ r. Err r) says says c.held d.held (Err r) (λ why. fails_then sound faults a n b go (fails_records sound faults c d ms why)) (λ h t l x. x) call.call in
    let once = (settling_law worse).plan (lists_in a) s.held m.held d.held now ask attempt (Err r) (settles c ss ask now attempt k s w) (own-held c ss ask now attempt k s w) found.settled (some-start m.held.list attempt q (history.start m.held.list attempt) refl found.of_quiz)
    (plan-call worse c d m.held.list ask.request attempt q r agree found.of_quiz other) in
    record {
      once = subst (λ (l : Lists). AskedOnce worse (lists_in a) l now ask (reply.Refused r)) (ap (λ (j : ℕ). with_both (lists_in a) d.held j m.held) (own-place c ss ask now attempt k s w) ∙ sym (lists_both c d ss k m)) once;
      goes_on = go_both sound faults a n b go (go_records sound faults c d ms call.goes_on);
    }

-- and then the shard answers
pub settle_served : {K : Type 0} (sound : K → Type 0) (faults : K → ℕ) (c d : records.Keeping K) (ss : List (part.Keeping K)) (now : ℕ) (ask : Ask) (attempt : AttemptId) (q k : ℕ) (s m g : part.Keeping K) (told : Reply) → IsSettling c ss ask now attempt k s → IsThere attempt q s m
    → GoesOn (sound s.keeper) (sound m.keeper) (faults s.keeper) (faults m.keeper) → IsSettled c.held d.held → GoesOn (sound c.keeper) (sound d.keeper) (faults c.keeper) (faults d.keeper) → PartAnswers sound faults (ShardAnswers d.held.list now worker ask) m g told
    → IsServed sound faults (record { catalog = c; parts = ss }) (record { catalog = d; parts = slice_set ss k g }) now ask told
settle_served sound faults c d ss now ask attempt q k s m g told w found on mended went call =
    let ms = slice_set ss k m in
    let gs = slice_set ss k g in
    let a : School _ = record { catalog = c; parts = ss } in
    let n : School _ = record { catalog = c; parts = ms } in
    let p : School _ = record { catalog = d; parts = ms } in
    let b : School _ = record { catalog = d; parts = gs } in
    let failed = HasFailed (sound m.keeper) (faults m.keeper) (faults g.keeper) in
    let worse = Fails sound faults a b in
    let there = set_get ss k s m w.there in
    let twice : slice_set ms k g ≡ gs = set_twice ss k m g in
    let go = go_both sound faults a n p (go_part sound faults c ss k s m w.there on) (go_records sound faults c d ms went) in
    let last : GoOn sound faults p b = subst (λ (l : List (part.Keeping _)). let z : School _ = record { catalog = d; parts = l } in GoOn sound faults p z) twice (go_part sound faults d ms k m g there call.goes_on) in
    let fails : failed × (is_some g.held.doubt ≡ true) → Fails sound faults p b = λ why. subst (λ (l : List (part.Keeping _)). let z : School _ = record { catalog = d; parts = l } in Fails sound faults p z) twice (fails_part sound faults d ms k m g there why) in
    let says = ShardAnswers d.held.list now worker ask in
    let other = call_blames failed worse reply.Refused says says m.held g.held told (λ why. fails_then sound faults a p b go (fails why)) (λ h t l x. x) call.call in
    let once = (settling_law worse).settle (lists_in a) s.held m.held d.held g.held now ask attempt told (settles c ss ask now attempt k s w) (own-held c ss ask now attempt k s w) found.settled (some-start m.held.list attempt q (history.start m.held.list attempt) refl found.of_quiz) mended other in
    record {
      once = subst (λ (l : Lists). AskedOnce worse (lists_in a) l now ask told) (ap (λ (j : ℕ). with_both (lists_in a) d.held j g.held) (own-place c ss ask now attempt k s w) ∙ sym (lists_both c d ss k g)) once;
      goes_on = go_both sound faults a p b go last;
    }

-- ---- what a worker may do

pub worker_known : (c : List Record) (ask : Ask) → ask.caller ≡ caller.Worker → catalog.user_of c ask.caller ≡ Some worker
worker_known c ask by = rw by refl

pub worker_may_work : (ask : Ask) (number shard : ℕ) → ask.request ≡ request.Work number shard → forbidden worker ask.request ≡ None
worker_may_work ask number shard is = rw is refl

pub settle_may : (user : User) (ask : Ask) (attempt : AttemptId) → user ≡ worker → ask.request ≡ request.Settle attempt → forbidden user ask.request ≡ None
settle_may user ask attempt who is = rw (who, is) refl

pub settle_named : (ask : Ask) (attempt : AttemptId) → ask.request ≡ request.Settle attempt → attempt_named ask.request ≡ Some attempt
settle_named ask attempt is = rw is refl

-- the jobs may be asked of each list of the catalogue that may stand
pub asks_jobs : (k : Held) (user : User) (ask : Ask) (moment : ℕ) → user ≡ worker → MayBeAsked ask moment → ask.caller ≡ caller.Worker → ask.request ≡ request.Jobs → EachMayStand (λ c. IsAsked c user ask moment) k
asks_jobs k user ask moment who may by is = record { without = each k.list; with_doubt = more k.list k.doubt }
  where
    each : (c : List Record) → IsAsked c user ask moment
    each c = record { keyed = may.keyed; of_catalog = rw is refl; by_user = rw (by, who) refl; kept_request = may.kept; described = may.described; kept_moment = may.moment_kept }

    more : (l : List Record) (o : Option Record) → IfSome o (λ r. IsAsked (l ++ r ∷ []) user ask moment)
    more l None = tt
    more l (Some r) = each (l ++ r ∷ [])
