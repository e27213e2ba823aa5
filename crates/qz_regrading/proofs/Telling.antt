-- What replies by the rules tell a worker.
use Rattle.std.proofs.Common.{◌≡◌, ℕ, zero, suc, ◌<◌, ◌≤◌, ◌⊎◌, Bool, true, false, cond, ◌||◌, List, [], ◌∷◌, ◌++◌, Option, Some, None, length, refl, sym, ap, ◌∙◌, subst, eq-eqb, leb-true, leb-false, inl, inr, append-nil, arith}
use Rattle.std.specs.List.{AllZip}
use Rattle.std.specs.Prelude.{is_none, is_some, nat_le, option_and_then, option_map, option_to_list, slice_get, slice_set, unwrap_or}
use Rattle.std.proofs.lemmas.Bool.{false≢true}
use Rattle.std.proofs.lemmas.List.{length-map}
use Rattle.std.proofs.lemmas.List.Folds.{list_any-append}
use Rattle.qz_grading.specs.declared.question.Question.{Question}
use Rattle.qz_grading.specs.declared.refusal.AttemptId.{AttemptId}
use Rattle.qz_grading.specs.declared.refusal.Refusal.{Refusal}
use Rattle.qz_grading.specs.declared.refusal.Refusal.TheVariants as refusal
use Rattle.qz_grading.specs.declared.refusal.Thing.TheVariants as thing
use Rattle.qz_grading.specs.Behaviours.{first_some, when}
use Rattle.qz_grading.specs.Grading.{at_place}
use Rattle.qz_grading.specs.Shapes.{same_shape, shape}
use Rattle.qz_terms.specs.declared.ask.Ask.{Ask}
use Rattle.qz_terms.specs.declared.people.User.{User}
use Rattle.qz_terms.specs.declared.plan.Job.{Job}
use Rattle.qz_terms.specs.declared.plan.Plan.{Plan}
use Rattle.qz_terms.specs.declared.plan.Planned.{Planned}
use Rattle.qz_terms.specs.declared.record.Event.{Event}
use Rattle.qz_terms.specs.declared.record.Event.TheVariants as event
use Rattle.qz_terms.specs.declared.record.Record.{Record}
use Rattle.qz_terms.specs.declared.reply.Done.{Done}
use Rattle.qz_terms.specs.declared.reply.Done.TheVariants as done
use Rattle.qz_terms.specs.declared.reply.Reply.{Reply}
use Rattle.qz_terms.specs.declared.reply.Reply.TheVariants as reply
use Rattle.qz_terms.specs.declared.request.Request.{Request}
use Rattle.qz_terms.specs.declared.request.Request.TheVariants as request
use Rattle.qz_terms.specs.Answer.{first_target, list_after, list_with, put_by_job, put_target, rebound_or_skipped, record_of_job, reply_by, said, said_of_put, target_event, work_after, work_answer}
use Rattle.qz_terms.specs.CatalogAnswer.{asks_catalog}
use Rattle.qz_terms.specs.SchoolAnswer.{after_by, job_after, job_answer, part_at, plan_for, shard_after, shard_list, user_after}
use Rattle.qz_terms.specs.Catalog as catalog
use Rattle.qz_terms.specs.Catalog.{worker}
use Rattle.qz_terms.specs.Cause.{Denied, Granted, Repeated, Verdict}
use Rattle.qz_terms.specs.History as history
use Rattle.qz_terms.specs.Laws.{tells_of_outside}
use Rattle.qz_terms.specs.Serial.{Asks, Held, Lists, Mended, Turn, adopted, answered, doubted, doubted_parts, dropped, lists_of, lists_over, no_memory, part_list, part_read, parts_over, put_in_doubt, reads_catalog, reply_over, stayed_in_doubt, stays, with_list}
use Rattle.qz_regrading.specs.Workers.{AsksKeep, AsksTell, CountsFault, IsFront, ServesWorkers, KeepsParts, TellsWorker, tells_done, worker_asks}
use Rattle.qz_regrading.proofs.Keeping.{front-same, keeps-more}

-- ---- the lists of shards

abbrev list_at : List Held → ℕ → List Record
list_at parts k = unwrap_or (option_map (λ (h : Held). h.list) (slice_get parts k)) []

-- each list goes on
record GoOn (old new : List Held) : Type 0 where
  count : length new ≡ length old
  fronts : (k : ℕ) → IsFront (list_at old k) (list_at new k)

go-on-same : (parts : List Held) → GoOn parts parts
go-on-same parts = record { count = refl; fronts = λ k. front-same (list_at parts k) }

keeps-by : (a b : Lists) → GoOn a.parts b.parts → KeepsParts a b
keeps-by a b g = record { count = g.count; fronts = g.fronts }

front-put : (l rest : List Record) → IsFront l (l ++ rest)
front-put l rest = record { rest = rest; split = refl }

mended-front : (k m : Held) → Mended k m → IsFront k.list m.list
mended-front _ _ (stays k) = front-same k.list
mended-front _ _ (dropped l x) = front-same l
mended-front _ _ (adopted l x) = front-put l (x ∷ [])

go-on-more : (k m : Held) (ks ms : List Held) → IsFront k.list m.list → GoOn ks ms → GoOn (k ∷ ks) (m ∷ ms)
go-on-more k m ks ms one rest = record { count = ap suc rest.count; fronts = fronts }
  where
    fronts : (n : ℕ) → IsFront (list_at (k ∷ ks) n) (list_at (m ∷ ms) n)
    fronts zero = one
    fronts (suc n) = rest.fronts n

all-mended : (ks ms : List Held) → AllZip Mended ks ms → GoOn ks ms
all-mended [] [] z = go-on-same []
all-mended [] (m ∷ ms) z = absurd z
all-mended (k ∷ ks) [] z = absurd z
all-mended (k ∷ ks) (m ∷ ms) z = go-on-more k m ks ms (mended-front k m z.0) (all-mended ks ms z.1)

-- one list is exchanged
set-on : (parts : List Held) (k : ℕ) (h : Held) → IsFront (list_at parts k) h.list → GoOn parts (slice_set parts k h)
set-on [] k h f = go-on-same []
set-on (p ∷ ps) zero h f = go-on-more p h ps ps f (go-on-same ps)
set-on (p ∷ ps) (suc k) h f = go-on-more p p ps (slice_set ps k h) (front-same p.list) (set-on ps k h f)

set-there : (parts : List Held) (k : ℕ) (h : Held) → k < length parts → list_at (slice_set parts k h) k ≡ h.list
set-there [] k h inside = absurd (omega arith)
set-there (p ∷ ps) zero h inside = refl
set-there (p ∷ ps) (suc k) h inside = set-there ps k h (let more : suc k < suc (length ps) = inside in omega arith)

list-there : (parts : List Held) (k : ℕ) → part_at (lists_of parts) k ≡ list_at parts k
list-there [] k = refl
list-there (p ∷ ps) zero = refl
list-there (p ∷ ps) (suc k) = list-there ps k

-- ---- what a worker's requests put

with-front : (v : Verdict) (h : List Record) (put : Option Record) → IsFront h (list_with v h put)
with-front (Denied r) h put = front-same h
with-front (Repeated l r) h put = front-same h
with-front Granted h put = front-put h (option_to_list put)

or-front : {A : Type 0} (f : A → List Record) (o : Option A) (h : List Record) → ((x : A) → IsFront h (f x)) → IsFront h (unwrap_or (option_map f o) h)
or-front f None h each = front-same h
or-front f (Some x) h each = each x

if-front : (b : Bool) (h l : List Record) → IsFront h l → IsFront h (cond b h l)
if-front true h l f = front-same h
if-front false h l f = f

after-front : (c h : List Record) (now : ℕ) (user : User) (asked : Ask) (x : Request) → IsFront h (after_by c h now user asked x)
after-front c h now user asked (request.Work job shard) = or-front (work_after h now user.number) (catalog.job c job) h (λ (j : Job). front-put h (option_to_list (put_by_job h now user.number j)))
after-front c h now user asked x = if-front (asks_catalog x) h (shard_after c h now user asked) (or-front (λ plan. list_after h now user plan asked) (plan_for c h user asked.request) h (λ (plan : Plan). with-front _ h _))

shard-front : (c h : List Record) (now : ℕ) (asked : Ask) → IsFront h (shard_list c h now asked)
shard-front c h now asked = or-front (user_after c h now asked) (catalog.user_of c asked.caller) h (λ (user : User). if-front _ h _ (after-front c h now user asked asked.request))

parts-on : (m : Lists) (now : ℕ) (asked : Ask) (part : Option ℕ) → GoOn m.parts (parts_over m now asked part)
parts-on m now asked None = go-on-same m.parts
parts-on m now asked (Some k) = set-on m.parts k (with_list (shard_list m.records.list (part_list m k) now asked)) (shard-front m.records.list (part_list m k) now asked)

doubts-on : (m : Lists) (now : ℕ) (asked : Ask) (part : Option ℕ) → GoOn m.parts (doubted_parts m now asked part)
doubts-on m now asked None = go-on-same m.parts
doubts-on m now asked (Some k) = set-on m.parts k (doubted (part_list m k) (shard_list m.records.list (part_list m k) now asked)) (front-same (part_list m k))

-- ---- work that is over

number-by : (c : List Record) (number : ℕ) (j : Job) (at : ℕ × ℕ) (o : Option Plan) → option_map (λ (plan : Plan). record { number = number; position = at.0; plan = plan }) o ≡ Some j → j.number ≡ number
number-by c number j at None is = absurd cc
number-by c number j at (Some plan) is = (let same : record { number = number; position = at.0; plan = plan } ≡ j = cc in sym (ap (λ (k : Job). k.number) same))

number-of : (c : List Record) (number : ℕ) (j : Job) (o : Option (ℕ × ℕ)) → option_and_then (catalog.job_with c number) o ≡ Some j → j.number ≡ number
number-of c number j None is = absurd cc
number-of c number j (Some at) is = number-by c number j at _ is

-- ---- the records of targets

abbrev is_of_target : Event → Bool
is_of_target (event.Rebound job a k bound learned) = true
is_of_target (event.Skipped job a k bound newer) = true
is_of_target e = false

abbrev is_if_there : {A : Type 0} → (A → Bool) → Option A → Bool
is_if_there p None = true
is_if_there p (Some x) = p x

map-there : {A B : Type 0} (p : B → Bool) (f : A → B) (o : Option A) → ((x : A) → p (f x) ≡ true) → is_if_there p (option_map f o) ≡ true
map-there p f None each = refl
map-there p f (Some x) each = each x

then-there : {A B : Type 0} (p : B → Bool) (f : A → Option B) (o : Option A) → ((x : A) → is_if_there p (f x) ≡ true) → is_if_there p (option_and_then f o) ≡ true
then-there p f None each = refl
then-there p f (Some x) each = each x

either-target : (b : Bool) (d e : Event) → is_of_target d ≡ true → is_of_target e ≡ true → is_of_target (cond b d e) ≡ true
either-target true d e one other = one
either-target false d e one other = other

target-there : (h : List Record) (j : Job) (t : AttemptId × ℕ) → is_if_there is_of_target (target_event h j t) ≡ true
target-there h j t = then-there is_of_target _ (history.question h t.0 t.1) (λ (old : Question). then-there is_of_target _ (at_place j.plan.slots t.1) (λ (s : Planned).
    map-there is_of_target (λ newer. rebound_or_skipped h j t.0 t.1 s old newer) (at_place j.plan.questions t.1) (λ (newer : Question). either-target (same_shape (shape old) (shape newer)) _ _ refl refl)))

-- none of them tells that a job is done
silent : (l : List Record) (r : Record) (e : Event) → is_of_target e ≡ true → tells_done (reply_by l r e) ≡ false
silent l r (event.Rebound job a k bound learned) of = refl
silent l r (event.Skipped job a k bound newer) of = refl
silent l r e of = absurd cc

-- ---- work that is over

or-true : (b : Bool) → (b || true) ≡ true
or-true true = refl
or-true false = refl

target-silent : (h : List Record) (r : Record) (p : ℕ) (d : Done) → is_of_target r.event ≡ true → said (h ++ r ∷ []) r ≡ reply.Ok p d → tells_done d ≡ true → ⊥
target-silent h r p d of told tells =
    let said_is : reply_by (h ++ r ∷ []) r r.event ≡ d = cc in
    let quiet : tells_done (reply_by (h ++ r ∷ []) r r.event) ≡ false = silent (h ++ r ∷ []) r r.event of in
    false≢true (sym quiet ∙ ap tells_done said_is ∙ tells)

-- what is told of a job's record is that the job is done only where the record ends it
over-made : (h : List Record) (moment owner : ℕ) (j : Job) (p : ℕ) (d : Done) (o : Option Event) → is_if_there is_of_target o ≡ true
    → let r = record_of_job moment 0 owner (unwrap_or o (event.JobDone j.number j.plan.quiz j.position)) in
    said (h ++ r ∷ []) r ≡ reply.Ok p d → tells_done d ≡ true → history.is_done (h ++ r ∷ []) j.number ≡ true
over-made h moment owner j p d None of told tells =
    rw (list_any-append (history.is_done_in j.number) h (record_of_job moment 0 owner (event.JobDone j.number j.plan.quiz j.position) ∷ []), eq-eqb j.number j.number refl) (or-true _)
over-made h moment owner j p d (Some e) of told tells = absurd (target-silent h (record_of_job moment 0 owner e) p d of told tells)

over-put : (h : List Record) (now : ℕ) (j : Job) (p : ℕ) (d : Done) (t : Option (AttemptId × ℕ)) → let r = put_target h now 0 j t in
    said (h ++ r ∷ []) r ≡ reply.Ok p d → tells_done d ≡ true → history.is_done (h ++ r ∷ []) j.number ≡ true
over-put h now j p d None told tells = over-made h (history.time h 0 now) 0 j p d None refl told tells
over-put h now j p d (Some t) told tells = over-made h (history.time h t.0.user now) t.0.user j p d (target_event h j t) (target-there h j t) told tells

over-by : (h : List Record) (now : ℕ) (j : Job) (p : ℕ) (d : Done) (place : ℕ) (t : Option (AttemptId × ℕ)) (b : Bool) → history.is_done h j.number ≡ b
    → said_of_put h (cond b None (Some (put_target h now 0 j t))) (reply.Ok place (done.AlreadyDone j.number)) ≡ reply.Ok p d → tells_done d ≡ true
    → history.is_done (h ++ option_to_list (cond b None (Some (put_target h now 0 j t)))) j.number ≡ true
over-by h now j p d place t true is told tells = rw (append-nil h) is
over-by h now j p d place t false is told tells = over-put h now j p d t told tells

over : (h : List Record) (now : ℕ) (j : Job) (p : ℕ) (d : Done) → work_answer h now 0 j ≡ reply.Ok p d → tells_done d ≡ true → history.is_done (work_after h now 0 j) j.number ≡ true
over h now j p d told tells = over-by h now j p d _ (first_target h j) (history.is_done h j.number) refl told tells

job-over-by : (c h : List Record) (now job p : ℕ) (d : Done) (o : Option Job) → catalog.job c job ≡ o → unwrap_or (option_map (work_answer h now 0) o) (reply.Refused (refusal.Unknown thing.Job)) ≡ reply.Ok p d → tells_done d ≡ true
    → history.is_done (unwrap_or (option_map (work_after h now 0) o) h) job ≡ true
job-over-by c h now job p d None is told tells = absurd cc
job-over-by c h now job p d (Some j) is told tells = subst (λ (n : ℕ). history.is_done (work_after h now 0 j) n ≡ true) (number-of c job j (at_place (catalog.jobs c) job) is) (over h now j p d told tells)

job-over : (c h : List Record) (now job p : ℕ) (d : Done) → job_answer c h now worker job ≡ reply.Ok p d → tells_done d ≡ true → history.is_done (job_after c h now worker job) job ≡ true
job-over c h now job p d told tells = job-over-by c h now job p d (catalog.job c job) refl told tells

-- no work in a shard that is there finds it missing
never-by : (h : List Record) (put : Option Record) (place : ℕ) (d : Done) → said_of_put h put (reply.Ok place d) ≡ reply.Refused (refusal.Unknown thing.Shard) → ⊥
never-by h None place d told = absurd cc
never-by h (Some r) place d told = absurd cc

never-missing : (h : List Record) (now : ℕ) (o : Option Job) → unwrap_or (option_map (work_answer h now 0) o) (reply.Refused (refusal.Unknown thing.Job)) ≡ reply.Refused (refusal.Unknown thing.Shard) → ⊥
never-missing h now None told = absurd cc
never-missing h now (Some j) told = never-by h (put_by_job h now 0 j) _ _ told

-- ---- what is missing

abbrev missing_first : Bool → Bool → Option Refusal
missing_first no_job no_shard = first_some (first_some (None ∷ when no_job (refusal.Unknown thing.Job) ∷ []) ∷ when no_shard (refusal.Unknown thing.Shard) ∷ [])

-- nothing is missing
record IsThere (no_job no_shard : Bool) (answer told : Reply) : Type 0 where
  job : no_job ≡ false
  shard : no_shard ≡ false
  same : answer ≡ told

there-ok : (no_job no_shard : Bool) (answer : Reply) (p : ℕ) (d : Done) → unwrap_or (option_map reply.Refused (missing_first no_job no_shard)) answer ≡ reply.Ok p d → IsThere no_job no_shard answer (reply.Ok p d)
there-ok true no_shard answer p d told = absurd cc
there-ok false true answer p d told = absurd cc
there-ok false false answer p d told = record { job = refl; shard = refl; same = told }

shard-missing : (no_job no_shard : Bool) (answer : Reply) → unwrap_or (option_map reply.Refused (missing_first no_job no_shard)) answer ≡ reply.Refused (refusal.Unknown thing.Shard) → (answer ≡ reply.Refused (refusal.Unknown thing.Shard) → ⊥) → no_shard ≡ true
shard-missing true no_shard answer told never = absurd cc
shard-missing false true answer told never = refl
shard-missing false false answer told never = absurd (never told)

none-first : (no_job no_shard : Bool) → no_job ≡ false → no_shard ≡ false → is_none (missing_first no_job no_shard) ≡ true
none-first true no_shard job shard = absurd cc
none-first false true job shard = absurd cc
none-first false false job shard = refl

after-there : (no_job : Bool) (h l : List Record) → no_job ≡ false → cond (is_some (first_some (None ∷ when no_job (refusal.Unknown thing.Job) ∷ []))) h l ≡ l
after-there true h l job = absurd cc
after-there false h l job = refl

-- ---- a request that is answered

read-there : (b : Bool) (o : Option ℕ) → b ≡ true → cond b o None ≡ o
read-there true o is = refl
read-there false o is = absurd cc

module _ (m : Lists) (now job shard : ℕ) where
  abbrev records : List Record
  records = m.records.list

  abbrev work_ask : Ask
  work_ask = worker_asks (request.Work job shard)

  abbrev no_job : Bool
  no_job = is_none (at_place (catalog.jobs records) job)

  counts : length (lists_of m.parts) ≡ length m.parts
  counts = length-map m.parts (λ (k : Held). k.list)

  answers-over : (p : ℕ) (d : Done) → IsThere no_job (nat_le (length (lists_of m.parts)) shard) (job_answer records (part_at (lists_of m.parts) shard) now worker job) (reply.Ok p d) → tells_done d ≡ true
      → history.is_done (part_list (lists_over m now work_ask) shard) job ≡ true
  answers-over p d t tells =
      let there : nat_le (length m.parts) shard ≡ false = subst (λ (n : ℕ). nat_le n shard ≡ false) counts t.shard in
      let inside : shard < length m.parts = leb-false (length m.parts) shard there in
      let told : job_answer records (part_list m shard) now worker job ≡ reply.Ok p d = subst (λ (h : List Record). job_answer records h now worker job ≡ reply.Ok p d) (list-there m.parts shard) t.same in
      let over_is : history.is_done (job_after records (part_list m shard) now worker job) job ≡ true = job-over records (part_list m shard) now job p d told tells in
      let after : shard_list records (part_list m shard) now work_ask ≡ job_after records (part_list m shard) now worker job = after-there no_job (part_list m shard) _ t.job in
      let read : part_read m work_ask ≡ Some shard = read-there _ (Some shard) (none-first no_job (nat_le (length m.parts) shard) t.job there) in
      let put : list_at (parts_over m now work_ask (Some shard)) shard ≡ shard_list records (part_list m shard) now work_ask = set-there m.parts shard _ inside in
      subst (λ (part : Option ℕ). history.is_done (list_at (parts_over m now work_ask part) shard) job ≡ true) (sym read) (rw (put, after) over_is)

  worked-over : (p : ℕ) (d : Done) → reply_over m now work_ask ≡ reply.Ok p d → tells_done d ≡ true → history.is_done (part_list (lists_over m now work_ask) shard) job ≡ true
  worked-over p d told tells = answers-over p d (there-ok no_job (nat_le (length (lists_of m.parts)) shard) (job_answer records (part_at (lists_of m.parts) shard) now worker job) p d told) tells

  missing-over : reply_over m now work_ask ≡ reply.Refused (refusal.Unknown thing.Shard) → length (lists_over m now work_ask).parts ≤ shard
  missing-over told =
      let is = shard-missing no_job (nat_le (length (lists_of m.parts)) shard) (job_answer records (part_at (lists_of m.parts) shard) now worker job) told (never-missing (part_at (lists_of m.parts) shard) now (catalog.job records job)) in
      let missing : length (lists_of m.parts) ≤ shard = leb-true (length (lists_of m.parts)) shard is in
      let on = parts-on m now work_ask (part_read m work_ask) in
      omega (arith, missing, counts, on.count)

-- no look at a shard that is there finds it missing
absent-by : (no_shard : Bool) (place : ℕ) (d : Done) → unwrap_or (option_map reply.Refused (first_some (first_some (None ∷ None ∷ []) ∷ when no_shard (refusal.Unknown thing.Shard) ∷ []))) (reply.Ok place d) ≡ reply.Refused (refusal.Unknown thing.Shard)
    → no_shard ≡ true
absent-by true place d told = refl
absent-by false place d told = absurd cc

absent-over : (m : Lists) (now shard : ℕ) (attempt : AttemptId) → reply_over m now (worker_asks (request.Live shard attempt)) ≡ reply.Refused (refusal.Unknown thing.Shard)
    → length (lists_over m now (worker_asks (request.Live shard attempt))).parts ≤ shard
absent-over m now shard attempt told =
    let is = absent-by (nat_le (length (lists_of m.parts)) shard) _ _ told in
    let missing : length (lists_of m.parts) ≤ shard = leb-true (length (lists_of m.parts)) shard is in
    let on = parts-on m now (worker_asks (request.Live shard attempt)) (part_read m (worker_asks (request.Live shard attempt))) in
    let counts : length (lists_of m.parts) ≡ length m.parts = length-map m.parts (λ (k : Held). k.list) in
    omega (arith, missing, counts, on.count)

list-by : (b : Bool) (l : List Record) (k : Held) → l ≡ k.list → (cond b (with_list l) k).list ≡ k.list
list-by true l k same = same
list-by false l k same = refl

counted-over : (m : Lists) (now p count : ℕ) → reply_over m now (worker_asks request.Jobs) ≡ reply.Ok p (done.Jobs count) → count ≡ length (catalog.jobs (lists_over m now (worker_asks request.Jobs)).records.list)
counted-over m now p count told =
    let ask = worker_asks request.Jobs in
    let own : reply.Ok (length m.records.list) (done.Jobs (length (catalog.jobs m.records.list))) ≡ reply.Ok p (done.Jobs count) = told in
    let is : length (catalog.jobs m.records.list) ≡ count = cc in
    let same : (lists_over m now ask).records.list ≡ m.records.list = list-by (reads_catalog m ask) _ m.records (append-nil m.records.list) in
    rw same (sym is)

-- ---- turns

-- a request is answered, or told to have failed outside of the lists, which then go on
turn-of : (m b : Lists) (now : ℕ) (asked : Ask) (r : Reply) → Turn m b now asked r → ((b ≡ lists_over m now asked) × (r ≡ reply_over m now asked)) ⊎ (GoOn m.parts b.parts × (tells_of_outside r ≡ true))
turn-of m b now asked r (answered l n x settled) = inl (refl, refl)
turn-of m b now asked r (put_in_doubt l n x settled puts) = inr (doubts-on l n x (part_read l x), refl)
turn-of m b now asked r (stayed_in_doubt l n x unsettled) = inr (go-on-same l.parts, refl)
turn-of m b now asked r (no_memory l n x) = inr (go-on-same l.parts, refl)

tells-answered : (m : Lists) (now : ℕ) (x : Request) → TellsWorker m (lists_over m now (worker_asks x)) x (reply_over m now (worker_asks x))
tells-answered m now x = record {
  keeps = keeps-by m (lists_over m now (worker_asks x)) (parts-on m now (worker_asks x) (part_read m (worker_asks x)));
  worked = λ job shard p d is told tells. worked x job shard p d is told tells;
  missing = λ job shard is told. missing x job shard is told;
  absent = λ shard attempt is told. absent x shard attempt is told;
  counted = λ p count is told. counted x p count is told;
}
  where
    worked : (x : Request) (job shard p : ℕ) (d : Done) → x ≡ request.Work job shard → reply_over m now (worker_asks x) ≡ reply.Ok p d → tells_done d ≡ true → history.is_done (part_list (lists_over m now (worker_asks x)) shard) job ≡ true
    worked x job shard p d is = subst (λ (y : Request). reply_over m now (worker_asks y) ≡ reply.Ok p d → tells_done d ≡ true → history.is_done (part_list (lists_over m now (worker_asks y)) shard) job ≡ true) (sym is) (worked-over m now job shard p d)

    missing : (x : Request) (job shard : ℕ) → x ≡ request.Work job shard → reply_over m now (worker_asks x) ≡ reply.Refused (refusal.Unknown thing.Shard) → length (lists_over m now (worker_asks x)).parts ≤ shard
    missing x job shard is = subst (λ (y : Request). reply_over m now (worker_asks y) ≡ reply.Refused (refusal.Unknown thing.Shard) → length (lists_over m now (worker_asks y)).parts ≤ shard) (sym is) (missing-over m now job shard)

    absent : (x : Request) (shard : ℕ) (attempt : AttemptId) → x ≡ request.Live shard attempt → reply_over m now (worker_asks x) ≡ reply.Refused (refusal.Unknown thing.Shard) → length (lists_over m now (worker_asks x)).parts ≤ shard
    absent x shard attempt is = subst (λ (y : Request). reply_over m now (worker_asks y) ≡ reply.Refused (refusal.Unknown thing.Shard) → length (lists_over m now (worker_asks y)).parts ≤ shard) (sym is) (absent-over m now shard attempt)

    counted : (x : Request) (p count : ℕ) → x ≡ request.Jobs → reply_over m now (worker_asks x) ≡ reply.Ok p (done.Jobs count) → count ≡ length (catalog.jobs (lists_over m now (worker_asks x)).records.list)
    counted x p count is = subst (λ (y : Request). reply_over m now (worker_asks y) ≡ reply.Ok p (done.Jobs count) → count ≡ length (catalog.jobs (lists_over m now (worker_asks y)).records.list)) (sym is) (counted-over m now p count)

tells-outside : (m b : Lists) (x : Request) (r : Reply) → GoOn m.parts b.parts → tells_of_outside r ≡ true → TellsWorker m b x r
tells-outside m b x r on outside = record {
  keeps = keeps-by m b on;
  worked = λ job shard p d is told tells. absurd (false≢true (sym (ap tells_of_outside told) ∙ outside));
  missing = λ job shard is told. absurd (false≢true (sym (ap tells_of_outside told) ∙ outside));
  absent = λ shard attempt is told. absurd (false≢true (sym (ap tells_of_outside told) ∙ outside));
  counted = λ p count is told. absurd (false≢true (sym (ap tells_of_outside told) ∙ outside));
}

tells-turn : (m b : Lists) (now : ℕ) (x : Request) (r : Reply) → Turn m b now (worker_asks x) r → TellsWorker m b x r
tells-turn m b now x r t = elim (turn-of m b now (worker_asks x) r t) [
  | inl went ↦ subst (λ (d : Lists). TellsWorker m d x r) (sym went.0) (subst (λ (s : Reply). TellsWorker m (lists_over m now (worker_asks x)) x s) (sym went.1) (tells-answered m now x))
  | inr kept ↦ tells-outside m b x r kept.0 kept.1
]

tells-mended : (a m b : Lists) (x : Request) (r : Reply) → KeepsParts a m → TellsWorker m b x r → TellsWorker a b x r
tells-mended a m b x r keeps t = record { keeps = keeps-more a m b keeps t.keeps; worked = t.worked; missing = t.missing; absent = t.absent; counted = t.counted }

pub telling_law : AsksTell
telling_law = record {
  tell = λ a b now x r asks. tells-mended a asks.mended b x r (keeps-by a asks.mended (all-mended a.parts asks.mended.parts asks.mends.parts)) (tells-turn asks.mended b now x r asks.turn);
}

turn-keeps : (m b : Lists) (now : ℕ) (asked : Ask) (r : Reply) → Turn m b now asked r → KeepsParts m b
turn-keeps m b now asked r t = elim (turn-of m b now asked r t) [
  | inl went ↦ subst (λ (d : Lists). KeepsParts m d) (sym went.0) (keeps-by m (lists_over m now asked) (parts-on m now asked (part_read m asked)))
  | inr kept ↦ keeps-by m b kept.0
]

pub keeping_law : AsksKeep
keeping_law = record {
  keep = λ a b now asked r asks. keeps-more a asks.mended b (keeps-by a asks.mended (all-mended a.parts asks.mended.parts asks.mends.parts)) (turn-keeps asks.mended b now asked r asks.turn);
}

-- a desk that answers by the rules, and counts faults, serves workers
pub served_by_rules : {D : Type 0} (lists : D → Lists) (faults : D → ℕ) (answers : D → D → ℕ → Ask → Reply → Type 0)
    → ((a b : D) (now : ℕ) (x : Request) (r : Reply) → answers a b now (worker_asks x) r → Asks (lists a) (lists b) now (worker_asks x) r × CountsFault (faults a) (faults b) r)
    → ServesWorkers lists faults answers
served_by_rules lists faults answers each = record {
  tells = λ a b now x r may answered. telling_law.tell (lists a) (lists b) now x r (each a b now x r answered).0;
  counts = λ a b now x r may answered. (each a b now x r answered).1;
}
