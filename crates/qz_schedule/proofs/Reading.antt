-- A turn that reads of the user, of an attempt's quiz, of the plan or of the job.
use mathlib.Core.List.{IsPrefix}
use Rattle.std.proofs.Common.{◌≡◌, ℕ, ◌+◌, ◌%◌, true, false, List, [], ◌∷◌, ◌++◌, Option, Some, None, refl, sym, ap, ◌∙◌, subst, append_assoc}
use Rattle.std.specs.Prelude.{is_some, map, option_and_then, slice_get, slice_set, unwrap_or}
use Rattle.qz_grading.specs.declared.refusal.AttemptId.{AttemptId}
use Rattle.qz_grading.specs.declared.refusal.Refusal.{Refusal}
use Rattle.qz_grading.specs.declared.refusal.Refusal.TheVariants as refusal
use Rattle.qz_grading.specs.Behaviours.{first_some}
use Rattle.qz_school.specs.Agreement.{HasQuizReady}
use Rattle.qz_school.proofs.Putting.{older_law}
use Rattle.qz_serial.proofs.Longer.{both-there, staying_law}
use Rattle.qz_terms.specs.declared.ask.Ask.{Ask}
use Rattle.qz_terms.specs.declared.people.User.{User}
use Rattle.qz_terms.specs.declared.record.Record.{Record}
use Rattle.qz_terms.specs.declared.reply.Reply.TheVariants as reply
use Rattle.qz_terms.specs.declared.request.Request.{Request}
use Rattle.qz_terms.specs.declared.request.Request.TheVariants as request
use Rattle.qz_terms.specs.Answer.{attempt_named, named_user}
use Rattle.qz_terms.specs.Catalog as catalog
use Rattle.qz_terms.specs.Cause.{forbidden, missing_attempt, missing_in, missing_shard}
use Rattle.qz_terms.specs.History as history
use Rattle.qz_terms.specs.Legal.{AllAgree}
use Rattle.qz_terms.specs.SchoolAnswer.{part_at, part_of, plan_for, school_answer}
use Rattle.qz_terms.specs.Serial.{Held, is_report}
use Rattle.qz_schedule.specs.Worlds.{ForJob, ForNames, ForPlan, ForQuiz, ForUser, Stage, Visit, World, held_at, is_formed, lists_in, missing_live, planned_quiz, read_or_refused, reading_turn, seeing, stages, user_refusal, visitor}
use Rattle.qz_schedule.proofs.Attempts.{names-attempt, quiz-on, quiz-there}
use Rattle.qz_schedule.proofs.Following.{first-ready, follows}
use Rattle.qz_schedule.proofs.Keeping.{Good, Sees, good-goes-on, good-replied}
use Rattle.qz_schedule.proofs.Knowing.{KnowsUser, MayFind, MayPlan, MayReport, MayWork, ReadsQuiz, Ready, is_planned}
use Rattle.qz_schedule.proofs.Lists.{some-same}
use Rattle.qz_schedule.proofs.Mending.{AtCatalog, AtPart}
use Rattle.qz_schedule.proofs.Saying.{attempt-said, either-among, missing-among, refused-said, unknown-said, user-among, user-may}

-- ---- a longer catalogue knows who asks

pub knows-on : (c d : List Record) (user : User) (ask : Ask) → IsPrefix c d → KnowsUser c user ask → KnowsUser d user ask
knows-on c d user ask p k = record { found = subst (λ (l : List Record). catalog.user_of l ask.caller ≡ Some user) p.1 (staying_law.caller c p.0 ask.caller user k.found); may = k.may }

-- ---- a reading, or a refusal

-- what the next turn needs
abbrev pub NextReady : ℕ → Ask → Visit → Type 0
NextReady n ask v = (s : Stage) → slice_get (stages n ask) (v.made + 1) ≡ Some s → Ready n (record v { ask = Some ask; made = v.made + 1 }) ask s

read : (n : ℕ) (w : World) (k moment : ℕ) (ask : Ask) (u v : Visit) (o : Option Refusal) → Good n w → Sees n (lists_in w) u → Sees n (lists_in w) v → is_formed ask ≡ true
    → ((r : Refusal) → o ≡ Some r → reply.Refused r ≡ school_answer u.records u.parts moment ask) → (o ≡ None → NextReady n ask v) → Good n (read_or_refused w k moment ask u o v)
read n w k moment ask u v (Some r) g before s formed refuses reads =
    good-replied n w k moment ask u u (reply.Refused r) g before (record { seen = record { records = before.begins.records; each = before.begins.each }; answer = λ own. refuses r refl })
read n w k moment ask u v None g before s formed refuses reads =
    good-goes-on n w k ask v g s (record { formed = formed; next = λ t at. reads refl t at })

-- ---- the user

user-by : (n : ℕ) (w : World) (k moment : ℕ) (ask : Ask) (v : Visit) (l : List Record) (o : Option User) → AtCatalog n w v l → is_formed ask ≡ true → slice_get (stages n ask) v.made ≡ Some ForUser → v.rows ≡ [] → catalog.user_of l ask.caller ≡ o
    → Good n (read_or_refused w k moment ask (seeing v None l) (user_refusal n o ask.request) (record (seeing v None l) { user = o }))
user-by n w k moment ask v l None c formed at rows is =
    read n w k moment ask (seeing v None l) (record (seeing v None l) { user = None }) (Some refusal.UnknownToken) c.good c.sees (record { begins = record { records = c.sees.begins.records; each = c.sees.begins.each }; counts = c.sees.counts }) formed
    (λ r same. ap (λ (s : Refusal). reply.Refused s) (sym (some-same refusal.UnknownToken r same)) ∙ unknown-said l v.parts moment ask is)
    (λ none. absurd cc)
user-by n w k moment ask v l (Some user) c formed at rows is =
    read n w k moment ask (seeing v None l) (record (seeing v None l) { user = Some user }) (first_some (forbidden user ask.request ∷ missing_live n ask.request ∷ [])) c.good c.sees
    (record { begins = record { records = c.sees.begins.records; each = c.sees.begins.each }; counts = c.sees.counts }) formed
    (λ r refused. refused-said n l v.parts moment ask user r c.sees.counts is (user-among n l user ask.request r refused))
    (λ none s next. first-ready n ask (record (seeing v None l) { user = Some user; ask = Some ask; made = v.made + 1 }) s (record { found = is; may = user-may n user ask.request none }) rows (follows n ask v.made ForUser s at next))

pub user-turn : (n : ℕ) (w : World) (k moment : ℕ) (ask : Ask) (v : Visit) (l : List Record) → AtCatalog n w v l → is_formed ask ≡ true → slice_get (stages n ask) v.made ≡ Some ForUser → v.rows ≡ [] → Good n (reading_turn w k moment ask (seeing v None l) l n ForUser)
user-turn n w k moment ask v l c formed at rows = user-by n w k moment ask v l (catalog.user_of l ask.caller) c formed at rows refl

-- ---- the quiz of an attempt

one-attempt : (a b : AttemptId) (o : Option AttemptId) → o ≡ Some a → o ≡ Some b → a ≡ b
one-attempt a b o one other = cc

named-planned : (x : Request) (a : AttemptId) → attempt_named x ≡ Some a → is_planned x ≡ true
named-planned (request.Start q) a named = refl
named-planned (request.Grade q u) a named = refl
named-planned x a named = ap is_some named

quiz-read : (n : ℕ) (parts : List (List Record)) (l : List Record) (a : AttemptId) (user : User) → part_at parts (a.user % n) ≡ l → missing_attempt l user a ≡ None → ReadsQuiz n parts (history.quiz l a) a
quiz-read n parts l a user own there =
    let found = quiz-there l user a there in
    record { quiz = found.0; quiz_is = found.1; there = ap (λ (h : List Record). history.quiz h a) own ∙ found.1 }

pub quiz-turn : (n : ℕ) (w : World) (k moment : ℕ) (ask : Ask) (v : Visit) (a : AttemptId) (l : List Record) → AtPart n w v (a.user % n) l → is_formed ask ≡ true → slice_get (stages n ask) v.made ≡ Some (ForQuiz a) → MayFind v.records (visitor v ask) ask a
    → Good n (reading_turn w k moment ask (seeing v (Some (a.user % n)) l) l n (ForQuiz a))
quiz-turn n w k moment ask v a l p formed at may =
    let u : Visit = seeing v (Some (a.user % n)) l in
    read n w k moment ask u (record u { quiz = history.quiz l a }) (missing_attempt l (visitor v ask) a) p.good p.sees (record { begins = record { records = p.sees.begins.records; each = p.sees.begins.each }; counts = p.sees.counts }) formed
    (λ r refused. attempt-said n v.records (slice_set v.parts (a.user % n) l) moment ask (visitor v ask) a l r p.sees.counts may.knows may.named p.own refused)
    (λ there s next. subst (Ready n (record u { quiz = history.quiz l a; ask = Some ask; made = v.made + 1 }) ask) (sym (follows n ask v.made (ForQuiz a) s at next)) (record {
      knows = may.knows;
      planned = named-planned ask.request a may.named;
      quiz = λ b named. subst (ReadsQuiz n (slice_set v.parts (a.user % n) l) (history.quiz l a)) (one-attempt a b (attempt_named ask.request) may.named named) (quiz-read n (slice_set v.parts (a.user % n) l) l a (visitor v ask) p.own there);
    }))

-- ---- the plan

-- of an attempt
attempt-plan : (n : ℕ) (c : List Record) (parts : List (List Record)) (user : User) (v : Visit) (x : Request) (a : AttemptId) (h : List Record) → attempt_named x ≡ Some a → ReadsQuiz n parts v.quiz a → IsPrefix (part_at parts (part_of n user x)) h
    → plan_for c h user x ≡ catalog.plan c (planned_quiz v x) (named_user user x)
attempt-plan n c parts user v x a h named q begins =
    let m = names-attempt x a named in
    let there : history.quiz h a ≡ Some q.quiz = quiz-on (part_at parts (part_of n user x)) h a q.quiz begins (ap (λ (i : ℕ). history.quiz (part_at parts i) a) (m.part n user) ∙ q.there) in
    let own : planned_quiz v x ≡ q.quiz = m.quiz v ∙ ap (λ (o : Option ℕ). unwrap_or o 0) q.quiz_is in
    m.plan c h user
    ∙ ap (λ (o : Option ℕ). option_and_then (λ i. catalog.plan c i a.user) o) there
    ∙ (ap (λ (i : ℕ). catalog.plan c i a.user) (sym own) ∙ ap (λ (i : ℕ). catalog.plan c (planned_quiz v x) i) (sym (m.owner user)))

other-plan : (c h : List Record) (user : User) (v : Visit) (x : Request) → is_planned x ≡ true → attempt_named x ≡ None → plan_for c h user x ≡ catalog.plan c (planned_quiz v x) (named_user user x)
other-plan c h user v (request.Start q) planned none = refl
other-plan c h user v (request.Grade q u) planned none = refl
other-plan c h user v x planned none = absurd cc

plan-by : (n : ℕ) (c : List Record) (parts : List (List Record)) (user : User) (v : Visit) (x : Request) (h : List Record) (o : Option AttemptId) → attempt_named x ≡ o → is_planned x ≡ true → ((a : AttemptId) → attempt_named x ≡ Some a → ReadsQuiz n parts v.quiz a)
    → IsPrefix (part_at parts (part_of n user x)) h → plan_for c h user x ≡ catalog.plan c (planned_quiz v x) (named_user user x)
plan-by n c parts user v x h None named planned quiz begins = other-plan c h user v x planned named
plan-by n c parts user v x h (Some a) named planned quiz begins = attempt-plan n c parts user v x a h named (quiz a named) begins

-- what agrees does so without its last records
agree-before : (c h g : List Record) → IsPrefix h g → AllAgree c g → AllAgree c h
agree-before c h g p all = record { each = λ l r rest e. all.each l r (rest ++ p.0) (sym p.1 ∙ (ap (λ (t : List Record). t ++ p.0) e ∙ append_assoc l (r ∷ rest) p.0)) }

-- the quiz of an attempt that was found is ready in the catalogue
ready-by : (n : ℕ) (c : List Record) (parts : List (List Record)) (user : User) (o : Option ℕ) (x : Request) (h : List Record) → AllAgree c (part_at parts (part_of n user x)) → ((a : AttemptId) → attempt_named x ≡ Some a → ReadsQuiz n parts o a)
    → IsPrefix (part_at parts (part_of n user x)) h → HasQuizReady c h x
ready-by n c parts user o x h all quiz begins =
    subst (λ (l : List Record). HasQuizReady c l x) begins.1
    (older_law.ready c (part_at parts (part_of n user x)) begins.0 x all
    (λ a named. ap is_some (ap (λ (i : ℕ). history.quiz (part_at parts i) a) ((names-attempt x a named).part n user) ∙ (quiz a named).there)))

no-job : (x : Request) (number shard : ℕ) → is_planned x ≡ true → x ≡ request.Work number shard → ⊥
no-job x number shard planned is = let none : false ≡ true = rw is at planned in absurd cc

planned-other : (x : Request) → is_planned x ≡ true → is_report x ≡ false
planned-other (request.Report q) planned = absurd cc
planned-other x planned = refl

pub plan-turn : (n : ℕ) (w : World) (k moment : ℕ) (ask : Ask) (v : Visit) (l : List Record) → AtCatalog n w v l → is_formed ask ≡ true → slice_get (stages n ask) v.made ≡ Some ForPlan → MayPlan n v.records v.parts (visitor v ask) v.quiz ask
    → Good n (reading_turn w k moment ask (seeing v None l) l n ForPlan)
plan-turn n w k moment ask v l c formed at may =
    let u : Visit = seeing v None l in
    let user : User = visitor v ask in
    let x : Request = ask.request in
    let knows = knows-on v.records l user ask c.saw may.knows in
    let i = part_of n user x in
    let here : AllAgree l (held_at w (Some i)).list = subst (λ (h : Held). AllAgree h.list (held_at w (Some i)).list) c.held (c.good.lists.agree i).without in
    let all : AllAgree l (part_at v.parts i) = agree-before l (part_at v.parts i) (held_at w (Some i)).list (c.sees.begins.each i) here in
    read n w k moment ask u (record u { plan = catalog.plan l (planned_quiz u x) (named_user user x) }) (missing_in l x) c.good c.sees (record { begins = record { records = c.sees.begins.records; each = c.sees.begins.each }; counts = c.sees.counts }) formed
    (λ r refused. refused-said n l v.parts moment ask user r c.sees.counts knows.found (missing-among n l user x r knows.may refused))
    (λ there s next. subst (Ready n (record u { plan = catalog.plan l (planned_quiz u x) (named_user user x); ask = Some ask; made = v.made + 1 }) ask) (sym (follows n ask v.made ForPlan s at next)) (record {
      knows = knows;
      other = planned-other x may.planned;
      plans = λ planned. record {
        there = there;
        plan_is = λ h begins. plan-by n l v.parts user u x h (attempt_named x) refl may.planned may.quiz begins;
        ready = λ h begins. ready-by n l v.parts user v.quiz x h all may.quiz begins;
      };
      jobs = λ number shard is. absurd (no-job x number shard may.planned is);
    }))

-- ---- the job

one-number : (a b c d : ℕ) (x : Request) → x ≡ request.Work a b → x ≡ request.Work c d → a ≡ c
one-number a b c d x one other = cc

work-planned : (x : Request) (number shard : ℕ) → x ≡ request.Work number shard → is_planned x ≡ true → ⊥
work-planned x number shard is planned = no-job x number shard planned is

work-other : (x : Request) (number shard : ℕ) → x ≡ request.Work number shard → is_report x ≡ false
work-other x number shard is = rw is refl

pub job-turn : (n : ℕ) (w : World) (k moment : ℕ) (ask : Ask) (v : Visit) (number : ℕ) (l : List Record) → AtCatalog n w v l → is_formed ask ≡ true → slice_get (stages n ask) v.made ≡ Some (ForJob number) → MayWork v.records (visitor v ask) ask number
    → Good n (reading_turn w k moment ask (seeing v None l) l n (ForJob number))
job-turn n w k moment ask v number l c formed at may =
    let u : Visit = seeing v None l in
    let user : User = visitor v ask in
    let x : Request = ask.request in
    let knows = knows-on v.records l user ask c.saw may.knows in
    read n w k moment ask u (record u { job = catalog.job l number }) (first_some (missing_in l x ∷ missing_shard n x ∷ [])) c.good c.sees (record { begins = record { records = c.sees.begins.records; each = c.sees.begins.each }; counts = c.sees.counts }) formed
    (λ r refused. refused-said n l v.parts moment ask user r c.sees.counts knows.found (either-among n l user x r knows.may refused))
    (λ none s next.
    let parts = both-there (missing_in l x) (missing_shard n x) none in
    subst (Ready n (record u { job = catalog.job l number; ask = Some ask; made = v.made + 1 }) ask) (sym (follows n ask v.made (ForJob number) s at next)) (record {
      knows = knows;
      other = work-other x number may.shard may.request_is;
      plans = λ planned. absurd (work-planned x number may.shard may.request_is planned);
      jobs = λ job shard is. record { there = parts.0; inside = parts.1; job_is = ap (catalog.job l) (one-number number may.shard job shard x may.request_is is) };
    }))

-- ---- a report's plan and names

pub names-turn : (n : ℕ) (w : World) (k moment : ℕ) (ask : Ask) (v : Visit) (quiz : ℕ) (l : List Record) → AtCatalog n w v l → is_formed ask ≡ true → slice_get (stages n ask) v.made ≡ Some (ForNames quiz) → MayReport v.records (visitor v ask) v.rows ask quiz
    → Good n (reading_turn w k moment ask (seeing v None l) l n (ForNames quiz))
names-turn n w k moment ask v quiz l c formed at may =
    let u : Visit = seeing v None l in
    let user : User = visitor v ask in
    let x : Request = ask.request in
    let knows = knows-on v.records l user ask c.saw may.knows in
    read n w k moment ask u (record u { plan = catalog.plan l quiz 0; names = map (λ (u : User). u.name) (catalog.users l) }) (missing_in l x) c.good c.sees (record { begins = record { records = c.sees.begins.records; each = c.sees.begins.each }; counts = c.sees.counts }) formed
    (λ r refused. refused-said n l v.parts moment ask user r c.sees.counts knows.found (missing-among n l user x r knows.may refused))
    (λ there s next. subst (Ready n (record u { plan = catalog.plan l quiz 0; names = map (λ (u : User). u.name) (catalog.users l); ask = Some ask; made = v.made + 1 }) ask) (sym (follows n ask v.made (ForNames quiz) s at next)) (record {
      knows = knows;
      request_is = may.request_is;
      there = there;
      plan_is = refl;
      names_are = refl;
      rows_are = may.no_rows;
    }))
