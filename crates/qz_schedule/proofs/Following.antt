-- The turns of an ask follow one another.
use Rattle.std.proofs.Common.{◌≡◌, ℕ, zero, suc, ◌+◌, ◌-◌, true, List, [], ◌∷◌, ◌++◌, Option, Some, None, refl, subst, arith}
use Rattle.std.specs.List.{range_with_len}
use Rattle.std.specs.Prelude.{◌==◌, map, slice_get}
use Rattle.qz_terms.specs.declared.ask.Ask.{Ask}
use Rattle.qz_terms.specs.declared.people.Caller.{Caller}
use Rattle.qz_terms.specs.declared.people.Caller.TheVariants as caller
use Rattle.qz_terms.specs.declared.request.Request.{Request}
use Rattle.qz_terms.specs.declared.request.Request.TheVariants as request
use Rattle.qz_terms.specs.Catalog as catalog
use Rattle.qz_terms.specs.Cause.{forbidden, is_keyed, rule_of}
use Rattle.qz_lives.proofs.Keeping.{and-right}
use Rattle.qz_school.specs.Agreement.{is_start}
use Rattle.qz_schedule.specs.Worlds.{ForJob, ForNames, ForPlan, ForQuiz, ForRequest, ForRows, ForUser, Stage, Visit, is_formed, request_stages, stages, user_stage, visitor}
use Rattle.qz_schedule.proofs.Keeping.{Rests}
use Rattle.qz_schedule.proofs.Knowing.{KnowsUser, Ready}

-- ---- which turn follows which

abbrev pub Leads : Stage → Stage → Type 0
Leads ForUser t = ⊥
Leads (ForQuiz a) t = t ≡ ForPlan
Leads ForPlan t = t ≡ ForRequest
Leads (ForJob n) t = t ≡ ForRequest
Leads (ForNames q) t = t ≡ ForRows q 0
Leads (ForRows q k) t = t ≡ ForRows q (k + 1)
Leads ForRequest t = ⊥

abbrev LeadsOn : Stage → List Stage → Type 0
LeadsOn s [] = Unit {0}
LeadsOn s (t ∷ ts) = Leads s t × LeadsOn t ts

abbrev InOrder : List Stage → Type 0
InOrder [] = Unit {0}
InOrder (s ∷ ss) = LeadsOn s ss

leads-same : (s a t b : Stage) → s ≡ a → t ≡ b → Leads s t → Leads a b
leads-same s a t b first second leads = subst (λ (x : Stage). Leads x b) first (subst (λ (y : Stage). Leads s y) second leads)

leads-at : (s : Stage) (ss : List Stage) (m : ℕ) (a b : Stage) → LeadsOn s ss → slice_get (s ∷ ss) m ≡ Some a → slice_get (s ∷ ss) (suc m) ≡ Some b → Leads a b
leads-at s [] zero a b leads one two = absurd cc
leads-at s [] (suc m) a b leads one two = absurd cc
leads-at s (t ∷ ts) zero a b leads one two =
    let first : s ≡ a = cc in
    let second : t ≡ b = cc in
    leads-same s a t b first second leads.0
leads-at s (t ∷ ts) (suc m) a b leads one two = leads-at t ts m a b leads.1 one two

order-at : (ss : List Stage) (m : ℕ) (a b : Stage) → InOrder ss → slice_get ss m ≡ Some a → slice_get ss (suc m) ≡ Some b → Leads a b
order-at [] m a b order one two = absurd cc
order-at (s ∷ ss) m a b order one two = leads-at s ss m a b order one two

rows-order : (q a len : ℕ) → LeadsOn (ForRows q a) (map (ForRows q) (range_with_len (a + 1) len))
rows-order q a zero = tt
rows-order q a (suc len) = (refl, rows-order q (a + 1) len)

names-order : (q len : ℕ) → LeadsOn (ForNames q) (map (ForRows q) (range_with_len 0 len))
names-order q zero = tt
names-order q (suc len) = (refl, rows-order q 0 len)

request-order : (n : ℕ) (x : Request) → InOrder (request_stages n x)
request-order n (request.Report q) = names-order q n
request-order n (request.Work job shard) = (refl, tt)
request-order n (request.Start q) = (refl, tt)
request-order n (request.Grade q u) = (refl, tt)
request-order n (request.Save a k c r) = (refl, (refl, tt))
request-order n (request.Submit a k c r) = (refl, (refl, tt))
request-order n (request.Again a k) = (refl, (refl, tt))
request-order n (request.Finish a) = (refl, (refl, tt))
request-order n (request.Mark a k m) = (refl, (refl, tt))
request-order n (request.Settle a) = (refl, (refl, tt))
request-order n (request.View a k) = (refl, (refl, tt))
request-order n (request.Total a) = (refl, (refl, tt))
request-order n (request.Page a) = (refl, (refl, tt))
request-order n x = tt

-- behind the turn for the user comes the first of the request
abbrev pub Follows : ℕ → Request → Stage → Stage → Type 0
Follows n x ForUser t = slice_get (request_stages n x) 0 ≡ Some t
Follows n x s t = Leads s t

leads-follows : (n : ℕ) (x : Request) (s t : Stage) → Leads s t → Follows n x s t
leads-follows n x ForUser t leads = absurd leads
leads-follows n x (ForQuiz a) t leads = leads
leads-follows n x s t leads = leads

follows-by : (n : ℕ) (who : Caller) (x : Request) (m : ℕ) (s t : Stage) → slice_get (user_stage who ++ request_stages n x) m ≡ Some s → slice_get (user_stage who ++ request_stages n x) (suc m) ≡ Some t → Follows n x s t
follows-by n (caller.Token token) x zero s t one two =
    let first : ForUser ≡ s = cc in
    subst (λ (y : Stage). Follows n x y t) first two
follows-by n (caller.Token token) x (suc m) s t one two = leads-follows n x s t (order-at (request_stages n x) m s t (request-order n x) one two)
follows-by n caller.Worker x m s t one two = leads-follows n x s t (order-at (request_stages n x) m s t (request-order n x) one two)

pub follows : (n : ℕ) (ask : Ask) (m : ℕ) (s t : Stage) → slice_get (stages n ask) m ≡ Some s → slice_get (stages n ask) (m + 1) ≡ Some t → Follows n ask.request s t
follows n ask m s t one two =
    let more : m + 1 ≡ suc m = omega arith in
    follows-by n ask.caller ask.request m s t one (subst (λ (i : ℕ). slice_get (stages n ask) i ≡ Some t) more two)

-- ---- the first turn of a request

abbrev pub asking : Caller → Option (List ℕ) → Request → Ask
asking who key x = record { caller = who; key = key; request = x }

first-by : (n : ℕ) (who : Caller) (key : Option (List ℕ)) (x : Request) (v : Visit) (s : Stage) → KnowsUser v.records (visitor v (asking who key x)) (asking who key x) → v.rows ≡ [] → slice_get (request_stages n x) 0 ≡ Some s → Ready n v (asking who key x) s
first-by n who key (request.Report q) v s knows rows is =
    let same : ForNames q ≡ s = cc in
    subst (Ready n v (asking who key (request.Report q))) same (record { knows = knows; request_is = refl; no_rows = rows })
first-by n who key (request.Work job shard) v s knows rows is =
    let same : ForJob job ≡ s = cc in
    subst (Ready n v (asking who key (request.Work job shard))) same (record { knows = knows; shard = shard; request_is = refl })
first-by n who key (request.Start q) v s knows rows is =
    let same : ForPlan ≡ s = cc in
    subst (Ready n v (asking who key (request.Start q))) same (record { knows = knows; planned = refl; quiz = λ a named. absurd cc })
first-by n who key (request.Grade q u) v s knows rows is =
    let same : ForPlan ≡ s = cc in
    subst (Ready n v (asking who key (request.Grade q u))) same (record { knows = knows; planned = refl; quiz = λ a named. absurd cc })
first-by n who key (request.Save a k c r) v s knows rows is = let same : ForQuiz a ≡ s = cc in subst (Ready n v (asking who key (request.Save a k c r))) same (record { knows = knows; named = refl })
first-by n who key (request.Submit a k c r) v s knows rows is = let same : ForQuiz a ≡ s = cc in subst (Ready n v (asking who key (request.Submit a k c r))) same (record { knows = knows; named = refl })
first-by n who key (request.Again a k) v s knows rows is = let same : ForQuiz a ≡ s = cc in subst (Ready n v (asking who key (request.Again a k))) same (record { knows = knows; named = refl })
first-by n who key (request.Finish a) v s knows rows is = let same : ForQuiz a ≡ s = cc in subst (Ready n v (asking who key (request.Finish a))) same (record { knows = knows; named = refl })
first-by n who key (request.Mark a k m) v s knows rows is = let same : ForQuiz a ≡ s = cc in subst (Ready n v (asking who key (request.Mark a k m))) same (record { knows = knows; named = refl })
first-by n who key (request.Settle a) v s knows rows is = let same : ForQuiz a ≡ s = cc in subst (Ready n v (asking who key (request.Settle a))) same (record { knows = knows; named = refl })
first-by n who key (request.View a k) v s knows rows is = let same : ForQuiz a ≡ s = cc in subst (Ready n v (asking who key (request.View a k))) same (record { knows = knows; named = refl })
first-by n who key (request.Total a) v s knows rows is = let same : ForQuiz a ≡ s = cc in subst (Ready n v (asking who key (request.Total a))) same (record { knows = knows; named = refl })
first-by n who key (request.Page a) v s knows rows is = let same : ForQuiz a ≡ s = cc in subst (Ready n v (asking who key (request.Page a))) same (record { knows = knows; named = refl })
first-by n who key x v s knows rows is =
    let same : ForRequest ≡ s = cc in
    subst (Ready n v (asking who key x)) same (record { knows = knows; other = refl; plans = λ planned. absurd cc; jobs = λ number shard work. absurd cc })

pub first-ready : (n : ℕ) (ask : Ask) (v : Visit) (s : Stage) → KnowsUser v.records (visitor v ask) ask → v.rows ≡ [] → slice_get (request_stages n ask.request) 0 ≡ Some s → Ready n v ask s
first-ready n ask v s knows rows is = first-by n ask.caller ask.key ask.request v s knows rows is

-- ---- an ask begins

worker-may : (x : Request) → (rule_of x == 4) ≡ true → forbidden catalog.worker x ≡ None
worker-may x is = rw is refl

begin-by : (n : ℕ) (who : Caller) (key : Option (List ℕ)) (x : Request) (v : Visit) (s : Stage) → Rests v → is_formed (asking who key x) ≡ true → slice_get (user_stage who ++ request_stages n x) 0 ≡ Some s → Ready n v (asking who key x) s
begin-by n (caller.Token token) key x v s rests formed is =
    let same : ForUser ≡ s = cc in
    subst (Ready n v (asking (caller.Token token) key x)) same rests.rows
begin-by n caller.Worker key x v s rests formed is =
    let rule : (rule_of x == 4) ≡ true = and-right (is_keyed (asking caller.Worker key x)) (rule_of x == 4) formed in
    first-by n caller.Worker key x v s (record { found = rw rests.user refl; may = rw rests.user (worker-may x rule) }) rests.rows is

pub begin-ready : (n : ℕ) (ask : Ask) (v : Visit) (s : Stage) → Rests v → is_formed ask ≡ true → slice_get (stages n ask) 0 ≡ Some s → Ready n v ask s
begin-ready n ask v s rests formed is = begin-by n ask.caller ask.key ask.request v s rests formed is

-- ---- a start goes back to the turn for its plan

back-by : (n : ℕ) (who : Caller) (x : Request) (m : ℕ) (s : Stage) → is_start x ≡ true → slice_get (user_stage who ++ request_stages n x) m ≡ Some ForRequest → slice_get (user_stage who ++ request_stages n x) (m - 1) ≡ Some s → ForPlan ≡ s
back-by n (caller.Token token) (request.Start q) zero s start at is = absurd cc
back-by n (caller.Token token) (request.Start q) (suc zero) s start at is = absurd cc
back-by n (caller.Token token) (request.Start q) (suc (suc zero)) s start at is = let same : ForPlan ≡ s = cc in same
back-by n (caller.Token token) (request.Start q) (suc (suc (suc m))) s start at is = absurd cc
back-by n caller.Worker (request.Start q) zero s start at is = absurd cc
back-by n caller.Worker (request.Start q) (suc zero) s start at is = let same : ForPlan ≡ s = cc in same
back-by n caller.Worker (request.Start q) (suc (suc m)) s start at is = absurd cc
back-by n who x m s start at is = absurd cc

pub back : (n : ℕ) (ask : Ask) (m : ℕ) (s : Stage) → is_start ask.request ≡ true → slice_get (stages n ask) m ≡ Some ForRequest → slice_get (stages n ask) (m - 1) ≡ Some s → ForPlan ≡ s
back n ask m s start at is = back-by n ask.caller ask.request m s start at is
