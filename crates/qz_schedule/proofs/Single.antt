-- One turn changes one list at most.
use Rattle.std.proofs.Common.{◌≡◌, ◌⊎◌, inl, inr, ℕ, Bool, true, false, ◌+◌, List, [], ◌∷◌, ◌++◌, Option, Some, None, length, map, refl, ap}
use Rattle.std.specs.Prelude.{◌==◌, if◌then◌else◌, slice_get}
use Rattle.qz_grading.specs.declared.refusal.Refusal.{Refusal}
use Rattle.qz_terms.specs.declared.ask.Ask.{Ask}
use Rattle.qz_terms.specs.declared.record.Record.{Record}
use Rattle.qz_terms.specs.Catalog as catalog
use Rattle.qz_terms.specs.Cause.{missing_attempt, missing_in, missing_shard}
use Rattle.qz_terms.specs.History as history
use Rattle.qz_terms.specs.Serial.{Lists, with_list}
use Rattle.qz_grading.specs.Behaviours.{first_some}
use Rattle.qz_schedule.specs.Worlds.{Answered, Answers, Begins, Drops, ForJob, ForNames, ForPlan, ForQuiz, ForRequest, ForRows, ForUser, GoesOn, Next, Stage, Visit, World, answered, goes_back, held_at, is_older, is_there, lists_in, missing_live, not_there, policy_of, read_or_refused, reading_turn, request_made, row_in, rows_read, second_part, seeing, stage_part, stages, turn_at, turn_by, turn_in, turn_of, turn_with, user_refusal, visitor, with_held}
use Rattle.qz_schedule.proofs.Mending.{held_so}

-- ---- a turn that reads changes none

read-same : (u : World) (k moment : ℕ) (ask : Ask) (v : Visit) (o : Option Refusal) (reading : Visit) → lists_in (read_or_refused u k moment ask v o reading) ≡ lists_in u
read-same u k moment ask v None reading = refl
read-same u k moment ask v (Some r) reading = refl

rows-same : (u : World) (k moment : ℕ) (ask : Ask) (v : Visit) (last : Bool) → lists_in (rows_read u k moment ask v last) ≡ lists_in u
rows-same u k moment ask v true = refl
rows-same u k moment ask v false = refl

reading-same : (u : World) (k moment : ℕ) (ask : Ask) (v : Visit) (l : List Record) (n : ℕ) (stage : Stage) → lists_in (reading_turn u k moment ask v l n stage) ≡ lists_in u
reading-same u k moment ask v l n ForUser = read-same u k moment ask v (user_refusal n (catalog.user_of l ask.caller) ask.request) _
reading-same u k moment ask v l n (ForQuiz a) = read-same u k moment ask v (missing_attempt l (visitor v ask) a) _
reading-same u k moment ask v l n ForPlan = read-same u k moment ask v (missing_in l ask.request) _
reading-same u k moment ask v l n (ForJob number) = read-same u k moment ask v (first_some (missing_in l ask.request ∷ missing_shard n ask.request ∷ [])) (record v { job = catalog.job l number })
reading-same u k moment ask v l n (ForNames quiz) = read-same u k moment ask v (missing_in l ask.request) _
reading-same u k moment ask v l n (ForRows quiz part) = rows-same u k moment ask (record v { rows = v.rows ++ map (row_in l v.names quiz (policy_of v.plan)) (history.takers l quiz) }) (part + 1 == n)
reading-same u k moment ask v l n ForRequest = refl

-- ---- a request's own turn changes its own

made-parts : (u : World) (k moment : ℕ) (ask : Ask) (v : Visit) (l : List Record) (a : Answered) (b : Bool) → (if b then goes_back u k ask v else request_made u k moment ask v None l a).parts ≡ u.parts
made-parts u k moment ask v l a true = refl
made-parts u k moment ask v l a false = refl

made-records : (u : World) (k moment : ℕ) (ask : Ask) (v : Visit) (j : ℕ) (l : List Record) (a : Answered) (b : Bool) → (if b then goes_back u k ask v else request_made u k moment ask v (Some j) l a).records ≡ u.records
made-records u k moment ask v j l a true = refl
made-records u k moment ask v j l a false = refl

second-parts : (u : World) (k moment : ℕ) (ask : Ask) (v : Visit) (l : List Record) (n : ℕ) (stage : Stage) → (second_part u k moment ask v None l n Answers stage).parts ≡ u.parts
second-parts u k moment ask v l n ForRequest = made-parts u k moment ask v l (answered l moment (visitor v ask) v ask ask.request) (is_older l v ask.request)
second-parts u k moment ask v l n stage = ap (λ (a : Lists). a.parts) (reading-same u k moment ask v l n stage)

second-records : (u : World) (k moment : ℕ) (ask : Ask) (v : Visit) (j : ℕ) (l : List Record) (n : ℕ) (stage : Stage) → (second_part u k moment ask v (Some j) l n Answers stage).records ≡ u.records
second-records u k moment ask v j l n ForRequest = made-records u k moment ask v j l (answered l moment (visitor v ask) v ask ask.request) (is_older l v ask.request)
second-records u k moment ask v j l n stage = ap (λ (a : Lists). a.records) (reading-same u k moment ask v l n stage)

abbrev pub OneList : World → World → Type 0
OneList w u = (u.records ≡ w.records) ⊎ (u.parts ≡ w.parts)

one-at : (w : World) (k moment : ℕ) (ask : Ask) (v : Visit) (n : ℕ) (part : Option ℕ) (l : List Record) (o : Option Record) (stage : Stage) → OneList w (turn_at w k moment ask v n Drops Answers part (held_so l o) stage)
one-at w k moment ask v n None l None stage = inr (second-parts (with_held w None (with_list l)) k moment ask (seeing v None l) l n stage)
one-at w k moment ask v n None l (Some x) stage = inr (second-parts (with_held w None (with_list l)) k moment ask (seeing v None l) l n stage)
one-at w k moment ask v n (Some j) l None stage = inl (second-records (with_held w (Some j) (with_list l)) k moment ask (seeing v (Some j) l) j l n stage)
one-at w k moment ask v n (Some j) l (Some x) stage = inl (second-records (with_held w (Some j) (with_list l)) k moment ask (seeing v (Some j) l) j l n stage)

one-not : (w : World) (k moment : ℕ) (ask : Ask) (v : Visit) (o : Option Refusal) → OneList w (not_there w k moment ask v o)
one-not w k moment ask v None = inl refl
one-not w k moment ask v (Some r) = inl refl

one-if : (w a b : World) (test : Bool) → OneList w a → OneList w b → OneList w (if test then a else b)
one-if w a b true one other = one
one-if w a b false one other = other

one-by : (w : World) (k moment : ℕ) (ask : Ask) (v : Visit) (n : ℕ) (o : Option Stage) → OneList w (turn_by w k moment ask v n Drops Answers o)
one-by w k moment ask v n None = inl refl
one-by w k moment ask v n (Some stage) =
    let part = stage_part n (visitor v ask) ask.request stage in
    one-if w (turn_at w k moment ask v n Drops Answers part (held_at w part) stage) (not_there w k moment ask v (missing_live n ask.request)) (is_there n part)
    (one-at w k moment ask v n part (held_at w part).list (held_at w part).doubt stage) (one-not w k moment ask v (missing_live n ask.request))

one-with : (w : World) (k moment : ℕ) (ask : Ask) (v : Visit) (made : ℕ) → OneList w (turn_with w k moment ask v made Drops Answers)
one-with w k moment ask v made = one-by w k moment ask v (length w.parts) (slice_get (stages (length w.parts) ask) made)

one-in : (w : World) (k moment : ℕ) (v : Visit) (next : Next) (o : Option Ask) → OneList w (turn_in w k moment v Drops Answers next o)
one-in w k moment v (Begins ask) None = one-with w k moment ask v 0
one-in w k moment v (Begins ask) (Some other) = inl refl
one-in w k moment v (GoesOn made) None = inl refl
one-in w k moment v (GoesOn made) (Some ask) = one-if w (turn_with w k moment ask v made Drops Answers) w (made == v.made) (one-with w k moment ask v made) (inl refl)

pub one-turn : (w : World) (k moment : ℕ) (next : Next) (o : Option Visit) → OneList w (turn_of w k moment next Drops Answers o)
one-turn w k moment next None = inl refl
one-turn w k moment next (Some v) = one-in w k moment v next v.ask
