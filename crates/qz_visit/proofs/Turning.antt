-- What the turns of one request at the catalogue and at one shard came to, put together.
use Rattle.std.proofs.Common.{◌≡◌, ℕ, Bool, List, Option, None, Some, Result, Ok, Err, MatchResult, false, length, refl, sym, ap, ◌∙◌, subst}
use Rattle.qz_catalog.specs.Keeping.{TellsJob, TellsPlan}
use Rattle.qz_catalog_turns.specs.declared.replied.Replied.{Replied}
use Rattle.qz_catalog_turns.specs.Owning.{TurnReplies}
use Rattle.qz_catalog_turns.specs.Turning.{Fails, TurnCalls, held_of}
use Rattle.qz_grading.specs.declared.refusal.AttemptId.{AttemptId}
use Rattle.qz_grading.specs.declared.refusal.Refusal.{Refusal}
use Rattle.qz_grading.specs.declared.refusal.Refusal.TheVariants as refusal
use Rattle.qz_keeper.specs.Lists.{Looks}
use Rattle.qz_serial.specs.Calls as calls
use Rattle.qz_serial.specs.Calls.{ShardAnswers}
use Rattle.qz_serial.proofs.Composing.{look_ends, looks_are_calls}
use Rattle.qz_serial.proofs.Workers.{err-is}
use Rattle.qz_shard.specs.Keeping.{TellsQuiz}
use Rattle.qz_shard.specs.Works.{IsWorked}
use Rattle.qz_shard_turns.specs.Posing.{CanPose}
use Rattle.qz_shard_turns.specs.Tying.{HasLooked, Placed, SeesMore}
use Rattle.qz_school.proofs.Calls.{look_told}
use Rattle.qz_terms.specs.declared.ask.Ask.{Ask}
use Rattle.qz_terms.specs.declared.people.User.{User}
use Rattle.qz_terms.specs.declared.plan.Job.{Job}
use Rattle.qz_terms.specs.declared.plan.Plan.{Plan}
use Rattle.qz_terms.specs.declared.record.Record.{Record}
use Rattle.qz_terms.specs.declared.reply.Done.TheVariants as done
use Rattle.qz_terms.specs.declared.reply.Reply.TheVariants as reply
use Rattle.qz_terms.specs.Answer.{live_answer}
use Rattle.qz_terms.specs.History as history
use Rattle.qz_terms.specs.History.{live_after}
use Rattle.qz_terms.specs.Legal.{AllAgree, IsLegalCatalog}
use Rattle.qz_terms.specs.Serial.{Mended}
use Rattle.qz_turn.specs.Passes.{Lock, Standing}
use Rattle.qz_visit.specs.Visits.{TookTurn}
use Rattle.qz_visit.specs.Ways as way
use Rattle.qz_visit.specs.Ways.{AreTied, MayPlan, Part, Planned, Seen, Stepped, Tried, refused_with}
use Rattle.qz_visit.proofs.Passing.{found_rested, sees_on, took_after, took_turned, turn_looked, turn_sees}
use Rattle.qz_visit.proofs.Planning.{can_pose}

-- ---- under the plan of a quiz

-- the catalogue gave none
pub planned_none : (so s sn : Seen) (po p : Part) (now : ℕ) (ask : Ask) (user : User) (quiz owner : ℕ) (whole : Bool) (r : Refusal) → HasLooked so s → HasLooked po p → (po.seen.doubt ≡ None → p.seen.doubt ≡ None)
    → TurnCalls IsLegalCatalog (λ r. Err r) (Looks (TellsPlan quiz owner whole)) s sn (Err r) → Planned so sn po p now ask user quiz owner whole (refused_with r)
planned_none so s sn po p now ask user quiz owner whole r sees looks clear t =
    way.planless r (took_after so s sn sees (took_turned IsLegalCatalog (λ r. Err r) (Looks (TellsPlan quiz owner whole)) s sn (Err r) t))
    (look_ends (Fails sn.found sn.seen) (λ r. Err r) (TellsPlan quiz owner whole) (held_of sn.found) (held_of sn.seen) (Err r) t.calls.call) (found_rested po p looks) clear refl

-- it gave one, and was mended
pub planned_gave : (so s m : Seen) (quiz owner : ℕ) (whole : Bool) (plan : Plan) → HasLooked so s → TurnCalls IsLegalCatalog (λ r. Err r) (Looks (TellsPlan quiz owner whole)) s m (Ok plan) → TookTurn so m × Mended (held_of m.found) (held_of m.seen)
planned_gave so s m quiz owner whole plan sees t =
    (took_after so s m sees (took_turned IsLegalCatalog (λ r. Err r) (Looks (TellsPlan quiz owner whole)) s m (Ok plan) t), (look_told (Fails m.found m.seen) (TellsPlan quiz owner whole) (held_of m.found) (held_of m.seen) plan t.calls.call).0.mends)

-- it gave so many that no more are asked for
pub planned_short : (so sn : Seen) (po p : Part) (now : ℕ) (ask : Ask) (user : User) (quiz owner : ℕ) (whole : Bool) → TookTurn so sn × Mended (held_of sn.found) (held_of sn.seen) → HasLooked po p → (po.seen.doubt ≡ None → p.seen.doubt ≡ None)
    → Planned so sn po p now ask user quiz owner whole (refused_with refusal.Memory)
planned_short so sn po p now ask user quiz owner whole gave looks clear = way.planless refusal.Memory gave.0 (calls.unlooked gave.1 refl) (found_rested po p looks) clear refl

-- it gave one, and the shard answers under it
pub planned_told : (P : List Record → Type 0) (so s m sn : Seen) (po p pn : Part) (now : ℕ) (ask : Ask) (user : User) (quiz owner : ℕ) (whole : Bool) (plan : Plan) (told : Replied) → HasLooked so s → HasLooked po p
    → TurnCalls IsLegalCatalog (λ r. Err r) (Looks (TellsPlan quiz owner whole)) s m (Ok plan) → sn ≡ m → TurnReplies P reply.Refused (ShardAnswers m.seen.list now user ask) p pn told.reply told.own → Planned so sn po pn now ask user quiz owner whole told
planned_told P so s m sn po p pn now ask user quiz owner whole plan told sees looks t same a =
    let gave = look_told (Fails m.found m.seen) (TellsPlan quiz owner whole) (held_of m.found) (held_of m.seen) plan t.calls.call in
    subst (λ (x : Seen). Planned so x po pn now ask user quiz owner whole told) (sym same)
    (way.under plan (took_after so s m sees (took_turned IsLegalCatalog (λ r. Err r) (Looks (TellsPlan quiz owner whole)) s m (Ok plan) t)) gave.0 gave.1
    (took_after po p pn looks (took_turned P reply.Refused (ShardAnswers m.seen.list now user ask) p pn told.reply a.turn)) (record { call = a.turn.calls.call; leaves = a.leaves }))

pub planned_pose : (so s m : Seen) (po p : Part) (index count : ℕ) (now : ℕ) (ask : Ask) (user : User) (quiz owner : ℕ) (whole : Bool) (plan : Plan) → HasLooked so s → HasLooked po p → MayPlan so.seen.list po.seen.list index count user quiz owner whole ask now
    → TurnCalls IsLegalCatalog (λ r. Err r) (Looks (TellsPlan quiz owner whole)) s m (Ok plan) → CanPose m.seen.list p.seen.list index count user plan ask now
planned_pose so s m po p index count now ask user quiz owner whole plan sees looks may t =
    let gave = look_told (Fails m.found m.seen) (TellsPlan quiz owner whole) (held_of m.found) (held_of m.seen) plan t.calls.call in
    let later = sees_on so s m sees.sees (turn_sees IsLegalCatalog (λ r. Err r) (Looks (TellsPlan quiz owner whole)) s m (Ok plan) t) in
    can_pose so.seen.list m.seen.list po.seen.list p.seen.list index count user quiz owner whole ask now plan may later.begins.begins t.calls.seen_may.without looks.sees.begins.begins gave.1

-- ---- a step of a job

pub stepped_none : (so sn : Seen) (po : Part) (now : ℕ) (ask : Ask) (user : User) (number : ℕ) (r : Refusal) → TurnCalls IsLegalCatalog (λ r. Err r) (Looks (TellsJob number)) so sn (Err r) → Stepped so sn po po now ask user number (refused_with r)
stepped_none so sn po now ask user number r t =
    way.jobless r (took_turned IsLegalCatalog (λ r. Err r) (Looks (TellsJob number)) so sn (Err r) t)
    (look_ends (Fails sn.found sn.seen) (λ r. Err r) (TellsJob number) (held_of sn.found) (held_of sn.seen) (Err r) t.calls.call) t.calls.seen_may.without refl refl

pub stepped_told : (P : List Record → Type 0) (so m sn : Seen) (po pn : Part) (now : ℕ) (ask : Ask) (user : User) (number : ℕ) (job : Job) (told : Replied) → TurnCalls IsLegalCatalog (λ r. Err r) (Looks (TellsJob number)) so m (Ok job) → sn ≡ m
    → TurnReplies P reply.Refused (λ h t g. IsWorked h now user.number job t g) po pn told.reply told.own → Stepped so sn po pn now ask user number told
stepped_told P so m sn po pn now ask user number job told t same w =
    let gave = look_told (Fails m.found m.seen) (TellsJob number) (held_of m.found) (held_of m.seen) job t.calls.call in
    subst (λ (x : Seen). Stepped so x po pn now ask user number told) (sym same)
    (way.taken job (took_turned IsLegalCatalog (λ r. Err r) (Looks (TellsJob number)) so m (Ok job) t) gave.0 gave.1 (took_turned P reply.Refused (λ h t g. IsWorked h now user.number job t g) po pn told.reply w.turn) w.turn.calls.call w.leaves)

-- ---- the attempts that go on

-- a turn that looked, told otherwise
turn-as : {A B K : Type 0} (P : List Record → Type 0) (refused : Refusal → A) (also : Refusal → B) (Says : List Record → A → Type 0) (Others : List Record → B → Type 0) (old new : Standing Record K) (told : A) (said : B) → TurnCalls P refused (Looks Says) old new told
    → (Says new.seen.list told → Others new.seen.list said) → ((r : Refusal) → told ≡ refused r → said ≡ also r) → TurnCalls P also (Looks Others) old new said
turn-as P refused also Says Others old new told said t means same =
    let failed = Fails new.found new.seen in
    record {
      begins = t.begins;
      grows = t.grows;
      calls = record {
        call = (looks_are_calls failed refused Says also (Looks Others)).alone (held_of new.found) (held_of new.seen) told said (look_ends failed refused Says (held_of new.found) (held_of new.seen) told t.calls.call) (λ says. (means says, refl)) same;
        found_may = t.calls.found_may;
        seen_may = t.calls.seen_may;
      };
      numbers = t.numbers;
      lock = t.lock;
      turns = t.turns;
    }

abbrev pub Going : AttemptId → List Record → Result (ℕ × Option AttemptId) Refusal → Type 0
Going attempt h told = told ≡ Ok (length h, live_after h attempt)

going-ok : (h : List Record) (attempt : AttemptId) (place : ℕ) (next : Option AttemptId) → ◌≡◌ {A = Result (ℕ × Option AttemptId) Refusal} (Ok (place, next)) (Ok (length h, live_after h attempt)) → reply.Ok place (done.Live next) ≡ live_answer h attempt
going-ok h attempt place next is =
    let both : (place, next) ≡ (length h, live_after h attempt) = cc in
    let first : place ≡ length h = ap (λ (x : ℕ × Option AttemptId). x.0) both in
    let second : next ≡ live_after h attempt = ap (λ (x : ℕ × Option AttemptId). x.1) both in
    rw (first, second) refl

never-ok : {A : Type 0} (x : ℕ × Option AttemptId) (r : Refusal) → ◌≡◌ {A = Result (ℕ × Option AttemptId) Refusal} (Ok x) (Err r) → A
never-ok x r is = absurd cc

going-err : (h : List Record) (attempt : AttemptId) (r : Refusal) → ◌≡◌ {A = Result (ℕ × Option AttemptId) Refusal} (Err r) (Ok (length h, live_after h attempt)) → reply.Refused r ≡ live_answer h attempt
going-err h attempt r is = absurd cc

pub live_told : {K : Type 0} (P : List Record → Type 0) (attempt : AttemptId) (old new : Standing Record K) (place : ℕ) (next : Option AttemptId) → TurnCalls P (λ r. Err r) (Looks (Going attempt)) old new (Ok (place, next)) → TurnCalls P reply.Refused (Looks (λ h t. t ≡ live_answer h attempt)) old new (reply.Ok place (done.Live next))
live_told P attempt old new place next t =
    turn-as P (λ r. Err r) reply.Refused (Going attempt) (λ h t. t ≡ live_answer h attempt) old new (Ok (place, next)) (reply.Ok place (done.Live next)) t (λ says. going-ok new.seen.list attempt place next says) (λ r is. never-ok (place, next) r is)

pub live_untold : {K : Type 0} (P : List Record → Type 0) (attempt : AttemptId) (old new : Standing Record K) (r : Refusal) → TurnCalls P (λ r. Err r) (Looks (Going attempt)) old new (Err r) → TurnCalls P reply.Refused (Looks (λ h t. t ≡ live_answer h attempt)) old new (reply.Refused r)
live_untold P attempt old new r t =
    turn-as P (λ r. Err r) reply.Refused (Going attempt) (λ h t. t ≡ live_answer h attempt) old new (Err r) (reply.Refused r) t (λ says. going-err new.seen.list attempt r says) (λ x is. ap reply.Refused (err-is r x is))

-- ---- of an attempt

pub tied_on : (records : Lock (Unit {0})) (parts : Lock Placed) (s m : Seen) (p n : Part) → AreTied records parts s p → SeesMore s m → SeesMore p n → AreTied records parts m n
tied_on records parts s m p n tied sees looks = record {
  of_records = record { own = sees.lock ∙ tied.of_records.own; numbered = λ none. tied.of_records.numbered (sym sees.numbers ∙ none) };
  of_part = record { own = looks.lock ∙ tied.of_part.own; numbered = λ none. tied.of_part.numbered (sym looks.numbers ∙ none) };
  tie = tied.tie;
}

pub tried_none : (P : List Record → Type 0) (so sn : Seen) (po pn : Part) (now : ℕ) (ask : Ask) (user : User) (attempt : AttemptId) (r : Refusal) → sn ≡ so → TurnCalls P (λ r. Err r) (Looks (TellsQuiz attempt)) po pn (Err r) → Tried so sn po pn now ask user attempt (refused_with r)
tried_none P so sn po pn now ask user attempt r same t = way.unfound r same (took_turned P (λ r. Err r) (Looks (TellsQuiz attempt)) po pn (Err r) t) t.calls.call refl

-- the shard told its quiz
pub tried_told : (P : List Record → Type 0) (so sm sn : Seen) (po pm pn : Part) (now : ℕ) (ask : Ask) (user : User) (attempt : AttemptId) (q : ℕ) (result : Result Replied Refusal) → HasLooked so sm → TurnCalls P (λ r. Err r) (Looks (TellsQuiz attempt)) po pm (Ok q) → AllAgree sm.seen.list pm.seen.list
    → MatchResult result (Planned sm sn pm pn now ask user q attempt.user false) (λ r. Planned sm sn pm pn now ask user q attempt.user false (refused_with r)) → MatchResult result (Tried so sn po pn now ask user attempt) (λ r. Tried so sn po pn now ask user attempt (refused_with r))
tried_told P so sm sn po pm pn now ask user attempt q (Ok told) sees t agree planned =
    let gave = look_told (Fails pm.found pm.seen) (TellsQuiz attempt) (held_of pm.found) (held_of pm.seen) q t.calls.call in
    way.of_quiz q sm pm sees (turn_looked P (λ r. Err r) (TellsQuiz attempt) po pm (Ok q) t) gave.1 gave.0.no_doubt agree planned
tried_told P so sm sn po pm pn now ask user attempt q (Err r) sees t agree planned =
    let gave = look_told (Fails pm.found pm.seen) (TellsQuiz attempt) (held_of pm.found) (held_of pm.seen) q t.calls.call in
    way.of_quiz q sm pm sees (turn_looked P (λ r. Err r) (TellsQuiz attempt) po pm (Ok q) t) gave.1 gave.0.no_doubt agree planned

pub quiz_told : (P : List Record → Type 0) (po pm : Part) (attempt : AttemptId) (q : ℕ) → TurnCalls P (λ r. Err r) (Looks (TellsQuiz attempt)) po pm (Ok q) → history.quiz pm.seen.list attempt ≡ Some q
quiz_told P po pm attempt q t = (look_told (Fails pm.found pm.seen) (TellsQuiz attempt) (held_of pm.found) (held_of pm.seen) q t.calls.call).1
