-- What a request of a user at one shard came to, from what its turns came to.
use Rattle.std.proofs.Common.{◌≡◌, ◌⊎◌, inl, inr, ℕ, ◌%◌, Bool, true, false, List, ◌∷◌, [], Some, None, Result, Ok, Err, MatchResult, refl, sym, ap, ◌∙◌, subst, eq-eqb}
use Rattle.qz_catalog.specs.Keeping.{TellsJob, TellsPlan}
use Rattle.qz_catalog_turns.specs.declared.replied.Replied.{Replied}
use Rattle.qz_catalog_turns.specs.Owning.{Leaves, absent}
use Rattle.qz_catalog_turns.specs.Turning.{Fails, TurnCalls, held_of}
use Rattle.qz_grading.specs.declared.refusal.AttemptId.{AttemptId}
use Rattle.qz_grading.specs.declared.refusal.Refusal.{Refusal}
use Rattle.qz_grading.specs.Behaviours.{first_some}
use Rattle.qz_keeper.specs.Lists.{CallEnds, IsSettled, Looks, OneCall}
use Rattle.qz_serial.specs.Calls.{LookEnds, ShardAnswers}
use Rattle.qz_serial.proofs.Composing.{ends_mean, look_ends}
use Rattle.qz_serial.proofs.Workers.{err-is}
use Rattle.qz_shard.specs.Holdings.{Holding}
use Rattle.qz_shard.specs.Keeping.{TellsQuiz}
use Rattle.qz_shard.specs.Works.{IsWorked}
use Rattle.qz_shard_turns.specs.Tying.{HasLooked, SeesMore}
use Rattle.qz_shard_turns.proofs.Tying.{agree-on, looked-self}
use Rattle.qz_school.specs.Planning.{NamesQuiz, grades, starts}
use Rattle.qz_school.proofs.Planning.{absent_means, named_free, plan_there, quiz_free, refused_quiz}
use Rattle.qz_school.proofs.Missing.{job_absent, job_present}
use Rattle.qz_terms.specs.declared.ask.Ask.{Ask}
use Rattle.qz_terms.specs.declared.people.User.{User}
use Rattle.qz_terms.specs.declared.record.Record.{Record}
use Rattle.qz_terms.specs.declared.reply.Reply.{Reply}
use Rattle.qz_terms.specs.declared.reply.Reply.TheVariants as reply
use Rattle.qz_terms.specs.declared.request.Request.{Request}
use Rattle.qz_terms.specs.declared.request.Request.TheVariants as request
use Rattle.qz_terms.specs.Answer.{attempt_named, live_answer}
use Rattle.qz_terms.specs.Catalog as catalog
use Rattle.qz_terms.specs.Cause.{forbidden, missing_quiz, missing_user}
use Rattle.qz_terms.specs.History as history
use Rattle.qz_terms.specs.Legal.{AllAgree, is_here}
use Rattle.qz_terms.specs.SchoolAnswer.{part_of}
use Rattle.qz_visit.specs.Visits.{IsFoundBy, TookTurn}
use Rattle.qz_visit.specs.Ways as way
use Rattle.qz_visit.specs.Ways.{Answered, CameTo, Comes, IsKnownBy, Part, Planned, Seen, Stepped, Tried, refused_with}
use Rattle.qz_visit.proofs.Asking.{untold_split, user_on}
use Rattle.qz_visit.proofs.Owning.{ends_mend, look_is_call}
use Rattle.qz_visit.proofs.Passing.{found_after, found_rested, put_none, took_after, took_sees, took_turned}

-- a user who was seen is seen still
seen-user : (so sn : Seen) (ask : Ask) (user : User) → SeesMore so sn → catalog.user_of so.seen.list ask.caller ≡ Some user → catalog.user_of sn.seen.list ask.caller ≡ Some user
seen-user so sn ask user sees found = user_on so.seen.list sn.seen.list ask.caller user sees.begins.begins found

-- a look at the shard that is its answer, and puts nothing
look-answered : {A : Type 0} (c : List Record) (pn : Part) (now : ℕ) (ask : Ask) (user : User) (refused : Refusal → A) (Says : List Record → A → Type 0) (told : A) (said : Reply) → LookEnds (Fails pn.found pn.seen) refused Says (held_of pn.found) (held_of pn.seen) told
    → (Says pn.seen.list told → ShardAnswers c now user ask pn.seen.list said pn.seen.list) → ((r : Refusal) → told ≡ refused r → said ≡ reply.Refused r) → Answered c now ask user pn (put_none said)
look-answered c pn now ask user refused Says told said ends means same =
    let failed = Fails pn.found pn.seen in
    record {
      call = record {
        mended = held_of pn.seen;
        mends = ends_mend failed refused Says (held_of pn.found) (held_of pn.seen) told ends;
        ends = look_is_call failed refused Says reply.Refused (ShardAnswers c now user ask) (held_of pn.found) (held_of pn.seen) told said ends means same;
      };
      leaves = absent (held_of pn.seen);
    }

-- ---- under the plan of a quiz that the request names

planless-quiz : (so sn : Seen) (po pn : Part) (now : ℕ) (ask : Ask) (user : User) (quiz owner : ℕ) (whole : Bool) (r : Refusal) → catalog.user_of sn.seen.list ask.caller ≡ Some user → forbidden user ask.request ≡ None → NamesQuiz user ask.request quiz owner whole
    → TookTurn so sn → IsFoundBy po pn pn.seen
    → (IsSettled (held_of sn.found) (held_of sn.seen) × (first_some (missing_quiz sn.seen.list quiz ∷ missing_user sn.seen.list owner ∷ []) ≡ Some r)) ⊎ LookEnds (Fails sn.found sn.seen) (λ r. Err r) (λ (_ : List Record) (_ : Result (Unit {0}) Refusal). ⊥) (held_of sn.found) (held_of sn.seen) (Err r)
    → CameTo so sn po pn now ask user (refused_with r)
planless-quiz so sn po pn now ask user quiz owner whole r found may names first second (inl both) =
    way.refused r first both.0 found (refused_quiz sn.seen.list ask.caller user ask.request quiz owner whole r found may names both.1) second refl
planless-quiz so sn po pn now ask user quiz owner whole r found may names first second (inr ends) = way.untold r first ends second refl

pub quiz_came : (so sn : Seen) (po pn : Part) (now : ℕ) (ask : Ask) (user : User) (quiz owner : ℕ) (whole : Bool) (told : Replied) → IsKnownBy so ask user → forbidden user ask.request ≡ None → NamesQuiz user ask.request quiz owner whole
    → Planned so sn po pn now ask user quiz owner whole told → CameTo so sn po pn now ask user told
quiz_came so sn po pn now ask user quiz owner whole told known may names (way.under p first mended plan second is) =
    let found = seen-user so sn ask user (took_sees so sn first) known.found in
    way.answered first mended found (quiz_free sn.seen.list ask.caller user ask.request quiz owner whole found may names plan.there) second is
quiz_came so sn po pn now ask user quiz owner whole told known may names (way.planless r first untold second clear is) =
    let found = seen-user so sn ask user (took_sees so sn first) known.found in
    subst (CameTo so sn po pn now ask user) (sym is)
    (planless-quiz so sn po pn now ask user quiz owner whole r found may names first second (untold_split (Fails sn.found sn.seen) (TellsPlan quiz owner whole) (held_of sn.found) (held_of sn.seen) r untold))

-- ---- of an attempt

abbrev over : List Record → Holding
over h = record { index = 0; count = 0; records = h }

unfound-answer : (c : List Record) (pn : Part) (now : ℕ) (ask : Ask) (user : User) (attempt : AttemptId) (r : Refusal) → forbidden user ask.request ≡ None → attempt_named ask.request ≡ Some attempt
    → OneCall (Fails pn.found pn.seen) (λ r. Err r) (Looks (TellsQuiz attempt)) (held_of pn.found) (held_of pn.seen) (Err r) → Answered c now ask user pn (refused_with r)
unfound-answer c pn now ask user attempt r may named call =
    let failed = Fails pn.found pn.seen in
    let ends = look_ends failed (λ r. Err r) (TellsQuiz attempt) (held_of pn.found) (held_of pn.seen) (Err r) call in
    look-answered c pn now ask user (λ r. Err r) (TellsQuiz attempt) (Err r) (reply.Refused r) ends
    (λ says. subst (λ (x : Refusal). ShardAnswers c now user ask pn.seen.list (reply.Refused x) pn.seen.list) (sym says.1) (absent_means c (over pn.seen.list) now user ask attempt may named says.0))
    (λ x is. ap reply.Refused (err-is r x is))

-- a catalogue with which the shard agrees has the quiz and the user of an attempt
pub no_missing : {A : Type 0} (sm sn : Seen) (pm : Part) (attempt : AttemptId) (q : ℕ) (r : Refusal) → SeesMore sm sn → AllAgree sm.seen.list pm.seen.list → history.quiz pm.seen.list attempt ≡ Some q
    → first_some (missing_quiz sn.seen.list q ∷ missing_user sn.seen.list attempt.user ∷ []) ≡ Some r → A
no_missing sm sn pm attempt q r sees agree of_quiz first =
    let none : None ≡ Some r = sym (plan_there sn.seen.list pm.seen.list attempt q (agree-on sm.seen.list sn.seen.list pm.seen.list sees.begins.begins agree) of_quiz) ∙ first in
    absurd cc

attempt-planned : (so sm sn : Seen) (po pm pn : Part) (now : ℕ) (ask : Ask) (user : User) (attempt : AttemptId) (q : ℕ) (told : Replied) → catalog.user_of so.seen.list ask.caller ≡ Some user → forbidden user ask.request ≡ None → attempt_named ask.request ≡ Some attempt
    → HasLooked so sm → HasLooked po pm → history.quiz pm.seen.list attempt ≡ Some q → AllAgree sm.seen.list pm.seen.list → Planned sm sn pm pn now ask user q attempt.user false told → CameTo so sn po pn now ask user told
attempt-planned so sm sn po pm pn now ask user attempt q told known may named sees looks of_quiz agree (way.under p first mended plan second is) =
    let whole = took_after so sm sn sees first in
    way.answered whole mended (seen-user so sn ask user (took_sees so sn whole) known) (named_free sn.seen.list (over pn.seen.list) user ask.request attempt may named) (took_after po pm pn looks second) is
attempt-planned so sm sn po pm pn now ask user attempt q told known may named sees looks of_quiz agree (way.planless r first untold second clear is) =
    subst (CameTo so sn po pn now ask user) (sym is)
    (elim (untold_split (Fails sn.found sn.seen) (TellsPlan q attempt.user false) (held_of sn.found) (held_of sn.seen) r untold) [
      | inl both ↦ no_missing sm sn pm attempt q r (took_sees sm sn first) agree of_quiz both.1
      | inr ends ↦ way.untold r (took_after so sm sn sees first) ends (found_after po pm pn pn.seen looks second) refl
    ])

pub attempt_came : (so sn : Seen) (po pn : Part) (now : ℕ) (ask : Ask) (user : User) (attempt : AttemptId) (told : Replied) → catalog.user_of so.seen.list ask.caller ≡ Some user → forbidden user ask.request ≡ None → attempt_named ask.request ≡ Some attempt
    → Tried so sn po pn now ask user attempt told → CameTo so sn po pn now ask user told
attempt_came so sn po pn now ask user attempt told known may named (way.unfound r same second call is) =
    way.answered_alone same (named_free sn.seen.list (over pn.seen.list) user ask.request attempt may named) second (subst (Answered sn.seen.list now ask user pn) (sym is) (unfound-answer sn.seen.list pn now ask user attempt r may named call))
attempt_came so sn po pn now ask user attempt told known may named (way.of_quiz q sm pm sees looks of_quiz clear agree planned) =
    attempt-planned so sm sn po pm pn now ask user attempt q told known may named sees looks of_quiz agree planned

-- ---- the attempts that go on

pub live_came : (P : List Record → Type 0) (so : Seen) (po pn : Part) (now : ℕ) (ask : Ask) (user : User) (shard : ℕ) (attempt : AttemptId) (told : Reply) → ask.request ≡ request.Live shard attempt → forbidden user ask.request ≡ None
    → TurnCalls P reply.Refused (Looks (λ h t. t ≡ live_answer h attempt)) po pn told → CameTo so so po pn now ask user (put_none told)
live_came P so po pn now ask user shard attempt told is may t =
    let failed = Fails pn.found pn.seen in
    let says = λ (h : List Record) (t : Reply). t ≡ live_answer h attempt in
    let free : forbidden user (request.Live shard attempt) ≡ None = rw is at may in
    let ends = look_ends failed reply.Refused says (held_of pn.found) (held_of pn.seen) told t.calls.call in
    way.answered_alone refl (rw (is, free) refl) (took_turned P reply.Refused (Looks says) po pn told t)
    (look-answered so.seen.list pn now ask user reply.Refused says told told ends (λ said. (said ∙ rw (is, free) refl, rw (is, free) refl)) (λ r same. same))

-- ---- a step of a job

-- what the shard does, from its mended list on
pub step_ends : (c : List Record) (pn : Part) (now : ℕ) (ask : Ask) (user : User) (number shard : ℕ) (job : _) (told : Replied) → ask.request ≡ request.Work number shard → forbidden user ask.request ≡ None → catalog.job c number ≡ Some job
    → (call : OneCall (Fails pn.found pn.seen) reply.Refused (λ h t g. IsWorked h now user.number job t g) (held_of pn.found) (held_of pn.seen) told.reply)
    → CallEnds (Fails pn.found pn.seen) reply.Refused (ShardAnswers c now user ask) call.mended (held_of pn.seen) told.reply
step_ends c pn now ask user number shard job told is may there call =
    let failed = Fails pn.found pn.seen in
    let free : forbidden user (request.Work number shard) ≡ None = rw is at may in
    let present = job_present c number shard job there in
    ends_mean failed failed reply.Refused (λ h t g. IsWorked h now user.number job t g) (ShardAnswers c now user ask) call.mended (held_of pn.seen) told.reply (λ why. why)
    (λ t l says. (says.reply ∙ sym (rw (is, free, present, there) refl), says.list ∙ sym (rw (is, free, present, there) refl))) call.ends

step-answer : (c : List Record) (pn : Part) (now : ℕ) (ask : Ask) (user : User) (number shard : ℕ) (job : _) (told : Replied) → ask.request ≡ request.Work number shard → forbidden user ask.request ≡ None → catalog.job c number ≡ Some job
    → (call : OneCall (Fails pn.found pn.seen) reply.Refused (λ h t g. IsWorked h now user.number job t g) (held_of pn.found) (held_of pn.seen) told.reply) → Leaves call.mended (held_of pn.seen) told.own → Answered c now ask user pn told
step-answer c pn now ask user number shard job told is may there call leaves = record {
  call = record { mended = call.mended; mends = call.mends; ends = step_ends c pn now ask user number shard job told is may there call };
  leaves = leaves;
}

pub step_came : (so sn : Seen) (po pn : Part) (now : ℕ) (ask : Ask) (user : User) (number shard : ℕ) (told : Replied) → IsKnownBy so ask user → forbidden user ask.request ≡ None → ask.request ≡ request.Work number shard
    → Stepped so sn po pn now ask user number told → CameTo so sn po pn now ask user told
step_came so sn po pn now ask user number shard told known may is (way.taken job first mended there second call leaves) =
    let free : forbidden user (request.Work number shard) ≡ None = rw is at may in
    let present = job_present sn.seen.list number shard job there.job_is in
    way.answered first mended (seen-user so sn ask user (took_sees so sn first) known.found) (rw (is, free, present) refl) second (step-answer sn.seen.list pn now ask user number shard job told is may there.job_is call leaves)
step_came so sn po pn now ask user number shard told known may is (way.jobless r first untold legal same said) =
    let free : forbidden user (request.Work number shard) ≡ None = rw is at may in
    let rested = subst (λ (p : Part). IsFoundBy po p p.seen) (sym same) (found_rested po po (looked-self po)) in
    subst (CameTo so sn po pn now ask user) (sym said)
    (elim (untold_split (Fails sn.found sn.seen) (TellsJob number) (held_of sn.found) (held_of sn.seen) r untold) [
      | inl both ↦
          let missing = job_absent sn.seen.list number shard legal both.1.1 in
          way.refused r first both.0 (seen-user so sn ask user (took_sees so sn first) known.found) (rw both.1.0 (rw (is, free, missing) refl)) rested refl
      | inr ends ↦ way.untold r first ends rested refl
    ])

-- ---- of results

pub quiz_comes : (so sn : Seen) (po pn : Part) (now : ℕ) (ask : Ask) (user : User) (quiz owner : ℕ) (whole : Bool) (result : Result Replied Refusal) → IsKnownBy so ask user → forbidden user ask.request ≡ None → NamesQuiz user ask.request quiz owner whole
    → MatchResult result (Planned so sn po pn now ask user quiz owner whole) (λ r. Planned so sn po pn now ask user quiz owner whole (refused_with r)) → Comes so sn po pn now ask user result
quiz_comes so sn po pn now ask user quiz owner whole (Ok told) known may names planned = quiz_came so sn po pn now ask user quiz owner whole told known may names planned
quiz_comes so sn po pn now ask user quiz owner whole (Err r) known may names planned = quiz_came so sn po pn now ask user quiz owner whole (refused_with r) known may names planned

pub attempt_comes : (so sn : Seen) (po pn : Part) (now : ℕ) (ask : Ask) (user : User) (attempt : AttemptId) (result : Result Replied Refusal) → catalog.user_of so.seen.list ask.caller ≡ Some user → forbidden user ask.request ≡ None → attempt_named ask.request ≡ Some attempt
    → MatchResult result (Tried so sn po pn now ask user attempt) (λ r. Tried so sn po pn now ask user attempt (refused_with r)) → Comes so sn po pn now ask user result
attempt_comes so sn po pn now ask user attempt (Ok told) known may named tried = attempt_came so sn po pn now ask user attempt told known may named tried
attempt_comes so sn po pn now ask user attempt (Err r) known may named tried = attempt_came so sn po pn now ask user attempt (refused_with r) known may named tried

pub step_comes : (so sn : Seen) (po pn : Part) (now : ℕ) (ask : Ask) (user : User) (number shard : ℕ) (result : Result Replied Refusal) → IsKnownBy so ask user → forbidden user ask.request ≡ None → ask.request ≡ request.Work number shard
    → MatchResult result (Stepped so sn po pn now ask user number) (λ r. Stepped so sn po pn now ask user number (refused_with r)) → Comes so sn po pn now ask user result
step_comes so sn po pn now ask user number shard (Ok told) known may is stepped = step_came so sn po pn now ask user number shard told known may is stepped
step_comes so sn po pn now ask user number shard (Err r) known may is stepped = step_came so sn po pn now ask user number shard (refused_with r) known may is stepped

-- the user whose plan is asked for belongs to the shard
pub quiz_here : (user : User) (x : Request) (quiz owner index count : ℕ) (whole : Bool) → NamesQuiz user x quiz owner whole → part_of count user x ≡ index → is_here index count owner ≡ true
quiz_here user x quiz owner index count whole (starts is own all) part =
    let here : user.number % count ≡ index = subst (λ (y : Request). part_of count user y ≡ index) is part in
    eq-eqb (owner % count) index (ap (λ (u : ℕ). u % count) own ∙ here)
quiz_here user x quiz owner index count whole (grades is lean_one) part =
    let here : owner % count ≡ index = subst (λ (y : Request). part_of count user y ≡ index) is part in
    eq-eqb (owner % count) index here
