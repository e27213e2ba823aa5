-- What a shard answers under a catalogue, and what it leaves.
use Rattle.std.proofs.Common.{◌≡◌, ◌⊎◌, inl, inr, ℕ, Bool, true, false, List, [], ◌∷◌, Option, Some, None, Result, Ok, Err, refl, sym, ap, ◌∙◌, subst, is_some, option_map}
use Rattle.std.specs.Prelude.{if◌then◌else◌, unwrap_or}
use Rattle.qz_catalog.specs.Keeping.{IsPlan}
use Rattle.qz_grading.specs.declared.refusal.AttemptId.{AttemptId}
use Rattle.qz_grading.specs.declared.refusal.Refusal.{Refusal}
use Rattle.qz_grading.specs.declared.refusal.Refusal.TheVariants as refusal
use Rattle.qz_grading.specs.Behaviours.{first_some}
use Rattle.qz_keeper.specs.Lists.{EachMayStand, IsSettled, no_memory}
use Rattle.qz_keeper.specs.Recording.{GoesOn, HasFailed}
use Rattle.qz_keeper.proofs.Calls.{goes_both}
use Rattle.qz_shard.specs.Answering.{IsAnswered}
use Rattle.qz_shard.specs.Keeping as part
use Rattle.qz_terms.specs.declared.ask.Ask.{Ask}
use Rattle.qz_terms.specs.declared.people.User.{User}
use Rattle.qz_terms.specs.declared.plan.Job.{Job}
use Rattle.qz_terms.specs.declared.plan.Plan.{Plan}
use Rattle.qz_terms.specs.declared.record.Record.{Record}
use Rattle.qz_terms.specs.declared.reply.Reply.{Reply}
use Rattle.qz_terms.specs.declared.reply.Reply.TheVariants as reply
use Rattle.qz_terms.specs.declared.request.Request.{Request}
use Rattle.qz_terms.specs.declared.request.Request.TheVariants as request
use Rattle.qz_terms.specs.Answer.{attempt_named, list_after, work_after}
use Rattle.qz_terms.specs.Catalog as catalog
use Rattle.qz_terms.specs.CatalogAnswer.{asks_catalog}
use Rattle.qz_terms.specs.Cause.{forbidden, missing_quiz, missing_user}
use Rattle.qz_terms.specs.History as history
use Rattle.qz_terms.specs.Legal.{AllAgree, IsLegal, IsLegalCatalog}
use Rattle.qz_terms.specs.SchoolAnswer.{after_by, first_refusal, plan_for, shard_after, user_after}
use Rattle.qz_terms.specs.Serial.{Held}
use Rattle.qz_school.proofs.Putting.{agreeing_law}
use Rattle.qz_school.proofs.Working.{working_law}
use Rattle.qz_serial.specs.Calls.{ShardAnswers}
use Rattle.qz_serial.proofs.Composing.{after_settled, calls_mean, look_ends, looks_are_calls}
use Rattle.qz_school.specs.Answering.{IsPosed, MayBeAsked, PartAnswers, PartLooks}
use Rattle.qz_school.specs.Planning.{ArePlanned, IsPlanned}
use Rattle.qz_school.proofs.Calls.{call_stands, look_stands, look_told, means_there, stand_as, stand_both, stands_alone, stands_mended}
use Rattle.qz_school.proofs.Keepers.{failed_then}
use Rattle.qz_school.proofs.Planning.{absent_means, plan_there, planned_means, plans_named}

-- ---- what a shard's answer leaves agrees

-- a shard's list is legal, and agrees with the catalogue
pub record IsTied (c : List Record) (index count : ℕ) (h : List Record) : Type 0 where
  pub legal : IsLegal index count h
  pub agree : AllAgree c h

record IsBy (c : List Record) (user : User) (ask : Ask) : Type 0 where
  legal : IsLegalCatalog c
  found : catalog.user_of c ask.caller ≡ Some user

agrees-plan : (c h : List Record) (now : ℕ) (user : User) (ask : Ask) (o : Option Plan) → IsBy c user ask → AllAgree c h → plan_for c h user ask.request ≡ o → AllAgree c (unwrap_or (option_map (λ plan. list_after h now user plan ask) o) h)
agrees-plan c h now user ask None by agree is = agree
agrees-plan c h now user ask (Some plan) by agree is = agreeing_law.answered c h now user plan ask by.legal agree by.found is

agrees-job : (c h : List Record) (index count now : ℕ) (user : User) (ask : Ask) (number : ℕ) (o : Option Job) → IsBy c user ask → IsTied c index count h → catalog.job c number ≡ o → AllAgree c (unwrap_or (option_map (work_after h now user.number) o) h)
agrees-job c h index count now user ask number None by tied is = tied.agree
agrees-job c h index count now user ask number (Some job) by tied is = working_law.worked c h index count now ask.caller user number job by.legal tied.legal tied.agree by.found is

agrees-shard : (c h : List Record) (now : ℕ) (user : User) (ask : Ask) (b : Bool) → IsBy c user ask → AllAgree c h → AllAgree c (if b then h else shard_after c h now user ask)
agrees-shard c h now user ask true by agree = agree
agrees-shard c h now user ask false by agree = agrees-plan c h now user ask (plan_for c h user ask.request) by agree refl

agrees-by : (c h : List Record) (index count now : ℕ) (user : User) (ask : Ask) (x : Request) → IsBy c user ask → IsTied c index count h → AllAgree c (after_by c h now user ask x)
agrees-by c h index count now user ask (request.Work job shard) by tied = agrees-job c h index count now user ask job (catalog.job c job) by tied refl
agrees-by c h index count now user ask x by tied = agrees-shard c h now user ask (asks_catalog x) by tied.agree

agrees-free : (c h : List Record) (index count now : ℕ) (user : User) (ask : Ask) (b : Bool) → IsBy c user ask → IsTied c index count h → AllAgree c (if b then h else after_by c h now user ask ask.request)
agrees-free c h index count now user ask true by tied = tied.agree
agrees-free c h index count now user ask false by tied = agrees-by c h index count now user ask ask.request by tied

user-agrees : (c h : List Record) (index count now : ℕ) (user : User) (ask : Ask) → IsBy c user ask → IsTied c index count h → AllAgree c (user_after c h now ask user)
user-agrees c h index count now user ask by tied = agrees-free c h index count now user ask (is_some (first_refusal c user ask.request)) by tied

tied-both : (c : List Record) (index count : ℕ) (k : Held) → EachMayStand (IsLegal index count) k → EachMayStand (AllAgree c) k → EachMayStand (IsTied c index count) k
tied-both c index count k legal agree = stand_as (IsTied c index count) (λ h. IsLegal index count h × AllAgree c h) k (λ h both. record { legal = both.0; agree = both.1 }) (stand_both (IsLegal index count) (AllAgree c) k legal agree)

-- so does each list that may stand then
pub answers_agree : {K : Type 0} (sound : K → Type 0) (faults : K → ℕ) (c : List Record) (now : ℕ) (user : User) (ask : Ask) (s g : part.Keeping K) (told : Reply) → IsLegalCatalog c → catalog.user_of c ask.caller ≡ Some user
    → EachMayStand (IsLegal s.index s.count) s.held → EachMayStand (AllAgree c) s.held → PartAnswers sound faults (ShardAnswers c now user ask) s g told → EachMayStand (AllAgree c) g.held
answers_agree sound faults c now user ask s g told legal found own agree call =
    call_stands (HasFailed (sound s.keeper) (faults s.keeper) (faults g.keeper)) reply.Refused (ShardAnswers c now user ask) (AllAgree c) (IsTied c s.index s.count) s.held g.held told (λ h tied. tied.agree)
    (λ h t l tied is. subst (AllAgree c) (sym is.1) (user-agrees c h s.index s.count now user ask (record { legal = legal; found = found }) tied)) (tied-both c s.index s.count s.held own agree) call.call

-- ---- under a plan

pub posed_planned : {K : Type 0} (c : List Record) (s : part.Keeping K) (user : User) (plan : Plan) (ask : Ask) (moment : ℕ) → MayBeAsked ask moment → ArePlanned c s user ask.request plan → EachMayStand (IsPosed s.index s.count user plan ask moment) s.held
posed_planned c s user plan ask moment may planned = stand_as (IsPosed s.index s.count user plan ask moment) (λ h. IsPlanned c (part.shard_over s h) user ask.request plan) s.held
    (λ h p. record {
      asked = record { keyed = may.keyed; of_quiz = p.of_quiz; kept_plan = p.kept; kept_request = may.kept; kept_moment = may.moment_kept };
      here = p.here;
      newer = p.newer;
    }) planned

pub answered_means : {K : Type 0} (sound : K → Type 0) (faults : K → ℕ) (c : List Record) (now : ℕ) (user : User) (plan : Plan) (ask : Ask) (s g : part.Keeping K) (told : Reply) → catalog.user_of c ask.caller ≡ Some user → ArePlanned c s user ask.request plan
    → PartAnswers sound faults (λ h t l. IsAnswered h now user plan ask t l) s g told → PartAnswers sound faults (ShardAnswers c now user ask) s g told
answered_means sound faults c now user plan ask s g told found planned call =
    let failed = HasFailed (sound s.keeper) (faults s.keeper) (faults g.keeper) in
    record {
      call = means_there failed failed reply.Refused (λ h t l. IsAnswered h now user plan ask t l) (ShardAnswers c now user ask) s.held g.held told (λ why. why)
          (stand_as (λ h. (t : Reply) (l : List Record) → IsAnswered h now user plan ask t l → ShardAnswers c now user ask h t l) (λ h. IsPlanned c (part.shard_over s h) user ask.request plan) s.held
          (λ h p t l is. planned_means c (part.shard_over s h) now user plan ask t l found p is) planned) call.call;
      same = call.same;
      goes_on = call.goes_on;
    }

-- ---- a shard that was looked at first

pub same_parts : {K : Type 0} (s m g : part.Keeping K) → part.IsSamePart s m → part.IsSamePart m g → part.IsSamePart s g
same_parts s m g one other = record { index = other.index ∙ one.index; count = other.count ∙ one.count }

-- what is answered then is answered over the list that was mended
pub part_after : {K : Type 0} (sound : K → Type 0) (faults : K → ℕ) (Answers : List Record → Reply → List Record → Type 0) (s m g : part.Keeping K) (told : Reply) → IsSettled s.held m.held → part.IsSamePart s m
    → GoesOn (sound s.keeper) (sound m.keeper) (faults s.keeper) (faults m.keeper) → PartAnswers sound faults Answers m g told → PartAnswers sound faults Answers s g told
part_after sound faults Answers s m g told settled same on call =
    let failed = HasFailed (sound s.keeper) (faults s.keeper) (faults g.keeper) in
    let later = HasFailed (sound m.keeper) (faults m.keeper) (faults g.keeper) in
    record {
      call = after_settled failed reply.Refused Answers s.held m.held g.held told settled
          ((calls_mean later failed reply.Refused Answers Answers).each m.held g.held told (failed_then (sound s.keeper) (sound m.keeper) (faults s.keeper) (faults m.keeper) (faults g.keeper) on) (λ h t l is. is) call.call);
      same = same_parts s m g same call.same;
      goes_on = goes_both (sound s.keeper) (sound m.keeper) (sound g.keeper) (faults s.keeper) (faults m.keeper) (faults g.keeper) on call.goes_on;
    }

-- memory was wanting then
pub part_wants : {K : Type 0} (sound : K → Type 0) (faults : K → ℕ) (Answers : List Record → Reply → List Record → Type 0) (s m : part.Keeping K) → IsSettled s.held m.held → part.IsSamePart s m
    → GoesOn (sound s.keeper) (sound m.keeper) (faults s.keeper) (faults m.keeper) → PartAnswers sound faults Answers s m (reply.Refused refusal.Memory)
part_wants sound faults Answers s m settled same on = record { call = record { mended = m.held; mends = settled.mends; ends = no_memory refl refl }; same = same; goes_on = on }

-- ---- the quiz of an attempt

err-is : {A : Type 0} (r s : Refusal) → ◌≡◌ {A = Result A Refusal} (Err r) (Err s) → r ≡ s
err-is r s e = cc

-- it isn't told: the attempt isn't there, or the call failed
pub quiz_missing : {K : Type 0} (sound : K → Type 0) (faults : K → ℕ) (c : List Record) (now : ℕ) (user : User) (ask : Ask) (a : AttemptId) (s m : part.Keeping K) (r : Refusal) → forbidden user ask.request ≡ None → attempt_named ask.request ≡ Some a
    → PartLooks sound faults (part.TellsQuiz a) s m (Err r) → PartAnswers sound faults (ShardAnswers c now user ask) s m (reply.Refused r)
quiz_missing sound faults c now user ask a s m r may named told =
    let failed = HasFailed (sound s.keeper) (faults s.keeper) (faults m.keeper) in
    let ends = look_ends failed (λ r. Err r) (part.TellsQuiz a) s.held m.held (Err r) told.call in
    record {
      call = (looks_are_calls failed (λ r. Err r) (part.TellsQuiz a) reply.Refused (ShardAnswers c now user ask)).alone s.held m.held (Err r) (reply.Refused r) ends
          (λ says. subst (λ (x : Refusal). ShardAnswers c now user ask m.held.list (reply.Refused x) m.held.list) (sym says.1) (absent_means c (part.shard_over m m.held.list) now user ask a may named says.0))
          (λ x is. ap reply.Refused (err-is r x is));
      same = told.same;
      goes_on = told.goes_on;
    }

-- it is told
pub record QuizFound {K : Type 0} (a : AttemptId) (q : ℕ) (s m : part.Keeping K) : Type 0 where
  pub settled : IsSettled s.held m.held
  pub of_quiz : history.quiz m.held.list a ≡ Some q

pub quiz_found : {K : Type 0} (sound : K → Type 0) (faults : K → ℕ) (a : AttemptId) (s m : part.Keeping K) (q : ℕ) → PartLooks sound faults (part.TellsQuiz a) s m (Ok q) → QuizFound a q s m
quiz_found sound faults a s m q told = let both = look_told (HasFailed (sound s.keeper) (faults s.keeper) (faults m.keeper)) (part.TellsQuiz a) s.held m.held q told.call in record { settled = both.0; of_quiz = both.1 }

pub quiz_agree : {K : Type 0} (sound : K → Type 0) (faults : K → ℕ) (c : List Record) (a : AttemptId) (s m : part.Keeping K) (told : Result ℕ Refusal) → EachMayStand (AllAgree c) s.held → PartLooks sound faults (part.TellsQuiz a) s m told → EachMayStand (AllAgree c) m.held
quiz_agree sound faults c a s m told agree call = look_stands (HasFailed (sound s.keeper) (faults s.keeper) (faults m.keeper)) (λ r. Err r) (part.TellsQuiz a) (AllAgree c) s.held m.held told agree call.call

-- and then the catalogue has a plan of it
pub quiz_planned : {K : Type 0} (c : List Record) (user : User) (x : Request) (a : AttemptId) (q : ℕ) (s m : part.Keeping K) (plan : Plan) → forbidden user x ≡ None → attempt_named x ≡ Some a → QuizFound a q s m → IsPlan c q a.user false plan → ArePlanned c m user x plan
quiz_planned c user x a q s m plan may named found is = stands_alone (λ h. IsPlanned c (part.shard_over m h) user x plan) m.held found.settled.no_doubt (plans_named c (part.shard_over m m.held.list) user x a q plan may named found.of_quiz is)

pub plan_wanting : (c h : List Record) (a : AttemptId) (q : ℕ) (r : Refusal) → AllAgree c h → history.quiz h a ≡ Some q → (r ≡ refusal.Memory) ⊎ (first_some (missing_quiz c q ∷ missing_user c a.user ∷ []) ≡ Some r) → r ≡ refusal.Memory
plan_wanting c h a q r agree of_quiz (inl memory) = memory
plan_wanting c h a q r agree of_quiz (inr first) = let none : None ≡ Some r = sym (plan_there c h a q agree of_quiz) ∙ first in absurd cc

-- what is told under a plan is the answer under it
pub told_answers : {K : Type 0} (sound : K → Type 0) (faults : K → ℕ) (index count now : ℕ) (user : User) (plan : Plan) (ask : Ask) (s g : part.Keeping K) (told : Reply) → part.Replies (HasFailed (sound s.keeper) (faults s.keeper) (faults g.keeper)) (part.IsTold index count now user plan ask) s.held g.held told → part.IsSamePart s g
    → GoesOn (sound s.keeper) (sound g.keeper) (faults s.keeper) (faults g.keeper) → PartAnswers sound faults (λ h t l. IsAnswered h now user plan ask t l) s g told
told_answers sound faults index count now user plan ask s g told call same on =
    let failed = HasFailed (sound s.keeper) (faults s.keeper) (faults g.keeper) in
    record { call = (calls_mean failed failed reply.Refused (part.IsTold index count now user plan ask) (λ h t l. IsAnswered h now user plan ask t l)).each s.held g.held told (λ why. why) (λ h t l is. is.answered) call; same = same; goes_on = on }

-- a catalogue that was mended is legal
pub legal_mended : (old new : Held) → IsSettled old new → EachMayStand IsLegalCatalog old → IsLegalCatalog new.list
legal_mended old new settled legal = (stands_mended IsLegalCatalog old new settled.mends legal).without
