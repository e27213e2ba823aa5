-- What may be asked of a school, and what a request comes to: at one shard, and in all.
use Rattle.std.specs.Prelude.{◌≡◌, ℕ, ◌≤◌, true, List, [], length, unwrap_or, None, Result, Err, MatchResult}
use Rattle.qz_terms.specs.declared.limits.TheConstants.{LONGEST_KEY}
use Rattle.qz_grading.specs.declared.refusal.Refusal.{Refusal}
use Rattle.qz_keeper.specs.Lists.{Looks, OneCall}
use Rattle.qz_keeper.specs.Recording.{GoesOn, HasFailed}
use Rattle.qz_record.specs.Lengths.{NamesBriefly}
use Rattle.qz_serial.specs.Once.{AskedOnce}
use Rattle.qz_shard.specs.Holdings.{IsAsked, StartsHere, older}
use Rattle.qz_shard.specs.Keeping as part
use Rattle.qz_terms.specs.declared.ask.Ask.{Ask}
use Rattle.qz_terms.specs.declared.people.User.{User}
use Rattle.qz_terms.specs.declared.plan.Plan.{Plan}
use Rattle.qz_terms.specs.declared.record.Record.{Record}
use Rattle.qz_terms.specs.declared.reply.Reply.{Reply}
use Rattle.qz_terms.specs.declared.reply.Reply.TheVariants as reply
use Rattle.qz_terms.specs.Cause.{is_keyed}
use Rattle.qz_terms.specs.Kept.{KeepsAsked, asks_described, is_moment}
use Rattle.qz_school.specs.Solos.{Fails, GoOn, School, lists_in}

-- ---- what may be asked

-- By whomever, whatever has a key where it has to, with all in range, and no longer than what a keeper takes.
pub record MayBeAsked (ask : Ask) (moment : ℕ) : Type 0 where
  pub keyed : is_keyed ask ≡ true
  pub kept : KeepsAsked ask.request
  pub described : asks_described ask.request ≡ true
  pub moment_kept : is_moment moment ≡ true
  pub brief : length (unwrap_or ask.key []) ≤ LONGEST_KEY
  pub names : NamesBriefly ask.request

-- ---- at one shard

-- A request may be answered under this plan over this list, and isn't older than a job that is done there.
pub record IsPosed (index count : ℕ) (user : User) (plan : Plan) (ask : Ask) (moment : ℕ) (h : List Record) : Type 0 where
  pub asked : IsAsked h plan ask moment
  pub here : StartsHere (record { index = index; count = count; records = h }) user plan ask.request
  pub newer : older h plan ask.request ≡ None

-- What a call at a shard comes to: its list, the same shard, and its keeper.
pub record PartAnswers {K : Type 0} (sound : K → Type 0) (faults : K → ℕ) (Answers : List Record → Reply → List Record → Type 0) (old new : part.Keeping K) (told : Reply) : Type 0 where
  pub call : OneCall (HasFailed (sound old.keeper) (faults old.keeper) (faults new.keeper)) reply.Refused Answers old.held new.held told
  pub same : part.IsSamePart old new
  pub goes_on : GoesOn (sound old.keeper) (sound new.keeper) (faults old.keeper) (faults new.keeper)

-- the same of a call that only looks, whose error is a refusal
pub record PartLooks {K A : Type 0} (sound : K → Type 0) (faults : K → ℕ) (Says : List Record → Result A Refusal → Type 0) (old new : part.Keeping K) (told : Result A Refusal) : Type 0 where
  pub call : OneCall (HasFailed (sound old.keeper) (faults old.keeper) (faults new.keeper)) (λ r. Err r) (Looks Says) old.held new.held told
  pub same : part.IsSamePart old new
  pub goes_on : GoesOn (sound old.keeper) (sound new.keeper) (faults old.keeper) (faults new.keeper)

-- of an answer, whose error is a refusal
abbrev pub PartTells : {K : Type 0} → (K → Type 0) → (K → ℕ) → (List Record → Reply → List Record → Type 0) → part.Keeping K → part.Keeping K → Result Reply Refusal → Type 0
PartTells sound faults Answers old new result = MatchResult result (PartAnswers sound faults Answers old new) (λ r. PartAnswers sound faults Answers old new (reply.Refused r))

-- ---- in all

-- A request comes to what it may, and acts once. A keeper is said to have failed only where one did.
pub record IsServed {K : Type 0} (sound : K → Type 0) (faults : K → ℕ) (a b : School K) (now : ℕ) (ask : Ask) (r : Reply) : Type 0 where
  pub once : AskedOnce (Fails sound faults a b) (lists_in a) (lists_in b) now ask r
  pub goes_on : GoOn sound faults a b

abbrev pub Serves : {K : Type 0} → (K → Type 0) → (K → ℕ) → School K → School K → ℕ → Ask → Result Reply Refusal → Type 0
Serves sound faults a b now ask result = MatchResult result (IsServed sound faults a b now ask) (λ r. IsServed sound faults a b now ask (reply.Refused r))
