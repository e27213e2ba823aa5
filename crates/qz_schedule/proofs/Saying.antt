-- What a school says of a request, by what was found in turn.
use Rattle.std.proofs.Common.{◌≡◌, ℕ, ◌<◌, ◌%◌, true, false, List, [], ◌∷◌, Option, Some, None, length, refl, sym, ap, ◌∙◌}
use Rattle.qz_grading.specs.declared.refusal.AttemptId.{AttemptId}
use Rattle.qz_grading.specs.declared.refusal.Refusal.{Refusal}
use Rattle.qz_grading.specs.declared.refusal.Refusal.TheVariants as refusal
use Rattle.qz_grading.specs.declared.refusal.Thing.TheVariants as thing
use Rattle.qz_grading.specs.Behaviours.{first_some}
use Rattle.qz_school.proofs.Missing.{shard_there}
use Rattle.qz_terms.specs.declared.ask.Ask.{Ask}
use Rattle.qz_terms.specs.declared.people.User.{User}
use Rattle.qz_terms.specs.declared.plan.Plan.{Plan}
use Rattle.qz_terms.specs.declared.record.Record.{Record}
use Rattle.qz_terms.specs.declared.reply.Reply.TheVariants as reply
use Rattle.qz_terms.specs.declared.request.Request.{Request}
use Rattle.qz_terms.specs.declared.request.Request.TheVariants as request
use Rattle.qz_terms.specs.Answer.{attempt_named}
use Rattle.qz_terms.specs.CatalogAnswer.{asks_catalog, catalog_answer}
use Rattle.qz_terms.specs.Catalog as catalog
use Rattle.qz_terms.specs.Cause.{forbidden, missing_attempt, missing_here, missing_in, missing_shard}
use Rattle.qz_terms.specs.SchoolAnswer.{answer_among, answer_by, first_refusal, part_at, part_of, plan_for, refusal_among, school_answer, school_answer_by, shard_answer}
use Rattle.qz_terms.specs.Serial.{is_report}
use Rattle.qz_serial.proofs.Answering.{answered-among, recorded-by}
use Rattle.qz_schedule.specs.Worlds.{missing_live}
use Rattle.qz_schedule.proofs.Attempts.{missing-cause, names-attempt}
use Rattle.qz_schedule.proofs.Knowing.{KnowsUser}

-- ---- who asks

pub unknown-said : (c : List Record) (ps : List (List Record)) (now : ℕ) (ask : Ask) → catalog.user_of c ask.caller ≡ None → reply.Refused refusal.UnknownToken ≡ school_answer c ps now ask
unknown-said c ps now ask none = sym (rw none refl)

pub known-said : (c : List Record) (ps : List (List Record)) (now : ℕ) (ask : Ask) (user : User) → catalog.user_of c ask.caller ≡ Some user → school_answer c ps now ask ≡ school_answer_by c ps now ask user
known-said c ps now ask user found = rw found refl

-- ---- refusals

by-refusal : (c : List Record) (ps : List (List Record)) (now : ℕ) (ask : Ask) (user : User) (r : Refusal) → refusal_among c (length ps) user ask.request ≡ Some r → school_answer_by c ps now ask user ≡ reply.Refused r
by-refusal c ps now ask user r is = rw is refl

pub refused-said : (n : ℕ) (c : List Record) (ps : List (List Record)) (now : ℕ) (ask : Ask) (user : User) (r : Refusal) → length ps ≡ n → catalog.user_of c ask.caller ≡ Some user → refusal_among c n user ask.request ≡ Some r → reply.Refused r ≡ school_answer c ps now ask
refused-said n c ps now ask user r counts found is =
    sym (known-said c ps now ask user found ∙ by-refusal c ps now ask user r (ap (λ (m : ℕ). refusal_among c m user ask.request) counts ∙ is))

pub forbidden-among : (n : ℕ) (c : List Record) (user : User) (x : Request) (r : Refusal) → forbidden user x ≡ Some r → refusal_among c n user x ≡ Some r
forbidden-among n c user x r is = rw is refl

pub missing-among : (n : ℕ) (c : List Record) (user : User) (x : Request) (r : Refusal) → forbidden user x ≡ None → missing_in c x ≡ Some r → refusal_among c n user x ≡ Some r
missing-among n c user x r may is = rw (may, is) refl

either-first : (f m s : Option Refusal) (r : Refusal) → f ≡ None → first_some (m ∷ s ∷ []) ≡ Some r → first_some (first_some (f ∷ m ∷ []) ∷ s ∷ []) ≡ Some r
either-first None None s r may is = is
either-first None (Some t) s r may is = is
either-first (Some t) m s r may is = absurd cc

pub either-among : (n : ℕ) (c : List Record) (user : User) (x : Request) (r : Refusal) → forbidden user x ≡ None → first_some (missing_in c x ∷ missing_shard n x ∷ []) ≡ Some r → refusal_among c n user x ≡ Some r
either-among n c user x r may is = either-first (forbidden user x) (missing_in c x) (missing_shard n x) r may is

pub none-among : (n : ℕ) (c : List Record) (user : User) (x : Request) → forbidden user x ≡ None → missing_in c x ≡ None → missing_shard n x ≡ None → refusal_among c n user x ≡ None
none-among n c user x may there inside = rw (may, there, inside) refl

-- where attempts go on is asked of a shard that isn't there
live-missing : (n : ℕ) (c : List Record) (x : Request) (r : Refusal) → missing_live n x ≡ Some r → (missing_in c x ≡ None) × (missing_shard n x ≡ Some r)
live-missing n c (request.Live shard a) r is = (refl, is)
live-missing n c x r is = absurd cc

pub live-among : (n : ℕ) (c : List Record) (user : User) (x : Request) (r : Refusal) → forbidden user x ≡ None → missing_live n x ≡ Some r → refusal_among c n user x ≡ Some r
live-among n c user x r may is =
    let parts = live-missing n c x r is in
    either-among n c user x r may (rw (parts.0, parts.1) refl)

user-first : (n : ℕ) (c : List Record) (user : User) (x : Request) (r : Refusal) (f m : Option Refusal) → forbidden user x ≡ f → missing_live n x ≡ m → first_some (f ∷ m ∷ []) ≡ Some r → refusal_among c n user x ≡ Some r
user-first n c user x r (Some s) m may live is = let same : Some s ≡ Some r = is in forbidden-among n c user x r (may ∙ same)
user-first n c user x r None (Some s) may live is = let same : Some s ≡ Some r = is in live-among n c user x r may (live ∙ same)
user-first n c user x r None None may live is = absurd cc

pub user-among : (n : ℕ) (c : List Record) (user : User) (x : Request) (r : Refusal) → first_some (forbidden user x ∷ missing_live n x ∷ []) ≡ Some r → refusal_among c n user x ≡ Some r
user-among n c user x r is = user-first n c user x r (forbidden user x) (missing_live n x) refl refl is

first-part : (f m : Option Refusal) → first_some (f ∷ m ∷ []) ≡ None → f ≡ None
first-part None m none = refl
first-part (Some r) m none = absurd cc

pub user-may : (n : ℕ) (user : User) (x : Request) → first_some (forbidden user x ∷ missing_live n x ∷ []) ≡ None → forbidden user x ≡ None
user-may n user x none = first-part (forbidden user x) (missing_live n x) none

-- ---- what isn't refused

by-none : (c : List Record) (ps : List (List Record)) (now : ℕ) (ask : Ask) (user : User) → refusal_among c (length ps) user ask.request ≡ None → school_answer_by c ps now ask user ≡ answer_among c ps now user ask ask.request
by-none c ps now ask user none = rw none refl

pub among-said : (n : ℕ) (c : List Record) (ps : List (List Record)) (now : ℕ) (ask : Ask) (user : User) → length ps ≡ n → catalog.user_of c ask.caller ≡ Some user → refusal_among c n user ask.request ≡ None → school_answer c ps now ask ≡ answer_among c ps now user ask ask.request
among-said n c ps now ask user counts found none =
    known-said c ps now ask user found ∙ by-none c ps now ask user (ap (λ (m : ℕ). refusal_among c m user ask.request) counts ∙ none)

-- it is answered over the list of its shard
pub shard-said : (n : ℕ) (c : List Record) (ps : List (List Record)) (now : ℕ) (ask : Ask) (user : User) (h : List Record) → length ps ≡ n → catalog.user_of c ask.caller ≡ Some user → refusal_among c n user ask.request ≡ None → is_report ask.request ≡ false
    → part_at ps (part_of n user ask.request) ≡ h → school_answer c ps now ask ≡ answer_by c h now user ask ask.request
shard-said n c ps now ask user h counts found none other own =
    among-said n c ps now ask user counts found none
    ∙ answered-among c ps now user ask ask.request other
    ∙ ap (λ (l : List Record). answer_by c l now user ask ask.request) (ap (λ (m : ℕ). part_at ps (part_of m user ask.request)) counts ∙ own)

-- a request to the catalogue is answered as the catalogue says
pub catalog-said : (c : List Record) (ps : List (List Record)) (now : ℕ) (ask : Ask) (user : User) → catalog.user_of c ask.caller ≡ Some user → asks_catalog ask.request ≡ true → school_answer c ps now ask ≡ catalog_answer c now user ask
catalog-said c ps now ask user found of_catalog = known-said c ps now ask user found ∙ (recorded-by c ps now user ask (first_refusal c user ask.request) refl of_catalog found).answer

-- ---- an attempt that isn't there

denied-said : (c h : List Record) (now : ℕ) (user : User) (ask : Ask) (r : Refusal) (o : Option Plan) → plan_for c h user ask.request ≡ o → forbidden user ask.request ≡ None → missing_here h user ask.request ≡ Some r → refusal.Unknown thing.Attempt ≡ r
    → shard_answer c h now user ask ≡ reply.Refused r
denied-said c h now user ask r None plan may here cause = rw plan (ap (λ (s : Refusal). reply.Refused s) cause)
denied-said c h now user ask r (Some p) plan may here cause = rw plan (rw (may, here) refl)

pub attempt-said : (n : ℕ) (c : List Record) (ps : List (List Record)) (now : ℕ) (ask : Ask) (user : User) (a : AttemptId) (h : List Record) (r : Refusal) → length ps ≡ n → KnowsUser c user ask → attempt_named ask.request ≡ Some a
    → part_at ps (a.user % n) ≡ h → missing_attempt h user a ≡ Some r → reply.Refused r ≡ school_answer c ps now ask
attempt-said n c ps now ask user a h r counts knows named own is =
    let m = names-attempt ask.request a named in
    sym (shard-said n c ps now ask user h counts knows.found (none-among n c user ask.request knows.may (m.missing c) (m.inside n)) m.other (ap (part_at ps) (m.part n user) ∙ own)
    ∙ m.answer c h now user ask
    ∙ denied-said c h now user ask r (plan_for c h user ask.request) refl knows.may (m.here h user r is) (missing-cause h user a r is))

-- ---- a shard that is there

pub inside-live : (n shard : ℕ) (a : AttemptId) → shard < n → missing_shard n (request.Live shard a) ≡ None
inside-live n shard a inside = rw (shard_there n shard inside) refl
