-- What a request names that isn't there, or is there, and why it is refused before a shard is read.
use Rattle.std.proofs.Common.{◌≡◌, ℕ, ◌<◌, ◌≤◌, true, false, List, Option, Some, None, refl, arith}
use Rattle.std.specs.Prelude.{is_none, is_some, nat_le, option_and_then}
use Rattle.std.proofs.lemmas.Bool.Decides.{nat_tests}
use Rattle.qz_grading.specs.declared.refusal.AttemptId.{AttemptId}
use Rattle.qz_grading.specs.declared.refusal.Refusal.{Refusal}
use Rattle.qz_grading.specs.declared.refusal.Refusal.TheVariants as refusal
use Rattle.qz_grading.specs.declared.refusal.Thing.TheVariants as thing
use Rattle.qz_grading.specs.Behaviours.{when}
use Rattle.qz_grading.specs.Grading.{at_place}
use Rattle.qz_terms.specs.declared.ask.Ask.{Ask}
use Rattle.qz_terms.specs.declared.people.User.{User}
use Rattle.qz_terms.specs.declared.plan.Job.{Job}
use Rattle.qz_terms.specs.declared.record.Record.{Record}
use Rattle.qz_terms.specs.declared.request.Request.{Request}
use Rattle.qz_terms.specs.declared.request.Request.TheVariants as request
use Rattle.qz_terms.specs.Catalog as catalog
use Rattle.qz_terms.specs.Cause.{forbidden, missing_in}
use Rattle.qz_terms.specs.Legal.{IsLegalCatalog}
use Rattle.qz_terms.specs.SchoolAnswer.{first_refusal, refusal_among}
use Rattle.qz_school.proofs.Working.{working_law}
use Rattle.qz_terms.specs.Catalog.{worker}

-- ---- a shard of this number

pub shard_missing : (n number : ℕ) → n ≤ number → nat_le n number ≡ true
shard_missing n number past = grind (arith, nat_tests)

pub shard_there : (n number : ℕ) → number < n → nat_le n number ≡ false
shard_there n number inside = grind (arith, nat_tests)

-- ---- a request that is refused

pub forbidden_first : (c : List Record) (user : User) (ask : Ask) (r : Refusal) → forbidden user ask.request ≡ Some r → first_refusal c user ask.request ≡ Some r
forbidden_first c user ask r is = rw is refl

-- ---- jobs that are there

present-by : (c : List Record) (number : ℕ) (job : Job) (o : Option (ℕ × ℕ)) → at_place (catalog.jobs c) number ≡ o → option_and_then (catalog.job_with c number) o ≡ Some job → when (is_none o) (refusal.Unknown thing.Job) ≡ None
present-by c number job None is told = absurd cc
present-by c number job (Some x) is told = refl

pub job_present : (c : List Record) (number shard : ℕ) (job : Job) → catalog.job c number ≡ Some job → missing_in c (request.Work number shard) ≡ None
job_present c number shard job told = present-by c number job (at_place (catalog.jobs c) number) refl told

some-none : {A : Type 0} (o : Option A) → is_some o ≡ true → o ≡ None → ⊥
some-none None some none = absurd cc
some-none (Some x) some none = absurd cc

absent-by : (c : List Record) (number shard : ℕ) (o : Option (ℕ × ℕ)) → IsLegalCatalog c → at_place (catalog.jobs c) number ≡ o → catalog.job c number ≡ None → missing_in c (request.Work number shard) ≡ Some (refusal.Unknown thing.Job)
absent-by c number shard None legal is none = rw is refl
absent-by c number shard (Some x) legal is none = absurd (some-none (catalog.job c number) (working_law.there c number shard legal (rw is refl)) none)

pub job_absent : (c : List Record) (number shard : ℕ) → IsLegalCatalog c → catalog.job c number ≡ None → missing_in c (request.Work number shard) ≡ Some (refusal.Unknown thing.Job)
job_absent c number shard legal none = absent-by c number shard (at_place (catalog.jobs c) number) legal refl none

-- ---- a shard that isn't there

pub live_nowhere : (c : List Record) (n : ℕ) (ask : Ask) (user : User) (number : ℕ) (a : AttemptId) → ask.request ≡ request.Live number a → forbidden user ask.request ≡ None → n ≤ number → refusal_among c n user ask.request ≡ Some (refusal.Unknown thing.Shard)
live_nowhere c n ask user number a is may past =
    let free : forbidden user (request.Live number a) ≡ None = rw is at may in
    let missing = shard_missing n number past in
    rw (is, free, missing) refl

pub work_nowhere : (c : List Record) (n : ℕ) (ask : Ask) (user : User) (number shard : ℕ) (job : Job) → ask.request ≡ request.Work number shard → forbidden user ask.request ≡ None → catalog.job c number ≡ Some job → n ≤ shard → refusal_among c n user ask.request ≡ Some (refusal.Unknown thing.Shard)
work_nowhere c n ask user number shard job is may there past =
    let free : forbidden user (request.Work number shard) ≡ None = rw is at may in
    let present = job_present c number shard job there in
    let missing = shard_missing n shard past in
    rw (is, free, present, missing) refl

-- ---- what is left for a worker to ask

jobs-by : (x : Request) → forbidden worker x ≡ None → ((shard : ℕ) (a : AttemptId) → x ≡ request.Live shard a → ⊥) → ((job shard : ℕ) → x ≡ request.Work job shard → ⊥) → ((a : AttemptId) → x ≡ request.Settle a → ⊥) → x ≡ request.Jobs
jobs-by request.Jobs may live work settle = refl
jobs-by (request.Live shard a) may live work settle = absurd (live shard a refl)
jobs-by (request.Work job shard) may live work settle = absurd (work job shard refl)
jobs-by (request.Settle a) may live work settle = absurd (settle a refl)
jobs-by x may live work settle = absurd cc

pub jobs_left : (x : Request) → forbidden worker x ≡ None → ((shard : ℕ) (a : AttemptId) → x ≡ request.Live shard a → ⊥) → ((job shard : ℕ) → x ≡ request.Work job shard → ⊥) → ((a : AttemptId) → x ≡ request.Settle a → ⊥) → x ≡ request.Jobs
jobs_left x may live work settle = jobs-by x may live work settle
