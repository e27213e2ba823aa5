-- The attempts of a shard that go on, and steps of jobs, in a school.
use Rattle.std.proofs.Common.{◌≡◌, ◌⊎◌, inl, inr, ℕ, ◌<◌, true, false, List, Some, None, refl, sym, ◌∙◌}
use Rattle.qz_catalog.specs.Keeping.{IsJob}
use Rattle.qz_grading.specs.declared.refusal.AttemptId.{AttemptId}
use Rattle.qz_grading.specs.declared.refusal.Refusal.{Refusal}
use Rattle.qz_grading.specs.declared.refusal.Refusal.TheVariants as refusal
use Rattle.qz_grading.specs.declared.refusal.Thing.TheVariants as thing
use Rattle.qz_keeper.specs.Lists.{EachMayStand, Looks}
use Rattle.qz_shard.specs.Holdings.{IsWorkable}
use Rattle.qz_shard.specs.Keeping as part
use Rattle.qz_shard.specs.Works.{IsWorked}
use Rattle.qz_terms.specs.declared.ask.Ask.{Ask}
use Rattle.qz_terms.specs.declared.people.User.{User}
use Rattle.qz_terms.specs.declared.plan.Job.{Job}
use Rattle.qz_terms.specs.declared.record.Record.{Record}
use Rattle.qz_terms.specs.declared.reply.Reply.{Reply}
use Rattle.qz_terms.specs.declared.request.Request.{Request}
use Rattle.qz_terms.specs.declared.request.Request.TheVariants as request
use Rattle.qz_terms.specs.Answer.{live_answer}
use Rattle.qz_terms.specs.Catalog as catalog
use Rattle.qz_terms.specs.CatalogAnswer.{asks_catalog}
use Rattle.qz_terms.specs.Cause.{forbidden}
use Rattle.qz_terms.specs.Kept.{is_moment}
use Rattle.qz_terms.specs.Legal.{AllAgree, IsLegal, IsLegalCatalog}
use Rattle.qz_terms.specs.SchoolAnswer.{first_refusal}
use Rattle.qz_school.proofs.Working.{working_law}
use Rattle.qz_serial.specs.Calls.{ShardAnswers}
use Rattle.qz_school.specs.Answering.{PartAnswers}
use Rattle.qz_school.proofs.Calls.{stand_as, stand_both}
use Rattle.qz_solo.proofs.Serving.{GoesTo, part_means}
use Rattle.qz_school.proofs.Missing.{job_absent, job_present, shard_there}

-- ---- the attempts that go on

live-free : (c : List Record) (user : User) (number : ℕ) (a : AttemptId) (x : Request) → x ≡ request.Live number a → forbidden user x ≡ None → first_refusal c user x ≡ None
live-free c user number a x is may =
    let free : forbidden user (request.Live number a) ≡ None = rw is at may in
    rw (is, free) refl

pub live_goes : (c : List Record) (n : ℕ) (ask : Ask) (user : User) (number k : ℕ) (a : AttemptId) → ask.request ≡ request.Live number a → forbidden user ask.request ≡ None → (k ≡ number) × (number < n) → GoesTo c n ask user k
live_goes c n ask user number k a is may there =
    let free : forbidden user (request.Live number a) ≡ None = rw is at may in
    let inside = shard_there n number there.1 in
    record { goes = rw is refl; among = rw (is, free, inside) refl; part_is = rw is (sym there.0) }

pub live_means : {K : Type 0} (sound : K → Type 0) (faults : K → ℕ) (c : List Record) (now : ℕ) (ask : Ask) (user : User) (number : ℕ) (a : AttemptId) (s g : part.Keeping K) (told : Reply) → ask.request ≡ request.Live number a → forbidden user ask.request ≡ None
    → PartAnswers sound faults (Looks (λ h t. t ≡ live_answer h a)) s g told → PartAnswers sound faults (ShardAnswers c now user ask) s g told
live_means sound faults c now ask user number a s g told is may call =
    let free : forbidden user (request.Live number a) ≡ None = rw is at may in
    part_means sound faults (Looks (λ h t. t ≡ live_answer h a)) (ShardAnswers c now user ask) s g told (λ h t l says. (says.0 ∙ rw (is, free) refl, says.1 ∙ rw (is, free) refl)) call

pub job_refused : (c : List Record) (ask : Ask) (user : User) (number shard : ℕ) (r : Refusal) → IsLegalCatalog c → ask.request ≡ request.Work number shard → forbidden user ask.request ≡ None
    → (r ≡ refusal.Memory) ⊎ ((r ≡ refusal.Unknown thing.Job) × (catalog.job c number ≡ None)) → (r ≡ refusal.Memory) ⊎ (first_refusal c user ask.request ≡ Some r)
job_refused c ask user number shard r legal is may (inl memory) = inl memory
job_refused c ask user number shard r legal is may (inr both) =
    let free : forbidden user (request.Work number shard) ≡ None = rw is at may in
    let missing = job_absent c number shard legal both.1 in
    inr (rw both.0 (rw (is, free, missing) refl))

-- ---- a step

pub work_goes : (c : List Record) (n : ℕ) (ask : Ask) (user : User) (number shard k : ℕ) (job : Job) → ask.request ≡ request.Work number shard → forbidden user ask.request ≡ None → catalog.job c number ≡ Some job → (k ≡ shard) × (shard < n) → GoesTo c n ask user k
work_goes c n ask user number shard k job is may there inside =
    let free : forbidden user (request.Work number shard) ≡ None = rw is at may in
    let present = job_present c number shard job there in
    let within = shard_there n shard inside.1 in
    record { goes = rw is refl; among = rw (is, free, present, within) refl; part_is = rw is (sym inside.0) }

pub workable : {K : Type 0} (c : List Record) (number : ℕ) (job : Job) (moment : ℕ) (s : part.Keeping K) → IsLegalCatalog c → IsJob c number job → is_moment moment ≡ true → EachMayStand (AllAgree c) s.held → EachMayStand (IsLegal s.index s.count) s.held → EachMayStand (λ h. IsWorkable h job moment) s.held
workable c number job moment s legal there in_range agree own = stand_as (λ h. IsWorkable h job moment) (λ h. AllAgree c h × IsLegal s.index s.count h) s.held
    (λ h stands. record {
      kept_plan = there.kept;
      known = λ j planned q x slot question learned. working_law.known c h number j job planned q x legal stands.0 there.job_is slot question learned;
      has_slot = working_law.slots c h s.index s.count number job legal stands.1 stands.0 there.job_is;
      kept_moment = in_range;
    }) (stand_both (AllAgree c) (IsLegal s.index s.count) s.held agree own)

pub work_means : {K : Type 0} (sound : K → Type 0) (faults : K → ℕ) (c : List Record) (now : ℕ) (ask : Ask) (user : User) (number shard : ℕ) (job : Job) (s g : part.Keeping K) (told : Reply) → ask.request ≡ request.Work number shard → forbidden user ask.request ≡ None → catalog.job c number ≡ Some job
    → PartAnswers sound faults (λ h t l. IsWorked h now user.number job t l) s g told → PartAnswers sound faults (ShardAnswers c now user ask) s g told
work_means sound faults c now ask user number shard job s g told is may there call =
    let free : forbidden user (request.Work number shard) ≡ None = rw is at may in
    let present = job_present c number shard job there in
    part_means sound faults (λ h t l. IsWorked h now user.number job t l) (ShardAnswers c now user ask) s g told
    (λ h t l says. (says.reply ∙ sym (rw (is, free, present, there) refl), says.list ∙ sym (rw (is, free, present, there) refl))) call

pub live_other : (ask : Ask) (number : ℕ) (a : AttemptId) → ask.request ≡ request.Live number a → asks_catalog ask.request ≡ false
live_other ask number a is = rw is refl

pub work_other : (ask : Ask) (number shard : ℕ) → ask.request ≡ request.Work number shard → asks_catalog ask.request ≡ false
work_other ask number shard is = rw is refl
