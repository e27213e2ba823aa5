-- A step of a job finds its target's slot.
use Rattle.std.proofs.Common.{◌≡◌, ℕ, ◌<◌, true, false, not, List, Some, option_map, take, refl, ap, ◌∙◌, arith}
use Rattle.std.specs.Prelude.{is_some, nat_lt, unwrap_or}
use Rattle.std.proofs.lemmas.Bool.{ltb-true}
use Rattle.qz_grading.specs.declared.question.Question.{Question}
use Rattle.qz_grading.specs.declared.refusal.AttemptId.{AttemptId}
use Rattle.qz_grading.specs.Grading.{at_place}
use Rattle.qz_terms.specs.declared.plan.Bound.{Bound}
use Rattle.qz_terms.specs.declared.plan.Job.{Job}
use Rattle.qz_terms.specs.declared.plan.Planned.{Planned}
use Rattle.qz_terms.specs.declared.record.Record.{Record}
use Rattle.qz_terms.specs.Answer.{first_target, target_event}
use Rattle.qz_terms.specs.Catalog as catalog
use Rattle.qz_terms.specs.History as history
use Rattle.qz_terms.specs.Legal.{AllAgree, IsLegal, IsLegalCatalog}
use Rattle.qz_catalog.proofs.Staying.{front-legal}
use Rattle.qz_lives.proofs.Keeping.{and-left}
use Rattle.qz_book.proofs.TargetLemmas.{first-is_target, left, some-bound}
use Rattle.qz_serial.proofs.Places.{some-there}
use Rattle.qz_job_slots.specs.Steps.{StepsFindTheirSlots}
use Rattle.qz_job_slots.proofs.Bounds.{bound-slot}
use Rattle.qz_job_slots.proofs.Plans.{has_slot, job-plan, question-there, slot-later}

-- ---- at one shard

module _ (c h : List Record) (index count : ℕ) (job : Job) (number : ℕ) (legal : IsLegalCatalog c) (shard : IsLegal index count h) (all : AllAgree c h) (told : catalog.job c number ≡ Some job) where
  abbrev front : List Record
  front = take job.position c

  target-slot : (a : AttemptId) (k : ℕ) → first_target h job ≡ Some (a, k) → has_slot front job.plan.quiz k ≡ true
  target-slot a k is =
      let early = unwrap_or (option_map (λ (b : Bound). nat_lt b.at job.position) (history.bound h a k)) false in
      let test : early ≡ true = and-left early (not (history.is_skipped h job.number a k)) (first-is_target h job.number job.plan.quiz job.position a k is) in
      let b = some-bound (history.bound h a k) job.position test in
      let before : nat_lt b.0.at job.position ≡ true = rw b.1 at test in
      let less : b.0.at < job.position = ltb-true b.0.at job.position before in
      slot-later c b.0.at job.position job.plan.quiz k (omega arith) (bound-slot c h index count a k job.plan.quiz b.0 shard all (left index count h job a k shard is).of_quiz b.1)

  -- so a target is bound or skipped
  target-found : (t : AttemptId × ℕ) → first_target h job ≡ Some t → is_some (target_event h job t) ≡ true
  target-found t is =
      let own = job-plan c number job told in
      let old = left index count h job t.0 t.1 shard is in
      let there = target-slot t.0 t.1 is in
      let s = some-there (at_place job.plan.slots t.1) (ap (λ (ss : List Planned). is_some (at_place ss t.1)) own.slots_are ∙ there) in
      let q = some-there (at_place job.plan.questions t.1) (ap (λ (qs : List Question). is_some (at_place qs t.1)) own.questions_are ∙ question-there front job.plan.quiz t.1 (front-legal c job.position legal) there) in
      rw (old.old_is, s.1, q.1) refl

pub steps_law : StepsFindTheirSlots
steps_law = record {
  found = λ c h index count number job target legal shard all told first. target-found c h index count job number legal shard all told target first;
}
