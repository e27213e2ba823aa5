-- What a step of a job puts keeps its shard's list legal.
use Rattle.std.proofs.Common.{◌≡◌, ℕ, Bool, true, false, List, [], ◌∷◌, ◌++◌, Option, Some, None, option_map, refl, sym, ap, ◌∙◌, subst, append-nil, eq-eqb}
use Rattle.std.specs.Prelude.{if◌then◌else◌, is_some, option_and_then, option_to_list, unwrap_or}
use Rattle.qz_book.proofs.Placing.{version-more}
use Rattle.qz_book.proofs.TargetLemmas.{IsLeft, left, none-left}
use Rattle.qz_grading.specs.declared.question.Question.{Question}
use Rattle.qz_grading.specs.declared.refusal.AttemptId.{AttemptId}
use Rattle.qz_grading.specs.Grading.{at_place, shape}
use Rattle.qz_grading.specs.Shapes.{same_shape}
use Rattle.qz_legal.proofs.Learning.{learns-new}
use Rattle.qz_lives.proofs.Keeping.{start-here}
use Rattle.qz_lives.proofs.Legality.{legal-push}
use Rattle.qz_shard.proofs.Allowing.{time-again}
use Rattle.qz_shard.specs.Holdings.{HasSlot}
use Rattle.qz_terms.specs.declared.plan.Job.{Job}
use Rattle.qz_terms.specs.declared.plan.Planned.{Planned}
use Rattle.qz_terms.specs.declared.record.Event.{Event}
use Rattle.qz_terms.specs.declared.record.Event.TheVariants as event
use Rattle.qz_terms.specs.declared.record.Record.{Record}
use Rattle.qz_terms.specs.Answer.{bind, first_target, learned_as, new_versions, put_by_job, put_target, rebound_or_skipped, record_of_job, target_event, work_after}
use Rattle.qz_terms.specs.History as history
use Rattle.qz_terms.specs.Legal.{IsAllowed, IsLegal, is_here}
use Rattle.qz_terms.proofs.Walks.{first_of-push}
use Rattle.qz_schedule.proofs.Recording.{AddsTo}

-- the versions that the event of a target is about
record IsAbout (h : List Record) (job : Job) (a : AttemptId) (k : ℕ) (e : Event) : Type 0 where
  old : Question
  planned : Planned
  newer : Question
  old_is : history.question h a k ≡ Some old
  planned_is : at_place job.plan.slots k ≡ Some planned
  newer_is : at_place job.plan.questions k ≡ Some newer
  event_is : rebound_or_skipped h job a k planned old newer ≡ e

about-by : (h : List Record) (job : Job) (a : AttemptId) (k : ℕ) (e : Event) (x z : Option Question) (y : Option Planned) → history.question h a k ≡ x → at_place job.plan.slots k ≡ y → at_place job.plan.questions k ≡ z
    → option_and_then (λ old. option_and_then (λ s. option_map (λ newer. rebound_or_skipped h job a k s old newer) z) y) x ≡ Some e → IsAbout h job a k e
about-by h job a k e None z y one two three is = absurd cc
about-by h job a k e (Some old) z None one two three is = absurd cc
about-by h job a k e (Some old) None (Some s) one two three is = absurd cc
about-by h job a k e (Some old) (Some newer) (Some s) one two three is = record {
  old = old;
  planned = s;
  newer = newer;
  old_is = one;
  planned_is = two;
  newer_is = three;
  event_is = let same : rebound_or_skipped h job a k s old newer ≡ e = cc in same;
}

about : (h : List Record) (job : Job) (a : AttemptId) (k : ℕ) (e : Event) → target_event h job (a, k) ≡ Some e → IsAbout h job a k e
about h job a k e is = about-by h job a k e (history.question h a k) (at_place job.plan.questions k) (at_place job.plan.slots k) refl refl refl is

-- a version of the job's plan that the list has learned has there the question learned, and the first target has its slot
pub record Knows (h : List Record) (job : Job) : Type 0 where
  pub known : (k : ℕ) (s : Planned) (q x : Question) → at_place job.plan.slots k ≡ Some s → at_place job.plan.questions k ≡ Some q → history.version h s.entry s.version ≡ Some x → x ≡ q
  pub slot : HasSlot h job (first_target h job)

module _ (index count : ℕ) (h : List Record) (now caller : ℕ) (job : Job) (legal : IsLegal index count h) (able : Knows h job) (still : history.is_done h job.number ≡ false) where
  module _ (a : AttemptId) (k : ℕ) (first : first_target h job ≡ Some (a, k)) where
    of_target : IsLeft h job a k
    of_target = left index count h job a k legal first

    here : is_here index count a.user ≡ true
    here = start-here index count h a of_target.begun legal of_target.begun_is

    module _ (old newer : Question) (s : Planned) (old_is : history.question h a k ≡ Some old) (planned_is : at_place job.plan.slots k ≡ Some s) (newer_is : at_place job.plan.questions k ≡ Some newer) where
      -- the version that is bound was learned with this question, or is learned now
      newer-known : (o : Option Question) → history.version h s.entry s.version ≡ o → history.version (h ++ record_of_job (history.time h a.user now) caller a.user (event.Rebound job.number a k (bind job.position s) (new_versions h (learned_as (s, newer) ∷ []))) ∷ []) s.entry s.version ≡ Some newer
      newer-known None is =
          first_of-push (history.learns s.entry s.version) h (record_of_job (history.time h a.user now) caller a.user (event.Rebound job.number a k (bind job.position s) (new_versions h (learned_as (s, newer) ∷ []))))
          ∙ rw (is, eq-eqb s.entry s.entry refl, eq-eqb s.version s.version refl) refl
      newer-known (Some x) is = version-more h (record_of_job (history.time h a.user now) caller a.user (event.Rebound job.number a k (bind job.position s) (new_versions h (learned_as (s, newer) ∷ [])))) s.entry s.version x is ∙ ap (λ (q : Question). Some q) (able.known k s newer x planned_is newer_is is)

      rebind-allowed : same_shape (shape old) (shape newer) ≡ true → IsAllowed index count h (record_of_job (history.time h a.user now) caller a.user (event.Rebound job.number a k (bind job.position s) (new_versions h (learned_as (s, newer) ∷ []))))
      rebind-allowed same = record {
        owner = rw (eq-eqb a.user a.user refl, here) refl;
        moment = time-again h a.user now;
        key = refl;
        event = record {
          bare = refl;
          undone = still;
          quiz = job.plan.quiz;
          of_quiz = of_target.of_quiz;
          first = first;
          learns = learns-new h job.position (s ∷ []) (newer ∷ []) refl;
          old = old;
          newer = newer;
          old_is = old_is;
          newer_is = newer-known (history.version h s.entry s.version) refl;
          same = same;
        };
      }

      skip-allowed : same_shape (shape old) (shape newer) ≡ false → IsAllowed index count h (record_of_job (history.time h a.user now) caller a.user (event.Skipped job.number a k (shape old) (shape newer)))
      skip-allowed other = record {
        owner = rw (eq-eqb a.user a.user refl, here) refl;
        moment = time-again h a.user now;
        key = refl;
        event = record { bare = refl; undone = still; unskipped = of_target.unskipped; old = old; old_is = old_is; bound_is = refl; other = other };
      }

      event-allowed : (b : Bool) → same_shape (shape old) (shape newer) ≡ b → IsAllowed index count h (record_of_job (history.time h a.user now) caller a.user (if b then event.Rebound job.number a k (bind job.position s) (new_versions h (learned_as (s, newer) ∷ [])) else event.Skipped job.number a k (shape old) (shape newer)))
      event-allowed true is = rebind-allowed is
      event-allowed false is = skip-allowed is

    about-allowed : (e : Event) → IsAbout h job a k e → IsAllowed index count h (record_of_job (history.time h a.user now) caller a.user e)
    about-allowed e t = subst (λ (d : Event). IsAllowed index count h (record_of_job (history.time h a.user now) caller a.user d)) t.event_is (event-allowed t.old t.newer t.planned t.old_is t.planned_is t.newer_is (same_shape (shape t.old) (shape t.newer)) refl)

    target-allowed : (o : Option Event) → target_event h job (a, k) ≡ o → is_some o ≡ true → IsAllowed index count h (record_of_job (history.time h a.user now) caller a.user (unwrap_or o (event.JobDone job.number job.plan.quiz job.position)))
    target-allowed None is there = absurd cc
    target-allowed (Some e) is there = about-allowed e (about h job a k e is)

  done-allowed : first_target h job ≡ None → IsAllowed index count h (record_of_job (history.time h 0 now) caller 0 (event.JobDone job.number job.plan.quiz job.position))
  done-allowed none = record {
    owner = refl;
    moment = time-again h 0 now;
    key = refl;
    event = record { bare = refl; undone = still; none_left = none-left (history.targets h job.number job.plan.quiz job.position) none };
  }

  next-allowed : (t : Option (AttemptId × ℕ)) → first_target h job ≡ t → HasSlot h job t → IsAllowed index count h (put_target h now caller job t)
  next-allowed None none there = done-allowed none
  next-allowed (Some t) first there = target-allowed t.0 t.1 first (target_event h job t) refl there

legal-by : (index count : ℕ) (h : List Record) (now caller : ℕ) (job : Job) (b : Bool) → IsLegal index count h → Knows h job → history.is_done h job.number ≡ b → IsLegal index count (h ++ option_to_list (if b then None else Some (put_target h now caller job (first_target h job))))
legal-by index count h now caller job true legal able done = subst (IsLegal index count) (sym (append-nil h)) legal
legal-by index count h now caller job false legal able still =
    legal-push index count h (put_target h now caller job (first_target h job)) legal (next-allowed index count h now caller job legal able still (first_target h job) refl able.slot)

pub work-legal : (index count : ℕ) (h : List Record) (now caller : ℕ) (job : Job) → IsLegal index count h → Knows h job → IsLegal index count (work_after h now caller job)
work-legal index count h now caller job legal able = legal-by index count h now caller job (history.is_done h job.number) legal able refl

pub work-adds : (h : List Record) (now caller : ℕ) (job : Job) → AddsTo h (work_after h now caller job)
work-adds h now caller job = record { put = put_by_job h now caller job; is = refl }
