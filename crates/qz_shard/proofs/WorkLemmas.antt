-- The record that a worker's request puts may stand next, and what is then answered.
use Rattle.std.proofs.Common.{◌≡◌, ℕ, ◌-◌, Bool, true, false, List, [], ◌∷◌, ◌++◌, Option, Some, None, refl, sym, ap, subst, ◌∙◌, option_map, eq-eqb, All}
use Rattle.std.specs.List.{list_all}
use Rattle.std.specs.Prelude.{◌-◌, ◌==◌, if◌then◌else◌, is_some, option_and_then, slice_get, unwrap_or}
use Rattle.std.proofs.lemmas.List.Elements.{All-cons, All-nil}
use Rattle.std.proofs.lemmas.Option.{get_or_from_slice_get, slice_get_within}
use Rattle.qz_grading.specs.declared.question.Question.{Question}
use Rattle.qz_grading.specs.declared.refusal.AttemptId.{AttemptId}
use Rattle.qz_grading.specs.Grading.{at_place, shape}
use Rattle.qz_grading.specs.Questions.{IsQuestion}
use Rattle.qz_grading.specs.Shapes.{same_shape}
use Rattle.qz_terms.specs.declared.plan.Job.{Job}
use Rattle.qz_terms.specs.declared.plan.Planned.{Planned}
use Rattle.qz_terms.specs.declared.record.Event.{Event}
use Rattle.qz_terms.specs.declared.record.Event.TheVariants as event
use Rattle.qz_terms.specs.declared.record.Record.{Record}
use Rattle.qz_terms.specs.declared.reply.Reply.{Reply}
use Rattle.qz_terms.specs.Answer.{bind, done_place, first_target, learned_as, new_versions, put_target, rebound_or_skipped, record_of_job, target_event}
use Rattle.qz_terms.specs.Kept.{is_planned}
use Rattle.qz_terms.specs.Legal.{is_here}
use Rattle.qz_terms.specs.History.{is_done, learns, question, targets, time, version}
use Rattle.qz_terms.proofs.Walks.{first_of-push}
use Rattle.qz_index.specs.Jobs.{done_in}
use Rattle.qz_shard.specs.declared.working.Work.TheVariants as work
use Rattle.qz_book.specs.Held.{IsHeld}
use Rattle.qz_shard.specs.Holdings.{HasSlot, IsWorkable}
use Rattle.qz_book.specs.Nexts.{IsNext}
use Rattle.qz_shard.specs.Puts.{IsPutWith}
use Rattle.qz_shard.specs.Works.{IsWork, IsWorked}
use Rattle.qz_shard.proofs.Allowing.{time-again}
use Rattle.qz_lives.proofs.Keeping.{all-at, start-here}
use Rattle.qz_legal.proofs.Learning.{learns-new}
use Rattle.qz_shard.proofs.Making.{learned-kept, time-kept}
use Rattle.qz_book.proofs.Placing.{version-more}
use Rattle.qz_book.proofs.TargetLemmas.{IsLeft, left, none-left}

-- ---- whether a job is done

done-by : (b : Bool) (n place : ℕ) → Some place ≡ (if b then Some n else None) → (b ≡ true) × (place ≡ n)
done-by true n place told = (refl, cc)
done-by false n place told = absurd cc

undone-by : (b : Bool) (n : ℕ) → let o : Option ℕ = if b then Some n else None in None ≡ o → b ≡ false
undone-by true n told = absurd cc
undone-by false n told = refl

pub undone : (h : List Record) (job : ℕ) → None ≡ done_in h job → is_done h job ≡ false
undone h job told = undone-by (is_done h job) (done_place h job) told

pub done-there : (h : List Record) (now caller : ℕ) (job : Job) (place : ℕ) → Some place ≡ done_in h job.number → IsWork h now caller job (work.AlreadyDone place)
done-there h now caller job place told = done-by (is_done h job.number) (done_place h job.number) place told

pub put-work : (h : List Record) (now caller : ℕ) (job : Job) (r : Record) → is_done h job.number ≡ false → r ≡ put_target h now caller job (first_target h job) → IsWork h now caller job (work.Put r)
put-work h now caller job r still is = (still, rw (still, is) refl)

-- the record of a job that isn't done
pub put-of : (h : List Record) (now caller : ℕ) (job : Job) (r : Record) → IsWork h now caller job (work.Put r) → put_target h now caller job (first_target h job) ≡ r
put-of h now caller job r w = let some : Some (put_target h now caller job (first_target h job)) ≡ Some r = rw w.0 at w.1 in cc

-- ---- what is read of a plan

place-by : {A : Type 0} (xs : List A) (k : ℕ) (x : A) (b : Bool) → (k == 0) ≡ b → (if b then None else slice_get xs (k - 1)) ≡ Some x → slice_get xs (k - 1) ≡ Some x
place-by xs k x true is told = absurd cc
place-by xs k x false is told = told

place-of : {A : Type 0} (xs : List A) (k : ℕ) (x : A) → at_place xs k ≡ Some x → slice_get xs (k - 1) ≡ Some x
place-of xs k x told = place-by xs k x (k == 0) refl told

pub kept-at : (qs : List Question) (k : ℕ) (q : Question) → All IsQuestion qs → at_place qs k ≡ Some q → IsQuestion q
kept-at qs k q all told =
    let there = place-of qs k q told in
    subst IsQuestion (get_or_from_slice_get qs (k - 1) q q there) (all (k - 1) q (slice_get_within qs (k - 1) q there))

planned-at : (ss : List Planned) (k : ℕ) (s : Planned) → list_all is_planned ss ≡ true → at_place ss k ≡ Some s → is_planned s ≡ true
planned-at ss k s all told = all-at is_planned ss (k - 1) s all (place-of ss k s told)

-- ---- the record of a target

-- the versions that the event of a target is about
record IsEventOf (h : List Record) (job : Job) (a : AttemptId) (k : ℕ) (e : Event) : Type 0 where
  old : Question
  planned : Planned
  newer : Question
  old_is : question h a k ≡ Some old
  planned_is : at_place job.plan.slots k ≡ Some planned
  newer_is : at_place job.plan.questions k ≡ Some newer
  event_is : rebound_or_skipped h job a k planned old newer ≡ e

event-by : (h : List Record) (job : Job) (a : AttemptId) (k : ℕ) (e : Event) (x z : Option Question) (y : Option Planned) → question h a k ≡ x → at_place job.plan.slots k ≡ y → at_place job.plan.questions k ≡ z
    → option_and_then (λ old. option_and_then (λ s. option_map (λ newer. rebound_or_skipped h job a k s old newer) z) y) x ≡ Some e → IsEventOf h job a k e
event-by h job a k e None z y one two three is = absurd cc
event-by h job a k e (Some old) z None one two three is = absurd cc
event-by h job a k e (Some old) None (Some s) one two three is = absurd cc
event-by h job a k e (Some old) (Some newer) (Some s) one two three is = record {
  old = old;
  planned = s;
  newer = newer;
  old_is = one;
  planned_is = two;
  newer_is = three;
  event_is = let same : rebound_or_skipped h job a k s old newer ≡ e = cc in same;
}

event-of : (h : List Record) (job : Job) (a : AttemptId) (k : ℕ) (e : Event) → target_event h job (a, k) ≡ Some e → IsEventOf h job a k e
event-of h job a k e is = event-by h job a k e (question h a k) (at_place job.plan.questions k) (at_place job.plan.slots k) refl refl refl is

module _ (index count : ℕ) (h : List Record) (now caller : ℕ) (job : Job) (held : IsHeld index count h) (able : IsWorkable h job now) (still : is_done h job.number ≡ false) where
  rebound_to : AttemptId → ℕ → Planned → Question → Event
  rebound_to a k s newer = event.Rebound job.number a k (bind job.position s) (new_versions h (learned_as (s, newer) ∷ []))

  module _ (a : AttemptId) (k : ℕ) (first : first_target h job ≡ Some (a, k)) where
    of_target : IsLeft h job a k
    of_target = left index count h job a k held.legal first

    here : is_here index count a.user ≡ true
    here = start-here index count h a of_target.begun held.legal of_target.begun_is

    module _ (old newer : Question) (s : Planned) (old_is : question h a k ≡ Some old) (planned_is : at_place job.plan.slots k ≡ Some s) (newer_is : at_place job.plan.questions k ≡ Some newer) where
      -- the version that is bound was learned with this question, or is learned now
      newer-known : (o : Option Question) → version h s.entry s.version ≡ o → version (h ++ record_of_job (time h a.user now) caller a.user (event.Rebound job.number a k (bind job.position s) (new_versions h (learned_as (s, newer) ∷ []))) ∷ []) s.entry s.version ≡ Some newer
      newer-known None is =
          first_of-push (learns s.entry s.version) h (record_of_job (time h a.user now) caller a.user (event.Rebound job.number a k (bind job.position s) (new_versions h (learned_as (s, newer) ∷ []))))
          ∙ rw (is, eq-eqb s.entry s.entry refl, eq-eqb s.version s.version refl) refl
      newer-known (Some x) is = version-more h (record_of_job (time h a.user now) caller a.user (event.Rebound job.number a k (bind job.position s) (new_versions h (learned_as (s, newer) ∷ [])))) s.entry s.version x is ∙ ap (λ (q : Question). Some q) (able.known k s newer x planned_is newer_is is)

      rebind-next : same_shape (shape old) (shape newer) ≡ true → IsNext index count h (record_of_job (time h a.user now) caller a.user (event.Rebound job.number a k (bind job.position s) (new_versions h (learned_as (s, newer) ∷ []))))
      rebind-next same = record {
        allowed = record {
          owner = rw (eq-eqb a.user a.user refl, here) refl;
          moment = time-again h a.user now;
          key = refl;
          event = record {
            bare = refl;
            undone = still;
            quiz = job.plan.quiz;
            of_quiz = of_target.of_quiz;
            first = first;
            learns = learns-new h job.position (s ∷ []) (newer ∷ []) refl;
            old = old;
            newer = newer;
            old_is = old_is;
            newer_is = newer-known (version h s.entry s.version) refl;
            same = same;
          };
        };
        kept = record {
          moment = time-kept h a.user now held.kept able.kept_moment;
          terms = refl;
          settings = refl;
          event = (planned-at job.plan.slots k s able.kept_plan.slots planned_is, learned-kept h (s ∷ []) (newer ∷ []) (All-cons IsQuestion newer [] (kept-at job.plan.questions k newer able.kept_plan.questions newer_is) (All-nil IsQuestion)));
        };
        asked = refl;
      }

      skip-next : same_shape (shape old) (shape newer) ≡ false → IsNext index count h (record_of_job (time h a.user now) caller a.user (event.Skipped job.number a k (shape old) (shape newer)))
      skip-next other = record {
        allowed = record {
          owner = rw (eq-eqb a.user a.user refl, here) refl;
          moment = time-again h a.user now;
          key = refl;
          event = record { bare = refl; undone = still; unskipped = of_target.unskipped; old = old; old_is = old_is; bound_is = refl; other = other };
        };
        kept = record { moment = time-kept h a.user now held.kept able.kept_moment; terms = refl; settings = refl; event = tt };
        asked = refl;
      }

      event-next : (b : Bool) → same_shape (shape old) (shape newer) ≡ b → IsNext index count h (record_of_job (time h a.user now) caller a.user (if b then event.Rebound job.number a k (bind job.position s) (new_versions h (learned_as (s, newer) ∷ [])) else event.Skipped job.number a k (shape old) (shape newer)))
      event-next true is = rebind-next is
      event-next false is = skip-next is

    target-next : (e : Event) → IsEventOf h job a k e → IsNext index count h (record_of_job (time h a.user now) caller a.user e)
    target-next e t = subst (λ (d : Event). IsNext index count h (record_of_job (time h a.user now) caller a.user d)) t.event_is (event-next t.old t.newer t.planned t.old_is t.planned_is t.newer_is (same_shape (shape t.old) (shape t.newer)) refl)

    target-put : (o : Option Event) → target_event h job (a, k) ≡ o → is_some o ≡ true → IsNext index count h (record_of_job (time h a.user now) caller a.user (unwrap_or o (event.JobDone job.number job.plan.quiz job.position)))
    target-put None is there = absurd cc
    target-put (Some e) is there = target-next e (event-of h job a k e is)

  done-next : first_target h job ≡ None → IsNext index count h (record_of_job (time h 0 now) caller 0 (event.JobDone job.number job.plan.quiz job.position))
  done-next none = record {
    allowed = record {
      owner = refl;
      moment = time-again h 0 now;
      key = refl;
      event = record { bare = refl; undone = still; none_left = none-left (targets h job.number job.plan.quiz job.position) none };
    };
    kept = record { moment = time-kept h 0 now held.kept able.kept_moment; terms = refl; settings = refl; event = tt };
    asked = refl;
  }

  next-by : (t : Option (AttemptId × ℕ)) → first_target h job ≡ t → HasSlot h job t → IsNext index count h (put_target h now caller job t)
  next-by None none there = done-next none
  next-by (Some t) first there = target-put t.0 t.1 first (target_event h job t) refl there

pub work-next : (index count : ℕ) (h : List Record) (now caller : ℕ) (job : Job) (r : Record) → IsHeld index count h → IsWorkable h job now → IsWork h now caller job (work.Put r) → IsNext index count h r
work-next index count h now caller job r held able w =
    subst (IsNext index count h) (put-of h now caller job r w) (next-by index count h now caller job held able w.0 (first_target h job) refl able.has_slot)

-- ---- what is answered

pub worked-put : (h g : List Record) (now caller : ℕ) (job : Job) (r : Record) (told : Reply) → IsWork h now caller job (work.Put r) → IsPutWith h g r told → IsWorked h now caller job told g
worked-put h g now caller job r told w put = record { reply = put.said_so ∙ rw w.1 refl; list = put.put ∙ rw w.1 refl }

-- ---- a record of a job has no key

pub keyless-work : (h : List Record) (now caller : ℕ) (job : Job) (r : Record) → IsWork h now caller job (work.Put r) → r.key ≡ None
keyless-work h now caller job r told = ap (λ (x : Record). x.key) (sym (put-of h now caller job r told))
