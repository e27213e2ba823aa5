-- What is kept of an attempt is what the list tells of it, with one more record.
use Rattle.std.proofs.Common.{◌≡◌, ℕ, ◌-◌, ◌≤◌, eqb, Bool, true, false, ◌&&◌, List, [], ◌∷◌, ◌++◌, Option, Some, None, option_map, length, refl, sym, ap, subst, ◌∙◌, arith}
use Rattle.std.specs.Prelude.{◌==◌, if◌then◌else◌, is_some, slice_get}
use Rattle.std.specs.Option.{option_or}
use Rattle.std.proofs.lemmas.Bool.{eqb-true}
use Rattle.std.proofs.lemmas.List.Folds.{list_any-append}
use Rattle.qz_grading.specs.declared.outcome.Behaviour.{Behaviour}
use Rattle.qz_grading.specs.declared.question.Kind.{Kind}
use Rattle.qz_grading.specs.declared.question.Kind.TheVariants as kind
use Rattle.qz_grading.specs.declared.question.Question.{Question}
use Rattle.qz_grading.specs.declared.refusal.AttemptId.{AttemptId}
use Rattle.qz_grading.specs.declared.response.Step.{Step}
use Rattle.qz_grading.specs.declared.response.Step.TheVariants as step
use Rattle.qz_grading.specs.Behaviours.{behaviour_for}
use Rattle.qz_grading.specs.Grading.{at_place, kind_number, shape}
use Rattle.qz_grading.specs.Shapes.{same_shape}
use Rattle.qz_grading.specs.Steps.{has_finish, is_finish}
use Rattle.qz_terms.specs.declared.plan.Bound.{Bound}
use Rattle.qz_terms.specs.declared.record.How.{How}
use Rattle.qz_terms.specs.declared.record.Record.{Record}
use Rattle.qz_terms.specs.History.{Slot, Start, binds, bound, ended, ended_at, ends, place, slot, slot_with, start, starts, step_in, steps, version}
use Rattle.qz_usage.specs.Runs.{IsBound, IsWithinLimits, Run, behaviour_of, bound_of}
use Rattle.qz_lives.specs.declared.live.Ending.{Ending}
use Rattle.qz_lives.specs.declared.live.Live.{Live}
use Rattle.qz_lives.specs.Attempts.{IsSlot, IsSlotAt, IsTold, IsToldAs, IsUntold, begun_of, slot_of}
use Rattle.qz_lives.specs.Changes.{Knows}
use Rattle.qz_lives.specs.Runs.{AreFresh, HasBoundAt, HasTaken, HasTakenAt, HaveFinished, IsFresh, Known}
use Rattle.qz_lives.proofs.Places.{length-with, place-alike, same-item, with-apart, with-here}
use Rattle.qz_lives.proofs.Tellings.{HasParts, bound-more, ended-more, ended-same, ended_at-new, ended_at-same, made-of, slot-there, slot-unbound, start-more, start-same, steps-more, steps-same, version-more}

-- ---- a slot

-- the slot that a run plays, from its parts
pub played : (h : List Record) (a : AttemptId) (k : ℕ) (s : Start) (q : Question) (r : Run) → HasParts h a k s r.bound q → r.steps ≡ steps h a k → behaviour_of r ≡ behaviour_for q.kind s.behaviour → slot h a k ≡ Some (slot_of r q)
played h a k s q r p taken behaves = slot-there h a k s r.bound q p ∙ rw (taken, behaves) refl

-- what is known of a run that plays a slot
pub record IsPlaying (h : List Record) (a : AttemptId) (k : ℕ) (s : Start) (r : Run) (q : Question) : Type 0 where
  pub parts : HasParts h a k s r.bound q
  pub taken : r.steps ≡ steps h a k
  pub behaves : behaviour_of r ≡ behaviour_for q.kind s.behaviour

pub playing : (h : List Record) (a : AttemptId) (k : ℕ) (s : Start) (r : Run) → start h a ≡ Some s → (p : IsSlot h a k r) → IsPlaying h a k s r p.question
playing h a k s r begun p =
    let m = made-of h a k (slot_of r p.question) p.slot_is in
    let same : m.started ≡ s = same-item (start h a) m.started s m.parts.begun begun in
    let b : r.bound ≡ m.bound_now = ap (λ (x : Slot). x.bound) m.whole in
    let q : p.question ≡ m.asked = ap (λ (x : Slot). x.question) m.whole in
    let t : r.steps ≡ steps h a k = ap (λ (x : Slot). x.steps) m.whole in
    let w : behaviour_of r ≡ behaviour_for m.asked.kind m.started.behaviour = ap (λ (x : Slot). x.behaviour) m.whole in
    record {
      parts = record {
        begun = begun;
        bound_is = m.parts.bound_is ∙ ap (λ (x : Bound). Some x) (sym b);
        asks = ap (λ (x : Bound). version h x.entry x.version) b ∙ m.parts.asks ∙ ap (λ (x : Question). Some x) (sym q);
      };
      taken = t;
      behaves = w ∙ ap (λ (x : Question). behaviour_for x.kind m.started.behaviour) (sym q) ∙ ap (λ (x : Start). behaviour_for p.question.kind x.behaviour) same;
    }

module _ (l : List Record) (r : Record) (a : AttemptId) (k : ℕ) where
  -- where start, bound and steps stay, a slot stays
  slot-stays : (run : Run) → starts a r ≡ None → binds a k r ≡ None → step_in a k r ≡ None → (p : IsSlot l a k run) → slot (l ++ r ∷ []) a k ≡ Some (slot_of run p.question)
  slot-stays run no_start no_bound no_step p =
      let m = made-of l a k (slot_of run p.question) p.slot_is in
      let now = slot-there (l ++ r ∷ []) a k m.started m.bound_now m.asked (record {
        begun = start-same l r a no_start ∙ m.parts.begun;
        bound_is = bound-more l r a k None no_bound ∙ m.parts.bound_is;
        asks = version-more l r m.bound_now.entry m.bound_now.version m.asked m.parts.asks;
      }) in
      now ∙ ap (λ (t : List Step). Some (slot_with m.started m.bound_now t m.asked)) (steps-same l r a k no_step) ∙ ap (λ (x : Slot). Some x) (sym m.whole)

  slot-kept : (run : Run) → starts a r ≡ None → binds a k r ≡ None → step_in a k r ≡ None → IsSlot l a k run → IsSlot (l ++ r ∷ []) a k run
  slot-kept run no_start no_bound no_step p = record { question = p.question; slot_is = slot-stays run no_start no_bound no_step p; asked = p.asked; limits = p.limits }

  slot_at-kept : (o : Option Run) → starts a r ≡ None → binds a k r ≡ None → step_in a k r ≡ None → option_map bound_of o ≡ bound l a k → IsSlotAt l a k o → IsSlotAt (l ++ r ∷ []) a k o
  slot_at-kept None no_start no_bound no_step bounds there = slot-unbound (l ++ r ∷ []) a k (bound-more l r a k None no_bound ∙ sym bounds)
  slot_at-kept (Some run) no_start no_bound no_step bounds there = slot-kept run no_start no_bound no_step there

-- ---- a record that tells nothing of an attempt

pub record Spares (r : Record) (a : AttemptId) : Type 0 where
  pub no_start : starts a r ≡ None
  pub no_end : ends a r ≡ None
  pub no_bound : (k : ℕ) → binds a k r ≡ None
  pub no_step : (k : ℕ) → step_in a k r ≡ None

module _ (l : List Record) (r : Record) (a : AttemptId) (s : Spares r a) where
  slot_at-same : (k : ℕ) (o : Option Run) → option_map bound_of o ≡ bound l a k → IsSlotAt l a k o → slot (l ++ r ∷ []) a k ≡ slot l a k
  slot_at-same k None bounds there = slot-unbound (l ++ r ∷ []) a k (bound-more l r a k None (s.no_bound k) ∙ sym bounds) ∙ sym there
  slot_at-same k (Some run) bounds there = slot-stays l r a k run s.no_start (s.no_bound k) (s.no_step k) there ∙ sym there.slot_is

  -- its slots are the same
  pub slot-spared : (o : Option Live) → IsToldAs l a o → (k : ℕ) → slot (l ++ r ∷ []) a k ≡ slot l a k
  slot-spared None u k = slot-unbound (l ++ r ∷ []) a k (bound-more l r a k None (s.no_bound k) ∙ u.unbound k) ∙ sym (slot-unbound l a k (u.unbound k))
  slot-spared (Some x) t k = slot_at-same k (at_place x.slots k) (t.bounds k) (t.slots k)

  untold-spared : IsUntold l a → IsUntold (l ++ r ∷ []) a
  untold-spared u = record {
    unstarted = start-same l r a s.no_start ∙ u.unstarted;
    unended = ended-same l r a s.no_end ∙ u.unended;
    unbound = λ k. bound-more l r a k None (s.no_bound k) ∙ u.unbound k;
    unstepped = λ k. steps-same l r a k (s.no_step k) ∙ u.unstepped k;
  }

  told-spared : (x : Live) → IsTold l a x → IsTold (l ++ r ∷ []) a x
  told-spared x t = record {
    started = t.started;
    start_is = start-same l r a s.no_start ∙ t.start_is;
    begun_is = t.begun_is;
    how = t.how ∙ sym (ended-same l r a s.no_end);
    place = t.place ∙ sym (ended_at-same l r a s.no_end);
    count = t.count;
    few = t.few;
    bounds = λ k. t.bounds k ∙ sym (bound-more l r a k None (s.no_bound k));
    slots = λ k. slot_at-kept l r a k (at_place x.slots k) s.no_start (s.no_bound k) (s.no_step k) (t.bounds k) (t.slots k);
    unfinished = t.unfinished;
  }

  pub told_as-spared : (o : Option Live) → IsToldAs l a o → IsToldAs (l ++ r ∷ []) a o
  told_as-spared None t = untold-spared t
  told_as-spared (Some x) t = told-spared x t

-- ---- a start

-- a record that starts an attempt
pub record Begins (l : List Record) (r : Record) (a : AttemptId) (told : Start) : Type 0 where
  pub first : start l a ≡ None
  pub starts_it : starts a r ≡ Some told
  pub binds_it : (k : ℕ) → binds a k r ≡ at_place told.bounds k
  pub no_step : (k : ℕ) → step_in a k r ≡ None
  pub no_end : ends a r ≡ None

fresh-at-by : (known : Known) (b : Behaviour) (bounds : List Bound) (runs : List Run) (k : ℕ) (d : Bound) (r : Run) (z : Bool) → AreFresh known b bounds runs → (if z then None else slice_get bounds (k - 1)) ≡ Some d → (if z then None else slice_get runs (k - 1)) ≡ Some r → IsFresh known b d r
fresh-at-by known b bounds runs k d r true f is also = absurd cc
fresh-at-by known b bounds runs k d r false f is also = f.each (k - 1) d r is also

fresh-at : (known : Known) (b : Behaviour) (bounds : List Bound) (runs : List Run) (k : ℕ) (d : Bound) (r : Run) → AreFresh known b bounds runs → at_place bounds k ≡ Some d → at_place runs k ≡ Some r → IsFresh known b d r
fresh-at known b bounds runs k d r f is also = fresh-at-by known b bounds runs k d r (k == 0) f is also

no-limits : IsWithinLimits []
no-limits = record { answering = omega arith; marks = omega arith; finishes = omega arith }

module _ (known : Known) (l : List Record) (r : Record) (a : AttemptId) (told : Start) (x : Live) (knows : Knows known (l ++ r ∷ [])) (d : Begins l r a told) (u : IsUntold l a) (f : AreFresh known told.behaviour told.bounds x.slots) where
  start-now : start (l ++ r ∷ []) a ≡ Some told
  start-now = start-more l r a (Some told) d.starts_it ∙ ap (λ (o : Option Start). option_or o (Some told)) d.first

  bound-now : (k : ℕ) → bound (l ++ r ∷ []) a k ≡ at_place told.bounds k
  bound-now k = bound-more l r a k (at_place told.bounds k) (d.binds_it k) ∙ ap (option_or (at_place told.bounds k)) (u.unbound k) ∙ or-nothing (at_place told.bounds k)
    where
      or-nothing : (o : Option Bound) → option_or o None ≡ o
      or-nothing None = refl
      or-nothing (Some b) = refl

  steps-now : (k : ℕ) → steps (l ++ r ∷ []) a k ≡ []
  steps-now k = steps-same l r a k (d.no_step k) ∙ u.unstepped k

  begun-at : (k : ℕ) (o : Option Run) (p : Option Bound) → at_place x.slots k ≡ o → at_place told.bounds k ≡ p → (option_map bound_of o ≡ p) × IsSlotAt (l ++ r ∷ []) a k o
  begun-at k None None is also = (refl, slot-unbound (l ++ r ∷ []) a k (bound-now k ∙ also))
  begun-at k None (Some b) is also = absurd (let same = place-alike x.slots told.bounds k f.count in let one : is_some (at_place x.slots k) ≡ false = ap is_some is in let two : is_some (at_place told.bounds k) ≡ true = ap is_some also in cc)
  begun-at k (Some run) None is also = absurd (let same = place-alike x.slots told.bounds k f.count in let one : is_some (at_place x.slots k) ≡ true = ap is_some is in let two : is_some (at_place told.bounds k) ≡ false = ap is_some also in cc)
  begun-at k (Some run) (Some b) is also =
      let n = fresh-at known told.behaviour told.bounds x.slots k b run f also is in
      let asks : version (l ++ r ∷ []) run.bound.entry run.bound.version ≡ Some n.question = ap (λ (c : Bound). version (l ++ r ∷ []) c.entry c.version) n.bound ∙ sym (knows.each b.entry b.version) ∙ n.asks in (
        ap (λ (c : Bound). Some c) n.bound,
        record {
          question = n.question;
          slot_is = played (l ++ r ∷ []) a k told n.question run (record { begun = start-now; bound_is = bound-now k ∙ also ∙ ap (λ (c : Bound). Some c) (sym n.bound); asks = asks }) (n.steps ∙ sym (steps-now k)) n.behaviour;
          asked = n.asked;
          limits = subst IsWithinLimits (sym n.steps) no-limits;
        },
      )

  unfinished-at : (k : ℕ) (run : Run) (p : Option Bound) → at_place x.slots k ≡ Some run → at_place told.bounds k ≡ p → has_finish run.steps ≡ false
  unfinished-at k run None is also = absurd (let same = place-alike x.slots told.bounds k f.count in let one : is_some (at_place x.slots k) ≡ true = ap is_some is in let two : is_some (at_place told.bounds k) ≡ false = ap is_some also in cc)
  unfinished-at k run (Some b) is also = ap has_finish (fresh-at known told.behaviour told.bounds x.slots k b run f also is).steps

  pub told-begun : length told.bounds ≤ 200 → x.begun ≡ begun_of told → x.ending ≡ None → IsTold (l ++ r ∷ []) a x
  told-begun most begun ending = record {
    started = told;
    start_is = start-now;
    begun_is = begun;
    how = ap (option_map (λ (e : Ending). e.how)) ending ∙ sym (ended-same l r a d.no_end ∙ u.unended);
    place = ap (option_map (λ (e : Ending). e.place)) ending ∙ sym (unplaced (ended (l ++ r ∷ []) a) _ (ended-same l r a d.no_end ∙ u.unended));
    count = f.count;
    few = (let same = f.count in omega arith);
    bounds = λ k. (begun-at k (at_place x.slots k) (at_place told.bounds k) refl refl).0 ∙ sym (bound-now k);
    slots = λ k. (begun-at k (at_place x.slots k) (at_place told.bounds k) refl refl).1;
    unfinished = λ k run none is. unfinished-at k run (at_place told.bounds k) is refl;
  }
    where
      unplaced : (o : Option How) (f : How → ℕ) → o ≡ None → option_map f o ≡ None
      unplaced None f is = refl
      unplaced (Some w) f is = absurd cc

-- ---- a step

-- a record that takes a step on a slot
pub record Acts (r : Record) (a : AttemptId) (k : ℕ) (x : Step) : Type 0 where
  pub no_start : starts a r ≡ None
  pub no_end : ends a r ≡ None
  pub no_bound : (j : ℕ) → binds a j r ≡ None
  pub takes : step_in a k r ≡ Some x
  pub no_step : (j : ℕ) → (j == k) ≡ false → step_in a j r ≡ None

-- the slot, once its run has taken a step
stepped : (known : Known) (l : List Record) (r : Record) (a : AttemptId) (k : ℕ) (s : Start) (x : Step) (old new : Run) → Knows known (l ++ r ∷ []) → start l a ≡ Some s → starts a r ≡ None → binds a k r ≡ None → step_in a k r ≡ Some x
    → IsSlot l a k old → HasTaken known old new x → IsWithinLimits (old.steps ++ x ∷ []) → IsSlot (l ++ r ∷ []) a k new
stepped known l r a k s x old new knows begun no_start no_bound takes p t limits =
    let before = playing l a k s old begun p in
    let asks_now : version (l ++ r ∷ []) old.bound.entry old.bound.version ≡ Some p.question = version-more l r old.bound.entry old.bound.version p.question before.parts.asks in
    let same : t.question ≡ p.question = same-item (version (l ++ r ∷ []) old.bound.entry old.bound.version) t.question p.question (sym (knows.each old.bound.entry old.bound.version) ∙ t.asks) asks_now in
    record {
      question = p.question;
      slot_is = played (l ++ r ∷ []) a k s p.question new (record {
        begun = start-same l r a no_start ∙ begun;
        bound_is = bound-more l r a k None no_bound ∙ before.parts.bound_is ∙ ap (λ (b : Bound). Some b) (sym t.adds.bound);
        asks = ap (λ (b : Bound). version (l ++ r ∷ []) b.entry b.version) t.adds.bound ∙ asks_now;
      }) (t.adds.steps ∙ ap (λ (y : List Step). y ++ x ∷ []) before.taken ∙ sym (steps-more l r a k x takes)) (t.adds.behaviour ∙ before.behaves);
      asked = subst (IsBound new) same t.asked;
      limits = subst IsWithinLimits (sym t.adds.steps) limits;
    }

no-finish-push : (s : List Step) (x : Step) → has_finish s ≡ false → is_finish x ≡ false → has_finish (s ++ x ∷ []) ≡ false
no-finish-push s x none isnt = list_any-append is_finish s (x ∷ []) ∙ rw (none, isnt) refl

module _ (known : Known) (l : List Record) (r : Record) (a : AttemptId) (k : ℕ) (x : Step) (old new : Live) (knows : Knows known (l ++ r ∷ [])) (d : Acts r a k x) (t : IsTold l a old) (h : HasTakenAt known old.slots new.slots k x) (limits : IsWithinLimits (h.run.steps ++ x ∷ [])) where
  acted-here : at_place new.slots k ≡ Some h.next
  acted-here = ap (λ (rs : List Run). at_place rs k) h.runs ∙ with-here old.slots k h.run h.next h.there

  acted-apart : (j : ℕ) → (j == k) ≡ false → at_place new.slots j ≡ at_place old.slots j
  acted-apart j apart = ap (λ (rs : List Run). at_place rs j) h.runs ∙ with-apart old.slots k j h.next apart

  slot-before : IsSlot l a k h.run
  slot-before = subst (IsSlotAt l a k) h.there (t.slots k)

  acted-slot : (j : ℕ) (z : Bool) → (j == k) ≡ z → (option_map bound_of (at_place new.slots j) ≡ bound (l ++ r ∷ []) a j) × IsSlotAt (l ++ r ∷ []) a j (at_place new.slots j)
  acted-slot j true is =
      let same : j ≡ k = eqb-true j k is in
      let now = stepped known l r a k t.started x h.run h.next knows t.start_is d.no_start (d.no_bound k) d.takes slot-before h.taken limits in
      let bounds : option_map bound_of (at_place new.slots k) ≡ bound (l ++ r ∷ []) a k =
      ap (option_map bound_of) acted-here ∙ ap (λ (b : Bound). Some b) h.taken.adds.bound ∙ ap (option_map bound_of) (sym h.there) ∙ t.bounds k ∙ sym (bound-more l r a k None (d.no_bound k)) in
      subst (λ (i : ℕ). (option_map bound_of (at_place new.slots i) ≡ bound (l ++ r ∷ []) a i) × IsSlotAt (l ++ r ∷ []) a i (at_place new.slots i)) (sym same) (bounds, subst (IsSlotAt (l ++ r ∷ []) a k) (sym acted-here) now)
  acted-slot j false is =
      let kept = slot_at-kept l r a j (at_place old.slots j) d.no_start (d.no_bound j) (d.no_step j is) (t.bounds j) (t.slots j) in
      (ap (option_map bound_of) (acted-apart j is) ∙ t.bounds j ∙ sym (bound-more l r a j None (d.no_bound j)), subst (IsSlotAt (l ++ r ∷ []) a j) (sym (acted-apart j is)) kept)

  acted-unfinished : is_finish x ≡ false → (j : ℕ) (run : Run) (z : Bool) → (j == k) ≡ z → old.ending ≡ None → at_place new.slots j ≡ Some run → has_finish run.steps ≡ false
  acted-unfinished isnt j run true is going there =
      let same : j ≡ k = eqb-true j k is in
      let one : h.next ≡ run = same-item (at_place new.slots k) h.next run acted-here (ap (at_place new.slots) (sym same) ∙ there) in
      ap (λ (y : Run). has_finish y.steps) (sym one) ∙ ap has_finish h.taken.adds.steps ∙ no-finish-push h.run.steps x (t.unfinished k h.run going h.there) isnt
  acted-unfinished isnt j run false is going there = t.unfinished j run going (sym (acted-apart j is) ∙ there)

  pub told-acted : is_finish x ≡ false → new.begun ≡ old.begun → new.ending ≡ old.ending → IsTold (l ++ r ∷ []) a new
  told-acted isnt begun ending = record {
    started = t.started;
    start_is = start-same l r a d.no_start ∙ t.start_is;
    begun_is = begun ∙ t.begun_is;
    how = ap (option_map (λ (e : Ending). e.how)) ending ∙ t.how ∙ sym (ended-same l r a d.no_end);
    place = ap (option_map (λ (e : Ending). e.place)) ending ∙ t.place ∙ sym (ended_at-same l r a d.no_end);
    count = ap length h.runs ∙ length-with old.slots k h.next ∙ t.count;
    few = (let same = ap length h.runs ∙ length-with old.slots k h.next in let most = t.few in omega arith);
    bounds = λ j. (acted-slot j (j == k) refl).0;
    slots = λ j. (acted-slot j (j == k) refl).1;
    unfinished = λ j run going there. acted-unfinished isnt j run (j == k) refl (sym ending ∙ going) there;
  }

-- ---- an end

-- a record that ends an attempt so
pub record Ends (r : Record) (a : AttemptId) (w : How) (o : Option Step) : Type 0 where
  pub no_start : starts a r ≡ None
  pub no_bound : (j : ℕ) → binds a j r ≡ None
  pub ends_it : ends a r ≡ Some w
  pub takes : (j : ℕ) → step_in a j r ≡ o

or-first : {A : Type 0} (o p : Option A) → o ≡ None → option_or o p ≡ p
or-first None p is = refl
or-first (Some x) p is = absurd cc

module _ (l : List Record) (r : Record) (a : AttemptId) (w : How) (e : Ending) (unended : ended l a ≡ None) (ends_it : ends a r ≡ Some w) where
  how-now : e.how ≡ w → Some e.how ≡ ended (l ++ r ∷ []) a
  how-now is = ap (λ (v : How). Some v) is ∙ sym (ended-more l r a (Some w) ends_it ∙ or-first (ended l a) (Some w) unended)

  place-now : e.place ≡ place (l ++ r ∷ []) a.user → Some e.place ≡ ended_at (l ++ r ∷ []) a
  place-now is = ap (λ (n : ℕ). Some n) is ∙ sym (ended_at-new l r a w unended ends_it)

going-ended : {B : Type 0} (o : Option Ending) (e : Ending) → o ≡ Some e → o ≡ None → B
going-ended o e is none = absurd cc

module _ (l : List Record) (r : Record) (a : AttemptId) (old new : Live) (e : Ending) (unended : ended l a ≡ None) (t : IsTold l a old) (is_placed : e.place ≡ place (l ++ r ∷ []) a.user) where
  pub told-abandoned : Ends r a e.how None → new ≡ record old { ending = Some e } → IsTold (l ++ r ∷ []) a new
  told-abandoned d rest = subst (IsTold (l ++ r ∷ []) a) (sym rest) (record {
    started = t.started;
    start_is = start-same l r a d.no_start ∙ t.start_is;
    begun_is = t.begun_is;
    how = how-now l r a e.how e unended d.ends_it refl;
    place = place-now l r a e.how e unended d.ends_it is_placed;
    count = t.count;
    few = t.few;
    bounds = λ k. t.bounds k ∙ sym (bound-more l r a k None (d.no_bound k));
    slots = λ k. slot_at-kept l r a k (at_place old.slots k) d.no_start (d.no_bound k) (d.takes k) (t.bounds k) (t.slots k);
    unfinished = λ k run none there. going-ended (Some e) e refl none;
  })

  module _ (known : Known) (knows : Knows known (l ++ r ∷ [])) (d : Ends r a e.how (Some step.Finish)) (h : HaveFinished known old.slots new.slots) (limits : (k : ℕ) (run : Run) → at_place old.slots k ≡ Some run → IsWithinLimits (run.steps ++ step.Finish ∷ [])) where
    finished-at : (k : ℕ) (o p : Option Run) → at_place old.slots k ≡ o → at_place new.slots k ≡ p → (option_map bound_of p ≡ bound (l ++ r ∷ []) a k) × IsSlotAt (l ++ r ∷ []) a k p
    finished-at k None None is also =
        let none : bound (l ++ r ∷ []) a k ≡ None = bound-more l r a k None (d.no_bound k) ∙ sym (t.bounds k) ∙ ap (option_map bound_of) is in
        (sym none, slot-unbound (l ++ r ∷ []) a k none)
    finished-at k None (Some n) is also = absurd (let same = place-alike new.slots old.slots k h.count in let one : is_some (at_place new.slots k) ≡ true = ap is_some also in let two : is_some (at_place old.slots k) ≡ false = ap is_some is in cc)
    finished-at k (Some run) None is also = absurd (let same = place-alike new.slots old.slots k h.count in let one : is_some (at_place new.slots k) ≡ false = ap is_some also in let two : is_some (at_place old.slots k) ≡ true = ap is_some is in cc)
    finished-at k (Some run) (Some n) is also =
        let taken = h.each k run n is also in
        let before : IsSlot l a k run = subst (IsSlotAt l a k) is (t.slots k) in (
          ap (λ (b : Bound). Some b) taken.adds.bound ∙ ap (option_map bound_of) (sym is) ∙ t.bounds k ∙ sym (bound-more l r a k None (d.no_bound k)),
          stepped known l r a k t.started step.Finish run n knows t.start_is d.no_start (d.no_bound k) (d.takes k) before taken (limits k run is),
        )

    pub told-finished : new ≡ record old { ending = Some e; slots = new.slots } → IsTold (l ++ r ∷ []) a new
    told-finished rest = subst (IsTold (l ++ r ∷ []) a) (sym rest) (record {
      started = t.started;
      start_is = start-same l r a d.no_start ∙ t.start_is;
      begun_is = t.begun_is;
      how = how-now l r a e.how e unended d.ends_it refl;
      place = place-now l r a e.how e unended d.ends_it is_placed;
      count = h.count ∙ t.count;
      few = (let same = h.count in let most = t.few in omega arith);
      bounds = λ k. (finished-at k (at_place old.slots k) (at_place new.slots k) refl refl).0;
      slots = λ k. (finished-at k (at_place old.slots k) (at_place new.slots k) refl refl).1;
      unfinished = λ k run none there. going-ended (Some e) e refl none;
    })

-- ---- a version that is bound

-- a record that binds a version to a slot
pub record Binds (r : Record) (a : AttemptId) (k : ℕ) (b : Bound) : Type 0 where
  pub no_start : starts a r ≡ None
  pub no_end : ends a r ≡ None
  pub no_step : (j : ℕ) → step_in a j r ≡ None
  pub binds_it : binds a k r ≡ Some b
  pub no_bound : (j : ℕ) → (j == k) ≡ false → binds a j r ≡ None

and-left : (b c : Bool) → b && c ≡ true → b ≡ true
and-left true c is = refl
and-left false c is = absurd cc

same-behaviour : (k k' : Kind) (b : Behaviour) → kind_number k ≡ kind_number k' → behaviour_for k b ≡ behaviour_for k' b
same-behaviour kind.Description kind.Description b same = refl
same-behaviour kind.Essay kind.Essay b same = refl
same-behaviour (kind.TrueFalse r w t) (kind.TrueFalse r' w' t') b same = refl
same-behaviour (kind.One k) (kind.One k') b same = refl
same-behaviour (kind.Several k) (kind.Several k') b same = refl
same-behaviour (kind.Matching k) (kind.Matching k') b same = refl
same-behaviour (kind.ShortAnswer k) (kind.ShortAnswer k') b same = refl
same-behaviour (kind.Numerical k) (kind.Numerical k') b same = refl
same-behaviour k k' b same = absurd (omega arith)

alike-behaviour : (p q : Question) (b : Behaviour) → same_shape (shape p) (shape q) ≡ true → behaviour_for p.kind b ≡ behaviour_for q.kind b
alike-behaviour p q b same = same-behaviour p.kind q.kind b (eqb-true (kind_number p.kind) (kind_number q.kind) (and-left (eqb (kind_number p.kind) (kind_number q.kind)) _ same))

module _ (known : Known) (l : List Record) (r : Record) (a : AttemptId) (k : ℕ) (b : Bound) (old new : Live) (knows : Knows known (l ++ r ∷ [])) (d : Binds r a k b) (t : IsTold l a old) (h : HasBoundAt known old.slots new.slots k b) (alike : (p q : Question) → IsSlot l a k h.run → version l h.run.bound.entry h.run.bound.version ≡ Some p → version (l ++ r ∷ []) b.entry b.version ≡ Some q → same_shape (shape p) (shape q) ≡ true) where
  rebound-here : at_place new.slots k ≡ Some h.next
  rebound-here = ap (λ (rs : List Run). at_place rs k) h.runs ∙ with-here old.slots k h.run h.next h.there

  rebound-apart : (j : ℕ) → (j == k) ≡ false → at_place new.slots j ≡ at_place old.slots j
  rebound-apart j apart = ap (λ (rs : List Run). at_place rs j) h.runs ∙ with-apart old.slots k j h.next apart

  run-before : IsSlot l a k h.run
  run-before = subst (IsSlotAt l a k) h.there (t.slots k)

  rebound-now : IsSlot (l ++ r ∷ []) a k h.next
  rebound-now =
      let before = playing l a k t.started h.run t.start_is run-before in
      let asks : version (l ++ r ∷ []) b.entry b.version ≡ Some h.anew.question = sym (knows.each b.entry b.version) ∙ h.anew.asks in
      let shapes = alike run-before.question h.anew.question run-before before.parts.asks asks in
      record {
        question = h.anew.question;
        slot_is = played (l ++ r ∷ []) a k t.started h.anew.question h.next (record {
          begun = start-same l r a d.no_start ∙ t.start_is;
          bound_is = bound-more l r a k (Some b) d.binds_it ∙ ap (λ (c : Bound). Some c) (sym h.anew.bound);
          asks = ap (λ (c : Bound). version (l ++ r ∷ []) c.entry c.version) h.anew.bound ∙ asks;
        }) (h.anew.steps ∙ before.taken ∙ sym (steps-same l r a k (d.no_step k))) (h.anew.behaviour ∙ before.behaves ∙ alike-behaviour run-before.question h.anew.question t.started.behaviour shapes);
        asked = h.anew.asked;
        limits = subst IsWithinLimits (sym h.anew.steps) run-before.limits;
      }

  rebound-slot : (j : ℕ) (z : Bool) → (j == k) ≡ z → (option_map bound_of (at_place new.slots j) ≡ bound (l ++ r ∷ []) a j) × IsSlotAt (l ++ r ∷ []) a j (at_place new.slots j)
  rebound-slot j true is =
      let same : j ≡ k = eqb-true j k is in
      let bounds : option_map bound_of (at_place new.slots k) ≡ bound (l ++ r ∷ []) a k = ap (option_map bound_of) rebound-here ∙ ap (λ (c : Bound). Some c) h.anew.bound ∙ sym (bound-more l r a k (Some b) d.binds_it) in
      subst (λ (i : ℕ). (option_map bound_of (at_place new.slots i) ≡ bound (l ++ r ∷ []) a i) × IsSlotAt (l ++ r ∷ []) a i (at_place new.slots i)) (sym same) (bounds, subst (IsSlotAt (l ++ r ∷ []) a k) (sym rebound-here) rebound-now)
  rebound-slot j false is =
      let kept = slot_at-kept l r a j (at_place old.slots j) d.no_start (d.no_bound j is) (d.no_step j) (t.bounds j) (t.slots j) in
      (ap (option_map bound_of) (rebound-apart j is) ∙ t.bounds j ∙ sym (bound-more l r a j None (d.no_bound j is)), subst (IsSlotAt (l ++ r ∷ []) a j) (sym (rebound-apart j is)) kept)

  rebound-unfinished : (j : ℕ) (run : Run) (z : Bool) → (j == k) ≡ z → old.ending ≡ None → at_place new.slots j ≡ Some run → has_finish run.steps ≡ false
  rebound-unfinished j run true is going there =
      let same : j ≡ k = eqb-true j k is in
      let one : h.next ≡ run = same-item (at_place new.slots k) h.next run rebound-here (ap (at_place new.slots) (sym same) ∙ there) in
      ap (λ (y : Run). has_finish y.steps) (sym one) ∙ ap has_finish h.anew.steps ∙ t.unfinished k h.run going h.there
  rebound-unfinished j run false is going there = t.unfinished j run going (sym (rebound-apart j is) ∙ there)

  pub told-rebound : new.begun ≡ old.begun → new.ending ≡ old.ending → IsTold (l ++ r ∷ []) a new
  told-rebound begun ending = record {
    started = t.started;
    start_is = start-same l r a d.no_start ∙ t.start_is;
    begun_is = begun ∙ t.begun_is;
    how = ap (option_map (λ (e : Ending). e.how)) ending ∙ t.how ∙ sym (ended-same l r a d.no_end);
    place = ap (option_map (λ (e : Ending). e.place)) ending ∙ t.place ∙ sym (ended_at-same l r a d.no_end);
    count = ap length h.runs ∙ length-with old.slots k h.next ∙ t.count;
    few = (let same = ap length h.runs ∙ length-with old.slots k h.next in let most = t.few in omega arith);
    bounds = λ j. (rebound-slot j (j == k) refl).0;
    slots = λ j. (rebound-slot j (j == k) refl).1;
    unfinished = λ j run going there. rebound-unfinished j run (j == k) refl (sym ending ∙ going) there;
  }
