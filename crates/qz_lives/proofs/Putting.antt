-- What a record of a lawful list does to the attempts, and that it may be done.
use Rattle.std.proofs.Common.{◌≡◌, ℕ, ◌+◌, ◌-◌, ◌<◌, ◌≤◌, inl, inr, Bool, true, false, not, List, [], ◌∷◌, ◌++◌, Option, Some, None, option_map, length, refl, sym, ap, subst, ◌∙◌, arith, All}
use Rattle.std.specs.BTreeMap.{get}
use Rattle.std.specs.Prelude.{◌==◌, IfSome, IsSomeAnd, ℤ, if◌then◌else◌, is_none, is_some, nat_le, option_and_then, slice_get}
use Rattle.std.proofs.Math.Seq.{take-append_seam}
use Rattle.std.proofs.lemmas.List.Elements.{All-take}
use Rattle.std.proofs.lemmas.Bool.{eqb-true, leb-true}
use Rattle.std.proofs.lemmas.Option.{slice_get_cases}
use Rattle.qz_gradebook.specs.Totals.{Gradebook, is_there}
use Rattle.qz_grading.specs.declared.question.Question.{Question}
use Rattle.qz_grading.specs.declared.refusal.AttemptId.{AttemptId}
use Rattle.qz_grading.specs.declared.refusal.Refusal.{Refusal}
use Rattle.qz_grading.specs.declared.refusal.Refusal.TheVariants as refusal
use Rattle.qz_grading.specs.declared.refusal.Thing.TheVariants as thing
use Rattle.qz_grading.specs.declared.response.Step.{Step}
use Rattle.qz_grading.specs.declared.response.Step.TheVariants as step
use Rattle.qz_grading.specs.Behaviours.{when}
use Rattle.qz_grading.specs.Grading.{at_place, is_place, shape}
use Rattle.qz_grading.specs.Shapes.{same_shape}
use Rattle.qz_grading.specs.Slots.{step_cause}
use Rattle.qz_grading.specs.Steps.{given, is_finish}
use Rattle.qz_terms.specs.declared.plan.Bound.{Bound}
use Rattle.qz_terms.specs.declared.record.Event.{Event}
use Rattle.qz_terms.specs.declared.record.Event.TheVariants as event
use Rattle.qz_terms.specs.declared.record.How.{How}
use Rattle.qz_terms.specs.declared.record.Learned.{Learned}
use Rattle.qz_terms.specs.declared.record.Record.{Record}
use Rattle.qz_terms.specs.Cause.{missing_attempt}
use Rattle.qz_terms.specs.Kept.{IsKept, KeepsEvent}
use Rattle.qz_terms.specs.Legal.{EventIsAllowed, IsAllowed, IsLegal, RebindIsAllowed}
use Rattle.qz_terms.specs.History.{Start, bound, ended, question, slot_count, start, steps, version}
use Rattle.qz_usage.specs.Runs.{IsWithinLimits, Run, behaviour_of, bound_of}
use Rattle.qz_usage.proofs.RunLemmas.{given_taken, limits_kept, taken}
use Rattle.qz_usage.proofs.StepCounts.{limits_more}
use Rattle.qz_lives.specs.declared.live.Begun.{Begun}
use Rattle.qz_lives.specs.declared.live.Ending.{Ending}
use Rattle.qz_lives.specs.declared.live.Live.{Live}
use Rattle.qz_lives.specs.declared.lives.Lives.{Lives}
use Rattle.qz_lives.specs.Attempts.{AreAttempts, IsSlot, IsSlotAt, IsTold, IsToldAs, IsUntold, by_number, live_in, run_in, slot_of}
use Rattle.qz_lives.specs.Changes.{CanAct, CanEnd, CanRebind, CanPutTotal, HasRowRoom, IsCounted, IsLawful, Knows}
use Rattle.qz_lives.specs.Runs.{CanBind, CanFinish, CanTake, HaveRoom, IsRoomy, Known}
use Rattle.qz_lives.proofs.Changing.{playing}
use Rattle.qz_lives.proofs.Effects.{IsActed, IsEnding, acted-put, begun, ended-put, first-two, quiz-there, slot-max}
use Rattle.qz_lives.proofs.Keeping.{All-seam, and-left, and-right, bound-kept, max-mark, version-kept}
use Rattle.qz_lives.proofs.Legality.{legal-before}
use Rattle.qz_lives.proofs.Places.{same-item}
use Rattle.qz_lives.proofs.Tellings.{version-more}

-- ---- what is known of the last record

pub record IsLast (l : List Record) (r : Record) : Type 0 where
  pub index : ℕ
  pub count : ℕ
  pub legal : IsLegal index count l
  pub allowed : IsAllowed index count l r
  pub before : All IsKept l
  pub kept : IsKept r
  pub all : All IsKept (l ++ r ∷ [])

All-left : {A : Type 0} (P : A → Type 0) (xs : List A) (x : A) → All P (xs ++ x ∷ []) → All P xs
All-left P xs x all = subst (All P) (take-append_seam xs (x ∷ [])) (All-take P (length xs) (xs ++ x ∷ []) all)

pub last-of : (l : List Record) (r : Record) → IsLawful (l ++ r ∷ []) → IsLast l r
last-of l r w = record {
  index = w.index;
  count = w.count;
  legal = legal-before w.index w.count l (r ∷ []) w.legal;
  allowed = w.legal.each l r [] refl;
  before = All-left IsKept l r w.kept;
  kept = All-seam IsKept l r [] w.kept;
  all = w.kept;
}

pub event-allowed : (l : List Record) (r : Record) (d : Event) → r.event ≡ d → IsLast l r → EventIsAllowed l r d
event-allowed l r d is w = subst (EventIsAllowed l r) is w.allowed.event

pub event-kept : (r : Record) (d : Event) → r.event ≡ d → IsKept r → KeepsEvent d
event-kept r d is k = subst KeepsEvent is k.event

-- ---- the attempt that is named

told-there : (m : Lives) (l : List Record) (a : AttemptId) (o : Option Live) → live_in m a ≡ o → AreAttempts m l → is_none (start l a) ≡ false → (x : Live) × (live_in m a ≡ Some x) × IsTold l a x
told-there m l a None is h there = absurd (let u : IsUntold l a = subst (IsToldAs l a) is (h.each a) in let none = u.unstarted in let both : is_none (start l a) ≡ true = ap is_none none in cc)
told-there m l a (Some x) is h there = (x, is, subst (IsToldAs l a) is (h.each a))

pub told-of : (m : Lives) (l : List Record) (a : AttemptId) → AreAttempts m l → is_none (start l a) ≡ false → (x : Live) × (live_in m a ≡ Some x) × IsTold l a x
told-of m l a h there = told-there m l a (live_in m a) refl h there

run-by : (x : Live) (k : ℕ) (z : Bool) → (k == 0) ≡ z → nat_le 1 k ≡ true → nat_le k (length x.slots) ≡ true → (run : Run) × ((if z then None else slice_get x.slots (k - 1)) ≡ Some run)
run-by x k true is some few = absurd (let one : 1 ≤ k = leb-true 1 k some in let none : k ≡ 0 = eqb-true k 0 is in omega arith)
run-by x k false is some few =
    let one : 1 ≤ k = leb-true 1 k some in
    let most : k ≤ length x.slots = leb-true k (length x.slots) few in
    elim (slice_get_cases x.slots (k - 1)).1 [
      | inl w ↦ (w.0, w.2)
      | inr w ↦ absurd (let past : length x.slots ≤ k - 1 = w.0 in omega arith)
    ]

pub run-of : (x : Live) (k : ℕ) → is_place (length x.slots) k ≡ true → (run : Run) × (at_place x.slots k ≡ Some run)
run-of x k is = run-by x k (k == 0) refl (and-left (nat_le 1 k) (nat_le k (length x.slots)) is) (and-right (nat_le 1 k) (nat_le k (length x.slots)) is)

-- ---- a step

place-by : (n : ℕ) (k : ℕ) (b : Bool) (r : Refusal) → is_place n k ≡ b → when (not b) r ≡ None → b ≡ true
place-by n k true r is none = refl
place-by n k false r is none = absurd cc

count-of : (l : List Record) (a : AttemptId) (s : Start) → start l a ≡ Some s → slot_count l a ≡ length s.bounds
count-of l a s is = rw is refl

-- an attempt, its run at a place, and a step that it may take
pub record IsAct (known : Known) (m : Lives) (l : List Record) (a : AttemptId) (k : ℕ) (x : Step) : Type 0 where
  pub live : Live
  pub there : live_in m a ≡ Some live
  pub told : IsTold l a live
  pub run : Run
  pub run_is : at_place live.slots k ≡ Some run
  pub limits : IsWithinLimits (run.steps ++ x ∷ [])
  pub can : IsRoomy run → CanTake known run x
  pub unfinished : is_finish x ≡ false

act-by : (known : Known) (m : Lives) (l : List Record) (r : Record) (a : AttemptId) (k : ℕ) (x : Step) → Knows known (l ++ r ∷ []) → AreAttempts m l → IsLast l r → IsActed l a k x → IsAct known m l a k x
act-by known m l r a k x knows h w d =
    let parts = first-two (missing_attempt l d.user a) (when (not (is_place (slot_count l a) k)) (refusal.Unknown thing.Slot)) d.there in
    let t = told-of m l a h (begun l d.user a parts.0) in
    let place : is_place (slot_count l a) k ≡ true = place-by (slot_count l a) k (is_place (slot_count l a) k) (refusal.Unknown thing.Slot) refl parts.1 in
    let counts = count-of l a t.2.started t.2.start_is in
    let run = run-of t.0 k (ap (λ (n : ℕ). is_place n k) (t.2.count ∙ sym counts) ∙ place) in
    let p : IsSlot l a k run.0 = subst (IsSlotAt l a k) run.1 (t.2.slots k) in
    let free : step_cause (behaviour_of run.0) p.question run.0.bound.max run.0.steps x ≡ None = d.causeless (slot_of run.0 p.question) p.slot_is in
    let ok = taken (behaviour_of run.0) p.question run.0.bound.max run.0.steps x free in
    let playing_so = playing l a k t.2.started run.0 t.2.start_is p in
    let max : IfSome (given x) (λ m. m.1 ≡ run.0.bound.max) = subst (λ (n : ℤ). IfSome (given x) (λ m. m.1 ≡ n)) (slot-max l a k (slot_of run.0 p.question) p.slot_is) d.max in
    let most = max-mark run.0.bound (bound-kept l a k run.0.bound w.before playing_so.parts.bound_is) in
    let limits = limits_kept (behaviour_of run.0) p.question run.0.bound.max run.0.steps x ok p.limits in
    record {
      live = t.0;
      there = t.1;
      told = t.2;
      run = run.0;
      run_is = run.1;
      limits = limits;
      can = λ roomy. record {
        question = p.question;
        asks = knows.each run.0.bound.entry run.0.bound.version ∙ version-more l r run.0.bound.entry run.0.bound.version p.question playing_so.parts.asks;
        asked = p.asked;
        room = roomy;
        fits = ok.fits;
        given = given_taken run.0.bound.max x most max ok.in_range;
        limits = limits;
      };
      unfinished = d.unfinished;
    }

pub act-of : (known : Known) (m : Lives) (l : List Record) (r : Record) (a : AttemptId) (k : ℕ) (x : Step) → Knows known (l ++ r ∷ []) → AreAttempts m l → IsLast l r → r.event ≡ event.Acted a k x → IsAct known m l a k x
act-of known m l r a k x knows h w is = act-by known m l r a k x knows h w (acted-put l r a k x is (event-allowed l r (event.Acted a k x) is w))

pub can-act : (known : Known) (m : Lives) (l : List Record) (a : AttemptId) (k : ℕ) (x : Step) → (d : IsAct known m l a k x) → CanPutTotal m.rows a d.live → IfSome (run_in m a k) IsRoomy → CanAct known m a k x
can-act known m l a k x d total room =
    let found : run_in m a k ≡ Some d.run = ap (option_and_then (λ (y : Live). at_place y.slots k)) d.there ∙ d.run_is in
    let roomy : IsRoomy d.run = subst (λ (o : Option Run). IfSome o IsRoomy) found room in
    record { live = d.live; there = d.there; can = record { run = d.run; there = d.run_is; can = d.can roomy }; total = total }

-- ---- an end

none-by : (o : Option How) → is_some o ≡ false → o ≡ None
none-by None is = refl
none-by (Some w) is = absurd cc

unended-by : (o : Option Ending) (p : Option How) → option_map (λ (e : Ending). e.how) o ≡ p → p ≡ None → o ≡ None
unended-by None p is none = refl
unended-by (Some e) p is none = absurd cc

-- an attempt that goes on
pub record IsEnd (known : Known) (m : Lives) (l : List Record) (a : AttemptId) : Type 0 where
  pub live : Live
  pub there : live_in m a ≡ Some live
  pub told : IsTold l a live
  pub unended : ended l a ≡ None
  pub limits : (k : ℕ) (run : Run) → at_place live.slots k ≡ Some run → IsWithinLimits (run.steps ++ step.Finish ∷ [])
  pub can : HaveRoom live.slots → CanFinish known live.slots

end-by : (known : Known) (m : Lives) (l : List Record) (r : Record) (a : AttemptId) → Knows known (l ++ r ∷ []) → AreAttempts m l → IsEnding l a → IsEnd known m l a
end-by known m l r a knows h d =
    let t = told-of m l a h (begun l d.user a d.there) in
    let unended : ended l a ≡ None = none-by (ended l a) d.unended in
    let going = unended-by t.0.ending (ended l a) t.2.how unended in
    let slot_at : (k : ℕ) (run : Run) → at_place t.0.slots k ≡ Some run → IsSlot l a k run = λ k run is. subst (IsSlotAt l a k) is (t.2.slots k) in
    let limits : (k : ℕ) (run : Run) → at_place t.0.slots k ≡ Some run → IsWithinLimits (run.steps ++ step.Finish ∷ []) = λ k run is. limits_more run.steps step.Finish (slot_at k run is).limits refl (λ it. t.2.unfinished k run going is) in
    record {
      live = t.0;
      there = t.1;
      told = t.2;
      unended = unended;
      limits = limits;
      can = λ room. record {
        each = λ k run is.
            let p = slot_at k run is in
            let playing_so = playing l a k t.2.started run t.2.start_is p in
            record {
              question = p.question;
              asks = knows.each run.bound.entry run.bound.version ∙ version-more l r run.bound.entry run.bound.version p.question playing_so.parts.asks;
              asked = p.asked;
              room = room.each k run is;
              fits = refl;
              given = tt;
              limits = limits k run is;
            };
      };
    }

pub end-of : (known : Known) (m : Lives) (l : List Record) (r : Record) (a : AttemptId) (w : How) → Knows known (l ++ r ∷ []) → AreAttempts m l → IsLast l r → r.event ≡ event.Ended a w → IsEnd known m l a
end-of known m l r a w knows h last is = end-by known m l r a knows h (ended-put l r a w is (event-allowed l r (event.Ended a w) is last))

pub counted : (l : List Record) (a : AttemptId) (x : Live) → IsTold l a x → IsCounted x
counted l a x t = (ap (λ (b : Begun). b.slots) t.begun_is ∙ sym t.count, t.few)

row-roomy : (o : Option Gradebook) (q : ℕ) (a : AttemptId) → IsSomeAnd o (λ (g : Gradebook). 0 < g.room) → IsSomeAnd o (λ (g : Gradebook). is_there q a g.finished ≡ false → 0 < g.room)
row-roomy None q a room = absurd room
row-roomy (Some g) q a room = λ fresh. room

pub can-end : (known : Known) (m : Lives) (l : List Record) (a : AttemptId) → (d : IsEnd known m l a) → 0 < a.nth → IfSome (live_in m a) (λ (x : Live). HaveRoom x.slots × HasRowRoom m.rows x.begun.quiz a.user) → CanEnd known m a
can-end known m l a d number room =
    let both : HaveRoom d.live.slots × HasRowRoom m.rows d.live.begun.quiz a.user = subst (λ (o : Option Live). IfSome o (λ (x : Live). HaveRoom x.slots × HasRowRoom m.rows x.begun.quiz a.user)) d.there room in
    record { live = d.live; there = d.there; counted = counted l a d.live d.told; can = d.can both.0; number = number; row = row-roomy (get by_number m.rows (d.live.begun.quiz, a.user)) d.live.begun.quiz a both.1 }

-- ---- a version that is bound

bound-by : (l : List Record) (a : AttemptId) (k : ℕ) (x : Live) (o : Option Run) (q : Question) → at_place x.slots k ≡ o → option_map bound_of o ≡ bound l a k → question l a k ≡ Some q → (run : Run) × (at_place x.slots k ≡ Some run)
bound-by l a k x None q is bounds asks = absurd (let none : bound l a k ≡ None = sym bounds in let nothing : question l a k ≡ None = ap (option_and_then (λ (b : Bound). version l b.entry b.version)) none in cc)
bound-by l a k x (Some run) q is bounds asks = (run, is)

pub record IsRebind (known : Known) (m : Lives) (l : List Record) (r : Record) (a : AttemptId) (k : ℕ) (b : Bound) : Type 0 where
  pub live : Live
  pub there : live_in m a ≡ Some live
  pub told : IsTold l a live
  pub run : Run
  pub run_is : at_place live.slots k ≡ Some run
  pub can : CanBind known run b
  pub alike : (p q : Question) → version l run.bound.entry run.bound.version ≡ Some p → version (l ++ r ∷ []) b.entry b.version ≡ Some q → same_shape (shape p) (shape q) ≡ true

rebind-by : (known : Known) (m : Lives) (l : List Record) (r : Record) (job : ℕ) (a : AttemptId) (k : ℕ) (b : Bound) (ls : List Learned) → Knows known (l ++ r ∷ []) → AreAttempts m l → IsLast l r → r.event ≡ event.Rebound job a k b ls → RebindIsAllowed l r job a k b ls → IsRebind known m l r a k b
rebind-by known m l r job a k b ls knows h w is d =
    let t = told-of m l a h (quiz-there (start l a) d.quiz d.of_quiz) in
    let run = bound-by l a k t.0 (at_place t.0.slots k) d.old refl (t.2.bounds k) d.old_is in
    let p : IsSlot l a k run.0 = subst (IsSlotAt l a k) run.1 (t.2.slots k) in
    let playing_so = playing l a k t.2.started run.0 t.2.start_is p in
    let asked_old : version l run.0.bound.entry run.0.bound.version ≡ Some d.old = ap (option_and_then (λ (c : Bound). version l c.entry c.version)) (sym playing_so.parts.bound_is) ∙ d.old_is in
    let one : d.old ≡ p.question = same-item (version l run.0.bound.entry run.0.bound.version) d.old p.question asked_old playing_so.parts.asks in
    let shapes : same_shape (shape p.question) (shape d.newer) ≡ true = ap (λ (q : Question). same_shape (shape q) (shape d.newer)) (sym one) ∙ d.same in
    let keeps : KeepsEvent (event.Rebound job a k b ls) = event-kept r (event.Rebound job a k b ls) is w.kept in
    record {
      live = t.0;
      there = t.1;
      told = t.2;
      run = run.0;
      run_is = run.1;
      can = record {
        old = p.question;
        newer = d.newer;
        asks_old = knows.each run.0.bound.entry run.0.bound.version ∙ version-more l r run.0.bound.entry run.0.bound.version p.question playing_so.parts.asks;
        asks_newer = knows.each b.entry b.version ∙ d.newer_is;
        asked = p.asked;
        is_question = version-kept (l ++ r ∷ []) b.entry b.version d.newer w.all d.newer_is;
        same = shapes;
        max = max-mark b keeps.0;
      };
      alike = λ f g older newer.
          let first = same-item (version l run.0.bound.entry run.0.bound.version) d.old f asked_old older in
          let second = same-item (version (l ++ r ∷ []) b.entry b.version) d.newer g d.newer_is newer in
          ap (λ (q : Question). same_shape (shape q) (shape g)) (sym first) ∙ ap (λ (q : Question). same_shape (shape d.old) (shape q)) (sym second) ∙ d.same;
    }

pub rebind-of : (known : Known) (m : Lives) (l : List Record) (r : Record) (job : ℕ) (a : AttemptId) (k : ℕ) (b : Bound) (ls : List Learned) → Knows known (l ++ r ∷ []) → AreAttempts m l → IsLast l r → r.event ≡ event.Rebound job a k b ls → IsRebind known m l r a k b
rebind-of known m l r job a k b ls knows h w is = rebind-by known m l r job a k b ls knows h w is (event-allowed l r (event.Rebound job a k b ls) is w)

pub can-rebind : (known : Known) (m : Lives) (l : List Record) (r : Record) (a : AttemptId) (k : ℕ) (b : Bound) → (d : IsRebind known m l r a k b) → CanPutTotal m.rows a d.live → CanRebind known m a k b
can-rebind known m l r a k b d total = record { live = d.live; there = d.there; can = record { run = d.run; there = d.run_is; can = d.can }; total = total }

-- at most once for each step that is read again, and once more
pub rebind-count : (known : Known) (m : Lives) (l : List Record) (r : Record) (a : AttemptId) (k : ℕ) (b : Bound) (before after : ℕ) → IsRebind known m l r a k b → ((run : Run) → run_in m a k ≡ Some run → after ≤ before + length run.steps + 1) → after ≤ before + (length (steps l a k) + 1)
rebind-count known m l r a k b before after d count =
    let found : run_in m a k ≡ Some d.run = ap (option_and_then (λ (y : Live). at_place y.slots k)) d.there ∙ d.run_is in
    let p : IsSlot l a k d.run = subst (IsSlotAt l a k) d.run_is (d.told.slots k) in
    let same : length d.run.steps ≡ length (steps l a k) = ap length (playing l a k d.told.started d.run d.told.start_is p).taken in
    let few = count d.run found in
    omega arith
