-- The attempts of a list with one more record.
use Rattle.std.proofs.Common.{◌≡◌, ℕ, ◌≤◌, eqb, Bool, true, false, not, ◌&&◌, List, [], ◌∷◌, ◌++◌, Option, Some, None, length, refl, sym, ap, subst, ◌∙◌, eq-eqb}
use Rattle.std.specs.Prelude.{is_some, nat_le}
use Rattle.std.specs.List.{list_all}
use Rattle.std.specs.Option.{option_or}
use Rattle.std.proofs.Math.Bool.{and-false}
use Rattle.std.proofs.lemmas.Bool.{eqb-true, leb-true}
use Rattle.qz_grading.specs.declared.outcome.Behaviour.{Behaviour}
use Rattle.qz_grading.specs.declared.question.Shape.{Shape}
use Rattle.qz_grading.specs.declared.refusal.AttemptId.{AttemptId}
use Rattle.qz_grading.specs.declared.response.Step.{Step}
use Rattle.qz_grading.specs.declared.response.Step.TheVariants as step
use Rattle.qz_grading.specs.Grading.{at_place}
use Rattle.qz_terms.specs.declared.plan.Bound.{Bound}
use Rattle.qz_terms.specs.declared.record.Event.{Event}
use Rattle.qz_terms.specs.declared.record.Event.TheVariants as event
use Rattle.qz_terms.specs.declared.record.How.{How}
use Rattle.qz_terms.specs.declared.record.How.TheVariants as how
use Rattle.qz_terms.specs.declared.record.Learned.{Learned}
use Rattle.qz_terms.specs.declared.record.Record.{Record}
use Rattle.qz_terms.specs.Kept.{KeepsEvent, is_bound}
use Rattle.qz_terms.specs.Legal.{EventIsAllowed, StartIsAllowed, is_here, owner_by}
use Rattle.qz_terms.specs.History.{Start, ended, ends, finish_of, is_ended, place, same_attempt, start, started, starts, version}
use Rattle.qz_usage.specs.Runs.{IsWithinLimits, Run}
use Rattle.qz_lives.specs.declared.live.Ending.{Ending}
use Rattle.qz_lives.specs.declared.live.Live.{Live}
use Rattle.qz_lives.specs.declared.lives.Lives.{Lives}
use Rattle.qz_lives.specs.Attempts.{AreAttempts, IsTold, IsToldAs, IsUntold, goes_on_in, live_in}
use Rattle.qz_lives.specs.Changes.{Becomes, HasAbandoned, HasActed, HasFinished, HasRebound, Knows}
use Rattle.qz_lives.specs.Runs.{AreFresh, Known}
use Rattle.qz_lives.proofs.Changing.{Acts, Begins, Binds, Ends, Spares, told-abandoned, told-acted, told-begun, told-finished, told-rebound, told_as-spared}
use Rattle.qz_lives.proofs.Effects.{attempt_of, begins-first, one-attempt}
use Rattle.qz_lives.proofs.Keeping.{and-left}
use Rattle.qz_lives.proofs.Legality.{started-number}
use Rattle.qz_lives.proofs.Places.{same-item}
use Rattle.qz_lives.proofs.Putting.{IsAct, IsEnd, IsLast, IsRebind, event-allowed, event-kept}
use Rattle.qz_lives.proofs.Tellings.{ended-more, ended-same, start-more, start-same}

-- ---- attempts that are one, or apart

pub self-same : (a : AttemptId) → same_attempt a a ≡ true
self-same a = rw (eq-eqb a.user a.user refl, eq-eqb a.nth a.nth refl) refl

flip-by : (a b : AttemptId) (z : Bool) → same_attempt b a ≡ z → same_attempt a b ≡ false → z ≡ false
flip-by a b true is apart = absurd (let one = one-attempt b a is in let same : same_attempt a b ≡ true = ap (same_attempt a) one ∙ self-same a in cc)
flip-by a b false is apart = refl

pub flip : (a b : AttemptId) → same_attempt a b ≡ false → same_attempt b a ≡ false
flip a b apart = flip-by a b (same_attempt b a) refl apart

-- ---- what a record does, by its event

pub spares-started : (r : Record) (q n : ℕ) (h : Behaviour) (bs : List Bound) (ls : List Learned) (b : AttemptId) → r.event ≡ event.Started q n h bs ls → same_attempt (attempt_of r.owner n) b ≡ false → Spares r b
spares-started r q n h bs ls b is apart =
    let other = flip (attempt_of r.owner n) b apart in
    record { no_start = rw (is, other) refl; no_end = rw is refl; no_bound = λ k. rw (is, other) refl; no_step = λ k. rw is refl }

pub spares-acted : (r : Record) (a : AttemptId) (k : ℕ) (x : Step) (b : AttemptId) → r.event ≡ event.Acted a k x → same_attempt a b ≡ false → Spares r b
spares-acted r a k x b is apart =
    let other = flip a b apart in
    record { no_start = rw is refl; no_end = rw is refl; no_bound = λ j. rw is refl; no_step = λ j. rw (is, other) refl }

pub spares-ended : (r : Record) (a : AttemptId) (w : How) (b : AttemptId) → r.event ≡ event.Ended a w → same_attempt a b ≡ false → Spares r b
spares-ended r a w b is apart =
    let other = flip a b apart in
    record { no_start = rw is refl; no_end = rw (is, other) refl; no_bound = λ j. rw is refl; no_step = λ j. rw (is, other) refl }

pub spares-rebound : (r : Record) (job : ℕ) (a : AttemptId) (k : ℕ) (c : Bound) (ls : List Learned) (b : AttemptId) → r.event ≡ event.Rebound job a k c ls → same_attempt a b ≡ false → Spares r b
spares-rebound r job a k c ls b is apart =
    let other = flip a b apart in
    record { no_start = rw is refl; no_end = rw is refl; no_bound = λ j. rw (is, other) refl; no_step = λ j. rw is refl }

acts-so : (r : Record) (a : AttemptId) (k : ℕ) (x : Step) → r.event ≡ event.Acted a k x → Acts r a k x
acts-so r a k x is = record {
  no_start = rw is refl;
  no_end = rw is refl;
  no_bound = λ j. rw is refl;
  takes = rw (is, self-same a, eq-eqb k k refl) refl;
  no_step = λ j apart. rw (is, self-same a, apart) refl;
}

ends-so : (r : Record) (a : AttemptId) (w : How) → r.event ≡ event.Ended a w → Ends r a w (finish_of w)
ends-so r a w is = record {
  no_start = rw is refl;
  no_bound = λ j. rw is refl;
  ends_it = rw (is, self-same a) refl;
  takes = λ j. rw (is, self-same a) refl;
}

binds-so : (r : Record) (job : ℕ) (a : AttemptId) (k : ℕ) (b : Bound) (ls : List Learned) → r.event ≡ event.Rebound job a k b ls → Binds r a k b
binds-so r job a k b ls is = record {
  no_start = rw is refl;
  no_end = rw is refl;
  no_step = λ j. rw is refl;
  binds_it = rw (is, self-same a, eq-eqb k k refl) refl;
  no_bound = λ j apart. rw (is, self-same a, apart) refl;
}

-- ---- all attempts, where one becomes another

module _ (m n : Lives) (l : List Record) (r : Record) (a : AttemptId) (x : Live) (goes_on : Bool) (h : AreAttempts m l) (d : Becomes m n a x goes_on) (spares : (b : AttemptId) → same_attempt a b ≡ false → Spares r b) (told : IsTold (l ++ r ∷ []) a x) (going : goes_on ≡ (is_some (start (l ++ r ∷ []) a) && not (is_ended (l ++ r ∷ []) a))) where
  told-all : (b : AttemptId) (z : Bool) → same_attempt a b ≡ z → IsToldAs (l ++ r ∷ []) b (live_in n b)
  told-all b true is = subst (λ (c : AttemptId). IsToldAs (l ++ r ∷ []) c (live_in n c)) (one-attempt a b is) (subst (IsToldAs (l ++ r ∷ []) a) (sym d.here) told)
  told-all b false is = subst (IsToldAs (l ++ r ∷ []) b) (sym (d.others b is)) (told_as-spared l r b (spares b is) (live_in m b) (h.each b))

  going-all : (b : AttemptId) (z : Bool) → same_attempt a b ≡ z → goes_on_in n b ≡ (is_some (start (l ++ r ∷ []) b) && not (is_ended (l ++ r ∷ []) b))
  going-all b true is = subst (λ (c : AttemptId). goes_on_in n c ≡ (is_some (start (l ++ r ∷ []) c) && not (is_ended (l ++ r ∷ []) c))) (one-attempt a b is) (d.going ∙ going)
  going-all b false is =
      let s = spares b is in
      d.going_others b is ∙ h.going b ∙ sym (rw (start-same l r b s.no_start, ended-same l r b s.no_end) refl)

  pub lives-more : AreAttempts n (l ++ r ∷ [])
  lives-more = record { each = λ b. told-all b (same_attempt a b) refl; going = λ b. going-all b (same_attempt a b) refl }

-- a record that tells nothing of any attempt
pub lives-spared : (m : Lives) (l : List Record) (r : Record) → ((b : AttemptId) → Spares r b) → AreAttempts m l → AreAttempts m (l ++ r ∷ [])
lives-spared m l r spares h = record {
  each = λ b. told_as-spared l r b (spares b) (live_in m b) (h.each b);
  going = λ b. h.going b ∙ sym (rw (start-same l r b (spares b).no_start, ended-same l r b (spares b).no_end) refl);
}

pub told-as : (m : Lives) (l : List Record) (a : AttemptId) (x : Live) → AreAttempts m l → live_in m a ≡ Some x → IsTold l a x
told-as m l a x h is = subst (IsToldAs l a) is (h.each a)

-- where neither the start nor the end changes
going-same : (m : Lives) (l : List Record) (r : Record) (a : AttemptId) → AreAttempts m l → starts a r ≡ None → ends a r ≡ None → goes_on_in m a ≡ (is_some (start (l ++ r ∷ []) a) && not (is_ended (l ++ r ∷ []) a))
going-same m l r a h no_start no_end = h.going a ∙ sym (rw (start-same l r a no_start, ended-same l r a no_end) refl)

-- ---- each event

same-run : (m : Lives) (a : AttemptId) (k : ℕ) (x y : Live) (p q : Run) → live_in m a ≡ Some x → live_in m a ≡ Some y → at_place x.slots k ≡ Some p → at_place y.slots k ≡ Some q → p ≡ q
same-run m a k x y p q one two first second =
    let same = same-item (live_in m a) x y one two in
    same-item (at_place y.slots k) p q (ap (λ (z : Live). at_place z.slots k) (sym same) ∙ first) second

pub lives-acted : (known : Known) (m n : Lives) (l : List Record) (r : Record) (a : AttemptId) (k : ℕ) (x : Step) → Knows known (l ++ r ∷ []) → AreAttempts m l → IsAct known m l a k x → r.event ≡ event.Acted a k x → HasActed known m n a k x → AreAttempts n (l ++ r ∷ [])
lives-acted known m n l r a k x knows h d is o =
    let does = acts-so r a k x is in
    let limits : IsWithinLimits (o.taken.run.steps ++ x ∷ []) = subst (λ (y : Run). IsWithinLimits (y.steps ++ x ∷ [])) (same-run m a k d.live o.live d.run o.taken.run d.there o.there d.run_is o.taken.there) d.limits in
    lives-more m n l r a o.next (goes_on_in m a) h o.becomes (λ b apart. spares-acted r a k x b is apart)
    (told-acted known l r a k x o.live o.next knows does (told-as m l a o.live h o.there) o.taken limits d.unfinished (ap (λ (y : Live). y.begun) o.rest) (ap (λ (y : Live). y.ending) o.rest))
    (going-same m l r a h does.no_start does.no_end)

pub lives-rebound : (known : Known) (m n : Lives) (l : List Record) (r : Record) (job : ℕ) (a : AttemptId) (k : ℕ) (b : Bound) (ls : List Learned) → Knows known (l ++ r ∷ []) → AreAttempts m l → IsRebind known m l r a k b → r.event ≡ event.Rebound job a k b ls → HasRebound known m n a k b → AreAttempts n (l ++ r ∷ [])
lives-rebound known m n l r job a k b ls knows h d is o =
    let does = binds-so r job a k b ls is in
    let same = same-run m a k d.live o.live d.run o.anew.run d.there o.there d.run_is o.anew.there in
    lives-more m n l r a o.next (goes_on_in m a) h o.becomes (λ c apart. spares-rebound r job a k b ls c is apart)
    (told-rebound known l r a k b o.live o.next knows does (told-as m l a o.live h o.there) o.anew
    (λ p q plays older newer. d.alike p q (ap (λ (y : Run). version l y.bound.entry y.bound.version) same ∙ older) newer)
    (ap (λ (y : Live). y.begun) o.rest) (ap (λ (y : Live). y.ending) o.rest))
    (going-same m l r a h does.no_start does.no_end)

user-of : (index count : ℕ) (r : Record) (a : AttemptId) (w : How) (d : Event) → r.event ≡ event.Ended a w → owner_by index count r r.event ≡ true → r.owner ≡ a.user
user-of index count r a w d is owner = eqb-true r.owner a.user (and-left (eqb r.owner a.user) (is_here index count a.user) (ap (owner_by index count r) (sym is) ∙ owner))

or-last : {A : Type 0} (o : Option A) (x : A) → is_some (option_or o (Some x)) ≡ true
or-last None x = refl
or-last (Some y) x = refl

going-ended : (l : List Record) (r : Record) (a : AttemptId) (w : How) → ends a r ≡ Some w → false ≡ (is_some (start (l ++ r ∷ []) a) && not (is_ended (l ++ r ∷ []) a))
going-ended l r a w is =
    let ended_now : is_ended (l ++ r ∷ []) a ≡ true = ap is_some (ended-more l r a (Some w) is) ∙ or-last (ended l a) w in
    sym (ap (λ (t : Bool). is_some (start (l ++ r ∷ []) a) && not t) ended_now ∙ and-false (is_some (start (l ++ r ∷ []) a)))

module _ (known : Known) (m n : Lives) (l : List Record) (r : Record) (a : AttemptId) (e : Ending) (knows : Knows known (l ++ r ∷ [])) (h : AreAttempts m l) (last : IsLast l r) (d : IsEnd known m l a) (is_placed : e.place ≡ place (l ++ r ∷ []) r.owner) where
  placed-so : r.event ≡ event.Ended a e.how → e.place ≡ place (l ++ r ∷ []) a.user
  placed-so is = is_placed ∙ ap (place (l ++ r ∷ [])) (user-of last.index last.count r a e.how r.event is last.allowed.owner)

  pub lives-finished : e.how ≡ how.Finished → r.event ≡ event.Ended a e.how → HasFinished known m n a e → AreAttempts n (l ++ r ∷ [])
  lives-finished finishes is o =
      let does : Ends r a e.how (Some step.Finish) = subst (λ (f : Option Step). Ends r a e.how f) (ap finish_of finishes) (ends-so r a e.how is) in
      let limits = subst (λ (y : Live). (k : ℕ) (run : Run) → at_place y.slots k ≡ Some run → IsWithinLimits (run.steps ++ step.Finish ∷ [])) (same-item (live_in m a) d.live o.live d.there o.there) d.limits in
      lives-more m n l r a o.next false h o.becomes (λ b apart. spares-ended r a e.how b is apart)
      (told-finished l r a o.live o.next e d.unended (told-as m l a o.live h o.there) (placed-so is) known knows does o.finished limits o.rest)
      (going-ended l r a e.how does.ends_it)

  pub lives-abandoned : e.how ≡ how.Abandoned → r.event ≡ event.Ended a e.how → HasAbandoned m n a e → AreAttempts n (l ++ r ∷ [])
  lives-abandoned abandons is o =
      let does : Ends r a e.how None = subst (λ (f : Option Step). Ends r a e.how f) (ap finish_of abandons) (ends-so r a e.how is) in
      lives-more m n l r a (record o.live { ending = Some e }) false h o.becomes (λ b apart. spares-ended r a e.how b is apart)
      (told-abandoned l r a o.live (record o.live { ending = Some e }) e d.unended (told-as m l a o.live h o.there) (placed-so is) does refl)
      (going-ended l r a e.how does.ends_it)

pub untold-by : (l : List Record) (a : AttemptId) (o : Option Live) → IsToldAs l a o → start l a ≡ None → IsUntold l a
untold-by l a None t none = t
untold-by l a (Some x) t none = absurd (let some = t.start_is in cc)

pub lives-started : (known : Known) (m n : Lives) (l : List Record) (r : Record) (q k : ℕ) (b : Behaviour) (bs : List Bound) (ls : List Learned) (x : Live) → Knows known (l ++ r ∷ []) → AreAttempts m l → IsLast l r → r.event ≡ event.Started q k b bs ls
    → x.begun ≡ record { moment = r.moment; quiz = q; behaviour = b; slots = length bs } → x.ending ≡ None → AreFresh known b bs x.slots → Becomes m n (attempt_of r.owner k) x true → AreAttempts n (l ++ r ∷ [])
lives-started known m n l r q k b bs ls x knows h last is begun ending fresh o =
    let a = attempt_of r.owner k in
    let told : Start = record { attempt = a; moment = r.moment; quiz = q; behaviour = b; bounds = bs } in
    let allowed : StartIsAllowed l r q bs ls = event-allowed l r (event.Started q k b bs ls) is last in
    let first : start l a ≡ None = begins-first last.index last.count l r.owner k (start l a) last.legal (started-number l r q k b bs ls is allowed.is_put) refl in
    let keeps : KeepsEvent (event.Started q k b bs ls) = event-kept r (event.Started q k b bs ls) is last.kept in
    let does : Begins l r a told = record {
      first = first;
      starts_it = rw (is, self-same a) refl;
      binds_it = λ j. rw (is, self-same a) refl;
      no_step = λ j. rw is refl;
      no_end = rw is refl;
    } in
    let u = untold-by l a (live_in m a) (h.each a) first in
    let few : length bs ≤ 200 = leb-true (length bs) 200 (and-left (nat_le (length bs) 200) (list_all is_bound bs) keeps.0) in
    let starts_now : start (l ++ r ∷ []) a ≡ Some told = start-more l r a (Some told) does.starts_it ∙ ap (λ (s : Option Start). option_or s (Some told)) first in
    let unended : ended (l ++ r ∷ []) a ≡ None = ended-same l r a does.no_end ∙ u.unended in
    lives-more m n l r a x true h o (λ c apart. spares-started r q k b bs ls c is apart)
    (told-begun known l r a told x knows does u fresh few begun ending)
    (sym (rw (starts_now, unended) refl))

-- ---- a record that tells nothing of any attempt

pub record IsQuiet (r : Record) : Type 0 where
  pub spares : (b : AttemptId) → Spares r b
  pub no_start : started r ≡ None

quiet-noted : (r : Record) (a : AttemptId) (k : ℕ) (x : Step) → r.event ≡ event.Noted a k x → IsQuiet r
quiet-noted r a k x is = record { spares = λ b. record { no_start = rw is refl; no_end = rw is refl; no_bound = λ j. rw is refl; no_step = λ j. rw is refl }; no_start = rw is refl }

quiet-skipped : (r : Record) (job : ℕ) (a : AttemptId) (k : ℕ) (x y : Shape) → r.event ≡ event.Skipped job a k x y → IsQuiet r
quiet-skipped r job a k x y is = record { spares = λ b. record { no_start = rw is refl; no_end = rw is refl; no_bound = λ j. rw is refl; no_step = λ j. rw is refl }; no_start = rw is refl }

quiet-done : (r : Record) (job q p : ℕ) → r.event ≡ event.JobDone job q p → IsQuiet r
quiet-done r job q p is = record { spares = λ b. record { no_start = rw is refl; no_end = rw is refl; no_bound = λ j. rw is refl; no_step = λ j. rw is refl }; no_start = rw is refl }

pub quiet : (l : List Record) (r : Record) (d : Event) → r.event ≡ d → EventIsAllowed l r d
    → ((q n : ℕ) (b : Behaviour) (bs : List Bound) (ls : List Learned) → r.event ≡ event.Started q n b bs ls → ⊥) → ((a : AttemptId) (k : ℕ) (x : Step) → r.event ≡ event.Acted a k x → ⊥)
    → ((a : AttemptId) (w : How) → r.event ≡ event.Ended a w → ⊥) → ((job : ℕ) (a : AttemptId) (k : ℕ) (b : Bound) (ls : List Learned) → r.event ≡ event.Rebound job a k b ls → ⊥) → IsQuiet r
quiet l r (event.Founded shards token) is allowed no_start no_act no_end no_bound = absurd allowed
quiet l r (event.Asked x) is allowed no_start no_act no_end no_bound = absurd allowed
quiet l r (event.Started q n b bs ls) is allowed no_start no_act no_end no_bound = absurd (no_start q n b bs ls is)
quiet l r (event.Acted a k x) is allowed no_start no_act no_end no_bound = absurd (no_act a k x is)
quiet l r (event.Noted a k x) is allowed no_start no_act no_end no_bound = quiet-noted r a k x is
quiet l r (event.Ended a w) is allowed no_start no_act no_end no_bound = absurd (no_end a w is)
quiet l r (event.Rebound job a k b ls) is allowed no_start no_act no_end no_bound = absurd (no_bound job a k b ls is)
quiet l r (event.Skipped job a k x y) is allowed no_start no_act no_end no_bound = quiet-skipped r job a k x y is
quiet l r (event.JobDone job q p) is allowed no_start no_act no_end no_bound = quiet-done r job q p is
