-- What may be grown for a record, and that growth changes nothing that is read.
use Rattle.std.proofs.Common.{◌≡◌, ℕ, ◌≤◌, true, false, List, [], ◌∷◌, ◌++◌, Option, Some, None, option_map, length, get_or, refl, sym, ap, subst, ◌∙◌, All}
use Rattle.std.specs.Prelude.{is_some, nat_le, slice_get}
use Rattle.std.specs.List.{list_all}
use Rattle.std.proofs.lemmas.Bool.{leb-true}
use Rattle.std.proofs.lemmas.Option.{slice_get-get_or}
use Rattle.qz_grading.specs.declared.outcome.Behaviour.{Behaviour}
use Rattle.qz_grading.specs.declared.refusal.AttemptId.{AttemptId}
use Rattle.qz_grading.specs.Grading.{at_place}
use Rattle.qz_grading.specs.Steps.{has_finish}
use Rattle.qz_terms.specs.declared.plan.Bound.{Bound}
use Rattle.qz_terms.specs.declared.record.Event.TheVariants as event
use Rattle.qz_terms.specs.declared.record.Learned.{Learned}
use Rattle.qz_terms.specs.declared.record.Record.{Record}
use Rattle.qz_terms.specs.Kept.{KeepsEvent, is_bound}
use Rattle.qz_terms.specs.Legal.{LearnsNew, StartIsAllowed}
use Rattle.qz_terms.specs.History.{bound, learned_by}
use Rattle.qz_usage.specs.Runs.{Run, bound_of}
use Rattle.qz_isolation.proofs.Versions.{learned-after}
use Rattle.qz_lives.specs.declared.live.Ending.{Ending}
use Rattle.qz_lives.specs.declared.live.Live.{Live}
use Rattle.qz_lives.specs.declared.lives.Lives.{Lives}
use Rattle.qz_lives.specs.Attempts.{AreLives, AreRows, IsSlot, IsSlotAt, IsTold, IsToldAs, RowMap, finished_in, goes_on_in, live_in}
use Rattle.qz_lives.specs.Changes.{AreAlike, IsAlike, Knows}
use Rattle.qz_lives.specs.Ones.{IsRoomier}
use Rattle.qz_lives.specs.Runs.{CanOpen, Known}
use Rattle.qz_lives.proofs.Keeping.{all-at, and-left, and-right, max-mark, version-kept}
use Rattle.qz_lives.proofs.Places.{place-alike}
use Rattle.qz_lives.proofs.Putting.{IsLast, event-allowed, event-kept}

-- ---- more room

none-alike : (xs ys : List Run) (k : ℕ) (o : Option Run) → length ys ≡ length xs → at_place xs k ≡ None → at_place ys k ≡ o → o ≡ None
none-alike xs ys k None same none is = refl
none-alike xs ys k (Some r) same none is = absurd (let alike = place-alike ys xs k same in let one : is_some (at_place ys k) ≡ true = ap is_some is in let two : is_some (at_place xs k) ≡ false = ap is_some none in cc)

module _ (h : List Record) (a : AttemptId) (l m : Live) (more : IsRoomier l m) (t : IsTold h a l) where
  roomier-slot : (k : ℕ) (o : Option Run) → at_place l.slots k ≡ o → (option_map bound_of (at_place m.slots k) ≡ bound h a k) × IsSlotAt h a k (at_place m.slots k)
  roomier-slot k None is =
      let none : at_place m.slots k ≡ None = none-alike l.slots m.slots k (at_place m.slots k) more.slots.count is refl in
      (ap (option_map bound_of) (none ∙ sym is) ∙ t.bounds k, subst (IsSlotAt h a k) (is ∙ sym none) (t.slots k))
  roomier-slot k (Some r) is =
      let now = more.slots.each k r is in
      let p : IsSlot h a k r = subst (IsSlotAt h a k) is (t.slots k) in
      let q : IsSlot h a k (record r { room = now.0 }) = record { question = p.question; slot_is = p.slot_is; asked = record { question = p.asked.question; played = p.asked.played; fits = p.asked.fits }; limits = p.limits } in
      (ap (option_map bound_of) now.1 ∙ ap (option_map bound_of) (sym is) ∙ t.bounds k, subst (IsSlotAt h a k) (sym now.1) q)

  roomier-unfinished : (k : ℕ) (r : Run) (o : Option Run) → at_place l.slots k ≡ o → m.ending ≡ None → at_place m.slots k ≡ Some r → has_finish r.steps ≡ false
  roomier-unfinished k r None is going there = absurd (let none : Some r ≡ None = none-alike l.slots m.slots k (Some r) more.slots.count is there in cc)
  roomier-unfinished k r (Some q) is going there =
      let now = more.slots.each k q is in
      let same : record q { room = now.0 } ≡ r = cc in
      ap (λ (x : Run). has_finish x.steps) (sym same) ∙ t.unfinished k q (sym more.ending ∙ going) is

  told-roomier : IsTold h a m
  told-roomier = record {
    started = t.started;
    start_is = t.start_is;
    begun_is = more.begun ∙ t.begun_is;
    how = ap (option_map (λ (e : Ending). e.how)) more.ending ∙ t.how;
    place = ap (option_map (λ (e : Ending). e.place)) more.ending ∙ t.place;
    count = more.slots.count ∙ t.count;
    few = subst (λ (n : ℕ). n ≤ 200) (sym more.slots.count) t.few;
    bounds = λ k. (roomier-slot k (at_place l.slots k) refl).0;
    slots = λ k. (roomier-slot k (at_place l.slots k) refl).1;
    unfinished = λ k r going there. roomier-unfinished k r (at_place l.slots k) refl going there;
  }

told_as-alike : (h : List Record) (a : AttemptId) (o p : Option Live) → IsAlike o p → IsToldAs h a o → IsToldAs h a p
told_as-alike h a None p same t = subst (IsToldAs h a) (sym same) t
told_as-alike h a (Some l) p same t = subst (IsToldAs h a) (sym same.1) (told-roomier h a l same.0 same.2 t)

pub lives-alike : (m n : Lives) → AreAlike m n → (h : List Record) → AreLives m h → AreLives n h
lives-alike m n same h lives = record {
  attempts = record {
    each = λ a. told_as-alike h a (live_in m a) (live_in n a) (same.lives a) (lives.attempts.each a);
    going = λ a. same.going a ∙ lives.attempts.going a;
  };
  rows = subst (λ (rows : RowMap). AreRows rows h) (sym same.rows) lives.rows;
}

-- where a row has more room
pub lives-rowed : (m n : Lives) → n ≡ record m { rows = n.rows } → ((q u : ℕ) → finished_in n.rows q u ≡ finished_in m.rows q u) → (h : List Record) → AreLives m h → AreLives n h
lives-rowed m n rest same h lives = record {
  attempts = record {
    each = λ a. subst (IsToldAs h a) (sym (ap (λ (k : Lives). live_in k a) rest)) (lives.attempts.each a);
    going = λ a. ap (λ (k : Lives). goes_on_in k a) rest ∙ lives.attempts.going a;
  };
  rows = record { each = λ q u. same q u ∙ lives.rows.each q u };
}

-- an attempt that was there is there still
there-still : (o p : Option Live) → IsAlike o p → is_some o ≡ true → is_some p ≡ true
there-still None p same there = absurd cc
there-still (Some l) p same there = ap is_some same.1

pub still-there : (m n : Lives) (a : AttemptId) → AreAlike m n → is_some (live_in m a) ≡ true → is_some (live_in n a) ≡ true
still-there m n a same there = there-still (live_in m a) (live_in n a) (same.lives a) there

-- ---- a start

can-open : (known : Known) (l : List Record) (r : Record) (q n : ℕ) (p : Behaviour) (bs : List Bound) (ls : List Learned) → Knows known (l ++ r ∷ []) → IsLast l r → r.event ≡ event.Started q n p bs ls → (i : ℕ) (b : Bound) → slice_get bs i ≡ Some b → CanOpen known b
can-open known l r q n p bs ls knows w is i b there =
    let allowed : StartIsAllowed l r q bs ls = event-allowed l r (event.Started q n p bs ls) is w in
    let learns : LearnsNew l bs (learned_by r.event) = subst (LearnsNew l bs) (ap learned_by (sym is)) allowed.learns in
    let keeps : KeepsEvent (event.Started q n p bs ls) = event-kept r (event.Started q n p bs ls) is w.kept in
    let found = learned-after l r bs i b learns there in
    record {
      question = found.0;
      asks = knows.each b.entry b.version ∙ found.1;
      is_question = version-kept (l ++ r ∷ []) b.entry b.version found.0 w.all found.1;
      max = max-mark b (all-at is_bound bs i b (and-right (nat_le (length bs) 200) (list_all is_bound bs) keeps.0) there);
    }

pub can-open-all : (known : Known) (l : List Record) (r : Record) (q n : ℕ) (p : Behaviour) (bs cs : List Bound) (ls : List Learned) → Knows known (l ++ r ∷ []) → IsLast l r → r.event ≡ event.Started q n p bs ls → cs ≡ bs → All (CanOpen known) cs
can-open-all known l r q n p bs cs ls knows w is same = subst (All (CanOpen known)) (sym same) (λ i d less. can-open known l r q n p bs ls knows w is i (get_or bs i d) (slice_get-get_or bs i d less))

pub few-bounds : (l : List Record) (r : Record) (q n : ℕ) (p : Behaviour) (bs cs : List Bound) (ls : List Learned) → IsLast l r → r.event ≡ event.Started q n p bs ls → cs ≡ bs → length cs ≤ 200
few-bounds l r q n p bs cs ls w is same =
    let keeps : KeepsEvent (event.Started q n p bs ls) = event-kept r (event.Started q n p bs ls) is w.kept in
    subst (λ (x : List Bound). length x ≤ 200) (sym same) (leb-true (length bs) 200 (and-left (nat_le (length bs) 200) (list_all is_bound bs) keeps.0))
