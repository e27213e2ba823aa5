-- Jobs that are done, floors and skipped slots, one record more at a time.
use Rattle.std.proofs.Common.{◌≡◌, ℕ, ◌+◌, max, Bool, true, false, List, [], ◌∷◌, ◌++◌, Option, Some, None, length, length-append, refl, sym, ap, ◌∙◌, arith}
use Rattle.std.specs.BTreeMap.{Updates}
use Rattle.std.specs.List.{list_any}
use Rattle.std.specs.Option.{option_or}
use Rattle.std.specs.Ordering.{is_eq, nat_cmp, ordering_then}
use Rattle.std.specs.Prelude.{◌&&◌, ◌||◌, ◌==◌, fold, filter_map, if◌then◌else◌, option_to_list, unwrap_or}
use Rattle.std.proofs.lemmas.Bool.{eqb-true}
use Rattle.std.proofs.lemmas.Grind.{fold-append}
use Rattle.std.proofs.lemmas.List.Folds.{list_any-append}
use Rattle.qz_lemmas.proofs.Numbers.{number-tie, number-turned}
use Rattle.qz_lemmas.proofs.Options.{or-none}
use Rattle.qz_room.proofs.Filled.{filled, filled_by, then_at}
use Rattle.qz_grading.specs.declared.refusal.AttemptId.{AttemptId}
use Rattle.qz_grading.specs.declared.question.Shape.{Shape}
use Rattle.qz_terms.specs.declared.record.Event.{Event}
use Rattle.qz_terms.specs.declared.record.Event.TheVariants as event
use Rattle.qz_terms.specs.declared.record.Record.{Record}
use Rattle.qz_terms.specs.History.{done_by, floor, floor_by, is_done, is_done_in, is_skipped, same_attempt, skips, skips_by}
use Rattle.qz_terms.specs.Lists.{up_to_first}
use Rattle.qz_terms.proofs.Walks.{all_of-push}
use Rattle.qz_index.specs.declared.done.DoneJobs.{DoneJobs}
use Rattle.qz_index.specs.declared.floors.Floors.{Floors}
use Rattle.qz_index.specs.declared.skips.Skips.{Skips}
use Rattle.qz_index.specs.Jobs.{AreDone, AreFloors, AreSkipped, done_in, skip_cmp, skip_of}

-- ---- the key of a slot under a job

and-grouped : (a b c : Bool) → (a && (b && c)) ≡ ((a && b) && c)
and-grouped true b c = refl
and-grouped false b c = refl

skip_at : (job : ℕ) (b : AttemptId) (slot : ℕ) (j : ℕ) (a : AttemptId) (k : ℕ) → is_eq (skip_cmp (skip_of job b slot) (skip_of j a k)) ≡ (job == j) && (same_attempt a b && (k == slot))
skip_at job b slot j a k =
    then_at (nat_cmp job j) (ordering_then (nat_cmp b.user a.user) (ordering_then (nat_cmp b.nth a.nth) (nat_cmp slot k)))
    ∙ ap (λ (c : Bool). is_eq (nat_cmp job j) && c) (then_at (nat_cmp b.user a.user) (ordering_then (nat_cmp b.nth a.nth) (nat_cmp slot k)) ∙ ap (λ (c : Bool). is_eq (nat_cmp b.user a.user) && c) (then_at (nat_cmp b.nth a.nth) (nat_cmp slot k)))
    ∙ rw (number-tie job j, number-tie b.user a.user, number-tie b.nth a.nth, number-tie slot k, number-turned b.user a.user, number-turned b.nth a.nth, number-turned slot k)
    (ap (λ (c : Bool). (job == j) && c) (and-grouped (a.user == b.user) (a.nth == b.nth) (k == slot)))

-- ---- floors

greatest-told : (n : ℕ) (o : Option ℕ) → fold max n (option_to_list o) ≡ max n (unwrap_or o 0)
greatest-told n None = omega arith
greatest-told n (Some m) = refl

floor-push : (h : List Record) (r : Record) (q : ℕ) → floor (h ++ r ∷ []) q ≡ max (floor h q) (unwrap_or (floor_by q r.event) 0)
floor-push h r q =
    ap (fold max 0) (all_of-push (λ (s : Record). floor_by q s.event) h r)
    ∙ fold-append max 0 (filter_map (λ (s : Record). floor_by q s.event) h) (option_to_list (floor_by q r.event))
    ∙ greatest-told (floor h q) (floor_by q r.event)

floor-other : (e : Event) → ((j p n : ℕ) → e ≡ event.JobDone j p n → ⊥) → (q : ℕ) → floor_by q e ≡ None
floor-other (event.JobDone j p n) never q = absurd (never j p n refl)
floor-other e never q = refl

pub floors-other : (m : Floors) (h : List Record) (r : Record) → AreFloors m h → ((j p n : ℕ) → r.event ≡ event.JobDone j p n → ⊥) → AreFloors m (h ++ r ∷ [])
floors-other m h r are never = record {
  each = λ q. are.each q ∙ sym (floor-push h r q ∙ ap (λ (o : Option ℕ). max (floor h q) (unwrap_or o 0)) (floor-other r.event never q) ∙ omega arith);
}

floor-put : (old n q k f : ℕ) (b : Bool) → (q == k) ≡ b → (q ≡ k → old ≡ f) → (if b then max old n else f) ≡ max f (unwrap_or (if b then Some n else None) 0)
floor-put old n q k f true is same = ap (λ m. max m n) (same (eqb-true q k is))
floor-put old n q k f false is same = omega arith

pub floors-put : (m n : Floors) (h : List Record) (r : Record) (job q p : ℕ) → AreFloors m h → r.event ≡ event.JobDone job q p → Updates nat_cmp m.positions n.positions q (Some (max (floor h q) p)) → AreFloors n (h ++ r ∷ [])
floors-put m n h r job q p are is u = record {
  each = λ k.
      let told : floor_by k r.event ≡ (if q == k then Some p else None) = rw is refl in
      filled m.positions n.positions q (max (floor h q) p) 0 k u
      ∙ ap (λ f. if q == k then max (floor h q) p else f) (are.each k)
      ∙ floor-put (floor h q) p q k (floor h k) (q == k) refl (λ same. ap (floor h) same)
      ∙ sym (floor-push h r k ∙ ap (λ (o : Option ℕ). max (floor h k) (unwrap_or o 0)) told);
}

-- ---- jobs that are done

up_to_first-step : {A : Type 0} (p : A → Bool) (x : A) (xs ys : List A) (b : Bool) → p x ≡ b → list_any p (x ∷ xs) ≡ true → (list_any p xs ≡ true → up_to_first p (xs ++ ys) ≡ up_to_first p xs) → up_to_first p (x ∷ xs ++ ys) ≡ up_to_first p (x ∷ xs)
up_to_first-step p x xs ys true is any later = rw is refl
up_to_first-step p x xs ys false is any later = rw is (ap (λ (l : List _). x ∷ l) (later (rw is at any)))

-- up to one that stands in the front
pub up_to_first-front : {A : Type 0} (p : A → Bool) (xs ys : List A) → list_any p xs ≡ true → up_to_first p (xs ++ ys) ≡ up_to_first p xs
up_to_first-front p [] ys any = absurd cc
up_to_first-front p (x ∷ xs) ys any = up_to_first-step p x xs ys (p x) refl any (λ e. up_to_first-front p xs ys e)

up_to_first-past : {A : Type 0} (p : A → Bool) (x : A) (xs ys : List A) (b : Bool) → p x ≡ b → list_any p (x ∷ xs) ≡ false → (list_any p xs ≡ false → up_to_first p (xs ++ ys) ≡ xs ++ up_to_first p ys) → up_to_first p (x ∷ xs ++ ys) ≡ x ∷ xs ++ up_to_first p ys
up_to_first-past p x xs ys true is any later = let never : true ≡ false = rw is at any in absurd cc
up_to_first-past p x xs ys false is any later = rw is (ap (λ (l : List _). x ∷ l) (later (rw is at any)))

-- or behind it
pub up_to_first-behind : {A : Type 0} (p : A → Bool) (xs ys : List A) → list_any p xs ≡ false → up_to_first p (xs ++ ys) ≡ xs ++ up_to_first p ys
up_to_first-behind p [] ys any = refl
up_to_first-behind p (x ∷ xs) ys any = up_to_first-past p x xs ys (p x) refl any (λ e. up_to_first-behind p xs ys e)

one-place : (job : ℕ) (h : List Record) (r : Record) → is_done_in job r ≡ true → length (h ++ up_to_first (is_done_in job) (r ∷ [])) ≡ length h + 1
one-place job h r is = let one : up_to_first (is_done_in job) (r ∷ []) ≡ r ∷ [] = rw is refl in ap (λ (l : List Record). length (h ++ l)) one ∙ length-append h (r ∷ [])

done-by : (h : List Record) (r : Record) (job : ℕ) (b c : Bool) → is_done h job ≡ b → is_done_in job r ≡ c → done_in (h ++ r ∷ []) job ≡ option_or (done_in h job) (if c then Some (length h + 1) else None)
done-by h r job true c is also =
    let all : is_done (h ++ r ∷ []) job ≡ true = list_any-append (is_done_in job) h (r ∷ []) ∙ rw is refl in
    rw (all, is) (ap (λ (l : List Record). Some (length l)) (up_to_first-front (is_done_in job) h (r ∷ []) is))
done-by h r job false true is also =
    let all : is_done (h ++ r ∷ []) job ≡ true = list_any-append (is_done_in job) h (r ∷ []) ∙ rw (is, also) refl in
    rw (all, is) (ap (λ n. Some n) (ap (λ (l : List Record). length l) (up_to_first-behind (is_done_in job) h (r ∷ []) is) ∙ one-place job h r also))
done-by h r job false false is also =
    let all : is_done (h ++ r ∷ []) job ≡ false = list_any-append (is_done_in job) h (r ∷ []) ∙ rw (is, also) refl in
    rw (all, is) refl

done-push : (h : List Record) (r : Record) (job : ℕ) → done_in (h ++ r ∷ []) job ≡ option_or (done_in h job) (if is_done_in job r then Some (length h + 1) else None)
done-push h r job = done-by h r job (is_done h job) (is_done_in job r) refl refl

done-other : (e : Event) → ((j p n : ℕ) → e ≡ event.JobDone j p n → ⊥) → (job : ℕ) → done_by job e ≡ false
done-other (event.JobDone j p n) never job = absurd (never j p n refl)
done-other e never job = refl

pub done_jobs-other : (m : DoneJobs) (h : List Record) (r : Record) → AreDone m h → ((j p n : ℕ) → r.event ≡ event.JobDone j p n → ⊥) → AreDone m (h ++ r ∷ [])
done_jobs-other m h r are never = record {
  each = λ job. are.each job ∙ sym (done-push h r job ∙ ap (λ (b : Bool). option_or (done_in h job) (if b then Some (length h + 1) else None)) (done-other r.event never job) ∙ or-none (done_in h job));
}

or-some : {A : Type 0} (o : Option A) (x : A) → Some (unwrap_or o x) ≡ option_or o (Some x)
or-some None x = refl
or-some (Some y) x = refl

done-put : (o p : Option ℕ) (job k n : ℕ) (b : Bool) → (job == k) ≡ b → (job ≡ k → o ≡ p) → (if b then Some (unwrap_or o n) else p) ≡ option_or p (if b then Some n else None)
done-put o p job k n true is same = ap (λ (t : Option ℕ). Some (unwrap_or t n)) (same (eqb-true job k is)) ∙ or-some p n
done-put o p job k n false is same = sym (or-none p)

pub done_jobs-put : (m n : DoneJobs) (h : List Record) (r : Record) (job q p : ℕ) → AreDone m h → r.event ≡ event.JobDone job q p → Updates nat_cmp m.places n.places job (Some (Some (unwrap_or (done_in h job) (length h + 1)))) → AreDone n (h ++ r ∷ [])
done_jobs-put m n h r job q p are is u = record {
  each = λ k.
      let told : is_done_in k r ≡ (job == k) = rw is refl in
      filled m.places n.places job (Some (unwrap_or (done_in h job) (length h + 1))) None k u
      ∙ ap (λ (o : Option ℕ). if job == k then Some (unwrap_or (done_in h job) (length h + 1)) else o) (are.each k)
      ∙ done-put (done_in h job) (done_in h k) job k (length h + 1) (job == k) refl (λ same. ap (done_in h) same)
      ∙ sym (done-push h r k ∙ ap (λ (b : Bool). option_or (done_in h k) (if b then Some (length h + 1) else None)) told);
}

-- ---- slots that are skipped

or-false : (a b : Bool) → (a || (b || false)) ≡ (if b then true else a)
or-false true true = refl
or-false true false = refl
or-false false true = refl
or-false false false = refl

skipped-push : (h : List Record) (r : Record) (job : ℕ) (a : AttemptId) (k : ℕ) → is_skipped (h ++ r ∷ []) job a k ≡ (if skips job a k r then true else is_skipped h job a k)
skipped-push h r job a k = list_any-append (skips job a k) h (r ∷ []) ∙ or-false (is_skipped h job a k) (skips job a k r)

skipped-other : (e : Event) → ((j : ℕ) (b : AttemptId) (s : ℕ) (x y : Shape) → e ≡ event.Skipped j b s x y → ⊥) → (job : ℕ) (a : AttemptId) (k : ℕ) → skips_by job a k e ≡ false
skipped-other (event.Skipped j b s x y) never job a k = absurd (never j b s x y refl)
skipped-other e never job a k = refl

pub skips-other : (m : Skips) (h : List Record) (r : Record) → AreSkipped m h → ((j : ℕ) (b : AttemptId) (s : ℕ) (x y : Shape) → r.event ≡ event.Skipped j b s x y → ⊥) → AreSkipped m (h ++ r ∷ [])
skips-other m h r are never = record {
  each = λ job a k. are.each job a k ∙ sym (skipped-push h r job a k ∙ ap (λ (b : Bool). if b then true else is_skipped h job a k) (skipped-other r.event never job a k));
}

pub skips-put : (m n : Skips) (h : List Record) (r : Record) (job : ℕ) (b : AttemptId) (s : ℕ) (x y : Shape) → AreSkipped m h → r.event ≡ event.Skipped job b s x y → Updates skip_cmp m.skipped n.skipped (skip_of job b s) (Some true) → AreSkipped n (h ++ r ∷ [])
skips-put m n h r job b s x y are is u = record {
  each = λ j a k.
      let told : skips j a k r ≡ (job == j) && (same_attempt a b && (k == s)) = rw is refl in
      filled_by skip_cmp m.skipped n.skipped (skip_of job b s) true false (skip_of j a k) ((job == j) && (same_attempt a b && (k == s))) (skip_at job b s j a k) u
      ∙ ap (λ (c : Bool). if (job == j) && (same_attempt a b && (k == s)) then true else c) (are.each j a k)
      ∙ sym (skipped-push h r j a k ∙ ap (λ (c : Bool). if c then true else is_skipped h j a k) told);
}
