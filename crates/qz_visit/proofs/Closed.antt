-- Passes that are joined, and what stood behind locks that are closed.
use Rattle.std.proofs.Common.{◌≡◌, ◌⊎◌, inl, inr, ℕ, zero, suc, ◌+◌, ◌<◌, ◌≤◌, List, [], ◌∷◌, ◌++◌, Option, Some, length, reverse, refl, sym, ap, ◌∙◌, subst, append-nil, append_assoc, arith}
use Rattle.std.specs.Prelude.{Contains, filter_map, slice_get, slice_set}
use Rattle.std.proofs.lemmas.List.Elements.{Contains-append_left, filter_map-append}
use Rattle.std.proofs.lemmas.List.{length-map, length-set, nil_from_length}
use Rattle.std.proofs.lemmas.Option.{slice_get_within}
use mathlib.Core.List.{IsPrefix, reverse-append, reverse-reverse}
use Rattle.qz_catalog.specs.Keeping as records
use Rattle.qz_catalog_turns.specs.Turning.{tale_of}
use Rattle.qz_grading.proofs.StepLemmas.{slice_get-push}
use Rattle.qz_keeper.specs.Lists.{EachMayStand}
use Rattle.qz_serial.proofs.Seats.{within_there}
use Rattle.qz_shard.specs.Keeping as part
use Rattle.qz_shard_turns.specs.Tying.{Behind, IsTied, Placed}
use Rattle.qz_shard_turns.proofs.Tying.{agree-on, joined-more, joined-second}
use Rattle.qz_school.specs.Solos as solos
use Rattle.qz_school.proofs.Calls.{stand_as}
use Rattle.qz_terms.specs.declared.record.Record.{Record}
use Rattle.qz_terms.specs.Catalog as catalog
use Rattle.qz_terms.specs.Legal.{AllAgree}
use Rattle.qz_terms.specs.Lists.{first_of}
use Rattle.qz_terms.proofs.Readings.{first_of-append}
use Rattle.qz_turn.specs.declared.view.Tale.{Tale}
use Rattle.qz_turn.specs.Passes.{Lock}
use Rattle.qz_turn.specs.Tales.{Follows}
use Rattle.qz_turn.specs.Turns.{Joins, Locked, note_of}
use Rattle.qz_turn.proofs.Prefixes.{follows_self, follows_trans}
use Rattle.qz_visit.specs.Closing.{AllJoin, AreClosed, AreLocked, ClosesBefore, HasGrown, HaveGrown, IsClosed, KeepsAll, more, none}
use Rattle.qz_visit.specs.Visits.{IsPlaced, seen_by}
use Rattle.qz_visit.specs.Ways.{Part, Seen}

-- ---- joining

pub get_set_apart : {A : Type 0} (xs : List A) (k j : ℕ) (x y : A) → slice_get (slice_set xs k x) j ≡ Some y → ((j ≡ k) × (x ≡ y)) ⊎ ((j ≡ k → ⊥) × (slice_get xs j ≡ Some y))
get_set_apart [] k j x y is = absurd cc
get_set_apart (z ∷ xs) zero zero x y is = inl (refl, cc)
get_set_apart (z ∷ xs) zero (suc j) x y is = inr (λ e. absurd cc, is)
get_set_apart (z ∷ xs) (suc k) zero x y is = inr (λ e. absurd cc, is)
get_set_apart (z ∷ xs) (suc k) (suc j) x y is = elim (get_set_apart xs k j x y is) [
  | inl same ↦ inl (ap suc same.0, same.1)
  | inr other ↦ inr (λ e. other.0 (down j k e), other.1)
]
  where
    down : (j k : ℕ) → suc j ≡ suc k → j ≡ k
    down j k e = cc

get-front : {A : Type 0} (xs ys : List A) (k : ℕ) → k < length xs → slice_get (xs ++ ys) k ≡ slice_get xs k
get-front [] ys k within = absurd (omega arith)
get-front (x ∷ xs) ys zero within = refl
get-front (x ∷ xs) ys (suc k) within = get-front xs ys k (let more : suc k < suc (length xs) = within in omega arith)

length-one : {A : Type 0} (xs : List A) (x : A) → length (xs ++ x ∷ []) ≡ suc (length xs)
length-one [] x = refl
length-one (y ∷ ys) x = ap suc (length-one ys x)

-- The others from an index on are joined, and those before it are left.
pub record JoinedFrom (before others now left : List Part) : Type 0 where
  pub count : length now ≡ length before
  pub left_of : (k : ℕ) → k < length left → slice_get left k ≡ slice_get others k
  pub few : length left ≤ length before
  pub same : (k : ℕ) (p q : Part) → k < length left → slice_get before k ≡ Some p → slice_get now k ≡ Some q → q ≡ p
  pub each : (k : ℕ) (p o q : Part) → length left ≤ k → slice_get before k ≡ Some p → slice_get others k ≡ Some o → slice_get now k ≡ Some q → Joins p o q

one-of : {A : Type 0} (o : Option A) (a b : A) → o ≡ Some a → o ≡ Some b → a ≡ b
one-of o a b first second = cc

pub joined_none : (before others : List Part) → length others ≡ length before → JoinedFrom before others before others
joined_none before others long = record {
  count = refl;
  left_of = λ k within. refl;
  few = omega (arith, long);
  same = λ k p q within one other. one-of (slice_get before k) q p other one;
  each = λ k p o q past one other now. absurd (let inside = slice_get_within others k o other in omega (arith, past, inside));
}

pub joined_one : (before others now left : List Part) (o p q : Part) → JoinedFrom before others now (left ++ o ∷ []) → slice_get now (length left) ≡ Some p → Joins p o q → JoinedFrom before others (slice_set now (length left) q) left
joined_one before others now left o p q so at joins =
    let long = length-one left o in
    record {
      count = length-set now (length left) q ∙ so.count;
      left_of = λ k within. sym (get-front left (o ∷ []) k within) ∙ so.left_of k (omega (arith, within, long));
      few = let few = so.few in omega (arith, few, long);
      same = λ k a b within one new. elim (get_set_apart now (length left) k q b new) [
        | inl both ↦ absurd (let e = both.0 in omega (arith, within, e))
        | inr other ↦ so.same k a b (omega (arith, within, long)) one other.1
      ];
      each = λ k a x b past one other new. elim (get_set_apart now (length left) k q b new) [
        | inl both ↦
            let here : slice_get others (length left) ≡ Some o = sym (so.left_of (length left) (omega (arith, long))) ∙ slice_get-push left o in
            let given : slice_get others (length left) ≡ Some x = subst (λ (j : ℕ). slice_get others j ≡ Some x) both.0 other in
            let first : slice_get before (length left) ≡ Some a = subst (λ (j : ℕ). slice_get before j ≡ Some a) both.0 one in
            let own : p ≡ a = so.same (length left) a p (omega (arith, long)) first at in
            subst (λ (z : Part). Joins a x z) both.1 (subst (λ (z : Part). Joins z x q) own (subst (λ (z : Part). Joins p z q) (one-of (slice_get others (length left)) o x here given) joins))
        | inr apart ↦ so.each k a x b (past-one (length left) k (length (left ++ o ∷ [])) long past apart.0) one other apart.1
      ];
    }
  where
    past-one : (n k m : ℕ) → m ≡ suc n → n ≤ k → (k ≡ n → ⊥) → m ≤ k
    past-one n k m long past apart = grind (arith, long, past, apart)

pub joined_all : (before others now : List Part) → JoinedFrom before others now [] → AllJoin before others now
joined_all before others now so = record { count = so.count; each = λ k p o q one other new. so.each k p o q (omega arith) one other new }

-- ---- closing

closed-on : {K : Type 0} (faults : K → ℕ) (c d : List Record) (n k : ℕ) (t : Tale Record) (s : part.Keeping K) → IsPrefix c d → IsClosed faults c n k t s → IsClosed faults d n k t s
closed-on faults c d n k t s longer is = record { index_is = is.index_is; count_is = is.count_is; follows = is.follows; agree = stand_as (AllAgree d) (AllAgree c) s.held (λ h all. agree-on c d h longer all) is.agree }

-- they agree with each longer catalogue
pub all_on : {K : Type 0} (faults : K → ℕ) (c d : List Record) (n k : ℕ) (ts : List (Tale Record)) (ss : List (part.Keeping K)) → IsPrefix c d → AreClosed faults c n k ts ss → AreClosed faults d n k ts ss
all_on faults c d n _ _ _ longer (none k) = none k
all_on faults c d n _ _ _ longer (more k t s ts ss one rest) = more k t s ts ss (closed-on faults c d n k t s longer one) (all_on faults c d n (k + 1) ts ss longer rest)

-- Those behind the locks that are left are closed, and stand the other way round, after the others.
pub record ClosedFrom {K : Type 0} (faults : K → ℕ) (c : List Record) (n : ℕ) (others : List (part.Keeping K)) (locks left : List (Locked Placed)) (passes rest : List Part) (shards : List (part.Keeping K)) : Type 0 where
  pub locks_done : List (Locked Placed)
  pub passes_done : List Part
  pub shards_done : List (part.Keeping K)
  pub locks_are : locks ≡ left ++ locks_done
  pub passes_are : passes ≡ rest ++ passes_done
  pub long : length rest ≡ length left
  pub shards_are : shards ≡ others ++ reverse shards_done
  pub closed : AreClosed faults c n (length left) (seen_by passes_done) shards_done
  pub grown : HaveGrown locks_done passes_done shards_done

pub closed_none : {K : Type 0} (faults : K → ℕ) (c : List Record) (n : ℕ) (others : List (part.Keeping K)) (locks : List (Locked Placed)) (passes : List Part) → length passes ≡ length locks → ClosedFrom faults c n others locks locks passes passes others
closed_none faults c n others locks passes long = record {
  locks_done = [];
  passes_done = [];
  shards_done = [];
  locks_are = sym (append-nil locks);
  passes_are = sym (append-nil passes);
  long = long;
  shards_are = sym (append-nil others);
  closed = none (length locks);
  grown = record { each = λ k l p s at there here. absurd cc };
}

grown-one : {K : Type 0} (l : Locked Placed) (p : Part) (s : part.Keeping K) (ls : List (Locked Placed)) (ps : List Part) (ss : List (part.Keeping K)) → HasGrown l p s.held.list → HaveGrown ls ps ss → HaveGrown (l ∷ ls) (p ∷ ps) (s ∷ ss)
grown-one {K = K} l p s ls ps ss one rest = record { each = each }
  where
    each : (k : ℕ) (m : Locked Placed) (q : Part) (r : part.Keeping K) → slice_get (l ∷ ls) k ≡ Some m → slice_get (p ∷ ps) k ≡ Some q → slice_get (s ∷ ss) k ≡ Some r → HasGrown m q r.held.list
    each zero m q r at there here =
        subst (λ (x : part.Keeping K). HasGrown m q x.held.list) (one-of (Some s) s r refl here) (subst (λ (x : Part). HasGrown m x s.held.list) (one-of (Some p) p q refl there) (subst (λ (x : Locked Placed). HasGrown x p s.held.list) (one-of (Some l) l m refl at) one))
    each (suc k) m q r at there here = rest.each k m q r at there here

pub seam : {A : Type 0} (xs : List A) (x : A) (ys : List A) → slice_get (xs ++ x ∷ ys) (length xs) ≡ Some x
seam [] x ys = refl
seam (z ∷ xs) x ys = seam xs x ys

pub lock_there : {K : Type 0} (faults : K → ℕ) (c : List Record) (n : ℕ) (others : List (part.Keeping K)) (locks left : List (Locked Placed)) (l : Locked Placed) (passes rest : List Part) (shards : List (part.Keeping K)) → ClosedFrom faults c n others locks (left ++ l ∷ []) passes rest shards → slice_get locks (length left) ≡ Some l
lock_there faults c n others locks left l passes rest shards so = subst (λ (ls : List (Locked Placed)). slice_get ls (length left) ≡ Some l) (sym (so.locks_are ∙ append_assoc left (l ∷ []) so.locks_done)) (seam left l so.locks_done)

pub pass_there : {K : Type 0} (faults : K → ℕ) (c : List Record) (n : ℕ) (others : List (part.Keeping K)) (locks left : List (Locked Placed)) (l : Locked Placed) (passes rest : List Part) (p : Part) (shards : List (part.Keeping K)) → ClosedFrom faults c n others locks (left ++ l ∷ []) passes (rest ++ p ∷ []) shards → slice_get passes (length left) ≡ Some p
pass_there faults c n others locks left l passes rest p shards so =
    let same : length rest ≡ length left = let long = so.long in omega (arith, long, length-one rest p, length-one left l) in
    subst (λ (k : ℕ). slice_get passes k ≡ Some p) same (subst (λ (ps : List Part). slice_get ps (length rest) ≡ Some p) (sym (so.passes_are ∙ append_assoc rest (p ∷ []) so.passes_done)) (seam rest p so.passes_done))

-- the shard behind one more lock
pub closed_one : {K : Type 0} (faults : K → ℕ) (c d : List Record) (n : ℕ) (others : List (part.Keeping K)) (locks left : List (Locked Placed)) (l : Locked Placed) (passes rest : List Part) (p : Part) (shards : List (part.Keeping K)) (s : part.Keeping K)
    → ClosedFrom faults c n others locks (left ++ l ∷ []) passes (rest ++ p ∷ []) shards → IsPrefix c d → IsClosed faults d n (length left) p.seen s → HasGrown l p s.held.list → ClosedFrom faults d n others locks left passes rest (shards ++ s ∷ [])
closed_one faults c d n others locks left l passes rest p shards s so longer is grown =
    let one = length-one left l in
    let next : length (left ++ l ∷ []) ≡ length left + 1 = omega (arith, one) in
    let done = seen_by so.passes_done in
    record {
      locks_done = l ∷ so.locks_done;
      passes_done = p ∷ so.passes_done;
      shards_done = s ∷ so.shards_done;
      locks_are = so.locks_are ∙ append_assoc left (l ∷ []) so.locks_done;
      passes_are = so.passes_are ∙ append_assoc rest (p ∷ []) so.passes_done;
      long = let long = so.long in omega (arith, long, length-one rest p, one);
      shards_are = ap (λ (l : List (part.Keeping _)). l ++ s ∷ []) so.shards_are ∙ append_assoc others (reverse so.shards_done) (s ∷ []) ∙ ap (λ (l : List (part.Keeping _)). others ++ l) (sym (reverse-append (s ∷ []) so.shards_done));
      closed = more (length left) p.seen s done so.shards_done is (all_on faults c d n (length left + 1) done so.shards_done longer (subst (λ (k : ℕ). AreClosed faults c n k done so.shards_done) next so.closed));
      grown = grown-one l p s so.locks_done so.passes_done so.shards_done grown so.grown;
    }

-- what was behind a lock of its place
pub behind_closed : {K : Type 0} (faults : K → ℕ) (lock : Lock (Unit {0})) (n k : ℕ) (l : Locked Placed) (p : Part) (b : Behind K) (seen after : Seen) → (placed : IsPlaced lock n k l.lock) → Follows p.seen (tale_of b.shard.held (faults b.shard.keeper)) → IsTied placed.place b → Joins seen (note_of b.note) after
    → IsClosed faults after.seen.list n k p.seen b.shard
behind_closed faults lock n k l p b seen after placed follows tied joins = record {
  index_is = tied.index_is ∙ placed.index_is;
  count_is = tied.count_is ∙ placed.count_is;
  follows = follows;
  agree = stand_as (AllAgree after.seen.list) (AllAgree b.note.seen.list) b.shard.held (λ h all. agree-on b.note.seen.list after.seen.list h (joined-second seen (note_of b.note) after joins) all) tied.agree;
}

pub closed_all : {K : Type 0} (faults : K → ℕ) (c : List Record) (n : ℕ) (others : List (part.Keeping K)) (locks : List (Locked Placed)) (passes rest : List Part) (shards : List (part.Keeping K)) → ClosedFrom faults c n others locks [] passes rest shards → n ≡ length passes + length others
    → ClosesBefore faults c (seen_by passes) others (reverse shards)
closed_all faults c n others locks passes rest shards so count =
    let none_left : rest ≡ [] = nil_from_length rest so.long in
    let all : passes ≡ so.passes_done = so.passes_are ∙ ap (λ (l : List Part). l ++ so.passes_done) none_left in
    let told : AreClosed faults c n 0 (seen_by passes) so.shards_done = subst (λ (ps : List Part). AreClosed faults c n 0 (seen_by ps) so.shards_done) (sym all) so.closed in
    let many : length passes + length others ≡ length (seen_by passes) + length others = ap (λ (k : ℕ). k + length others) (sym (length-map passes (λ (p : Part). p.seen))) in
    record {
      front = so.shards_done;
      all_is = ap reverse so.shards_are ∙ reverse-append others (reverse so.shards_done) ∙ ap (λ (l : List (part.Keeping _)). l ++ reverse others) (reverse-reverse so.shards_done);
      closed = subst (λ (m : ℕ). AreClosed faults c m 0 (seen_by passes) so.shards_done) (count ∙ many) told;
    }

pub count_closed : {K : Type 0} (faults : K → ℕ) (c : List Record) (n k : ℕ) (ts : List (Tale Record)) (ss : List (part.Keeping K)) → AreClosed faults c n k ts ss → length ss ≡ length ts
count_closed faults c n _ _ _ (none k) = refl
count_closed faults c n _ _ _ (more k t s ts ss one rest) = ap suc (count_closed faults c n (k + 1) ts ss rest)

-- by how much they have grown
pub grown_all : {K : Type 0} (faults : K → ℕ) (c : List Record) (n : ℕ) (others : List (part.Keeping K)) (locks : List (Locked Placed)) (passes rest : List Part) (shards : List (part.Keeping K)) → ClosedFrom faults c n others locks [] passes rest shards → HaveGrown locks passes (reverse shards)
grown_all faults c n others locks passes rest shards so = record {
  each = λ k l p s at there here.
      let none_left : rest ≡ [] = nil_from_length rest so.long in
      let all : passes ≡ so.passes_done = so.passes_are ∙ ap (λ (l : List Part). l ++ so.passes_done) none_left in
      let turned : reverse shards ≡ so.shards_done ++ reverse others = ap reverse so.shards_are ∙ reverse-append others (reverse so.shards_done) ∙ ap (λ (l : List (part.Keeping _)). l ++ reverse others) (reverse-reverse so.shards_done) in
      let lock : slice_get so.locks_done k ≡ Some l = subst (λ (x : List (Locked Placed)). slice_get x k ≡ Some l) so.locks_are at in
      let pass : slice_get so.passes_done k ≡ Some p = subst (λ (x : List Part). slice_get x k ≡ Some p) all there in
      let whole : slice_get (so.shards_done ++ reverse others) k ≡ Some s = subst (λ (x : List (part.Keeping _)). slice_get x k ≡ Some s) turned here in
      let many = count_closed faults c n 0 (seen_by so.passes_done) so.shards_done so.closed in
      let told = length-map so.passes_done (λ (q : Part). q.seen) in
      let inside = slice_get_within so.passes_done k p pass in
      so.grown.each k l p s lock pass (sym (get-front so.shards_done (reverse others) k (omega (arith, many, told, inside))) ∙ whole);
}

-- ---- the school that is given back

closed-there : {K : Type 0} (faults : K → ℕ) (c : List Record) (n i k : ℕ) (ts : List (Tale Record)) (ss : List (part.Keeping K)) (s : part.Keeping K) → AreClosed faults c n i ts ss → slice_get ss k ≡ Some s → (s.index ≡ i + k) × ((s.count ≡ n) × EachMayStand (AllAgree c) s.held)
closed-there faults c n _ k _ _ s (none i) at = absurd cc
closed-there faults c n _ zero _ _ s (more i t0 t ts ss one rest) at =
    let same : t ≡ s = cc in
    subst (λ (x : part.Keeping _). (x.index ≡ i + 0) × ((x.count ≡ n) × EachMayStand (AllAgree c) x.held)) same (one.index_is ∙ omega arith, (one.count_is, one.agree))
closed-there faults c n _ (suc k) _ _ s (more i t0 t ts ss one rest) at =
    let there = closed-there faults c n (i + 1) k ts ss s rest at in
    let sum : i + 1 + k ≡ i + suc k = omega arith in
    (there.0 ∙ sum, there.1)

pub closed_solo : {K : Type 0} (faults : K → ℕ) (c : records.Keeping K) (n : ℕ) (ts : List (Tale Record)) (ss : List (part.Keeping K)) → 0 < n → length ss ≡ n → catalog.shards c.held.list ≡ Some n → AreClosed faults c.held.list n 0 ts ss → solos.IsSolo c ss
closed_solo faults c n ts ss some long founded closed = record {
  some = rw long some;
  placed = record { each = λ k s at. let there = closed-there faults c.held.list n 0 k ts ss s closed at in (there.0 ∙ omega arith, there.1.0 ∙ sym long) };
  founded = founded ∙ ap (λ (m : ℕ). Some m) (sym long);
  agree = record { each = λ k s at. (closed-there faults c.held.list n 0 k ts ss s closed at).1.1 };
}

-- ---- what the passes are

-- one that isn't joined yet is the one that was there
pub join_lock : (ls : List (Locked Placed)) (before others now left : List Part) (o p : Part) (l : Locked Placed) → AreLocked ls before → JoinedFrom before others now (left ++ o ∷ []) → slice_get ls (length left) ≡ Some l → slice_get now (length left) ≡ Some p → p.lock ≡ l.lock
join_lock ls before others now left o p l own so lock at =
    let long = length-one left o in
    let few = so.few in
    let first = within_there before (length left) (omega (arith, few, long)) in
    let same = so.same (length left) first.0 p (omega (arith, long)) first.1 at in
    ap (λ (q : Part). q.lock) same ∙ own.own (length left) l first.0 lock first.1

pub other_lock : (ls : List (Locked Placed)) (before others now left : List Part) (o : Part) (l : Locked Placed) → AreLocked ls others → JoinedFrom before others now (left ++ o ∷ []) → slice_get ls (length left) ≡ Some l → o.lock ≡ l.lock
other_lock ls before others now left o l own so lock =
    let long = length-one left o in
    own.own (length left) l o lock (sym (so.left_of (length left) (omega (arith, long))) ∙ slice_get-push left o)

-- a pass that another was joined into
pub joined_keeps : (before other after : Seen) → Joins before other after → KeepsAll before after
joined_keeps before other after j =
    let bare : Seen = record { lock = other.lock; numbers = []; found = other.found; seen = other.seen; turns = other.turns } in
    let same : Seen = record { lock = after.lock; numbers = before.numbers; found = after.found; seen = after.seen; turns = after.turns } in
    let joins : Joins before bare same = record { one_list = j.one_list; seen = j.seen; found = j.found; numbers = sym (append-nil before.numbers); turns = j.turns; lock = j.lock } in
    record {
      begins = (joined-more before bare same joins refl).begins;
      every = λ n has. record { number = λ k within. subst (λ (l : List ℕ). Contains l k) (sym j.numbers) (Contains-append_left before.numbers other.numbers k (has.number k within)) };
      lock = j.lock;
    }

pub keeps_self : (s : Seen) → KeepsAll s s
keeps_self s = record { begins = follows_self s.seen; every = λ n has. has; lock = refl }

pub keeps_on : (a b c : Seen) → KeepsAll a b → KeepsAll b c → KeepsAll a c
keeps_on a b c one other = record { begins = follows_trans a.seen b.seen c.seen one.begins other.begins; every = λ n has. other.every n (one.every n has); lock = other.lock ∙ one.lock }

-- how many shards there are
pub founded_on : (c d : List Record) (n : ℕ) → IsPrefix c d → catalog.shards c ≡ Some n → catalog.shards d ≡ Some n
founded_on c d n p is = subst (λ (l : List Record). catalog.shards l ≡ Some n) p.1 (ap first_of (filter_map-append _ c p.0) ∙ first_of-append (filter_map _ c) (filter_map _ p.0) n is)
