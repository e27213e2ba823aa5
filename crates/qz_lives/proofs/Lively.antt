-- The first attempt that goes on, found in a map in order.
use Rattle.std.proofs.Common.{◌≡◌, ℕ, Bool, true, false, not, ◌&&◌, ◌||◌, List, [], ◌∷◌, Option, Some, None, option_map, refl, sym, ap, subst, ◌∙◌}
use Rattle.std.specs.Prelude.{◌==◌, filter, filter_map, if◌then◌else◌, is_some, nat_lt, unwrap_or}
use Rattle.std.specs.BTreeMap.{IsOrdered, is_at}
use Rattle.std.specs.List.{AllByRecursion, list_any}
use Rattle.std.specs.List.Sorted.{IsStrictlySortedBy}
use Rattle.std.specs.Map.{keys_of, lookup}
use Rattle.std.specs.Ordering.{is_eq, is_lt, nat_cmp, ordering_then}
use Rattle.std.specs.declared.cmp.Ordering.{Ordering}
use Rattle.std.specs.declared.cmp.Ordering.TheVariants.{Less, Equal, Greater}
use Rattle.qz_grading.specs.declared.refusal.AttemptId.{AttemptId}
use Rattle.qz_terms.specs.declared.record.Record.{Record}
use Rattle.qz_terms.specs.Lists.{first_of, in_order}
use Rattle.qz_terms.specs.History.{Start, attempt_before, is_ended, live_after, same_attempt, start, started, starts}
use Rattle.qz_lives.specs.declared.lives.Lives.{Lives}
use Rattle.qz_lives.specs.Attempts.{AreLives, by_number, key_of}
use Rattle.qz_lives.proofs.Effects.{attempt_of, one-attempt}
use Rattle.qz_lives.proofs.Following.{self-same}
use Rattle.qz_lives.proofs.Keeping.{and-left, and-right}
use Rattle.qz_lives.proofs.Keys.{same-key, tie}
use Rattle.qz_lives.proofs.Orders.{before-after, first-more, first_passing, never-both, one, sooner}

-- ---- the first of those that pass

-- it is among them, and none that passes comes before it
record IsLeast (p : AttemptId → Bool) (xs : List AttemptId) (x : AttemptId) : Type 0 where
  member : list_any (same_attempt x) xs ≡ true
  passes : p x ≡ true
  least : (b : AttemptId) → list_any (same_attempt b) xs ≡ true → p b ≡ true → attempt_before b x ≡ false

record NonePasses (p : AttemptId → Bool) (xs : List AttemptId) : Type 0 where
  none : (b : AttemptId) → list_any (same_attempt b) xs ≡ true → p b ≡ false

abbrev IsFirst : (AttemptId → Bool) → List AttemptId → Option AttemptId → Type 0
IsFirst p xs None = NonePasses p xs
IsFirst p xs (Some x) = IsLeast p xs x

not-before-by : (x : AttemptId) (z : Bool) → attempt_before x x ≡ z → z ≡ false
not-before-by x true is = absurd (never-both x x is is)
not-before-by x false is = refl

not-before : (x : AttemptId) → attempt_before x x ≡ false
not-before x = not-before-by x (attempt_before x x) refl

-- one more that is among them, or was
in-one-more : {P : Type 0} (b x : AttemptId) (xs : List AttemptId) (z : Bool) → same_attempt b x ≡ z → list_any (same_attempt b) (x ∷ xs) ≡ true → (b ≡ x → P) → (list_any (same_attempt b) xs ≡ true → P) → P
in-one-more b x xs true is member here there = here (one-attempt b x is)
in-one-more b x xs false is member here there = there (rw is at member)

or-right : (b c : Bool) → c ≡ true → b || c ≡ true
or-right true c is = refl
or-right false c is = is

both-no : {P : Type 0} (b : Bool) → b ≡ true → b ≡ false → P
both-no b is isnt = absurd cc

first-none : (p : AttemptId → Bool) (x : AttemptId) (xs : List AttemptId) (z : Bool) → p x ≡ z → NonePasses p xs → IsFirst p (x ∷ xs) (if z then Some x else None)
first-none p x xs true is n = record {
  member = ap (λ (t : Bool). t || list_any (same_attempt x) xs) (self-same x);
  passes = is;
  least = λ b member passes. in-one-more b x xs (same_attempt b x) refl member (λ same. ap (λ (c : AttemptId). attempt_before c x) same ∙ not-before x) (λ there. both-no (p b) passes (n.none b there));
}
first-none p x xs false is n = record {
  none = λ b member. in-one-more b x xs (same_attempt b x) refl member (λ same. ap p same ∙ is) (λ there. n.none b there);
}

least-by : (b x c : AttemptId) (z : Bool) → attempt_before b x ≡ z → attempt_before x c ≡ true → attempt_before b c ≡ false → z ≡ false
least-by b x c true is before later = both-no (attempt_before b c) (before-after b x c is before) later
least-by b x c false is before later = refl

first-some : (p : AttemptId → Bool) (x c : AttemptId) (xs : List AttemptId) (y z : Bool) → attempt_before x c ≡ y → p x ≡ z → IsLeast p xs c → IsFirst p (x ∷ xs) (if y && z then Some x else Some c)
first-some p x c xs true true is also l = record {
  member = ap (λ (t : Bool). t || list_any (same_attempt x) xs) (self-same x);
  passes = also;
  least = λ b member passes. in-one-more b x xs (same_attempt b x) refl member (λ same. ap (λ (d : AttemptId). attempt_before d x) same ∙ not-before x) (λ there. least-by b x c (attempt_before b x) refl is (l.least b there passes));
}
first-some p x c xs true false is also l = record {
  member = or-right (same_attempt c x) (list_any (same_attempt c) xs) l.member;
  passes = l.passes;
  least = λ b member passes. in-one-more b x xs (same_attempt b x) refl member (λ same. both-no (p b) passes (ap p same ∙ also)) (λ there. l.least b there passes);
}
first-some p x c xs false z is also l = record {
  member = or-right (same_attempt c x) (list_any (same_attempt c) xs) l.member;
  passes = l.passes;
  least = λ b member passes. in-one-more b x xs (same_attempt b x) refl member (λ same. ap (λ (d : AttemptId). attempt_before d c) same ∙ is) (λ there. l.least b there passes);
}

first-cons : (p : AttemptId → Bool) (x : AttemptId) (xs : List AttemptId) (o : Option AttemptId) → IsFirst p xs o → IsFirst p (x ∷ xs) (sooner p o (Some x))
first-cons p x xs None f = first-none p x xs (p x) refl f
first-cons p x xs (Some c) f = first-some p x c xs (attempt_before x c) (p x) refl refl f

first-is : (p : AttemptId → Bool) (xs : List AttemptId) → IsFirst p xs (first_passing p (in_order attempt_before xs))
first-is p [] = record { none = λ b member. absurd cc }
first-is p (x ∷ xs) = subst (IsFirst p (x ∷ xs)) (sym (first-more p x xs)) (first-cons p x xs (first_passing p (in_order attempt_before xs)) (first-is p xs))

first-one : (p : AttemptId → Bool) (xs : List AttemptId) (o q : Option AttemptId) → IsFirst p xs o → IsFirst p xs q → o ≡ q
first-one p xs None None f g = refl
first-one p xs None (Some y) f g = both-no (p y) g.passes (f.none y g.member)
first-one p xs (Some x) None f g = both-no (p x) f.passes (g.none x f.member)
first-one p xs (Some x) (Some y) f g = ap (λ (c : AttemptId). Some c) (one x y (g.least x f.member f.passes) (f.least y g.member g.passes))

-- ---- the attempts that the records start

abbrev started_attempt : Record → Option AttemptId
started_attempt r = option_map (λ (s : Start). s.attempt) (started r)

told-by : (b : AttemptId) (r : Record) (h : List Record) (s : Start) (z : Bool) → started r ≡ Some s → same_attempt b s.attempt ≡ z → list_any (same_attempt b) (filter_map started_attempt h) ≡ is_some (first_of (filter_map (starts b) h)) → list_any (same_attempt b) (filter_map started_attempt (r ∷ h)) ≡ is_some (first_of (filter_map (starts b) (r ∷ h)))
told-by b r h s true is same later = rw (is, same) refl
told-by b r h s false is same later = rw (is, same) later

told-step : (b : AttemptId) (r : Record) (h : List Record) (o : Option Start) → started r ≡ o → list_any (same_attempt b) (filter_map started_attempt h) ≡ is_some (first_of (filter_map (starts b) h)) → list_any (same_attempt b) (filter_map started_attempt (r ∷ h)) ≡ is_some (first_of (filter_map (starts b) (r ∷ h)))
told-step b r h None is later = rw is later
told-step b r h (Some s) is later = told-by b r h s (same_attempt b s.attempt) is refl later

started-there : (b : AttemptId) (h : List Record) → list_any (same_attempt b) (filter_map started_attempt h) ≡ is_some (start h b)
started-there b [] = refl
started-there b (r ∷ h) = told-step b r h (started r) refl (started-there b h)

-- ---- keys in order

abbrev pub attempt_at : ℕ × ℕ → AttemptId
attempt_at k = attempt_of k.0 k.1

lt-then : (o p : Ordering) → is_lt (ordering_then o p) ≡ (is_lt o || (is_eq o && is_lt p))
lt-then Less p = refl
lt-then Equal p = refl
lt-then Greater p = refl

lt-by : (x y : ℕ) (less same : Bool) → nat_lt x y ≡ less → (x == y) ≡ same → is_lt (nat_cmp x y) ≡ less
lt-by x y true same is also = rw is refl
lt-by x y false true is also = rw (is, also) refl
lt-by x y false false is also = rw (is, also) refl

lt-is : (x y : ℕ) → is_lt (nat_cmp x y) ≡ nat_lt x y
lt-is x y = lt-by x y (nat_lt x y) (x == y) refl refl

before-is : (x y : ℕ × ℕ) → is_lt (by_number x y) ≡ attempt_before (attempt_at x) (attempt_at y)
before-is x y =
    lt-then (nat_cmp x.0 y.0) (nat_cmp x.1 y.1)
    ∙ ap (λ (t : Bool). t || (is_eq (nat_cmp x.0 y.0) && is_lt (nat_cmp x.1 y.1))) (lt-is x.0 y.0)
    ∙ ap (λ (t : Bool). nat_lt x.0 y.0 || (t && is_lt (nat_cmp x.1 y.1))) (tie x.0 y.0)
    ∙ ap (λ (t : Bool). nat_lt x.0 y.0 || ((x.0 == y.0) && t)) (lt-is x.1 y.1)

abbrev pub Entries : Type 0
Entries = List ((ℕ × ℕ) × Bool)

-- the value at an attempt's key
abbrev at_key : Entries → AttemptId → Option Bool
at_key es b = lookup (is_at (by_number (key_of b))) es

below-step : (d : ℕ × ℕ) (e : (ℕ × ℕ) × Bool) (es : Entries) (b : AttemptId) (z : Bool) → same_attempt b (attempt_at e.0) ≡ z → by_number d e.0 ≡ Less → at_key (e ∷ es) b ≡ Some true → (at_key es b ≡ Some true → attempt_before (attempt_at d) b ≡ true) → attempt_before (attempt_at d) b ≡ true
below-step d e es b true is less found later = ap (attempt_before (attempt_at d)) (one-attempt b (attempt_at e.0) is) ∙ sym (before-is d e.0) ∙ ap is_lt less
below-step d e es b false is less found later = later (rw (same-key b (attempt_at e.0) ∙ is) at found)

-- a key that is below all others comes before each attempt that is found there
below-found : (d : ℕ × ℕ) (es : Entries) (b : AttemptId) → AllByRecursion (λ y. by_number d y ≡ Less) (keys_of es) → at_key es b ≡ Some true → attempt_before (attempt_at d) b ≡ true
below-found d [] b all found = absurd cc
below-found d (e ∷ es) b all found = below-step d e es b (same_attempt b (attempt_at e.0)) refl all.0 found (below-found d es b all.1)

-- among entries in order, those that come after this one and are true
abbrev pub first_true : Entries → Option ((ℕ × ℕ) × Bool)
first_true es = first_of (filter (λ e. e.1) es)

abbrev pub after_key : ℕ × ℕ → Entries → Entries
after_key k es = filter (λ e. is_lt (by_number k e.0) && true) es

record IsLeastEntry (k : ℕ × ℕ) (es : Entries) (e : (ℕ × ℕ) × Bool) : Type 0 where
  found : at_key es (attempt_at e.0) ≡ Some true
  after : attempt_before (attempt_at k) (attempt_at e.0) ≡ true
  least : (b : AttemptId) → at_key es b ≡ Some true → attempt_before (attempt_at k) b ≡ true → attempt_before b (attempt_at e.0) ≡ false

record NoEntry (k : ℕ × ℕ) (es : Entries) : Type 0 where
  none : (b : AttemptId) → at_key es b ≡ Some true → attempt_before (attempt_at k) b ≡ false

abbrev IsFirstEntry : ℕ × ℕ → Entries → Option ((ℕ × ℕ) × Bool) → Type 0
IsFirstEntry k es None = NoEntry k es
IsFirstEntry k es (Some e) = IsLeastEntry k es e

-- an attempt that is found at the first entry, or behind it
found-in : {P : Type 0} (d : (ℕ × ℕ) × Bool) (es : Entries) (b : AttemptId) (z : Bool) → same_attempt b (attempt_at d.0) ≡ z → at_key (d ∷ es) b ≡ Some true → ((b ≡ attempt_at d.0) → d.1 ≡ true → P) → (same_attempt b (attempt_at d.0) ≡ false → at_key es b ≡ Some true → P) → P
found-in d es b true is found here there = here (one-attempt b (attempt_at d.0) is) (let value : Some d.1 ≡ Some true = rw (same-key b (attempt_at d.0) ∙ is) at found in cc)
found-in d es b false is found here there = there is (rw (same-key b (attempt_at d.0) ∙ is) at found)

-- what is found behind the first entry is found with it
found-more : (d : (ℕ × ℕ) × Bool) (es : Entries) (b : AttemptId) (z : Bool) → same_attempt b (attempt_at d.0) ≡ z → AllByRecursion (λ y. by_number d.0 y ≡ Less) (keys_of es) → at_key es b ≡ Some true → at_key (d ∷ es) b ≡ Some true
found-more d es b true is all found = absurd (let before = below-found d.0 es b all found in let same = one-attempt b (attempt_at d.0) is in both-no (attempt_before b b) (ap (λ (c : AttemptId). attempt_before c b) same ∙ before) (not-before b))
found-more d es b false is all found = rw (same-key b (attempt_at d.0) ∙ is) found

never-back : (b c : AttemptId) (z : Bool) → attempt_before c b ≡ z → attempt_before b c ≡ true → z ≡ false
never-back b c true is before = absurd (never-both b c before is)
never-back b c false is before = refl

entry-here : (k : ℕ × ℕ) (d : (ℕ × ℕ) × Bool) (es : Entries) → AllByRecursion (λ y. by_number d.0 y ≡ Less) (keys_of es) → attempt_before (attempt_at k) (attempt_at d.0) ≡ true → d.1 ≡ true → IsLeastEntry k (d ∷ es) d
entry-here k d es all after is = record {
  found = rw (same-key (attempt_at d.0) (attempt_at d.0) ∙ self-same (attempt_at d.0)) (ap (λ (t : Bool). Some t) is);
  after = after;
  least = λ b found later. found-in d es b (same_attempt b (attempt_at d.0)) refl found (λ same value. ap (λ (c : AttemptId). attempt_before c (attempt_at d.0)) same ∙ not-before (attempt_at d.0)) (λ apart there. never-back (attempt_at d.0) b (attempt_before b (attempt_at d.0)) refl (below-found d.0 es b all there));
}

-- the first entry isn't it
entry-there : (k : ℕ × ℕ) (d : (ℕ × ℕ) × Bool) (es : Entries) (o : Option ((ℕ × ℕ) × Bool)) → AllByRecursion (λ y. by_number d.0 y ≡ Less) (keys_of es) → (attempt_before (attempt_at k) (attempt_at d.0) ≡ true → d.1 ≡ true → ⊥) → IsFirstEntry k es o → IsFirstEntry k (d ∷ es) o
entry-there k d es None all isnt f = record {
  none = λ b found. found-in d es b (same_attempt b (attempt_at d.0)) refl found (λ same value. by-order b same value (attempt_before (attempt_at k) b) refl) (λ apart there. f.none b there);
}
  where
    by-order : (b : AttemptId) → b ≡ attempt_at d.0 → d.1 ≡ true → (z : Bool) → attempt_before (attempt_at k) b ≡ z → z ≡ false
    by-order b same value true is = absurd (isnt (ap (attempt_before (attempt_at k)) (sym same) ∙ is) value)
    by-order b same value false is = refl
entry-there k d es (Some e) all isnt f = record {
  found = found-more d es (attempt_at e.0) (same_attempt (attempt_at e.0) (attempt_at d.0)) refl all f.found;
  after = f.after;
  least = λ b found later. found-in d es b (same_attempt b (attempt_at d.0)) refl found (λ same value. absurd (isnt (ap (attempt_before (attempt_at k)) (sym same) ∙ later) value)) (λ apart there. f.least b there later);
}

entry-step : (k : ℕ × ℕ) (d : (ℕ × ℕ) × Bool) (es : Entries) (y z : Bool) → attempt_before (attempt_at k) (attempt_at d.0) ≡ y → d.1 ≡ z → AllByRecursion (λ y. by_number d.0 y ≡ Less) (keys_of es) → IsFirstEntry k es (first_true (after_key k es)) → IsFirstEntry k (d ∷ es) (first_true (after_key k (d ∷ es)))
entry-step k d es true true is also all f =
    let same : first_true (after_key k (d ∷ es)) ≡ Some d = rw (before-is k d.0 ∙ is) (rw also refl) in
    subst (IsFirstEntry k (d ∷ es)) (sym same) (entry-here k d es all is also)
entry-step k d es true false is also all f =
    let same : first_true (after_key k (d ∷ es)) ≡ first_true (after_key k es) = rw (before-is k d.0 ∙ is) (rw also refl) in
    subst (IsFirstEntry k (d ∷ es)) (sym same) (entry-there k d es (first_true (after_key k es)) all (λ before value. both-no d.1 value also) f)
entry-step k d es false z is also all f =
    let same : first_true (after_key k (d ∷ es)) ≡ first_true (after_key k es) = rw (before-is k d.0 ∙ is) refl in
    subst (IsFirstEntry k (d ∷ es)) (sym same) (entry-there k d es (first_true (after_key k es)) all (λ before value. both-no (attempt_before (attempt_at k) (attempt_at d.0)) before is) f)

first-entry : (k : ℕ × ℕ) (es : Entries) → IsStrictlySortedBy by_number (keys_of es) → IsFirstEntry k es (first_true (after_key k es))
unfolding IsStrictlySortedBy
first-entry k [] sorted = record { none = λ b found. absurd cc }
first-entry k (d ∷ es) sorted = entry-step k d es (attempt_before (attempt_at k) (attempt_at d.0)) d.1 refl refl sorted.0 (first-entry k es sorted.1)

-- ---- the attempt that is found is the one that the list tells

going-true : (o : Option Bool) (b : Bool) → unwrap_or o false ≡ b → b ≡ true → o ≡ Some true
going-true None b is holds = absurd cc
going-true (Some x) b is holds = ap (λ (t : Bool). Some t) (is ∙ holds)

module _ (m : Lives) (h : List Record) (a : AttemptId) (lives : AreLives m h) where
  abbrev is_next : AttemptId → Bool
  is_next b = attempt_before a b && not (is_ended h b)

  -- an attempt that was started and hasn't ended is found in the map
  there-by : (b : AttemptId) (x z : Bool) → is_some (start h b) ≡ x → is_ended h b ≡ z → x ≡ true → not z ≡ true → at_key m.going.entries b ≡ Some true
  there-by b true false is ended_so member goes_on = going-true (at_key m.going.entries b) (is_some (start h b) && not (is_ended h b)) (lives.attempts.going b) (rw (is, ended_so) refl)
  there-by b false z is ended_so member goes_on = absurd cc
  there-by b true true is ended_so member goes_on = absurd cc

  there : (b : AttemptId) → list_any (same_attempt b) (filter_map started_attempt h) ≡ true → is_next b ≡ true → at_key m.going.entries b ≡ Some true
  there b member passes = there-by b (is_some (start h b)) (is_ended h b) refl refl (sym (started-there b h) ∙ member) (and-right (attempt_before a b) (not (is_ended h b)) passes)

  next-by : (b : AttemptId) (z : Bool) → is_next b ≡ z → (is_next b ≡ true → attempt_before a b ≡ false) → z ≡ false
  next-by b true is later = both-no (attempt_before a b) (and-left (attempt_before a b) (not (is_ended h b)) is) (later is)
  next-by b false is later = refl

  first-there : (o : Option ((ℕ × ℕ) × Bool)) → IsFirstEntry (key_of a) m.going.entries o → IsFirst is_next (filter_map started_attempt h) (option_map (λ (e : (ℕ × ℕ) × Bool). attempt_at e.0) o)
  first-there None f = record { none = λ b member. next-by b (is_next b) refl (λ passes. f.none b (there b member passes)) }
  first-there (Some e) f =
      let b = attempt_at e.0 in
      let goes_on : (is_some (start h b) && not (is_ended h b)) ≡ true = sym (lives.attempts.going b) ∙ ap (λ (o : Option Bool). unwrap_or o false) f.found in
      record {
        member = started-there b h ∙ and-left (is_some (start h b)) (not (is_ended h b)) goes_on;
        passes = rw (f.after, and-right (is_some (start h b)) (not (is_ended h b)) goes_on) refl;
        least = λ c member passes. f.least c (there c member passes) (and-left (attempt_before a c) (not (is_ended h c)) passes);
      }

  pub live-found : IsOrdered by_number m.going → option_map (λ (e : (ℕ × ℕ) × Bool). attempt_at e.0) (first_true (after_key (key_of a) m.going.entries)) ≡ live_after h a
  live-found ordered = first-one is_next (filter_map started_attempt h) (option_map (λ (e : (ℕ × ℕ) × Bool). attempt_at e.0) (first_true (after_key (key_of a) m.going.entries))) (live_after h a)
      (first-there (first_true (after_key (key_of a) m.going.entries)) (first-entry (key_of a) m.going.entries ordered)) (first-is is_next (filter_map started_attempt h))
