-- The slots of a legal catalogue: their max marks are in range, and their entries are there.
use Rattle.std.proofs.Common.{◌≡◌, ℕ, ◌+◌, ◌*◌, ◌≤◌, Bool, true, false, ◌&&◌, ◌||◌, List, [], ◌∷◌, ◌++◌, Option, Some, None, option_map, length, map, refl, sym, ap, subst, ◌∙◌, arith, suc, append-nil, length-append}
use Rattle.std.specs.List.{enumerate_from, list_all}
use Rattle.std.specs.Prelude.{ℤ, pos, ◌≤ℤ◌, ◌==◌, filter_map, if◌then◌else◌, int_le, int_lt, is_none, is_some, nat_le, option_to_list, unwrap_or}
use Rattle.std.proofs.lemmas.Bool.{eqb-true, leb-true, le-leb}
use Rattle.std.proofs.lemmas.Grind.{flat_map-append}
use Rattle.std.proofs.lemmas.Int.{ints}
use Rattle.std.proofs.lemmas.List.Folds.{list_all-append}
use Rattle.qz_decimal.specs.Numbers.{one}
use Rattle.qz_grading.specs.declared.question.Item.{Item}
use Rattle.qz_grading.specs.declared.question.Kind.{Kind}
use Rattle.qz_grading.specs.declared.question.Kind.TheVariants as kind
use Rattle.qz_grading.specs.declared.question.Question.{Question}
use Rattle.qz_grading.specs.declared.refusal.Refusal.{Refusal}
use Rattle.qz_grading.specs.declared.refusal.Refusal.TheVariants as refusal
use Rattle.qz_grading.specs.declared.refusal.Thing.TheVariants as thing
use Rattle.qz_grading.specs.Behaviours.{when}
use Rattle.qz_grading.specs.Grading.{at_place, is_place}
use Rattle.qz_terms.specs.declared.plan.Planned.{Planned}
use Rattle.qz_terms.specs.declared.record.Record.{Record}
use Rattle.qz_terms.specs.declared.request.Request.{Request}
use Rattle.qz_terms.specs.declared.request.Request.TheVariants as request
use Rattle.qz_terms.specs.Catalog.{asked, changes, entries, imports_by, latest, questions, remax_by, remaxed, slot_by, slots, slots_made, version}
use Rattle.qz_terms.specs.Cause.{bad_max, greatest_max, missing_entry, missing_quiz, most_for_kind, slot_entry}
use Rattle.qz_terms.specs.Kept.{is_planned}
use Rattle.qz_terms.specs.Legal.{IsLegalCatalog}
use Rattle.qz_terms.proofs.Walks.{all_of-push, last_told_in}
use Rattle.qz_catalog.specs.Readings.{slot_over}
use Rattle.qz_roster.proofs.NextLemmas.{first-none}
use Rattle.qz_catalog.proofs.Accepted.{accepted, by-prefixes, slot-made}
use Rattle.qz_roster.proofs.Telling.{there-is}

pub and-left : (b c : Bool) → b && c ≡ true → b ≡ true
and-left true c is = refl
and-left false c is = absurd cc

pub and-right : (b c : Bool) → b && c ≡ true → c ≡ true
and-right true c is = is
and-right false c is = absurd cc

-- ---- all that is told

told-push : {A B : Type 0} (p : B → Bool) (f : A → Option B) (l : List A) (x : A) (o : Option B) → f x ≡ o → ((y : B) → f x ≡ Some y → p y ≡ true) → list_all p (filter_map f l) ≡ true → list_all p (filter_map f l ++ option_to_list o) ≡ true
told-push p f l x None is here before = ap (list_all p) (append-nil (filter_map f l)) ∙ before
told-push p f l x (Some y) is here before = list_all-append p (filter_map f l) (y ∷ []) ∙ rw (before, here y is) refl

-- what passes wherever an item tells it
pub all-told : {A B : Type 0} (p : B → Bool) (f : A → Option B) (xs : List A) → ((l : List A) (x : A) (rest : List A) (y : B) → xs ≡ l ++ x ∷ rest → f x ≡ Some y → p y ≡ true) → list_all p (filter_map f xs) ≡ true
all-told p f xs passes = by-prefixes (λ (l : List _). list_all p (filter_map f l) ≡ true) xs refl (λ l x rest e before. ap (list_all p) (all_of-push f l x) ∙ told-push p f l x (f x) refl (λ y told. passes l x rest y e told) before)

-- ---- max marks

abbrev is_max : ℤ → Bool
is_max m = int_le (pos 0) m && int_le m (pos (10000 * one))

pub le-by : (a b : ℤ) (c : Bool) → int_le a b ≡ c → a ≤ℤ b → c ≡ true
le-by a b true is le = refl
le-by a b false is le = absurd (omega (arith, ints, is, le))

kind-most : (k : Kind) → most_for_kind k ≤ℤ pos (10000 * one)
kind-most kind.Description = omega (arith, ints)
kind-most k = omega (arith, ints)

most-by : (o : Option Question) → unwrap_or (option_map (λ (q : Question). most_for_kind q.kind) o) (pos 0) ≤ℤ pos (10000 * one)
most-by None = omega (arith, ints)
most-by (Some q) = kind-most q.kind

mark-by : (m most : ℤ) (b c : Bool) → int_lt m (pos 0) ≡ b → int_lt most m ≡ c → when (b || c) (refusal.OutOfRange most) ≡ None → most ≤ℤ pos (10000 * one) → is_max m ≡ true
mark-by m most true c low high none few = absurd cc
mark-by m most false true low high none few = absurd cc
mark-by m most false false low high none few =
    let above : int_le (pos 0) m ≡ true = le-by (pos 0) m (int_le (pos 0) m) refl (omega (arith, ints, low)) in
    let below : int_le m (pos (10000 * one)) ≡ true = le-by m (pos (10000 * one)) (int_le m (pos (10000 * one))) refl (omega (arith, ints, high, few)) in
    rw (above, below) refl

mark-kept : (l : List Record) (e : ℕ) (m : ℤ) → bad_max l e m ≡ None → is_max m ≡ true
mark-kept l e m none = mark-by m (greatest_max l e) (int_lt m (pos 0)) (int_lt (greatest_max l e) m) refl refl none (most-by (version l e (latest l e)))

remax-if : (quiz q slot k : ℕ) (max m : ℤ) (b c : Bool) → (quiz == q) ≡ b → (slot == k) ≡ c → (if b && c then Some max else None) ≡ Some m → Some (request.Remax quiz slot max) ≡ Some (request.Remax q k m)
remax-if quiz q slot k max m true true is also told =
    let one : quiz ≡ q = eqb-true quiz q is in
    let other : slot ≡ k = eqb-true slot k also in
    let mark : max ≡ m = cc in
    cc
remax-if quiz q slot k max m true false is also told = absurd cc
remax-if quiz q slot k max m false c is also told = absurd cc

remax-of : (q k : ℕ) (o : Option Request) (m : ℤ) → remax_by q k o ≡ Some m → o ≡ Some (request.Remax q k m)
remax-of q k (Some (request.Remax quiz slot max)) m told = remax-if quiz q slot k max m (quiz == q) (slot == k) refl refl told
remax-of q k o m told = absurd cc

remax-kept : (c : List Record) (q k : ℕ) (m : ℤ) → IsLegalCatalog c → remaxed c q k ≡ Some m → is_max m ≡ true
remax-kept c q k m legal is =
    let t = last_told_in (λ (r : Record). remax_by q k (asked r)) c m is in
    let a = accepted c t.front t.item t.rest (request.Remax q k m) legal t.stands (remax-of q k (asked t.item) m t.tells) in
    mark-kept t.front (slot_entry t.front q k) m a.causeless

last-mark : (m : ℤ) (o : Option ℤ) → ((n : ℤ) → o ≡ Some n → is_max n ≡ true) → is_max m ≡ true → is_max (unwrap_or o m) ≡ true
last-mark m None anew first = first
last-mark m (Some n) anew first = anew n refl

marks-over : (c : List Record) (q k : ℕ) (ss : List (ℕ × ℤ)) → IsLegalCatalog c → list_all (λ (s : ℕ × ℤ). is_max s.1) ss ≡ true → list_all is_planned (map (slot_over c q) (enumerate_from k ss)) ≡ true
marks-over c q k [] legal all = refl
marks-over c q k (s ∷ ss) legal all =
    let here : is_planned (slot_over c q (k, s)) ≡ true = last-mark s.1 (remaxed c q k) (λ m is. remax-kept c q k m legal is) (and-left (is_max s.1) (list_all (λ (t : ℕ × ℤ). is_max t.1) ss) all) in
    rw here (marks-over c q (k + 1) ss legal (and-right (is_max s.1) (list_all (λ (t : ℕ × ℤ). is_max t.1) ss) all))

first-marks : (c : List Record) (q : ℕ) → IsLegalCatalog c → list_all (λ (s : ℕ × ℤ). is_max s.1) (slots_made c q) ≡ true
first-marks c q legal = all-told (λ (s : ℕ × ℤ). is_max s.1) (λ (r : Record). slot_by q (asked r)) c (λ l r rest s e told. mark-kept l s.0 s.1 (slot-made c l r rest q s legal e told).mark)

-- each max mark is in range
pub planned-slots : (c : List Record) (q : ℕ) → IsLegalCatalog c → list_all is_planned (slots c q) ≡ true
planned-slots c q legal = marks-over c q 1 (slots_made c q) legal (first-marks c q legal)

-- ---- entries

present-by : {A : Type 0} (o : Option A) (r : Refusal) → when (is_none o) r ≡ None → is_some o ≡ true
present-by None r none = absurd cc
present-by (Some x) r none = refl

-- an entry stays
entry-stays : (l rest : List Record) (e : ℕ) → is_some (at_place (entries l) e) ≡ true → is_some (at_place (entries (l ++ rest)) e) ≡ true
entry-stays l rest e there =
    let inside : is_place (length (entries l)) e ≡ true = sym (there-is (entries l) e) ∙ there in
    let longer : length (entries (l ++ rest)) ≡ length (entries l) + length (entries rest) = ap (λ (is : List Item). length is) (flat_map-append (λ (r : Record). imports_by (asked r)) l rest) ∙ length-append (entries l) (entries rest) in
    let above : 1 ≤ e = leb-true 1 e (and-left (nat_le 1 e) (nat_le e (length (entries l))) inside) in
    let below : e ≤ length (entries l) = leb-true e (length (entries l)) (and-right (nat_le 1 e) (nat_le e (length (entries l))) inside) in
    there-is (entries (l ++ rest)) e ∙ rw (le-leb 1 e above, le-leb e (length (entries (l ++ rest))) (omega (arith, longer, below))) refl

pub first-entries : (c : List Record) (q : ℕ) → IsLegalCatalog c → list_all (λ (s : ℕ × ℤ). is_some (at_place (entries c) s.0)) (slots_made c q) ≡ true
first-entries c q legal = all-told (λ (s : ℕ × ℤ). is_some (at_place (entries c) s.0)) (λ (r : Record). slot_by q (asked r)) c (λ l r rest s e told.
    let missing = first-none (missing_quiz l q) (missing_entry l s.0 ∷ []) (slot-made c l r rest q s legal e told).there in
    let entry = first-none (missing_entry l s.0) [] missing.1 in
    subst (λ (h : List Record). is_some (at_place (entries h) s.0) ≡ true) (sym e) (entry-stays l (r ∷ rest) s.0 (present-by (at_place (entries l) s.0) (refusal.Unknown thing.Entry) entry.0)))

newest-by : (c : List Record) (e n : ℕ) (o : Option Item) → at_place (entries c) e ≡ o → is_some o ≡ true → n ≡ length (changes c e) → is_some (version c e (n + 1)) ≡ true
newest-by c e n None is there long = absurd cc
newest-by c e n (Some i) is there long =
    let most : latest c e ≡ n + 1 = rw (is, long) refl in
    let some : nat_le 1 (n + 1) ≡ true = le-leb 1 (n + 1) (omega arith) in
    let same : nat_le (n + 1) (n + 1) ≡ true = le-leb (n + 1) (n + 1) (omega arith) in
    rw (most, some, same, is) refl

latest-by : (c : List Record) (e : ℕ) (b : Bool) → is_some (at_place (entries c) e) ≡ b → b ≡ true → latest c e ≡ length (changes c e) + 1
latest-by c e true is there = rw is refl
latest-by c e false is there = absurd cc

pub newest-there : (c : List Record) (e : ℕ) → is_some (at_place (entries c) e) ≡ true → is_some (version c e (latest c e)) ≡ true
newest-there c e there = ap (λ n. is_some (version c e n)) (latest-by c e (is_some (at_place (entries c) e)) refl there) ∙ newest-by c e (length (changes c e)) (at_place (entries c) e) refl there refl

questions-step : (c : List Record) (s : Planned) (ss : List Planned) (o : Option Question) → version c s.entry s.version ≡ o → is_some o ≡ true → length (questions c ss) ≡ length ss → length (questions c (s ∷ ss)) ≡ length (s ∷ ss)
questions-step c s ss None is there rest = absurd cc
questions-step c s ss (Some q) is there rest = rw is (ap suc rest)

questions-over : (c : List Record) (q k : ℕ) (ss : List (ℕ × ℤ)) → list_all (λ (s : ℕ × ℤ). is_some (at_place (entries c) s.0)) ss ≡ true → length (questions c (map (slot_over c q) (enumerate_from k ss))) ≡ length (map (slot_over c q) (enumerate_from k ss))
questions-over c q k [] all = refl
questions-over c q k (s ∷ ss) all =
    let here = newest-there c s.0 (and-left (is_some (at_place (entries c) s.0)) (list_all (λ (t : ℕ × ℤ). is_some (at_place (entries c) t.0)) ss) all) in
    questions-step c (slot_over c q (k, s)) (map (slot_over c q) (enumerate_from (k + 1) ss)) (version c s.0 (latest c s.0)) refl here (questions-over c q (k + 1) ss (and-right (is_some (at_place (entries c) s.0)) (list_all (λ (t : ℕ × ℤ). is_some (at_place (entries c) t.0)) ss) all))

-- there is a question for each slot
pub questions-whole : (c : List Record) (q : ℕ) → IsLegalCatalog c → length (questions c (slots c q)) ≡ length (slots c q)
questions-whole c q legal = questions-over c q 1 (slots_made c q) (first-entries c q legal)
