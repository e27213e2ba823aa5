-- The bank that a list of records makes, one record more at a time.
use Rattle.std.proofs.Common.{◌≡◌, ℕ, zero, suc, ◌+◌, ◌-◌, ◌<◌, ◌≤◌, ◌≢◌, Bool, true, false, ◌&&◌, List, [], ◌∷◌, ◌++◌, Option, Some, None, length, map, take, option_map, refl, sym, ap, ◌∙◌, ℤ, arith, length-append, append-nil}
use Rattle.std.specs.List.{enumerate_from}
use Rattle.std.specs.Prelude.{◌==◌, fold, if◌then◌else◌, nat_lt, is_none, is_some, nat_le, option_and_then, option_to_list, slice_get, slice_set, unwrap_or}
use Rattle.std.proofs.lemmas.Grind.{flat_map-append}
use Rattle.std.proofs.lemmas.Bool.{eqb-true, eqb-false, false_from_ne_true}
use Rattle.std.proofs.lemmas.List.{length-map}
use Rattle.std.proofs.lemmas.Option.{slice_get_within}
use Rattle.std.proofs.lemmas.List.FromFn.{length-enumerate_from}
use Rattle.qz_grading.specs.declared.limits.TheConstants.{MOST_TOGETHER}
use Rattle.qz_grading.specs.declared.question.Bank.{Bank}
use Rattle.qz_grading.specs.declared.question.Item.{Item}
use Rattle.qz_grading.specs.declared.question.Question.{Question}
use Rattle.qz_grading.specs.declared.refusal.Refusal.{Refusal}
use Rattle.qz_grading.specs.declared.refusal.Refusal.TheVariants as refusal
use Rattle.qz_grading.specs.declared.refusal.Thing.TheVariants as thing
use Rattle.qz_grading.specs.Behaviours.{first_some, when}
use Rattle.qz_grading.specs.Canonical.{canonical_size}
use Rattle.qz_grading.specs.Grading.{at_place}
use Rattle.qz_terms.specs.declared.record.Record.{Record}
use Rattle.qz_terms.specs.declared.request.Request.{Request}
use Rattle.qz_terms.specs.declared.request.Request.TheVariants as request
use Rattle.qz_terms.specs.Catalog.{asked, changed_by, changes, changes_by, entries, imports_by}
use Rattle.qz_terms.specs.Catalog as catalog
use Rattle.qz_terms.specs.Cause as cause
use Rattle.qz_terms.specs.Cause.{too_many}
use Rattle.qz_terms.proofs.Walks.{all_of-push}
use Rattle.qz_bank.specs.declared.entry.Entry.{Entry}
use Rattle.qz_bank.specs.Banks.{change_cause, changed, first_version, grown, imported, latest, newer_version, newest, size_cause, version, with_version}
use Rattle.qz_bank.specs.Laws.{IsBankOf, changes_bank, entries_over, entry_over, versions_from}
use Rattle.qz_bank.proofs.VersionLemmas.{versions-last, versions-length, versions-place, versions-push}

-- ---- one record more

entries-push : (c : List Record) (r : Record) → entries (c ++ r ∷ []) ≡ entries c ++ imports_by (asked r)
entries-push c r = flat_map-append (λ (s : Record). imports_by (asked s)) c (r ∷ []) ∙ ap (λ (is : List Item). entries c ++ is) (append-nil (imports_by (asked r)))

changes-push : (c : List Record) (r : Record) (e : ℕ) → changes (c ++ r ∷ []) e ≡ changes c e ++ option_to_list (changes_by e (asked r))
changes-push c r e = all_of-push (λ (s : Record). changes_by e (asked s)) c r

-- a record that changes nothing of an entry
changes-same : (c : List Record) (r : Record) (e : ℕ) → changes_by e (asked r) ≡ None → changes (c ++ r ∷ []) e ≡ changes c e
changes-same c r e none = changes-push c r e ∙ ap (λ (o : Option Request). changes c e ++ option_to_list o) none ∙ append-nil (changes c e)

changes-more : (c : List Record) (r : Record) (e : ℕ) (x : Request) → changes_by e (asked r) ≡ Some x → changes (c ++ r ∷ []) e ≡ changes c e ++ x ∷ []
changes-more c r e x some = changes-push c r e ∙ ap (λ (o : Option Request). changes c e ++ option_to_list o) some

-- ---- entries over two lists

-- those that are changed alike
over-same : (c d : List Record) (k : ℕ) (is : List Item) → ((e : ℕ) → k ≤ e → changes d e ≡ changes c e) → map (entry_over d) (enumerate_from k is) ≡ map (entry_over c) (enumerate_from k is)
over-same c d k [] same = refl
over-same c d k (i ∷ is) same =
    let here = same k (omega arith) in
    let rest = over-same c d (k + 1) is (λ e above. same e (omega arith)) in
    cc

-- those that are not changed yet
over-new : (c : List Record) (k : ℕ) (is : List Item) → ((e : ℕ) → k ≤ e → changes c e ≡ []) → map (entry_over c) (enumerate_from k is) ≡ map first_version is
over-new c k [] none = refl
over-new c k (i ∷ is) none =
    let here : entry_over c (k, i) ≡ first_version i = ap (λ (xs : List Request). record { category = i.category; versions = versions_from i.question xs }) (none k (omega arith)) in
    let rest = over-new c (k + 1) is (λ e above. none e (omega arith)) in
    cc

over-append : (c : List Record) (k : ℕ) (is js : List Item) → map (entry_over c) (enumerate_from k (is ++ js)) ≡ map (entry_over c) (enumerate_from k is) ++ map (entry_over c) (enumerate_from (k + length is) js)
over-append c k [] js = ap (λ n. map (entry_over c) (enumerate_from n js)) (omega arith)
over-append c k (i ∷ is) js =
    let rest = over-append c (k + 1) is js in
    let place : k + 1 + length is ≡ k + suc (length is) = omega arith in
    ap (λ (es : List Entry). entry_over c (k, i) ∷ es) (rest ∙ ap (λ n. map (entry_over c) (enumerate_from (k + 1) is) ++ map (entry_over c) (enumerate_from n js)) place)

-- one that is changed once more, at a place from 0
over-changed : (c d : List Record) (k e j : ℕ) (is : List Item) (i : Item) (x : Request) → e ≡ k + j → changes d e ≡ changes c e ++ x ∷ [] → ((n : ℕ) → n ≢ e → changes d n ≡ changes c n) → slice_get is j ≡ Some i
    → map (entry_over d) (enumerate_from k is) ≡ slice_set (map (entry_over c) (enumerate_from k is)) j (with_version (entry_over c (e, i)) (changed_by (fold changed_by i.question (changes c e)) x))
over-changed c d k e j [] i x place more same found = absurd cc
over-changed c d k e zero (y ∷ is) i x place more same found =
    let first : k ≡ e = omega arith in
    let item : y ≡ i = cc in
    let here : entry_over d (k, y) ≡ with_version (entry_over c (e, i)) (changed_by (fold changed_by i.question (changes c e)) x) = rw (first, item) (ap (λ (qs : List Question). record { category = i.category; versions = qs }) (ap (versions_from i.question) more ∙ versions-push i.question (changes c e) x)) in
    let rest = over-same c d (k + 1) is (λ n above. same n (λ is_e. omega arith)) in
    cc
over-changed c d k e (suc j) (y ∷ is) i x place more same found =
    let here = same k (λ is_e. omega arith) in
    let rest = over-changed c d (k + 1) e j is i x (omega arith) more same found in
    cc

get-over : (c : List Record) (k j : ℕ) (is : List Item) → slice_get (map (entry_over c) (enumerate_from k is)) j ≡ option_map (λ i. entry_over c (k + j, i)) (slice_get is j)
get-over c k j [] = refl
get-over c k zero (i ∷ is) = let place : k ≡ k + 0 = omega arith in ap (λ n. Some (entry_over c (n, i))) place
get-over c k (suc j) (i ∷ is) = let place : k + 1 + j ≡ k + suc j = omega arith in get-over c (k + 1) j is ∙ ap (λ n. option_map (λ i. entry_over c (n, i)) (slice_get is j)) place

place-by : (c : List Record) (e : ℕ) (b : Bool) → (e == 0) ≡ b → at_place (entries_over c) e ≡ option_map (λ i. entry_over c (e, i)) (at_place (entries c) e)
place-by c e true is = rw is refl
place-by c e false is =
    let above = eqb-false e 0 is in
    let place : 1 + (e - 1) ≡ e = omega arith in
    rw is (get-over c 1 (e - 1) (entries c) ∙ ap (λ n. option_map (λ i. entry_over c (n, i)) (slice_get (entries c) (e - 1))) place)

-- the entry with a number, from 1
place-over : (c : List Record) (e : ℕ) → at_place (entries_over c) e ≡ option_map (λ i. entry_over c (e, i)) (at_place (entries c) e)
place-over c e = place-by c e (e == 0) refl

-- ---- readings

pub count-follows : (c : List Record) (es : List Entry) → IsBankOf c es → length es ≡ length (entries c)
count-follows c es h = ap (λ (l : List Entry). length l) h.entries ∙ length-map (enumerate_from 1 (entries c)) (entry_over c) ∙ length-enumerate_from 1 (entries c)

at-follows : (c : List Record) (es : List Entry) (e : ℕ) → IsBankOf c es → at_place es e ≡ option_map (λ i. entry_over c (e, i)) (at_place (entries c) e)
at-follows c es e h = ap (λ (l : List Entry). at_place l e) h.entries ∙ place-over c e

some-mapped : {A B : Type 0} (f : A → B) (o : Option A) → is_some (option_map f o) ≡ is_some o
some-mapped f None = refl
some-mapped f (Some x) = refl

pub there-follows : (c : List Record) (es : List Entry) (e : ℕ) → IsBankOf c es → is_some (at_place es e) ≡ is_some (at_place (entries c) e)
there-follows c es e h = ap is_some (at-follows c es e h) ∙ some-mapped (λ i. entry_over c (e, i)) (at_place (entries c) e)

none-mapped : {A B : Type 0} (f : A → B) (o : Option A) → is_none (option_map f o) ≡ is_none o
none-mapped f None = refl
none-mapped f (Some x) = refl

latest-by : (c : List Record) (e : ℕ) (o : Option Item) → unwrap_or (option_map (λ (x : Entry). length x.versions) (option_map (λ i. entry_over c (e, i)) o)) 0 ≡ (if is_some o then length (changes c e) + 1 else 0)
latest-by c e None = refl
latest-by c e (Some i) = versions-length i.question (changes c e)

pub latest-follows : (c : List Record) (es : List Entry) (e : ℕ) → IsBankOf c es → unwrap_or (latest es e) 0 ≡ catalog.latest c e
latest-follows c es e h = ap (λ (o : Option Entry). unwrap_or (option_map (λ (x : Entry). length x.versions) o) 0) (at-follows c es e h) ∙ latest-by c e (at_place (entries c) e)

either-none : {A : Type 0} (b : Bool) → let none : Option A = None in none ≡ (if b then None else None)
either-none true = refl
either-none false = refl

version-by : (c : List Record) (e n : ℕ) (o : Option Item)
    → option_and_then (λ (x : Entry). at_place x.versions n) (option_map (λ i. entry_over c (e, i)) o)
    ≡ (if nat_le 1 n && nat_le n (if is_some o then length (changes c e) + 1 else 0) then option_map (λ (i : Item). fold changed_by i.question (take (n - 1) (changes c e))) o else None)
version-by c e n None = either-none (nat_le 1 n && nat_le n 0)
version-by c e n (Some i) = versions-place i.question (changes c e) n

pub version-follows : (c : List Record) (es : List Entry) (e n : ℕ) → IsBankOf c es → version es e n ≡ catalog.version c e n
version-follows c es e n h = ap (option_and_then (λ (x : Entry). at_place x.versions n)) (at-follows c es e h) ∙ version-by c e n (at_place (entries c) e)

-- ---- refusals

regrouped : (p q r : Option Refusal) → first_some (first_some (p ∷ q ∷ []) ∷ r ∷ []) ≡ first_some (p ∷ first_some (q ∷ r ∷ []) ∷ [])
regrouped (Some x) q r = refl
regrouped None (Some x) r = refl
regrouped None None (Some x) = refl
regrouped None None None = refl

size-told : (o : Option Question) → option_and_then size_cause o ≡ when (unwrap_or (option_map (λ q. nat_lt MOST_TOGETHER (canonical_size q)) o) false) (refusal.TooMany MOST_TOGETHER)
size-told None = refl
size-told (Some q) = refl

newest-follows : (c : List Record) (es : List Entry) (e : ℕ) → IsBankOf c es → newest es e ≡ catalog.version c e (catalog.latest c e)
newest-follows c es e h = version-follows c es e (unwrap_or (latest es e) 0) h ∙ ap (catalog.version c e) (latest-follows c es e h)

newer-follows : (c : List Record) (es : List Entry) (e : ℕ) (x : Request) → IsBankOf c es → newer_version es e x ≡ cause.newer_version c e x
newer-follows c es e x h = ap (option_map (λ old. changed_by old x)) (newest-follows c es e h)

pub cause-follows : (c : List Record) (es : List Entry) (e : ℕ) (x : Request) → IsBankOf c es → change_cause es e x ≡ first_some (cause.missing_entry c e ∷ cause.change_cause c e x ∷ [])
cause-follows c es e x h =
    let missing : when (is_none (at_place es e)) (refusal.Unknown thing.Entry) ≡ cause.missing_entry c e = ap (λ (b : Bool). when b (refusal.Unknown thing.Entry)) (ap is_none (at-follows c es e h) ∙ none-mapped (λ i. entry_over c (e, i)) (at_place (entries c) e)) in
    let many : too_many 1000 (unwrap_or (latest es e) 0) ≡ too_many 1000 (catalog.latest c e) = ap (too_many 1000) (latest-follows c es e h) in
    let size : option_and_then size_cause (newer_version es e x) ≡ when (unwrap_or (option_map (λ q. nat_lt MOST_TOGETHER (canonical_size q)) (cause.newer_version c e x)) false) (refusal.TooMany MOST_TOGETHER) = ap (option_and_then size_cause) (newer-follows c es e x h) ∙ size-told (cause.newer_version c e x) in
    regrouped (when (is_none (at_place es e)) (refusal.Unknown thing.Entry)) (too_many 1000 (unwrap_or (latest es e) 0)) (option_and_then size_cause (newer_version es e x))
    ∙ ap (λ (p : Option Refusal). first_some (p ∷ first_some (too_many 1000 (unwrap_or (latest es e) 0) ∷ option_and_then size_cause (newer_version es e x) ∷ []) ∷ [])) missing
    ∙ ap (λ (q : Option Refusal). first_some (cause.missing_entry c e ∷ first_some (q ∷ option_and_then size_cause (newer_version es e x) ∷ []) ∷ [])) many
    ∙ ap (λ (r : Option Refusal). first_some (cause.missing_entry c e ∷ first_some (too_many 1000 (catalog.latest c e) ∷ r ∷ []) ∷ [])) size

-- ---- what a record does

no_import : (o : Option Request) (e : ℕ) (x : Request) → changes_by e o ≡ Some x → imports_by o ≡ []
no_import (Some (request.Import gift)) e x some = absurd cc
no_import o e x some = refl

edit-other : (a e n : ℕ) (gift : Question) (x : Request) (b : Bool) → (a == e) ≡ b → (if b then Some (request.Edit a gift) else None) ≡ Some x → n ≢ e → (if a == n then Some (request.Edit a gift) else None) ≡ None
edit-other a e n gift x false is some apart = absurd cc
edit-other a e n gift x true is some apart =
    let same = eqb-true a e is in
    rw (false_from_ne_true (a == n) (λ t. let also = eqb-true a n t in apart (omega arith))) refl

tune-other : (a e n : ℕ) (penalty : ℤ) (hints : List (List ℕ)) (x : Request) (b : Bool) → (a == e) ≡ b → (if b then Some (request.Tune a penalty hints) else None) ≡ Some x → n ≢ e → (if a == n then Some (request.Tune a penalty hints) else None) ≡ None
tune-other a e n penalty hints x false is some apart = absurd cc
tune-other a e n penalty hints x true is some apart =
    let same = eqb-true a e is in
    rw (false_from_ne_true (a == n) (λ t. let also = eqb-true a n t in apart (omega arith))) refl

-- a change of one entry is none of another
changes_no_other : (o : Option Request) (e n : ℕ) (x : Request) → changes_by e o ≡ Some x → n ≢ e → changes_by n o ≡ None
changes_no_other (Some (request.Edit a gift)) e n x some apart = edit-other a e n gift x (a == e) refl some apart
changes_no_other (Some (request.Tune a penalty hints)) e n x some apart = tune-other a e n penalty hints x (a == e) refl some apart
changes_no_other o e n x some apart = refl

record NoneTold (o : Option Request) : Type 0 where
  imports : imports_by o ≡ []
  changes : (n : ℕ) → changes_by n o ≡ None

tells_nothing : (o : Option Request) → changes_bank o ≡ false → NoneTold o
tells_nothing (Some (request.Import gift)) none = absurd cc
tells_nothing (Some (request.Edit a gift)) none = absurd cc
tells_nothing (Some (request.Tune a penalty hints)) none = absurd cc
tells_nothing o none = record { imports = refl; changes = λ n. refl }

-- ---- the bank after one record more

pub other-follows : (c : List Record) (es : List Entry) (r : Record) → IsBankOf c es → changes_bank (asked r) ≡ false → IsBankOf (c ++ r ∷ []) es
other-follows c es r h none =
    let nothing = tells_nothing (asked r) none in
    let same : entries (c ++ r ∷ []) ≡ entries c = entries-push c r ∙ ap (λ (is : List Item). entries c ++ is) nothing.imports ∙ append-nil (entries c) in
    let changed_same = λ (n : ℕ). changes-same c r n (nothing.changes n) in
    record {
      entries = h.entries ∙ sym (ap (λ (is : List Item). map (entry_over (c ++ r ∷ [])) (enumerate_from 1 is)) same ∙ over-same c (c ++ r ∷ []) 1 (entries c) (λ n above. changed_same n));
      none_ahead = λ e ahead. changed_same e ∙ h.none_ahead e (rw same at ahead);
    }

pub import-follows : (c : List Record) (es : List Entry) (r : Record) (gift : Bank) → IsBankOf c es → asked r ≡ Some (request.Import gift) → IsBankOf (c ++ r ∷ []) (imported es gift)
import-follows c es r gift h is =
    let longer : entries (c ++ r ∷ []) ≡ entries c ++ gift.items = entries-push c r ∙ ap (λ (o : Option Request). entries c ++ imports_by o) is in
    let changed_same : (n : ℕ) → changes (c ++ r ∷ []) n ≡ changes c n = λ n. changes-same c r n (ap (changes_by n) is) in
    let front = over-same c (c ++ r ∷ []) 1 (entries c) (λ n above. changed_same n) in
    let back = over-new (c ++ r ∷ []) (1 + length (entries c)) gift.items (λ n above. changed_same n ∙ h.none_ahead n (omega arith)) in
    let whole : entries_over (c ++ r ∷ []) ≡ imported es gift =
    ap (λ (is : List Item). map (entry_over (c ++ r ∷ [])) (enumerate_from 1 is)) longer
    ∙ over-append (c ++ r ∷ []) 1 (entries c) gift.items
    ∙ ap (λ (l : List Entry). l ++ map (entry_over (c ++ r ∷ [])) (enumerate_from (1 + length (entries c)) gift.items)) (front ∙ sym h.entries)
    ∙ ap (λ (l : List Entry). es ++ l) back in
    record {
      entries = sym whole;
      none_ahead = λ e ahead. changed_same e ∙ h.none_ahead e (omega (arith, ap (λ (l : List Item). length l) longer, length-append (entries c) gift.items));
    }

-- the item that an entry was made of
item-of : (c : List Record) (e : ℕ) (o : Option Item) → is_some (option_map (λ i. entry_over c (e, i)) o) ≡ true → (i : Item) × (o ≡ Some i)
item-of c e None there = absurd cc
item-of c e (Some i) there = (i, refl)

-- a place that is there, from 1
record IsThere {A : Type 0} (xs : List A) (n : ℕ) (x : A) : Type 0 where
  above : 1 ≤ n
  below : n ≤ length xs
  get : slice_get xs (n - 1) ≡ Some x

there-by : {A : Type 0} (xs : List A) (n : ℕ) (x : A) (b : Bool) → (n == 0) ≡ b → at_place xs n ≡ Some x → IsThere xs n x
there-by xs n x true is found = let none : None ≡ Some x = rw is at found in absurd cc
there-by xs n x false is found =
    let some = eqb-false n 0 is in
    let get : slice_get xs (n - 1) ≡ Some x = rw is at found in
    let within = slice_get_within xs (n - 1) x get in
    record { above = omega arith; below = omega arith; get = get }

-- an entry that is there gets one version more
changed-there : (c : List Record) (es : List Entry) (e : ℕ) (x : Request) (i : Item) → at_place es e ≡ Some (entry_over c (e, i)) → changed es e x ≡ slice_set es (e - 1) (with_version (entry_over c (e, i)) (changed_by (fold changed_by i.question (changes c e)) x))
changed-there c es e x i at =
    let last : newest es e ≡ Some (fold changed_by i.question (changes c e)) =
    ap (λ (o : Option Entry). option_and_then (λ (y : Entry). at_place y.versions (unwrap_or (option_map (λ (z : Entry). length z.versions) o) 0)) o) at ∙ versions-last i.question (changes c e) in
    ap (λ (o : Option Question). unwrap_or (option_map (grown es e) (option_map (λ old. changed_by old x) o)) es) last
    ∙ ap (λ (o : Option Entry). unwrap_or (option_map (λ (y : Entry). slice_set es (e - 1) (with_version y (changed_by (fold changed_by i.question (changes c e)) x))) o) es) at

pub change-follows : (c : List Record) (es : List Entry) (r : Record) (e : ℕ) (x : Request) → IsBankOf c es → changes_by e (asked r) ≡ Some x → is_some (at_place es e) ≡ true → IsBankOf (c ++ r ∷ []) (changed es e x)
change-follows c es r e x h some there =
    let found = item-of c e (at_place (entries c) e) (sym (ap is_some (at-follows c es e h)) ∙ there) in
    let i = found.0 in
    let inside = there-by (entries c) e i (e == 0) refl found.1 in
    let at : at_place es e ≡ Some (entry_over c (e, i)) = at-follows c es e h ∙ ap (option_map (λ j. entry_over c (e, j))) found.1 in
    let same : entries (c ++ r ∷ []) ≡ entries c = entries-push c r ∙ ap (λ (is : List Item). entries c ++ is) (no_import (asked r) e x some) ∙ append-nil (entries c) in
    let others : (n : ℕ) → n ≢ e → changes (c ++ r ∷ []) n ≡ changes c n = λ n apart. changes-same c r n (changes_no_other (asked r) e n x some apart) in
    let grows = over-changed c (c ++ r ∷ []) 1 e (e - 1) (entries c) i x (let above = inside.above in omega arith) (changes-more c r e x some) others inside.get in
    let whole : entries_over (c ++ r ∷ []) ≡ changed es e x =
    ap (λ (is : List Item). map (entry_over (c ++ r ∷ [])) (enumerate_from 1 is)) same ∙ grows
    ∙ ap (λ (l : List Entry). slice_set l (e - 1) (with_version (entry_over c (e, i)) (changed_by (fold changed_by i.question (changes c e)) x))) (sym h.entries)
    ∙ sym (changed-there c es e x i at) in
    record {
      entries = sym whole;
      none_ahead = λ n ahead. let past : length (entries c) < n = rw same at ahead in others n (λ is_e. let below = inside.below in absurd (omega arith)) ∙ h.none_ahead n past;
    }
