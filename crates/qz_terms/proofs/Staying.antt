-- What the first records of a catalogue tell of entries and versions stays, whatever comes behind them.
use Rattle.std.proofs.Common.{◌≡◌, ℕ, ◌+◌, ◌-◌, ◌<◌, ◌≤◌, Bool, true, false, ◌&&◌, List, ◌++◌, Option, Some, None, length, take, option_map, refl, sym, ◌∙◌, arith, length-append}
use Rattle.std.specs.Prelude.{◌==◌, fold, if◌then◌else◌, is_some, nat_le, slice_get}
use Rattle.std.proofs.lemmas.Bool.{leb-true, le-leb}
use Rattle.std.proofs.lemmas.Grind.{flat_map-append}
use Rattle.std.proofs.lemmas.List.{get_or_append_left, take-append-le}
use Rattle.std.proofs.lemmas.List.Elements.{filter_map-append}
use Rattle.std.proofs.lemmas.Option.{get_or_from_slice_get, slice_get_read, slice_get_within}
use Rattle.qz_grading.specs.declared.question.Item.{Item}
use Rattle.qz_grading.specs.declared.question.Question.{Question}
use Rattle.qz_grading.specs.Grading.{at_place}
use Rattle.qz_terms.specs.declared.record.Record.{Record}
use Rattle.qz_terms.specs.declared.request.Request.{Request}
use Rattle.qz_terms.specs.Catalog.{asked, changed_by, changes, changes_by, entries, imports_by, version}

-- ---- a place

at-by : {A : Type 0} (xs ys : List A) (n : ℕ) (x : A) (b : Bool) → (n == 0) ≡ b → at_place xs n ≡ Some x → at_place (xs ++ ys) n ≡ Some x
at-by xs ys n x true is found = let none : None ≡ Some x = rw is at found in absurd cc
at-by xs ys n x false is found =
    let here : slice_get xs (n - 1) ≡ Some x = rw is at found in
    let inside : n - 1 < length xs = slice_get_within xs (n - 1) x here in
    let still = get_or_append_left xs ys x (n - 1) inside ∙ get_or_from_slice_get xs (n - 1) x x here in
    rw is (slice_get_read (xs ++ ys) (length (xs ++ ys)) (n - 1) x refl (omega (arith, length-append xs ys)) (sym still))

pub at-append : {A : Type 0} (xs ys : List A) (n : ℕ) (x : A) → at_place xs n ≡ Some x → at_place (xs ++ ys) n ≡ Some x
at-append xs ys n x found = at-by xs ys n x (n == 0) refl found

-- ---- an entry

pub entries-append : (c rest : List Record) → entries (c ++ rest) ≡ entries c ++ entries rest
entries-append c rest = flat_map-append (λ (r : Record). imports_by (asked r)) c rest

pub entry-stays : (c rest : List Record) (n : ℕ) (i : Item) → at_place (entries c) n ≡ Some i → at_place (entries (c ++ rest)) n ≡ Some i
entry-stays c rest n i found = rw (entries-append c rest) (at-append (entries c) (entries rest) n i found)

-- ---- a version

-- a version of an entry with these changes
abbrev told : Option Item → ℕ → List Request → Option Question
told o n xs = if nat_le 1 n && nat_le n (if is_some o then length xs + 1 else 0) then option_map (λ (i : Item). fold changed_by i.question (take (n - 1) xs)) o else None

told-none : (n : ℕ) (xs : List Request) (b : Bool) → (nat_le 1 n && nat_le n 0) ≡ b → told None n xs ≡ None
told-none n xs true is = rw is refl
told-none n xs false is = rw is refl

told-longer : (i : Item) (n : ℕ) (xs ys : List Request) (q : Question) (a b : Bool) → nat_le 1 n ≡ a → nat_le n (length xs + 1) ≡ b → told (Some i) n xs ≡ Some q → told (Some i) n (xs ++ ys) ≡ Some q
told-longer i n xs ys q true true low high found =
    let within : n ≤ length xs + 1 = leb-true n (length xs + 1) high in
    let above : 1 ≤ n = leb-true 1 n low in
    let front : take (n - 1) (xs ++ ys) ≡ take (n - 1) xs = take-append-le (n - 1) xs ys (omega arith) in
    let more : nat_le n (length (xs ++ ys) + 1) ≡ true = le-leb n (length (xs ++ ys) + 1) (omega (arith, length-append xs ys)) in
    let here : Some (fold changed_by i.question (take (n - 1) xs)) ≡ Some q = rw (low, high) at found in
    rw (low, more, front) here
told-longer i n xs ys q true false low high found = let none : None ≡ Some q = rw (low, high) at found in absurd cc
told-longer i n xs ys q false b low high found = let none : None ≡ Some q = rw low at found in absurd cc

told-stays : (o p : Option Item) (n : ℕ) (xs ys : List Request) (q : Question) → ((i : Item) → o ≡ Some i → p ≡ Some i) → told o n xs ≡ Some q → told p n (xs ++ ys) ≡ Some q
told-stays None p n xs ys q same found = let none : None ≡ Some q = sym (told-none n xs (nat_le 1 n && nat_le n 0) refl) ∙ found in absurd cc
told-stays (Some i) p n xs ys q same found = rw (same i refl) (told-longer i n xs ys q (nat_le 1 n) (nat_le n (length xs + 1)) refl refl found)

pub version-stays : (c rest : List Record) (e n : ℕ) (q : Question) → version c e n ≡ Some q → version (c ++ rest) e n ≡ Some q
version-stays c rest e n q found =
    let more : changes (c ++ rest) e ≡ changes c e ++ changes rest e = filter_map-append (λ r. changes_by e (asked r)) c rest in
    rw more (told-stays (at_place (entries c) e) (at_place (entries (c ++ rest)) e) n (changes c e) (changes rest e) q (λ i at. entry-stays c rest e i at) found)
