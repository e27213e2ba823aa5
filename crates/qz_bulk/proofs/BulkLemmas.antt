-- One line, one student, one mark more.
use Rattle.std.proofs.Common.{◌≡◌, ℕ, ◌+◌, ◌<◌, ◌%◌, ℤ, pos, ◌+ℤ◌, List, [], ◌∷◌, ◌++◌, ◌⊎◌, inr, Option, Some, None, Result, Ok, Err, length, take, refl, sym, ap, ◌∙◌, append-nil, append_assoc, arith}
use Rattle.std.specs.Prelude.{OnOk, codes, flat_map, fold, get_or, map}
use Rattle.std.proofs.lemmas.List.Sums.{fold_more}
use Rattle.std.proofs.lemmas.Grind.{flat_map-append}
use Rattle.std.proofs.lemmas.List.{length-set, map-id}
use Rattle.std.proofs.lemmas.List.FromFn.{map-range_with_len_more}
use Rattle.qz_ending.specs.declared.stop.Stop.{Stop}
use Rattle.qz_ending.specs.declared.stop.Stop.TheVariants as stop
use Rattle.qz_ending.specs.Endings.{status_of}
use Rattle.qz_outside.specs.Causes.{HasRisen}
use Rattle.qz_terms.specs.Lists.{places_to}
use Rattle.qz_terms.specs.Rows.{sum_of}
use Rattle.qz_terms.specs.declared.record.Record.{Record}
use Rattle.qz_terms.specs.declared.ask.Ask.{Ask}
use Rattle.qz_terms.specs.Serial.{Asking, Line, Lists, Unread, part_list, part_read, parts_over}
use Rattle.qz_solo.specs.Marks.{marks_of}
use Rattle.qz_bulk.specs.Bulk.{BulkEnds, after_asking, after_line, all_marks, asked_by, attempt_of, bulk_lines, school_of}
use Rattle.qz_solo.specs.Memory.{founded_lists}

-- the places up to one more
places-more : (n : ℕ) → places_to (n + 1) ≡ places_to n ++ (n + 1) ∷ []
places-more n =
    sym (map-id (places_to (n + 1))) ∙ (map-range_with_len_more (λ (x : ℕ). x) 1 n (n + 1) (omega arith) ∙ ap (λ (xs : List ℕ). xs ++ (n + 1) ∷ []) (map-id (places_to n)))

pub more_mapped : {A : Type 0} (f : ℕ → A) (front : List A) (n : ℕ) → (front ++ map f (places_to n)) ++ f (n + 1) ∷ [] ≡ front ++ map f (places_to (n + 1))
more_mapped f front n = append_assoc front (map f (places_to n)) (f (n + 1) ∷ []) ∙ ap (λ xs. front ++ xs) (sym (map-range_with_len_more f 1 n (n + 1) (omega arith)))

pub more_flat : {A : Type 0} (f : ℕ → List A) (front : List A) (n : ℕ) → (front ++ flat_map f (places_to n)) ++ f (n + 1) ≡ front ++ flat_map f (places_to (n + 1))
more_flat f front n =
    let last : flat_map f (places_to n ++ (n + 1) ∷ []) ≡ flat_map f (places_to n) ++ (f (n + 1) ++ []) = flat_map-append f (places_to n) ((n + 1) ∷ []) in
    append_assoc front (flat_map f (places_to n)) (f (n + 1))
    ∙ ap (λ xs. front ++ xs) (sym (ap (flat_map f) (places-more n) ∙ (last ∙ ap (λ xs. flat_map f (places_to n) ++ xs) (append-nil (f (n + 1))))))

-- the lines of a quiz, one after the other
pub four_parts : {A : Type 0} (front middle : List A) (x y z : A) → (((front ++ x ∷ []) ++ y ∷ []) ++ middle) ++ z ∷ [] ≡ front ++ (x ∷ y ∷ (middle ++ z ∷ []))
four_parts front middle x y z =
    ap (λ l. (l ++ middle) ++ z ∷ []) (append_assoc front (x ∷ []) (y ∷ []))
    ∙ (append_assoc (front ++ x ∷ y ∷ []) middle (z ∷ []) ∙ append_assoc front (x ∷ y ∷ []) (middle ++ z ∷ []))

-- those of a student
pub three_parts : {A : Type 0} (front middle : List A) (x z : A) → ((front ++ x ∷ []) ++ middle) ++ z ∷ [] ≡ front ++ (x ∷ (middle ++ z ∷ []))
three_parts front middle x z = append_assoc (front ++ x ∷ []) middle (z ∷ []) ∙ append_assoc front (x ∷ []) (middle ++ z ∷ [])

-- ---- sums

pub sum_more : (xs : List ℤ) (i : ℕ) (d : ℤ) → i < length xs → sum_of (take (i + 1) xs) ≡ sum_of (take i xs) +ℤ get_or xs i d
sum_more xs i d there = fold_more ◌+ℤ◌ (pos 0) xs i d there

-- the marks of one student more
pub more_marks : (h : List Record) (n : ℕ) → all_marks h n ++ marks_of h (record { user = n + 2; nth = 1 }) ≡ all_marks h (n + 1)
more_marks h n =
    let next : n + 2 ≡ n + 1 + 1 = omega arith in
    ap (λ (u : ℕ). all_marks h n ++ marks_of h (record { user = u; nth = 1 })) next ∙ more_flat (λ i. marks_of h (attempt_of i)) [] n

-- one line more
pub more_followed : (a : Lists) (ls : List (List ℕ)) (i : ℕ) (d : List ℕ) → i < length ls → fold after_line a (take (i + 1) ls) ≡ after_line (fold after_line a (take i ls)) (get_or ls i d)
more_followed a ls i d there = fold_more after_line a ls i d there

-- ---- one shard

kept-by : (a : Lists) (now : ℕ) (ask : Ask) (part : Option ℕ) → length (parts_over a now ask part) ≡ length a.parts
kept-by a now ask None = refl
kept-by a now ask (Some k) = length-set a.parts k _

kept-asking : (a : Lists) (i : Line) → length (after_asking a i).parts ≡ length a.parts
kept-asking a (Unread place rule) = refl
kept-asking a (Asking now ask) = kept-by a now ask (part_read a ask)

-- as many shards as before
shards-kept : (a : Lists) (ls : List (List ℕ)) → length (fold after_line a ls).parts ≡ length a.parts
shards-kept a [] = refl
shards-kept a (l ∷ ls) = shards-kept (after_line a l) ls ∙ kept-asking a (asked_by l)

pub one_shard_after : (a b : Lists) (ls : List (List ℕ)) → b ≡ fold after_line a ls → length a.parts ≡ 1 → length b.parts ≡ 1
one_shard_after a b ls is one = ap (λ (l : Lists). length l.parts) is ∙ (shards-kept a ls ∙ one)

pub regraded_one : {A E : Type 0} (r : Result A E) (a b : Lists) (ls : List (List ℕ)) → OnOk r (b ≡ fold after_line a ls) → length a.parts ≡ 1 → OnOk r (length b.parts ≡ 1)
regraded_one (Ok x) a b ls is one = one_shard_after a b ls is one
regraded_one (Err e) a b ls is one = tt

pub one_shard_of : (l : Lists) (n : ℕ) → l ≡ school_of n → length l.parts ≡ 1
one_shard_of l n is = ap (λ (a : Lists). length a.parts) is ∙ shards-kept (founded_lists 1 (codes "root")) (bulk_lines n)

-- which is everyone's
pub first_part : (a : Lists) (u : ℕ) → length a.parts ≡ 1 → part_list a (u % length a.parts) ≡ part_list a 0
first_part a u one = let none : u % 1 ≡ 0 = omega arith in rw (one, none) refl

-- ---- how it ends

pub bulk_ends : (n : ℕ) (old new : Option (List ℕ)) (before now : ℕ) (s : Stop) → BulkEnds n old new before now (Some s) → ¬ HasRisen before now → (status_of (Some s) ≡ 0) ⊎ (status_of (Some s) ≡ 8)
bulk_ends n old new before now stop.BadWords ends quiet = absurd ends
bulk_ends n old new before now stop.ShelfFault ends quiet = absurd ends
bulk_ends n old new before now stop.Refused ends quiet = absurd ends
bulk_ends n old new before now stop.DoorFault ends quiet = absurd ends
bulk_ends n old new before now stop.Gap ends quiet = absurd ends
bulk_ends n old new before now (stop.Malformed line) ends quiet = absurd ends
bulk_ends n old new before now (stop.Unreadable line rule) ends quiet = absurd ends
bulk_ends n old new before now stop.SourceFault ends quiet = absurd ends
bulk_ends n old new before now stop.SinkFault ends quiet = absurd (quiet ends.1)
bulk_ends n old new before now stop.Memory ends quiet = inr refl
bulk_ends n old new before now stop.TooLong ends quiet = absurd ends
