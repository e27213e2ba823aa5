-- The lists of a school: one of them exchanged, and lists that were mended.
use Rattle.std.proofs.Common.{◌≡◌, ℕ, zero, suc, ◌<◌, List, [], ◌∷◌, ◌++◌, Option, Some, None, length, refl, sym, ap, ◌∙◌, subst, arith, append_assoc, option_map}
use Rattle.std.specs.List.{AllZip}
use Rattle.std.specs.Prelude.{slice_get, slice_set, unwrap_or}
use Rattle.std.proofs.lemmas.List.{length-map}
use Rattle.std.proofs.lemmas.List.Elements.{length_all_zip}
use Rattle.std.proofs.lemmas.Option.{slice_get-map}
use Rattle.qz_terms.specs.declared.record.Record.{Record}
use Rattle.qz_terms.specs.SchoolAnswer.{part_at}
use Rattle.qz_terms.specs.Serial.{AllMended, Held, Lists, Mended, adopted, dropped, lists_of, part_list, stays, with_list}
use Rattle.qz_serial.proofs.Growing.{Grows, stays_so}

-- ---- one list exchanged

pub set_get : {A : Type 0} (xs : List A) (k : ℕ) (x y : A) → slice_get xs k ≡ Some x → slice_get (slice_set xs k y) k ≡ Some y
set_get [] k x y is = absurd cc
set_get (z ∷ xs) zero x y is = refl
set_get (z ∷ xs) (suc k) x y is = set_get xs k x y is

pub set_twice : {A : Type 0} (xs : List A) (k : ℕ) (x y : A) → slice_set (slice_set xs k x) k y ≡ slice_set xs k y
set_twice [] k x y = refl
set_twice (z ∷ xs) zero x y = refl
set_twice (z ∷ xs) (suc k) x y = ap (λ l. z ∷ l) (set_twice xs k x y)

pub set_same : {A : Type 0} (xs : List A) (k : ℕ) (x : A) → slice_get xs k ≡ Some x → slice_set xs k x ≡ xs
set_same [] k x is = refl
set_same (z ∷ xs) zero x is = ap (λ y. y ∷ xs) cc
set_same (z ∷ xs) (suc k) x is = ap (λ l. z ∷ l) (set_same xs k x is)

pub set_apart : {A : Type 0} (xs : List A) (k j : ℕ) (x : A) → (j ≡ k → ⊥) → slice_get (slice_set xs k x) j ≡ slice_get xs j
set_apart [] k j x apart = refl
set_apart (z ∷ xs) zero zero x apart = absurd (apart refl)
set_apart (z ∷ xs) zero (suc j) x apart = refl
set_apart (z ∷ xs) (suc k) zero x apart = refl
set_apart (z ∷ xs) (suc k) (suc j) x apart = set_apart xs k j x (λ e. apart (ap suc e))

-- ---- the list of a part

abbrev pub list_at : List Held → ℕ → List Record
list_at ps k = unwrap_or (option_map (λ (h : Held). h.list) (slice_get ps k)) []

pub at_here : (ps : List Held) (k : ℕ) (h : Held) → slice_get ps k ≡ Some h → list_at ps k ≡ h.list
at_here ps k h is = rw is refl

pub parts_at : (ps : List Held) (k : ℕ) → part_at (lists_of ps) k ≡ list_at ps k
parts_at ps k = ap (λ (o : Option (List Record)). unwrap_or o []) (slice_get-map (λ (h : Held). h.list) ps k)

pub count_parts : (ps : List Held) → length (lists_of ps) ≡ length ps
count_parts ps = length-map ps (λ (h : Held). h.list)

pub within_there : {A : Type 0} (xs : List A) (k : ℕ) → k < length xs → (x : A) × (slice_get xs k ≡ Some x)
within_there [] k inside = absurd (omega arith)
within_there (x ∷ xs) zero inside = (x, refl)
within_there (x ∷ xs) (suc k) inside = within_there xs k (let more : suc k < suc (length xs) = inside in omega arith)

pub same_held : (h : Held) (l : List Record) → h.list ≡ l → h.doubt ≡ None → h ≡ with_list l
same_held h l list clear = ap (λ (m : List Record). let k : Held = record { list = m; doubt = h.doubt } in k) list ∙ ap (λ (d : Option Record). let k : Held = record { list = l; doubt = d } in k) clear

-- ---- lists that were mended

pub all_stay : (ks : List Held) → AllZip Mended ks ks
all_stay [] = tt
all_stay (k ∷ ks) = (stays k, all_stay ks)

pub set_mended : (ks : List Held) (k : ℕ) (old new : Held) → slice_get ks k ≡ Some old → Mended old new → AllZip Mended ks (slice_set ks k new)
set_mended [] k old new is mends = tt
set_mended (x ∷ ks) zero old new is mends = (subst (λ (h : Held). Mended h new) (sym cc) mends, all_stay ks)
set_mended (x ∷ ks) (suc k) old new is mends = (stays x, set_mended ks k old new is mends)

-- ---- lists that grow

pub record ListsGrow (a b : Lists) : Type 0 where
  pub records : Grows a.records.list b.records.list
  pub count : length b.parts ≡ length a.parts
  pub each : (k : ℕ) → Grows (part_list a k) (part_list b k)

pub grows_on : (h g l : List Record) → Grows h g → Grows g l → Grows h l
grows_on h g l one other = record { rest = one.rest ++ other.rest; grown = other.grown ∙ ap (λ (m : List Record). m ++ other.rest) one.grown ∙ append_assoc h one.rest other.rest }

pub grow_on : (a b c : Lists) → ListsGrow a b → ListsGrow b c → ListsGrow a c
grow_on a b c one other = record {
  records = grows_on a.records.list b.records.list c.records.list one.records other.records;
  count = other.count ∙ one.count;
  each = λ k. grows_on (part_list a k) (part_list b k) (part_list c k) (one.each k) (other.each k);
}

pub grow_none : (a : Lists) → ListsGrow a a
grow_none a = record { records = stays_so a.records.list; count = refl; each = λ k. stays_so (part_list a k) }

pub mended_grows : (old new : Held) → Mended old new → Grows old.list new.list
mended_grows old new (stays k) = stays_so k.list
mended_grows old new (dropped l x) = stays_so l
mended_grows old new (adopted l x) = record { rest = x ∷ []; grown = refl }

each_grows : (ps qs : List Held) → AllZip Mended ps qs → (k : ℕ) → Grows (list_at ps k) (list_at qs k)
each_grows [] [] all k = stays_so []
each_grows [] (q ∷ qs) all k = absurd all
each_grows (p ∷ ps) [] all k = absurd all
each_grows (p ∷ ps) (q ∷ qs) all zero = mended_grows p q all.0
each_grows (p ∷ ps) (q ∷ qs) all (suc k) = each_grows ps qs all.1 k

pub mending_grows : (a b : Lists) → AllMended a b → ListsGrow a b
mending_grows a b m = record {
  records = mended_grows a.records b.records m.records;
  count = sym (length_all_zip Mended a.parts b.parts m.parts);
  each = each_grows a.parts b.parts m.parts;
}

pub set_grows : (ps : List Held) (k : ℕ) (h : Held) → Grows (list_at ps k) h.list → (j : ℕ) → Grows (list_at ps j) (list_at (slice_set ps k h) j)
set_grows [] k h grows j = stays_so []
set_grows (p ∷ ps) zero h grows zero = grows
set_grows (p ∷ ps) zero h grows (suc j) = stays_so (list_at ps j)
set_grows (p ∷ ps) (suc k) h grows zero = stays_so p.list
set_grows (p ∷ ps) (suc k) h grows (suc j) = set_grows ps k h grows j
