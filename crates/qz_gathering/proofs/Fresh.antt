-- Marks before any note was read.
use Rattle.std.proofs.Common.{◌≡◌, ◌⊎◌, inl, inr, ℕ, zero, suc, ◌-◌, ◌^◌, ◌<◌, ◌≤◌, Bool, false, List, [], ◌∷◌, ◌++◌, length, get_or, Option, Some, None, refl, sym, ap, subst, ◌∙◌, arith, replicate}
use Rattle.std.specs.Prelude.{slice_get, unwrap_or}
use Rattle.std.proofs.lemmas.Bool.{cases_lt}
use Rattle.std.proofs.lemmas.List.{get_or-replicate, length-map, length-replicate}
use Rattle.std.proofs.lemmas.Option.{slice_get-get_or, slice_get_past}
use Rattle.qz_school.specs.Solos.{School, held_of, lists_in}
use Rattle.qz_shard.specs.Keeping as part
use Rattle.qz_terms.specs.Serial.{Held, Lists, held_in}
use Rattle.qz_visit.specs.declared.last.Last.{Last}
use Rattle.qz_gathering.specs.declared.marks.Marks.{Marks}
use Rattle.qz_gathering.specs.Gathering.{count_before}
use Rattle.qz_gathering.specs.Marking.{AreMarked, IsMarked, marks_of}

pub fresh : (a : Lists) (base : Last) (list : Option ℕ) (n : ℕ) (marks : List Bool) → n ≡ length (held_in a list).list → n < 2 ^ 64 → marks ≡ replicate (n - count_before base list) false → IsMarked a base [] list marks
fresh a base list n marks long fits are =
    let count : length marks ≡ n - count_before base list = ap length are ∙ length-replicate (n - count_before base list) false in
    record {
      has = record { fits = subst (λ (m : ℕ). m < 2 ^ 64) long fits; count = count ∙ ap (λ (m : ℕ). m - count_before base list) long };
      each = λ j inside. ap (λ (ms : List Bool). get_or ms j false) are ∙ get_or-replicate (n - count_before base list) j false false (omega (arith, count, inside));
    }

held-at : {K : Type 0} (ss : List (part.Keeping K)) (k : ℕ) (s : part.Keeping K) → slice_get ss k ≡ Some s → slice_get (held_of ss) k ≡ Some s.held
held-at [] k s at = absurd cc
held-at (x ∷ ss) zero s at = let same : x ≡ s = cc in ap (λ (y : part.Keeping _). Some y.held) same
held-at (x ∷ ss) (suc k) s at = held-at ss k s at

-- how long the list of a shard is
pub list_at : {K : Type 0} (a : School K) (k : ℕ) (s : part.Keeping K) → slice_get a.parts k ≡ Some s → length s.held.list ≡ length (held_in (lists_in a) (Some k)).list
list_at a k s at = sym (ap (λ (o : Option Held). length (unwrap_or o (record { list = []; doubt = None })).list) (held-at a.parts k s at))

pub shards_counted : {K : Type 0} (a : School K) → length (lists_in a).parts ≡ length a.parts
shards_counted a = length-map a.parts (λ s. s.held)

-- those of the first shards
pub record PartsFresh (a : Lists) (base : Last) (parts : List (List Bool)) : Type 0 where
  pub each : (k : ℕ) (marks : List Bool) → slice_get parts k ≡ Some marks → IsMarked a base [] (Some k) marks

pub none_fresh : (a : Lists) (base : Last) → PartsFresh a base []
none_fresh a base = record { each = λ k marks at. absurd cc }

get-last : {A : Type 0} (xs : List A) (x y : A) (k : ℕ) → slice_get (xs ++ x ∷ []) k ≡ Some y → (slice_get xs k ≡ Some y) ⊎ ((k ≡ length xs) × (x ≡ y))
get-last [] x y zero is = let same : x ≡ y = cc in inr (refl, same)
get-last [] x y (suc k) is = absurd cc
get-last (z ∷ xs) x y zero is = inl is
get-last (z ∷ xs) x y (suc k) is = elim (get-last xs x y k is) [ inl before ↦ inl before | inr here ↦ inr (ap suc here.0, here.1) ]

pub one_fresh : (a : Lists) (base : Last) (parts : List (List Bool)) (marks : List Bool) (k : ℕ) → length parts ≡ k → PartsFresh a base parts → IsMarked a base [] (Some k) marks → PartsFresh a base (parts ++ marks ∷ [])
one_fresh a base parts marks k count are is = record {
  each = λ j ms at. elim (get-last parts marks ms j at) [
    | inl before ↦ are.each j ms before
    | inr here ↦ subst (λ (i : ℕ). IsMarked a base [] (Some i) ms) (sym (here.0 ∙ count)) (subst (IsMarked a base [] (Some k)) here.1 is)
  ];
}

zero-less : (n : ℕ) → zero ≡ 0 - n
zero-less n = omega arith

no-list : (a : Lists) (k : ℕ) → length a.parts ≤ k → (held_in a (Some k)).list ≡ []
no-list a k past = ap (λ (o : Option Held). (unwrap_or o (record { list = []; doubt = None })).list) (slice_get_past a.parts k past)

pub all_fresh : (a : Lists) (base : Last) (m : Marks) → IsMarked a base [] None m.catalog → PartsFresh a base m.parts.items → length m.parts.items ≡ length a.parts → AreMarked a base [] m
all_fresh a base m first parts count = record { each = all }
  where
    all : (list : Option ℕ) → IsMarked a base [] list (marks_of m list)
    all None = first
    all (Some k) = elim (cases_lt k (length m.parts.items)) [
      | inl within ↦
          let there = slice_get-get_or m.parts.items k [] within in
          subst (λ (o : Option (List Bool)). IsMarked a base [] (Some k) (unwrap_or o [])) (sym there) (parts.each k (get_or m.parts.items k []) there)
      | inr past ↦
          let none = ap (λ (o : Option (List Bool)). unwrap_or o []) (slice_get_past m.parts.items k past) in
          let empty = no-list a k (omega (arith, count)) in
          fresh a base (Some k) 0 (marks_of m (Some k)) (sym (ap length empty)) (omega arith) (none ∙ ap (λ (n : ℕ). replicate n false) (zero-less (count_before base (Some k))))
    ]
