-- A field that is read is what was spelled, and what was spelled is read, whatever follows it.
use Rattle.std.proofs.Common.{◌≡◌, ℕ, zero, suc, ◌+◌, ◌<◌, Bool, true, ◌&&◌, List, [], ◌∷◌, ◌++◌, length, get_or, take, inl, inr, Option, Some, None, refl, sym, ap, subst, ◌∙◌, append_assoc, arith}
use Rattle.std.specs.Option.{option_and_then, option_map}
use Rattle.std.proofs.lemmas.Bool.{and_parts, and_from, cases_lt}
use Rattle.std.proofs.lemmas.List.{get_or-append-add, get_or-take, get_or_past, length-take}
use Rattle.qz_terms.specs.Spelling.{option_bytes}
use Rattle.qz_record.specs.Fields.{Field, ◌⊗◌, bare, built, by_number, holding, if_some, one_of, option_field, struct}

pub record IsBytes (bytes : List ℕ) : Type 0 where
  pub small : (i : ℕ) → get_or bytes i 0 < 256

pub IsBytes-behind : (front rest bytes : List ℕ) → bytes ≡ front ++ rest → IsBytes bytes → IsBytes rest
IsBytes-behind front rest bytes e is = record { small = λ i. subst (λ (n : ℕ). n < 256) (ap (λ (b : List ℕ). get_or b (length front + i) 0) e ∙ get_or-append-add front rest i 0) (is.small (length front + i)) }

pub IsBytes-take : (n : ℕ) (bytes : List ℕ) → IsBytes bytes → IsBytes (take n bytes)
IsBytes-take n bytes is = record {
  small = λ i.
      elim (cases_lt i n) [
        | inl lt ↦ rw (get_or-take n bytes i 0 lt) (is.small i)
        | inr le ↦ rw (get_or_past (take n bytes) i 0 (omega (arith, length-take n bytes))) (omega arith)
      ];
}

-- a value was read of the front of bytes, and these were left
pub record Took {A : Type 0} (test : A → Bool) (spell : A → List ℕ) (bytes : List ℕ) (x : A) (rest : List ℕ) : Type 0 where
  pub fits : test x ≡ true
  pub parts : bytes ≡ spell x ++ rest

pub record IsCode {A : Type 0} (f : Field A) (spell : A → List ℕ) : Type 0 where
  pub again : (x : A) (rest : List ℕ) → f.fits x ≡ true → f.read (spell x ++ rest) ≡ Some (x, rest)
  pub takes : (bytes : List ℕ) (x : A) (rest : List ℕ) → IsBytes bytes → f.read bytes ≡ Some (x, rest) → Took f.fits spell bytes x rest

-- ---- steps that gave something

pub then_some : {A B : Type 0} (k : A → Option B) (o : Option A) (y : B) → option_and_then k o ≡ Some y → (x : A) × (o ≡ Some x) × (k x ≡ Some y)
then_some k None y e = absurd cc
then_some k (Some x) y e = (x, refl, e)

pub map_some : {A B : Type 0} (h : A → B) (o : Option A) (y : B) → option_map h o ≡ Some y → (x : A) × (o ≡ Some x) × (h x ≡ y)
map_some h None y e = absurd cc
map_some h (Some x) y e = (x, refl, cc)

-- ---- structs

pair-again : {A B : Type 0} (f : Field A) (g : Field B) (s : A → List ℕ) (t : B → List ℕ) → IsCode f s → IsCode g t
    → (x : A × B) (rest : List ℕ) → f.fits x.0 && g.fits x.1 ≡ true → (f ⊗ g).read ((s x.0 ++ t x.1) ++ rest) ≡ Some (x, rest)
pair-again {A} {B} f g s t cf cg x rest fits =
    let p = and_parts (f.fits x.0) (g.fits x.1) fits in
    ap (f ⊗ g).read (append_assoc (s x.0) (t x.1) rest)
    ∙ ap (option_and_then (λ (a : A × List ℕ). option_map (λ (b : B × List ℕ). ((a.0, b.0), b.1)) (g.read a.1))) (cf.again x.0 (t x.1 ++ rest) p.0)
    ∙ ap (option_map (λ (b : B × List ℕ). ((x.0, b.0), b.1))) (cg.again x.1 rest p.1)

pair-takes : {A B : Type 0} (f : Field A) (g : Field B) (s : A → List ℕ) (t : B → List ℕ) → IsCode f s → IsCode g t
    → (bytes : List ℕ) (x : A × B) (rest : List ℕ) → IsBytes bytes → (f ⊗ g).read bytes ≡ Some (x, rest) → Took (f ⊗ g).fits (λ (y : A × B). s y.0 ++ t y.1) bytes x rest
pair-takes {A} {B} f g s t cf cg bytes x rest is e =
    let first = then_some (λ (a : A × List ℕ). option_map (λ (b : B × List ℕ). ((a.0, b.0), b.1)) (g.read a.1)) (f.read bytes) (x, rest) e in
    let a = first.0 in
    let second = map_some (λ (b : B × List ℕ). ((a.0, b.0), b.1)) (g.read a.1) (x, rest) first.2 in
    let b = second.0 in
    let p = cf.takes bytes a.0 a.1 is first.1 in
    let q = cg.takes a.1 b.0 b.1 (IsBytes-behind (s a.0) a.1 bytes p.parts is) second.1 in
    let made : (A × B) × List ℕ = ((a.0, b.0), b.1) in
    subst (λ (y : (A × B) × List ℕ). Took (f ⊗ g).fits (λ (z : A × B). s z.0 ++ t z.1) bytes y.0 y.1) second.2
    (record { fits = and_from (f.fits a.0) (g.fits b.0) p.fits q.fits; parts = p.parts ∙ ap (λ (l : List ℕ). s a.0 ++ l) q.parts ∙ sym (append_assoc (s a.0) (t b.0) b.1) })

infixl 20 ◌⊠◌
pub ◌⊠◌ : {A B : Type 0} {f : Field A} {g : Field B} {s : A → List ℕ} {t : B → List ℕ} → IsCode f s → IsCode g t → IsCode (f ⊗ g) (λ (x : A × B). s x.0 ++ t x.1)
◌⊠◌ {A} {B} {f} {g} {s} {t} cf cg = record { again = pair-again f g s t cf cg; takes = pair-takes f g s t cf cg }

struct-takes : {A B : Type 0} (made : B → A) (parts : A → B) (f : Field B) (s : B → List ℕ) → IsCode f s → ((y : B) → parts (made y) ≡ y)
    → (bytes : List ℕ) (x : A) (rest : List ℕ) → IsBytes bytes → (struct made parts f).read bytes ≡ Some (x, rest) → Took (struct made parts f).fits (λ (a : A). s (parts a)) bytes x rest
struct-takes {A} {B} made parts f s cf forth bytes x rest is e =
    let found = map_some (λ (y : B × List ℕ). (made y.0, y.1)) (f.read bytes) (x, rest) e in
    let y = found.0 in
    let p = cf.takes bytes y.0 y.1 is found.1 in
    subst (λ (z : A × List ℕ). Took (struct made parts f).fits (λ (a : A). s (parts a)) bytes z.0 z.1) found.2
    (record { fits = ap f.fits (forth y.0) ∙ p.fits; parts = p.parts ∙ ap (λ (b : B). s b ++ y.1) (sym (forth y.0)) })

pub struct-code : {A B : Type 0} {f : Field B} {s : B → List ℕ} (made : B → A) (parts : A → B) → IsCode f s → ((x : A) → made (parts x) ≡ x) → ((y : B) → parts (made y) ≡ y) → IsCode (struct made parts f) (λ (x : A). s (parts x))
struct-code {A} {B} {f} {s} made parts cf back forth = record {
  again = λ x rest fits. ap (built made) (cf.again (parts x) rest fits) ∙ ap (λ (z : A). Some (z, rest)) (back x);
  takes = struct-takes made parts f s cf forth;
}

-- ---- enums

-- a variant of this number
pub record IsVariant {A : Type 0} (fits : A → Bool) (spell : A → List ℕ) (n : ℕ) (variant : List ℕ → Option (A × List ℕ)) : Type 0 where
  pub takes : (bytes : List ℕ) (x : A) (rest : List ℕ) → IsBytes bytes → variant bytes ≡ Some (x, rest) → Took fits spell (n ∷ bytes) x rest

-- variants numbered from n on
abbrev pub AreVariants : {A : Type 0} → (A → Bool) → (A → List ℕ) → ℕ → List (List ℕ → Option (A × List ℕ)) → Type 0
AreVariants fits spell n [] = Unit {0}
AreVariants fits spell n (variant ∷ variants) = IsVariant fits spell n variant × AreVariants fits spell (suc n) variants

pub bare-variant : {A : Type 0} (fits : A → Bool) (spell : A → List ℕ) (n : ℕ) (v : A) → fits v ≡ true → spell v ≡ n ∷ [] → IsVariant fits spell n (bare v)
bare-variant {A} fits spell n v good spelled = record {
  takes = λ bytes x rest is e.
      let same : ◌≡◌ {A = A × List ℕ} (v, bytes) (x, rest) = cc in
      subst (λ (y : A × List ℕ). Took fits spell (n ∷ bytes) y.0 y.1) same (record { fits = good; parts = ap (λ (l : List ℕ). l ++ bytes) (sym spelled) });
}

pub holding-variant : {A B : Type 0} {f : Field B} {s : B → List ℕ} (fits : A → Bool) (spell : A → List ℕ) (n : ℕ) (made : B → A) → IsCode f s → ((y : B) → f.fits y ≡ true → fits (made y) ≡ true) → ((y : B) → spell (made y) ≡ n ∷ s y)
    → IsVariant fits spell n (holding made f)
holding-variant {A} {B} {f} {s} fits spell n made cf good spelled = record {
  takes = λ bytes x rest is e.
      let found = map_some (λ (y : B × List ℕ). (made y.0, y.1)) (f.read bytes) (x, rest) e in
      let y = found.0 in
      let p = cf.takes bytes y.0 y.1 is found.1 in
      subst (λ (z : A × List ℕ). Took fits spell (n ∷ bytes) z.0 z.1) found.2
      (record { fits = good y.0 p.fits; parts = ap (λ (l : List ℕ). n ∷ l) p.parts ∙ ap (λ (l : List ℕ). l ++ y.1) (sym (spelled y.0)) });
}

by_number-takes : {A : Type 0} (fits : A → Bool) (spell : A → List ℕ) (first n : ℕ) (variants : List (List ℕ → Option (A × List ℕ))) → AreVariants fits spell first variants
    → (bytes : List ℕ) (x : A) (rest : List ℕ) → IsBytes bytes → by_number variants n bytes ≡ Some (x, rest) → Took fits spell ((first + n) ∷ bytes) x rest
by_number-takes fits spell first n [] are bytes x rest is e = absurd cc
by_number-takes fits spell first zero (variant ∷ variants) are bytes x rest is e = let same : first + 0 ≡ first = omega arith in subst (λ (k : ℕ). Took fits spell (k ∷ bytes) x rest) (sym same) (are.0.takes bytes x rest is e)
by_number-takes fits spell first (suc n) (variant ∷ variants) are bytes x rest is e =
    let same : suc first + n ≡ first + suc n = omega arith in
    subst (λ (k : ℕ). Took fits spell (k ∷ bytes) x rest) same (by_number-takes fits spell (suc first) n variants are.1 bytes x rest is e)

pub one_of-takes : {A : Type 0} (fits : A → Bool) (spell : A → List ℕ) (variants : List (List ℕ → Option (A × List ℕ))) → AreVariants fits spell 0 variants
    → (bytes : List ℕ) (x : A) (rest : List ℕ) → IsBytes bytes → one_of variants bytes ≡ Some (x, rest) → Took fits spell bytes x rest
one_of-takes fits spell variants are [] x rest is e = absurd cc
one_of-takes fits spell variants are (n ∷ bytes) x rest is e =
    let same : 0 + n ≡ n = omega arith in
    subst (λ (k : ℕ). Took fits spell (k ∷ bytes) x rest) same (by_number-takes fits spell 0 n variants are bytes x rest (IsBytes-behind (n ∷ []) bytes (n ∷ bytes) refl is) e)

-- what a variant with fields says again
pub held : {A B : Type 0} {f : Field B} {s : B → List ℕ} (made : B → A) → IsCode f s → (y : B) (rest : List ℕ) → f.fits y ≡ true → holding made f (s y ++ rest) ≡ Some (made y, rest)
held made cf y rest fits = ap (built made) (cf.again y rest fits)

option-again : {A : Type 0} (f : Field A) (s : A → List ℕ) → IsCode f s → (o : Option A) (rest : List ℕ) → if_some f.fits o ≡ true → (option_field f).read (option_bytes s o ++ rest) ≡ Some (o, rest)
unfolding option_field
option-again f s cf None rest fits = refl
option-again {A} f s cf (Some x) rest fits = held (λ (y : A). Some y) cf x rest fits

pub option-code : {A : Type 0} {f : Field A} {s : A → List ℕ} → IsCode f s → IsCode (option_field f) (option_bytes s)
unfolding option_field
option-code {A} {f} {s} cf = record {
  again = option-again f s cf;
  takes = one_of-takes (if_some f.fits) (option_bytes s) (bare None ∷ holding (λ (y : A). Some y) f ∷ [])
      (bare-variant (if_some f.fits) (option_bytes s) 0 None refl refl, (holding-variant (if_some f.fits) (option_bytes s) 1 (λ (y : A). Some y) cf (λ y good. good) (λ y. refl), tt));
}
