-- The tests of bounds and of learned versions decide what they stand for.
use Rattle.std.proofs.Common.{◌≡◌, ℕ, ℤ, Bool, true, false, ◌&&◌, List, [], ◌∷◌, Option, Some, None, option_map, length, map, refl, sym, ap, subst, ◌∙◌, arith, eq-eqb}
use Rattle.std.specs.Bool.{Decides}
use Rattle.std.specs.List.{list_all}
use Rattle.std.specs.Ordering.{int_eq}
use Rattle.std.specs.Prelude.{◌==◌, zip, unwrap_or, find, filter}
use Rattle.std.proofs.lemmas.Bool.{and_from, and_parts, eqb-true}
use Rattle.std.proofs.lemmas.Bool.Decides.{Decides-int_eq}
use Rattle.qz_grading.specs.declared.question.Question.{Question}
use Rattle.qz_grading.specs.Sameness.{same_question}
use Rattle.qz_terms.specs.declared.plan.Bound.{Bound}
use Rattle.qz_terms.specs.declared.plan.Planned.{Planned}
use Rattle.qz_terms.specs.declared.record.Learned.{Learned}
use Rattle.qz_terms.specs.declared.record.Record.{Record}
use Rattle.qz_terms.specs.Answer.{bind}
use Rattle.qz_terms.specs.Catalog.{version}
use Rattle.qz_terms.specs.Legal.{LearnsFrom}
use Rattle.qz_terms.specs.Lists.{first_of}
use Rattle.qz_agreement.specs.Tests.{binds, is_known}
use Rattle.qz_agreement.proofs.Sameness.{decides-question, two}

-- ---- bounds

abbrev bound_of : ℕ → ℕ → ℤ → ℕ → Bound
bound_of e v m n = record { entry = e; version = v; max = m; at = n }

bound-same : (n : ℕ) (s : Planned) (b : Bound) → binds n s b ≡ true → b ≡ bind n s
bound-same n s b is =
    let e = and_parts (b.entry == s.entry) ((b.version == s.version) && (int_eq b.max s.max && (b.at == n))) is in
    let v = and_parts (b.version == s.version) (int_eq b.max s.max && (b.at == n)) e.1 in
    let m = and_parts (int_eq b.max s.max) (b.at == n) v.1 in
    two (λ x y. bound_of x y b.max b.at) b.entry s.entry b.version s.version (eqb-true b.entry s.entry e.0) (eqb-true b.version s.version v.0)
    ∙ two (bound_of s.entry s.version) b.max s.max b.at n ((Decides-int_eq b.max s.max).0 m.0) (eqb-true b.at n m.1)

same-bound : (n : ℕ) (s : Planned) → binds n s (bind n s) ≡ true
same-bound n s = and_from (s.entry == s.entry) _ (eq-eqb s.entry s.entry refl) (and_from (s.version == s.version) _ (eq-eqb s.version s.version refl) (and_from (int_eq s.max s.max) (n == n) ((Decides-int_eq s.max s.max).1 refl) (eq-eqb n n refl)))

abbrev bind_all : ℕ → List Planned → List Bound → Bool
bind_all n ss bs = (length bs == length ss) && list_all (λ (p : Bound × Planned). binds n p.1 p.0) (zip bs ss)

bounds-same : (n : ℕ) (ss : List Planned) (bs : List Bound) → bind_all n ss bs ≡ true → bs ≡ map (bind n) ss
bounds-same n [] [] is = refl
bounds-same n [] (b ∷ bs) is = absurd (let long = eqb-true (length (b ∷ bs)) 0 (and_parts _ _ is).0 in omega arith)
bounds-same n (s ∷ ss) [] is = absurd (let long = eqb-true 0 (length (s ∷ ss)) (and_parts _ _ is).0 in omega arith)
bounds-same n (s ∷ ss) (b ∷ bs) is =
    let parts = and_parts (length (b ∷ bs) == length (s ∷ ss)) (binds n s b && list_all (λ (p : Bound × Planned). binds n p.1 p.0) (zip bs ss)) is in
    let items = and_parts (binds n s b) (list_all (λ (p : Bound × Planned). binds n p.1 p.0) (zip bs ss)) parts.1 in
    let long = eqb-true (length (b ∷ bs)) (length (s ∷ ss)) parts.0 in
    let short : length bs ≡ length ss = omega (arith, long) in
    let head : b ≡ bind n s = bound-same n s b items.0 in
    let tail : bs ≡ map (bind n) ss = bounds-same n ss bs (and_from (length bs == length ss) (list_all (λ (p : Bound × Planned). binds n p.1 p.0) (zip bs ss)) (eq-eqb (length bs) (length ss) short) items.1) in
    cc

same-items : (n : ℕ) (ss : List Planned) → list_all (λ (p : Bound × Planned). binds n p.1 p.0) (zip (map (bind n) ss) ss) ≡ true
same-items n [] = refl
same-items n (s ∷ ss) = and_from (binds n s (bind n s)) (list_all (λ (p : Bound × Planned). binds n p.1 p.0) (zip (map (bind n) ss) ss)) (same-bound n s) (same-items n ss)

as-long : (n : ℕ) (ss : List Planned) → length (map (bind n) ss) ≡ length ss
as-long n [] = refl
as-long n (s ∷ ss) = let rest = as-long n ss in omega (arith, rest)

same-bounds : (n : ℕ) (ss : List Planned) → bind_all n ss (map (bind n) ss) ≡ true
same-bounds n ss = and_from (length (map (bind n) ss) == length ss) (list_all (λ (p : Bound × Planned). binds n p.1 p.0) (zip (map (bind n) ss) ss)) (eq-eqb (length (map (bind n) ss)) (length ss) (as-long n ss)) (same-items n ss)

bounds-decide : (n : ℕ) (ss : List Planned) (bs : List Bound) → Decides (bind_all n ss bs) (bs ≡ map (bind n) ss)
bounds-decide n ss bs = (λ is. bounds-same n ss bs is, λ e. ap (bind_all n ss) e ∙ same-bounds n ss)

-- where there are as many, the test is that of each
pub bounds-decide-each : (n : ℕ) (ss : List Planned) (bs : List Bound) (b : Bool) → length bs ≡ length ss → b ≡ list_all (λ (p : Bound × Planned). binds n p.1 p.0) (zip bs ss) → Decides b (bs ≡ map (bind n) ss)
bounds-decide-each n ss bs b long is =
    let whole : bind_all n ss bs ≡ b = rw (eq-eqb (length bs) (length ss) long) (sym is) in
    subst (λ (x : Bool). Decides x (bs ≡ map (bind n) ss)) whole (bounds-decide n ss bs)

-- ---- versions

known-by : (o : Option Question) (q : Question) → Decides (unwrap_or (option_map (λ x. same_question x q) o) false) (o ≡ Some q)
known-by None q = (λ is. absurd cc, λ e. absurd cc)
known-by (Some x) q = (λ is. ap Some ((decides-question x q).0 is), λ e. (decides-question x q).1 (let same : x ≡ q = cc in same))

known-decides : (c : List Record) (l : Learned) → Decides (is_known c l) (version c l.entry l.version ≡ Some l.question)
known-decides c l = known-by (version c l.entry l.version) l.question

pub learned-decide : (c : List Record) (ls : List Learned) → Decides (list_all (is_known c) ls) (LearnsFrom c ls)
learned-decide c [] = (λ is. refl, λ e. refl)
learned-decide c (l ∷ ls) = (
  λ is. let parts = and_parts (is_known c l) (list_all (is_known c) ls) is in
      let head : version c l.entry l.version ≡ Some l.question = (known-decides c l).0 parts.0 in
      let tail : LearnsFrom c ls = (learned-decide c ls).0 parts.1 in
      cc,
  λ e. let head : version c l.entry l.version ≡ Some l.question = cc in
      let tail : LearnsFrom c ls = cc in
      and_from (is_known c l) (list_all (is_known c) ls) ((known-decides c l).1 head) ((learned-decide c ls).1 tail),
)

-- ---- the first that passes

first-found-step : (p : ℕ → Bool) (n : ℕ) (ns : List ℕ) (b : Bool) → p n ≡ b → find p ns ≡ first_of (filter p ns) → find p (n ∷ ns) ≡ first_of (filter p (n ∷ ns))
first-found-step p n ns true is rest = rw is refl
first-found-step p n ns false is rest = rw is rest

pub first-found : (p : ℕ → Bool) (ns : List ℕ) → find p ns ≡ first_of (filter p ns)
first-found p [] = refl
first-found p (n ∷ ns) = first-found-step p n ns (p n) refl (first-found p ns)
