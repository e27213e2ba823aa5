-- What a record learns, tested bound by bound.
use Rattle.std.proofs.Common.{◌≡◌, ℕ, zero, suc, ◌+◌, ◌<◌, ◌≤◌, Bool, true, false, not, ◌&&◌, ◌||◌, List, [], ◌∷◌, ◌++◌, length, take, map, get_or, refl, sym, ap, ◌∙◌, append-nil, length-append, arith}
use Rattle.std.specs.List.{list_any}
use Rattle.std.specs.Prelude.{◌==◌, filter, if◌then◌else◌, is_none}
use Rattle.std.proofs.Math.Bool.{and-true, and_assoc}
use Rattle.std.proofs.lemmas.Bool.{eq-eqb, eqb-true}
use Rattle.std.proofs.lemmas.Bool.Decides.{same_from_decides}
use Rattle.std.proofs.lemmas.List.{map-append, take_all}
use Rattle.std.proofs.lemmas.List.Elements.{filter-append}
use Rattle.qz_terms.specs.declared.plan.Bound.{Bound}
use Rattle.qz_terms.specs.declared.record.Learned.{Learned}
use Rattle.qz_terms.specs.declared.record.Record.{Record}
use Rattle.qz_terms.specs.Legal.{same_pair, version_of_bound, version_of_learned}
use Rattle.qz_terms.specs.Lists.{once}
use Rattle.qz_terms.specs.History.{version}
use Rattle.qz_terms.proofs.Walks.{take-one_more}
use Rattle.qz_legal.specs.Allowed.{learns_new, new_bound, same_pairs}
use Rattle.qz_legal.specs.Readings.{binds_new, binds_version, is_version_at}
use Rattle.qz_legal.proofs.Learning.{once-push}

-- ---- one bound more

any-bound : (b : Bound) (bs : List Bound) → list_any (λ v. same_pair v (version_of_bound b)) (map version_of_bound bs) ≡ binds_version b bs
any-bound b [] = refl
any-bound b (c ∷ bs) = ap (λ (t : Bool). same_pair (version_of_bound c) (version_of_bound b) || t) (any-bound b bs)

new-alone : (h : List Record) (b : Bound) (stands new : Bool) → is_none (version h b.entry b.version) ≡ new
    → filter (λ (v : ℕ × ℕ). is_none (version h v.0 v.1)) (if stands then [] else version_of_bound b ∷ []) ≡ (if not stands && new then version_of_bound b ∷ [] else [])
new-alone h b true new is = refl
new-alone h b false true is = rw is refl
new-alone h b false false is = rw is refl

new_bound-more : (h : List Record) (bs : List Bound) (n : ℕ) (b : Bound) → n < length bs → b ≡ get_or bs n b → new_bound h (take (n + 1) bs) ≡ new_bound h (take n bs) ++ (if binds_new h (take n bs) b then version_of_bound b ∷ [] else [])
new_bound-more h bs n b inside is =
    let fresh : ℕ × ℕ → Bool = λ (v : ℕ × ℕ). is_none (version h v.0 v.1) in
    let vs = map version_of_bound (take n bs) in
    let v = version_of_bound b in
    ap (new_bound h) (take-one_more bs n b inside is)
    ∙ ap (λ (xs : List (ℕ × ℕ)). filter fresh (once same_pair xs)) (map-append version_of_bound (take n bs) (b ∷ []))
    ∙ ap (filter fresh) (once-push same_pair vs v)
    ∙ filter-append fresh (once same_pair vs) (if list_any (λ y. same_pair y v) vs then [] else v ∷ [])
    ∙ ap (λ (t : List (ℕ × ℕ)). filter fresh (once same_pair vs) ++ t)
    (ap (λ (s : Bool). filter fresh (if s then [] else v ∷ [])) (any-bound b (take n bs)) ∙ new-alone h b (binds_version b (take n bs)) (is_none (version h b.entry b.version)) refl)

-- ---- the versions stand first among those that are learned

abbrev pub leads : List (ℕ × ℕ) → List Learned → Bool
leads [] ls = true
leads (v ∷ vs) [] = false
leads (v ∷ vs) (l ∷ ls) = same_pair (version_of_learned l) v && leads vs ls

leads-more : (vs : List (ℕ × ℕ)) (ls : List Learned) (b : Bound) → leads (vs ++ version_of_bound b ∷ []) ls ≡ leads vs ls && is_version_at ls (length vs) b
leads-more [] [] b = refl
leads-more [] (l ∷ ls) b = and-true (same_pair (version_of_learned l) (version_of_bound b))
leads-more (v ∷ vs) [] b = refl
leads-more (v ∷ vs) (l ∷ ls) b =
    ap (λ (t : Bool). same_pair (version_of_learned l) v && t) (leads-more vs ls b)
    ∙ sym (and_assoc (same_pair (version_of_learned l) v) (leads vs ls) (is_version_at ls (length vs) b))

count-same : (m n : ℕ) → (m == n) ≡ (suc m == suc n)
count-same m n = same_from_decides (m == n) (suc m == suc n)
    (λ is. eqb-true m n is, λ is. eq-eqb m n is)
    (λ is. let same : suc m ≡ suc n = eqb-true (suc m) (suc n) is in omega arith, λ is. eq-eqb (suc m) (suc n) (ap suc is))

count-other : (n : ℕ) → false ≡ (zero == suc n)
count-other n = same_from_decides {P = zero ≡ suc n} false (zero == suc n) (λ is. absurd cc, λ is. absurd (omega arith)) (λ is. eqb-true zero (suc n) is, λ is. eq-eqb zero (suc n) is)

-- and are all of them
pub leads-whole : (ls : List Learned) (vs : List (ℕ × ℕ)) → leads vs ls && (length vs == length ls) ≡ same_pairs (map version_of_learned ls) vs
leads-whole [] [] = refl
leads-whole [] (v ∷ vs) = refl
leads-whole (l ∷ ls) [] = sym (count-other (length ls))
leads-whole (l ∷ ls) (v ∷ vs) =
    and_assoc (same_pair (version_of_learned l) v) (leads vs ls) (suc (length vs) == suc (length ls))
    ∙ ap (λ (t : Bool). same_pair (version_of_learned l) v && (leads vs ls && t)) (sym (count-same (length vs) (length ls)))
    ∙ ap (λ (t : Bool). same_pair (version_of_learned l) v && t) (leads-whole ls vs)

-- ---- so far

pub record IsMatched (h : List Record) (bs : List Bound) (ls : List Learned) (n count : ℕ) (matches : Bool) : Type 0 where
  pub all : matches ≡ leads (new_bound h (take n bs)) ls
  pub counted : count ≡ length (new_bound h (take n bs))
  pub few : count ≤ n

pub matched-new : (h : List Record) (bs : List Bound) (ls : List Learned) (n count : ℕ) (matches : Bool) (b : Bound) → n < length bs → b ≡ get_or bs n b → binds_new h (take n bs) b ≡ true → IsMatched h bs ls n count matches
    → IsMatched h bs ls (n + 1) (count + 1) (matches && is_version_at ls count b)
matched-new h bs ls n count matches b inside is new m =
    let vs = new_bound h (take n bs) in
    let more : new_bound h (take (n + 1) bs) ≡ vs ++ version_of_bound b ∷ [] = new_bound-more h bs n b inside is ∙ ap (λ (t : Bool). vs ++ (if t then version_of_bound b ∷ [] else [])) new in
    record {
      all = ap (λ (t : Bool). t && is_version_at ls count b) m.all ∙ ap (λ (k : ℕ). leads vs ls && is_version_at ls k b) m.counted ∙ sym (leads-more vs ls b) ∙ ap (λ (xs : List (ℕ × ℕ)). leads xs ls) (sym more);
      counted = ap (λ (k : ℕ). k + 1) m.counted ∙ sym (length-append vs (version_of_bound b ∷ [])) ∙ ap (λ (xs : List (ℕ × ℕ)). length xs) (sym more);
      few = let so_far = m.few in omega arith;
    }

pub matched-old : (h : List Record) (bs : List Bound) (ls : List Learned) (n count : ℕ) (matches : Bool) (b : Bound) → n < length bs → b ≡ get_or bs n b → binds_new h (take n bs) b ≡ false → IsMatched h bs ls n count matches
    → IsMatched h bs ls (n + 1) count matches
matched-old h bs ls n count matches b inside is old m =
    let vs = new_bound h (take n bs) in
    let more : new_bound h (take (n + 1) bs) ≡ vs = new_bound-more h bs n b inside is ∙ ap (λ (t : Bool). vs ++ (if t then version_of_bound b ∷ [] else [])) old ∙ append-nil vs in
    record {
      all = m.all ∙ ap (λ (xs : List (ℕ × ℕ)). leads xs ls) (sym more);
      counted = m.counted ∙ ap (λ (xs : List (ℕ × ℕ)). length xs) (sym more);
      few = let so_far = m.few in omega arith;
    }

pub matched-whole : (h : List Record) (bs : List Bound) (ls : List Learned) (n count : ℕ) (matches : Bool) → length bs ≤ n → IsMatched h bs ls n count matches → matches && (count == length ls) ≡ learns_new h bs ls
matched-whole h bs ls n count matches past m =
    let whole : new_bound h (take n bs) ≡ new_bound h bs = ap (new_bound h) (take_all n bs past) in
    ap (λ (t : Bool). t && (count == length ls)) (m.all ∙ ap (λ (xs : List (ℕ × ℕ)). leads xs ls) whole)
    ∙ ap (λ (k : ℕ). leads (new_bound h bs) ls && (k == length ls)) (m.counted ∙ ap (λ (xs : List (ℕ × ℕ)). length xs) whole)
    ∙ leads-whole ls (new_bound h bs)
