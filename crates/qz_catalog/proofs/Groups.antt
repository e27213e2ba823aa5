-- The groups of a user, one group more at a time.
use Rattle.std.proofs.Common.{◌≡◌, ℕ, zero, suc, ◌+◌, Bool, true, false, List, [], ◌∷◌, ◌++◌, Option, Some, None, refl, sym, ap, ◌∙◌, length, arith}
use Rattle.std.specs.List.{range_with_len}
use Rattle.std.specs.Prelude.{filter, filter_map, if◌then◌else◌, option_to_list}
use Rattle.qz_terms.specs.declared.record.Record.{Record}
use Rattle.qz_terms.specs.declared.request.Whom.TheVariants as whom
use Rattle.qz_terms.specs.Catalog.{groups, groups_of, is_member}
use Rattle.qz_terms.specs.Catalog as catalog
use Rattle.qz_terms.specs.Lists.{places_to}
use Rattle.qz_terms.proofs.Walks.{all_of-push}
use Rattle.qz_catalog.specs.Readings.{group_override}

range-more : (a n : ℕ) → range_with_len a (n + 1) ≡ range_with_len a n ++ (a + n) ∷ []
range-more a zero = ap (λ k. k ∷ []) (let same : a ≡ a + 0 = omega arith in same)
range-more a (suc n) =
    let same : a + 1 + n ≡ a + suc n = omega arith in
    let longer : suc n + 1 ≡ suc (n + 1) = omega arith in
    ap (range_with_len a) longer ∙ ap (λ (l : List ℕ). a ∷ l) (range-more (a + 1) n ∙ ap (λ k. range_with_len (a + 1) n ++ k ∷ []) same)

pub groups-more : (c : List Record) (q u n : ℕ) → filter_map (group_override c q u) (places_to (n + 1)) ≡ filter_map (group_override c q u) (places_to n) ++ option_to_list (group_override c q u (n + 1))
groups-more c q u n =
    let next : 1 + n ≡ n + 1 = omega arith in
    ap (filter_map (group_override c q u)) (range-more 1 n ∙ ap (λ k. places_to n ++ k ∷ []) next) ∙ all_of-push (group_override c q u) (places_to n) (n + 1)

passing-step : {A B : Type 0} (p : A → Bool) (f : A → Option B) (x : A) (xs : List A) (b : Bool) → p x ≡ b → filter_map f (filter p xs) ≡ filter_map (λ y. if p y then f y else None) xs → filter_map f (filter p (x ∷ xs)) ≡ filter_map (λ y. if p y then f y else None) (x ∷ xs)
passing-step p f x xs true is rest = told p f x xs (f x) is refl rest
  where
    told : {A B : Type 0} (p : A → Bool) (f : A → Option B) (x : A) (xs : List A) (o : Option B) → p x ≡ true → f x ≡ o → filter_map f (filter p xs) ≡ filter_map (λ y. if p y then f y else None) xs → filter_map f (filter p (x ∷ xs)) ≡ filter_map (λ y. if p y then f y else None) (x ∷ xs)
    told p f x xs None is tells rest = rw (is, tells) rest
    told p f x xs (Some y) is tells rest = rw (is, tells) (ap (λ (l : List _). y ∷ l) rest)
passing-step p f x xs false is rest = rw is rest

passing : {A B : Type 0} (p : A → Bool) (f : A → Option B) (xs : List A) → filter_map f (filter p xs) ≡ filter_map (λ y. if p y then f y else None) xs
passing p f [] = refl
passing p f (x ∷ xs) = passing-step p f x xs (p x) refl (passing p f xs)

pub groups-whole : (c : List Record) (q u : ℕ) → filter_map (group_override c q u) (places_to (length (groups c))) ≡ filter_map (catalog.override c q whom.Group) (groups_of c u)
groups-whole c q u = sym (passing (λ g. is_member c g u) (catalog.override c q whom.Group) (places_to (length (groups c))))
