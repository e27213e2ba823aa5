-- In the list that ends with a start, each version that it binds is there.
use Rattle.std.proofs.Common.{◌≡◌, ℕ, zero, suc, eqb, Bool, true, false, not, ◌||◌, List, [], ◌∷◌, ◌++◌, Option, Some, None, map, refl, sym, ap, ◌∙◌, eq-eqb}
use Rattle.std.specs.Prelude.{filter, filter_map, is_none, slice_get}
use Rattle.std.specs.List.{list_any}
use Rattle.std.specs.Option.{option_or}
use Rattle.std.proofs.lemmas.Bool.{eqb-true, or_right}
use Rattle.qz_lemmas.proofs.Bools.{and-left, and-right}
use Rattle.qz_grading.specs.declared.question.Question.{Question}
use Rattle.qz_terms.specs.declared.plan.Bound.{Bound}
use Rattle.qz_terms.specs.declared.record.Learned.{Learned}
use Rattle.qz_terms.specs.declared.record.Record.{Record}
use Rattle.qz_terms.specs.Legal.{LearnsNew, same_pair, version_of_bound, version_of_learned}
use Rattle.qz_terms.specs.Lists.{first_of, once}
use Rattle.qz_terms.specs.History.{learned_by, learned_version, learns, version}
use Rattle.qz_terms.proofs.Walks.{first_of-push}

any-kept-step : {A : Type 0} (p f : A → Bool) (x : A) (xs : List A) (b c : Bool) → p x ≡ b → f x ≡ c → (b ≡ true → c ≡ true) → list_any p (x ∷ xs) ≡ true → (list_any p xs ≡ true → list_any p (filter f xs) ≡ true) → list_any p (filter f (x ∷ xs)) ≡ true
any-kept-step p f x xs true true is passes both any later = rw passes (rw is refl)
any-kept-step p f x xs true false is passes both any later = absurd (let none : false ≡ true = both refl in cc)
any-kept-step p f x xs false true is passes both any later = rw passes (rw is (later (rw is at any)))
any-kept-step p f x xs false false is passes both any later = rw passes (later (rw is at any))

-- some item passes a test, and those that pass it are kept
any-kept : {A : Type 0} (p f : A → Bool) (xs : List A) → ((x : A) → p x ≡ true → f x ≡ true) → list_any p xs ≡ true → list_any p (filter f xs) ≡ true
any-kept p f [] both any = absurd cc
any-kept p f (x ∷ xs) both any = any-kept-step p f x xs (p x) (f x) refl refl (both x) any (any-kept p f xs both)

pair-same : (a b : ℕ × ℕ) → same_pair a b ≡ true → (a.0 ≡ b.0) × (a.1 ≡ b.1)
pair-same a b is = (eqb-true a.0 b.0 (and-left (eqb a.0 b.0) (eqb a.1 b.1) is), eqb-true a.1 b.1 (and-right (eqb a.0 b.0) (eqb a.1 b.1) is))

pair-again : (a b : ℕ × ℕ) → (a.0 ≡ b.0) × (a.1 ≡ b.1) → same_pair a b ≡ true
pair-again a b same = rw (eq-eqb a.0 b.0 same.0, eq-eqb a.1 b.1 same.1) refl

-- one pair isn't another
pair-other : (v x y : ℕ × ℕ) (b : Bool) → same_pair x y ≡ b → same_pair v x ≡ false → same_pair v y ≡ true → not b ≡ true
pair-other v x y true is other same =
    let one = pair-same x y is in
    let two = pair-same v y same in
    absurd (let again : same_pair v x ≡ true = pair-again v x (two.0 ∙ sym one.0, two.1 ∙ sym one.1) in cc)
pair-other v x y false is other same = refl

any-once-step : (v x : ℕ × ℕ) (xs : List (ℕ × ℕ)) (b : Bool) → same_pair v x ≡ b → list_any (same_pair v) (x ∷ xs) ≡ true → (list_any (same_pair v) xs ≡ true → list_any (same_pair v) (once same_pair xs) ≡ true) → list_any (same_pair v) (once same_pair (x ∷ xs)) ≡ true
any-once-step v x xs true is any later = rw is refl
any-once-step v x xs false is any later = rw is (any-kept (same_pair v) (λ y. not (same_pair x y)) (once same_pair xs) (λ y same. pair-other v x y (same_pair x y) refl is same) (later (rw is at any)))

any-once : (v : ℕ × ℕ) (xs : List (ℕ × ℕ)) → list_any (same_pair v) xs ≡ true → list_any (same_pair v) (once same_pair xs) ≡ true
any-once v [] any = absurd cc
any-once v (x ∷ xs) any = any-once-step v x xs (same_pair v x) refl any (any-once v xs)

any-bound : (bs : List Bound) (n : ℕ) (b : Bound) → slice_get bs n ≡ Some b → list_any (same_pair (version_of_bound b)) (map version_of_bound bs) ≡ true
any-bound [] n b is = absurd cc
any-bound (d ∷ bs) zero b is =
    let same : d ≡ b = cc in
    let again : same_pair (version_of_bound b) (version_of_bound d) ≡ true = pair-again (version_of_bound b) (version_of_bound d) (ap (λ (x : Bound). x.entry) (sym same), ap (λ (x : Bound). x.version) (sym same)) in
    rw again refl
any-bound (d ∷ bs) (suc n) b is = or_right (same_pair (version_of_bound b) (version_of_bound d)) _ (any-bound bs n b is)

abbrev pub Told : Option Question → Type 0
Told o = (q : Question) × (o ≡ Some q)

learned-step : (e v : ℕ) (l : Learned) (ls : List Learned) (b : Bool) → same_pair (e, v) (version_of_learned l) ≡ b → list_any (same_pair (e, v)) (map version_of_learned (l ∷ ls)) ≡ true
    → (list_any (same_pair (e, v)) (map version_of_learned ls) ≡ true → Told (first_of (filter_map (learned_version e v) ls))) → (o : Option Question) → learned_version e v l ≡ o → Told (first_of (filter_map (learned_version e v) (l ∷ ls)))
learned-step e v l ls b is any later (Some q) told = (q, rw told refl)
learned-step e v l ls true is any later None told =
    let same = pair-same (e, v) (version_of_learned l) is in
    let here : learned_version e v l ≡ Some l.question = rw (eq-eqb l.entry e (sym same.0), eq-eqb l.version v (sym same.1)) refl in
    absurd cc
learned-step e v l ls false is any later None told = rw told (later (rw is at any))

learned-some : (e v : ℕ) (ls : List Learned) → list_any (same_pair (e, v)) (map version_of_learned ls) ≡ true → Told (first_of (filter_map (learned_version e v) ls))
learned-some e v [] any = absurd cc
learned-some e v (l ∷ ls) any = learned-step e v l ls (same_pair (e, v) (version_of_learned l)) refl any (learned-some e v ls) (learned_version e v l) refl

fresh-kept : (l : List Record) (w x : ℕ × ℕ) → version l w.0 w.1 ≡ None → same_pair w x ≡ true → is_none (version l x.0 x.1) ≡ true
fresh-kept l w x fresh is = let same = pair-same w x is in rw (sym same.0, sym same.1) (ap is_none fresh)

learned-after-by : (l : List Record) (r : Record) (bs : List Bound) (n : ℕ) (b : Bound) (o : Option Question) → version l b.entry b.version ≡ o → LearnsNew l bs (learned_by r.event) → slice_get bs n ≡ Some b → Told (option_or o (learns b.entry b.version r))
learned-after-by l r bs n b (Some q) is new at = (q, refl)
learned-after-by l r bs n b None is new at =
    let v = version_of_bound b in
    let any : list_any (same_pair v) (map version_of_learned (learned_by r.event)) ≡ true =
    ap (list_any (same_pair v)) new ∙ any-kept (same_pair v) (λ (w : ℕ × ℕ). is_none (version l w.0 w.1)) (once same_pair (map version_of_bound bs)) (λ x same. fresh-kept l v x is same) (any-once v (map version_of_bound bs) (any-bound bs n b at)) in
    learned-some b.entry b.version (learned_by r.event) any

-- in the list with the start, each version that it binds is there
pub learned-after : (l : List Record) (r : Record) (bs : List Bound) (n : ℕ) (b : Bound) → LearnsNew l bs (learned_by r.event) → slice_get bs n ≡ Some b → Told (version (l ++ r ∷ []) b.entry b.version)
learned-after l r bs n b new at =
    let found = learned-after-by l r bs n b (version l b.entry b.version) refl new at in
    (found.0, first_of-push (learns b.entry b.version) l r ∙ found.1)
