-- What a start learns: the versions that it binds and that are new to the list, each once, in order.
use Rattle.std.proofs.Common.{◌≡◌, ℕ, zero, suc, ◌+◌, ◌<◌, ◌≤◌, inl, inr, Bool, true, false, not, ◌&&◌, ◌||◌, List, [], ◌∷◌, ◌++◌, length, take, map, get_or, refl, sym, ap, ◌∙◌, append-nil, arith}
use Rattle.std.specs.Prelude.{filter, zip, is_none, if◌then◌else◌, ◌==◌}
use Rattle.std.specs.List.{list_any}
use Rattle.std.proofs.lemmas.List.{take_all}
use Rattle.std.proofs.lemmas.List.Elements.{filter-append}
use Rattle.std.proofs.lemmas.Option.{slice_get_cases}
use Rattle.qz_grading.specs.declared.question.Question.{Question}
use Rattle.qz_terms.specs.declared.plan.Planned.{Planned}
use Rattle.qz_terms.specs.declared.record.Learned.{Learned}
use Rattle.qz_terms.specs.declared.record.Record.{Record}
use Rattle.qz_terms.specs.Answer.{bind, learned_as, new_versions, same_version}
use Rattle.qz_terms.specs.Legal.{LearnsNew, same_pair, version_of_bound, version_of_learned}
use Rattle.qz_terms.specs.Lists.{once}
use Rattle.qz_terms.specs.History.{version}
use Rattle.qz_terms.proofs.Walks.{take-one_more}
use Rattle.qz_legal.specs.Readings.{is_new, stands_in}

-- ---- one item more, each once

filter-unless : {A : Type 0} (p : A → Bool) (x : A) (b c : Bool) → p x ≡ c → filter p (if b then [] else x ∷ []) ≡ (if b || not c then [] else x ∷ [])
filter-unless p x true c is = refl
filter-unless p x false true is = rw is refl
filter-unless p x false false is = rw is refl

once-swap : {A : Type 0} (x : A) (a b : Bool) → (if a || not (not b) then [] else x ∷ []) ≡ (if b || a then [] else x ∷ [])
once-swap x true true = refl
once-swap x true false = refl
once-swap x false true = refl
once-swap x false false = refl

pub once-push : {A : Type 0} (same : A → A → Bool) (xs : List A) (x : A) → once same (xs ++ x ∷ []) ≡ once same xs ++ (if list_any (λ y. same y x) xs then [] else x ∷ [])
once-push same [] x = refl
once-push same (y ∷ ys) x = ap (λ (t : List _). y ∷ t)
    (ap (filter (λ z. not (same y z))) (once-push same ys x)
    ∙ filter-append (λ z. not (same y z)) (once same ys) (if list_any (λ z. same z x) ys then [] else x ∷ [])
    ∙ ap (λ (t : List _). filter (λ z. not (same y z)) (once same ys) ++ t) (filter-unless (λ z. not (same y z)) x (list_any (λ z. same z x) ys) (not (same y x)) refl ∙ once-swap x (list_any (λ z. same z x) ys) (same y x)))

-- ---- the versions of a start

abbrev pub learned_all : List Planned → List Question → List Learned
learned_all ss qs = map learned_as (zip ss qs)

any-learned : (s : Planned) (q : Question) (ss : List Planned) (qs : List Question) (n : ℕ) → length qs ≡ length ss → list_any (λ l. same_version l (learned_as (s, q))) (take n (learned_all ss qs)) ≡ stands_in s (take n ss)
any-learned s q ss qs zero long = refl
any-learned s q [] qs (suc n) long = refl
any-learned s q (t ∷ ss) [] (suc n) long = absurd (omega arith)
any-learned s q (t ∷ ss) (r ∷ qs) (suc n) long = ap (λ b. ((t.entry == s.entry) && (t.version == s.version)) || b) (any-learned s q ss qs n (let long' : suc (length qs) ≡ suc (length ss) = long in omega arith))

learned-at : (ss : List Planned) (qs : List Question) (n : ℕ) (s : Planned) (q : Question) (l : Learned) → length qs ≡ length ss → n < length ss → s ≡ get_or ss n s → q ≡ get_or qs n q → learned_as (s, q) ≡ get_or (learned_all ss qs) n l
learned-at [] qs n s q l long inside is = absurd (omega arith)
learned-at (t ∷ ss) [] n s q l long inside is = absurd (omega arith)
learned-at (t ∷ ss) (r ∷ qs) zero s q l long inside is = λ asks. rw (is, asks) refl
learned-at (t ∷ ss) (r ∷ qs) (suc n) s q l long inside is = λ asks. learned-at ss qs n s q l (let long' : suc (length qs) ≡ suc (length ss) = long in omega arith) (let inside' : suc n < suc (length ss) = inside in omega arith) is asks

long-learned : (ss : List Planned) (qs : List Question) → length qs ≡ length ss → length (learned_all ss qs) ≡ length ss
long-learned [] qs long = refl
long-learned (t ∷ ss) [] long = absurd (omega arith)
long-learned (t ∷ ss) (r ∷ qs) long = let rest = long-learned ss qs (let long' : suc (length qs) ≡ suc (length ss) = long in omega arith) in omega arith

new-told : (h : List Record) (s : Planned) (q : Question) (a b : Bool) → is_none (version h s.entry s.version) ≡ b → filter (λ (l : Learned). is_none (version h l.entry l.version)) (if a then [] else learned_as (s, q) ∷ []) ≡ (if not a && b then learned_as (s, q) ∷ [] else [])
new-told h s q true b is = refl
new-told h s q false true is = rw is refl
new-told h s q false false is = rw is refl

-- what is learned of the slots up to one more
pub new_versions-one_more : (h : List Record) (ss : List Planned) (qs : List Question) (n : ℕ) (s : Planned) (q : Question) → length qs ≡ length ss → n < length ss → s ≡ get_or ss n s → q ≡ get_or qs n q
    → new_versions h (take (n + 1) (learned_all ss qs)) ≡ new_versions h (take n (learned_all ss qs)) ++ (if is_new h (take n ss) s then learned_as (s, q) ∷ [] else [])
new_versions-one_more h ss qs n s q long inside is asks =
    let all = learned_all ss qs in
    let l : Learned = learned_as (s, q) in
    let fresh : Learned → Bool = λ (l : Learned). is_none (version h l.entry l.version) in
    let more : take (n + 1) all ≡ take n all ++ l ∷ [] = take-one_more all n l (let long_all = long-learned ss qs long in omega arith) (learned-at ss qs n s q l long inside is asks) in
    let seen : list_any (λ y. same_version y l) (take n all) ≡ stands_in s (take n ss) = any-learned s q ss qs n long in
    ap (new_versions h) more
    ∙ ap (filter fresh) (once-push same_version (take n all) l)
    ∙ filter-append fresh (once same_version (take n all)) (if list_any (λ y. same_version y l) (take n all) then [] else l ∷ [])
    ∙ ap (λ (t : List Learned). filter fresh (once same_version (take n all)) ++ t) (ap (λ (b : Bool). filter fresh (if b then [] else l ∷ [])) seen ∙ new-told h s q (stands_in s (take n ss)) (is_none (version h s.entry s.version)) refl)

-- ---- they are what a legal start learns

map-filter-step : {A B : Type 0} (f : A → B) (p : B → Bool) (x : A) (xs : List A) (b : Bool) → p (f x) ≡ b → map f (filter (λ x. p (f x)) xs) ≡ filter p (map f xs) → map f (filter (λ x. p (f x)) (x ∷ xs)) ≡ filter p (map f (x ∷ xs))
map-filter-step f p x xs true is rest = rw is (ap (λ (t : List _). f x ∷ t) rest)
map-filter-step f p x xs false is rest = rw is rest

pub map-filter : {A B : Type 0} (f : A → B) (p : B → Bool) (xs : List A) → map f (filter (λ x. p (f x)) xs) ≡ filter p (map f xs)
map-filter f p [] = refl
map-filter f p (x ∷ xs) = map-filter-step f p x xs (p (f x)) refl (map-filter f p xs)

pub map-once : {A B : Type 0} (f : A → B) (same : B → B → Bool) (xs : List A) → map f (once (λ x y. same (f x) (f y)) xs) ≡ once same (map f xs)
map-once f same [] = refl
map-once f same (x ∷ xs) = ap (λ (t : List _). f x ∷ t) (map-filter f (λ z. not (same (f x) z)) (once (λ x y. same (f x) (f y)) xs) ∙ ap (filter (λ z. not (same (f x) z))) (map-once f same xs))

versions-bound : (at : ℕ) (ss : List Planned) (qs : List Question) → length qs ≡ length ss → map version_of_learned (learned_all ss qs) ≡ map version_of_bound (map (bind at) ss)
versions-bound at [] qs long = refl
versions-bound at (s ∷ ss) [] long = absurd (omega arith)
versions-bound at (s ∷ ss) (q ∷ qs) long = ap (λ (t : List (ℕ × ℕ)). (s.entry, s.version) ∷ t) (versions-bound at ss qs (let long' : suc (length qs) ≡ suc (length ss) = long in omega arith))

pub learns-new : (h : List Record) (at : ℕ) (ss : List Planned) (qs : List Question) → length qs ≡ length ss → LearnsNew h (map (bind at) ss) (new_versions h (learned_all ss qs))
learns-new h at ss qs long =
    let fresh : ℕ × ℕ → Bool = λ (v : ℕ × ℕ). is_none (version h v.0 v.1) in
    map-filter version_of_learned fresh (once same_version (learned_all ss qs))
    ∙ ap (filter fresh) (map-once version_of_learned same_pair (learned_all ss qs) ∙ ap (once same_pair) (versions-bound at ss qs long))

-- a slot whose version is new, and one whose version isn't
pub new_versions-new : (h : List Record) (ss : List Planned) (qs : List Question) (n : ℕ) (s : Planned) (q : Question) → length qs ≡ length ss → n < length ss → s ≡ get_or ss n s → q ≡ get_or qs n q → is_new h (take n ss) s ≡ true
    → new_versions h (take (n + 1) (learned_all ss qs)) ≡ new_versions h (take n (learned_all ss qs)) ++ learned_as (s, q) ∷ []
new_versions-new h ss qs n s q long inside is asks new =
    new_versions-one_more h ss qs n s q long inside is asks ∙ ap (λ (b : Bool). new_versions h (take n (learned_all ss qs)) ++ (if b then learned_as (s, q) ∷ [] else [])) new

pub new_versions-old : (h : List Record) (ss : List Planned) (qs : List Question) (n : ℕ) (s : Planned) → length qs ≡ length ss → n < length ss → s ≡ get_or ss n s → is_new h (take n ss) s ≡ false
    → new_versions h (take (n + 1) (learned_all ss qs)) ≡ new_versions h (take n (learned_all ss qs))
new_versions-old h ss qs n s long inside is old = elim (slice_get_cases qs n).1 [
  | inl w ↦ new_versions-one_more h ss qs n s w.0 long inside is (sym w.3) ∙ ap (λ (b : Bool). new_versions h (take n (learned_all ss qs)) ++ (if b then learned_as (s, w.0) ∷ [] else [])) old ∙ append-nil (new_versions h (take n (learned_all ss qs)))
  | inr w ↦ absurd (let past : length qs ≤ n = w.0 in omega arith)
]

pub learned-whole : (ss : List Planned) (qs : List Question) (n : ℕ) → length qs ≡ length ss → length ss ≤ n → take n (learned_all ss qs) ≡ learned_all ss qs
learned-whole ss qs n long past = take_all n (learned_all ss qs) (let long_all = long-learned ss qs long in omega arith)
