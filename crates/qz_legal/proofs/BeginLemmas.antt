-- A start: what it learns decides the questions of its plan.
use Rattle.std.proofs.Common.{◌≡◌, ℕ, Bool, true, false, not, List, [], ◌∷◌, Some, map, refl, sym, ap, subst, ◌∙◌, eq-eqb}
use Rattle.std.specs.List.{list_all, list_any}
use Rattle.std.specs.Prelude.{filter, filter_map, is_none, unwrap_or, zip, pos}
use Rattle.std.proofs.lemmas.Bool.{and_parts, eqb-true}
use Rattle.qz_grading.specs.declared.question.Format.TheVariants as format
use Rattle.qz_grading.specs.declared.question.Kind.TheVariants as kind
use Rattle.qz_grading.specs.declared.question.Question.{Question}
use Rattle.qz_grading.specs.declared.question.Rich.{Rich}
use Rattle.qz_terms.specs.declared.plan.Bound.{Bound}
use Rattle.qz_terms.specs.declared.plan.Planned.{Planned}
use Rattle.qz_terms.specs.declared.record.Learned.{Learned}
use Rattle.qz_terms.specs.declared.record.Record.{Record}
use Rattle.qz_terms.specs.declared.record.Terms.{Terms}
use Rattle.qz_terms.specs.Answer.{bind, learned_as, new_versions, same_version}
use Rattle.qz_terms.specs.Legal.{LearnsNew, bound_at, same_pair, version_of_bound, version_of_learned}
use Rattle.qz_terms.specs.Lists.{first_of, once}
use Rattle.qz_terms.specs.History.{learned_version, version}
use Rattle.qz_legal.proofs.Learning.{map-filter, map-once}
use Rattle.qz_legal.proofs.PutTold.{or-false}

-- ---- the slots of the plan

abbrev pub slot_of : Bound → Planned
slot_of b = record { entry = b.entry; version = b.version; max = b.max }

bound-again : (t : Terms) (b : Bound) → bound_at (Some t) b ≡ true → bind t.at (slot_of b) ≡ b
bound-again t b is = ap (λ (n : ℕ). let x : Bound = record { entry = b.entry; version = b.version; max = b.max; at = n } in x) (sym (eqb-true b.at t.at is))

pub bounds-again : (t : Terms) (bs : List Bound) → list_all (bound_at (Some t)) bs ≡ true → map (bind t.at) (map slot_of bs) ≡ bs
bounds-again t [] all = refl
bounds-again t (b ∷ bs) all =
    let parts = and_parts (bound_at (Some t) b) (list_all (bound_at (Some t)) bs) all in
    ap (λ (x : Bound). x ∷ map (bind t.at) (map slot_of bs)) (bound-again t b parts.0) ∙ ap (λ (xs : List Bound). b ∷ xs) (bounds-again t bs parts.1)

-- ---- the questions of the plan

-- any question stands where none is learned
abbrev blank : Rich
blank = record { format = format.Moodle; text = [] }

abbrev nothing : Question
nothing = record { name = []; text = blank; general = blank; kind = kind.Essay; penalty = pos 0; hints = [] }

abbrev asked_of : List Learned → ℕ × ℕ → Question
asked_of ls v = unwrap_or (first_of (filter_map (learned_version v.0 v.1) ls)) nothing

abbrev pub questions_of : List Learned → List Bound → List Question
questions_of ls bs = map (λ (b : Bound). asked_of ls (version_of_bound b)) bs

abbrev learned_of : List Learned → ℕ × ℕ → Learned
learned_of ls v = record { entry = v.0; version = v.1; question = asked_of ls v }

-- ---- no version stands twice

data IsOnce : List (ℕ × ℕ) → Type 0 where
  of_none : IsOnce []
  of_more : (v : ℕ × ℕ) (vs : List (ℕ × ℕ)) → list_any (same_pair v) vs ≡ false → IsOnce vs → IsOnce (v ∷ vs)

any-fewer-step : {A : Type 0} (p q : A → Bool) (x : A) (xs : List A) (b : Bool) → q x ≡ b → list_any p (x ∷ xs) ≡ false → (list_any p xs ≡ false → list_any p (filter q xs) ≡ false) → list_any p (filter q (x ∷ xs)) ≡ false
any-fewer-step p q x xs true is none rest =
    let parts = or-false (p x) (list_any p xs) none in
    rw (is, parts.0) (rest parts.1)
any-fewer-step p q x xs false is none rest = rw is (rest (or-false (p x) (list_any p xs) none).1)

-- of fewer items
any-fewer : {A : Type 0} (p q : A → Bool) (xs : List A) → list_any p xs ≡ false → list_any p (filter q xs) ≡ false
any-fewer p q [] none = refl
any-fewer p q (x ∷ xs) none = any-fewer-step p q x xs (q x) refl none (any-fewer p q xs)

once-fewer-step : (q : ℕ × ℕ → Bool) (v : ℕ × ℕ) (vs : List (ℕ × ℕ)) (b : Bool) → q v ≡ b → list_any (same_pair v) vs ≡ false → IsOnce (filter q vs) → IsOnce (filter q (v ∷ vs))
once-fewer-step q v vs true is none rest = rw is (of_more v (filter q vs) (any-fewer (same_pair v) q vs none) rest)
once-fewer-step q v vs false is none rest = rw is rest

once-fewer : (q : ℕ × ℕ → Bool) (vs : List (ℕ × ℕ)) → IsOnce vs → IsOnce (filter q vs)
once-fewer q [] o = of_none
once-fewer q (v ∷ vs) (of_more _ _ first rest) = once-fewer-step q v vs (q v) refl first (once-fewer q vs rest)

none-other-step : {A : Type 0} (p : A → Bool) (x : A) (xs : List A) (b : Bool) → p x ≡ b → list_any p (filter (λ y. not (p y)) xs) ≡ false → list_any p (filter (λ y. not (p y)) (x ∷ xs)) ≡ false
none-other-step p x xs true is rest = rw is rest
none-other-step p x xs false is rest = rw (is, is) rest

none-other : {A : Type 0} (p : A → Bool) (xs : List A) → list_any p (filter (λ y. not (p y)) xs) ≡ false
none-other p [] = refl
none-other p (x ∷ xs) = none-other-step p x xs (p x) refl (none-other p xs)

once-each : (vs : List (ℕ × ℕ)) → IsOnce (once same_pair vs)
once-each [] = of_none
once-each (v ∷ vs) = of_more v (filter (λ w. not (same_pair v w)) (once same_pair vs)) (none-other (same_pair v) (once same_pair vs)) (once-fewer (λ w. not (same_pair v w)) (once same_pair vs) (once-each vs))

-- ---- each is learned again

pair-same : (v : ℕ × ℕ) → same_pair v v ≡ true
pair-same v = rw (eq-eqb v.0 v.0 refl, eq-eqb v.1 v.1 refl) refl

asked-first : (l : Learned) (ls : List Learned) → asked_of (l ∷ ls) (version_of_learned l) ≡ l.question
asked-first l ls = rw (pair-same (version_of_learned l)) refl

asked-later : (l : Learned) (ls : List Learned) (v : ℕ × ℕ) → same_pair (version_of_learned l) v ≡ false → asked_of (l ∷ ls) v ≡ asked_of ls v
asked-later l ls v other = rw other refl

-- the others are found behind the first
later-again : (l : Learned) (ls all : List Learned) → list_any (same_pair (version_of_learned l)) (map version_of_learned ls) ≡ false
    → map (λ (x : Learned). learned_of (l ∷ all) (version_of_learned x)) ls ≡ map (λ (x : Learned). learned_of all (version_of_learned x)) ls
later-again l [] all none = refl
later-again l (x ∷ ls) all none =
    let parts = or-false (same_pair (version_of_learned l) (version_of_learned x)) (list_any (same_pair (version_of_learned l)) (map version_of_learned ls)) none in
    ap (λ (q : Question). let y : Learned = record { entry = x.entry; version = x.version; question = q } in y ∷ map (λ (x : Learned). learned_of (l ∷ all) (version_of_learned x)) ls) (asked-later l all (version_of_learned x) parts.0)
    ∙ ap (λ (xs : List Learned). learned_of all (version_of_learned x) ∷ xs) (later-again l ls all parts.1)

each-again : (ls : List Learned) → IsOnce (map version_of_learned ls) → map (λ (x : Learned). learned_of ls (version_of_learned x)) ls ≡ ls
each-again [] o = refl
each-again (l ∷ ls) (of_more _ _ first rest) =
    ap (λ (q : Question). let y : Learned = record { entry = l.entry; version = l.version; question = q } in y ∷ map (λ (x : Learned). learned_of (l ∷ ls) (version_of_learned x)) ls) (asked-first l ls)
    ∙ ap (λ (xs : List Learned). l ∷ xs) (later-again l ls ls first ∙ each-again ls rest)

-- ---- what the plan learns

taught : (ls : List Learned) (bs : List Bound) → map learned_as (zip (map slot_of bs) (questions_of ls bs)) ≡ map (learned_of ls) (map version_of_bound bs)
taught ls [] = refl
taught ls (b ∷ bs) = ap (λ (xs : List Learned). learned_of ls (version_of_bound b) ∷ xs) (taught ls bs)

map-both : {A B C : Type 0} (f : A → B) (g : B → C) (xs : List A) → map g (map f xs) ≡ map (λ x. g (f x)) xs
map-both f g [] = refl
map-both f g (x ∷ xs) = ap (λ (t : List _). g (f x) ∷ t) (map-both f g xs)

-- the plan with these questions teaches what the start learned
pub learned-again : (h : List Record) (bs : List Bound) (ls : List Learned) → LearnsNew h bs ls → new_versions h (map learned_as (zip (map slot_of bs) (questions_of ls bs))) ≡ ls
learned-again h bs ls learns =
    let fresh : ℕ × ℕ → Bool = λ (v : ℕ × ℕ). is_none (version h v.0 v.1) in
    let distinct : IsOnce (map version_of_learned ls) = subst IsOnce (sym learns) (once-fewer fresh (once same_pair (map version_of_bound bs)) (once-each (map version_of_bound bs))) in
    ap (new_versions h) (taught ls bs)
    ∙ ap (filter (λ (l : Learned). is_none (version h l.entry l.version))) (sym (map-once (learned_of ls) same_version (map version_of_bound bs)))
    ∙ sym (map-filter (learned_of ls) (λ (l : Learned). is_none (version h l.entry l.version)) (once same_pair (map version_of_bound bs)))
    ∙ ap (map (learned_of ls)) (sym learns)
    ∙ map-both version_of_learned (learned_of ls) ls
    ∙ each-again ls distinct
