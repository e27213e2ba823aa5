-- The first attempt of a user that goes on is the same over lists that agree for the user.
use Rattle.std.proofs.Common.{◌≡◌, ℕ, ◌&&◌, Bool, true, false, not, List, [], ◌∷◌, Option, Some, None, refl, ap, ◌∙◌, sym, subst, if◌then◌else◌}
use Rattle.std.specs.Prelude.{◌==◌, filter, filter_map, is_some, option_and_then, option_map, unwrap_or}
use Rattle.std.specs.List.{cons_option, list_all}
use Rattle.std.proofs.lemmas.Bool.{eqb-true}
use Rattle.qz_lemmas.proofs.Bools.{and-left, and-right}
use Rattle.qz_grading.specs.declared.refusal.AttemptId.{AttemptId}
use Rattle.qz_terms.specs.declared.access.Settings.{Settings}
use Rattle.qz_terms.specs.declared.record.Event.{Event}
use Rattle.qz_terms.specs.declared.record.Event.TheVariants as event
use Rattle.qz_terms.specs.declared.record.Record.{Record}
use Rattle.qz_terms.specs.Access.{expired}
use Rattle.qz_terms.specs.Cause.{goes_on, unfinished_at}
use Rattle.qz_terms.specs.History.{Start}
use Rattle.qz_terms.specs.History as history
use Rattle.qz_terms.specs.Laws.{AgreeFor}
use Rattle.qz_terms.specs.Lists.{first_of, in_order, placed}
use Rattle.qz_terms.proofs.Isolated.{isolated_law}

-- ---- attempts of a user

abbrev is_of : ℕ → AttemptId → Bool
is_of u a = a.user == u

placed-step : (p : AttemptId → Bool) (x y : AttemptId) (ys more : List AttemptId) (b c : Bool) → p x ≡ true → p y ≡ true → list_all p ys ≡ true → list_all p more ≡ true → list_all p (if b then x ∷ y ∷ ys else (if c then y ∷ more else y ∷ ys)) ≡ true
placed-step p x y ys more true c one other all rest = rw (one, other) all
placed-step p x y ys more false true one other all rest = rw other rest
placed-step p x y ys more false false one other all rest = rw other all

all-placed : (p : AttemptId → Bool) (x : AttemptId) (ys : List AttemptId) → p x ≡ true → list_all p ys ≡ true → list_all p (placed history.attempt_before x ys) ≡ true
all-placed p x [] one all = rw one refl
all-placed p x (y ∷ ys) one all =
    let rest = and-right (p y) (list_all p ys) all in
    placed-step p x y ys (placed history.attempt_before x ys) (history.attempt_before x y) (history.attempt_before y x) one (and-left (p y) (list_all p ys) all) rest (all-placed p x ys one rest)

all-ordered : (p : AttemptId → Bool) (xs : List AttemptId) → list_all p xs ≡ true → list_all p (in_order history.attempt_before xs) ≡ true
all-ordered p [] all = refl
all-ordered p (x ∷ xs) all = all-placed p x (in_order history.attempt_before xs) (and-left (p x) (list_all p xs) all) (all-ordered p xs (and-right (p x) (list_all p xs) all))

abbrev attempt_if : Bool → AttemptId → Option AttemptId
attempt_if b a = if b then Some a else None

started-step : (u : ℕ) (a : AttemptId) (x y : Bool) (xs : List AttemptId) → (a.user == u) ≡ y → list_all (is_of u) xs ≡ true → list_all (is_of u) (cons_option (attempt_if (x && y) a) xs) ≡ true
started-step u a true true xs is all = rw is all
started-step u a true false xs is all = all
started-step u a false y xs is all = all

abbrev attempt_by : ℕ → ℕ → Record → Event → Option AttemptId
attempt_by q u r e = option_map (λ (s : Start). s.attempt) (option_and_then (λ (s : Start). if (s.quiz == q) && (s.attempt.user == u) then Some s else None) (history.start_by r e))

mapped-if : (b : Bool) (s : Start) → option_map (λ (t : Start). t.attempt) (if b then Some s else None) ≡ attempt_if b s.attempt
mapped-if true s = refl
mapped-if false s = refl

started-by : (q u : ℕ) (r : Record) (e : Event) (xs : List AttemptId) → list_all (is_of u) xs ≡ true → list_all (is_of u) (cons_option (attempt_by q u r e) xs) ≡ true
started-by q u r (event.Started quiz nth behaviour bounds learned) xs all =
    let s : Start = record { attempt = record { user = r.owner; nth = nth }; moment = r.moment; quiz = quiz; behaviour = behaviour; bounds = bounds } in
    ap (λ (o : Option AttemptId). list_all (is_of u) (cons_option o xs)) (mapped-if ((quiz == q) && (r.owner == u)) s) ∙ started-step u s.attempt (quiz == q) (r.owner == u) xs refl all
started-by q u r e xs all = all

all-started : (q u : ℕ) (h : List Record) → list_all (is_of u) (filter_map (history.starts_at q u) h) ≡ true
all-started q u [] = refl
all-started q u (r ∷ h) = started-by q u r r.event (filter_map (history.starts_at q u) h) (all-started q u h)

-- ---- those that go on

filter-same : (u : ℕ) (f g : AttemptId → Bool) (xs : List AttemptId) → ((a : AttemptId) → is_of u a ≡ true → f a ≡ g a) → list_all (is_of u) xs ≡ true → filter f xs ≡ filter g xs
filter-same u f g [] same all = refl
filter-same u f g (x ∷ xs) same all =
    λ i. if same x (and-left (is_of u x) (list_all (is_of u) xs) all) i then x ∷ filter-same u f g xs same (and-right (is_of u x) (list_all (is_of u) xs) all) i else filter-same u f g xs same (and-right (is_of u x) (list_all (is_of u) xs) all) i

goes_on-own : (index count : ℕ) (s : Settings) (moment : ℕ) (a : AttemptId) (h g : List Record) → AgreeFor index count a.user h g → goes_on h s moment a ≡ goes_on g s moment a
goes_on-own index count s moment a h g agree =
    λ i. not (is_some (isolated_law.ended index count a h g agree i)) && not (unwrap_or (option_map (λ (b : Start). expired s b.moment moment) (isolated_law.start index count a h g agree i)) false)

pub unfinished-own : (index count : ℕ) (s : Settings) (q u moment : ℕ) (h g : List Record) → AgreeFor index count u h g → unfinished_at h s q u moment ≡ unfinished_at g s q u moment
unfinished-own index count s q u moment h g agree =
    let P : ℕ → Type 0 = λ n. AgreeFor index count n h g in
    ap first_of (
    filter-same u (goes_on h s moment) (goes_on g s moment) (history.attempts h q u) (λ a is. goes_on-own index count s moment a h g (subst P (sym (eqb-true a.user u is)) agree)) (all-ordered (is_of u) (filter_map (history.starts_at q u) h) (all-started q u h))
    ∙ ap (filter (goes_on g s moment)) (isolated_law.attempts index count q u h g agree))
