-- What is read of a user's attempts depends on this user's own records, and on the versions bound in them.
use Rattle.std.proofs.Common.{◌≡◌, ℕ, suc, Bool, true, false, ◌&&◌, List, [], ◌∷◌, length, Option, Some, None, refl, ap, ◌∙◌, sym, subst, arith, map, if◌then◌else◌}
use Rattle.std.specs.Prelude.{filter, filter_map, option_and_then, option_map, unwrap_or, max, ◌==◌}
use Rattle.std.specs.List.{list_all, cons_option}
use Rattle.std.proofs.lemmas.Bool.Decides.{nat_tests}
use Rattle.qz_grading.specs.declared.outcome.Behaviour.{Behaviour}
use Rattle.qz_grading.specs.declared.outcome.State.TheVariants.{Todo}
use Rattle.qz_grading.specs.declared.question.Question.{Question}
use Rattle.qz_grading.specs.declared.refusal.AttemptId.{AttemptId}
use Rattle.qz_grading.specs.declared.response.Step.{Step}
use Rattle.qz_grading.specs.Steps.{last_of}
use Rattle.qz_terms.specs.declared.grades.Policy.{Policy}
use Rattle.qz_terms.specs.declared.plan.Bound.{Bound}
use Rattle.qz_terms.specs.declared.record.Event.{Event}
use Rattle.qz_terms.specs.declared.record.Event.TheVariants as event
use Rattle.qz_terms.specs.declared.record.Record.{Record}
use Rattle.qz_terms.specs.Lists.{first_of, in_order, only_if, placed, places_to}
use Rattle.qz_terms.specs.Rows.{row_of, total_of}
use Rattle.qz_terms.specs.History as history
use Rattle.qz_terms.specs.Legal.{has_its_owner, owner_by, owner_is}
use Rattle.qz_terms.specs.Laws.{unlearned, unlearned_event, AgreeFor, OwnReadingsAgree}

and-left : (x y : Bool) → (x && y) ≡ true → x ≡ true
and-left true y e = refl
and-left false y e = e

and-right : (x y : Bool) → (x && y) ≡ true → y ≡ true
and-right true y e = e
and-right false y e = absurd cc

-- ---- readings that tell nothing of other users' records, nor of what was learned

only-cons : {B : Type 0} (f : Record → Option B) (p : Record → Bool) (r : Record) (h : List Record) (b : Bool) → p r ≡ b → (p r ≡ false → f r ≡ None) → filter_map f h ≡ filter_map f (filter p h) → filter_map f (r ∷ h) ≡ filter_map f (filter p (r ∷ h))
only-cons f p r h true is none rest = rw is (ap (cons_option (f r)) rest)
only-cons f p r h false is none rest = let nothing = none is in rw (is, nothing) rest

only : {B : Type 0} (f : Record → Option B) (p good : Record → Bool) → ((r : Record) → good r ≡ true → p r ≡ false → f r ≡ None) → (h : List Record) → list_all good h ≡ true → filter_map f h ≡ filter_map f (filter p h)
only f p good none [] all = refl
only f p good none (r ∷ h) all = only-cons f p r h (p r) refl (none r (and-left (good r) (list_all good h) all)) (only f p good none h (and-right (good r) (list_all good h) all))

forgotten : {B : Type 0} (f : Record → Option B) → ((r : Record) → f (unlearned r) ≡ f r) → (h : List Record) → filter_map f (map unlearned h) ≡ filter_map f h
forgotten f same [] = refl
forgotten f same (r ∷ h) = λ i. cons_option (same r i) (forgotten f same h i)

own-reading : {B : Type 0} (f : Record → Option B) (index count u : ℕ) → ((r : Record) → has_its_owner index count r ≡ true → history.is_owned u r ≡ false → f r ≡ None) → ((r : Record) → f (unlearned r) ≡ f r) → (h g : List Record) → AgreeFor index count u h g → filter_map f h ≡ filter_map f g
own-reading f index count u none same h g agree =
    only f (history.is_owned u) (has_its_owner index count) none h agree.owners
    ∙ sym (forgotten f same (filter (history.is_owned u) h))
    ∙ ap (filter_map f) agree.own
    ∙ forgotten f same (filter (history.is_owned u) g)
    ∙ sym (only f (history.is_owned u) (has_its_owner index count) none g agree.others)

-- ---- an attempt of another user

apart : (o b a : ℕ) → (o == b) ≡ true → (o == a) ≡ false → (a == b) ≡ false
apart o b a is other = grind (arith, nat_tests)

other-user : (o a : ℕ) → (o == a) ≡ false → (a == o) ≡ false
other-user o a other = grind (arith, nat_tests)

other-attempt : (index count : ℕ) (r : Record) (a b : AttemptId) → owner_is index count r b ≡ true → history.is_owned a.user r ≡ false → history.same_attempt a b ≡ false
other-attempt index count r a b is other = let e = apart r.owner b.user a.user (and-left (r.owner == b.user) _ is) other in rw e refl

step-none : (index count : ℕ) (a : AttemptId) (k : ℕ) (r : Record) (e : Event) → owner_by index count r e ≡ true → history.is_owned a.user r ≡ false → history.step_by a k e ≡ None
step-none index count a k r (event.Acted b slot x) is other = let e = other-attempt index count r a b is other in rw e refl
step-none index count a k r (event.Ended b how) is other = let e = other-attempt index count r a b is other in rw e refl
step-none index count a k r e is other = refl

binds-none : (index count : ℕ) (a : AttemptId) (k : ℕ) (r : Record) (e : Event) → owner_by index count r e ≡ true → history.is_owned a.user r ≡ false → history.binds_by a k r e ≡ None
binds-none index count a k r (event.Started quiz nth behaviour bounds learned) is other = let e = other-user r.owner a.user other in rw e refl
binds-none index count a k r (event.Rebound job b slot bound learned) is other = let e = other-attempt index count r a b is other in rw e refl
binds-none index count a k r e is other = refl

ends-none : (index count : ℕ) (a : AttemptId) (r : Record) (e : Event) → owner_by index count r e ≡ true → history.is_owned a.user r ≡ false → history.ends_by a e ≡ None
ends-none index count a r (event.Ended b how) is other = let e = other-attempt index count r a b is other in rw e refl
ends-none index count a r e is other = refl

abbrev started_as : AttemptId → Record → Event → Option history.Start
started_as a r e = option_and_then (only_if (λ (s : history.Start). history.same_attempt a s.attempt)) (history.start_by r e)

starts-none : (a : AttemptId) (r : Record) (e : Event) → history.is_owned a.user r ≡ false → started_as a r e ≡ None
starts-none a r (event.Started quiz nth behaviour bounds learned) other = let e = other-user r.owner a.user other in rw e refl
starts-none a r e other = refl

abbrev attempt_of : ℕ → ℕ → Record → Event → Option AttemptId
attempt_of q u r e = option_map (λ (s : history.Start). s.attempt) (option_and_then (only_if (λ (s : history.Start). (s.quiz == q) && (s.attempt.user == u))) (history.start_by r e))

and-false : (x y : Bool) → y ≡ false → (x && y) ≡ false
and-false true y e = e
and-false false y e = refl

attempt-none : (q u : ℕ) (r : Record) (e : Event) → history.is_owned u r ≡ false → attempt_of q u r e ≡ None
attempt-none q u r (event.Started quiz nth behaviour bounds learned) other = let e = and-false (quiz == q) (r.owner == u) other in rw e refl
attempt-none q u r e other = refl

moment-none : (u : ℕ) (r : Record) → history.is_owned u r ≡ false → history.owned_moment u r ≡ None
moment-none u r other = rw other refl

-- ---- what was learned tells nothing of these

step-forgets : (a : AttemptId) (k : ℕ) (e : Event) → history.step_by a k (unlearned_event e) ≡ history.step_by a k e
step-forgets a k (event.Started quiz nth behaviour bounds learned) = refl
step-forgets a k (event.Rebound job b slot bound learned) = refl
step-forgets a k e = refl

binds-forgets : (a : AttemptId) (k : ℕ) (r : Record) (e : Event) → history.binds_by a k (unlearned r) (unlearned_event e) ≡ history.binds_by a k r e
binds-forgets a k r (event.Started quiz nth behaviour bounds learned) = refl
binds-forgets a k r (event.Rebound job b slot bound learned) = refl
binds-forgets a k r e = refl

ends-forgets : (a : AttemptId) (e : Event) → history.ends_by a (unlearned_event e) ≡ history.ends_by a e
ends-forgets a (event.Started quiz nth behaviour bounds learned) = refl
ends-forgets a (event.Rebound job b slot bound learned) = refl
ends-forgets a e = refl

start-forgets : (r : Record) (e : Event) → history.start_by (unlearned r) (unlearned_event e) ≡ history.start_by r e
start-forgets r (event.Started quiz nth behaviour bounds learned) = refl
start-forgets r (event.Rebound job b slot bound learned) = refl
start-forgets r e = refl

-- ---- readings

steps-own : (index count : ℕ) (a : AttemptId) (k : ℕ) (h g : List Record) → AgreeFor index count a.user h g → history.steps h a k ≡ history.steps g a k
steps-own index count a k h g agree = own-reading (history.step_in a k) index count a.user (λ r is other. step-none index count a k r r.event is other) (λ r. step-forgets a k r.event) h g agree

bound-own : (index count : ℕ) (a : AttemptId) (k : ℕ) (h g : List Record) → AgreeFor index count a.user h g → history.bound h a k ≡ history.bound g a k
bound-own index count a k h g agree = ap last_of (own-reading (history.binds a k) index count a.user (λ r is other. binds-none index count a k r r.event is other) (λ r. binds-forgets a k r r.event) h g agree)

ended-own : (index count : ℕ) (a : AttemptId) (h g : List Record) → AgreeFor index count a.user h g → history.ended h a ≡ history.ended g a
ended-own index count a h g agree = ap first_of (own-reading (history.ends a) index count a.user (λ r is other. ends-none index count a r r.event is other) (λ r. ends-forgets a r.event) h g agree)

start-own : (index count : ℕ) (a : AttemptId) (h g : List Record) → AgreeFor index count a.user h g → history.start h a ≡ history.start g a
start-own index count a h g agree = ap first_of (own-reading (history.starts a) index count a.user (λ r is other. starts-none a r r.event other) (λ r. ap (λ (o : Option history.Start). option_and_then (only_if (λ (s : history.Start). history.same_attempt a s.attempt)) o) (start-forgets r r.event)) h g agree)

attempts-own : (index count q u : ℕ) (h g : List Record) → AgreeFor index count u h g → history.attempts h q u ≡ history.attempts g q u
attempts-own index count q u h g agree = ap (in_order history.attempt_before) (own-reading (history.starts_at q u) index count u (λ r is other. attempt-none q u r r.event other) (λ r. ap (λ (o : Option history.Start). option_map (λ (s : history.Start). s.attempt) (option_and_then (only_if (λ (s : history.Start). (s.quiz == q) && (s.attempt.user == u))) o)) (start-forgets r r.event)) h g agree)

time-own : (index count u now : ℕ) (h g : List Record) → AgreeFor index count u h g → history.time h u now ≡ history.time g u now
time-own index count u now h g agree = ap (λ (ms : List ℕ). max now (unwrap_or (last_of ms) 0)) (own-reading (history.owned_moment u) index count u (λ r is other. moment-none u r other) (λ r. refl) h g agree)

length-forgotten : (h : List Record) → length (map unlearned h) ≡ length h
length-forgotten [] = refl
length-forgotten (r ∷ h) = ap suc (length-forgotten h)

place-own : (index count u : ℕ) (h g : List Record) → AgreeFor index count u h g → history.place h u ≡ history.place g u
place-own index count u h g agree = sym (length-forgotten (filter (history.is_owned u) h)) ∙ ap length agree.own ∙ length-forgotten (filter (history.is_owned u) g)

-- ---- slots

abbrev slot_of : Option history.Start → Option Bound → List Step → (ℕ → ℕ → Option Question) → Option history.Slot
slot_of s b taken version = option_and_then (λ s. option_and_then (λ (d : Bound). option_map (history.slot_with s d taken) (version d.entry d.version)) b) s

slot-same : (s : Option history.Start) (b : Option Bound) (taken : List Step) (v w : ℕ → ℕ → Option Question) → ((d : Bound) → b ≡ Some d → v d.entry d.version ≡ w d.entry d.version) → slot_of s b taken v ≡ slot_of s b taken w
slot-same None b taken v w same = refl
slot-same (Some s) None taken v w same = refl
slot-same (Some s) (Some d) taken v w same = ap (option_map (history.slot_with s d taken)) (same d refl)

slot-own : (index count : ℕ) (a : AttemptId) (k : ℕ) (h g : List Record) → AgreeFor index count a.user h g → history.slot h a k ≡ history.slot g a k
slot-own index count a k h g agree =
    slot-same (history.start h a) (history.bound h a k) (history.steps h a k) (history.version h) (history.version g) (λ d is. agree.versions a k d refl is)
    ∙ (λ i. slot_of (start-own index count a h g agree i) (bound-own index count a k h g agree i) (steps-own index count a k h g agree i) (history.version g))

total-own : (index count : ℕ) (a : AttemptId) (h g : List Record) → AgreeFor index count a.user h g → history.total h a ≡ history.total g a
total-own index count a h g agree =
    λ i. if history.ended_finished (ended-own index count a h g agree i) then total_of (map history.scored (filter_map (λ k. slot-own index count a k h g agree i) (places_to (unwrap_or (option_map (λ (s : history.Start). length s.bounds) (start-own index count a h g agree i)) 0)))) else None

-- ---- the grade

both : (x y : Bool) → x ≡ true → y ≡ true → (x && y) ≡ true
both true y e f = f
both false y e f = e

all-of-placed-cons : (p : AttemptId → Bool) (before : AttemptId → AttemptId → Bool) (x y : AttemptId) (ys : List AttemptId) (b c : Bool) → before x y ≡ b → before y x ≡ c → p x ≡ true → p y ≡ true → list_all p ys ≡ true → list_all p (placed before x ys) ≡ true → list_all p (placed before x (y ∷ ys)) ≡ true
all-of-placed-cons p before x y ys true c is other px py all rest = rw is (both (p x) (p y && list_all p ys) px (both (p y) (list_all p ys) py all))
all-of-placed-cons p before x y ys false true is other px py all rest = rw (is, other) (both (p y) (list_all p (placed before x ys)) py rest)
all-of-placed-cons p before x y ys false false is other px py all rest = rw (is, other) (both (p y) (list_all p ys) py all)

all-of-placed : (p : AttemptId → Bool) (before : AttemptId → AttemptId → Bool) (x : AttemptId) (xs : List AttemptId) → p x ≡ true → list_all p xs ≡ true → list_all p (placed before x xs) ≡ true
all-of-placed p before x [] px all = both (p x) true px refl
all-of-placed p before x (y ∷ ys) px all =
    let py = and-left (p y) (list_all p ys) all in
    let rest = and-right (p y) (list_all p ys) all in
    all-of-placed-cons p before x y ys (before x y) (before y x) refl refl px py rest (all-of-placed p before x ys px rest)

all-of-order : (p : AttemptId → Bool) (before : AttemptId → AttemptId → Bool) (xs : List AttemptId) → list_all p xs ≡ true → list_all p (in_order before xs) ≡ true
all-of-order p before [] all = refl
all-of-order p before (x ∷ xs) all = all-of-placed p before x (in_order before xs) (and-left (p x) (list_all p xs) all) (all-of-order p before xs (and-right (p x) (list_all p xs) all))

abbrev is_of : ℕ → AttemptId → Bool
is_of u a = a.user == u

abbrev passes : {A : Type 0} → (A → Bool) → Option A → Bool
passes p o = unwrap_or (option_map p o) true

-- an attempt that a record of a user starts is this user's
only_if-passes : (q u quiz nth moment owner : ℕ) (b : Behaviour) (bounds : List Bound) (x y : Bool) → (owner == u) ≡ y → passes (is_of u) (option_map (λ (s : history.Start). s.attempt) (if x && y then Some (record { attempt = record { user = owner; nth = nth }; moment = moment; quiz = quiz; behaviour = b; bounds = bounds }) else None)) ≡ true
only_if-passes q u quiz nth moment owner b bounds true true is = is
only_if-passes q u quiz nth moment owner b bounds true false is = refl
only_if-passes q u quiz nth moment owner b bounds false y is = refl

attempt-passes : (q u : ℕ) (r : Record) (e : Event) → passes (is_of u) (attempt_of q u r e) ≡ true
attempt-passes q u r (event.Started quiz nth behaviour bounds learned) = only_if-passes q u quiz nth r.moment r.owner behaviour bounds (quiz == q) (r.owner == u) refl
attempt-passes q u r e = refl

all-of-option : {A : Type 0} (p : A → Bool) (o : Option A) (xs : List A) → passes p o ≡ true → list_all p xs ≡ true → list_all p (cons_option o xs) ≡ true
all-of-option p None xs one all = all
all-of-option p (Some x) xs one all = both (p x) (list_all p xs) one all

all-started : (q u : ℕ) (h : List Record) → list_all (is_of u) (filter_map (history.starts_at q u) h) ≡ true
all-started q u [] = refl
all-started q u (r ∷ h) = all-of-option (is_of u) (history.starts_at q u r) (filter_map (history.starts_at q u) h) (attempt-passes q u r r.event) (all-started q u h)

all-attempts : (q u : ℕ) (h : List Record) → list_all (is_of u) (history.attempts h q u) ≡ true
all-attempts q u h = all-of-order (is_of u) history.attempt_before (filter_map (history.starts_at q u) h) (all-started q u h)

map-same : {A B : Type 0} (p : A → Bool) (f g : A → B) (xs : List A) → ((a : A) → p a ≡ true → f a ≡ g a) → list_all p xs ≡ true → map f xs ≡ map g xs
map-same p f g [] same all = refl
map-same p f g (x ∷ xs) same all = λ i. same x (and-left (p x) (list_all p xs) all) i ∷ map-same p f g xs same (and-right (p x) (list_all p xs) all) i

filter-same : {A : Type 0} (p f g : A → Bool) (xs : List A) → ((a : A) → p a ≡ true → f a ≡ g a) → list_all p xs ≡ true → filter f xs ≡ filter g xs
filter-same p f g [] same all = refl
filter-same p f g (x ∷ xs) same all = λ i. if same x (and-left (p x) (list_all p xs) all) i then x ∷ filter-same p f g xs same (and-right (p x) (list_all p xs) all) i else filter-same p f g xs same (and-right (p x) (list_all p xs) all) i

all-of-filter-cons : {A : Type 0} (p f : A → Bool) (x : A) (xs : List A) (b : Bool) → f x ≡ b → p x ≡ true → list_all p (filter f xs) ≡ true → list_all p (filter f (x ∷ xs)) ≡ true
all-of-filter-cons p f x xs true is px all = rw is (both (p x) (list_all p (filter f xs)) px all)
all-of-filter-cons p f x xs false is px all = rw is all

all-of-filter : {A : Type 0} (p f : A → Bool) (xs : List A) → list_all p xs ≡ true → list_all p (filter f xs) ≡ true
all-of-filter p f [] all = refl
all-of-filter p f (x ∷ xs) all = all-of-filter-cons p f x xs (f x) refl (and-left (p x) (list_all p xs) all) (all-of-filter p f xs (and-right (p x) (list_all p xs) all))

same-user : (a u : ℕ) → (a == u) ≡ true → u ≡ a
same-user a u is = grind (arith, nat_tests)

-- what agrees for a user agrees for this user's attempts
agree-at : (index count u : ℕ) (a : AttemptId) (h g : List Record) → AgreeFor index count u h g → is_of u a ≡ true → AgreeFor index count a.user h g
agree-at index count u a h g agree is = let P : ℕ → Type 0 = λ n. AgreeFor index count n h g in subst P (same-user a.user u is) agree

finished-own : (index count : ℕ) (a : AttemptId) (h g : List Record) → AgreeFor index count a.user h g → history.is_finished h a ≡ history.is_finished g a
finished-own index count a h g agree = ap history.ended_finished (ended-own index count a h g agree)

row-own : (index count q : ℕ) (policy : Policy) (u : ℕ) (h g : List Record) → AgreeFor index count u h g → history.row h q policy u ≡ history.row g q policy u
row-own index count q policy u h g agree =
    let own = all-attempts q u h in
    ap (row_of policy) (
    map-same (is_of u) (history.total h) (history.total g) (filter (history.is_finished h) (history.attempts h q u)) (λ a is. total-own index count a h g (agree-at index count u a h g agree is)) (all-of-filter (is_of u) (history.is_finished h) (history.attempts h q u) own)
    ∙ ap (map (history.total g)) (
    filter-same (is_of u) (history.is_finished h) (history.is_finished g) (history.attempts h q u) (λ a is. finished-own index count a h g (agree-at index count u a h g agree is)) own
    ∙ ap (filter (history.is_finished g)) (attempts-own index count q u h g agree)))

pub isolated_law : OwnReadingsAgree
isolated_law = record {
  place = place-own;
  time = time-own;
  start = start-own;
  ended = ended-own;
  bound = bound-own;
  steps = steps-own;
  state = λ index count a k h g agree. ap (λ (s : Option history.Slot). unwrap_or (option_map history.state_of s) Todo) (slot-own index count a k h g agree);
  mark = λ index count a k h g agree. ap (λ (s : Option history.Slot). option_and_then history.mark_in s) (slot-own index count a k h g agree);
  total = total-own;
  attempts = attempts-own;
  row = row-own;
}
