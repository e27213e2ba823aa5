-- What is kept of a plan: the ranges of its settings and of its grade, and a question for each slot.
use Rattle.std.proofs.Common.{◌≡◌, ℕ, ◌≤◌, min, max, Bool, true, false, ◌&&◌, List, [], ◌∷◌, ◌++◌, Option, Some, None, length, refl, sym, ap, subst, ◌∙◌, arith, All, length-append}
use Rattle.std.specs.List.{list_all, list_any}
use Rattle.std.specs.Prelude.{ℤ, ◌==◌, filter_map, fold, if◌then◌else◌, nat_le, option_and_then, unwrap_or}
use Rattle.std.proofs.Math.Seq.{get_or-append_seam}
use Rattle.std.proofs.lemmas.Bool.{leb-true, le-leb}
use Rattle.qz_grading.specs.Steps.{last_of}
use Rattle.qz_terms.specs.declared.access.Override.{Override}
use Rattle.qz_terms.specs.declared.access.Settings.{Settings}
use Rattle.qz_terms.specs.declared.grades.Method.{Method}
use Rattle.qz_terms.specs.declared.record.Record.{Record}
use Rattle.qz_terms.specs.declared.request.Request.{Request}
use Rattle.qz_terms.specs.declared.request.Request.TheVariants as request
use Rattle.qz_terms.specs.declared.request.Whom.{Whom}
use Rattle.qz_terms.specs.declared.request.Whom.TheVariants as whom
use Rattle.qz_terms.specs.Access.{chosen, default_settings, effective, longest}
use Rattle.qz_terms.specs.Catalog.{asked, default_policy, groups_of, override_by, own_settings, policy_by, same_whom, settings, times_by}
use Rattle.qz_terms.specs.Catalog as catalog
use Rattle.qz_terms.specs.Kept.{IsKept, KeepsEvent, KeepsRequest, are_settings, if_there, is_allowed, is_duration, is_moment, is_quiz_grade}
use Rattle.qz_terms.specs.Lists.{greatest, least}
use Rattle.qz_terms.proofs.Walks.{last_told_in}
use Rattle.qz_catalog.specs.Readings.{policy_terms}
use Rattle.qz_catalog.proofs.Accepted.{asked-event}
use Rattle.qz_catalog.proofs.Marks.{all-told, and-left, and-right}

-- ---- requests

All-seam : {A : Type 0} (P : A → Type 0) (xs : List A) (x : A) (rest : List A) → All P (xs ++ x ∷ rest) → P x
All-seam P xs x rest all = subst P (get_or-append_seam xs x rest x) (all (length xs) x (let long = length-append xs (x ∷ rest) in omega arith))

-- what a request keeps that a record holds
pub request-kept : (c l : List Record) (r : Record) (rest : List Record) → All IsKept c → c ≡ l ++ r ∷ rest → (x : Request) → asked r ≡ Some x → KeepsRequest x
request-kept c l r rest kept e x is =
    let keeps = (All-seam IsKept l r rest (subst (All IsKept) e kept)).event in
    (subst KeepsEvent (asked-event r.event x is) keeps).1

-- ---- the quiz's own settings

times-if : (quiz q : ℕ) (t s : Settings) (b : Bool) → (quiz == q) ≡ b → (if b then Some t else None) ≡ Some s → are_settings t ≡ true → are_settings s ≡ true
times-if quiz q t s true is told kept = let same : t ≡ s = cc in ap are_settings (sym same) ∙ kept
times-if quiz q t s false is told kept = absurd cc

times-kept : (q : ℕ) (o : Option Request) (s : Settings) → ((x : Request) → o ≡ Some x → KeepsRequest x) → times_by q o ≡ Some s → are_settings s ≡ true
times-kept q (Some (request.Times quiz opens closes limit allowed handling grace review)) s keeps told = times-if quiz q (record { opens = opens; closes = closes; limit = limit; allowed = allowed; handling = handling; grace = grace; review = review }) s (quiz == q) refl told (keeps _ refl)
times-kept q o s keeps told = absurd cc

own-by : (c : List Record) (q : ℕ) (o : Option Settings) → All IsKept c → last_of (filter_map (λ (r : Record). times_by q (asked r)) c) ≡ o → are_settings (unwrap_or o default_settings) ≡ true
own-by c q None kept is = refl
own-by c q (Some s) kept is =
    let t = last_told_in (λ (r : Record). times_by q (asked r)) c s is in
    times-kept q (asked t.item) s (request-kept c t.front t.item t.rest kept t.stands) t.tells

pub own-kept : (c : List Record) (q : ℕ) → All IsKept c → are_settings (own_settings c q) ≡ true
own-kept c q kept = own-by c q (last_of (filter_map (λ (r : Record). times_by q (asked r)) c)) kept refl

-- ---- what is set otherwise

abbrev is_override : Override → Bool
is_override v = if_there is_moment v.opens && (if_there is_moment v.closes && (if_there is_duration v.limit && if_there is_allowed v.allowed))

override-if : (t v : Override) (b : Bool) → (if b then Some t else None) ≡ Some v → is_override t ≡ true → is_override v ≡ true
override-if t v true told kept = let same : t ≡ v = cc in ap is_override (sym same) ∙ kept
override-if t v false told kept = absurd cc

override-kept : (q : ℕ) (w : Whom) (n : ℕ) (o : Option Request) (v : Override) → ((x : Request) → o ≡ Some x → KeepsRequest x) → override_by q w n o ≡ Some v → is_override v ≡ true
override-kept q w n (Some (request.Override quiz whom number opens closes limit allowed)) v keeps told = override-if (record { opens = opens; closes = closes; limit = limit; allowed = allowed }) v ((quiz == q) && (same_whom whom w && (number == n))) told (keeps _ refl)
override-kept q w n o v keeps told = absurd cc

last-override-kept : (c : List Record) (q : ℕ) (w : Whom) (n : ℕ) (v : Override) → All IsKept c → catalog.override c q w n ≡ Some v → is_override v ≡ true
last-override-kept c q w n v kept is =
    let t = last_told_in (λ (r : Record). override_by q w n (asked r)) c v is in
    override-kept q w n (asked t.item) v (request-kept c t.front t.item t.rest kept t.stands) t.tells

groups-kept : (c : List Record) (q u : ℕ) → All IsKept c → list_all is_override (filter_map (catalog.override c q whom.Group) (groups_of c u)) ≡ true
groups-kept c q u kept = all-told is_override (catalog.override c q whom.Group) (groups_of c u) (λ l g rest v e told. last-override-kept c q whom.Group g v kept told)

-- ---- the most lenient

abbrev up_to : ℕ → ℕ → Bool
up_to most n = nat_le n most

fold-min : (most n : ℕ) (ns : List ℕ) → n ≤ most → fold min n ns ≤ most
fold-min most n [] few = few
fold-min most n (m ∷ ns) few = fold-min most (min n m) ns (omega arith)

fold-max : (most n : ℕ) (ns : List ℕ) → n ≤ most → list_all (up_to most) ns ≡ true → fold max n ns ≤ most
fold-max most n [] few all = few
fold-max most n (m ∷ ns) few all =
    let here : m ≤ most = leb-true m most (and-left (nat_le m most) (list_all (up_to most) ns) all) in
    fold-max most (max n m) ns (omega arith) (and-right (nat_le m most) (list_all (up_to most) ns) all)

least-kept : (most : ℕ) (ns : List ℕ) → list_all (up_to most) ns ≡ true → if_there (up_to most) (least ns) ≡ true
least-kept most [] all = refl
least-kept most (n ∷ ns) all = le-leb (fold min n ns) most (fold-min most n ns (leb-true n most (and-left (nat_le n most) (list_all (up_to most) ns) all)))

greatest-kept : (most : ℕ) (ns : List ℕ) → list_all (up_to most) ns ≡ true → if_there (up_to most) (greatest ns) ≡ true
greatest-kept most [] all = refl
greatest-kept most (n ∷ ns) all = le-leb (fold max n ns) most (fold-max most n ns (leb-true n most (and-left (nat_le n most) (list_all (up_to most) ns) all)) (and-right (nat_le n most) (list_all (up_to most) ns) all))

longest-by : (most : ℕ) (ns : List ℕ) (b : Bool) → list_all (up_to most) ns ≡ true → if_there (up_to most) (if b then Some 0 else greatest ns) ≡ true
longest-by most ns true all = le-leb 0 most (omega arith)
longest-by most ns false all = greatest-kept most ns all

longest-kept : (most : ℕ) (ns : List ℕ) → list_all (up_to most) ns ≡ true → if_there (up_to most) (longest ns) ≡ true
longest-kept most ns all = longest-by most ns (list_any (λ n. n == 0) ns) all

values-step : (most : ℕ) (f : Override → Option ℕ) (v : Override) (vs : List Override) (o : Option ℕ) → f v ≡ o → if_there (up_to most) o ≡ true → list_all (up_to most) (filter_map f vs) ≡ true → list_all (up_to most) (filter_map f (v ∷ vs)) ≡ true
values-step most f v vs None is here rest = rw is rest
values-step most f v vs (Some n) is here rest = rw is (rw here rest)

values-kept : (most : ℕ) (f : Override → Option ℕ) (vs : List Override) → ((v : Override) → is_override v ≡ true → if_there (up_to most) (f v) ≡ true) → list_all is_override vs ≡ true → list_all (up_to most) (filter_map f vs) ≡ true
values-kept most f [] each all = refl
values-kept most f (v ∷ vs) each all = values-step most f v vs (f v) refl (each v (and-left (is_override v) (list_all is_override vs) all)) (values-kept most f vs each (and-right (is_override v) (list_all is_override vs) all))

own-there : (most : ℕ) (f : Override → Option ℕ) (o : Option Override) → ((v : Override) → is_override v ≡ true → if_there (up_to most) (f v) ≡ true) → ((v : Override) → o ≡ Some v → is_override v ≡ true) → if_there (up_to most) (option_and_then f o) ≡ true
own-there most f None each kept = refl
own-there most f (Some v) each kept = each v (kept v refl)

chosen-kept : (p : ℕ → Bool) (user group : Option ℕ) (quiz : ℕ) → if_there p user ≡ true → if_there p group ≡ true → p quiz ≡ true → p (chosen user group quiz) ≡ true
chosen-kept p None None quiz one other own = own
chosen-kept p None (Some g) quiz one other own = other
chosen-kept p (Some u) group quiz one other own = one

-- ---- the parts of what is set

opens-kept : (v : Override) → is_override v ≡ true → if_there is_moment v.opens ≡ true
opens-kept v is = and-left (if_there is_moment v.opens) _ is

closes-kept : (v : Override) → is_override v ≡ true → if_there is_moment v.closes ≡ true
closes-kept v is = and-left (if_there is_moment v.closes) _ (and-right (if_there is_moment v.opens) _ is)

limit-kept : (v : Override) → is_override v ≡ true → if_there is_duration v.limit ≡ true
limit-kept v is = and-left (if_there is_duration v.limit) _ (and-right (if_there is_moment v.closes) _ (and-right (if_there is_moment v.opens) _ is))

allowed-kept : (v : Override) → is_override v ≡ true → if_there is_allowed v.allowed ≡ true
allowed-kept v is = and-right (if_there is_duration v.limit) _ (and-right (if_there is_moment v.closes) _ (and-right (if_there is_moment v.opens) _ is))

effective-kept : (s : Settings) (user : Option Override) (groups : List Override) → are_settings s ≡ true → ((v : Override) → user ≡ Some v → is_override v ≡ true) → list_all is_override groups ≡ true → are_settings (effective s user groups) ≡ true
effective-kept s user groups own set all =
    let second = and-right (is_moment s.opens) _ own in
    let third = and-right (is_moment s.closes) _ second in
    let fourth = and-right (is_duration s.limit) _ third in
    let opens = chosen-kept is_moment (option_and_then (λ (o : Override). o.opens) user) (least (filter_map (λ (o : Override). o.opens) groups)) s.opens (own-there 4102444799 (λ (o : Override). o.opens) user opens-kept set) (least-kept 4102444799 (filter_map (λ (o : Override). o.opens) groups) (values-kept 4102444799 (λ (o : Override). o.opens) groups opens-kept all)) (and-left (is_moment s.opens) _ own) in
    let closes = chosen-kept is_moment (option_and_then (λ (o : Override). o.closes) user) (longest (filter_map (λ (o : Override). o.closes) groups)) s.closes (own-there 4102444799 (λ (o : Override). o.closes) user closes-kept set) (longest-kept 4102444799 (filter_map (λ (o : Override). o.closes) groups) (values-kept 4102444799 (λ (o : Override). o.closes) groups closes-kept all)) (and-left (is_moment s.closes) _ second) in
    let limit = chosen-kept is_duration (option_and_then (λ (o : Override). o.limit) user) (longest (filter_map (λ (o : Override). o.limit) groups)) s.limit (own-there 31536000 (λ (o : Override). o.limit) user limit-kept set) (longest-kept 31536000 (filter_map (λ (o : Override). o.limit) groups) (values-kept 31536000 (λ (o : Override). o.limit) groups limit-kept all)) (and-left (is_duration s.limit) _ third) in
    let allowed = chosen-kept is_allowed (option_and_then (λ (o : Override). o.allowed) user) (longest (filter_map (λ (o : Override). o.allowed) groups)) s.allowed (own-there 1000 (λ (o : Override). o.allowed) user allowed-kept set) (longest-kept 1000 (filter_map (λ (o : Override). o.allowed) groups) (values-kept 1000 (λ (o : Override). o.allowed) groups allowed-kept all)) (and-left (is_allowed s.allowed) _ fourth) in
    let grace = and-right (is_allowed s.allowed) _ fourth in
    both _ _ opens (both _ _ closes (both _ _ limit (both _ _ allowed grace)))
  where
    both : (b c : Bool) → b ≡ true → c ≡ true → b && c ≡ true
    both true c is also = also
    both false c is also = absurd cc

-- the settings of a user are in range
pub settings-kept : (c : List Record) (q u : ℕ) → All IsKept c → are_settings (settings c q u) ≡ true
settings-kept c q u kept = effective-kept (own_settings c q) (catalog.override c q whom.User u) (filter_map (catalog.override c q whom.Group) (groups_of c u)) (own-kept c q kept) (λ v is. last-override-kept c q whom.User u v kept is) (groups-kept c q u kept)

-- ---- grades

policy-if : (quiz q : ℕ) (t p : Method × ℤ) (b : Bool) → (quiz == q) ≡ b → (if b then Some t else None) ≡ Some p → is_quiz_grade t.1 ≡ true → is_quiz_grade p.1 ≡ true
policy-if quiz q t p true is told kept = let same : t ≡ p = cc in ap (λ (m : Method × ℤ). is_quiz_grade m.1) (sym same) ∙ kept
policy-if quiz q t p false is told kept = absurd cc

policy-kept : (q : ℕ) (o : Option Request) (p : Method × ℤ) → ((x : Request) → o ≡ Some x → KeepsRequest x) → policy_by q o ≡ Some p → is_quiz_grade p.1 ≡ true
policy-kept q (Some (request.Policy quiz method grade)) p keeps told = policy-if quiz q (method, grade) p (quiz == q) refl told (keeps _ refl)
policy-kept q o p keeps told = absurd cc

grade-by : (c : List Record) (q : ℕ) (o : Option (Method × ℤ)) → All IsKept c → last_of (filter_map (λ (r : Record). policy_by q (asked r)) c) ≡ o → is_quiz_grade (unwrap_or o default_policy).1 ≡ true
grade-by c q None kept is = refl
grade-by c q (Some p) kept is =
    let t = last_told_in (λ (r : Record). policy_by q (asked r)) c p is in
    policy-kept q (asked t.item) p (request-kept c t.front t.item t.rest kept t.stands) t.tells

-- the grade of a quiz is in range
pub grade-kept : (c : List Record) (q : ℕ) → All IsKept c → is_quiz_grade (policy_terms c q).1 ≡ true
grade-kept c q kept = grade-by c q (last_of (filter_map (λ (r : Record). policy_by q (asked r)) c)) kept refl
