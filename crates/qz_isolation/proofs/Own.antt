-- A user's own records in a list, and what they alone tell.
use Rattle.std.proofs.Common.{◌≡◌, ℕ, suc, Bool, true, false, ◌&&◌, List, [], ◌∷◌, ◌++◌, length, Option, None, refl, ap, ◌∙◌, sym, map, if◌then◌else◌}
use Rattle.std.specs.Prelude.{filter, filter_map, option_map}
use Rattle.std.specs.List.{list_all, cons_option}
use Rattle.std.proofs.lemmas.List.{length-map, map-append}
use Rattle.std.proofs.lemmas.List.Elements.{filter-append}
use Rattle.std.proofs.lemmas.List.Folds.{list_all-append}
pub use Rattle.qz_lemmas.proofs.Bools.{and-left, and-right}
use Rattle.qz_terms.specs.declared.record.Record.{Record}
use Rattle.qz_terms.specs.Lists.{first_of, up_to_first}
use Rattle.qz_terms.specs.History as history
use Rattle.qz_terms.specs.Laws.{own_records, unlearned}

-- a test that all records of a list pass, at one of them
pub all-at : (good : Record → Bool) (front : List Record) (r : Record) (rest h : List Record) → h ≡ front ++ r ∷ rest → list_all good h ≡ true → good r ≡ true
all-at good front r rest h is all =
    let parts : list_all good front && list_all good (r ∷ rest) ≡ true = sym (list_all-append good front (r ∷ rest)) ∙ ap (list_all good) (sym is) ∙ all in
    and-left (good r) (list_all good rest) (and-right (list_all good front) (list_all good (r ∷ rest)) parts)

-- ---- own records

pub own-count : (u : ℕ) (h : List Record) → history.place h u ≡ length (own_records u h)
own-count u h = sym (length-map (filter (history.is_owned u) h) unlearned)

pub own-append : (u : ℕ) (h rest : List Record) → own_records u (h ++ rest) ≡ own_records u h ++ own_records u rest
own-append u h rest = ap (map unlearned) (filter-append (history.is_owned u) h rest) ∙ map-append unlearned (filter (history.is_owned u) h) (filter (history.is_owned u) rest)

own-alone-by : (u : ℕ) (r : Record) (b : Bool) → history.is_owned u r ≡ b → own_records u (r ∷ []) ≡ (if b then unlearned r ∷ [] else [])
own-alone-by u r true is = rw is refl
own-alone-by u r false is = rw is refl

pub own-alone : (u : ℕ) (r s : Record) → unlearned r ≡ unlearned s → own_records u (r ∷ []) ≡ own_records u (s ∷ [])
own-alone u r s same =
    own-alone-by u r (history.is_owned u r) refl
    ∙ ap (λ (t : Record). if history.is_owned u t then t ∷ [] else []) same
    ∙ sym (own-alone-by u s (history.is_owned u s) refl)

-- ---- readings that tell nothing of other records, nor of what was learned

-- A test that only own records pass, whatever was learned by them.
pub record TestsOwn (u : ℕ) (good p : Record → Bool) : Type 0 where
  pub others : (r : Record) → good r ≡ true → history.is_owned u r ≡ false → p r ≡ false
  pub forgets : (r : Record) → p (unlearned r) ≡ p r

up_to-step : (u : ℕ) (p : Record → Bool) (r : Record) (h : List Record) (b c : Bool) → history.is_owned u r ≡ b → p r ≡ c → (b ≡ false → c ≡ false) → p (unlearned r) ≡ c
    → own_records u (up_to_first p h) ≡ up_to_first p (own_records u h) → own_records u (up_to_first p (r ∷ h)) ≡ up_to_first p (own_records u (r ∷ h))
up_to-step u p r h true true own is others same rest = rw (is, own, same) refl
up_to-step u p r h true false own is others same rest = rw (is, own, same) (ap (λ (t : List Record). unlearned r ∷ t) rest)
up_to-step u p r h false true own is others same rest = absurd (let none : true ≡ false = others refl in cc)
up_to-step u p r h false false own is others same rest = rw (is, own) rest

-- own records up to the first that passes
pub own-up_to : (u : ℕ) (good p : Record → Bool) (h : List Record) → TestsOwn u good p → list_all good h ≡ true → own_records u (up_to_first p h) ≡ up_to_first p (own_records u h)
own-up_to u good p [] t all = refl
own-up_to u good p (r ∷ h) t all =
    up_to-step u p r h (history.is_owned u r) (p r) refl refl (t.others r (and-left (good r) (list_all good h) all)) (t.forgets r) (own-up_to u good p h t (and-right (good r) (list_all good h) all))

first-step : (u : ℕ) (p : Record → Bool) (r : Record) (h : List Record) (b c : Bool) → history.is_owned u r ≡ b → p r ≡ c → (b ≡ false → c ≡ false) → p (unlearned r) ≡ c
    → option_map unlearned (first_of (filter p h)) ≡ first_of (filter p (own_records u h)) → option_map unlearned (first_of (filter p (r ∷ h))) ≡ first_of (filter p (own_records u (r ∷ h)))
first-step u p r h true true own is others same rest = rw (is, own, same) refl
first-step u p r h true false own is others same rest = rw (is, own, same) rest
first-step u p r h false true own is others same rest = absurd (let none : true ≡ false = others refl in cc)
first-step u p r h false false own is others same rest = rw (is, own) rest

-- the first that passes
pub own-first : (u : ℕ) (good p : Record → Bool) (h : List Record) → TestsOwn u good p → list_all good h ≡ true → option_map unlearned (first_of (filter p h)) ≡ first_of (filter p (own_records u h))
own-first u good p [] t all = refl
own-first u good p (r ∷ h) t all =
    first-step u p r h (history.is_owned u r) (p r) refl refl (t.others r (and-left (good r) (list_all good h) all)) (t.forgets r) (own-first u good p h t (and-right (good r) (list_all good h) all))

told-step : {B : Type 0} (u : ℕ) (f : Record → Option B) (r : Record) (h : List Record) (b : Bool) → history.is_owned u r ≡ b → (b ≡ false → f r ≡ None) → f (unlearned r) ≡ f r → filter_map f h ≡ filter_map f (own_records u h) → filter_map f (r ∷ h) ≡ filter_map f (own_records u (r ∷ h))
told-step u f r h true own none same rest = rw own (λ i. cons_option (sym same i) (rest i))
told-step u f r h false own none same rest = let nothing = none refl in rw (own, nothing) rest

-- all that is told
pub own-told : {B : Type 0} (u : ℕ) (good : Record → Bool) (f : Record → Option B) (h : List Record) → ((r : Record) → good r ≡ true → history.is_owned u r ≡ false → f r ≡ None) → ((r : Record) → f (unlearned r) ≡ f r) → list_all good h ≡ true → filter_map f h ≡ filter_map f (own_records u h)
own-told u good f [] none same all = refl
own-told u good f (r ∷ h) none same all = told-step u f r h (history.is_owned u r) refl (none r (and-left (good r) (list_all good h) all)) (same r) (own-told u good f h none same (and-right (good r) (list_all good h) all))

count-step : (u : ℕ) (p : Record → Bool) (r : Record) (h : List Record) (b c : Bool) → history.is_owned u r ≡ b → p r ≡ c → p (unlearned r) ≡ c → length (filter (λ r. history.is_owned u r && p r) h) ≡ length (filter p (own_records u h)) → length (filter (λ r. history.is_owned u r && p r) (r ∷ h)) ≡ length (filter p (own_records u (r ∷ h)))
count-step u p r h true true own is same rest = rw (own, is, same) (ap suc rest)
count-step u p r h true false own is same rest = rw (own, is, same) rest
count-step u p r h false c own is same rest = rw own rest

-- how many own records pass
pub own-many : (u : ℕ) (p : Record → Bool) (h : List Record) → ((r : Record) → p (unlearned r) ≡ p r) → length (filter (λ r. history.is_owned u r && p r) h) ≡ length (filter p (own_records u h))
own-many u p [] same = refl
own-many u p (r ∷ h) same = count-step u p r h (history.is_owned u r) (p r) refl refl (same r) (own-many u p h same)
