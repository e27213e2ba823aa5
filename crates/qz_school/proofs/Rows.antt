-- Rows of a report, in order of user and with names: those of a school where each shard's users belong to it.
use Rattle.std.proofs.Common.{◌≡◌, ℕ, suc, ◌+◌, ◌≤◌, ◌-◌, ◌%◌, Bool, true, false, ◌&&◌, List, [], ◌∷◌, ◌++◌, Option, Some, None, map, option_map, length, take, get_or, refl, sym, ap, ◌∙◌, subst, append-nil, append_assoc, arith}
use Rattle.std.specs.BTreeMap.{insert_entry}
use Rattle.std.specs.List.{list_all}
use Rattle.std.specs.Ordering.{nat_cmp}
use Rattle.std.specs.Prelude.{ℤ, filter_map, flat_map, ◌==◌, nat_lt, option_and_then, slice_get, unwrap_or}
use Rattle.std.proofs.lemmas.Bool.{eqb-true}
use Rattle.std.proofs.lemmas.Bool.Decides.{nat_tests}
use Rattle.std.proofs.lemmas.List.{map-append, take_all}
use Rattle.std.proofs.lemmas.Option.{slice_get-map}
use Rattle.qz_terms.proofs.Walks.{take-one_more}
use Rattle.qz_grading.specs.Grading.{at_place}
use Rattle.qz_looks.specs.Grades.{graded}
use Rattle.qz_terms.specs.declared.grades.Policy.{Policy}
use Rattle.qz_terms.specs.declared.people.User.{User}
use Rattle.qz_terms.specs.declared.record.Event.{Event}
use Rattle.qz_terms.specs.declared.record.Event.TheVariants as event
use Rattle.qz_terms.specs.declared.record.Record.{Record}
use Rattle.qz_terms.specs.declared.reply.Done.TheVariants as done
use Rattle.qz_terms.specs.declared.reply.Reply.TheVariants as reply
use Rattle.qz_terms.specs.declared.reply.Row.{Row}
use Rattle.qz_terms.specs.Catalog as catalog
use Rattle.qz_terms.specs.History as history
use Rattle.qz_terms.specs.Legal.{IsLegal, is_here, owner_by}
use Rattle.qz_terms.specs.Lists.{in_order, only_if, placed}
use Rattle.qz_terms.specs.SchoolAnswer.{report_answer, report_row, report_rows}
use Rattle.qz_school.specs.Reports.{all_rows, named_row, rows_in, rows_in_order}

-- ---- rows that each user's grade tells

abbrev with_grade : (ℕ → Option ℤ) → ℕ → ℕ × Option ℤ
with_grade g u = (u, g u)

insert-step : (g : ℕ → Option ℤ) (u v : ℕ) (us : List ℕ) (b c d : Bool) → nat_lt u v ≡ b → (u == v) ≡ c → nat_lt v u ≡ d → insert_entry nat_cmp (map (with_grade g) us) u (g u) ≡ map (with_grade g) (placed nat_lt u us)
    → insert_entry nat_cmp (map (with_grade g) (v ∷ us)) u (g u) ≡ map (with_grade g) (placed nat_lt u (v ∷ us))
insert-step g u v us true c d less same more later = rw less refl
insert-step g u v us false true d less same more later =
    let one : u ≡ v = eqb-true u v same in
    let not_more : nat_lt v u ≡ false = grind (arith, nat_tests) in
    rw (less, same, not_more) (ap (λ (n : ℕ). (v, g n) ∷ map (with_grade g) us) one)
insert-step g u v us false false true less same more later = rw (less, same, more) (ap (λ (l : List (ℕ × Option ℤ)). (v, g v) ∷ l) later)
insert-step g u v us false false false less same more later = absurd (none u v less same more)
  where
    none : (u v : ℕ) → nat_lt u v ≡ false → (u == v) ≡ false → nat_lt v u ≡ false → ⊥
    none u v less same more = grind (arith, nat_tests)

insert-placed : (g : ℕ → Option ℤ) (u : ℕ) (us : List ℕ) → insert_entry nat_cmp (map (with_grade g) us) u (g u) ≡ map (with_grade g) (placed nat_lt u us)
insert-placed g u [] = refl
insert-placed g u (v ∷ us) = insert-step g u v us (nat_lt u v) (u == v) (nat_lt v u) refl refl refl (insert-placed g u us)

rows-ordered : (g : ℕ → Option ℤ) (us : List ℕ) → rows_in_order (map (with_grade g) us) ≡ map (with_grade g) (in_order nat_lt us)
rows-ordered g [] = refl
rows-ordered g (u ∷ us) = ap (λ (es : List (ℕ × Option ℤ)). insert_entry nat_cmp es u (g u)) (rows-ordered g us) ∙ insert-placed g u (in_order nat_lt us)

-- ---- the users of a shard belong to it

abbrev pub belongs : ℕ → ℕ → ℕ → Bool
belongs k n u = is_here k n u

all-both : (a b : Bool) → a ≡ true → b ≡ true → a && b ≡ true
all-both a b one other = rw one other

all-first : (a b : Bool) → a && b ≡ true → (a ≡ true) × (b ≡ true)
all-first true b is = (refl, is)
all-first false b is = absurd cc

placed-by : (p : ℕ → Bool) (u v : ℕ) (us : List ℕ) (b c : Bool) → nat_lt u v ≡ b → nat_lt v u ≡ c → p u ≡ true → p v ≡ true → list_all p us ≡ true → list_all p (placed nat_lt u us) ≡ true → list_all p (placed nat_lt u (v ∷ us)) ≡ true
placed-by p u v us true c less more here there rest later = rw (less, here, there) rest
placed-by p u v us false true less more here there rest later = rw (less, more, there) later
placed-by p u v us false false less more here there rest later = rw (less, more, there) rest

all-placed : (p : ℕ → Bool) (u : ℕ) (us : List ℕ) → p u ≡ true → list_all p us ≡ true → list_all p (placed nat_lt u us) ≡ true
all-placed p u [] here all = rw here refl
all-placed p u (v ∷ us) here all =
    let both = all-first (p v) (list_all p us) all in
    placed-by p u v us (nat_lt u v) (nat_lt v u) refl refl here both.0 both.1 (all-placed p u us here both.1)

all-ordered : (p : ℕ → Bool) (us : List ℕ) → list_all p us ≡ true → list_all p (in_order nat_lt us) ≡ true
all-ordered p [] all = refl
all-ordered p (u ∷ us) all = let both = all-first (p u) (list_all p us) all in all-placed p u (in_order nat_lt us) both.0 (all-ordered p us both.1)

taker-owner : (k n q u : ℕ) (r : Record) (e : Event) → owner_by k n r e ≡ true → option_map (λ (s : history.Start). s.attempt.user) (option_and_then (only_if (λ (s : history.Start). s.quiz == q)) (history.start_by r e)) ≡ Some u → is_here k n u ≡ true
taker-owner k n q u r (event.Started quiz nth b bounds learned) owner found = by (quiz == q) refl
  where
    by : (same : Bool) → (quiz == q) ≡ same → is_here k n u ≡ true
    by true is =
        let some : Some r.owner ≡ Some u = rw is at found in
        let user : r.owner ≡ u = cc in
        subst (λ (x : ℕ). is_here k n x ≡ true) user owner
    by false is = let none : None ≡ Some u = rw is at found in absurd cc
taker-owner k n q u r e owner found = absurd cc

takers-step : (k n q : ℕ) (r : Record) (rest : List Record) (o : Option ℕ) → history.taker_at q r ≡ o → ((u : ℕ) → o ≡ Some u → belongs k n u ≡ true) → list_all (belongs k n) (filter_map (history.taker_at q) rest) ≡ true
    → list_all (belongs k n) (filter_map (history.taker_at q) (r ∷ rest)) ≡ true
takers-step k n q r rest None is here later = rw is later
takers-step k n q r rest (Some u) is here later = rw (is, here u refl) later

takers-from : (k n q : ℕ) (h l rest : List Record) → IsLegal k n h → h ≡ l ++ rest → list_all (belongs k n) (filter_map (history.taker_at q) rest) ≡ true
takers-from k n q h l [] legal e = refl
takers-from k n q h l (r ∷ rest) legal e =
    takers-step k n q r rest (history.taker_at q r) refl (λ u is. taker-owner k n q u r r.event (legal.each l r rest e).owner is)
    (takers-from k n q h (l ++ r ∷ []) rest legal (e ∙ sym (append_assoc l (r ∷ []) rest)))

pub takers-belong : (k n q : ℕ) (h : List Record) → IsLegal k n h → list_all (belongs k n) (history.takers h q) ≡ true
takers-belong k n q h legal = all-ordered (belongs k n) (filter_map (history.taker_at q) h) (takers-from k n q h [] h legal refl)

-- ---- so each grade is that of the user's own shard

abbrev own_grade : List (List Record) → ℕ → Policy → ℕ → Option ℤ
own_grade ps q policy u = unwrap_or (option_map (λ h. history.row h q policy u) (slice_get ps (u % length ps))) None

own-graded : (ps : List (List Record)) (k q u : ℕ) (policy : Policy) (h : List Record) → slice_get ps k ≡ Some h → belongs k (length ps) u ≡ true → graded h q policy u ≡ with_grade (own_grade ps q policy) u
own-graded ps k q u policy h there here =
    let place : u % length ps ≡ k = eqb-true (u % length ps) k here in
    rw (place, there) refl

own-rows : (ps : List (List Record)) (k q : ℕ) (policy : Policy) (h : List Record) (us : List ℕ) → slice_get ps k ≡ Some h → list_all (belongs k (length ps)) us ≡ true → map (graded h q policy) us ≡ map (with_grade (own_grade ps q policy)) us
own-rows ps k q policy h [] there all = refl
own-rows ps k q policy h (u ∷ us) there all =
    let both = all-first (belongs k (length ps) u) (list_all (belongs k (length ps)) us) all in
    let head = own-graded ps k q u policy h there both.0 in
    let tail = own-rows ps k q policy h us there both.1 in
    ap (λ (r : ℕ × Option ℤ). r ∷ map (graded h q policy) us) head ∙ ap (λ (l : List (ℕ × Option ℤ)). with_grade (own_grade ps q policy) u ∷ l) tail

pub flat-same : {A B : Type 0} (f g : A → List B) (xs : List A) → ((k : ℕ) (x : A) → slice_get xs k ≡ Some x → f x ≡ g x) → flat_map f xs ≡ flat_map g xs
flat-same f g [] each = refl
flat-same f g (x ∷ xs) each = ap (λ (l : List _). l ++ flat_map f xs) (each 0 x refl) ∙ ap (λ (l : List _). g x ++ l) (flat-same f g xs (λ k y is. each (suc k) y is))

pub flat-mapped : {A B C : Type 0} (f : B → C) (g : A → List B) (xs : List A) → flat_map (λ x. map f (g x)) xs ≡ map f (flat_map g xs)
flat-mapped f g [] = refl
flat-mapped f g (x ∷ xs) = ap (λ (l : List _). map f (g x) ++ l) (flat-mapped f g xs) ∙ sym (map-append f (g x) (flat_map g xs))

pub record EachLegal (ps : List (List Record)) : Type 0 where
  pub legal : (k : ℕ) (h : List Record) → slice_get ps k ≡ Some h → IsLegal k (length ps) h

all-graded : (ps : List (List Record)) (q : ℕ) (policy : Policy) → EachLegal ps → all_rows ps q policy ≡ map (with_grade (own_grade ps q policy)) (flat_map (λ h. history.takers h q) ps)
all-graded ps q policy legal =
    flat-same (rows_in q policy) (λ h. map (with_grade (own_grade ps q policy)) (history.takers h q)) ps (λ k h is. own-rows ps k q policy h (history.takers h q) is (takers-belong k (length ps) q h (legal.legal k h is)))
    ∙ flat-mapped (with_grade (own_grade ps q policy)) (λ h. history.takers h q) ps

-- ---- rows with names

pub at_place-map-by : {A B : Type 0} (f : A → B) (xs : List A) (n : ℕ) (b : Bool) → (n == 0) ≡ b → at_place (map f xs) n ≡ option_map f (at_place xs n)
at_place-map-by f xs n true is = rw is refl
at_place-map-by f xs n false is = rw is (slice_get-map f xs (n - 1))

named-own : (c : List Record) (ps : List (List Record)) (policy : Policy) (q u : ℕ) → named_row (map (λ (u : User). u.name) (catalog.users c)) (with_grade (own_grade ps q policy) u) ≡ report_row c ps policy q u
named-own c ps policy q u = rw (at_place-map-by (λ (u : User). u.name) (catalog.users c) u (u == 0) refl) refl

named-all : (c : List Record) (ps : List (List Record)) (policy : Policy) (q : ℕ) (us : List ℕ) → map (named_row (map (λ (u : User). u.name) (catalog.users c))) (map (with_grade (own_grade ps q policy)) us) ≡ map (report_row c ps policy q) us
named-all c ps policy q [] = refl
named-all c ps policy q (u ∷ us) = ap (λ (r : Row). r ∷ map (named_row (map (λ (u : User). u.name) (catalog.users c))) (map (with_grade (own_grade ps q policy)) us)) (named-own c ps policy q u) ∙ ap (λ (l : List Row). report_row c ps policy q u ∷ l) (named-all c ps policy q us)

rows-told : (c : List Record) (ps : List (List Record)) (policy : Policy) (q : ℕ) → EachLegal ps → map (named_row (map (λ (u : User). u.name) (catalog.users c))) (rows_in_order (all_rows ps q policy)) ≡ report_rows c ps policy q
rows-told c ps policy q legal =
    let names = map (λ (u : User). u.name) (catalog.users c) in
    let us = flat_map (λ h. history.takers h q) ps in
    ap (λ (l : List (ℕ × Option ℤ)). map (named_row names) (rows_in_order l)) (all-graded ps q policy legal)
    ∙ (ap (map (named_row names)) (rows-ordered (own_grade ps q policy) us) ∙ named-all c ps policy q (in_order nat_lt us))

-- the reply is that of the school
pub report_done : (c : List Record) (ps : List (List Record)) (q : ℕ) (p : Policy) (place : ℕ) (rows : List Row) (names : List (List ℕ)) (all entries : List (ℕ × Option ℤ)) → EachLegal ps → p ≡ catalog.policy c q → place ≡ length c
    → names ≡ map (λ (u : User). u.name) (catalog.users c) → all ≡ all_rows ps q p → entries ≡ rows_in_order all → rows ≡ map (named_row names) entries → reply.Ok place (done.Report rows) ≡ report_answer c ps q
report_done c ps q p place rows names all entries legal policy_is place_is names_are all_are entries_are rows_are =
    let same : rows ≡ report_rows c ps (catalog.policy c q) q = rw (rows_are, entries_are, all_are, names_are, policy_is) (rows-told c ps (catalog.policy c q) q legal) in
    rw (place_is, same) refl

-- ---- rows that are put in order, from behind

pub record ArePut (rows rest entries : List (ℕ × Option ℤ)) : Type 0 where
  pub done : List (ℕ × Option ℤ)
  pub split : rows ≡ rest ++ done
  pub put : entries ≡ rows_in_order done

pub put_none : (rows : List (ℕ × Option ℤ)) → ArePut rows rows []
put_none rows = record { done = []; split = sym (append-nil rows); put = refl }

pub put_more : (rows rest before entries more : List (ℕ × Option ℤ)) (r : ℕ × Option ℤ) → ArePut rows rest entries → rest ≡ before ++ r ∷ [] → more ≡ insert_entry nat_cmp entries r.0 r.1 → ArePut rows before more
put_more rows rest before entries more r so_far last put = record {
  done = r ∷ so_far.done;
  split = so_far.split ∙ (ap (λ (l : List (ℕ × Option ℤ)). l ++ so_far.done) last ∙ append_assoc before (r ∷ []) so_far.done);
  put = put ∙ ap (λ (es : List (ℕ × Option ℤ)). insert_entry nat_cmp es r.0 r.1) so_far.put;
}

pub last_of_rest : {A : Type 0} (xs : List A) (x : A) → 1 ≤ length xs → x ≡ get_or xs (length xs - 1) x → xs ≡ take (length xs - 1) xs ++ x ∷ []
last_of_rest xs x some is =
    let whole : length xs - 1 + 1 ≡ length xs = omega arith in
    sym (take_all (length xs) xs (omega arith)) ∙ (ap (λ (n : ℕ). take n xs) (sym whole) ∙ take-one_more xs (length xs - 1) x (omega arith) is)

pub put_all : (rows rest entries : List (ℕ × Option ℤ)) → ArePut rows rest entries → length rest ≡ 0 → entries ≡ rows_in_order rows
put_all rows [] entries so_far none = so_far.put ∙ ap rows_in_order (sym so_far.split)
put_all rows (r ∷ rest) entries so_far none = absurd (omega arith)
