-- A report's turns in the shards, and its reply.
use Rattle.std.proofs.Common.{◌≡◌, ℕ, zero, suc, ◌<◌, ◌%◌, Bool, true, false, List, [], ◌∷◌, ◌++◌, Some, length, map, take, refl, sym, ap, ◌∙◌, append-nil, append_assoc, arith}
use Rattle.std.specs.List.{list_all}
use Rattle.std.specs.Prelude.{◌==◌, flat_map, nat_lt, slice_get, slice_set}
use Rattle.std.proofs.lemmas.Bool.{eqb-true}
use Rattle.qz_school.proofs.Rows.{at_place-map-by, flat-mapped, flat-same, takers-belong}
use Rattle.qz_school.proofs.Slotting.{both-true}
use Rattle.qz_terms.specs.declared.grades.Policy.{Policy}
use Rattle.qz_terms.specs.declared.people.User.{User}
use Rattle.qz_terms.specs.declared.plan.Plan.{Plan}
use Rattle.qz_terms.specs.declared.record.Record.{Record}
use Rattle.qz_terms.specs.declared.reply.Done.TheVariants as done
use Rattle.qz_terms.specs.declared.reply.Reply.TheVariants as reply
use Rattle.qz_terms.specs.declared.reply.Row.{Row}
use Rattle.qz_terms.specs.Catalog as catalog
use Rattle.qz_terms.specs.History as history
use Rattle.qz_terms.specs.Legal.{IsLegal, is_here}
use Rattle.qz_terms.specs.Lists.{in_order, placed}
use Rattle.qz_terms.specs.SchoolAnswer.{report_answer, report_row, report_rows}
use Rattle.qz_schedule.specs.Worlds.{row_before, row_in}
use Rattle.qz_schedule.proofs.Knowing.{rows_of}

-- ---- rows in order of user

module _ (c : List Record) (ps : List (List Record)) (policy : Policy) (q : ℕ) where
  placed-step : (u v : ℕ) (us : List ℕ) (b d : Bool) → nat_lt u v ≡ b → nat_lt v u ≡ d → placed row_before (report_row c ps policy q u) (map (report_row c ps policy q) us) ≡ map (report_row c ps policy q) (placed nat_lt u us)
      → placed row_before (report_row c ps policy q u) (map (report_row c ps policy q) (v ∷ us)) ≡ map (report_row c ps policy q) (placed nat_lt u (v ∷ us))
  placed-step u v us true d less more later = rw less refl
  placed-step u v us false true less more later = rw (less, more) (ap (λ (l : List Row). report_row c ps policy q v ∷ l) later)
  placed-step u v us false false less more later = rw (less, more) refl

  placed-rows : (u : ℕ) (us : List ℕ) → placed row_before (report_row c ps policy q u) (map (report_row c ps policy q) us) ≡ map (report_row c ps policy q) (placed nat_lt u us)
  placed-rows u [] = refl
  placed-rows u (v ∷ us) = placed-step u v us (nat_lt u v) (nat_lt v u) refl refl (placed-rows u us)

  rows-in-order : (us : List ℕ) → in_order row_before (map (report_row c ps policy q) us) ≡ map (report_row c ps policy q) (in_order nat_lt us)
  rows-in-order [] = refl
  rows-in-order (u ∷ us) = ap (placed row_before (report_row c ps policy q u)) (rows-in-order us) ∙ placed-rows u (in_order nat_lt us)

-- ---- so each grade is that of the user's own shard

row-is : (c : List Record) (ps : List (List Record)) (policy : Policy) (q k u : ℕ) (h : List Record) → slice_get ps k ≡ Some h → is_here k (length ps) u ≡ true → row_in h (map (λ (u : User). u.name) (catalog.users c)) q policy u ≡ report_row c ps policy q u
row-is c ps policy q k u h there here =
    let place : u % length ps ≡ k = eqb-true (u % length ps) k here in
    rw (at_place-map-by (λ (u : User). u.name) (catalog.users c) u (u == 0) refl, place, there) refl

rows-are : (c : List Record) (ps : List (List Record)) (policy : Policy) (q k : ℕ) (h : List Record) (us : List ℕ) → slice_get ps k ≡ Some h → list_all (is_here k (length ps)) us ≡ true
    → map (row_in h (map (λ (u : User). u.name) (catalog.users c)) q policy) us ≡ map (report_row c ps policy q) us
rows-are c ps policy q k h [] there all = refl
rows-are c ps policy q k h (u ∷ us) there all =
    let both = both-true (is_here k (length ps) u) (list_all (is_here k (length ps)) us) all in
    ap (λ (r : Row). r ∷ map (row_in h (map (λ (u : User). u.name) (catalog.users c)) q policy) us) (row-is c ps policy q k u h there both.0)
    ∙ ap (λ (l : List Row). report_row c ps policy q u ∷ l) (rows-are c ps policy q k h us there both.1)

pub flat-push : {A B : Type 0} (f : A → List B) (xs : List A) (x : A) → flat_map f (xs ++ x ∷ []) ≡ flat_map f xs ++ f x
flat-push f [] x = append-nil (f x)
flat-push f (y ∷ xs) x = ap (λ (l : List _). f y ++ l) (flat-push f xs x) ∙ sym (append_assoc (f y) (flat_map f xs) (f x))

-- the rows of all shards are those of the report
pub report-is : (c : List Record) (ps : List (List Record)) (q : ℕ) (plan : Plan) → ((k : ℕ) (h : List Record) → slice_get ps k ≡ Some h → IsLegal k (length ps) h) → plan.policy ≡ catalog.policy c q → plan.at ≡ length c
    → reply.Ok plan.at (done.Report (in_order row_before (flat_map (rows_of (map (λ (u : User). u.name) (catalog.users c)) (Some plan) q) ps))) ≡ report_answer c ps q
report-is c ps q plan legal policy at =
    let names = map (λ (u : User). u.name) (catalog.users c) in
    let p = catalog.policy c q in
    let whole : flat_map (rows_of names (Some plan) q) ps ≡ map (report_row c ps p q) (flat_map (λ h. history.takers h q) ps) =
    flat-same (rows_of names (Some plan) q) (λ h. map (report_row c ps p q) (history.takers h q)) ps
    (λ k h is. ap (λ (x : Policy). map (row_in h names q x) (history.takers h q)) policy ∙ rows-are c ps p q k h (history.takers h q) is (takers-belong k (length ps) q h (legal k h is)))
    ∙ flat-mapped (report_row c ps p q) (λ h. history.takers h q) ps in
    let rows : in_order row_before (flat_map (rows_of names (Some plan) q) ps) ≡ report_rows c ps p q = ap (in_order row_before) whole ∙ rows-in-order c ps p q (flat_map (λ h. history.takers h q) ps) in
    ap (λ (m : ℕ). reply.Ok m (done.Report (in_order row_before (flat_map (rows_of names (Some plan) q) ps)))) at ∙ ap (λ (l : List Row). reply.Ok (length c) (done.Report l)) rows

-- ---- one shard more was read

pub take-set : {A : Type 0} (xs : List A) (k : ℕ) (x : A) → k < length xs → take (suc k) (slice_set xs k x) ≡ take k xs ++ x ∷ []
take-set [] k x inside = absurd (omega arith)
take-set (y ∷ xs) zero x inside = refl
take-set (y ∷ xs) (suc k) x inside = ap (λ (l : List _). y ∷ l) (take-set xs k x (let more : suc k < suc (length xs) = inside in omega arith))
