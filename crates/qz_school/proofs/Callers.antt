-- The user of a token has the place of the own number.
use Rattle.std.proofs.Common.{◌≡◌, ℕ, suc, ◌+◌, ◌-◌, ◌≤◌, Bool, true, false, ◌||◌, List, [], ◌∷◌, Option, Some, map, refl, sym, ap, arith}
use Rattle.std.specs.List.{enumerate_from}
use Rattle.std.specs.Prelude.{◌==◌, filter, filter_map, is_some, slice_get}
use Rattle.std.proofs.lemmas.Bool.{eqb-true}
use Rattle.qz_grading.specs.Grading.{at_place}
use Rattle.qz_terms.specs.declared.people.Caller.{Caller}
use Rattle.qz_terms.specs.declared.people.Caller.TheVariants as caller
use Rattle.qz_terms.specs.declared.people.User.{User}
use Rattle.qz_terms.specs.declared.record.Record.{Record}
use Rattle.qz_terms.specs.Catalog.{Person, has_token, made_user, user_of, user_of_token, user_with, users, worker}
use Rattle.qz_terms.specs.Lists.{first_of}

abbrev numbered : ℕ → List Person → List User
numbered n ps = map (λ (u : ℕ × Person). user_with u.0 u.1) (enumerate_from n ps)

-- a user among these, counted from n
record IsNumbered (n : ℕ) (ps : List Person) (u : User) : Type 0 where
  above : n ≤ u.number
  there : slice_get (numbered n ps) (u.number - n) ≡ Some u

first-step : (n : ℕ) (p : Person) (ps : List Person) (test : User → Bool) (u : User) (b : Bool) → test (user_with n p) ≡ b → first_of (filter test (numbered n (p ∷ ps))) ≡ Some u
    → (first_of (filter test (numbered (n + 1) ps)) ≡ Some u → IsNumbered (n + 1) ps u) → IsNumbered n (p ∷ ps) u
first-step n p ps test u true is found later =
    let first : Some (user_with n p) ≡ Some u = rw is at found in
    let same : user_with n p ≡ u = cc in
    let number : u.number ≡ n = ap (λ (x : User). x.number) (sym same) in
    let none : u.number - n ≡ 0 = omega arith in
    record { above = omega arith; there = rw none first }
first-step n p ps test u false is found later =
    let rest = later (rw is at found) in
    let above = rest.above in
    let place : u.number - n ≡ suc (u.number - (n + 1)) = omega arith in
    record { above = omega arith; there = rw place rest.there }

first-numbered : (n : ℕ) (ps : List Person) (test : User → Bool) (u : User) → first_of (filter test (numbered n ps)) ≡ Some u → IsNumbered n ps u
first-numbered n [] test u found = absurd cc
first-numbered n (p ∷ ps) test u found = first-step n p ps test u (test (user_with n p)) refl found (λ e. first-numbered (n + 1) ps test u e)

placed-by : (us : List User) (n : ℕ) (u : User) (b : Bool) → (n == 0) ≡ b → 1 ≤ n → slice_get us (n - 1) ≡ Some u → at_place us n ≡ Some u
placed-by us n u true is above there = let zero_is : n ≡ 0 = eqb-true n 0 is in absurd (omega arith)
placed-by us n u false is above there = rw is there

pub token-placed : (c : List Record) (token : List ℕ) (u : User) → user_of_token c token ≡ Some u → at_place (users c) u.number ≡ Some u
token-placed c token u found =
    let t = first-numbered 1 (filter_map made_user c) (has_token token) u found in
    placed-by (users c) u.number u (u.number == 0) refl t.above t.there

placed-or-worker : (b : Bool) (o : Option User) (u : User) → o ≡ Some u → b || is_some o ≡ true
placed-or-worker true o u is = refl
placed-or-worker false o u is = ap is_some is

pub caller-placed : (c : List Record) (who : Caller) (u : User) → user_of c who ≡ Some u → ((u.number == 0) || is_some (at_place (users c) u.number) ≡ true) × ((u.number == 0) ≡ false → at_place (users c) u.number ≡ Some u)
caller-placed c (caller.Token token) u found = let there = token-placed c token u found in (placed-or-worker (u.number == 0) (at_place (users c) u.number) u there, λ some. there)
caller-placed c caller.Worker u found =
    let same : worker ≡ u = cc in
    let number : u.number ≡ 0 = ap (λ (x : User). x.number) (sym same) in
    (rw number refl, λ some. let not_zero : true ≡ false = rw number at some in absurd cc)
