-- Users, one record more at a time.
use Rattle.std.proofs.Common.{◌≡◌, ℕ, ◌+◌, Bool, true, false, List, [], ◌∷◌, Option, Some, None, option_map, map, refl, ap, ◌∙◌}
use Rattle.std.specs.List.{enumerate_from}
use Rattle.std.specs.Prelude.{filter, filter_map, is_some, position}
use Rattle.qz_terms.specs.declared.people.User.{User}
use Rattle.qz_terms.specs.declared.record.Record.{Record}
use Rattle.qz_terms.specs.Catalog.{Person, has_token, is_made_with, made_user, token_place, user_of_token, user_with, users}
use Rattle.qz_terms.specs.Lists.{first_of}
use Rattle.qz_terms.proofs.Walks.{found_nowhere}
use Rattle.qz_catalog.specs.Readings.{made_name}
use Rattle.qz_roster.proofs.Telling.{placed-length, placed-there}

-- ---- names

names-from : (k : ℕ) (ps : List Person) → map (λ (p : Person). p.name) ps ≡ map (λ (u : User). u.name) (map (λ (u : ℕ × Person). user_with u.0 u.1) (enumerate_from k ps))
names-from k [] = refl
names-from k (p ∷ ps) = ap (λ (ns : List (List ℕ)). p.name ∷ ns) (names-from (k + 1) ps)

named-step : (r : Record) (c : List Record) (o : Option Person) → made_user r ≡ o → filter_map made_name c ≡ map (λ (p : Person). p.name) (filter_map made_user c) → filter_map made_name (r ∷ c) ≡ map (λ (p : Person). p.name) (filter_map made_user (r ∷ c))
named-step r c None is rest = rw is rest
named-step r c (Some p) is rest = rw is (ap (λ (ns : List (List ℕ)). p.name ∷ ns) rest)

named : (c : List Record) → filter_map made_name c ≡ map (λ (p : Person). p.name) (filter_map made_user c)
named [] = refl
named (r ∷ c) = named-step r c (made_user r) refl (named c)

pub names-told : (c : List Record) → filter_map made_name c ≡ map (λ (u : User). u.name) (users c)
names-told c = named c ∙ names-from 1 (filter_map made_user c)

-- ---- the place of a token

abbrev pub makes_with : List ℕ → Record → Bool
makes_with token r = is_made_with token (made_user r)

abbrev users_from : ℕ → List Record → List User
users_from k c = map (λ (u : ℕ × Person). user_with u.0 u.1) (enumerate_from k (filter_map made_user c))

there-step : (token : List ℕ) (k : ℕ) (r : Record) (c : List Record) (o : Option Person) (b : Bool) → made_user r ≡ o → is_made_with token o ≡ b
    → ((n : ℕ) → is_some (first_of (filter (has_token token) (users_from n c))) ≡ is_some (first_of (filter (makes_with token) c)))
    → is_some (first_of (filter (has_token token) (users_from k (r ∷ c)))) ≡ is_some (first_of (filter (makes_with token) (r ∷ c)))
there-step token k r c None b is made rest = rw is (rest k)
there-step token k r c (Some u) true is made rest = rw is (rw made refl)
there-step token k r c (Some u) false is made rest = rw is (rw made (rest (k + 1)))

there-from : (token : List ℕ) (k : ℕ) (c : List Record) → is_some (first_of (filter (has_token token) (users_from k c))) ≡ is_some (first_of (filter (makes_with token) c))
there-from token k [] = refl
there-from token k (r ∷ c) = there-step token k r c (made_user r) (is_made_with token (made_user r)) refl refl (λ n. there-from token n c)

placed-by : {A : Type 0} (n : ℕ) (o : Option A) → is_some o ≡ true → option_map (λ how. n) o ≡ Some n
placed-by n None is = absurd cc
placed-by n (Some x) is = refl

unplaced-by : {A : Type 0} (n : ℕ) (o : Option A) → is_some o ≡ false → option_map (λ how. n) o ≡ None
unplaced-by n None is = refl
unplaced-by n (Some x) is = absurd cc

pub token-nowhere : (c : List Record) (token : List ℕ) → position (makes_with token) c ≡ None → token_place c token ≡ None
token-nowhere c token none = unplaced-by _ (user_of_token c token) (there-from token 1 c ∙ ap is_some (found_nowhere (makes_with token) c none))

pub token-there : (c : List Record) (token : List ℕ) (n : ℕ) → position (makes_with token) c ≡ Some n → token_place c token ≡ Some (n + 1)
token-there c token n found = placed-by _ (user_of_token c token) (there-from token 1 c ∙ placed-there (makes_with token) c n found) ∙ ap Some (placed-length (makes_with token) c n found)
