-- Users and keys with one record more.
use Rattle.std.proofs.Common.{◌≡◌, ℕ, map, ◌+◌, ◌<◌, Bool, true, false, List, [], ◌∷◌, ◌++◌, Option, Some, None, option_map, length, get_or, inl, inr, ◌-◌, ◌≤◌, String, Global, BTreeMap, string_bytes, refl, sym, ap, ◌∙◌, arith}
use Rattle.std.specs.Int.{from_bool}
use Rattle.std.specs.List.{enumerate_from}
use Rattle.std.specs.Option.{option_or}
use Rattle.std.specs.BTreeMap.{is_at}
use Rattle.std.specs.Cmp.Lexicographic.{slice_cmp}
use Rattle.std.specs.Map.{lookup}
use Rattle.std.specs.Ordering.{nat_cmp}
use Rattle.std.specs.Prelude.{◌==◌, ◌&&◌, bytes_eq, filter_map, if◌then◌else◌, is_some, option_and_then, option_to_list, position, slice_get}
use Rattle.std.proofs.Math.ListN.{set}
use Rattle.std.proofs.lemmas.List.Quantifiers.{position-Some}
use Rattle.std.proofs.lemmas.Option.{get_or_from_slice_get, slice_get_cases}
use Rattle.qz_lemmas.proofs.Lists.{get-kept, position-push}
use Rattle.qz_grading.specs.Grading.{at_place}
use Rattle.qz_grading.proofs.StepLemmas.{slice_get-push}
use Rattle.qz_terms.specs.declared.people.Role.{Role}
use Rattle.qz_terms.specs.declared.people.User.{User}
use Rattle.qz_terms.specs.declared.record.Record.{Record}
use Rattle.qz_terms.specs.Catalog.{Person, has_token, is_made_with, made_user, user_of_token, user_with, users}
use Rattle.qz_terms.specs.Cause.{has_key_by}
use Rattle.qz_terms.specs.Lists.{only_if}
use Rattle.qz_terms.proofs.Walks.{all_of-push}
use Rattle.qz_roster.specs.declared.people.Owner.{Owner}
use Rattle.qz_roster.specs.declared.people.People.{People}
use Rattle.qz_roster.specs.People.{ArePeopleOf, asked_key, is_asked_with, key_at, key_told, owner_of, owner_told, role_of, role_told, user_at}
use Rattle.qz_roster.specs.Texts.{value_at}
use Rattle.qz_roster.proofs.Reading.{set-told, user_of_token-push}
use Rattle.qz_roster.proofs.QuizLemmas.{at-map}
use Rattle.qz_roster.proofs.Telling.{at-more, count-more}

abbrev makes_with : List ℕ → Record → Bool
makes_with token r = is_made_with token (made_user r)

-- ---- the user of a token, by its place

pub place-inside : (c : List Record) (token : List ℕ) (n : ℕ) → Some n ≡ position (makes_with token) c → n < length c
place-inside c token n is = inside-by c token n (λ r. r) is
  where
    inside-by : (c : List Record) (token : List ℕ) (n : ℕ) → (Record → Record) → Some n ≡ position (makes_with token) c → n < length c
    inside-by [] token n f is = absurd cc
    inside-by (r ∷ c) token n f is = (position-Some (makes_with token) (r ∷ c) n r (sym is)).0

-- one record more changes no user that was made
user-kept : (c : List Record) (r : Record) (token : List ℕ) (o : Option Owner) → option_map (λ (x : Owner). x.at) o ≡ position (makes_with token) c → option_and_then (user_at (c ++ r ∷ [])) o ≡ option_and_then (user_at c) o
user-kept c r token None is = refl
user-kept c r token (Some o) is = ap (option_and_then (λ (s : Record). option_map (user_with o.number) (made_user s))) (get-kept c r o.at (place-inside c token o.at is))

-- whom one record makes, by its place
user-new-by : (c : List Record) (r : Record) (token : List ℕ) (n : ℕ) (p : Option Person) (b : Bool) → made_user r ≡ p → is_made_with token p ≡ b
    → option_and_then (only_if (has_token token)) (option_map (user_with n) p) ≡ option_and_then (user_at (c ++ r ∷ [])) (if b then Some (record { number = n; at = length c }) else None)
user-new-by c r token n None true is made = absurd cc
user-new-by c r token n None false is made = refl
user-new-by c r token n (Some p) true is made =
    let here : user_at (c ++ r ∷ []) (record { number = n; at = length c }) ≡ Some (user_with n p) = ap (option_and_then (λ (s : Record). option_map (user_with n) (made_user s))) (slice_get-push c r) ∙ ap (option_map (user_with n)) is in
    rw made (sym here)
user-new-by c r token n (Some p) false is made = rw made refl

first-stays : (x y u : Option User) → x ≡ u → is_some u ≡ true → option_or x y ≡ u
first-stays x y None is there = absurd cc
first-stays x y (Some u) is there = rw is refl

either-user : (c : List Record) (a b : Option Owner) (x y : Option User) → x ≡ option_and_then (user_at c) a → y ≡ option_and_then (user_at c) b → ((o : Owner) → a ≡ Some o → is_some (user_at c o) ≡ true) → option_or x y ≡ option_and_then (user_at c) (option_or a b)
either-user c None b x y one two some = rw one two
either-user c (Some o) b x y one two some = first-stays x y (user_at c o) one (some o refl)

-- the record at the place of a token makes a user
made-by : (c : List Record) (token : List ℕ) (o : Owner) (r : Record) (p : Option Person) → slice_get c o.at ≡ Some r → made_user r ≡ p → is_made_with token p ≡ true → is_some (user_at c o) ≡ true
made-by c token o r None at is made = absurd cc
made-by c token o r (Some p) at is made = ap (λ (s : Option Record). is_some (option_and_then (λ (t : Record). option_map (user_with o.number) (made_user t)) s)) at ∙ ap (λ (q : Option Person). is_some (option_map (user_with o.number) q)) is

made-at : (c : List Record) (token : List ℕ) (o : Owner) (s : Option Record) → slice_get c o.at ≡ s → Some o.at ≡ position (makes_with token) c → is_some (user_at c o) ≡ true
made-at c token o None at is = let inside = place-inside c token o.at is in elim (slice_get_cases c o.at).1 [ inl w ↦ absurd cc | inr w ↦ absurd (omega arith) ]
made-at c token o (Some r) at is =
    let passes = (position-Some (makes_with token) c o.at r (sym is)).1 in
    made-by c token o r (made_user r) at refl (ap (makes_with token) (sym (get_or_from_slice_get c o.at r r at)) ∙ passes)

-- ---- keys

told-by : (caller n at : ℕ) (key k : List ℕ) (o : Option (List ℕ)) (b : Bool) → (caller == n) ≡ b → o ≡ Some key → (if b then (if bytes_eq key k then Some at else None) else None) ≡ (if b && has_key_by k o then Some at else None)
told-by caller n at key k o true is key_is = ap (λ (p : Option (List ℕ)). if has_key_by k p then Some at else None) (sym key_is)
told-by caller n at key k o false is key_is = refl

pub told-key : (r : Record) (n at : ℕ) (key k : List ℕ) → asked_key r ≡ Some key → (if r.caller == n then (if bytes_eq key k then Some at else None) else None) ≡ key_told r at n k
told-key r n at key k is = told-by r.caller n at key k (asked_key r) (r.caller == n) refl is

-- a record with this key tells of it
pub key-set : (ms : List (BTreeMap (String Global) (Option ℕ))) (r : Record) (n at : ℕ) (key k : List ℕ) (old new : BTreeMap (String Global) (Option ℕ)) → asked_key r ≡ Some key → 1 ≤ r.caller → r.caller ≤ length ms → old ≡ get_or ms (r.caller - 1) old
    → value_at new k ≡ option_or (value_at old k) (if bytes_eq key k then Some at else None)
    → option_and_then (λ (m : BTreeMap (String Global) (Option ℕ)). value_at m k) (at_place (set ms (r.caller - 1) new) n) ≡ option_or (option_and_then (λ (m : BTreeMap (String Global) (Option ℕ)). value_at m k) (at_place ms n)) (key_told r at n k)
key-set ms r n at key k old new is from inside old_is told =
    let place : r.caller - 1 + 1 ≡ r.caller = omega arith in
    set-told (λ (m : BTreeMap (String Global) (Option ℕ)). value_at m k) ms (r.caller - 1) n old new _ (omega arith) old_is told
    ∙ ap (λ i. option_or (option_and_then (λ (m : BTreeMap (String Global) (Option ℕ)). value_at m k) (at_place ms n)) (if i == n then (if bytes_eq key k then Some at else None) else None)) place
    ∙ ap (option_or (option_and_then (λ (m : BTreeMap (String Global) (Option ℕ)). value_at m k) (at_place ms n))) (told-key r n at key k is)

-- a user without keys tells of none
pub key-empty : (ms : List (BTreeMap (String Global) (Option ℕ))) (m : BTreeMap (String Global) (Option ℕ)) (n : ℕ) (k : List ℕ) → m.entries ≡ []
    → option_and_then (λ (x : BTreeMap (String Global) (Option ℕ)). value_at x k) (at_place (ms ++ m ∷ []) n) ≡ option_and_then (λ (x : BTreeMap (String Global) (Option ℕ)). value_at x k) (at_place ms n)
key-empty ms m n k none = ap (option_and_then (λ (x : BTreeMap (String Global) (Option ℕ)). value_at x k)) (at-more ms (Some m) n) ∙ by (at_place ms n) (length ms + 1 == n)
  where
    empty : value_at m k ≡ None
    empty = ap (λ (es : List (String Global × Option ℕ)). option_and_then (λ (v : Option ℕ). v) (lookup (is_at (λ s. slice_cmp nat_cmp k (string_bytes s))) es)) none

    by : (o : Option (BTreeMap (String Global) (Option ℕ))) (b : Bool) → option_and_then (λ (x : BTreeMap (String Global) (Option ℕ)). value_at x k) (option_or o (if b then Some m else None)) ≡ option_and_then (λ (x : BTreeMap (String Global) (Option ℕ)). value_at x k) o
    by (Some x) b = refl
    by None true = empty
    by None false = refl

-- ---- roles

role-step : (r : Record) (c : List Record) (k : ℕ) (o : Option Person) → made_user r ≡ o
    → ((k : ℕ) → map (λ (u : User). u.role) (map (λ (m : ℕ × Person). user_with m.0 m.1) (enumerate_from k (filter_map made_user c))) ≡ filter_map role_told c)
    → map (λ (u : User). u.role) (map (λ (m : ℕ × Person). user_with m.0 m.1) (enumerate_from k (filter_map made_user (r ∷ c)))) ≡ filter_map role_told (r ∷ c)
role-step r c k None is rest = rw is (rest k)
role-step r c k (Some p) is rest = rw is (ap (λ (rs : List Role). p.role ∷ rs) (rest (k + 1)))

roles-numbered : (c : List Record) (k : ℕ) → map (λ (u : User). u.role) (map (λ (m : ℕ × Person). user_with m.0 m.1) (enumerate_from k (filter_map made_user c))) ≡ filter_map role_told c
roles-numbered [] k = refl
roles-numbered (r ∷ c) k = role-step r c k (made_user r) refl (roles-numbered c)

-- the role of a user, by number
pub role-at : (c : List Record) (p : People) (n : ℕ) → ArePeopleOf c p → role_of p n ≡ option_map (λ (u : User). u.role) (at_place (users c) n)
role-at c p n are = ap (λ (rs : List Role). at_place rs n) (are.roles ∙ sym (roles-numbered c 1)) ∙ at-map (λ (u : User). u.role) (users c) n

-- ---- all of it

-- what is told by place, of one record more
place-either : (n at : ℕ) (a : Option Owner) (b : Bool) → option_map (λ (o : Owner). o.at) (option_or a (if b then Some (record { number = n; at = at }) else None)) ≡ option_or (option_map (λ (o : Owner). o.at) a) (if b then Some at else None)
place-either n at None true = refl
place-either n at None false = refl
place-either n at (Some o) b = refl

pub people-kept : (c : List Record) (r : Record) (old new : People) → ArePeopleOf c old → length new.keys.items ≡ length old.keys.items + from_bool (is_some (made_user r))
    → ((n : ℕ) (k : List ℕ) → key_at new n k ≡ option_or (key_at old n k) (key_told r (length c) n k))
    → ((t : List ℕ) → owner_of new t ≡ option_or (owner_of old t) (owner_told r (1 + length old.keys.items) (length c) t))
    → new.roles.items ≡ old.roles.items ++ option_to_list (role_told r)
    → ArePeopleOf (c ++ r ∷ []) new
people-kept c r old new are count keys tokens roles = record {
  roles = roles ∙ ap (λ (rs : List Role). rs ++ option_to_list (role_told r)) are.roles ∙ sym (all_of-push role_told c r);
  count = count ∙ ap (λ n. n + from_bool (is_some (made_user r))) are.count ∙ sym (count-more (filter_map made_user c) (made_user r)) ∙ ap (λ (ps : List Person). length ps) (sym (all_of-push made_user c r));
  keys = λ n k. keys n k ∙ ap (λ (o : Option ℕ). option_or o (key_told r (length c) n k)) (are.keys n k) ∙ sym (position-push (is_asked_with n k) c r);
  places = λ t. ap (option_map (λ (o : Owner). o.at)) (tokens t) ∙ place-either (1 + length old.keys.items) (length c) (owner_of old t) (is_made_with t (made_user r))
      ∙ ap (λ (o : Option ℕ). option_or o (if is_made_with t (made_user r) then Some (length c) else None)) (are.places t) ∙ sym (position-push (makes_with t) c r);
  owners = λ t.
      let next : 1 + length (filter_map made_user c) ≡ 1 + length old.keys.items = ap (λ n. 1 + n) (sym are.count) in
      user_of_token-push c r t
      ∙ ap (λ n. option_or (user_of_token c t) (option_and_then (only_if (has_token t)) (option_map (user_with n) (made_user r)))) next
      ∙ either-user (c ++ r ∷ []) (owner_of old t) (owner_told r (1 + length old.keys.items) (length c) t) (user_of_token c t) _ (are.owners t ∙ sym (user-kept c r t (owner_of old t) (are.places t)))
      (user-new-by c r t (1 + length old.keys.items) (made_user r) (is_made_with t (made_user r)) refl refl)
      (λ o is. ap is_some (kept-one c r t o (sym (ap (option_map (λ (x : Owner). x.at)) is) ∙ are.places t)) ∙ made-at c t o (slice_get c o.at) refl (sym (ap (option_map (λ (x : Owner). x.at)) is) ∙ are.places t))
      ∙ ap (option_and_then (user_at (c ++ r ∷ []))) (sym (tokens t));
}
  where
    kept-one : (c : List Record) (r : Record) (t : List ℕ) (o : Owner) → Some o.at ≡ position (makes_with t) c → user_at (c ++ r ∷ []) o ≡ user_at c o
    kept-one c r t o is = user-kept c r t (Some o) is
