-- Users by token, and the places of their keys.
use Rattle.std.specs.Prelude.{◌≡◌, ℕ, ◌<◌, ◌≤◌, true, List, length, position, slice_get, is_some, Option, Some, None, option_map, option_and_then, filter_map, vec_len, vec_capacity, Bool, not, ◌&&◌, ◌||◌, ◌==◌, if◌then◌else◌}
use Rattle.qz_grading.specs.Grading.{at_place, is_place}
use Rattle.qz_terms.specs.declared.people.User.{User}
use Rattle.qz_terms.specs.declared.record.Record.{Record}
use Rattle.qz_terms.specs.declared.people.Role.{Role}
use Rattle.qz_terms.specs.Catalog.{Person, asked, is_made_with, made_user, user_of_token, user_with}
use Rattle.qz_terms.specs.Cause.{has_key_by}
use Rattle.qz_roster.specs.declared.people.Owner.{Owner}
use Rattle.qz_roster.specs.declared.people.People.{People}
use Rattle.qz_roster.specs.Texts.{has_room, value_at}

-- the key under which a request made a record, if it has one: a founding may have any, and no request made it
abbrev pub asked_key : Record → Option (List ℕ)
asked_key r = if is_some (asked r) then r.key else None

-- a request with this caller and key made it
abbrev pub is_asked_with : ℕ → List ℕ → Record → Bool
is_asked_with caller key r = (r.caller == caller) && has_key_by key (asked_key r)

-- the role of the user that a record makes
abbrev pub role_told : Record → Option Role
role_told r = option_map (λ (p : Person). p.role) (made_user r)

-- the place that stands under a caller's key
abbrev pub key_at : People → ℕ → List ℕ → Option ℕ
key_at p caller key = option_and_then (λ m. value_at m key) (at_place p.keys.items caller)

-- whose token it is
abbrev pub owner_of : People → List ℕ → Option Owner
owner_of p token = value_at p.tokens token

-- a user's role
abbrev pub role_of : People → ℕ → Option Role
role_of p number = at_place p.roles.items number

-- the user whom the record at this place made, with this number
abbrev pub user_at : List Record → Owner → Option User
user_at c o = option_and_then (λ r. option_map (user_with o.number) (made_user r)) (slice_get c o.at)

-- These are the users that the records tell, and their keys.
pub record ArePeopleOf (c : List Record) (p : People) : Type 0 where
  pub count : length p.keys.items ≡ length (filter_map made_user c)
  pub roles : p.roles.items ≡ filter_map role_told c
  pub keys : (caller : ℕ) (key : List ℕ) → key_at p caller key ≡ position (is_asked_with caller key) c
  pub places : (token : List ℕ) → option_map (λ (o : Owner). o.at) (owner_of p token) ≡ position (λ r. is_made_with token (made_user r)) c
  pub owners : (token : List ℕ) → user_of_token c token ≡ option_and_then (user_at c) (owner_of p token)

-- ---- room for one more record

-- the caller is one of these users, and the key has room
pub record HasKeyRoom (p : People) (caller : ℕ) (key : List ℕ) : Type 0 where
  pub from : 1 ≤ caller
  pub inside : caller ≤ length p.keys.items
  pub room : option_map (λ m. has_room m key) (at_place p.keys.items caller) ≡ Some true

pub record HasUserRoom (p : People) (token : List ℕ) : Type 0 where
  pub keys : vec_len p.keys < vec_capacity p.keys
  pub room : has_room p.tokens token ≡ true

pub record HasPeopleRoom (p : People) (r : Record) : Type 0 where
  pub user : (token : List ℕ) → option_map (λ (u : Person). u.token) (made_user r) ≡ Some token → HasUserRoom p token
  pub key : (key : List ℕ) → asked_key r ≡ Some key → HasKeyRoom p r.caller key
  pub role : vec_len p.roles < vec_capacity p.roles

-- a record that a request with a key made has a user as its caller
abbrev pub is_called : ℕ → Record → Bool
is_called count r = not (is_some (asked_key r)) || is_place count r.caller

-- ---- one more record

abbrev pub key_told : Record → ℕ → ℕ → List ℕ → Option ℕ
key_told r at caller key = if is_asked_with caller key r then Some at else None

abbrev pub owner_told : Record → ℕ → ℕ → List ℕ → Option Owner
owner_told r number at token = if is_made_with token (made_user r) then Some (record { number = number; at = at }) else None
