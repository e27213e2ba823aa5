-- What the fields of a head say.
use Rattle.std.specs.Prelude.{ℕ, ◌==◌, Bool, true, ◌&&◌, List, [], ◌∷◌, length, map, filter_map, Option, Some, None, unwrap_or, bytes_eq, nat_lt, nat_le, if◌then◌else◌, codes}
use Rattle.std.specs.List.{list_any}
use Rattle.std.specs.Char.{to_ascii_lowercase}
use Rattle.std.specs.Str.{all_ascii_digits}
use Rattle.std.specs.Str.Parse.{digits_value}
use Rattle.httparse.specs.Grammar.{RequestHead}
use Rattle.httparse.specs.Spans.{name_and_value}

-- each field's name, and its value without the white space around it
abbrev pub fields_of : RequestHead → List (List ℕ × List ℕ)
fields_of h = map name_and_value h.fields

-- in any ASCII case
abbrev pub is_same_word : List ℕ → List ℕ → Bool
is_same_word a b = bytes_eq (map to_ascii_lowercase a) (map to_ascii_lowercase b)

abbrev pub value_if : List ℕ → List ℕ × List ℕ → Option (List ℕ)
value_if name field = if is_same_word field.0 name then Some field.1 else None

-- the values of the fields with this name, in order
abbrev pub values : List ℕ → List (List ℕ × List ℕ) → List (List ℕ)
values name fields = filter_map (value_if name) fields

-- a number of 1 to 10 digits
abbrev pub size_of : List ℕ → Option ℕ
size_of value = if nat_le 1 (length value) && (nat_le (length value) 10 && all_ascii_digits value) then Some (digits_value 10 value) else None

abbrev pub most_fields : ℕ
most_fields = 64

abbrev pub most_body : ℕ
most_body = 1048576

-- ---- the status of a head that is refused

abbrev pub size_fault : Option ℕ → Option ℕ
size_fault None = Some 400
size_fault (Some size) = if nat_lt most_body size then Some 413 else None

-- by the method and the values of `Content-Length`
abbrev pub length_fault : List ℕ → List (List ℕ) → Option ℕ
length_fault method [] = if bytes_eq method (codes "POST") then Some 411 else None
length_fault method (value ∷ []) = size_fault (size_of value)
length_fault method (value ∷ other ∷ more) = Some 400

-- by the values of `Transfer-Encoding`
abbrev pub coding_fault : List (List ℕ) → Option ℕ → Option ℕ
coding_fault [] fault = fault
coding_fault (value ∷ more) fault = Some 501

-- too many fields, a transfer coding, then the length of the body
abbrev pub fault_of : List ℕ → List (List ℕ × List ℕ) → Option ℕ
fault_of method fields =
    if nat_lt most_fields (length fields) then Some 431
    else coding_fault (values (codes "transfer-encoding") fields) (length_fault method (values (codes "content-length") fields))

-- ---- a head that isn't

-- the length of the body, which is empty where none is told
abbrev pub body_by : List (List ℕ) → ℕ
body_by [] = 0
body_by (value ∷ more) = unwrap_or (size_of value) 0

abbrev pub body_of : List (List ℕ × List ℕ) → ℕ
body_of fields = body_by (values (codes "content-length") fields)

-- version 1.0, or some `Connection` whose whole value is `close`
abbrev pub closes : ℕ → List (List ℕ × List ℕ) → Bool
closes minor fields = if minor == 0 then true else list_any (λ value. is_same_word value (codes "close")) (values (codes "connection") fields)

-- what the first `Authorization` says, if there is one
abbrev pub authorization_by : List (List ℕ) → Option (List ℕ)
authorization_by [] = None
authorization_by (value ∷ more) = Some value

abbrev pub authorization_of : List (List ℕ × List ℕ) → Option (List ℕ)
authorization_of fields = authorization_by (values (codes "authorization") fields)
