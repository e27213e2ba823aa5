-- The fields of a record: which values one may have, and what is read of it from the front of some bytes. A number is little
-- endian; a text is its length and its UTF-8, a list its count and its items, an option 0, or 1 and the value, an enum the
-- number of the variant and its fields, a struct its fields.
use Rattle.std.specs.Int.{Width, byte_len, cast_signed, from_le_bytes, w16, w32, w64, w128}
use Rattle.std.specs.List.{list_all}
use Rattle.std.specs.Option.{option_and_then, option_map}
use Rattle.std.specs.Prelude.{◌≡◌, ℕ, zero, suc, ◌*◌, ◌^◌, ◌<◌, ◌≤◌, Bool, true, false, ◌&&◌, if◌then◌else◌, nat_lt, int_le, int_lt, List, [], ◌∷◌, length, take, drop, ℤ, pos, neg_ℤ, Option, Some, None, Result, Ok, Err}
use Rattle.std.specs.Str.{is_utf8}
use Rattle.qz_record.specs.declared.fault.RecordFault.{RecordFault}
use Rattle.qz_record.specs.declared.fault.RecordFault.TheVariants as fault

-- which values have bytes of their own, and what is read where these stand at the front: the value, and the bytes behind it
pub record Field (A : Type 0) : Type 0 where
  pub fits : A → Bool
  pub read : List ℕ → Option (A × List ℕ)

-- what a function that reads says of the bytes before it and behind it; want of memory says nothing
abbrev pub Gives : {A : Type 0} → (List ℕ → Option (A × List ℕ)) → List ℕ → Result A RecordFault → List ℕ → Type 0
Gives read before (Ok x) behind = read before ≡ Some (x, behind)
Gives read before (Err fault.NotOne) behind = read before ≡ None
Gives read before (Err fault.Memory) behind = Unit {0}

-- what a function that writes says of a value with these bytes: they are at least one, and the value fits where they are fewer
-- than 2^32
pub record IsFit (bytes : List ℕ) (test : Bool) : Type 0 where
  pub some : 1 ≤ length bytes
  pub fits : length bytes < 2 ^ 32 → test ≡ true

-- ---- structs

-- a field and one behind it
infixl 20 ◌⊗◌
abbrev pub ◌⊗◌ : {A B : Type 0} → Field A → Field B → Field (A × B)
f ⊗ g = record {
  fits = λ x. f.fits x.0 && g.fits x.1;
  read = λ bytes. option_and_then (λ x. option_map (λ y. ((x.0, y.0), y.1)) (g.read x.1)) (f.read bytes);
}

-- a value made of what is read
abbrev pub built : {A B : Type 0} → (B → A) → Option (B × List ℕ) → Option (A × List ℕ)
built made read = option_map (λ y. (made y.0, y.1)) read

-- the struct that is made of these fields, and has these parts
abbrev pub struct : {A B : Type 0} → (B → A) → (A → B) → Field B → Field A
struct made parts f = record { fits = λ x. f.fits (parts x); read = λ bytes. built made (f.read bytes) }

-- ---- numbers

-- a number below a limit
abbrev pub unsigned : Width → ℕ → Field ℕ
unsigned w limit = record {
  fits = λ n. nat_lt n limit;
  read = λ bytes. if nat_lt (length bytes) (byte_len w) then None else Some (from_le_bytes w (take (byte_len w) bytes), drop (byte_len w) bytes);
}

-- a number from - limit to limit - 1
abbrev pub signed : Width → ℕ → Field ℤ
signed w limit = record {
  fits = λ z. int_le (neg_ℤ (pos limit)) z && int_lt z (pos limit);
  read = λ bytes. built (cast_signed w) ((unsigned w (2 * limit)).read bytes);
}

abbrev pub read_byte : List ℕ → Option (ℕ × List ℕ)
read_byte [] = None
read_byte (n ∷ bytes) = Some (n, bytes)

unfoldable pub u8_field : Field ℕ
u8_field = record { fits = λ n. nat_lt n 256; read = read_byte }

unfoldable pub u16_field : Field ℕ
u16_field = unsigned w16 (2 ^ 16)

unfoldable pub u32_field : Field ℕ
u32_field = unsigned w32 (2 ^ 32)

unfoldable pub u64_field : Field ℕ
u64_field = unsigned w64 (2 ^ 64)

-- marks and fractions
unfoldable pub i64_field : Field ℤ
i64_field = signed w64 (2 ^ 63)

-- grades and decimals
unfoldable pub i128_field : Field ℤ
i128_field = signed w128 (2 ^ 127)

-- ---- texts and lists

-- so many bytes, if they are UTF-8
abbrev pub cut_text : ℕ → List ℕ → Option (List ℕ × List ℕ)
cut_text n bytes = if nat_lt (length bytes) n then None else if is_utf8 (take n bytes) then Some (take n bytes, drop n bytes) else None

unfoldable pub text_field : Field (List ℕ)
text_field = record {
  fits = λ t. nat_lt (length t) (2 ^ 32) && is_utf8 t;
  read = λ bytes. option_and_then (λ n. cut_text n.0 n.1) (u32_field.read bytes);
}

-- so many values, one behind the other
unfoldable pub many : {A : Type 0} → Field A → ℕ → List ℕ → Option (List A × List ℕ)
many f zero bytes = Some ([], bytes)
many f (suc n) bytes = option_and_then (λ x. option_map (λ y. (x.0 ∷ y.0, y.1)) (many f n x.1)) (f.read bytes)

unfoldable pub list_field : {A : Type 0} → Field A → Field (List A)
list_field f = record {
  fits = λ xs. nat_lt (length xs) (2 ^ 32) && list_all f.fits xs;
  read = λ bytes. option_and_then (λ n. many f n.0 n.1) (u32_field.read bytes);
}

-- ---- enums

-- a variant without fields
abbrev pub bare : {A : Type 0} → A → List ℕ → Option (A × List ℕ)
bare x bytes = Some (x, bytes)

-- a variant with fields
abbrev pub holding : {A B : Type 0} → (B → A) → Field B → List ℕ → Option (A × List ℕ)
holding made f bytes = built made (f.read bytes)

abbrev pub by_number : {A : Type 0} → List (List ℕ → Option (A × List ℕ)) → ℕ → List ℕ → Option (A × List ℕ)
by_number [] n bytes = None
by_number (variant ∷ variants) zero bytes = variant bytes
by_number (variant ∷ variants) (suc n) bytes = by_number variants n bytes

-- the number of a variant, and then its fields
abbrev pub one_of : {A : Type 0} → List (List ℕ → Option (A × List ℕ)) → List ℕ → Option (A × List ℕ)
one_of variants [] = None
one_of variants (n ∷ bytes) = by_number variants n bytes

abbrev pub always : {A : Type 0} → A → Bool
always x = true

-- an enum without fields
abbrev pub names : {A : Type 0} → List (List ℕ → Option (A × List ℕ)) → Field A
names variants = record { fits = always; read = one_of variants }

unfoldable pub bool_field : Field Bool
bool_field = names (bare false ∷ bare true ∷ [])

abbrev pub if_some : {A : Type 0} → (A → Bool) → Option A → Bool
if_some fits None = true
if_some fits (Some x) = fits x

unfoldable pub option_field : {A : Type 0} → Field A → Field (Option A)
option_field f = record { fits = if_some f.fits; read = one_of (bare None ∷ holding (λ x. Some x) f ∷ []) }
