-- What a typed text is read as.
use Rattle.std.proofs.Common.{◌≡◌, ℕ, ◌≤◌, Bool, true, false, List, length, Some, None, refl, sym, ap, subst, arith}
use Rattle.std.specs.Prelude.{nat_le}
use Rattle.std.specs.Str.{IsUtf8, is_utf8}
use Rattle.std.proofs.lemmas.Bool.Decides.{nat_tests}
use Rattle.std.proofs.lemmas.Str.{IsUtf8-from_is_utf8, is_utf8-from_IsUtf8}
use Rattle.qz_grading.specs.declared.response.Answer.TheVariants as answer
use Rattle.qz_wire.specs.Answers.{typed_of}
use Rattle.qz_wire.specs.Words.{unescaped, utf8_of}

module _ (word bytes slice : List ℕ) (there : Some bytes ≡ unescaped word) (same : slice ≡ bytes) where
  pub is-typed : (text typed : List ℕ) → (text ≡ slice) × IsUtf8 slice → typed ≡ text → length slice ≤ 65536 → Some (answer.Words typed) ≡ typed_of word
  is-typed text typed is given short =
      let utf8 : is_utf8 bytes ≡ true = is_utf8-from_IsUtf8 bytes (subst IsUtf8 same is.1) in
      let few : length bytes ≤ 65536 = omega (arith, short, ap length same) in
      let test : nat_le (length bytes) 65536 ≡ true = grind (arith, nat_tests) in
      rw (← there, utf8, test, given, is.0, same) refl

  pub is-no-text : ¬ IsUtf8 slice → None ≡ typed_of word
  is-no-text other = by (is_utf8 bytes) refl
    where
      by : (b : Bool) → is_utf8 bytes ≡ b → None ≡ typed_of word
      by true text = absurd (other (subst IsUtf8 (sym same) (IsUtf8-from_is_utf8 bytes text)))
      by false none = rw (← there, none) refl

-- ---- texts

pub utf8-text : (bytes text made : List ℕ) → (text ≡ bytes) × IsUtf8 bytes → made ≡ text → Some made ≡ utf8_of bytes
utf8-text bytes text made is given = rw (is_utf8-from_IsUtf8 bytes is.1, given, is.0) refl

pub no-utf8 : (bytes : List ℕ) → ¬ IsUtf8 bytes → None ≡ utf8_of bytes
no-utf8 bytes other = by (is_utf8 bytes) refl
  where
    by : (b : Bool) → is_utf8 bytes ≡ b → None ≡ utf8_of bytes
    by true text = absurd (other (IsUtf8-from_is_utf8 bytes text))
    by false none = rw none refl
