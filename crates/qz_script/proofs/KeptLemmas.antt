-- What is kept of a line.
use Rattle.std.proofs.Common.{◌≡◌, ℕ, ◌<◌, ◌≤◌, Bool, true, false, List, ◌++◌, length, Ok, Err, Result, Bor, MatchResult, is_ok, refl, sym, length-append, arith}
use Rattle.std.specs.Prelude.{nat_lt}
use Rattle.std.specs.Str.{IsUtf8, IsValidUpTo, is_utf8, valid_up_to}
use Rattle.std.specs.declared.str.Utf8Error.{Utf8Error}
use Rattle.std.proofs.lemmas.Bool.Decides.{nat_tests}
use Rattle.std.proofs.lemmas.Str.{IsUtf8-from_is_utf8, is_utf8-from_IsUtf8}
use Rattle.qz_script.specs.declared.script_line.ScriptLine.TheVariants as script
use Rattle.qz_script.specs.ScriptLines.{kept, line_limit, with_piece}

pub kept-long : (text : List ℕ) → line_limit < length text → kept text ≡ script.TooLong
kept-long text long = let test : nat_lt line_limit (length text) ≡ true = grind (arith, nat_tests) in rw test refl

pub kept-short : (text : List ℕ) → length text ≤ line_limit → kept text ≡ script.Kept text
kept-short text short = let test : nat_lt line_limit (length text) ≡ false = grind (arith, nat_tests) in rw test refl

-- a piece behind the front of a line
pub kept-piece : (front piece : List ℕ) → with_piece (kept front) piece ≡ kept (front ++ piece)
kept-piece front piece = by (nat_lt line_limit (length front)) refl
  where
    by : (b : Bool) → nat_lt line_limit (length front) ≡ b → with_piece (kept front) piece ≡ kept (front ++ piece)
    by true long =
        let past : line_limit < length front = grind (arith, nat_tests) in
        rw (kept-long front past) (sym (kept-long (front ++ piece) (omega (arith, length-append front piece))))
    by false short = rw short refl

pub utf8_test : (bytes : List ℕ) (r : Result (Bor (List ℕ)) Utf8Error) → MatchResult r (λ s. (s.now ≡ bytes) × IsUtf8 bytes) (λ e. ¬ (IsUtf8 bytes) × IsValidUpTo bytes (valid_up_to e)) → is_ok r ≡ is_utf8 bytes
utf8_test bytes (Ok s) is = sym (is_utf8-from_IsUtf8 bytes is.1)
utf8_test bytes (Err e) other = by (is_utf8 bytes) refl
  where
    by : (b : Bool) → is_utf8 bytes ≡ b → false ≡ is_utf8 bytes
    by true text = absurd (other.0 (IsUtf8-from_is_utf8 bytes text))
    by false none = sym none
