-- What the words of a line spell.
use Rattle.std.proofs.Common.{◌≡◌, ℕ, zero, suc, ◌<◌, true, false, ◌==◌, List, [], ◌∷◌, length, Option, Some, None, Ok, Err, Result, Bor, MatchResult, option_copied, refl, ap, arith, lit<}
use Rattle.std.specs.List.{list_all}
use Rattle.std.specs.Result.{result_ok}
use Rattle.std.specs.Str.{IsAscii, IsUtf8, IsValidUpTo, valid_up_to}
use Rattle.std.specs.declared.str.Utf8Error.{Utf8Error}
use Rattle.std.proofs.lemmas.Bool.{and_parts}
use Rattle.std.proofs.lemmas.Bool.Decides.{nat_tests}
use Rattle.std.proofs.lemmas.Str.{IsUtf8-from_ascii}
use Rattle.qz_wire.specs.Numbered.{end_at, line_at as word_at}
use Rattle.qz_wire.specs.declared.words.WordFault.{WordFault}
use Rattle.qz_wire.specs.declared.words.WordFault.TheVariants as fault
use Rattle.qz_wire.specs.Words.{FailsAt, IsCutAt, attempt_of, is_token, is_token_byte, token_of, words_after}
use Rattle.qz_wire.proofs.PartLemmas.{some_part}

-- a word too many
pub not-end : {A : Type 0} (place : ℕ) (x : A) (rest : List ℕ) → (length rest == 0) ≡ false → end_at place x (words_after rest) ≡ Err place
not-end place x [] some = absurd cc
not-end place x (b ∷ bs) some = rw (some_part 32 bs).2 refl

-- an attempt has two parts
pub three_parts : (word user rest nth more : List ℕ) → IsCutAt 46 word user rest → IsCutAt 46 rest nth more → attempt_of word ≡ None
three_parts word user rest nth more first second = rw (first.parts, second.parts, (some_part 46 more).2) refl

-- a word that is of its form is read so
pub word_at-reads : {A : Type 0} (reading : List ℕ → Option A) (place : ℕ) (words : List (List ℕ)) (word : List ℕ) (rest : List (List ℕ)) (x : A) → word_at (λ w. Some w) place words ≡ Ok (word, rest) → Some x ≡ reading word → word_at reading place words ≡ Ok (x, rest)
word_at-reads reading place [] word rest x there is = absurd cc
word_at-reads reading place (w ∷ ws) word rest x there is =
    let both : ◌≡◌ {A = List ℕ × List (List ℕ)} (w, ws) (word, rest) = cc in
    let same : w ≡ word = ap (λ (p : List ℕ × List (List ℕ)). p.0) both in
    let behind : ws ≡ rest = ap (λ (p : List ℕ × List (List ℕ)). p.1) both in
    rw (same, ← is, behind) refl

-- and one that isn't is told
pub word_at-none : {A : Type 0} (reading : List ℕ → Option A) (place : ℕ) (words : List (List ℕ)) (word : List ℕ) (rest : List (List ℕ)) → word_at (λ w. Some w) place words ≡ Ok (word, rest) → None ≡ reading word → word_at reading place words ≡ Err place
word_at-none reading place [] word rest there is = absurd cc
word_at-none reading place (w ∷ ws) word rest there is =
    let both : ◌≡◌ {A = List ℕ × List (List ℕ)} (w, ws) (word, rest) = cc in
    let same : w ≡ word = ap (λ (p : List ℕ × List (List ℕ)). p.0) both in
    rw (same, ← is) refl

-- a word too many is told whatever stood before it
pub end-fails : {A : Type 0} (place : ℕ) (x : A) (words : List (List ℕ)) (f : WordFault) → FailsAt f (end_at place (tt {0}) words) → FailsAt f (end_at place x words)
end-fails place x words fault.Memory fails = tt
end-fails place x [] (fault.Malformed n) fails = absurd cc
end-fails place x (word ∷ words) (fault.Malformed n) fails = cc

-- ---- tokens are ASCII

token_byte-ascii : (b : ℕ) → is_token_byte b ≡ true → b < 128
token_byte-ascii b h = grind (arith, nat_tests)

pub token_bytes-ascii : (word : List ℕ) → list_all is_token_byte word ≡ true → IsAscii word
token_bytes-ascii [] all i = lit< tt
token_bytes-ascii (b ∷ bs) all zero = token_byte-ascii b (and_parts _ _ all).0
token_bytes-ascii (b ∷ bs) all (suc i) = token_bytes-ascii bs (and_parts _ _ all).1 i

token-utf8 : (word : List ℕ) → is_token word ≡ true → IsUtf8 word
token-utf8 word token = IsUtf8-from_ascii word (token_bytes-ascii word (and_parts _ _ (and_parts _ _ (and_parts _ _ token).1).1).0)

pub token_text : (word : List ℕ) (r : Result (Bor (List ℕ)) Utf8Error) → is_token word ≡ true → MatchResult r (λ s. (s.now ≡ word) × IsUtf8 word) (λ e. ¬ (IsUtf8 word) × IsValidUpTo word (valid_up_to e)) → option_copied (result_ok r) ≡ token_of word
token_text word (Ok s) token is = rw token (ap (λ (t : List ℕ). Some t) is.0)
token_text word (Err e) token other = absurd (other.0 (token-utf8 word token))
