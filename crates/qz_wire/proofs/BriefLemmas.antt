-- What is read as a token, a key or a name is no longer than it may be.
use Rattle.std.proofs.Common.{◌≡◌, ℕ, ◌≤◌, Bool, true, false, List, length, Option, Some, None, cond, refl, subst, sym}
use Rattle.std.specs.Prelude.{IfSome, option_and_then}
use Rattle.std.proofs.lemmas.Bool.{and_parts, leb-true}
use Rattle.qz_wire.specs.BankWords.{is_name, name_of}
use Rattle.qz_wire.specs.Brief.{IsBriefToken}
use Rattle.qz_wire.specs.Words.{is_token, text_of, token_of, utf8_of}

abbrev IsShort : List ℕ → Type 0
IsShort name = length name ≤ 255

token-by : (word : List ℕ) (is : Bool) → is_token word ≡ is → IfSome (cond is (Some word) None) IsBriefToken
token-by word true is =
    let lengths = and_parts _ _ (and_parts _ _ is).1 in
    (leb-true 1 (length word) (and_parts _ _ is).0, leb-true (length word) 64 lengths.0)
token-by word false is = tt

pub brief-token : (word : List ℕ) → IfSome (token_of word) IsBriefToken
brief-token word = token-by word (is_token word) refl

utf8-by : (text : List ℕ) (utf8 : Bool) → IsShort text → IfSome (cond utf8 (Some text) None) IsShort
utf8-by text true short = short
utf8-by text false short = tt

name-by : (text : List ℕ) (is : Bool) → is_name text ≡ is → IfSome (cond is (utf8_of text) None) IsShort
name-by text true is = utf8-by text _ (leb-true (length text) 255 (and_parts _ _ (and_parts _ _ is).1).0)
name-by text false is = tt

text-by : (text : Option (List ℕ)) → IfSome (option_and_then (λ t. cond (is_name t) (utf8_of t) None) text) IsShort
text-by (Some text) = name-by text (is_name text) refl
text-by None = tt

-- the name that a word spells
pub brief-name : (word name : List ℕ) → Some name ≡ name_of word → length name ≤ 255
brief-name word name is = subst (λ (n : Option (List ℕ)). IfSome n IsShort) (sym is) (text-by (text_of word))
