-- What the bytes of a body are read as, and that what is read can be asked.
use Rattle.std.proofs.Common.{◌≡◌, ℕ, Bool, true, false, List, Option, Some, None, Ok, Err, cond, is_none, is_some, not, refl}
use Rattle.std.specs.Prelude.{IfSome}
use Rattle.std.specs.Str.{IsUtf8, is_utf8}
use Rattle.std.proofs.lemmas.Str.{IsUtf8-from_is_utf8, is_utf8-from_IsUtf8}
use Rattle.serde_json.specs.Data.{Data}
use Rattle.serde_json.specs.Read.{read}
use Rattle.qz_terms.specs.declared.ask.Ask.{Ask}
use Rattle.qz_wire.specs.declared.verbs.Verb.{Verb}
use Rattle.qz_wire.specs.Asking.{IsOfVerb, takes_key, wants_key}
use Rattle.qz_wire.specs.Brief.{IsBriefToken}
use Rattle.qz_wire.specs.Faults.{at_word}
use Rattle.qz_wire.specs.Numbered.{or_line as or_word}
use Rattle.qz_json.specs.Bodies.{CanBeAsked, data_of}

pub is-data : (bytes : List ℕ) (d : Data) → IsUtf8 bytes × (read bytes ≡ Some d) → at_word (or_word 0 (data_of bytes)) ≡ Ok d
is-data bytes d is = rw (is_utf8-from_IsUtf8 bytes is.0, is.1) refl

pub no-data : (bytes : List ℕ) → (IsUtf8 bytes → read bytes ≡ None) → at_word (or_word 0 (data_of bytes)) ≡ Err (record { place = 0; rule = 0 })
no-data bytes none = by (is_utf8 bytes) refl
  where
    by : (b : Bool) → is_utf8 bytes ≡ b → at_word (or_word 0 (data_of bytes)) ≡ Err (record { place = 0; rule = 0 })
    by true text = rw (text, none (IsUtf8-from_is_utf8 bytes text)) refl
    by false other = rw other refl

-- ---- what can be asked

keyed-by : (wants : Bool) (key : Option (List ℕ)) → cond wants (is_some key) (is_none key) ≡ true → cond (not wants) (is_none key) (is_some key) ≡ true
keyed-by true key takes = takes
keyed-by false key takes = takes

pub can-be-asked : (v : Verb) (ask : Ask) → IsOfVerb v ask.request → takes_key v ask.key ≡ true → IfSome ask.key IsBriefToken → CanBeAsked ask
can-be-asked v ask request takes brief = record {
  keyed = rw request.keyless (keyed-by (wants_key v) ask.key takes);
  kept = request.kept;
  described = request.described;
  brief = λ by. record { caller = by; key = brief; names = request.brief };
}
