-- What the body of a request asks.
use Rattle.std.specs.Prelude.{◌≡◌, ℕ, Bool, true, false, List, Option, Some, None, option_map, option_and_then, Result, codes}
use Rattle.serde_json.specs.Data.{Data}
use Rattle.serde_json.specs.Find.{get, as_object, as_str}
use Rattle.serde_json.specs.Read.{read}
use Rattle.qz_terms.specs.declared.ask.Ask.{Ask}
use Rattle.qz_terms.specs.declared.people.Caller.{Caller}
use Rattle.qz_terms.specs.Cause.{is_keyed}
use Rattle.qz_terms.specs.Kept.{KeepsAsked, asks_described}
use Rattle.qz_wire.specs.declared.verbs.Verb.{Verb}
use Rattle.qz_wire.specs.Asking.{key_for, verb_of}
use Rattle.qz_wire.specs.Brief.{IsBriefAsk, IsBriefCaller}
use Rattle.qz_wire.specs.Faults.{Fault, at_word}
use Rattle.qz_wire.specs.Numbered.{◌>>=◌, or_line as or_word}
use Rattle.qz_wire.specs.Requests.{request_of}
use Rattle.qz_wire.specs.Words.{token_of, utf8_of}
use Rattle.qz_json.specs.Arguments.{arguments_of, has_no_other, words_for}

-- UTF-8 that is JSON
abbrev pub data_of : List ℕ → Option Data
data_of body = option_and_then read (utf8_of body)

-- a key is a text of its form, and where there is none its member is missing
abbrev pub key_in : Option Data → Option (Option (List ℕ))
key_in None = Some None
key_in (Some m) = option_map (λ key. Some key) (option_and_then token_of (as_str m))

abbrev pub verb_in : Option Data → Option Verb
verb_in m = option_and_then verb_of (option_and_then as_str m)

abbrev pub alone : {A : Type 0} → Bool → A → Option A
alone true x = Some x
alone false x = None

-- An object, its key and command, the arguments in the order of the words, and last that no other member stands. A fault has the
-- number of the word in a line, and 0 where the body isn't such an object otherwise.
unfoldable pub ask_of_data : Caller → Data → Result Ask Fault
ask_of_data who body = do
  members ← at_word (or_word 0 (as_object body))
  word ← at_word (or_word 3 (key_in (get (codes "key") body)))
  command ← at_word (or_word 4 (verb_in (get (codes "do") body)))
  key ← at_word (or_word 3 (key_for command word))
  asked ← request_of command (words_for (arguments_of command) body)
  at_word (or_word 0 (alone (has_no_other command members) (record { caller = who; key = key; request = asked })))

unfoldable pub ask_of_body : Caller → List ℕ → Result Ask Fault
ask_of_body who bytes = do
  body ← at_word (or_word 0 (data_of bytes))
  ask_of_data who body

-- What a body asks: a request that has a key where it has to, and all is in range. By whom it is asked the body doesn't say: by a token
-- that is no longer than it may be, nothing of what is asked is longer.
pub record CanBeAsked (ask : Ask) : Type 0 where
  pub keyed : is_keyed ask ≡ true
  pub kept : KeepsAsked ask.request
  pub described : asks_described ask.request ≡ true
  pub brief : IsBriefCaller ask.caller → IsBriefAsk ask
