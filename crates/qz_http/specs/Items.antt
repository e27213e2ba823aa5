-- What one request asks.
use Rattle.std.specs.Prelude.{ℕ, ◌≡◌, true, List, Option, Some, None, option_and_then, Result, Ok, Err, bytes_eq, if◌then◌else◌, codes}
use Rattle.qz_grading.specs.declared.refusal.Refusal.TheVariants as refusal
use Rattle.qz_terms.specs.declared.ask.Ask.{Ask}
use Rattle.qz_terms.specs.declared.people.Caller.{Caller}
use Rattle.qz_terms.specs.declared.people.Caller.TheVariants as caller
use Rattle.qz_terms.specs.declared.request.Request.TheVariants as request
use Rattle.qz_terms.specs.Cause.{is_keyed}
use Rattle.qz_terms.specs.Kept.{KeepsAsked, asks_described}
use Rattle.qz_wire.specs.Asking.{HasToken}
use Rattle.qz_wire.specs.Brief.{IsBriefAsk}
use Rattle.qz_wire.specs.Faults.{Fault, at_word}
use Rattle.qz_wire.specs.Lines.{after}
use Rattle.qz_wire.specs.Numbered.{◌>>=◌, or_line as or_word}
use Rattle.qz_wire.specs.Words.{attempt_of, number_of, token_of}
use Rattle.qz_json.specs.Bodies.{CanBeAsked, ask_of_body}
use Rattle.httparse.specs.Grammar.{RequestHead}
use Rattle.qz_http.specs.declared.items.Item.{Item}
use Rattle.qz_http.specs.declared.items.Item.TheVariants as item
use Rattle.qz_http.specs.Heads.{authorization_of, fields_of}
use Rattle.qz_http.specs.Routes.{Way, nowhere, ask, csv_report, entry, page, text_report, way_of}

-- the token behind `Bearer `
abbrev pub token_in : Option (List ℕ) → Option (List ℕ)
token_in authorization = option_and_then token_of (option_and_then (after (codes "Bearer ")) authorization)

-- where there is no token, what is asked is read, and has no caller
abbrev pub caller_of : Option (List ℕ) → Caller
caller_of None = caller.Worker
caller_of (Some token) = caller.Token token

-- a fault comes before a token that is missing
abbrev pub item_by : Option (List ℕ) → Result Ask Fault → Item
item_by token (Err fault) = item.Refused (refusal.Malformed fault.place fault.rule)
item_by None (Ok asked) = item.Refused refusal.UnknownToken
item_by (Some token) (Ok asked) = item.Ask asked

-- the text of a version of a question, by the parameters of its path
unfoldable pub ask_of_entry : Caller → List ℕ → List ℕ → Result Ask Fault
ask_of_entry who first second = do
  number ← at_word (or_word 5 (number_of first))
  version ← at_word (or_word 6 (number_of second))
  Ok (record { caller = who; key = None; request = request.Bank number version })

-- the page of an attempt, by the parameter of its path
unfoldable pub ask_of_page : Caller → List ℕ → Result Ask Fault
ask_of_page who word = do
  attempt ← at_word (or_word 5 (attempt_of word))
  Ok (record { caller = who; key = None; request = request.Page attempt })

-- the grades of a quiz, by the parameter of its path
unfoldable pub ask_of_report : Caller → List ℕ → Result Ask Fault
ask_of_report who word = do
  quiz ← at_word (or_word 5 (number_of word))
  Ok (record { caller = who; key = None; request = request.Report quiz })

abbrev pub item_got : List ℕ → Option (List ℕ) → Result Ask Fault → Item
item_got method token asked = if bytes_eq method (codes "GET") then item_by token asked else item.Bare 405

-- a way leads to one method
abbrev pub item_at : Way → List ℕ → Option (List ℕ) → List ℕ → Item
item_at nowhere method token body = item.Bare 404
item_at ask method token body =
    if bytes_eq method (codes "POST") then item_by token (ask_of_body (caller_of token) body) else item.Bare 405
item_at (entry first second) method token body = item_got method token (ask_of_entry (caller_of token) first second)
item_at (page attempt) method token body = item_got method token (ask_of_page (caller_of token) attempt)
item_at (text_report quiz) method token body = item_got method token (ask_of_report (caller_of token) quiz)
item_at (csv_report quiz) method token body = item_got method token (ask_of_report (caller_of token) quiz)

-- what a head and a body ask
abbrev pub item_of : RequestHead → List ℕ → Item
item_of h body = item_at (way_of h.target) h.method (token_in (authorization_of (fields_of h))) body

-- ---- what can be asked

-- by a token, a request that has a key where it has to, all is in range, and nothing is longer than it may be
pub record IsAskable (ask : Ask) : Type 0 where
  pub token : HasToken ask.caller
  pub keyed : is_keyed ask ≡ true
  pub kept : KeepsAsked ask.request
  pub described : asks_described ask.request ≡ true
  pub brief : IsBriefAsk ask

-- an ask that is given can be asked
abbrev pub AsksAskable : Item → Type 0
AsksAskable (item.Ask asked) = IsAskable asked
AsksAskable (item.Refused refusal) = Unit {0}
AsksAskable (item.Bare status) = Unit {0}
AsksAskable (item.Over why) = Unit {0}
AsksAskable item.Need = Unit {0}

-- ---- what a reader of the code answers

-- it can be asked by whom a head names
pub record IsAskedBy (token : Option (List ℕ)) (ask : Ask) : Type 0 where
  pub by : ask.caller ≡ caller_of token
  pub asked : CanBeAsked ask
