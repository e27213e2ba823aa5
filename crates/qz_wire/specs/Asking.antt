-- What a line of a script asks.
use Rattle.std.specs.Prelude.{◌≡◌, ℕ, not, Bool, true, false, if◌then◌else◌, is_none, is_some, List, Option, Some, None, Result, Ok, bytes_eq, codes}
use Rattle.qz_record.specs.Lengths.{NamesBriefly}
use Rattle.qz_terms.specs.declared.ask.Ask.{Ask}
use Rattle.qz_terms.specs.declared.people.Caller.{Caller}
use Rattle.qz_terms.specs.declared.people.Caller.TheVariants as caller
use Rattle.qz_terms.specs.declared.request.Request.{Request}
use Rattle.qz_terms.specs.Cause.{is_keyed, is_keyless}
use Rattle.qz_terms.specs.Kept.{KeepsAsked, asks_described, is_moment}
use Rattle.qz_wire.specs.declared.verbs.Verb.{Verb}
use Rattle.qz_wire.specs.declared.verbs.Verb.TheVariants as verb
use Rattle.qz_wire.specs.Brief.{IsBriefAsk}
use Rattle.qz_wire.specs.Faults.{Fault, at_word}
use Rattle.qz_wire.specs.Numbered.{◌>>=◌, line_at as word_at, or_line as or_word}
use Rattle.qz_wire.specs.Requests.{request_of}
use Rattle.qz_wire.specs.Words.{moment_of, token_of, key_of}

-- the requests about attempts and grades
abbrev pub attempt_verb_of : List ℕ → Option Verb
attempt_verb_of word =
    if bytes_eq word (codes "start") then Some verb.Start
    else (if bytes_eq word (codes "save") then Some verb.Save
    else (if bytes_eq word (codes "submit") then Some verb.Submit
    else (if bytes_eq word (codes "again") then Some verb.Again
    else (if bytes_eq word (codes "finish") then Some verb.Finish
    else (if bytes_eq word (codes "mark") then Some verb.Mark
    else (if bytes_eq word (codes "work") then Some verb.Work
    else (if bytes_eq word (codes "settle") then Some verb.Settle
    else (if bytes_eq word (codes "live") then Some verb.Live
    else (if bytes_eq word (codes "view") then Some verb.View
    else (if bytes_eq word (codes "total") then Some verb.Total
    else (if bytes_eq word (codes "page") then Some verb.Page
    else (if bytes_eq word (codes "grade") then Some verb.Grade
    else (if bytes_eq word (codes "report") then Some verb.Report else None)))))))))))))

-- all requests
abbrev pub verb_of : List ℕ → Option Verb
verb_of word =
    if bytes_eq word (codes "user") then Some verb.User
    else (if bytes_eq word (codes "group") then Some verb.Group
    else (if bytes_eq word (codes "member") then Some verb.Member
    else (if bytes_eq word (codes "import") then Some verb.Import
    else (if bytes_eq word (codes "edit") then Some verb.Edit
    else (if bytes_eq word (codes "tune") then Some verb.Tune
    else (if bytes_eq word (codes "quiz") then Some verb.Quiz
    else (if bytes_eq word (codes "slot") then Some verb.Slot
    else (if bytes_eq word (codes "ready") then Some verb.Ready
    else (if bytes_eq word (codes "remax") then Some verb.Remax
    else (if bytes_eq word (codes "policy") then Some verb.Policy
    else (if bytes_eq word (codes "times") then Some verb.Times
    else (if bytes_eq word (codes "override") then Some verb.Override
    else (if bytes_eq word (codes "regrade") then Some verb.Regrade
    else (if bytes_eq word (codes "jobs") then Some verb.Jobs
    else (if bytes_eq word (codes "bank") then Some verb.Bank else attempt_verb_of word)))))))))))))))

-- A request that only looks has no key, nor has one that does a step of a job or ends an attempt whose time is over. Any other has one.
abbrev pub wants_key : Verb → Bool
wants_key verb.Work = false
wants_key verb.Settle = false
wants_key verb.Live = false
wants_key verb.Jobs = false
wants_key verb.View = false
wants_key verb.Total = false
wants_key verb.Page = false
wants_key verb.Grade = false
wants_key verb.Report = false
wants_key verb.Bank = false
wants_key v = true

abbrev pub takes_key : Verb → Option (List ℕ) → Bool
takes_key v key = if wants_key v then is_some key else is_none key

abbrev pub key_for : Verb → Option (List ℕ) → Option (Option (List ℕ))
key_for v key = if takes_key v key then Some key else None

-- The moment and the request, or the first fault in the order of the words. A word that isn't of its form is at fault itself, as is a word
-- too many, and a missing word has the number behind the last one. A key that the command doesn't take is at fault itself.
unfoldable pub ask_of : List (List ℕ) → Result (ℕ × Ask) Fault
ask_of words = do
  moment ← at_word (word_at moment_of 1 words)
  token ← at_word (word_at token_of 2 moment.1)
  word ← at_word (word_at key_of 3 token.1)
  command ← at_word (word_at verb_of 4 word.1)
  key ← at_word (or_word 3 (key_for command.0 word.0))
  asked ← request_of command.0 command.1
  Ok (moment.0, record { caller = caller.Token token.0; key = key; request = asked })

-- ---- what can be asked

-- whoever writes a line has a token
abbrev pub HasToken : Caller → Type 0
HasToken (caller.Token token) = Unit {0}
HasToken caller.Worker = ⊥

-- what a line asks: by a token, a request that has a key where it has to, all is in range, and nothing is longer than it may be
pub record CanBeAsked (ask : Ask) (moment : ℕ) : Type 0 where
  pub token : HasToken ask.caller
  pub keyed : is_keyed ask ≡ true
  pub kept : KeepsAsked ask.request
  pub described : asks_described ask.request ≡ true
  pub brief : IsBriefAsk ask
  pub moment_kept : is_moment moment ≡ true

-- a request of this command
pub record IsOfVerb (v : Verb) (x : Request) : Type 0 where
  pub keyless : is_keyless x ≡ not (wants_key v)
  pub kept : KeepsAsked x
  pub described : asks_described x ≡ true
  pub brief : NamesBriefly x
