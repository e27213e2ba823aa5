-- What is asked is brief. The records of such a request, but for an import, have a length that a list always takes.
use Rattle.std.specs.Prelude.{ℕ, ◌≤◌, List, length, IfSome}
use Rattle.qz_terms.specs.declared.limits.TheConstants.{LONGEST_KEY}
use Rattle.qz_record.specs.Lengths.{NamesBriefly}
use Rattle.qz_terms.specs.declared.ask.Ask.{Ask}
use Rattle.qz_terms.specs.declared.people.Caller.{Caller}
use Rattle.qz_terms.specs.declared.people.Caller.TheVariants as caller

-- a token or a key has 1 to 64 bytes
abbrev pub IsBriefToken : List ℕ → Type 0
IsBriefToken token = (1 ≤ length token) × (length token ≤ LONGEST_KEY)

-- a worker has no token
abbrev pub IsBriefCaller : Caller → Type 0
IsBriefCaller (caller.Token token) = IsBriefToken token
IsBriefCaller caller.Worker = Unit {0}

-- by a token and with a key that are no longer, and of names that are no longer than names are
pub record IsBriefAsk (ask : Ask) : Type 0 where
  pub caller : IsBriefCaller ask.caller
  pub key : IfSome ask.key IsBriefToken
  pub names : NamesBriefly ask.request
