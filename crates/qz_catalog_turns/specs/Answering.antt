-- What may be asked of a catalogue in a turn.
use Rattle.std.specs.Prelude.{ℕ, ◌≤◌, List, [], length, unwrap_or}
use Rattle.qz_terms.specs.declared.limits.TheConstants.{LONGEST_KEY}
use Rattle.qz_catalog.specs.Applying.{IsAsked}
use Rattle.qz_record.specs.Lengths.{NamesBriefly}
use Rattle.qz_terms.specs.declared.ask.Ask.{Ask}
use Rattle.qz_terms.specs.declared.people.User.{User}
use Rattle.qz_terms.specs.declared.record.Record.{Record}

-- over this list, and over each longer one
pub record CanAnswer (c : List Record) (user : User) (ask : Ask) (moment : ℕ) : Type 0 where
  pub asked : IsAsked c user ask moment
  pub brief : length (unwrap_or ask.key []) ≤ LONGEST_KEY
  pub names : NamesBriefly ask.request
