-- What the records of a catalogue tell, beside their list.
use Rattle.std.specs.Prelude.{◌≡◌, true, List, length, Some, None}
use Rattle.qz_terms.specs.declared.record.Record.{Record}
use Rattle.qz_terms.specs.declared.request.Request.{Request}
use Rattle.qz_terms.specs.Catalog.{asked, users}
use Rattle.qz_terms.specs.Cause.{missing_in}
use Rattle.qz_roster.specs.declared.roster.Roster.{Roster}
use Rattle.qz_roster.specs.Counts.{AreCountsOf, HasJobRoom}
use Rattle.qz_roster.specs.People.{ArePeopleOf, HasPeopleRoom, is_called}
use Rattle.qz_roster.specs.Members.{AreMembers, HasMemberRoom}
use Rattle.qz_roster.specs.Overrides.{AreOverrides, HasOverrideRoom}
use Rattle.qz_roster.specs.Quizzes.{AreQuizzesOf, HasQuizRoom}

-- All of it is what these records tell.
pub record IsRosterOf (c : List Record) (o : Roster) : Type 0 where
  pub people : ArePeopleOf c o.people
  pub quizzes : AreQuizzesOf c o.quizzes
  pub counts : AreCountsOf c o.counts
  pub members : AreMembers c o.members
  pub overrides : AreOverrides c o.overrides

-- A record may stand behind these: it names what is there, and where a request with a key made it its caller is a user.
pub record IsNext (c : List Record) (r : Record) : Type 0 where
  pub there : (x : Request) → asked r ≡ Some x → missing_in c x ≡ None
  pub called : is_called (length (users c)) r ≡ true

-- There is room for what it tells.
pub record HasRoom (o : Roster) (r : Record) : Type 0 where
  pub people : HasPeopleRoom o.people r
  pub quizzes : HasQuizRoom o.quizzes (asked r)
  pub counts : HasJobRoom o.counts r
  pub members : HasMemberRoom o.members (asked r)
  pub overrides : HasOverrideRoom o.overrides (asked r)
