-- The record that a request makes, and what is said of it once it is put.
use Rattle.std.specs.Prelude.{◌≡◌, ℕ, List, [], ◌∷◌, ◌++◌}
use Rattle.qz_terms.specs.declared.ask.Ask.{Ask}
use Rattle.qz_terms.specs.declared.people.User.{User}
use Rattle.qz_terms.specs.declared.plan.Plan.{Plan}
use Rattle.qz_terms.specs.declared.record.Event.{Event}
use Rattle.qz_terms.specs.declared.record.Record.{Record}
use Rattle.qz_terms.specs.declared.reply.Reply.{Reply}
use Rattle.qz_terms.specs.Answer.{named_user, record_under, said}

-- the record of an event that a request makes
abbrev pub record_by : ℕ → User → Plan → Ask → Event → Record
record_by moment user plan ask e = record_under moment user (named_user user ask.request) ask.key plan e

-- the record stands at the end, and this is said of it
pub record IsPutWith (h g : List Record) (r : Record) (told : Reply) : Type 0 where
  pub said_so : told ≡ said (h ++ r ∷ []) r
  pub put : g ≡ h ++ r ∷ []
