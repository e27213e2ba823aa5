-- What stands in the lists of a school.
use Rattle.std.specs.Prelude.{◌≡◌, Bool, true, false, List, length, Some, None}
use Rattle.qz_grading.specs.declared.refusal.Refusal.TheVariants as refusal
use Rattle.qz_terms.specs.declared.ask.Ask.{Ask}
use Rattle.qz_terms.specs.declared.people.User.{User}
use Rattle.qz_terms.specs.declared.plan.Plan.{Plan}
use Rattle.qz_terms.specs.declared.record.Record.{Record}
use Rattle.qz_terms.specs.declared.reply.Reply.{Reply}
use Rattle.qz_terms.specs.declared.reply.Reply.TheVariants as reply
use Rattle.qz_terms.specs.declared.request.Request.{Request}
use Rattle.qz_terms.specs.CatalogAnswer.{asks_catalog}
use Rattle.qz_terms.specs.SchoolAnswer.{first_refusal, part_of, plan_for}
use Rattle.qz_terms.specs.Catalog.{user_of}
use Rattle.qz_terms.specs.Laws.{Stands}
use Rattle.qz_terms.specs.Serial.{Lists, part_list}
use Rattle.qz_serial.specs.Repeating.{StandsInCatalog}

-- the keeper of a list failed
abbrev pub is_keep_fault : Reply → Bool
is_keep_fault (reply.Refused refusal.KeepFault) = true
is_keep_fault r = false

-- the list of the shard that a request goes to
abbrev pub own_list : Lists → User → Request → List Record
own_list a user x = part_list a (part_of (length a.parts) user x)

-- A request stands in the list of its shard, and this was said of it: the catalogue knows its caller, refuses it nothing, and has a plan
-- for it.
pub record StandsInShard (a : Lists) (ask : Ask) (told : Reply) : Type 0 where
  pub user : User
  pub plan : Plan
  pub known : user_of a.records.list ask.caller ≡ Some user
  pub free : first_refusal a.records.list user ask.request ≡ None
  pub planned : plan_for a.records.list (own_list a user ask.request) user ask.request ≡ Some plan
  pub stands : Stands (own_list a user ask.request) user ask told

-- A request to the catalogue, which knows its caller, stands in the catalogue's list, and this was said of it.
pub record StandsInRecords (a : Lists) (ask : Ask) (told : Reply) : Type 0 where
  pub user : User
  pub known : user_of a.records.list ask.caller ≡ Some user
  pub of_catalog : asks_catalog ask.request ≡ true
  pub stands : StandsInCatalog a.records.list user ask told

-- it stands in the list that it goes to
pub data StandsIn (a : Lists) (ask : Ask) (told : Reply) : Type 0 where
  in_shard : StandsInShard a ask told → StandsIn a ask told
  in_records : StandsInRecords a ask told → StandsIn a ask told
