-- What the lists of a school are, whichever of those that may stand do.
use Rattle.std.specs.Prelude.{◌≡◌, ℕ, List, Some, All, slice_get}
use Rattle.qz_keeper.specs.Lists.{EachMayStand}
use Rattle.qz_record.specs.Records.{IsRecord}
use Rattle.qz_shard.specs.Keeping as part
use Rattle.qz_terms.specs.Legal.{IsLegal, IsSchool}
use Rattle.qz_terms.specs.Serial.{AllMended, Held, Lists, lists_of}

-- each record of a list that may stand is one that a file may keep
pub record AreRecords (a : Lists) : Type 0 where
  pub records : EachMayStand (All IsRecord) a.records
  pub parts : (k : ℕ) (h : Held) → slice_get a.parts k ≡ Some h → EachMayStand (All IsRecord) h

-- However they are mended, each record in doubt adopted or dropped, they are those of a school, of records that a file may keep.
pub record StandAsSchool (a : Lists) : Type 0 where
  pub each : (b : Lists) → AllMended a b → IsSchool b.records.list (lists_of b.parts)
  pub records : AreRecords a

-- each list of this shard that may stand is legal for it, and of records that a file may keep
pub record IsLegalPart {K : Type 0} (s : part.Keeping K) : Type 0 where
  pub legal : EachMayStand (IsLegal s.index s.count) s.held
  pub records : EachMayStand (All IsRecord) s.held

-- so is that of each of these
pub record AreLegal {K : Type 0} (parts : List (part.Keeping K)) : Type 0 where
  pub each : (k : ℕ) (s : part.Keeping K) → slice_get parts k ≡ Some s → IsLegalPart s
