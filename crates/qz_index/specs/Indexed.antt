-- The index of a list of records, and room in it for one more.
use Rattle.std.specs.Prelude.{List}
use Rattle.qz_terms.specs.declared.record.Record.{Record}
use Rattle.qz_terms.specs.History.{learned_by}
use Rattle.qz_index.specs.declared.index.Index.{Index}
use Rattle.qz_index.specs.Attempts.{AreAttempts, HasPlaceFor}
use Rattle.qz_index.specs.Jobs.{AreDone, AreFloors, AreSkipped, HasDone, HasFloor, HasSkip}
use Rattle.qz_index.specs.Orders.{AreOrdered, HasOrderFor}
use Rattle.qz_index.specs.Owners.{AreTallied, HasTally}
use Rattle.qz_index.specs.Versions.{AreVersions, HasOrigins}

-- each map is of the same list
pub record IsIndexed (index : Index) (h : List Record) : Type 0 where
  pub owners : AreTallied index.owners h
  pub versions : AreVersions index.versions h
  pub attempts : AreAttempts index.attempts h
  pub orders : AreOrdered index.orders h
  pub done : AreDone index.done h
  pub floors : AreFloors index.floors h
  pub skips : AreSkipped index.skips h

-- each map has an entry for what a record changes
pub record HasRoomFor (index : Index) (r : Record) : Type 0 where
  pub owner : HasTally index.owners r.owner
  pub versions : HasOrigins index.versions (learned_by r.event)
  pub attempts : HasPlaceFor index.attempts r
  pub orders : HasOrderFor index.orders r
  pub done : HasDone index.done r.event
  pub floors : HasFloor index.floors r.event
  pub skips : HasSkip index.skips r.event
