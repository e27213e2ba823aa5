use Rattle.std.proofs.Common.{◌∙◌, ap, sym}
use Rattle.qz_sqlite.proofs.keepers.into_keepers.Goals as goal

pub returns : goal.returns
returns g c = record {
  own = c.only.result;
  parts_are = sym c.into_parts-catalog.ensures.shards ∙ c.only.ensures;
  catalog_is = rw c.into_parts-catalog.ensures.catalog at c.into_keeper.ensures.keeper;
  part_is = c.into_keeper-2.ensures.keeper;
  catalog_stored = rw c.into_parts-catalog.ensures.catalog at c.into_keeper.ensures.stored;
  part_stored = c.into_keeper-2.ensures.stored;
  school = c.attest.ensures;
}
