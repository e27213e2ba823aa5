use Rattle.std.proofs.Common.{◌∙◌, ap, sym}
use Rattle.qz_loading.proofs.Counting.{first_founds}
use Rattle.qz_terms.specs.declared.record.Record.{Record}
use Rattle.qz_sqlite.proofs.catalog_list.has_one_shard.Goals as goal

pub unreachable-requires : goal.unreachable-requires
unreachable-requires c =
    let founding = first_founds c.records.result.now c.index-records-0.result (rw (← c.records.ensures.list) at c.records.ensures.legal) (rw (← c.records.ensures.list) at c.records.ensures.some) c.index-records-0.is in
    c.in_default.not-Founded founding.shards founding.token (ap (λ (r : Record). r.event) (sym c.index-records-0.is) ∙ founding.is)
