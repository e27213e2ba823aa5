use Rattle.std.proofs.Common.{◌≡◌, ◌++◌, flat_map, take}
use Rattle.qz_terms.specs.declared.reply.Row.{Row}
use Rattle.qz_pages.specs.Reports.{csv_row, row_fields}
use Rattle.qz_pages.specs.Tables.{IsBetweenRecords, written}
use Rattle.qz_pages.proofs.tables.rows_into.Given as goal

abbrev pub invariant-loop-row : goal.invariant-loop-row
invariant-loop-row l = record {
  between : IsBetweenRecords l.table;
  added : written l.table ≡ written l.initial.table ++ flat_map (λ (r : Row). csv_row (row_fields r)) (take l.row-index l.rows);
}
