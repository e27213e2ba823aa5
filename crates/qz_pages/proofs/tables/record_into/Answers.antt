use Rattle.std.proofs.Common.{rules, ◌≡◌, ◌++◌, ◌∷◌, []}
use Rattle.std.proofs.lemmas.Str.{IsUtf8-append}
use Rattle.qz_pages.specs.Reports.{csv_row}
use Rattle.qz_pages.specs.Tables.{written}
use Rattle.qz_pages.proofs.TableLemmas.{csv_row-text}
use Rattle.qz_pages.proofs.tables.record_into.Goals.{in-Ok, in-Err}
use Rattle.qz_pages.proofs.tables.record_into.Goals as goal

pub returns-clause-between : goal.returns-clause-between
returns-clause-between c =
    let row = csv_row-text c.args.user.now c.args.name.now c.args.grade.now c.utf8.user c.utf8.name c.utf8.grade in
    elim c.match-write_fields.branch [
      | in-Ok w ↦
          let h = w.in-Ok in
          let added : written c.write_fields.new.self ≡ written c.args.table.now ++ csv_row (c.args.user.now ∷ c.args.name.now ∷ c.args.grade.now ∷ []) = search rules in
          rw w.result-is (record { setup = search rules; fields = search rules; shown = search rules; text = rw added (IsUtf8-append _ _ c.requires.text row) })
      | in-Err w ↦ rw w.result-is tt
    ]
