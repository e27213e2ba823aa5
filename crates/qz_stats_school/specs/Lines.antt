-- What is written of an analysis.
use Rattle.std.specs.Prelude.{ℕ, List, [], ◌∷◌, ◌++◌, codes, decimal, flat_map}
use Rattle.qz_grading.specs.Words.{mark_text}
use Rattle.qz_stats.specs.declared.rows.PickRow.{PickRow}
use Rattle.qz_stats.specs.declared.rows.SlotRow.{SlotRow}
use Rattle.qz_stats.specs.Rows.{analysis}
use Rattle.qz_terms.specs.declared.record.Record.{Record}

-- a facility is spelled as a mark
abbrev pub slot_line : SlotRow → List ℕ
slot_line r = codes "slot " ++ (decimal r.slot ++ (codes " tried " ++ (decimal r.tried ++ (codes " facility " ++ (mark_text r.facility ++ 10 ∷ [])))))

abbrev pub pick_line : PickRow → List ℕ
pick_line p = codes "version " ++ (decimal p.version ++ (codes " pick " ++ (decimal p.pick ++ (codes " count " ++ (decimal p.count ++ 10 ∷ [])))))

-- a slot, and after it its choices
abbrev pub row_text : SlotRow → List ℕ
row_text r = slot_line r ++ flat_map pick_line r.picks

abbrev pub rows_text : List SlotRow → List ℕ
rows_text rows = flat_map row_text rows

-- of a quiz, over the lists of all shards
abbrev pub stats_text : List (List Record) → ℕ → List ℕ
stats_text hs quiz = rows_text (analysis hs quiz)
