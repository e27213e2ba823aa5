use Rattle.std.proofs.Common.{◌≡◌, ◌++◌, length, take, flat_map}
use Rattle.qz_terms.specs.Spelling.{four_bytes}
use Rattle.qz_record.proofs.Fitting.{AreFit}
use Rattle.qz_record.proofs.part.ListedPart.write_to.Given as goal

abbrev pub invariant-loop-item : goal.invariant-loop-item
invariant-loop-item g l = record {
  appends : l.out.items ≡ l.fn.out.items ++ (four_bytes (length l.item-items) ++ flat_map g.T.Part.bytes (take l.item-index l.item-items));
  fit : AreFit g.T.Part.field g.T.Part.bytes (take l.item-index l.item-items);
}
