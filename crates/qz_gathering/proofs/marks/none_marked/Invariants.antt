use Rattle.std.proofs.Common.{◌≡◌, length}
use Rattle.qz_school.specs.Solos.{lists_in, school_of}
use Rattle.qz_gathering.proofs.Fresh.{PartsFresh}
use Rattle.qz_gathering.proofs.marks.none_marked.Given as goal

abbrev pub invariant-loop-index : goal.invariant-loop-index
invariant-loop-index g l = record {
  count : length l.parts.items ≡ l.index;
  fresh : PartsFresh (lists_in (school_of l.catalog l.shards)) l.base l.parts.items;
}
