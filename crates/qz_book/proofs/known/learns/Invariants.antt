use Rattle.std.proofs.Common.{◌≡◌, take, option_copied}
use Rattle.std.specs.Prelude.{filter_map}
use Rattle.qz_terms.specs.History.{learned_version}
use Rattle.qz_terms.specs.Lists.{first_of}
use Rattle.qz_book.proofs.known.learns.Given as goal

abbrev pub invariant-loop-learned : goal.invariant-loop-learned
invariant-loop-learned l = option_copied l.found ≡ first_of (filter_map (learned_version l.entry l.version) (take l.learned-index l.learned-items))
