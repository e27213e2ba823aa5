-- The clock of the first door.
use Rattle.std.proofs.Common.{◌≡◌, ◌<◌, List, [], ◌∷◌, Some, length, sym, ap, arith}
use Rattle.std.specs.Prelude.{slice_get, slice_index_or, slice_set}
use Rattle.qz_stations.specs.Passing.{with_clock}

pub set_first : {D C : Type 0} (doors : List (D × C)) (d : D × C) (clock : C) → 0 < length doors → d ≡ slice_index_or doors 0 d → slice_set doors 0 (d.0, clock) ≡ with_clock clock doors
set_first [] d clock some is = absurd (omega arith)
set_first (e ∷ es) d clock some is = ap (λ (x : _ × _). (x.0, clock) ∷ es) is

pub get_first : {D C : Type 0} (doors : List (D × C)) (d : D × C) → 0 < length doors → d ≡ slice_index_or doors 0 d → slice_get doors 0 ≡ Some (d.0, d.1)
get_first [] d some is = absurd (omega arith)
get_first (e ∷ es) d some is = ap (λ (x : _ × _). Some x) (sym is)
