use Rattle.qz_script_schools.specs.Again.{shelved}
use Rattle.qz_script_schools.proofs.LoadingAgain.{loaded_again}
use Rattle.qz_script_schools.proofs.laws.given_back_is_loaded.Goals as goal

pub returns : goal.returns
returns g c = record {
  again = λ folder old new next a b result back left loaded restarts.
      loaded_again (record { moment = g.F.Disk.Disk.moment; left_at = g.F.Disk.Disk.left_at; sound = g.F.Disk.Disk.sound; faults = g.F.Disk.Disk.faults }) folder (shelved g.F.Shelf.files g.F.Shelf.faults old) (shelved g.F.Shelf.files g.F.Shelf.faults new) a b (g.F.Shelf.files next) result back left loaded restarts;
}
