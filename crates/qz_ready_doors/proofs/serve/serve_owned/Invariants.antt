use Rattle.std.specs.Prelude.{vec_len}
use Rattle.qz_ready_doors.specs.Halls.{all_free, entrance_by}
use Rattle.qz_ready_doors.proofs.serve.serve_owned.Given as goal

abbrev pub ghosts-serve_from : goal.ghosts-serve_from
ghosts-serve_from g a = record {
  start = all_free (entrance_by g.P.ReadyDoor.left g.P.ReadyDoor.returned g.P.ReadyDoor.returns g.P.ReadyDoor.out g.P.ReadyDoor.faults a.door) a.work.desks.items;
  most = a.work.links;
  count = vec_len a.work.desks;
}
