-- Each command ends as its part of the definition says.
use Rattle.std.proofs.Common.{rules, ◌≡◌, ◌∙◌, ap, None, Some, inl, inr, refl, sym, arith}
use Rattle.std.proofs.KnownBytes.{Keeps-refl}
use Rattle.qz_command.specs.declared.command.Command.TheVariants as command
use Rattle.qz_ending.specs.declared.stop.Stop.TheVariants as stop
use Rattle.qz_command.specs.Commands.{command_of}
use Rattle.qz_ending.specs.Endings.{Outside}
use Rattle.qz_found.specs.FoundEndings.{Shelved}
use Rattle.qz_ready_doors.specs.Halls.{entrance_by}
use Rattle.qz_serving.specs.Saying.{NoDoorFails}
use Rattle.qz_sqlfolders.specs.Folders.{Based, part_place}
use Rattle.quizd.specs.Commands.{clocks_for}
use Rattle.quizd.proofs.BaseLemmas.{base_none_out, both_none_out, neither_out}
use Rattle.quizd.proofs.FolderLemmas.{folder_none_out, one_none_out}
use Rattle.quizd.proofs.WordLemmas.{few_visits, short_token}
use Rattle.quizd.proofs.WantingLemmas.{wanting_runs}
use Rattle.quizd.proofs.run.run.Goals as goal

pub returns-in-Ok-Found-clause-ended : goal.returns-in-Ok-Found-clause-ended
returns-in-Ok-Found-clause-ended g c =
    let is : command_of c.args.words.now ≡ Some (command.Found c.in-Ok-Found.folder c.in-Ok-Found.shards c.in-Ok-Found.token) = search rules in
    let e = rw c.as_bytes.ensures at c.found_folder.ensures.ended in
    record { stop = e.stop; status_is = e.status_is; cause = inl (rw is (Keeps-refl _, (refl, refl, refl), e.cause)) }

pub returns-in-Ok-Found-clause-none_out : goal.returns-in-Ok-Found-clause-none_out
returns-in-Ok-Found-clause-none_out g c =
    let e = rw c.as_bytes.ensures at c.found_folder.ensures.ended in
    one_none_out c.in-Ok-Found.folder _ _ _ c.requires.none_out e.cause.none_out e.cause.others

pub returns-in-Ok-Script-clause-ended : goal.returns-in-Ok-Script-clause-ended
returns-in-Ok-Script-clause-ended g c =
    let is : command_of c.args.words.now ≡ Some (command.Script c.in-Ok-Script.folder) = search rules in
    let e = c.run_script.ensures.ended in
    record { stop = e.stop; status_is = e.status_is; cause = inl (rw is ((refl, refl, refl), e.cause)) }

pub returns-in-Ok-Script-clause-complete : goal.returns-in-Ok-Script-clause-complete
returns-in-Ok-Script-clause-complete g c =
    let is : command_of c.args.words.now ≡ Some (command.Script c.in-Ok-Script.folder) = search rules in
    rw is c.run_script.ensures.complete

pub returns-in-Ok-Bulk-clause-ended : goal.returns-in-Ok-Bulk-clause-ended
returns-in-Ok-Bulk-clause-ended g c =
    let is : command_of c.args.words.now ≡ Some (command.Bulk c.in-Ok-Bulk.count) = search rules in
    let e = c.bulk.ensures.ended in
    record { stop = e.stop; status_is = e.status_is; cause = inl (rw is (Keeps-refl _, e.cause, (refl, refl, refl, refl))) }

pub returns-in-Ok-Bulk-clause-complete : goal.returns-in-Ok-Bulk-clause-complete
returns-in-Ok-Bulk-clause-complete g c =
    let is : command_of c.args.words.now ≡ Some (command.Bulk c.in-Ok-Bulk.count) = search rules in
    rw is c.bulk.ensures.complete

pub serve_folder-requires-clause-clocks : goal.serve_folder-requires-clause-clocks
serve_folder-requires-clause-clocks g c κs within =
    let s = c.in-Ok-Serve in
    let is : command_of c.args.words.now ≡ Some (command.Serve (record { folder = s.folder; port = s._port; workers = s.workers; regraders = s.regraders; links = s.links })) = search rules in
    let count = c.requires.clocks ∙ ap clocks_for is in
    omega (arith, count)

pub returns-in-Ok-Serve-clause-ended : goal.returns-in-Ok-Serve-clause-ended
returns-in-Ok-Serve-clause-ended g c =
    let s = c.in-Ok-Serve.field-0-0 in
    let is : command_of c.args.words.now ≡ Some (command.Serve s) = search rules in
    let e = rw c.as_bytes-in-Ok-Serve.ensures at c.serve_folder.ensures.ended in
    record { stop = e.stop; status_is = e.status_is; cause = inl (rw is (Keeps-refl _, (refl, refl), e.cause)) }

pub returns-in-Ok-Serve-clause-complete : goal.returns-in-Ok-Serve-clause-complete
returns-in-Ok-Serve-clause-complete g c =
    let is : command_of c.args.words.now ≡ Some (command.Serve c.in-Ok-Serve.field-0-0) = search rules in
    rw is c.serve_folder.ensures.complete

pub returns-in-Ok-Serve-clause-none_out : goal.returns-in-Ok-Serve-clause-none_out
returns-in-Ok-Serve-clause-none_out g c =
    let e = rw c.as_bytes-in-Ok-Serve.ensures at c.serve_folder.ensures.ended in
    folder_none_out _ _ _ _ _ _ _ _ e.stop c.requires.none_out e.cause

pub audit_folder-requires-clause-clocks : goal.audit_folder-requires-clause-clocks
audit_folder-requires-clause-clocks g c κs within =
    let s = c.in-Ok-Audit in
    let is : command_of c.args.words.now ≡ Some (command.Audit (record { folder = s.folder; port = s._port; workers = s.workers; regraders = s.regraders; links = s.links })) = search rules in
    let count = c.requires.clocks ∙ ap clocks_for is in
    omega (arith, count)

pub returns-in-Ok-Audit-clause-ended : goal.returns-in-Ok-Audit-clause-ended
returns-in-Ok-Audit-clause-ended g c =
    let s = c.in-Ok-Audit.field-0-0 in
    let is : command_of c.args.words.now ≡ Some (command.Audit s) = search rules in
    let e = rw c.as_bytes-in-Ok-Audit.ensures at c.audit_folder.ensures.ended in
    record { stop = e.stop; status_is = e.status_is; cause = inl (rw is (Keeps-refl _, (refl, refl), e.cause)) }

pub returns-in-Ok-Audit-clause-complete : goal.returns-in-Ok-Audit-clause-complete
returns-in-Ok-Audit-clause-complete g c =
    let is : command_of c.args.words.now ≡ Some (command.Audit c.in-Ok-Audit.field-0-0) = search rules in
    rw is c.audit_folder.ensures.complete

pub returns-in-Ok-Audit-clause-none_out : goal.returns-in-Ok-Audit-clause-none_out
returns-in-Ok-Audit-clause-none_out g c =
    let e = rw c.as_bytes-in-Ok-Audit.ensures at c.audit_folder.ensures.ended in
    folder_none_out _ _ _ _ _ _ _ _ e.stop c.requires.none_out e.cause

pub poll_folder-requires-clause-few : goal.poll_folder-requires-clause-few
poll_folder-requires-clause-few g c κs within =
    let p = c.in-Ok-Poll in
    let is : command_of c.args.words.now ≡ Some (command.Poll p.folder p._port p.links p._visits) = search rules in
    let count = c.requires.clocks ∙ ap clocks_for is in
    let one : c.in-Ok-Poll.field-0 ≡ command.Poll p.folder p._port p.links p._visits = search rules in
    let range = rw one at c.in-Ok-Poll.ensures.range in
    omega (arith, count, few_visits _ _ _ _ range)

pub returns-in-Ok-Poll-clause-ended : goal.returns-in-Ok-Poll-clause-ended
returns-in-Ok-Poll-clause-ended g c =
    let p = c.in-Ok-Poll in
    let is : command_of c.args.words.now ≡ Some (command.Poll p.folder p._port p.links p._visits) = search rules in
    let e = rw c.as_bytes-in-Ok-Poll.ensures at c.poll_folder.ensures.ended in
    record { stop = e.stop; status_is = e.status_is; cause = inl (rw is (Keeps-refl _, (refl, refl), e.cause)) }

pub returns-in-Ok-Poll-clause-complete : goal.returns-in-Ok-Poll-clause-complete
returns-in-Ok-Poll-clause-complete g c =
    let p = c.in-Ok-Poll in
    let is : command_of c.args.words.now ≡ Some (command.Poll p.folder p._port p.links p._visits) = search rules in
    rw is c.poll_folder.ensures.complete

pub returns-in-Ok-Poll-clause-none_out : goal.returns-in-Ok-Poll-clause-none_out
returns-in-Ok-Poll-clause-none_out g c =
    let e = rw c.as_bytes-in-Ok-Poll.ensures at c.poll_folder.ensures.ended in
    folder_none_out _ _ _ _ _ _ _ _ e.stop c.requires.none_out e.cause

pub returns-in-Ok-Stats-clause-ended : goal.returns-in-Ok-Stats-clause-ended
returns-in-Ok-Stats-clause-ended g c =
    let s = c.in-Ok-Stats in
    let is : command_of c.args.words.now ≡ Some (command.Stats s.folder s.quiz s.workers) = search rules in
    let e = rw c.as_bytes-in-Ok-Stats.ensures at c.stats.ensures.ended in
    record { stop = e.stop; status_is = e.status_is; cause = inl (rw is (Keeps-refl _, (refl, refl, refl), e.cause)) }

pub returns-in-Ok-Stats-clause-complete : goal.returns-in-Ok-Stats-clause-complete
returns-in-Ok-Stats-clause-complete g c =
    let s = c.in-Ok-Stats in
    let is : command_of c.args.words.now ≡ Some (command.Stats s.folder s.quiz s.workers) = search rules in
    rw is c.stats.ensures.complete

pub returns-in-Ok-Stats-clause-none_out : goal.returns-in-Ok-Stats-clause-none_out
returns-in-Ok-Stats-clause-none_out g c =
    let e = rw c.as_bytes-in-Ok-Stats.ensures at c.stats.ensures.ended in
    folder_none_out _ _ _ _ _ _ _ _ e.stop c.requires.none_out e.cause

pub sql-requires-clause-free : goal.sql-requires-clause-free
sql-requires-clause-free g c = neither_out _ _ c.requires.bases

pub sql-requires-clause-short : goal.sql-requires-clause-short
sql-requires-clause-short g c =
    let s = c.in-Ok-Sql in
    let one : s.field-0 ≡ command.Sql s.folder s.token = search rules in
    short_token _ _ (rw one at s.ensures.range)

pub returns-in-Ok-Sql-clause-ended : goal.returns-in-Ok-Sql-clause-ended
returns-in-Ok-Sql-clause-ended g c =
    let s = c.in-Ok-Sql in
    let is : command_of c.args.words.now ≡ Some (command.Sql s.folder s.token) = search rules in
    let e = rw c.as_bytes-in-Ok-Sql.ensures at c.sql.ensures.ended in
    record { stop = e.stop; status_is = e.status_is; cause = inl (rw is ((refl, refl, refl), e.cause)) }

pub returns-in-Ok-Sql-clause-complete : goal.returns-in-Ok-Sql-clause-complete
returns-in-Ok-Sql-clause-complete g c =
    let s = c.in-Ok-Sql in
    let is : command_of c.args.words.now ≡ Some (command.Sql s.folder s.token) = search rules in
    rw is c.sql.ensures.complete

pub returns-in-Ok-Sql-clause-bases : goal.returns-in-Ok-Sql-clause-bases
returns-in-Ok-Sql-clause-bases g c =
    let e = rw c.as_bytes-in-Ok-Sql.ensures at c.sql.ensures.ended in
    both_none_out c.in-Ok-Sql.folder _ _ c.requires.bases e.cause.none_out e.cause.others

pub sqlopen-requires : goal.sqlopen-requires
sqlopen-requires g c = c.requires.bases.each (part_place _)

pub returns-in-Ok-SqlOpen-clause-ended : goal.returns-in-Ok-SqlOpen-clause-ended
returns-in-Ok-SqlOpen-clause-ended g c =
    let s = c.in-Ok-SqlOpen in
    let is : command_of c.args.words.now ≡ Some (command.SqlOpen s.folder s.quiz) = search rules in
    let e = rw c.as_bytes-in-Ok-SqlOpen.ensures at c.sqlopen.ensures.ended in
    record { stop = e.stop; status_is = e.status_is; cause = inl (rw is (Keeps-refl _, (refl, refl, refl), e.cause)) }

pub returns-in-Ok-SqlOpen-clause-complete : goal.returns-in-Ok-SqlOpen-clause-complete
returns-in-Ok-SqlOpen-clause-complete g c =
    let s = c.in-Ok-SqlOpen in
    let is : command_of c.args.words.now ≡ Some (command.SqlOpen s.folder s.quiz) = search rules in
    rw is c.sqlopen.ensures.complete

pub returns-in-Ok-SqlOpen-clause-bases : goal.returns-in-Ok-SqlOpen-clause-bases
returns-in-Ok-SqlOpen-clause-bases g c =
    let e = rw c.as_bytes-in-Ok-SqlOpen.ensures at c.sqlopen.ensures.ended in
    base_none_out (part_place c.in-Ok-SqlOpen.folder) _ _ c.requires.bases e.cause.back e.cause.others

pub returns-in-Err-BadWords-clause-ended : goal.returns-in-Err-BadWords-clause-ended
returns-in-Err-BadWords-clause-ended g c =
    let other : command_of c.args.words.now ≡ None = search rules in
    record { stop = Some c.show_usage.result; status_is = c.status.ensures; cause = inl (rw other (record { unread = Keeps-refl _; written = c.show_usage.ensures }, (refl, refl, refl, refl))) }

pub returns-clause-ended : goal.returns-clause-ended
returns-clause-ended g c = record {
  stop = Some stop.Memory;
  status_is = c.status-in-Err-Memory.ensures;
  cause = inr (record { memory = refl; stays = (refl, refl, refl, refl); unread = Keeps-refl _; unwritten = Keeps-refl _ });
}

pub returns-clause-complete : goal.returns-clause-complete
returns-clause-complete g c =
    let doors = c.args.doors.now.items in
    let shelf : Shelved = record { files = g.F.Shelf.files c.args.shelf.now; faults = g.F.Shelf.faults c.args.shelf.now } in
    let entrance = entrance_by g.P.ReadyDoor.left g.P.ReadyDoor.returned g.P.ReadyDoor.returns g.P.ReadyDoor.out g.P.ReadyDoor.faults c.args.ready.now in
    let outside : Outside = record { left = g.S.Source.left c.args.source.now; source_faults = g.S.Source.faults c.args.source.now; holds = g.O.Sink.holds c.args.sink.now; sink_faults = g.O.Sink.faults c.args.sink.now } in
    let based : Based = record { lists = g.B.Bases.lists c.args.bases.now; faults = g.B.Bases.faults c.args.bases.now } in
    wanting_runs (NoDoorFails g.R.Door.faults doors doors)
    (record { doors = doors; shelf = c.args.shelf.now; told = shelf; ready = record { door = c.args.ready.now; entrance = entrance }; bases = c.args.bases.now; based = based })
    (record { doors = doors; shelf = c.args.shelf.now; told = shelf; ready = record { door = c.args.ready.now; entrance = entrance }; bases = c.args.bases.now; based = based })
    c.args.words.now outside outside _ c.status-in-Err-Memory.ensures
