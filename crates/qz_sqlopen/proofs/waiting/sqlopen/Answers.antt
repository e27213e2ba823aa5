use Rattle.std.proofs.Common.{Some}
use Rattle.qz_ending.specs.declared.stop.Stop.TheVariants as stop
use Rattle.qz_sqlopen.proofs.Reading.{ends_unread}
use Rattle.qz_sqlopen.proofs.waiting.sqlopen.Goals as goal

pub returns-in-Ok-clause-ended : goal.returns-in-Ok-clause-ended
returns-in-Ok-clause-ended g c = record {
  stop = Some stop.SinkFault;
  status_is = c.status.ensures;
  cause = record {
    by = record { lines = c.in-Ok.lines; are = c.in-Ok.ensures.lines; written = rw c.as_bytes.ensures at c.in-Err-write_all.ensures.front; risen = c.in-Err-write_all.ensures.cause.failed };
    back = c.read_lines.ensures.back;
    stays = c.read_lines.ensures.stays;
    others = c.read_lines.ensures.others;
    later = c.read_lines.ensures.later;
  };
}

pub returns-clause-ended : goal.returns-clause-ended
returns-clause-ended g c = record {
  stop = Some c.in-Err.stop;
  status_is = c.status-in-Err.ensures;
  cause = record {
    by = ends_unread _ _ _ _ (record { lists = g.B.Bases.lists c.args.bases.now; faults = g.B.Bases.faults c.args.bases.now }) (record { lists = g.B.Bases.lists c.read_lines.new.bases; faults = g.B.Bases.faults c.read_lines.new.bases }) (record { holds = g.O.Sink.holds c.args.sink.now; faults = g.O.Sink.faults c.args.sink.now }) c.in-Err.stop c.in-Err.ensures.why;
    back = c.read_lines.ensures.back;
    stays = c.read_lines.ensures.stays;
    others = c.read_lines.ensures.others;
    later = c.read_lines.ensures.later;
  };
}
