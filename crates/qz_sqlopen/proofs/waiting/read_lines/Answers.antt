use Rattle.qz_sqlopen.specs.Open.{open_lines}
use Rattle.qz_sqlopen.proofs.Reading.{reading_of}
use Rattle.qz_sqlopen.proofs.waiting.read_lines.Goals as goal

pub returns-in-Ok-lines-clause-lines : goal.returns-in-Ok-lines-clause-lines
returns-in-Ok-lines-clause-lines g c = record {
  payloads = c.in-Ok.field-0-1;
  found = rw (c.as_bytes-name.ensures.value, c.part_name.ensures) at c.in-Ok.ensures.lists.stands.stands;
  are = record {
    closed = c.open_lines-lines.new.keeper;
    told = λ told.
        (let clean = (g.met.B.Store.Base.honest c.open_lines-lines.new.keeper.conn.store told).clean in
        reading_of (open_lines c.args.quiz) c.in-Ok.field-0-1 _ c.in-Ok-lines.lines (c.in-Ok.ensures.tables (c.open_lines-lines.ensures.clean clean)) (c.in-Ok-lines.ensures.found clean));
    in_file = λ clean. reading_of (open_lines c.args.quiz) c.in-Ok.field-0-1 _ c.in-Ok-lines.lines (c.in-Ok.ensures.tables (c.open_lines-lines.ensures.clean clean)) (c.in-Ok-lines.ensures.found clean);
  };
}
