use Rattle.std.specs.Prelude.{map, take}
use Rattle.httparse.specs.Spans.{header_bytes}
use Rattle.qz_http.specs.Found.{Finds}
use Rattle.qz_http.specs.Heads.{values}
use Rattle.qz_http.proofs.fields.found_by_name.Given as goal

abbrev pub invariant-loop-header : goal.invariant-loop-header
invariant-loop-header l = Finds (values l.name (map (header_bytes l.bytes) (take l.header-index l.headers))) l.found
