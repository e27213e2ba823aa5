use Rattle.std.proofs.Common.{sym, map, take}
use Rattle.httparse.specs.Spans.{header_bytes}
use Rattle.qz_http.specs.Heads.{values}
use Rattle.qz_http.proofs.FieldLemmas.{values-one_more}
use Rattle.qz_http.proofs.fields.found_by_name.Goals as goal

pub loop-header-preserved : goal.loop-header-preserved
loop-header-preserved c =
    let more = values-one_more c.args.bytes.now c.args.name.now c.args.headers.now c.loop-header.header-index (record { name = record { start = 0; end = 0 }; value = record { start = 0; end = 0 } }) c.loop-header-test.true in
    let before = values c.args.name.now (map (header_bytes c.args.bytes.now) (take c.loop-header.header-index c.args.headers.now)) in
    rw (more, sym c.value_if.ensures) (c.with_one_more-found.ensures before c.loop-header.invariant)
