use Rattle.std.proofs.Common.{refl}
use Rattle.qz_http.proofs.FieldLemmas.{values-one_more, any-one_more}
use Rattle.qz_http.proofs.fields.has_field.Goals as goal

pub loop-header-preserved : goal.loop-header-preserved
loop-header-preserved c =
    let more = values-one_more c.args.bytes.now c.args.name.now c.args.headers.now c.loop-header.header-index (record { name = record { start = 0; end = 0 }; value = record { start = 0; end = 0 } }) c.loop-header-test.true in
    rw (more, any-one_more, c.loop-header.invariant, c.is_value-has.ensures, c.value_if.ensures) refl
