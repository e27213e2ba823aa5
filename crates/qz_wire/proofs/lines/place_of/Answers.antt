use Rattle.std.proofs.Common.{◌∙◌}
use Rattle.std.proofs.lemmas.Iterator.Adapters.{position_from-zero}
use Rattle.memchr.specs.Find.{is_byte}
use Rattle.qz_lemmas.proofs.Bytes.{first_byte}
use Rattle.qz_wire.proofs.lines.place_of.Goals as goal

pub returns : goal.returns
returns c =
    let sought = is_byte c.args.byte in
    first_byte sought c.args.text.now c.memchr.result c.memchr.ensures ∙ position_from-zero sought c.args.text.now
