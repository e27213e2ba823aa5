use Rattle.std.proofs.Common.{refl}
use Rattle.qz_http.specs.Responses.{head_text}
use Rattle.qz_http.proofs.responses.head_text.Goals as goal

pub returns : goal.returns
unfolding head_text
returns c =
    rw (
      c.in_ok-push_str.ensures.bytes,
      c.in_ok-field_onto-2.ensures,
      c.in_ok-length_onto.ensures,
      c.in_ok-field_onto.ensures,
      c.in_ok-status_line_onto.ensures,
      c.new-head.ensures.bytes,
      c.type_text.ensures,
      c.connection_text.ensures,
    ) refl
