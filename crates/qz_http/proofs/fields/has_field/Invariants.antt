use Rattle.std.specs.Prelude.{◌≡◌, map, take}
use Rattle.std.specs.List.{list_any}
use Rattle.httparse.specs.Spans.{header_bytes}
use Rattle.qz_http.specs.Heads.{is_same_word, values}
use Rattle.qz_http.proofs.fields.has_field.Given as goal

abbrev pub invariant-loop-header : goal.invariant-loop-header
invariant-loop-header l = l.has ≡ list_any (λ v. is_same_word v l.value) (values l.name (map (header_bytes l.bytes) (take l.header-index l.headers)))
