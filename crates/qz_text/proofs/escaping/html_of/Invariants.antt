use Rattle.std.proofs.Common.{◌≡◌, string_bytes, encode_utf8_all}
use Rattle.qz_text.specs.Html.{html_of}
use Rattle.qz_text.proofs.escaping.html_of.Given as goal

abbrev pub invariant-loop-c : goal.invariant-loop-c
invariant-loop-c l = string_bytes l.html ≡ html_of (encode_utf8_all l.yielded)
