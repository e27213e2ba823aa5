use Rattle.std.specs.Char.{encode_utf8}
use Rattle.std.specs.Str.{chars}
use Rattle.caseless.proofs.Computing.{caseless}
use Rattle.qz_text.specs.Patterns.{folded, is_blank, folded_parts, pattern_fits}

-- `unfolding patterns` lets `refl` compute what a pattern answers to a short text
unfoldable pub patterns : Unit {0}
unfolding caseless encode_utf8 chars folded is_blank folded_parts pattern_fits
patterns = tt
