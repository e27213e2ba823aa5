use Rattle.std.specs.Char.{encode_utf8}
use Rattle.std.specs.Fmt.{digits}
use Rattle.std.specs.Str.{chars, is_utf8}
use Rattle.std.specs.Str.Lossy.{utf8_valid_len}
use Rattle.qz_decimal.specs.Decimals.{digits_in, tens_in, exact_size, decimal_in}
use Rattle.qz_decimal.specs.Percent.{weight_in}
use Rattle.qz_decimal.specs.Reading.{decimals_at, rest_at, size_at, units_in, units_within}

-- `unfolding gift` lets `refl` compute what a short text is read as
unfoldable pub gift : Unit {0}
unfolding digits encode_utf8 chars is_utf8 utf8_valid_len digits_in tens_in exact_size decimal_in weight_in decimals_at rest_at size_at units_in units_within
gift = tt
