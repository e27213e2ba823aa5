-- Whether bytes go past a request target.
use Rattle.std.specs.Prelude.{ℕ, Bool, true, false, ◌==◌, List, fold, if◌then◌else◌}
use Rattle.httparse.specs.Grammar.{is_token_byte, is_uri_byte}
use Rattle.qz_http.specs.declared.targets.Place.{Place}
use Rattle.qz_http.specs.declared.targets.Place.TheVariants as place

-- after one byte more: empty lines, a method, a space, and the bytes of a target
abbrev pub next_place : Place → ℕ → Place
next_place place.Blank b = if is_token_byte b then place.Method else (if b == 10 then place.Blank else (if b == 13 then place.Return else place.Elsewhere))
next_place place.Return b = if b == 10 then place.Blank else place.Elsewhere
next_place place.Method b = if is_token_byte b then place.Method else (if b == 32 then place.Target else place.Elsewhere)
next_place place.Target b = if is_uri_byte b then place.Target else place.Elsewhere
next_place place.Elsewhere b = place.Elsewhere

abbrev pub place_after : List ℕ → Place
place_after bytes = fold next_place place.Blank bytes

abbrev pub is_elsewhere : Place → Bool
is_elsewhere place.Blank = false
is_elsewhere place.Return = false
is_elsewhere place.Method = false
is_elsewhere place.Target = false
is_elsewhere place.Elsewhere = true

-- a space has ended the target, or a byte stands that is in no request line
abbrev pub is_past_target : List ℕ → Bool
is_past_target bytes = is_elsewhere (place_after bytes)
