-- In what way the characters of a text are written.
use Rattle.std.specs.Prelude.{ℕ, List}
use Rattle.qz_grading.specs.Canonical.{escaped, category_name}
use Rattle.gift_write.specs.declared.escaping.Escape.{Escape}
use Rattle.gift_write.specs.declared.escaping.Escape.TheVariants as escape

abbrev pub written_text : Escape → List ℕ → List ℕ
written_text escape.Signs text = escaped text
written_text escape.Slashes text = category_name text
