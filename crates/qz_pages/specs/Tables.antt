-- A table of comma-separated values while it is written.
use Rattle.std.specs.Prelude.{◌≡◌, ℕ, false, List, ◌++◌, Vec}
use Rattle.std.specs.Str.{IsUtf8}
use Rattle.csv.specs.Writing.{default_writer, fields_written, has_written, writer_pending, writer_setup, writer_under}
use Rattle.csv.specs.declared.writer.Writer.{Writer}

-- what was written so far
abbrev pub written : {Z : Type 0} → Writer (Vec ℕ Z) → List ℕ
written w = (writer_under w).items ++ writer_pending w

-- a writer with the default settings, between two records; what it wrote is text
pub record IsBetweenRecords {Z : Type 0} (w : Writer (Vec ℕ Z)) : Type 0 where
  pub setup : writer_setup w ≡ default_writer
  pub fields : fields_written w ≡ 0
  pub shown : has_written w ≡ false
  pub text : IsUtf8 (written w)
