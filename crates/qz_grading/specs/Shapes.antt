-- Whether two versions of a question have the same shape, so that the same answers fit them.
use Rattle.std.specs.Prelude.{Bool, ◌&&◌, ◌==◌}
use Rattle.qz_grading.specs.declared.question.Shape.{Shape}
pub use Rattle.qz_grading.specs.Grading.{shape}

abbrev pub same_shape : Shape → Shape → Bool
same_shape a b = (a.kind == b.kind) && ((a.first == b.first) && (a.second == b.second))
