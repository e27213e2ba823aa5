use Rattle.std.proofs.Common.{refl}
use Rattle.qz_looks.proofs.feedback.of_words.Goals as goal

pub returns-in_ok-first_fitting-in-ShortAnswer : goal.returns-in_ok-first_fitting-in-ShortAnswer
returns-in_ok-first_fitting-in-ShortAnswer c = rw (c.in-ShortAnswer.is, ← c.as_slice.ensures, ← c.in_ok-first_fitting-in-ShortAnswer.ensures) refl

pub returns-in_ok-first_taking-in-Numerical : goal.returns-in_ok-first_taking-in-Numerical
returns-in_ok-first_taking-in-Numerical c = rw (c.in-Numerical.is, ← c.text.ensures, ← c.as_bytes.ensures, ← c.in_ok-number-in-Numerical.ensures.value, ← c.as_slice-in-Numerical.ensures, ← c.in_ok-first_taking-in-Numerical.ensures.first) refl
