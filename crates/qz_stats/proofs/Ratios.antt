-- The ratio of two sums.
use Rattle.std.proofs.Common.{ℕ, ◌*◌, ◌^◌, ◌<◌, ◌≤◌, ℤ, pos, ◌*ℤ◌, FitsSigned, arith}
use Rattle.std.specs.Int.{w128}
use Rattle.std.specs.Prelude.{unsigned_abs}
use Rattle.std.proofs.lemmas.Int.{fits_signed_from_abs, unsigned_abs-mul}
use Rattle.qz_decimal.specs.Numbers.{nearest_natural, one}
use Rattle.qz_decimal.proofs.Nearest.{nearest-within}

pub size-few : (n d : ℕ) → 0 < d → n ≤ 6 * one * d → nearest_natural n d ≤ 6 * one
size-few n d some within = nearest-within (pos n) d (6 * one) some within

pub whole-within : (marks maxes : ℤ) → unsigned_abs marks ≤ 6 * unsigned_abs maxes → unsigned_abs (marks *ℤ pos one) ≤ 6 * one * unsigned_abs maxes
whole-within marks maxes within = rw unsigned_abs-mul (omega arith)

pub whole-fits : (marks maxes : ℤ) → unsigned_abs marks ≤ 6 * unsigned_abs maxes → unsigned_abs maxes ≤ 2 ^ 80 → FitsSigned w128 (marks *ℤ pos one)
whole-fits marks maxes within most = fits_signed_from_abs w128 (marks *ℤ pos one) (let whole = whole-within marks maxes within in omega arith)
