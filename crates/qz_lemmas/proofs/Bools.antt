-- Tests that are joined.
use Rattle.std.proofs.Common.{◌≡◌, Bool, true, false, ◌&&◌, refl}

pub and-left : (b c : Bool) → b && c ≡ true → b ≡ true
and-left true c is = refl
and-left false c is = is

pub and-right : (b c : Bool) → b && c ≡ true → c ≡ true
and-right true c is = is
and-right false c is = absurd cc

pub and-false : (b : Bool) → (b && false) ≡ false
and-false true = refl
and-false false = refl
