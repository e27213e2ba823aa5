-- Whether something is there, and what.
use Rattle.std.proofs.Common.{◌≡◌, true, false, Option, Some, None, refl}
use Rattle.std.specs.Option.{option_or}
use Rattle.std.specs.Prelude.{is_some}

pub none-by : {A : Type 0} (o : Option A) → is_some o ≡ false → o ≡ None
none-by None is = refl
none-by (Some x) is = absurd cc

pub some-by : {A : Type 0} (o : Option A) → is_some o ≡ true → (x : A) × (o ≡ Some x)
some-by None is = absurd cc
some-by (Some x) is = (x, refl)

pub same-some : {A : Type 0} (o : Option A) (x y : A) → o ≡ Some x → o ≡ Some y → x ≡ y
same-some o x y one other = cc

pub or-none : {A : Type 0} (o : Option A) → option_or o None ≡ o
or-none None = refl
or-none (Some x) = refl
