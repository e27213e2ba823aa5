-- What is said of a result, by what else is said of it.
use Rattle.std.proofs.Common.{◌≡◌, ◌∙◌, ◌≤◌, ℕ, ap, arith, Result, Ok, Err, OnErr, IsErrOf}
use Rattle.qz_outside.specs.Causes.{HasRisen}

pub any_err : {T E A : Type 0} (r : Result T E) → A → OnErr r A
any_err (Ok x) a = tt
any_err (Err e) a = a

-- an error that is passed on
pub told_as : {S T E : Type 0} (r : Result T E) (fault x : E) → r ≡ Err fault → IsErrOf {T = S} (Err fault) x → IsErrOf r x
told_as r fault x is same = let e : fault ≡ x = cc in is ∙ ap (λ f. Err f) e

-- a count that rose has risen in what happened around it
pub risen_within : (a b c d : ℕ) → a ≤ b → HasRisen b c → c ≤ d → HasRisen a d
risen_within a b c d first rose last = λ few. (let r = rose (omega (arith, last, few)) in omega (arith, first, r, last))
