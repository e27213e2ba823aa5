-- How the files of a shelf change in one call behind another.
use Rattle.std.proofs.Common.{◌≡◌, Option, None, Some, IfSome, subst}

-- a fact about what a file reads as, over a file that reads the same
pub carried : {T : Type 0} {P Q : T → Type 0} (o p : Option T) → p ≡ o → IfSome p P → ((x : T) → P x → Q x) → IfSome o Q
carried None p same told follows = tt
carried {P = P} (Some x) p same told follows = follows x (subst (λ o. IfSome o P) same told)
