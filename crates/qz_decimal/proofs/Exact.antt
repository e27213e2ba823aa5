-- An answer that is `Some` of exactly the values with a property is `None` exactly where none has it.
use Rattle.std.proofs.Common.{◌≡◌, Option, Some, None, refl}
use Rattle.std.specs.Prelude.{◌↔◌, IsNone, ℤ}

pub none-exactly : (o : Option ℤ) (P : ℤ → Type 0) → ((x : ℤ) → (o ≡ Some x) ↔ P x) → IsNone o ↔ ((x : ℤ) → ¬ P x)
none-exactly None P exact = ((λ e x p. none_is x ((exact x).1 p)), (λ none. refl))
  where
    none_is : (x : ℤ) → ◌≡◌ {A = Option ℤ} None (Some x) → ⊥
    none_is x e = cc
none-exactly (Some x) P exact = ((λ e. absurd cc), (λ none. absurd (none x ((exact x).0 refl))))
