-- The values of the fields with one name, so far as they are looked at.
use Rattle.std.specs.Prelude.{ℕ, ◌≡◌, List, [], ◌∷◌, ◌++◌, Bool, false, Option, Some, None}
use Rattle.qz_http.specs.declared.fields.Found.{Found}
use Rattle.qz_http.specs.declared.fields.Found.TheVariants as found

-- there is none, one or more, and the first is this one
abbrev pub Finds : List (List ℕ) → Found → Type 0
Finds values found.None = values ≡ []
Finds values (found.One value) = values ≡ value.now ∷ []
Finds values (found.Several value) = (other : List ℕ) × (more : List (List ℕ)) × (values ≡ value.now ∷ other ∷ more)

abbrev pub with_value : List (List ℕ) → Option (List ℕ) → List (List ℕ)
with_value before None = before
with_value before (Some value) = before ++ value ∷ []

-- there is a value, and it passes the test
abbrev pub passes : (List ℕ → Bool) → Option (List ℕ) → Bool
passes p None = false
passes p (Some value) = p value
