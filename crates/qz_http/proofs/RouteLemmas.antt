-- Parameters of a path, and what a request asks by its parts.
use Rattle.std.proofs.Common.{◌≡◌, ℕ, ◌+◌, List, [], ◌∷◌, length, refl, sym, arith}
use Rattle.std.specs.Prelude.{Option, Result, IfOk, ◌==◌}
use Rattle.std.proofs.lemmas.List.Splits.{length-slice_split}
use Rattle.qz_text.specs.declared.memory.NoMemory.{NoMemory}
use Rattle.qz_wire.specs.Words.{parts_at, IsCutAt}
use Rattle.qz_http.specs.declared.items.Item.{Item}
use Rattle.qz_http.specs.Items.{item_at, token_in}
use Rattle.qz_http.specs.Routes.{nowhere, one_parameter, report_below, two_parameters, way_of}

-- there is always a part
parted : (P : List (List ℕ) → Type 0) → ((part : List ℕ) (more : List (List ℕ)) → P (part ∷ more)) → (bytes : List ℕ) → P (parts_at 47 bytes)
parted P holds bytes = some (parts_at 47 bytes) _ (length-slice_split (λ b. b == 47) bytes)
  where
    some : (parts : List (List ℕ)) (n : ℕ) → length parts ≡ n + 1 → P parts
    some [] n is = absurd (omega (arith, is))
    some (part ∷ more) n is = holds part more

pub second_parameter : (rest first behind : List ℕ) → IsCutAt 47 rest first behind → one_parameter (parts_at 47 rest) ≡ nowhere
second_parameter rest first behind once = rw once.parts (parted (λ l. one_parameter (first ∷ l) ≡ nowhere) (λ second more. refl) behind)

pub three_parameters : (rest first behind second more : List ℕ) → IsCutAt 47 rest first behind → IsCutAt 47 behind second more → two_parameters (parts_at 47 rest) ≡ nowhere
three_parameters rest first behind second more once twice =
    rw (once.parts, twice.parts) (parted (λ l. two_parameters (first ∷ second ∷ l) ≡ nowhere) (λ third last. refl) more)

pub below_report : (rest first behind second more : List ℕ) → IsCutAt 47 rest first behind → IsCutAt 47 behind second more → report_below (parts_at 47 rest) ≡ nowhere
below_report rest first behind second more once twice =
    rw (once.parts, twice.parts) (parted (λ l. report_below (first ∷ second ∷ l) ≡ nowhere) (λ third last. refl) more)

pub item_by_parts : (r : Result Item NoMemory) (t target m method : List ℕ) (token a authorization : Option (List ℕ)) (body : List ℕ)
    → t ≡ target → m ≡ method → a ≡ authorization → token ≡ token_in a
    → IfOk r (λ item. item ≡ item_at (way_of t) m token body) → IfOk r (λ item. item ≡ item_at (way_of target) method (token_in authorization) body)
item_by_parts r t target m method token a authorization body et em ea told x = rw (sym et, sym em, sym ea, sym told) x
