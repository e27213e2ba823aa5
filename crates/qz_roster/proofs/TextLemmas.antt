-- One text that has room, or a value, more.
use Rattle.std.proofs.Common.{◌≡◌, ℕ, Bool, true, false, List, Option, Some, None, cond, refl, sym, ap, ◌∙◌}
use Rattle.std.specs.Option.{option_or}
use Rattle.std.specs.Prelude.{bytes_eq, if◌then◌else◌, option_and_then}
use Rattle.std.proofs.lemmas.Slice.Eq.{bytes_eq-Decides}
use Rattle.qz_lemmas.proofs.Options.{or-none}

-- room at a text that isn't there changes no value
pub room-kept : {V : Type 0} (f : List ℕ → Option (Option V)) (bs t : List ℕ) (b : Bool) → bytes_eq bs t ≡ b → f bs ≡ None → option_and_then (λ (v : Option V). v) (cond b (Some None) (f t)) ≡ option_and_then (λ (v : Option V). v) (f t)
room-kept f bs t true same none = let is = (bytes_eq-Decides bs t).0 same in sym (ap (option_and_then (λ (v : Option _). v)) (ap f (sym is) ∙ none))
room-kept f bs t false other none = refl

-- a value for a text that has room
pub given : {V : Type 0} (f : List ℕ → Option (Option V)) (bs t : List ℕ) (value : V) (place : Option V) (b : Bool) → bytes_eq bs t ≡ b → f bs ≡ Some place
    → option_and_then (λ (v : Option V). v) (cond b (Some (option_or place (Some value))) (f t)) ≡ option_or (option_and_then (λ (v : Option V). v) (f t)) (if b then Some value else None)
given f bs t value place true same there = let is = (bytes_eq-Decides bs t).0 same in sym (ap (λ (o : Option (Option _)). option_or (option_and_then (λ (v : Option _). v) o) (Some value)) (ap f (sym is) ∙ there))
given f bs t value place false other there = sym (or-none (option_and_then (λ (v : Option _). v) (f t)))
