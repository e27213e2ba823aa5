-- Values by text, where a text may have room and no value yet.
use Rattle.std.specs.BTreeMap.{BTreeMap, get_by_text}
use Rattle.std.specs.Prelude.{ℕ, Bool, List, Option, String, is_some, option_and_then}

-- the value of a text, if it has one
abbrev pub value_at : {Y V : Type 0} → BTreeMap (String Y) (Option V) → List ℕ → Option V
value_at m text = option_and_then (λ v. v) (get_by_text m text)

abbrev pub has_room : {Y V : Type 0} → BTreeMap (String Y) (Option V) → List ℕ → Bool
has_room m text = is_some (get_by_text m text)
