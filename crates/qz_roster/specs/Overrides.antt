-- What is set otherwise at a quiz for a user or a group.
use Rattle.std.specs.BTreeMap.{BTreeMap, get}
use Rattle.std.specs.Prelude.{◌≡◌, ℕ, List, IsSome, Option, Some, None, unwrap_or}
use Rattle.qz_terms.specs.declared.access.Override.{Override}
use Rattle.qz_terms.specs.declared.record.Record.{Record}
use Rattle.qz_terms.specs.declared.request.Request.{Request}
use Rattle.qz_terms.specs.declared.request.Request.TheVariants as request
use Rattle.qz_terms.specs.declared.request.Whom.{Whom}
use Rattle.qz_terms.specs.declared.request.Whom.TheVariants as whom
use Rattle.qz_terms.specs.Catalog.{override}
use Rattle.qz_terms.specs.Cause.{override_count}
use Rattle.qz_roster.specs.declared.overrides.Overrides.{Overrides}
use Rattle.qz_roster.specs.declared.told.Target.{Target}
use Rattle.qz_room.specs.Pairs.{pair_cmp}

-- of users, or of groups
abbrev pub of_whom : Overrides → Whom → BTreeMap (ℕ × ℕ) (Option Override)
of_whom o whom.User = o.users
of_whom o whom.Group = o.groups

abbrev pub set_in : Overrides → ℕ → Whom → ℕ → Option Override
set_in o q w n = unwrap_or (get pair_cmp (of_whom o w) (q, n)) None

-- This is what the records set otherwise, and for so many.
pub record AreOverrides (c : List Record) (o : Overrides) : Type 0 where
  pub each : (q : ℕ) (w : Whom) (n : ℕ) → set_in o q w n ≡ override c q w n
  pub count : o.count ≡ override_count c

-- what a request sets otherwise, and for whom
abbrev pub set_otherwise : Option Request → Option (Target × Override)
set_otherwise (Some (request.Override quiz w number opens closes limit allowed)) =
    Some (record { quiz = quiz; whom = w; number = number }, record { opens = opens; closes = closes; limit = limit; allowed = allowed })
set_otherwise o = None

-- There is room for what a request sets otherwise.
pub record HasOverrideRoom (o : Overrides) (x : Option Request) : Type 0 where
  pub there : (t : Target) (set : Override) → set_otherwise x ≡ Some (t, set) → IsSome (get pair_cmp (of_whom o t.whom) (t.quiz, t.number))
