-- What a value behind a lock tells, how one telling begins another, what turns put, and what an errand owes.
use Rattle.std.specs.Prelude.{ℕ, ◌-◌, ◌≤◌, List, [], ◌∷◌, length, None, max, if◌then◌else◌, nat_lt}
use Rattle.std.specs.List.{sum_by}
use mathlib.Core.List.{IsPrefix}
use Rattle.qz_turn.specs.declared.view.Tale.{Tale}
use Rattle.qz_turn.specs.declared.view.Turn.{Turn}

-- the later tale goes on from the earlier one: its list begins with the earlier list, and its count of faults is
-- no smaller
pub record Follows {I : Type 0} (earlier later : Tale I) : Type 0 where
  pub begins : IsPrefix earlier.list later.list
  pub faults : earlier.faults ≤ later.faults

-- nothing was told
abbrev pub blank : {I : Type 0} → Tale I
blank = record { list = []; doubt = None; faults = 0 }

-- a turn that found the one and left the other
abbrev pub turn : {I : Type 0} → Tale I → Tale I → Turn I
turn found left = record { found = found; left = left }

-- how many items the turn put behind the list
abbrev pub put_by : {I : Type 0} → Turn I → ℕ
put_by t = length t.left.list - length t.found.list

-- how many items the turns put
abbrev pub put_in : {I : Type 0} → List (Turn I) → ℕ
put_in turns = sum_by put_by turns

-- Of the turns of a pass that gives its first number away, by the numbers that it is left with: it keeps them, but with its last
-- number they go too. So each turn stands at one pass.
abbrev pub turns_kept : {I : Type 0} → List ℕ → List (Turn I) → List (Turn I)
turns_kept [] turns = []
turns_kept (n ∷ ns) turns = turns

-- and those that go with the number
abbrev pub turns_given : {I : Type 0} → List ℕ → List (Turn I) → List (Turn I)
turns_given [] turns = turns
turns_given (n ∷ ns) turns = []

-- the tale with the longer list, and the first of two that are equally long
abbrev pub longer : {I : Type 0} → Tale I → Tale I → Tale I
longer a b = if nat_lt (length a.list) (length b.list) then b else a

-- the longer list with its record in doubt, and the greater count of faults
abbrev pub merged : {I : Type 0} → Tale I → Tale I → Tale I
merged a b = record { list = (longer a b).list; doubt = (longer a b).doubt; faults = max a.faults b.faults }

module _ {I K E S : Type 0} (tells : S → Tale I) (fits : K → S → Type 0) (can : K → Tale I → E → Type 0) where
  -- the value fits some key, and goes on from some tale that was seen of it, under which the errand can go
  pub record CanGo (errand : E) (value : S) : Type 0 where
    pub key : K
    pub seen : Tale I
    pub fits_key : fits key value
    pub begins : Follows seen (tells value)
    pub can_go : can key seen errand

  -- the value still fits each key that it fitted, and under which the errand could go
  pub record KeepsFit (errand : E) (before after : S) : Type 0 where
    pub still : (key : K) (seen : Tale I) → fits key before → Follows seen (tells before) → can key seen errand → fits key after
