-- A lock as contracts see it, and what its calls leave.
use Rattle.std.specs.Prelude.{◌≡◌, ℕ, ◌⊎◌, [], ◌∷◌, ◌++◌, take, drop, Some}
use mathlib.Core.List.{IsPrefix}
use Rattle.atomic_table.specs.Seated.{TableId}
use Rattle.qz_turn.specs.declared.view.Tale.{Tale}
use Rattle.qz_turn.specs.declared.view.Turn.{Turn}
use Rattle.qz_turn.specs.declared.view.View.{View}
use Rattle.qz_turn.specs.Tales.{Follows, merged, turn, turns_kept, turns_given}
use Rattle.qz_turn.specs.Passes.{Lock, Standing}
use Rattle.qz_turn.specs.Rule.{below}

-- which lock it is, how many numbers its passes have, and how many items the list had when the lock was made
pub record Locked (K : Type 0) : Type 0 where
  pub lock : Lock K
  pub seats : ℕ
  pub start : ℕ

abbrev pub locked : {K : Type 0} → TableId → K → ℕ → ℕ → Locked K
locked id key seats start = record { lock = record { table = id; key = Some key }; seats = seats; start = start }

-- a fact about the lock's key
pub record UnderKey {K : Type 0} (lock : Lock K) (holds : K → Type 0) : Type 0 where
  pub at : (key : K) → lock.key ≡ Some key → holds key

module _ {I K : Type 0} where
  -- a new pass: it has one number, has seen what the value told, and took no turn
  abbrev pub new_pass : Lock K → Tale I → ℕ → Standing I K
  new_pass lock tale number = record { lock = lock; numbers = number ∷ []; found = tale; seen = tale; turns = [] }

  -- the pass that is dealt a number by a seat with this view
  abbrev pub dealt_pass : TableId → View I K → ℕ → Standing I K
  dealt_pass id v number = new_pass record { table = id; key = v.key } v.seen number

  -- the first pass: it has every number, and has seen what the value told
  abbrev pub first_pass : Lock K → Tale I → ℕ → Standing I K
  first_pass lock tale seats = record { lock = lock; numbers = below seats; found = tale; seen = tale; turns = [] }

  -- a pass that has given its first number away, and with its last one its turns
  abbrev pub left_of : Standing I K → Standing I K
  left_of pass = record { lock = pass.lock; numbers = drop 1 pass.numbers; found = pass.found; seen = pass.seen; turns = turns_kept (drop 1 pass.numbers) pass.turns }

  -- the pass that has it, which has seen the same, and has the turns if the other one is left without a number
  abbrev pub split_off : Standing I K → Standing I K
  split_off pass = record { lock = pass.lock; numbers = take 1 pass.numbers; found = pass.found; seen = pass.seen; turns = turns_given (drop 1 pass.numbers) pass.turns }

  -- a pass without a number, which has seen the same, and took no turn
  abbrev pub note_of : Standing I K → Standing I K
  note_of pass = record { lock = pass.lock; numbers = []; found = pass.found; seen = pass.seen; turns = [] }

  -- the last turn that a pass took
  abbrev pub last_turn : Standing I K → Turn I
  last_turn pass = turn pass.found pass.seen

  -- the pass took one turn more
  abbrev pub AddsTurn : Standing I K → Standing I K → Type 0
  AddsTurn before after = after.turns ≡ before.turns ++ last_turn after ∷ []

  -- one of the two lists begins the other; the longer list is kept, the greater count of faults, all numbers, and all turns
  pub record Joins (before other after : Standing I K) : Type 0 where
    pub one_list : IsPrefix before.seen.list other.seen.list ⊎ IsPrefix other.seen.list before.seen.list
    pub seen : after.seen ≡ merged before.seen other.seen
    pub found : after.found ≡ before.found
    pub numbers : after.numbers ≡ before.numbers ++ other.numbers
    pub turns : after.turns ≡ before.turns ++ other.turns
    pub lock : after.lock ≡ before.lock

module _ {I K S E : Type 0} (tells : S → Tale I) (fits : K → S → Type 0) (does : E → S → S → E → Type 0) where
  -- A turn: the errand went once, from a value that tells what was found to one that tells what is seen now. What had
  -- been seen begins what was found, and that begins what is seen now. The turn stands behind those that the pass took.
  pub record HasTurn (before after : Standing I K) (errand done : E) : Type 0 where
    pub value_before : S
    pub value_after : S
    pub went : does errand value_before value_after done
    pub found : after.found ≡ tells value_before
    pub seen : after.seen ≡ tells value_after
    pub begins : Follows before.seen after.found
    pub grows : Follows after.found after.seen
    pub fits_before : UnderKey before.lock (λ key. fits key value_before)
    pub fits_after : UnderKey before.lock (λ key. fits key value_after)
    pub numbers : after.numbers ≡ before.numbers
    pub lock : after.lock ≡ before.lock
    pub turns : AddsTurn before after
