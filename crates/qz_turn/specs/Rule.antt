-- What holds of the table between any two steps.
-- Word 0 is the next ticket and word 1 the one that is served, both modulo 2^64. The one slot has the value, which is
-- out while a seat serves.
use Rattle.std.specs.Prelude.{◌≡◌, ℕ, ◌+◌, ◌-◌, ◌%◌, ◌^◌, ◌<◌, ◌≤◌, ◌==◌, ◌⊎◌, if◌then◌else◌, List, [], ◌∷◌, length, Some, Contains}
use Rattle.std.specs.List.{sum_by, range_with_len}
use mathlib.Core.Option.{none, some}
use lib.ListN.{get_elem?}
use Rattle.atomic_table.specs.Table.{State}
use Rattle.qz_turn.specs.declared.view.Tale.{Tale}
use Rattle.qz_turn.specs.declared.view.Stage.{Stage}
use Rattle.qz_turn.specs.declared.view.Stage.TheVariants.{Resting, Waiting, Serving}
use Rattle.qz_turn.specs.declared.view.View.{View}
use Rattle.qz_turn.specs.Tales.{Follows, blank, put_in}

abbrev pub one_if : ℕ → ℕ → ℕ
one_if x n = if n == x then 1 else 0

-- how often x stands among the numbers
abbrev pub times : ℕ → List ℕ → ℕ
times x numbers = sum_by (one_if x) numbers

-- the numbers from 0 on, so many
abbrev pub below : ℕ → List ℕ
below count = range_with_len 0 count

-- every number below the count stands in the list
pub record HasEvery (count : ℕ) (numbers : List ℕ) : Type 0 where
  pub number : (n : ℕ) → n < count → Contains numbers n

-- how many tickets a seat holds
abbrev pub tickets_of : Stage → ℕ
tickets_of Resting = 0
tickets_of (Waiting t) = 1
tickets_of (Serving t) = 1

module _ {I K : Type 0} where
  abbrev pub tickets : View I K → ℕ
  tickets v = tickets_of v.stage

  abbrev pub count_of_numbers : View I K → ℕ
  count_of_numbers v = length v.numbers

  abbrev pub times_at : ℕ → View I K → ℕ
  times_at x v = times x v.numbers

  -- how many items the turns put that stand at the view
  abbrev pub put_at : View I K → ℕ
  put_at v = put_in v.turns

-- The seats in the queue stand in the order of their tickets, the first with the ticket `base`. A ticket is a place in
-- it, and the first in the queue alone may serve.
abbrev pub Stands : ℕ → List ℕ → ℕ → Stage → Type 0
Stands base queue id Resting = Unit {0}
Stands base queue id (Waiting t) = (base ≤ t) × (get_elem? queue (t - base) ≡ some id)
Stands base queue id (Serving t) = (t ≡ base) × (get_elem? queue 0 ≡ some id)

abbrev pub Serves : Stage → Type 0
Serves stage = (t : ℕ) × (stage ≡ Serving t)

-- what the rule says of one view, where `tale` is what the value tells, or told as the turn under way began
pub record IsWell {I K : Type 0} (key : K) (base : ℕ) (queue : List ℕ) (tale : Tale I) (id : ℕ) (v : View I K) : Type 0 where
  pub keyed : (k : K) → v.key ≡ Some k → k ≡ key
  pub stands : Stands base queue id v.stage
  pub numbered : tickets v ≤ count_of_numbers v
  pub idle : v.numbers ≡ [] → v.turns ≡ []
  pub seen : Follows v.seen tale
  pub beside : Follows v.beside tale

-- the value is out with a seat that serves
pub record IsOut {I K S : Type 0} (tale : Tale I) (s : State S (View I K)) : Type 0 where
  pub server : ℕ
  pub view : View I K
  pub homes : s.homes ≡ none ∷ []
  pub there : get_elem? s.views server ≡ some view
  pub serves : Serves view.stage
  pub finds : view.found ≡ tale

module _ {I K S : Type 0} (tells : S → Tale I) (fits : K → S → Type 0) (key : K) where
  -- the value is at home, and nobody serves
  pub record IsHome (tale : Tale I) (s : State S (View I K)) : Type 0 where
    pub value : S
    pub homes : s.homes ≡ some value ∷ []
    pub tells_tale : tells value ≡ tale
    pub fits_key : fits key value
    pub nobody : (id : ℕ) (v : View I K) → get_elem? s.views id ≡ some v → ¬ Serves v.stage

  -- The rule. The numbers below `seats` stand in the views, each once, and so do the turns: by what they put the list has grown
  -- that had `start` items when the table was made.
  pub record Kept (seats start : ℕ) (s : State S (View I K)) : Type 0 where
    pub base : ℕ
    pub queue : List ℕ
    pub tale : Tale I
    pub words : s.words ≡ (base + length queue) % 2 ^ 64 ∷ base % 2 ^ 64 ∷ []
    pub few : seats < 2 ^ 32
    pub drawn : sum_by tickets s.views ≡ length queue
    pub dealt : sum_by count_of_numbers s.views ≡ seats
    pub once : (x : ℕ) → sum_by (times_at x) s.views ≡ times x (below seats)
    pub grown : start + sum_by put_at s.views ≡ length tale.list
    pub each : (id : ℕ) (v : View I K) → get_elem? s.views id ≡ some v → IsWell key base queue tale id v
    pub value : IsHome tale s ⊎ IsOut tale s

-- the first seat of a new table: it has all numbers, and deals them out
abbrev pub dealer : {I K : Type 0} → K → Tale I → ℕ → View I K
dealer key tale seats = record { key = Some key; numbers = below seats; stage = Resting; found = tale; seen = tale; turns = []; beside = blank }
