-- A pass as contracts see it.
use Rattle.std.specs.Prelude.{◌≡◌, ℕ, List, [], ◌∷◌, length, Option, None}
use Rattle.atomic_table.specs.Seated.{TableId}
use Rattle.atomic_table.specs.declared.badge.Badge.{Badge}
use Rattle.qz_turn.specs.declared.view.Tale.{Tale}
use Rattle.qz_turn.specs.declared.view.Turn.{Turn}
use Rattle.qz_turn.specs.declared.view.View.{View}
use Rattle.qz_turn.specs.declared.view.Stage.TheVariants.{Resting}
use Rattle.qz_turn.specs.Tales.{blank}

-- a lock: its table, and its key
pub record Lock (K : Type 0) : Type 0 where
  pub table : TableId
  pub key : Option K

-- a pass: its lock, its numbers, what the value told as its last turn began and ended, and each turn that it took
pub record Standing (I K : Type 0) : Type 0 where
  pub lock : Lock K
  pub numbers : List ℕ
  pub found : Tale I
  pub seen : Tale I
  pub turns : List (Turn I)

module _ {I K : Type 0} where
  -- a seat that was joined into another
  abbrev pub spent_view : View I K
  spent_view = record { key = None; numbers = []; stage = Resting; found = blank; seen = blank; turns = []; beside = blank }

  abbrev pub first_view : List (View I K) → View I K
  first_view [] = spent_view
  first_view (v ∷ vs) = v

  abbrev pub standing_at : TableId → View I K → Standing I K
  standing_at id v = record { lock = record { table = id; key = v.key }; numbers = v.numbers; found = v.found; seen = v.seen; turns = v.turns }

  abbrev pub standing : Badge (View I K) → Standing I K
  standing b = standing_at b.table_id (first_view b.views)

  -- the badge is a seat that isn't in a turn
  pub record IsSeat (b : Badge (View I K)) : Type 0 where
    pub views : b.views ≡ first_view b.views ∷ []
    pub rests : (first_view b.views).stage ≡ Resting

  -- and the list that it has seen has so many items
  pub record IsMeasured (b : Badge (View I K)) (count : ℕ) : Type 0 where
    pub seat : IsSeat b
    pub counts : count ≡ length (standing b).seen.list
