-- The kinds of step, and what each does to the view of the seat that makes it: draw, look, serve, split, note, join.
-- A join is a step and one load more, which compares the two lists.
use Rattle.std.specs.Prelude.{◌≡◌, ◌≢◌, ℕ, ◌%◌, ◌^◌, ◌⊎◌, [], ◌∷◌, ◌++◌, length, take, drop, Some}
use mathlib.Core.List.{IsPrefix}
use Rattle.atomic_table.specs.Table.{Me, Step}
use Rattle.qz_turn.specs.declared.view.Tale.{Tale}
use Rattle.qz_turn.specs.declared.view.Stage.TheVariants.{Resting, Waiting, Serving}
use Rattle.qz_turn.specs.declared.view.View.{View}
use Rattle.qz_turn.specs.Rule.{below}
use Rattle.qz_turn.specs.Tales.{Follows, merged, blank, turn, turns_kept, turns_given, CanGo, KeepsFit}

module _ {I K : Type 0} where
  -- the seat has drawn the ticket t
  abbrev pub waiting : ℕ → View I K → View I K
  waiting t v = record v { stage = Waiting t }

  -- its turn has come, and the value tells the tale
  abbrev pub serving : ℕ → Tale I → View I K → View I K
  serving t tale v = record v { stage = Serving t; found = tale }

  -- it gave the turn on, and the value told the tale
  abbrev pub served : Tale I → View I K → View I K
  served tale v = record v { stage = Resting; seen = tale; turns = v.turns ++ turn v.found tale ∷ [] }

  -- it gave its first number away, and with its last one its turns
  abbrev pub dealing : View I K → View I K
  dealing v = record v { numbers = drop 1 v.numbers; turns = turns_kept (drop 1 v.numbers) v.turns }

  -- the new seat that has the number
  abbrev pub dealt_to : View I K → View I K
  dealt_to v = record v { numbers = take 1 v.numbers; turns = turns_given (drop 1 v.numbers) v.turns; stage = Resting; beside = blank }

  -- a new seat without a number, which has seen the same
  abbrev pub noted : View I K → View I K
  noted v = record v { numbers = []; stage = Resting; turns = []; beside = blank }

  -- the seat took in another one, whose tale is to be compared
  abbrev pub joining : View I K → View I K → View I K
  joining v w = record v { numbers = v.numbers ++ w.numbers; turns = v.turns ++ w.turns; beside = w.seen }

  -- it compared the two tales
  abbrev pub compared : View I K → View I K
  compared v = record v { seen = merged v.seen v.beside }

module _ {I K S : Type 0} where
  -- the seat waits, with no slot, and the word that it drew is this one
  pub record IsWaiting (m : Me S (View I K)) (drawn : ℕ) : Type 0 where
    pub ticket : ℕ
    pub waits : m.0.stage ≡ Waiting ticket
    pub word : drawn ≡ ticket % 2 ^ 64
    pub bare : m.1 ≡ []

  -- the seat rests, with a number and no slot
  pub record IsReady (m : Me S (View I K)) : Type 0 where
    pub rests : m.0.stage ≡ Resting
    pub numbered : m.0.numbers ≢ []
    pub bare : m.1 ≡ []

  -- a ticket was drawn: the word's number is what is left of it modulo 2^64
  pub record Draws (m : Me S (View I K)) (r : ℕ) (m' : Me S (View I K)) : Type 0 where
    pub ticket : ℕ
    pub drawn : r ≡ ticket % 2 ^ 64
    pub after : m' ≡ (waiting ticket m.0, m.1)

  module _ (tells : S → Tale I) (fits : K → S → Type 0) where
    -- The turn has come: the seat has taken the value, which goes on from all that it had seen.
    pub record Comes (m m' : Me S (View I K)) : Type 0 where
      pub ticket : ℕ
      pub value : S
      pub after : m' ≡ (serving ticket (tells value) m.0, (0, value) ∷ [])
      pub begins : Follows m.0.seen (tells value)
      pub fits_key : (k : K) → m.0.key ≡ Some k → fits k value

    -- a waiting seat finds its own ticket, or goes on waiting
    pub record Looks (m : Me S (View I K)) (r : ℕ) (m' : Me S (View I K)) : Type 0 where
      pub comes : (t : ℕ) → m.0.stage ≡ Waiting t → r ≡ t % 2 ^ 64 → Comes m m'
      pub stays : (t : ℕ) → m.0.stage ≡ Waiting t → r ≢ t % 2 ^ 64 → m' ≡ m

  -- the value came home, and the turn goes on to the next ticket
  pub record Ends (tells : S → Tale I) (m : Me S (View I K)) (m' : Me S (View I K)) : Type 0 where
    pub after : (value : S) → m.1 ≡ (0, value) ∷ [] → m' ≡ (served (tells value) m.0, [])

  -- The seat has the turn and the value, which goes on from what was found, and still fits the key.
  pub record MayEnd (tells : S → Tale I) (fits : K → S → Type 0) (m : Me S (View I K)) : Type 0 where
    pub ticket : ℕ
    pub serves : m.0.stage ≡ Serving ticket
    pub value : S
    pub holds : m.1 ≡ (0, value) ∷ []
    pub grows : Follows m.0.found (tells value)
    pub key : K
    pub keyed : m.0.key ≡ Some key
    pub fits_key : fits key value

  -- the list of the value that the seat has is so long
  pub record Measures (tells : S → Tale I) (m : Me S (View I K)) (count : ℕ) : Type 0 where
    pub counts : (value : S) → m.1 ≡ (0, value) ∷ [] → count ≡ length (tells value).list

  -- of what was seen and what the seat beside had seen, one list begins the other
  pub record Compares (m : Me S (View I K)) (m' : Me S (View I K)) : Type 0 where
    pub after : m' ≡ (compared m.0, m.1)
    pub one_list : IsPrefix m.0.seen.list m.0.beside.list ⊎ IsPrefix m.0.beside.list m.0.seen.list

  abbrev pub draws : Step S → Me S (View I K) → ℕ → Me S (View I K) → Type 0
  draws st m r m' = Draws m r m'

  abbrev pub looks : (S → Tale I) → (K → S → Type 0) → Step S → Me S (View I K) → ℕ → Me S (View I K) → Type 0
  looks tells fits st m r m' = Looks tells fits m r m'

  abbrev pub ends : (S → Tale I) → Step S → Me S (View I K) → ℕ → Me S (View I K) → Type 0
  ends tells st m r m' = Ends tells m m'

  abbrev pub compares : Step S → Me S (View I K) → ℕ → Me S (View I K) → Type 0
  compares st m r m' = Compares m m'

module _ {I K S E : Type 0} (tells : S → Tale I) (fits : K → S → Type 0) (can : K → Tale I → E → Type 0) where
  -- the seat has the value, on which the errand can go
  pub record CanSend (m : Me S (View I K)) (errand : E) : Type 0 where
    pub value : S
    pub holds : m.1 ≡ (0, value) ∷ []
    pub can_go : CanGo tells fits can errand value

  -- the errand went once, and the seat has the value that it left
  pub record Went (does : E → S → S → E → Type 0) (m m' : Me S (View I K)) (errand done : E) : Type 0 where
    pub before : S
    pub after : S
    pub held : m.1 ≡ (0, before) ∷ []
    pub holds : m' ≡ (m.0, (0, after) ∷ [])
    pub went : does errand before after done
    pub grows : Follows (tells before) (tells after)
    pub fits_still : KeepsFit tells fits can errand before after

-- the view has a key, of which this holds
pub record IsKeyed {I K : Type 0} (holds : K → Type 0) (v : View I K) : Type 0 where
  pub key : K
  pub keyed : v.key ≡ Some key
  pub of_key : holds key

-- The turn of the seat came, its errand went once, and it gave the turn on. What it had seen begins what was found.
pub record HasServed {I K S E : Type 0} (tells : S → Tale I) (fits : K → S → Type 0) (does : E → S → S → E → Type 0) (m m' : Me S (View I K)) (errand done : E) : Type 0 where
  pub before : S
  pub after : S
  pub went : does errand before after done
  pub rests : m' ≡ (record m.0 { stage = Resting; found = tells before; seen = tells after; turns = m.0.turns ++ turn (tells before) (tells after) ∷ [] }, [])
  pub begins : Follows m.0.seen (tells before)
  pub grows : Follows (tells before) (tells after)
  pub fits_before : (key : K) → m.0.key ≡ Some key → fits key before
  pub fits_after : (key : K) → m.0.key ≡ Some key → fits key after

-- the seat rests, with the numbers below the count and no slot, has found what it has seen, and took no turn
pub record MayDeal {I K S : Type 0} (count : ℕ) (m : Me S (View I K)) : Type 0 where
  pub rests : m.0.stage ≡ Resting
  pub numbers : m.0.numbers ≡ below count
  pub found : m.0.found ≡ m.0.seen
  pub fresh : m.0.turns ≡ []
  pub bare : m.1 ≡ []
