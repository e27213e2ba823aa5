-- The links of a whole run: which desk served each, and what each desk did, one link after the other.
use Rattle.std.specs.Prelude.{◌≡◌, ℕ, ◌<◌, ◌≤◌, ◌==◌, List, ◌++◌, filter, length, map, slice_get, Some, option_map}
use Rattle.std.specs.List.{All}
use Rattle.std.specs.List.Sorted.{IsPermutation}
use Rattle.qz_doors.specs.Doors.{Entrance, ServesInTurn, is_short}
use Rattle.qz_doors.specs.Links.{Peer}
use Rattle.qz_http.specs.declared.items.LinkEnd.{LinkEnd}
use Rattle.qz_terms.specs.declared.ask.Ask.{Ask}
use Rattle.qz_terms.specs.declared.reply.Reply.{Reply}

-- a link that has ended: the place of the desk that served it, the link as it was taken and as it was given back, and how it ended
pub record Ending (L : Type 0) : Type 0 where
  pub place : ℕ
  pub link : L
  pub served : L
  pub why : LinkEnd

-- those of one place, in order
abbrev pub endings_at : {L : Type 0} → ℕ → List (Ending L) → List (Ending L)
endings_at k endings = filter (λ e. e.place == k) endings

-- These links were served in turn.
abbrev pub ServesThese : {L S : Type 0} → (S → S → Ask → Reply → Type 0) → (L → Peer) → S → List (Ending L) → S → Type 0
ServesThese asks peer a endings b = ServesInTurn asks peer a (map (λ e. e.link) endings) (map (λ e. e.served) endings) (map (λ e. e.why) endings) b

-- Links were taken in one order and given back in that in which they ended: these, and no others. Those of each desk were served there in turn,
-- the next by what the one before left of the desk.
pub record ServesEach {L S : Type 0} (asks : S → S → Ask → Reply → Type 0) (peer : L → Peer) (old new : Entrance L) (befores afters : List S) (taken short : ℕ) : Type 0 where
  pub links : List L
  pub endings : List (Ending L)
  pub as_many : length afters ≡ length befores
  pub desks : (k : ℕ) (a b : S) → slice_get befores k ≡ Some a → slice_get afters k ≡ Some b → ServesThese asks peer a (endings_at k endings) b
  pub somewhere : All (λ e. e.place < length befores) endings
  pub all : IsPermutation links (map (λ e. e.link) endings)
  pub left : old.left ≡ option_map (λ left. links ++ left) new.left
  pub returned : new.returned ≡ option_map (λ returned. returned ++ map (λ e. e.served) endings) old.returned
  pub taken_is : taken ≡ length endings
  pub short_is : short ≡ length (filter (λ e. is_short e.why) endings)
  pub later : old.faults ≤ new.faults
