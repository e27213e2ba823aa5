-- Links that are served one after the other, and the door that they come from and go back to.
use Rattle.std.specs.Prelude.{◌≡◌, ◌⊎◌, ℕ, ◌+◌, ◌<◌, ◌≤◌, Bool, true, false, List, [], ◌∷◌, ◌++◌, length, filter, Option, option_map, IfSome}
use Rattle.qz_outside.specs.Causes.{HasRisen}
use Rattle.qz_terms.specs.declared.ask.Ask.{Ask}
use Rattle.qz_terms.specs.declared.reply.Reply.{Reply}
use Rattle.qz_http.specs.declared.items.LinkEnd.{LinkEnd}
use Rattle.qz_http.specs.declared.items.LinkEnd.TheVariants as end
use Rattle.qz_doors.specs.declared.door.DoorEnd.{DoorEnd}
use Rattle.qz_links.specs.Doors.{GivesBack}
use Rattle.qz_doors.specs.Links.{LinkEnds, Peer}

-- the links left and those given back, where the door tells them, how many were given back and how many more taken, and how often it failed
pub record Entrance (L : Type 0) : Type 0 where
  pub left : Option (List L)
  pub returned : Option (List L)
  pub returns : ℕ
  pub out : ℕ
  pub faults : ℕ

-- links are served in turn: what each is then, and how each ended
pub data ServesInTurn {L S : Type 0} (asks : S → S → Ask → Reply → Type 0) (peer : L → Peer) : S → List L → List L → List LinkEnd → S → Type 0 where
  none : (a : S) → ServesInTurn asks peer a [] [] [] a
  one : (a b c : S) (link served : L) (why : LinkEnd) (links back : List L) (ends : List LinkEnd) → LinkEnds asks (peer link) (peer served) a b why
      → ServesInTurn asks peer b links back ends c → ServesInTurn asks peer a (link ∷ links) (served ∷ back) (why ∷ ends) c

-- one link was taken, served and given back
pub record ServesNext {L S : Type 0} (asks : S → S → Ask → Reply → Type 0) (peer : L → Peer) (old new : Entrance L) (a b : S) (why : LinkEnd) : Type 0 where
  pub link : L
  pub served : L
  pub left : old.left ≡ option_map (λ left. link ∷ left) new.left
  pub serves : LinkEnds asks (peer link) (peer served) a b why
  pub returned : GivesBack old.returned new.returned served
  pub returns : new.returns ≡ old.returns + 1
  pub out : new.out ≡ old.out
  pub later : old.faults ≤ new.faults

-- no link was taken
pub record TakesNoLink {L : Type 0} (old new : Entrance L) : Type 0 where
  pub left : new.left ≡ old.left
  pub returned : new.returned ≡ old.returned
  pub returns : new.returns ≡ old.returns
  pub out : new.out ≡ old.out
  pub later : old.faults ≤ new.faults

abbrev pub is_short : LinkEnd → Bool
is_short end.Memory = true
is_short why = false

-- how many links are short, with one more
abbrev pub shorter : Bool → ℕ → ℕ
shorter true short = short + 1
shorter false short = short

-- At most so many links were taken, and each was served and given back, in order. Fewer were taken only where none is left, or where the
-- door failed.
pub record ServesDoor {L S : Type 0} (asks : S → S → Ask → Reply → Type 0) (peer : L → Peer) (most : ℕ) (old new : Entrance L) (a b : S) (result : DoorEnd) : Type 0 where
  pub links : List L
  pub back : List L
  pub ends : List LinkEnd
  pub served : ServesInTurn asks peer a links back ends b
  pub taken : old.left ≡ option_map (λ left. links ++ left) new.left
  pub returned : new.returned ≡ option_map (λ returned. returned ++ back) old.returned
  pub returns : new.returns ≡ old.returns + length links
  pub out : new.out ≡ old.out
  pub count : result.taken ≡ length links
  pub within : result.taken ≤ most
  pub fewer : result.taken < most → IfSome new.left (λ left. left ≡ []) ⊎ (result.fault ≡ true)
  pub fault : result.fault ≡ true → HasRisen old.faults new.faults
  pub short : result.short ≡ length (filter is_short ends)
  pub later : old.faults ≤ new.faults
