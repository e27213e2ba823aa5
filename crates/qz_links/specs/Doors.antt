-- What a door's calls leave of the links, where it tells them.
use Rattle.std.specs.Prelude.{◌≡◌, ℕ, ◌+◌, List, [], ◌∷◌, ◌++◌, Option, Result, IfSome, MatchOption, MatchResult, option_map}

-- a link was taken: the first of those left, and one more is out
pub record TakesLink {L : Type 0} (left rest : Option (List L)) (before now : ℕ) (link : L) : Type 0 where
  pub first : left ≡ option_map (λ links. link ∷ links) rest
  pub one_more : now ≡ before + 1

-- nothing was taken
pub record TakesNone {L : Type 0} (left rest : Option (List L)) (before now : ℕ) : Type 0 where
  pub stays : rest ≡ left
  pub as_many : now ≡ before

-- a call took the first of the links left; or found that none is left; or failed, and took none
abbrev pub NextLink : {L E : Type 0} → Option (List L) → Option (List L) → ℕ → ℕ → Result (Option L) E → Type 0
NextLink left rest before now result = MatchResult result
    (λ next. MatchOption next (TakesNone left rest before now × IfSome left (λ links. links ≡ [])) (TakesLink left rest before now))
    (λ _. TakesNone left rest before now)

-- a link was put behind those that were given back
abbrev pub GivesBack : {L : Type 0} → Option (List L) → Option (List L) → L → Type 0
GivesBack before now link = now ≡ option_map (λ links. links ++ link ∷ []) before

-- a door in memory: the links left, those given back, how many more were taken, the numbers of the calls of `next` that
-- are to fail, and how many calls and faults there were
pub record Doorway (L : Type 0) : Type 0 where
  pub left : List L
  pub returned : List L
  pub out : ℕ
  pub failing : List ℕ
  pub calls : ℕ
  pub faults : ℕ

-- a door over sockets: how many links were given back, how many more were taken, and how many calls failed
pub record Tally : Type 0 where
  pub returns : ℕ
  pub out : ℕ
  pub faults : ℕ
