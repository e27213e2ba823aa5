-- What is found while the records of a shard are looked at, and what is left to ask.
use Rattle.std.specs.Prelude.{◌≡◌, ℕ, ◌<◌, ◌≤◌, ◌⊎◌, nat_le, if◌then◌else◌, List, [], ◌∷◌, ◌++◌, length, take, Option, None, Some, slice_get, All}
use Rattle.qz_terms.specs.declared.record.Record.{Record}
use Rattle.qz_terms.specs.Legal.{Agrees}
use Rattle.qz_agreement.specs.declared.findings.Claim.{Claim}
use Rattle.qz_agreement.specs.declared.findings.Findings.{Findings}
use Rattle.qz_agreement.specs.declared.look.Verdict.{Verdict}
use Rattle.qz_agreement.specs.declared.look.Verdict.TheVariants as verdict
use Rattle.qz_agreement.specs.Fitting.{Fits, IsPending}

-- the record at this index of a shard's list doesn't agree
pub record IsBad (c h : List Record) (i : ℕ) : Type 0 where
  pub own : Record
  pub there : slice_get h i ≡ Some own
  pub disagrees : Agrees c (take i h) own → ⊥

-- what is asked stands for a record
pub record IsClaim (c h : List Record) (a : Claim) : Type 0 where
  pub own : Record
  pub there : slice_get h a.index ≡ Some own
  pub pends : IsPending c a.at (Fits (take a.at c) a.quiz own own.event) (Agrees c (take a.index h) own)

pub record AreFindings (c h : List Record) (f : Findings) : Type 0 where
  pub bad : (i : ℕ) → f.first ≡ Some i → IsBad c h i
  pub claims : All (IsClaim c h) f.claims.items

-- the earlier of what was found first and one more
abbrev pub earlier : Option ℕ → ℕ → ℕ
earlier None i = i
earlier (Some f) i = if nat_le f i then f else i

-- what was found first, and what is asked, once a record's verdict is known
abbrev pub first_after : Option ℕ → ℕ → Verdict → Option ℕ
first_after first i verdict.Denied = Some (earlier first i)
first_after first i v = first

abbrev pub asked_after : List Claim → ℕ → Verdict → List Claim
asked_after claims i (verdict.Pending n q) = claims ++ record { at = n; quiz = q; index = i } ∷ []
asked_after claims i v = claims

-- what was found first is no later than the record at this index
abbrev pub IsPassed : Option ℕ → ℕ → Type 0
IsPassed None i = ⊥
IsPassed (Some f) i = f ≤ i

-- one of these asks about the record there
pub record IsAsked (claims : List Claim) (i : ℕ) : Type 0 where
  pub place : ℕ
  pub ask : Claim
  pub there : slice_get claims place ≡ Some ask
  pub index : ask.index ≡ i

-- the record there agrees, or what was found first is no later
abbrev pub IsJudged : List Record → Option ℕ → List Record → ℕ → Type 0
IsJudged c first h i = ((r : Record) → slice_get h i ≡ Some r → Agrees c (take i h) r) ⊎ IsPassed first i

-- or it is asked about
abbrev pub IsSettled : List Record → Findings → List Record → ℕ → Type 0
IsSettled c f h i = IsJudged c f.first h i ⊎ IsAsked f.claims.items i

-- the records before this index were looked at, and each is settled
pub record AreLookedAt (c h : List Record) (f : Findings) (n : ℕ) : Type 0 where
  pub findings : AreFindings c h f
  pub each : (i : ℕ) → i < n → IsSettled c f h i

-- every record is judged
pub record AreJudged (c h : List Record) (first : Option ℕ) : Type 0 where
  pub bad : (i : ℕ) → first ≡ Some i → IsBad c h i
  pub each : (i : ℕ) → i < length h → IsJudged c first h i

-- These questions were answered, up to this one: a record that was asked about agrees, or what was found first is no later. What was
-- passed before still is, and what was found first is bad if it was before.
pub record AreSwept (c h : List Record) (claims : List Claim) (old new : Option ℕ) (n : ℕ) : Type 0 where
  pub passed : (i : ℕ) → IsPassed old i → IsPassed new i
  pub bad : ((i : ℕ) → old ≡ Some i → IsBad c h i) → (i : ℕ) → new ≡ Some i → IsBad c h i
  pub each : (j : ℕ) (a : Claim) → j < n → slice_get claims j ≡ Some a → IsJudged c new h a.index
