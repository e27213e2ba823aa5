-- How long a record is. What no record keeps by itself, as how long a name is, is said here of those that are put.
use Rattle.std.specs.Prelude.{◌≡◌, ◌≤◌, Bool, true, false, List, [], length, unwrap_or}
use Rattle.qz_grading.specs.declared.limits.TheConstants.{MOST_PARTS}
use Rattle.qz_grading.specs.declared.response.Answer.{Answer}
use Rattle.qz_grading.specs.declared.response.Answer.TheVariants as answer
use Rattle.qz_grading.specs.declared.response.Step.{Step}
use Rattle.qz_grading.specs.declared.response.Step.TheVariants as step
use Rattle.qz_terms.specs.declared.plan.Bound.{Bound}
use Rattle.qz_terms.specs.declared.record.Event.{Event}
use Rattle.qz_terms.specs.declared.record.Event.TheVariants as event
use Rattle.qz_terms.specs.declared.record.Learned.{Learned}
use Rattle.qz_terms.specs.declared.record.Record.{Record}
use Rattle.qz_terms.specs.declared.request.Request.{Request}
use Rattle.qz_terms.specs.declared.request.Request.TheVariants as request
use Rattle.qz_terms.specs.declared.limits.TheConstants.{LONGEST_KEY, MOST_RECORD}
use Rattle.qz_terms.specs.Kept.{IsKept}
use Rattle.qz_terms.specs.Legal.{LearnsNew}
use Rattle.qz_terms.specs.Spelling.{spelling}

-- a name has at most 255 bytes, a token 64
abbrev pub NamesBriefly : Request → Type 0
NamesBriefly (request.User name role token) = (length name ≤ 255) × (length token ≤ LONGEST_KEY)
NamesBriefly (request.Group name) = length name ≤ 255
NamesBriefly (request.Quiz name behaviour) = length name ≤ 255
NamesBriefly x = Unit {0}

-- as many choices or answers are named as a question has
abbrev pub PicksFew : Answer → Type 0
PicksFew (answer.Picks ns) = length ns ≤ MOST_PARTS
PicksFew (answer.Match ns) = length ns ≤ MOST_PARTS
PicksFew a = Unit {0}

abbrev pub StepsBriefly : Step → Type 0
StepsBriefly (step.Save r) = PicksFew r.answer
StepsBriefly (step.Submit r) = PicksFew r.answer
StepsBriefly x = Unit {0}

-- no more questions are learned than versions are bound
abbrev pub TellsBriefly : Event → Type 0
TellsBriefly (event.Founded shards token) = length token ≤ LONGEST_KEY
TellsBriefly (event.Asked x) = NamesBriefly x
TellsBriefly (event.Started quiz nth behaviour bounds learned) = length learned ≤ length bounds
TellsBriefly (event.Acted a k x) = StepsBriefly x
TellsBriefly (event.Noted a k x) = StepsBriefly x
TellsBriefly (event.Rebound job a k bound learned) = length learned ≤ 1
TellsBriefly e = Unit {0}

abbrev pub is_import : Event → Bool
is_import (event.Asked (request.Import gift)) = true
is_import e = false

pub record IsBrief (r : Record) : Type 0 where
  pub key : length (unwrap_or r.key []) ≤ LONGEST_KEY
  pub event : TellsBriefly r.event

-- No record but an import is longer than a list takes. How long one is depends on neither its moment, its caller nor its owner:
-- so an import can be measured before its record is made. And what a list learns with a record is no more than the record binds.
pub record AreNoLonger : Type 0 where
  pub short : (r : Record) → IsKept r → IsBrief r → is_import r.event ≡ false → length (spelling r) ≤ MOST_RECORD
  pub measured : (r s : Record) → r.key ≡ s.key → r.terms ≡ s.terms → r.event ≡ s.event → length (spelling r) ≡ length (spelling s)
  pub few : (l : List Record) (bounds : List Bound) (learned : List Learned) → LearnsNew l bounds learned → length learned ≤ length bounds
