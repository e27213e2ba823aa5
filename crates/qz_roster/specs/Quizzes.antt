-- Quizzes by number.
use Rattle.std.specs.Prelude.{◌≡◌, ℕ, ℤ, ◌<◌, ◌≤◌, Bool, true, List, [], ◌++◌, length, map, position, slice_get, nat_lt, is_some, if◌then◌else◌, Option, Some, None, option_map, option_and_then, option_to_list, unwrap_or, filter_map, vec_len, vec_capacity}
use Rattle.std.specs.Option.{option_or}
use Rattle.qz_grading.specs.declared.outcome.Behaviour.{Behaviour}
use Rattle.qz_grading.specs.Grading.{at_place, is_place}
use Rattle.qz_grading.specs.Steps.{last_of}
use Rattle.qz_terms.specs.declared.access.Settings.{Settings}
use Rattle.qz_terms.specs.declared.grades.Method.{Method}
use Rattle.qz_terms.specs.declared.record.Record.{Record}
use Rattle.qz_terms.specs.declared.request.Request.{Request}
use Rattle.qz_terms.specs.declared.request.Request.TheVariants as request
use Rattle.qz_terms.specs.Catalog.{asked, policy_by, quiz_by, quizzes, readies, remax_by, remaxed, slot_by, slots_made, times_by}
use Rattle.qz_roster.specs.declared.quizzes.Quiz.{Quiz}
use Rattle.qz_roster.specs.declared.quizzes.Quizzes.{Quizzes}
use Rattle.qz_roster.specs.declared.quizzes.Slot.{Slot}

-- ---- one quiz

-- what records tell of a quiz behind the one that made it
pub record Told : Type 0 where
  pub slots : List Slot
  pub ready : Option ℕ
  pub times : Option Settings
  pub terms : Option (Method × ℤ)

abbrev pub told : Quiz → Told
told x = record { slots = x.slots.items; ready = x.ready; times = x.times; terms = x.terms }

abbrev pub untold : Told
untold = record { slots = []; ready = None; times = None; terms = None }

-- the slots as they were made
abbrev pub made : Slot → ℕ × ℤ
made s = (s.entry, s.first)

-- the max mark that a slot got anew
abbrev pub anew_at : List Slot → ℕ → Option ℤ
anew_at ss k = option_and_then (λ (s : Slot). s.anew) (at_place ss k)

-- These are the slots of a quiz.
pub record AreSlotsOf (c : List Record) (q : ℕ) (ss : List Slot) : Type 0 where
  pub slots : map made ss ≡ slots_made c q
  pub anew : (k : ℕ) → anew_at ss k ≡ remaxed c q k

-- This is what the records tell of the quiz with this number.
pub record IsTold (c : List Record) (q : ℕ) (x : Told) : Type 0 where
  pub slots : map made x.slots ≡ slots_made c q
  pub anew : (k : ℕ) → anew_at x.slots k ≡ remaxed c q k
  pub ready : x.ready ≡ position (readies q) c
  pub times : x.times ≡ last_of (filter_map (λ r. times_by q (asked r)) c)
  pub terms : x.terms ≡ last_of (filter_map (λ r. policy_by q (asked r)) c)

-- What one record tells more, which stands at this place, from 0.
pub record TellsMore (q at : ℕ) (r : Record) (old new : Told) : Type 0 where
  pub slots : map made new.slots ≡ map made old.slots ++ option_to_list (slot_by q (asked r))
  pub anew : (k : ℕ) → anew_at new.slots k ≡ option_or (remax_by q k (asked r)) (anew_at old.slots k)
  pub ready : new.ready ≡ option_or old.ready (if readies q r then Some at else None)
  pub times : new.times ≡ option_or (times_by q (asked r)) old.times
  pub terms : new.terms ≡ option_or (policy_by q (asked r)) old.terms

-- of so many slots with so much room: a slot that is made has room
abbrev pub has_slot_room : ℕ → ℕ → Option Request → Bool
has_slot_room count room (Some (request.Slot quiz entry max)) = nat_lt count room
has_slot_room count room o = true

-- a slot that gets a new max mark is there
abbrev pub has_its_slot : ℕ → Option Request → Bool
has_its_slot count (Some (request.Remax quiz slot max)) = is_place count slot
has_its_slot count o = true

-- ---- all of them

-- the quiz that a record at this place, from 0, made
abbrev pub made_at : List Record → ℕ → Option (List ℕ × Behaviour)
made_at c at = option_and_then (λ r. quiz_by (asked r)) (slice_get c at)

-- the places of the records that made them
abbrev pub places : Quizzes → List ℕ
places z = map (λ (x : Quiz). x.at) z.quizzes.items

abbrev pub quiz_at : Quizzes → ℕ → Option Quiz
quiz_at z q = at_place z.quizzes.items q

abbrev pub told_at : Quizzes → ℕ → Told
told_at z q = unwrap_or (option_map told (quiz_at z q)) untold

-- These are the quizzes that the records tell.
pub record AreQuizzesOf (c : List Record) (z : Quizzes) : Type 0 where
  pub made : map (made_at c) (places z) ≡ map (λ n. Some n) (quizzes c)
  pub each : (q : ℕ) → IsTold c q (told_at z q)

-- ---- room for one more record

-- the quiz of whose own slots, times or terms a request tells
abbrev pub quiz_told : Option Request → Option ℕ
quiz_told (Some (request.Slot quiz entry max)) = Some quiz
quiz_told (Some (request.Remax quiz slot max)) = Some quiz
quiz_told (Some (request.Ready quiz)) = Some quiz
quiz_told (Some (request.Policy quiz method grade)) = Some quiz
quiz_told (Some (request.Times quiz opens closes limit allowed handling grace review)) = Some quiz
quiz_told o = None

abbrev pub slot_room : Option Request → Quiz → Bool
slot_room o x = has_slot_room (vec_len x.slots) (vec_capacity x.slots) o

-- the quiz that is told of is there, and has room
pub record HasToldRoom (z : Quizzes) (q : ℕ) (o : Option Request) : Type 0 where
  pub from : 1 ≤ q
  pub inside : q ≤ length z.quizzes.items
  pub room : option_map (slot_room o) (quiz_at z q) ≡ Some true
  pub there : option_map (λ (x : Quiz). has_its_slot (length x.slots.items) o) (quiz_at z q) ≡ Some true

pub record HasQuizRoom (z : Quizzes) (o : Option Request) : Type 0 where
  pub made : is_some (quiz_by o) ≡ true → vec_len z.quizzes < vec_capacity z.quizzes
  pub told : (q : ℕ) → quiz_told o ≡ Some q → option_map (slot_room o) (quiz_at z q) ≡ Some true
