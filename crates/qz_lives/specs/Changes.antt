-- One more record, what is made before it is put, and how often it grades.
use Rattle.std.specs.Prelude.{◌≡◌, ℕ, ◌+◌, ◌<◌, ◌≤◌, Bool, true, false, ◌&&◌, ◌==◌, List, length, Option, Some, None, ℤ, is_some, IfSome, IsSomeAnd, All, if◌then◌else◌}
use Rattle.std.specs.BTreeMap.{get}
use Rattle.qz_gradebook.specs.declared.finished.Finished.{Finished}
use Rattle.qz_gradebook.specs.Totals.{Gradebook, is_there, with_total}
use Rattle.qz_grading.specs.declared.question.Question.{Question}
use Rattle.qz_grading.specs.declared.refusal.AttemptId.{AttemptId}
use Rattle.qz_grading.specs.declared.response.Step.{Step}
use Rattle.qz_grading.specs.Steps.{is_save}
use Rattle.qz_terms.specs.declared.plan.Bound.{Bound}
use Rattle.qz_terms.specs.declared.record.Event.{Event}
use Rattle.qz_terms.specs.declared.record.Event.TheVariants as event
use Rattle.qz_terms.specs.declared.record.How.TheVariants as how
use Rattle.qz_terms.specs.declared.record.Record.{Record}
use Rattle.qz_terms.specs.History.{same_attempt, slot_count, steps, version}
use Rattle.qz_terms.specs.Kept.{IsKept}
use Rattle.qz_terms.specs.Legal.{IsLegal}
use Rattle.qz_usage.specs.Usages.{AreBound}
use Rattle.qz_lives.specs.declared.lives.Lives.{Lives}
use Rattle.qz_lives.specs.declared.live.Live.{Live}
use Rattle.qz_lives.specs.declared.live.Ending.{Ending}
use Rattle.qz_lives.specs.declared.prepared.Prepared.{Prepared}
use Rattle.qz_lives.specs.declared.prepared.Prepared.TheVariants as prepared
use Rattle.qz_lives.specs.Attempts.{RowMap, by_number, finished_in, goes_on_in, key_of, live_in, run_in}
use Rattle.qz_lives.specs.Ones.{IsRoomier, has_finished, total_by}
use Rattle.qz_lives.specs.Runs.{AreFresh, CanBindAt, CanFinish, CanTakeAt, HasBoundAt, HasTakenAt, HaveFinished, HaveRoom, IsRoomy, Known}

-- the list of some shard
pub record IsLawful (h : List Record) : Type 0 where
  pub index : ℕ
  pub count : ℕ
  pub legal : IsLegal index count h
  pub kept : All IsKept h

-- the versions that are known are those that the list has learned
pub record Knows (known : Known) (h : List Record) : Type 0 where
  pub each : (entry number : ℕ) → known entry number ≡ version h entry number

-- there is room for one more attempt in the row of a user at a quiz
abbrev pub HasRowRoom : RowMap → ℕ → ℕ → Type 0
HasRowRoom rows q u = IsSomeAnd (get by_number rows (q, u)) (λ (g : Gradebook). 0 < g.room)

-- the row of an attempt is there; where the attempt doesn't stand in it, there is room for it
abbrev pub HasRow : RowMap → ℕ → AttemptId → Type 0
HasRow rows q a = IsSomeAnd (get by_number rows (q, a.user)) (λ (g : Gradebook). is_there q a g.finished ≡ false → 0 < g.room)

-- there is an entry for an attempt that starts, room for each step that the record brings, and room in the row of an attempt that is
-- finished
abbrev pub HasRoomBy : Lives → Record → Event → Type 0
HasRoomBy m r (event.Started quiz nth behaviour bounds learned) = (is_some (get by_number m.attempts (r.owner, nth)) ≡ true) × (is_some (get by_number m.going (r.owner, nth)) ≡ true)
HasRoomBy m r (event.Acted a k x) = IfSome (run_in m a k) IsRoomy
HasRoomBy m r (event.Ended a how.Finished) = IfSome (live_in m a) (λ (l : Live). HaveRoom l.slots × HasRowRoom m.rows l.begun.quiz a.user)
HasRoomBy m r e = Unit {0}

-- a start's attempt with its slots, which have no step yet, or a step's copy
abbrev pub IsPreparedBy : Known → Record → Event → Prepared → Type 0
IsPreparedBy known r (event.Started quiz nth behaviour bounds learned) (prepared.Attempt l) =
    (l.begun ≡ record { moment = r.moment; quiz = quiz; behaviour = behaviour; slots = length bounds }) × (l.ending ≡ None) × AreFresh known behaviour bounds l.slots
IsPreparedBy known r (event.Started quiz nth behaviour bounds learned) p = ⊥
IsPreparedBy known r (event.Acted a k x) (prepared.Step y) = y ≡ x
IsPreparedBy known r (event.Acted a k x) p = ⊥
IsPreparedBy known r e p = Unit {0}

-- all that takes memory is there before the record is put
pub record IsReady (m : Lives) (known : Known) (r : Record) (p : Prepared) : Type 0 where
  pub room : HasRoomBy m r r.event
  pub prepared : IsPreparedBy known r r.event p

-- At most so often does an event grade: a Save never, any other step once, a finish once for each slot; where a version is bound, once
-- for each step that is read again, and once more.
abbrev pub gradings_by : List Record → Event → ℕ
gradings_by h (event.Acted a k x) = if is_save x then 0 else 1
gradings_by h (event.Ended a how.Finished) = slot_count h a
gradings_by h (event.Rebound job a k bound learned) = length (steps h a k) + 1
gradings_by h e = 0

-- ---- growth

-- nothing that is read differs
pub record IsSame (m n : Lives) : Type 0 where
  pub lives : (a : AttemptId) → live_in n a ≡ live_in m a
  pub going : (a : AttemptId) → goes_on_in n a ≡ goes_on_in m a
  pub rows : (q u : ℕ) → finished_in n.rows q u ≡ finished_in m.rows q u

abbrev pub IsAlike : Option Live → Option Live → Type 0
IsAlike None n = n ≡ None
IsAlike (Some l) n = (k : Live) × (n ≡ Some k) × IsRoomier l k

-- nothing that is read differs, but for room
pub record AreAlike (m n : Lives) : Type 0 where
  pub lives : (a : AttemptId) → IsAlike (live_in m a) (live_in n a)
  pub going : (a : AttemptId) → goes_on_in n a ≡ goes_on_in m a
  pub rows : n.rows ≡ m.rows

-- ---- what is done to the attempts that are kept

abbrev pub HasEntry : Lives → AttemptId → Type 0
HasEntry m a = (is_some (get by_number m.attempts (key_of a)) ≡ true) × (is_some (get by_number m.going (key_of a)) ≡ true)

-- an attempt is taken out of its entry, which stays
pub record IsTakenOut (m n : Lives) (a : AttemptId) : Type 0 where
  pub entry : is_some (get by_number n.attempts (key_of a)) ≡ true
  pub others : (b : AttemptId) → same_attempt a b ≡ false → live_in n b ≡ live_in m b
  pub going : n.going ≡ m.going
  pub rows : n.rows ≡ m.rows

-- an attempt is in its entry
pub record Keeps (m n : Lives) (a : AttemptId) (l : Live) : Type 0 where
  pub here : live_in n a ≡ Some l
  pub others : (b : AttemptId) → same_attempt a b ≡ false → live_in n b ≡ live_in m b
  pub going : n.going ≡ m.going
  pub rows : n.rows ≡ m.rows

-- it goes on no more
pub record Leaves (m n : Lives) (a : AttemptId) : Type 0 where
  pub here : goes_on_in n a ≡ false
  pub others : (b : AttemptId) → same_attempt a b ≡ false → goes_on_in n b ≡ goes_on_in m b
  pub attempts : n.attempts ≡ m.attempts
  pub rows : n.rows ≡ m.rows

-- a row of a quiz and a user with a total put, if it is that of the attempt
abbrev pub row_with : ℕ → AttemptId → Option ℤ → ℕ → ℕ → List Finished → List Finished
row_with quiz a t q u fs = if (quiz == q) && (a.user == u) then with_total quiz a t fs else fs

-- the row of an attempt that is finished has its total; all else stays in each row
pub record HasPutTotal (m n : RowMap) (a : AttemptId) (l : Live) : Type 0 where
  pub total : Option ℤ
  pub total_is : (qs : List Question) → AreBound l.slots qs → total ≡ total_by l qs
  pub rows : (q u : ℕ) → finished_in n q u ≡ (if has_finished l then row_with l.begun.quiz a total q u (finished_in m q u) else finished_in m q u)

-- one attempt is now this, and goes on or not; all others stay
pub record Becomes (m n : Lives) (a : AttemptId) (l : Live) (goes_on : Bool) : Type 0 where
  pub here : live_in n a ≡ Some l
  pub others : (b : AttemptId) → same_attempt a b ≡ false → live_in n b ≡ live_in m b
  pub going : goes_on_in n a ≡ goes_on
  pub going_others : (b : AttemptId) → same_attempt a b ≡ false → goes_on_in n b ≡ goes_on_in m b

-- the slots are as many as it began with, at most 200
abbrev pub IsCounted : Live → Type 0
IsCounted l = (l.begun.slots ≡ length l.slots) × (length l.slots ≤ 200)

-- the total of an attempt may be put into its row, if it is finished
pub record CanPutTotal (rows : RowMap) (a : AttemptId) (l : Live) : Type 0 where
  pub number : 0 < a.nth
  pub row : has_finished l ≡ true → HasRow rows l.begun.quiz a

-- an attempt that is kept, and what may be done to it
pub record CanAct (known : Known) (m : Lives) (a : AttemptId) (k : ℕ) (x : Step) : Type 0 where
  pub live : Live
  pub there : live_in m a ≡ Some live
  pub can : CanTakeAt known live.slots k x
  pub total : CanPutTotal m.rows a live

pub record CanRebind (known : Known) (m : Lives) (a : AttemptId) (k : ℕ) (b : Bound) : Type 0 where
  pub live : Live
  pub there : live_in m a ≡ Some live
  pub can : CanBindAt known live.slots k b
  pub total : CanPutTotal m.rows a live

pub record CanEnd (known : Known) (m : Lives) (a : AttemptId) : Type 0 where
  pub live : Live
  pub there : live_in m a ≡ Some live
  pub counted : IsCounted live
  pub can : CanFinish known live.slots
  pub number : 0 < a.nth
  pub row : HasRow m.rows live.begun.quiz a

-- and what was done to it
pub record HasActed (known : Known) (m n : Lives) (a : AttemptId) (k : ℕ) (x : Step) : Type 0 where
  pub live : Live
  pub there : live_in m a ≡ Some live
  pub next : Live
  pub becomes : Becomes m n a next (goes_on_in m a)
  pub taken : HasTakenAt known live.slots next.slots k x
  pub rest : next ≡ record live { slots = next.slots }
  pub row : HasPutTotal m.rows n.rows a next

pub record HasRebound (known : Known) (m n : Lives) (a : AttemptId) (k : ℕ) (b : Bound) : Type 0 where
  pub live : Live
  pub there : live_in m a ≡ Some live
  pub next : Live
  pub becomes : Becomes m n a next (goes_on_in m a)
  pub anew : HasBoundAt known live.slots next.slots k b
  pub rest : next ≡ record live { slots = next.slots }
  pub row : HasPutTotal m.rows n.rows a next

pub record HasFinished (known : Known) (m n : Lives) (a : AttemptId) (e : Ending) : Type 0 where
  pub live : Live
  pub there : live_in m a ≡ Some live
  pub next : Live
  pub becomes : Becomes m n a next false
  pub finished : HaveFinished known live.slots next.slots
  pub rest : next ≡ record live { ending = Some e; slots = next.slots }
  pub row : HasPutTotal m.rows n.rows a next

pub record HasAbandoned (m n : Lives) (a : AttemptId) (e : Ending) : Type 0 where
  pub live : Live
  pub there : live_in m a ≡ Some live
  pub becomes : Becomes m n a (record live { ending = Some e }) false
  pub rows : n.rows ≡ m.rows
