-- The attempts of each quiz, in order of user and number.
use Rattle.std.specs.BTreeMap.{get}
use Rattle.std.specs.List.{list_any}
use Rattle.std.specs.Map.{keys_of}
use Rattle.std.specs.Ordering.{nat_cmp}
use Rattle.std.specs.Prelude.{◌≡◌, ℕ, Bool, false, List, IsSome, IsSomeAnd, MatchOption, ⊤, Option, filter, filter_map, map, option_map, unwrap_or}
use Rattle.qz_grading.specs.declared.refusal.AttemptId.{AttemptId}
use Rattle.qz_terms.specs.declared.record.Record.{Record}
use Rattle.qz_terms.specs.History.{attempt_at, attempt_before, same_attempt, started}
use Rattle.qz_terms.specs.Lists.{first_of, in_order}
use Rattle.qz_index.specs.declared.order.Order.{Order}
use Rattle.qz_index.specs.declared.orders.Orders.{Orders}
use Rattle.qz_room.specs.Pairs.{pair_cmp}

-- the first attempt of a quiz after this one, which needn't be there
abbrev pub attempt_after : List Record → ℕ → AttemptId → Option AttemptId
attempt_after h q after = first_of (filter (attempt_before after) (in_order attempt_before (filter_map (attempt_at q) h)))

-- ---- those of one quiz

abbrev pub key_of : AttemptId → ℕ × ℕ
key_of a = (a.user, a.nth)

abbrev pub attempt_of : ℕ × ℕ → AttemptId
attempt_of k = record { user = k.0; nth = k.1 }

abbrev pub is_ordered : Order → AttemptId → Bool
is_ordered order a = unwrap_or (get pair_cmp order.attempts (key_of a)) false

-- those that are there, in order
abbrev pub all_ordered : Order → List AttemptId
all_ordered order = map attempt_of (keys_of (filter (λ e. e.1) order.attempts.entries))

-- ---- those of all quizzes

abbrev pub is_ordered_at : Orders → ℕ → AttemptId → Bool
is_ordered_at orders q a = unwrap_or (option_map (λ o. is_ordered o a) (get nat_cmp orders.quizzes q)) false

abbrev pub HasOrderAt : Orders → ℕ → AttemptId → Type 0
HasOrderAt orders q a = IsSomeAnd (get nat_cmp orders.quizzes q) (λ o. IsSome (get pair_cmp o.attempts (key_of a)))

-- an entry for the attempt that a record starts
abbrev pub HasOrderFor : Orders → Record → Type 0
HasOrderFor orders r = MatchOption (started r) ⊤ (λ s. HasOrderAt orders s.quiz s.attempt)

-- an attempt is there if it was started at the quiz
pub record AreOrdered (orders : Orders) (h : List Record) : Type 0 where
  pub each : (q : ℕ) (a : AttemptId) → is_ordered_at orders q a ≡ list_any (same_attempt a) (filter_map (attempt_at q) h)
