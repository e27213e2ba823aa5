-- Which choice the last response of a slot picks, and how often each was picked.
use Rattle.std.specs.Prelude.{ℕ, ◌+◌, Bool, true, false, ◌&&◌, ◌||◌, ◌==◌, nat_lt, if◌then◌else◌, List, map, length, flat_map}
use Rattle.std.specs.List.{list_any, range_with_len}
use Rattle.qz_grading.specs.declared.question.Kind.{Kind}
use Rattle.qz_grading.specs.declared.question.Kind.TheVariants as kind
use Rattle.qz_grading.specs.declared.response.Answer.{Answer}
use Rattle.qz_grading.specs.declared.response.Answer.TheVariants as answer
use Rattle.qz_grading.specs.Steps.{last}
use Rattle.qz_terms.specs.History.{Slot}
use Rattle.qz_terms.specs.Lists.{how_many, in_order}
use Rattle.qz_stats.specs.declared.rows.PickRow.{PickRow}

-- ---- the numbers of a question

-- How many numbers are told: one for each choice, from 1, and 0 for no answer. Choices are picked in these kinds alone.
abbrev pub number_count : Kind → ℕ
number_count (kind.TrueFalse right on_wrong on_right) = 3
number_count (kind.One choices) = length choices + 1
number_count (kind.Several choices) = length choices + 1
number_count k = 0

abbrev pub is_blank : Answer → Bool
is_blank answer.Blank = true
is_blank a = false

-- whether an answer picks the choice with this number
abbrev pub picks : ℕ → Answer → Bool
picks c (answer.Pick n) = n == c
picks c (answer.Picks ns) = list_any (λ n. n == c) ns
picks c a = false

-- 0 stands for the blank answer
abbrev pub tells : ℕ → Answer → Bool
tells c a = if c == 0 then is_blank a else picks c a

-- ---- versions and numbers

abbrev pub Pick : Type 0
Pick = ℕ × ℕ

-- in order of version and number
abbrev pub pick_before : Pick → Pick → Bool
pick_before a b = nat_lt a.0 b.0 || ((a.0 == b.0) && nat_lt a.1 b.1)

abbrev pub pick_of : Slot → ℕ → Pick
pick_of s c = (s.bound.version, c)

-- the version that is bound to a slot, with each number of its question
abbrev pub picks_of : Slot → List Pick
picks_of s = map (pick_of s) (range_with_len 0 (number_count s.question.kind))

abbrev pub has_pick : Pick → Slot → Bool
has_pick p s = (s.bound.version == p.0) && nat_lt p.1 (number_count s.question.kind)

-- the last response before the finish tells it
abbrev pub tells_pick : Pick → Slot → Bool
tells_pick p s = has_pick p s && tells p.1 (last s.steps).answer

-- ---- rows

abbrev pub pick_row : List Slot → Pick → PickRow
pick_row xs p = record { version = p.0; pick = p.1; count = how_many (tells_pick p) xs }

-- each version and number of these slots once, in order, with how many of them tell it
abbrev pub pick_rows : List Slot → List PickRow
pick_rows xs = map (pick_row xs) (in_order pick_before (flat_map picks_of xs))
