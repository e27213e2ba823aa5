-- Passes with some numbers are split.
use Rattle.std.proofs.Common.{ℕ, ◌+◌, ◌≤◌, List, [], ◌∷◌, length, arith}
use Rattle.qz_visit.specs.Holding.{Holds}
use Rattle.qz_visit.specs.Opening.{Splits}
use Rattle.qz_visit.specs.Visits.{AreOf, Locks, Seats}
use Rattle.qz_visit.proofs.Holding.{holds_given, holds_left, of_held}

-- passes which are to be split so many times more
pub record Splitting (s : Locks) (count done : ℕ) (p : Seats) : Type 0 where
  pub numbers : List ℕ
  pub held : Holds s numbers p
  pub enough : count ≤ length numbers + done

pub given_may : (s : Locks) (count done : ℕ) (p q g : Seats) → done + 1 ≤ count → Splitting s count done p → Splits p q g → AreOf s g
given_may s count done p q g more so splits = given s p q g so.numbers (let enough = so.enough in omega (arith, more, enough)) so.held splits
  where
    given : (s : Locks) (p q g : Seats) (ns : List ℕ) → 1 ≤ length ns → Holds s ns p → Splits p q g → AreOf s g
    given s p q g [] some held splits = absurd (omega arith)
    given s p q g (n ∷ ns) some held splits = of_held s n [] g (holds_given s n ns p q g held splits)

pub one_fewer : (s : Locks) (count done : ℕ) (p q g : Seats) → done + 1 ≤ count → Splitting s count done p → Splits p q g → Splitting s count (done + 1) q
one_fewer s count done p q g more so splits = left s count done p q g so.numbers (let enough = so.enough in omega (arith, more, enough)) so.enough so.held splits
  where
    left : (s : Locks) (count done : ℕ) (p q g : Seats) (ns : List ℕ) → 1 ≤ length ns → count ≤ length ns + done → Holds s ns p → Splits p q g → Splitting s count (done + 1) q
    left s count done p q g [] some enough held splits = absurd (omega arith)
    left s count done p q g (n ∷ ns) some enough held splits = record { numbers = ns; held = holds_left s n ns p q g held splits; enough = omega (arith, enough) }
