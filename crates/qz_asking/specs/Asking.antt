-- A desk that is asked by a clock.
use Rattle.std.specs.Prelude.{ℕ, min}
use Rattle.qz_terms.specs.declared.ask.Ask.{Ask}
use Rattle.qz_terms.specs.declared.limits.TheConstants.{GREATEST_MOMENT}
use Rattle.qz_terms.specs.declared.reply.Reply.{Reply}

-- what answers: a desk and a clock
pub record Answerer (D C : Type 0) : Type 0 where
  pub desk : D
  pub clock : C

-- a desk is asked at the moment that the clock tells, or at the greatest where it tells a later one
pub record Asks {D C : Type 0} (tells : C → ℕ → C → Type 0) (answers : D → D → ℕ → Ask → Reply → Type 0) (a b : Answerer D C) (asked : Ask) (reply : Reply) : Type 0 where
  pub moment : ℕ
  pub told : tells a.clock moment b.clock
  pub answered : answers a.desk b.desk (min moment GREATEST_MOMENT) asked reply
