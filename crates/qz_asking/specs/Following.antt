-- Requests to a desk, one after the other.
use Rattle.std.specs.Prelude.{ℕ}
use Rattle.qz_terms.specs.declared.ask.Ask.{Ask}
use Rattle.qz_terms.specs.declared.reply.Reply.{Reply}

-- they lead from one desk to another
pub data Follows {D : Type 0} (answers : D → D → ℕ → Ask → Reply → Type 0) : D → D → Type 0 where
  stays : (a : D) → Follows answers a a
  asked : (a b c : D) (now : ℕ) (ask : Ask) (r : Reply) → Follows answers a b → answers b c now ask r → Follows answers a c

-- more of them lead on
pub record LeadsOn {D : Type 0} (answers : D → D → ℕ → Ask → Reply → Type 0) : Type 0 where
  pub leads : (a b c : D) → Follows answers a b → Follows answers b c → Follows answers a c
