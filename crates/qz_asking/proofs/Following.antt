-- What requests make of a desk, one after the other.
use Rattle.std.proofs.Common.{◌≡◌, ℕ, subst, sym}
use Rattle.qz_terms.specs.declared.ask.Ask.{Ask}
use Rattle.qz_terms.specs.declared.reply.Reply.{Reply}
use Rattle.qz_asking.specs.Following.{Follows, asked, stays}

pub follows_on : {D : Type 0} (answers : D → D → ℕ → Ask → Reply → Type 0) (a b c : D) → Follows answers a b → Follows answers b c → Follows answers a c
follows_on answers a b _ first (stays _) = first
follows_on answers a b c first (asked _ m _ now ask r more last) = asked a m c now ask r (follows_on answers a b m first more) last

pub follows_one : {D : Type 0} (answers : D → D → ℕ → Ask → Reply → Type 0) (a b : D) (now : ℕ) (ask : Ask) (r : Reply) → answers a b now ask r → Follows answers a b
follows_one answers a b now ask r last = asked a a b now ask r (stays a) last

pub follows_same : {D : Type 0} (answers : D → D → ℕ → Ask → Reply → Type 0) (a b : D) → b ≡ a → Follows answers a b
follows_same answers a b same = subst (Follows answers a) (sym same) (stays a)
