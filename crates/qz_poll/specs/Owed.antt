-- What is owed for the bytes taken of a link.
use Rattle.std.specs.Prelude.{◌≡◌, ℕ, ◌≤◌, true, List, ◌++◌}
use Rattle.std.specs.Io.KnownBytes.{Appends, Consumes}
use Rattle.qz_terms.specs.declared.ask.Ask.{Ask}
use Rattle.qz_terms.specs.declared.reply.Reply.{Reply}
use Rattle.qz_http.specs.declared.items.Item.{Item}
use Rattle.qz_http.specs.Links.{Gives, Link, written}
use Rattle.qz_doors.specs.Answers.{Answers, RepliesTo}
use Rattle.qz_doors.specs.Links.{Peer, has_response, whole_link}
use Rattle.qz_poll.specs.Stages.{Stage}

-- The responses to the first items that these bytes ask, in order, so far as their replies are given: those to some requests, or those
-- and one to the item behind them, which is a request or a head that is refused.
pub data Owes {S : Type 0} (asks : S → S → Ask → Reply → Type 0) (bytes : List ℕ) (a : S) : List ℕ → S → Type 0 where
  requests : (items : List Item) (replies : List Reply) (owed : List ℕ) (here : Link) (b : S) → Answers asks (whole_link bytes) a items replies owed here b → Owes asks bytes a owed b
  latest : (items : List Item) (replies : List Reply) (owed : List ℕ) (here next : Link) (b c : S) (given : Item) (reply : Reply) → Answers asks (whole_link bytes) a items replies owed here b
      → has_response given ≡ true → Gives here given next → RepliesTo asks given b c reply → Owes asks bytes a (owed ++ written next given reply) c

-- Since this beginning these bytes were taken. What is written is a front of what is owed for them, and what is unsent stands behind it.
pub record IsOwing {S : Type 0} (asks : S → S → Ask → Reply → Type 0) (first : Peer) (a : S) (s : Stage S) : Type 0 where
  pub bytes : List ℕ
  pub owed : List ℕ
  pub front : List ℕ
  pub taken : Consumes first.left s.outside.peer.left bytes
  pub owes : Owes asks bytes a owed s.at
  pub written : Appends first.holds s.outside.peer.holds front
  pub split : owed ≡ front ++ s.unsent
  pub later : first.faults ≤ s.outside.peer.faults
