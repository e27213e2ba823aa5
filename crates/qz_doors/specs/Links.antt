-- How a link ends: what was taken of it then, which of its requests are answered, and what was written.
use Rattle.std.specs.Prelude.{◌≡◌, ◌⊎◌, ℕ, ◌≤◌, Bool, true, false, List, [], ◌++◌, Option}
use Rattle.std.specs.Io.KnownBytes.{Appends, Consumes, IsAtEnd}
use Rattle.qz_outside.specs.Causes.{HasRisen}
use Rattle.qz_terms.specs.declared.ask.Ask.{Ask}
use Rattle.qz_terms.specs.declared.reply.Reply.{Reply}
use Rattle.qz_http.specs.declared.items.Item.{Item}
use Rattle.qz_http.specs.declared.items.Item.TheVariants as item
use Rattle.qz_http.specs.declared.items.LinkEnd.{LinkEnd}
use Rattle.qz_http.specs.declared.items.LinkEnd.TheVariants as end
use Rattle.qz_http.specs.Links.{Gives, Link, fed, new_link, written}
use Rattle.qz_http.specs.Responses.{bare_response}
use Rattle.qz_http.specs.Talk.{Talk, ended_link, is_request}
use Rattle.qz_doors.specs.Answers.{Answers, RepliesTo}

-- the outside of a link: the bytes left to be read and those written, where it tells them, and how often it has failed
pub record Peer : Type 0 where
  pub left : Option (List ℕ)
  pub holds : Option (List ℕ)
  pub faults : ℕ

-- a link of these bytes, with nothing behind them
abbrev pub whole_link : List ℕ → Link
whole_link bytes = ended_link (fed new_link bytes)

-- These bytes were taken, and their first requests answered, up to a link that is still to go on. What is written are the responses, and
-- this behind them.
pub record Answered {S : Type 0} (asks : S → S → Ask → Reply → Type 0) (old new : Peer) (a b : S) (bytes : List ℕ) (items : List Item) (here : Link) (behind : List ℕ) : Type 0 where
  pub replies : List Reply
  pub output : List ℕ
  pub taken : Consumes old.left new.left bytes
  pub answers : Answers asks (whole_link bytes) a items replies output here b
  pub written : Appends old.holds new.holds (output ++ behind)
  pub later : old.faults ≤ new.faults

-- a head that is refused has a response, and no other end has one
abbrev pub end_text : LinkEnd → List ℕ
end_text (end.Bad status) = bare_response status true
end_text why = []

-- all requests of the bytes taken are answered, and this is their end
pub record Served {S : Type 0} (asks : S → S → Ask → Reply → Type 0) (old new : Peer) (a b : S) (why : LinkEnd) : Type 0 where
  pub bytes : List ℕ
  pub items : List Item
  pub here : Link
  pub answered : Answered asks old new a b bytes items here (end_text why)
  pub talk : Talk bytes items why

-- the bytes end between requests, or inside one: more of them could go on
abbrev pub is_open : LinkEnd → Bool
is_open end.End = true
is_open (end.Cut left) = true
is_open why = false

-- all requests of the bytes taken are answered, and more bytes could go on
pub record ServedSoFar {S : Type 0} (asks : S → S → Ask → Reply → Type 0) (old new : Peer) (a b : S) : Type 0 where
  pub why : LinkEnd
  pub unfinished : is_open why ≡ true
  pub served : Served asks old new a b why

-- the first requests of the bytes taken are answered
pub record ServedFirst {S : Type 0} (asks : S → S → Ask → Reply → Type 0) (old new : Peer) (a b : S) : Type 0 where
  pub bytes : List ℕ
  pub items : List Item
  pub here : Link
  pub answered : Answered asks old new a b bytes items here []

-- a request, or a head that is refused
abbrev pub has_response : Item → Bool
has_response (item.Over (end.Bad status)) = true
has_response given = is_request given

-- the first requests of the bytes taken are answered, and then one more, of whose response only a front is written
pub record ServedPart {S : Type 0} (asks : S → S → Ask → Reply → Type 0) (old new : Peer) (a c : S) : Type 0 where
  pub bytes : List ℕ
  pub items : List Item
  pub here : Link
  pub b : S
  pub front : List ℕ
  pub rest : List ℕ
  pub answered : Answered asks old new a b bytes items here front
  pub given : Item
  pub next : Link
  pub reply : Reply
  pub responds : has_response given ≡ true
  pub gives : Gives here given next
  pub replied : RepliesTo asks given b c reply
  pub split : written next given reply ≡ front ++ rest

-- how serving a link ended; what answers goes from a to b
abbrev pub LinkEnds : {S : Type 0} → (S → S → Ask → Reply → Type 0) → Peer → Peer → S → S → LinkEnd → Type 0
LinkEnds asks old new a b end.End = Served asks old new a b end.End × IsAtEnd new.left
LinkEnds asks old new a b (end.Cut left) = Served asks old new a b (end.Cut left) × IsAtEnd new.left
LinkEnds asks old new a b end.Closed = Served asks old new a b end.Closed
LinkEnds asks old new a b (end.Bad status) = Served asks old new a b (end.Bad status)
LinkEnds asks old new a b end.Full = Served asks old new a b end.Full
LinkEnds asks old new a b end.ReadFault = ServedSoFar asks old new a b × HasRisen old.faults new.faults
LinkEnds asks old new a b end.WriteFault = ServedPart asks old new a b × HasRisen old.faults new.faults
LinkEnds asks old new a b end.Memory = ServedFirst asks old new a b ⊎ ServedPart asks old new a b
