-- How the requests of a link are answered, one after the other.
use Rattle.std.specs.Prelude.{◌≡◌, ℕ, true, List, [], ◌∷◌, ◌++◌}
use Rattle.qz_terms.specs.declared.ask.Ask.{Ask}
use Rattle.qz_terms.specs.declared.reply.Reply.{Reply}
use Rattle.qz_terms.specs.declared.reply.Reply.TheVariants as replies
use Rattle.qz_http.specs.declared.items.Item.{Item}
use Rattle.qz_http.specs.declared.items.Item.TheVariants as item
use Rattle.qz_http.specs.Links.{Gives, Link, written}
use Rattle.qz_http.specs.Talk.{is_request}

-- An ask is replied to by the desk, and what is refused by its refusal. The desk isn't asked anything else.
abbrev pub RepliesTo : {S : Type 0} → (S → S → Ask → Reply → Type 0) → Item → S → S → Reply → Type 0
RepliesTo asks (item.Ask asked) a b reply = asks a b asked reply
RepliesTo asks (item.Refused refusal) a b reply = (reply ≡ replies.Refused refusal) × (b ≡ a)
RepliesTo asks (item.Bare status) a b reply = b ≡ a
RepliesTo asks (item.Over why) a b reply = b ≡ a
RepliesTo asks item.Need a b reply = b ≡ a

-- The requests that a link gives are answered in turn: their replies, and all that is written for them. Each response is that of the link
-- as it stands then.
pub data Answers {S : Type 0} (asks : S → S → Ask → Reply → Type 0) : Link → S → List Item → List Reply → List ℕ → Link → S → Type 0 where
  none : (link : Link) (a : S) → Answers asks link a [] [] [] link a
  one : (link next after : Link) (a b c : S) (given : Item) (reply : Reply) (items : List Item) (said : List Reply) (output : List ℕ) → is_request given ≡ true → Gives link given next
      → RepliesTo asks given a b reply → Answers asks next b items said output after c
      → Answers asks link a (given ∷ items) (reply ∷ said) (written next given reply ++ output) after c
