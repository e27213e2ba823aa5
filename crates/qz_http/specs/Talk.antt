-- What the bytes of a link say: the items of their requests, one after the other, and the end of the link.
use Rattle.std.specs.Prelude.{ℕ, ◌≡◌, Bool, true, false, None, List, [], ◌∷◌, ◌++◌}
use Rattle.qz_http.specs.declared.items.Item.{Item}
use Rattle.qz_http.specs.declared.items.Item.TheVariants as item
use Rattle.qz_http.specs.declared.items.LinkEnd.{LinkEnd}
use Rattle.qz_http.specs.declared.responses.Route.{Route}
use Rattle.qz_http.specs.Links.{Gives, Link, fed, new_link}

-- neither the end nor a wish for more bytes
abbrev pub is_request : Item → Bool
is_request (item.Ask asked) = true
is_request (item.Refused refusal) = true
is_request (item.Bare status) = true
is_request (item.Over why) = false
is_request item.Need = false

-- no more bytes come
abbrev pub ended_link : Link → Link
ended_link link = record link { finished = true }

-- what a link gives from here on, until it is over
pub data Talks : Link → List Item → LinkEnd → Type 0 where
  over : (link after : Link) (why : LinkEnd) → Gives link (item.Over why) after → Talks link [] why
  request : (link after : Link) (given : Item) (items : List Item) (why : LinkEnd) → is_request given ≡ true → Gives link given after
      → Talks after items why → Talks link (given ∷ items) why

-- the items and the end of these bytes, with nothing behind them
abbrev pub Talk : List ℕ → List Item → LinkEnd → Type 0
Talk bytes items why = Talks (ended_link (fed new_link bytes)) items why

-- with these bytes left and none to come, of which so many requests may be answered, a link ends so
pub record EndsSo (bytes : List ℕ) (more : ℕ) (why : LinkEnd) : Type 0 where
  pub so : (at : Route) → (items : List Item) × Talks (record { left = bytes; more = more; finished = true; over = None; route = at }) items why

-- ---- a link that is served

-- from one link to another these bytes were fed, in any pieces, and these items given, at any time between
pub data Serves : Link → List ℕ → List Item → Link → Type 0 where
  rests : (link : Link) → Serves link [] [] link
  feeds : (link after : Link) (piece bytes : List ℕ) (items : List Item) → Serves (fed link piece) bytes items after
      → Serves link (piece ++ bytes) items after
  needs : (link next after : Link) (bytes : List ℕ) (items : List Item) → Gives link item.Need next → Serves next bytes items after
      → Serves link bytes items after
  gives : (link next after : Link) (given : Item) (bytes : List ℕ) (items : List Item) → is_request given ≡ true → Gives link given next
      → Serves next bytes items after → Serves link bytes (given ∷ items) after
