-- What was said at a door: the replies of the desk there, in order.
use Rattle.std.specs.Prelude.{ℕ, List, [], ◌∷◌, ◌++◌}
use mathlib.Core.Logic.{inl, inr}
use Rattle.qz_terms.specs.declared.ask.Ask.{Ask}
use Rattle.qz_terms.specs.declared.reply.Reply.{Reply}
use Rattle.qz_http.specs.declared.items.Item.{Item}
use Rattle.qz_http.specs.declared.items.Item.TheVariants as item
use Rattle.qz_http.specs.declared.items.LinkEnd.{LinkEnd}
use Rattle.qz_http.specs.declared.items.LinkEnd.TheVariants as end
use Rattle.qz_doors.specs.declared.door.DoorEnd.{DoorEnd}
use Rattle.qz_doors.specs.Doors.{Entrance, ServesDoor, ServesInTurn}
use Rattle.qz_doors.specs.Doors as turns
use Rattle.qz_doors.specs.Links.{LinkEnds, Peer, Served, ServedPart}

-- to a request that the desk was asked, and to no other
abbrev pub desk_reply : Item → Reply → List Reply
desk_reply (item.Ask asked) reply = reply ∷ []
desk_reply given reply = []

abbrev pub desk_replies : List Item → List Reply → List Reply
desk_replies (given ∷ items) (reply ∷ replies) = desk_reply given reply ++ desk_replies items replies
desk_replies items replies = []

abbrev pub served_replies : {S : Type 0} {asks : S → S → Ask → Reply → Type 0} {old new : Peer} {a b : S} {why : LinkEnd} → Served asks old new a b why → List Reply
served_replies s = desk_replies s.items s.answered.replies

abbrev pub part_replies : {S : Type 0} {asks : S → S → Ask → Reply → Type 0} {old new : Peer} {a b : S} → ServedPart asks old new a b → List Reply
part_replies s = desk_replies s.items s.answered.replies ++ desk_reply s.given s.reply

-- those at a link
abbrev pub link_replies : {S : Type 0} (asks : S → S → Ask → Reply → Type 0) (old new : Peer) (a b : S) (why : LinkEnd) → LinkEnds asks old new a b why → List Reply
link_replies asks old new a b end.End e = served_replies e.0
link_replies asks old new a b (end.Cut left) e = served_replies e.0
link_replies asks old new a b end.Closed e = served_replies e
link_replies asks old new a b (end.Bad status) e = served_replies e
link_replies asks old new a b end.Full e = served_replies e
link_replies asks old new a b end.ReadFault e = served_replies e.0.served
link_replies asks old new a b end.WriteFault e = part_replies e.0
link_replies asks old new a b end.Memory (inl first) = desk_replies first.items first.answered.replies
link_replies asks old new a b end.Memory (inr part) = part_replies part

-- those at several links
abbrev pub turn_replies : {L S : Type 0} {asks : S → S → Ask → Reply → Type 0} {peer : L → Peer} {a b : S} {links back : List L} {ends : List LinkEnd} → ServesInTurn asks peer a links back ends b → List Reply
turn_replies (turns.none a) = []
turn_replies {asks} {peer} (turns.one a b c link served why links back ends is rest) = link_replies asks (peer link) (peer served) a b why is ++ turn_replies rest

-- those at a door
abbrev pub replies_at : {L S : Type 0} {asks : S → S → Ask → Reply → Type 0} {peer : L → Peer} {most : ℕ} {old new : Entrance L} {a b : S} {result : DoorEnd} → ServesDoor asks peer most old new a b result → List Reply
replies_at d = turn_replies d.served
