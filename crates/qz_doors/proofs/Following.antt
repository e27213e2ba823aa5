-- Serving links leads to a desk by requests alone.
use Rattle.std.proofs.Common.{ℕ, List, inl, inr, ap}
use Rattle.qz_asking.specs.Following.{Follows, stays}
use Rattle.qz_asking.proofs.Following.{follows_on, follows_one, follows_same}
use Rattle.qz_terms.specs.declared.ask.Ask.{Ask}
use Rattle.qz_terms.specs.declared.reply.Reply.{Reply}
use Rattle.qz_http.specs.declared.items.Item.{Item}
use Rattle.qz_http.specs.declared.items.Item.TheVariants as item
use Rattle.qz_http.specs.declared.items.LinkEnd.{LinkEnd}
use Rattle.qz_http.specs.declared.items.LinkEnd.TheVariants as end
use Rattle.qz_http.specs.Links.{Link}
use Rattle.qz_asking.specs.Asking.{Answerer, Asks}
use Rattle.qz_doors.specs.Answers.{Answers, RepliesTo}
use Rattle.qz_doors.specs.Answers as chain
use Rattle.qz_doors.specs.declared.door.DoorEnd.{DoorEnd}
use Rattle.qz_doors.specs.Doors.{Entrance, ServesDoor, ServesInTurn}
use Rattle.qz_doors.specs.Doors as turns
use Rattle.qz_doors.specs.Links.{LinkEnds, Peer, ServedPart, whole_link}

-- where no request leads elsewhere
by_asks : {D C : Type 0} (answers : D → D → ℕ → Ask → Reply → Type 0) (tells : C → ℕ → C → Type 0) (a b : Answerer D C) (given : Item) (r : Reply) → RepliesTo (Asks tells answers) given a b r → Follows answers a.desk b.desk
by_asks answers tells a b (item.Ask what) r s = follows_one answers a.desk b.desk _ what r s.answered
by_asks answers tells a b (item.Refused refusal) r s = follows_same answers a.desk b.desk (ap (λ (x : Answerer _ _). x.desk) s.1)
by_asks answers tells a b (item.Bare status) r s = follows_same answers a.desk b.desk (ap (λ (x : Answerer _ _). x.desk) s)
by_asks answers tells a b (item.Over why) r s = follows_same answers a.desk b.desk (ap (λ (x : Answerer _ _). x.desk) s)
by_asks answers tells a b item.Need r s = follows_same answers a.desk b.desk (ap (λ (x : Answerer _ _). x.desk) s)

by_answers : {D C : Type 0} (answers : D → D → ℕ → Ask → Reply → Type 0) (tells : C → ℕ → C → Type 0) (link here : Link) (a b : Answerer D C) (items : List Item) (said : List Reply) (output : List ℕ)
    → Answers (Asks tells answers) link a items said output here b → Follows answers a.desk b.desk
by_answers answers tells link _ a _ _ _ _ (chain.none _ _) = stays a.desk
by_answers answers tells link here a b _ _ _ (chain.one _ next _ _ m _ given reply items said output is gives replied rest) =
    follows_on answers a.desk m.desk b.desk (by_asks answers tells a m given reply replied) (by_answers answers tells next here m b items said output rest)

by_part : {D C : Type 0} (answers : D → D → ℕ → Ask → Reply → Type 0) (tells : C → ℕ → C → Type 0) (old new : Peer) (a b : Answerer D C) → ServedPart (Asks tells answers) old new a b → Follows answers a.desk b.desk
by_part answers tells old new a b s =
    follows_on answers a.desk s.b.desk b.desk (by_answers answers tells (whole_link s.bytes) s.here a s.b s.items s.answered.replies s.answered.output s.answered.answers) (by_asks answers tells s.b b s.given s.reply s.replied)

by_link : {D C : Type 0} (answers : D → D → ℕ → Ask → Reply → Type 0) (tells : C → ℕ → C → Type 0) (old new : Peer) (a b : Answerer D C) (why : LinkEnd) → LinkEnds (Asks tells answers) old new a b why → Follows answers a.desk b.desk
by_link answers tells old new a b end.End e = by_answers answers tells _ _ a b _ _ _ e.0.answered.answers
by_link answers tells old new a b (end.Cut left) e = by_answers answers tells _ _ a b _ _ _ e.0.answered.answers
by_link answers tells old new a b end.Closed e = by_answers answers tells _ _ a b _ _ _ e.answered.answers
by_link answers tells old new a b (end.Bad status) e = by_answers answers tells _ _ a b _ _ _ e.answered.answers
by_link answers tells old new a b end.Full e = by_answers answers tells _ _ a b _ _ _ e.answered.answers
by_link answers tells old new a b end.ReadFault e = by_answers answers tells _ _ a b _ _ _ e.0.served.answered.answers
by_link answers tells old new a b end.WriteFault e = by_part answers tells old new a b e.0
by_link answers tells old new a b end.Memory (inl first) = by_answers answers tells _ _ a b _ _ _ first.answered.answers
by_link answers tells old new a b end.Memory (inr part) = by_part answers tells old new a b part

by_turns : {L D C : Type 0} (answers : D → D → ℕ → Ask → Reply → Type 0) (tells : C → ℕ → C → Type 0) (peer : L → Peer) (a b : Answerer D C) (links back : List L) (ends : List LinkEnd)
    → ServesInTurn (Asks tells answers) peer a links back ends b → Follows answers a.desk b.desk
by_turns answers tells peer a _ _ _ _ (turns.none _) = stays a.desk
by_turns answers tells peer a b _ _ _ (turns.one _ m _ link served why links back ends is rest) =
    follows_on answers a.desk m.desk b.desk (by_link answers tells (peer link) (peer served) a m why is) (by_turns answers tells peer m b links back ends rest)

-- serving a door leads to a desk by requests alone
pub by_door : {L D C : Type 0} (answers : D → D → ℕ → Ask → Reply → Type 0) (tells : C → ℕ → C → Type 0) (peer : L → Peer) (most : ℕ) (old new : Entrance L) (a b : Answerer D C) (result : DoorEnd)
    → ServesDoor (Asks tells answers) peer most old new a b result → Follows answers a.desk b.desk
by_door answers tells peer most old new a b result d = by_turns answers tells peer a b d.links d.back d.ends d.served
