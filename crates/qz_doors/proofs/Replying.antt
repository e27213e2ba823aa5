-- Where each reply of the desk at a door leads on, so do all of them.
use Rattle.std.proofs.Common.{◌≡◌, ℕ, List, [], ◌∷◌, ◌++◌, inl, inr, sym, subst}
use Rattle.qz_terms.specs.declared.ask.Ask.{Ask}
use Rattle.qz_terms.specs.declared.reply.Reply.{Reply}
use Rattle.qz_http.specs.declared.items.Item.{Item}
use Rattle.qz_http.specs.declared.items.Item.TheVariants as item
use Rattle.qz_http.specs.declared.items.LinkEnd.{LinkEnd}
use Rattle.qz_http.specs.declared.items.LinkEnd.TheVariants as end
use Rattle.qz_http.specs.Links.{Link}
use Rattle.qz_doors.specs.Answers.{Answers, RepliesTo}
use Rattle.qz_doors.specs.Answers as chain
use Rattle.qz_doors.specs.declared.door.DoorEnd.{DoorEnd}
use Rattle.qz_doors.specs.Doors.{Entrance, ServesDoor, ServesInTurn}
use Rattle.qz_doors.specs.Doors as turns
use Rattle.qz_doors.specs.Links.{LinkEnds, Peer, Served, ServedPart, whole_link}
use Rattle.qz_doors.specs.Replying.{desk_replies, desk_reply, link_replies, part_replies, replies_at, served_replies, turn_replies}

-- a reply leads from what was asked to what is there then, and so do replies one after the other
pub record LeadOn {S : Type 0} (asks : S → S → Ask → Reply → Type 0) (leads : S → List Reply → S → Type 0) : Type 0 where
  pub none : (a : S) → leads a [] a
  pub both : (a b c : S) (front rest : List Reply) → leads a front b → leads b rest c → leads a (front ++ rest) c
  pub each : (a b : S) (asked : Ask) (r : Reply) → asks a b asked r → leads a (r ∷ []) b

module _ {S : Type 0} (asks : S → S → Ask → Reply → Type 0) (leads : S → List Reply → S → Type 0) (on : LeadOn asks leads) where
  none-said : (a b : S) → b ≡ a → leads a [] b
  none-said a b same = subst (λ (s : S). leads a [] s) (sym same) (on.none a)

  of-item : (a b : S) (given : Item) (r : Reply) → RepliesTo asks given a b r → leads a (desk_reply given r) b
  of-item a b (item.Ask asked) r replied = on.each a b asked r replied
  of-item a b (item.Refused refusal) r replied = none-said a b replied.1
  of-item a b (item.Bare status) r replied = none-said a b replied
  of-item a b (item.Over why) r replied = none-said a b replied
  of-item a b item.Need r replied = none-said a b replied

  of-answers : (link here : Link) (a b : S) (items : List Item) (said : List Reply) (output : List ℕ) → Answers asks link a items said output here b → leads a (desk_replies items said) b
  of-answers link _ a _ _ _ _ (chain.none _ _) = on.none a
  of-answers link here a b _ _ _ (chain.one _ next _ _ m _ given reply items said output is gives replied rest) =
      on.both a m b (desk_reply given reply) (desk_replies items said) (of-item a m given reply replied) (of-answers next here m b items said output rest)

  of-served : (old new : Peer) (a b : S) (why : LinkEnd) (s : Served asks old new a b why) → leads a (served_replies s) b
  of-served old new a b why s = of-answers (whole_link s.bytes) s.here a b s.items s.answered.replies s.answered.output s.answered.answers

  of-part : (old new : Peer) (a c : S) (s : ServedPart asks old new a c) → leads a (part_replies s) c
  of-part old new a c s =
      on.both a s.b c (desk_replies s.items s.answered.replies) (desk_reply s.given s.reply) (of-answers (whole_link s.bytes) s.here a s.b s.items s.answered.replies s.answered.output s.answered.answers)
      (of-item s.b c s.given s.reply s.replied)

  of-link : (old new : Peer) (a b : S) (why : LinkEnd) (e : LinkEnds asks old new a b why) → leads a (link_replies asks old new a b why e) b
  of-link old new a b end.End e = of-served old new a b end.End e.0
  of-link old new a b (end.Cut left) e = of-served old new a b (end.Cut left) e.0
  of-link old new a b end.Closed e = of-served old new a b end.Closed e
  of-link old new a b (end.Bad status) e = of-served old new a b (end.Bad status) e
  of-link old new a b end.Full e = of-served old new a b end.Full e
  of-link old new a b end.ReadFault e = of-served old new a b e.0.why e.0.served
  of-link old new a b end.WriteFault e = of-part old new a b e.0
  of-link old new a b end.Memory (inl first) = of-answers (whole_link first.bytes) first.here a b first.items first.answered.replies first.answered.output first.answered.answers
  of-link old new a b end.Memory (inr part) = of-part old new a b part

  of-turns : {L : Type 0} (peer : L → Peer) (a b : S) (links back : List L) (ends : List LinkEnd) (each : ServesInTurn asks peer a links back ends b) → leads a (turn_replies each) b
  of-turns peer a _ _ _ _ (turns.none _) = on.none a
  of-turns peer a b _ _ _ (turns.one _ m _ link served why links back ends is rest) =
      on.both a m b (link_replies asks (peer link) (peer served) a m why is) (turn_replies rest) (of-link (peer link) (peer served) a m why is) (of-turns peer m b links back ends rest)

  pub replies_lead : {L : Type 0} (peer : L → Peer) (most : ℕ) (old new : Entrance L) (a b : S) (result : DoorEnd) (d : ServesDoor asks peer most old new a b result) → leads a (replies_at d) b
  replies_lead peer most old new a b result d = of-turns peer a b d.links d.back d.ends d.served
