-- What is served over something is served over what is seen of it.
use Rattle.std.proofs.Common.{ℕ, List, [], inl, inr, ap}
use Rattle.qz_terms.specs.declared.ask.Ask.{Ask}
use Rattle.qz_terms.specs.declared.reply.Reply.{Reply}
use Rattle.qz_http.specs.declared.items.Item.{Item}
use Rattle.qz_http.specs.declared.items.Item.TheVariants as item
use Rattle.qz_http.specs.declared.items.LinkEnd.{LinkEnd}
use Rattle.qz_http.specs.declared.items.LinkEnd.TheVariants as end
use Rattle.qz_http.specs.Links.{Link}
use Rattle.qz_doors.specs.Answers.{Answers, RepliesTo}
use Rattle.qz_doors.specs.Answers as chain
use Rattle.qz_doors.specs.declared.door.DoorEnd.{DoorEnd}
use Rattle.qz_doors.specs.Doors.{Entrance, ServesDoor, ServesInTurn}
use Rattle.qz_doors.specs.Doors as turns
use Rattle.qz_doors.specs.Links.{Answered, LinkEnds, Peer, Served, ServedFirst, ServedPart, ServedSoFar, end_text}

-- whatever is asked of what answers is asked of what is seen of it
pub record Carries {S T : Type 0} (asks : S → S → Ask → Reply → Type 0) (others : T → T → Ask → Reply → Type 0) (see : S → T) : Type 0 where
  pub each : (a b : S) (asked : Ask) (r : Reply) → asks a b asked r → others (see a) (see b) asked r

carries_reply : {S T : Type 0} (asks : S → S → Ask → Reply → Type 0) (others : T → T → Ask → Reply → Type 0) (see : S → T) (a b : S) (given : Item) (r : Reply)
    → Carries asks others see → RepliesTo asks given a b r → RepliesTo others given (see a) (see b) r
carries_reply asks others see a b (item.Ask asked) r carries replied = carries.each a b asked r replied
carries_reply asks others see a b (item.Refused refusal) r carries replied = (replied.0, ap see replied.1)
carries_reply asks others see a b (item.Bare status) r carries replied = ap see replied
carries_reply asks others see a b (item.Over why) r carries replied = ap see replied
carries_reply asks others see a b item.Need r carries replied = ap see replied

carries_answers : {S T : Type 0} (asks : S → S → Ask → Reply → Type 0) (others : T → T → Ask → Reply → Type 0) (see : S → T) (link here : Link) (a b : S) (items : List Item) (said : List Reply) (output : List ℕ)
    → Carries asks others see → Answers asks link a items said output here b → Answers others link (see a) items said output here (see b)
carries_answers asks others see link _ a _ _ _ _ carries (chain.none _ _) = chain.none link (see a)
carries_answers asks others see link here a b _ _ _ carries (chain.one _ next _ _ m _ given reply items said output is gives replied rest) =
    chain.one link next here (see a) (see m) (see b) given reply items said output is gives (carries_reply asks others see a m given reply carries replied) (carries_answers asks others see next here m b items said output carries rest)

carries_answered : {S T : Type 0} (asks : S → S → Ask → Reply → Type 0) (others : T → T → Ask → Reply → Type 0) (see : S → T) (old new : Peer) (a b : S) (bytes : List ℕ) (items : List Item) (here : Link) (behind : List ℕ)
    → Carries asks others see → Answered asks old new a b bytes items here behind → Answered others old new (see a) (see b) bytes items here behind
carries_answered asks others see old new a b bytes items here behind carries s = record {
  replies = s.replies;
  output = s.output;
  taken = s.taken;
  answers = carries_answers asks others see _ here a b items s.replies s.output carries s.answers;
  written = s.written;
  later = s.later;
}

carries_served : {S T : Type 0} (asks : S → S → Ask → Reply → Type 0) (others : T → T → Ask → Reply → Type 0) (see : S → T) (old new : Peer) (a b : S) (why : LinkEnd)
    → Carries asks others see → Served asks old new a b why → Served others old new (see a) (see b) why
carries_served asks others see old new a b why carries s = record {
  bytes = s.bytes;
  items = s.items;
  here = s.here;
  answered = carries_answered asks others see old new a b s.bytes s.items s.here (end_text why) carries s.answered;
  talk = s.talk;
}

carries_so_far : {S T : Type 0} (asks : S → S → Ask → Reply → Type 0) (others : T → T → Ask → Reply → Type 0) (see : S → T) (old new : Peer) (a b : S)
    → Carries asks others see → ServedSoFar asks old new a b → ServedSoFar others old new (see a) (see b)
carries_so_far asks others see old new a b carries s = record { why = s.why; unfinished = s.unfinished; served = carries_served asks others see old new a b s.why carries s.served }

carries_first : {S T : Type 0} (asks : S → S → Ask → Reply → Type 0) (others : T → T → Ask → Reply → Type 0) (see : S → T) (old new : Peer) (a b : S)
    → Carries asks others see → ServedFirst asks old new a b → ServedFirst others old new (see a) (see b)
carries_first asks others see old new a b carries s =
    record { bytes = s.bytes; items = s.items; here = s.here; answered = carries_answered asks others see old new a b s.bytes s.items s.here [] carries s.answered }

carries_part : {S T : Type 0} (asks : S → S → Ask → Reply → Type 0) (others : T → T → Ask → Reply → Type 0) (see : S → T) (old new : Peer) (a b : S)
    → Carries asks others see → ServedPart asks old new a b → ServedPart others old new (see a) (see b)
carries_part asks others see old new a c carries s = record {
  bytes = s.bytes;
  items = s.items;
  here = s.here;
  b = see s.b;
  front = s.front;
  rest = s.rest;
  answered = carries_answered asks others see old new a s.b s.bytes s.items s.here s.front carries s.answered;
  given = s.given;
  next = s.next;
  reply = s.reply;
  responds = s.responds;
  gives = s.gives;
  replied = carries_reply asks others see s.b c s.given s.reply carries s.replied;
  split = s.split;
}

carries_end : {S T : Type 0} (asks : S → S → Ask → Reply → Type 0) (others : T → T → Ask → Reply → Type 0) (see : S → T) (old new : Peer) (a b : S) (why : LinkEnd)
    → Carries asks others see → LinkEnds asks old new a b why → LinkEnds others old new (see a) (see b) why
carries_end asks others see old new a b end.End carries e = (carries_served asks others see old new a b end.End carries e.0, e.1)
carries_end asks others see old new a b (end.Cut left) carries e = (carries_served asks others see old new a b (end.Cut left) carries e.0, e.1)
carries_end asks others see old new a b end.Closed carries e = carries_served asks others see old new a b end.Closed carries e
carries_end asks others see old new a b (end.Bad status) carries e = carries_served asks others see old new a b (end.Bad status) carries e
carries_end asks others see old new a b end.Full carries e = carries_served asks others see old new a b end.Full carries e
carries_end asks others see old new a b end.ReadFault carries e = (carries_so_far asks others see old new a b carries e.0, e.1)
carries_end asks others see old new a b end.WriteFault carries e = (carries_part asks others see old new a b carries e.0, e.1)
carries_end asks others see old new a b end.Memory carries (inl first) = inl (carries_first asks others see old new a b carries first)
carries_end asks others see old new a b end.Memory carries (inr part) = inr (carries_part asks others see old new a b carries part)

carries_turns : {L S T : Type 0} (asks : S → S → Ask → Reply → Type 0) (others : T → T → Ask → Reply → Type 0) (see : S → T) (peer : L → Peer) (a b : S) (links back : List L) (ends : List LinkEnd)
    → Carries asks others see → ServesInTurn asks peer a links back ends b → ServesInTurn others peer (see a) links back ends (see b)
carries_turns asks others see peer a _ _ _ _ carries (turns.none _) = turns.none (see a)
carries_turns asks others see peer a b _ _ _ carries (turns.one _ m _ link served why links back ends is rest) =
    turns.one (see a) (see m) (see b) link served why links back ends (carries_end asks others see (peer link) (peer served) a m why carries is) (carries_turns asks others see peer m b links back ends carries rest)

pub carries_door : {L S T : Type 0} (asks : S → S → Ask → Reply → Type 0) (others : T → T → Ask → Reply → Type 0) (see : S → T) (peer : L → Peer) (most : ℕ) (old new : Entrance L) (a b : S) (result : DoorEnd)
    → Carries asks others see → ServesDoor asks peer most old new a b result → ServesDoor others peer most old new (see a) (see b) result
carries_door asks others see peer most old new a b result carries d = record {
  links = d.links;
  back = d.back;
  ends = d.ends;
  served = carries_turns asks others see peer a b d.links d.back d.ends carries d.served;
  taken = d.taken;
  returned = d.returned;
  returns = d.returns;
  out = d.out;
  count = d.count;
  within = d.within;
  fewer = d.fewer;
  fault = d.fault;
  short = d.short;
  later = d.later;
}
