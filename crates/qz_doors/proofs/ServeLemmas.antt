-- The requests of a link that are answered in turn.
use Rattle.std.proofs.Common.{◌≡◌, ◌⊎◌, inl, inr, ℕ, zero, suc, ◌+◌, ◌*◌, ◌-◌, ◌<◌, ◌≤◌, Bool, true, false, List, [], ◌∷◌, ◌++◌, length, take, drop, Option, Some, None, Ok, Err, Result, MatchResult, refl, sym, ap, ◌∙◌, subst, append-nil, append_assoc, length-append, arith}
use Rattle.std.proofs.lemmas.Bool.{false≢true}
use Rattle.std.proofs.lemmas.List.{length-drop, length-take}
use Rattle.std.specs.Prelude.{MatchOption}
use Rattle.std.specs.Io.KnownBytes.{Appends, Consumes, IsAtEnd, Keeps}
use Rattle.std.proofs.KnownBytes.{Appends-nil, Appends-trans, Consumes-kept, Consumes-nil, Consumes-trans}
use Rattle.qz_outside.specs.Causes.{HasRisen}
use Rattle.qz_outside.specs.Sources.{AppendsFront}
use Rattle.qz_terms.specs.declared.ask.Ask.{Ask}
use Rattle.qz_terms.specs.declared.reply.Reply.{Reply}
use Rattle.httparse.specs.Grammar.{print_request}
use Rattle.qz_http.specs.declared.items.Item.{Item}
use Rattle.qz_http.specs.declared.items.Item.TheVariants as item
use Rattle.qz_http.specs.declared.items.LinkEnd.{LinkEnd}
use Rattle.qz_http.specs.declared.items.LinkEnd.TheVariants as end
use Rattle.qz_http.specs.declared.responses.Route.{Route}
use Rattle.qz_http.specs.Heads.{fields_of}
use Rattle.qz_http.specs.Links.{Awaits, Gives, Link, Stays, Takes, awaiting, behind, body, body_length, end_after, ended, fed, head, head_length, new_link, refused, stays, takes, waiting, written}
use Rattle.qz_http.specs.Talk.{Talk, Talks, ended_link, is_request}
use Rattle.qz_http.specs.Talk as talks
use Rattle.qz_http.proofs.HeadLemmas.{body_within}
use Rattle.qz_http.proofs.PieceLemmas.{gives-append}
use Rattle.qz_http.proofs.TalkLemmas.{gives_at_end, no_need, same_at_need, taken_requests}
use Rattle.qz_doors.specs.Answers.{Answers, RepliesTo}
use Rattle.qz_doors.specs.Answers as chain
use Rattle.qz_doors.specs.Links.{Answered, LinkEnds, Peer, Served, ServedFirst, ServedPart, ServedSoFar, end_text, has_response, is_open, whole_link}
use Rattle.qz_doors.specs.declared.halt.Halt.{Halt}
use Rattle.qz_doors.specs.declared.halt.Halt.TheVariants as halt
use Rattle.qz_doors.specs.Steps.{AnswersItem, AnswerStops, FailsToRead, Feeds, GoesOn, IsDone, ItemStops, LeavesItem, LosesPiece, ReadStops, ReadsOn, StepEnds, StepStops, StepsOn, halt_end}
use Rattle.qz_doors.specs.Steps as steps

-- ---- answers in turn

-- one request more is answered
answers_more : {S : Type 0} (asks : S → S → Ask → Reply → Type 0) (link here next : Link) (a b c : S) (items : List Item) (said : List Reply) (output : List ℕ) (given : Item) (reply : Reply)
    → Answers asks link a items said output here b → is_request given ≡ true → Gives here given next → RepliesTo asks given b c reply
    → Answers asks link a (items ++ given ∷ []) (said ++ reply ∷ []) (output ++ written next given reply) next c
answers_more asks link _ next a _ c _ _ _ given reply (chain.none _ _) asking gives replied =
    subst (λ (o : List ℕ). Answers asks link a (given ∷ []) (reply ∷ []) o next c) (append-nil (written next given reply)) (chain.one link next next a c c given reply [] [] [] asking gives replied (chain.none next c))
answers_more asks link here next a b c _ _ _ given reply (chain.one _ mid _ _ m _ first told items said output is step replies rest) asking gives replied =
    let there = answers_more asks mid here next m b c items said output given reply rest asking gives replied in
    subst (λ (o : List ℕ). Answers asks link a (first ∷ (items ++ given ∷ [])) (told ∷ (said ++ reply ∷ [])) o next c) (sym (append_assoc (written mid first told) output (written next given reply)))
    (chain.one link mid next a m c first told (items ++ given ∷ []) (said ++ reply ∷ []) (output ++ written next given reply) is step replies there)

-- what is answered is what the link gives
answers_talk : {S : Type 0} (asks : S → S → Ask → Reply → Type 0) (link here : Link) (a b : S) (items : List Item) (said : List Reply) (output : List ℕ) (why : LinkEnd)
    → Answers asks link a items said output here b → Talks here [] why → Talks link items why
answers_talk asks link _ a _ _ _ _ why (chain.none _ _) later = later
answers_talk asks link here a b _ _ _ why (chain.one _ mid _ _ m _ given reply items said output asking gives replied rest) later =
    talks.request link mid given items why asking gives (answers_talk asks mid here m b items said output why rest later)

-- ---- what a link gives, of which more may come

-- more bytes come only before the end
abbrev pub MayCome : Link → List ℕ → Type 0
MayCome core more = core.finished ≡ true → more ≡ []

keeps_finished : (link after : Link) (given : Item) → Gives link given after → after.finished ≡ link.finished
keeps_finished link _ _ (ended why is) = refl
keeps_finished link _ _ (stays given none is) = refl
keeps_finished link _ _ (takes given rest at closing none is) = refl

nothing_behind : (core : Link) → core.finished ≡ true → ended_link (fed core []) ≡ core
nothing_behind core finished = ap (λ (l : List ℕ). ended_link (record core { left = l })) (append-nil core.left) ∙ ap (λ (b : Bool). record core { finished = b }) (sym finished)

-- what is given stays so, whatever bytes follow, and at their end
pub gives_whole : (core next : Link) (given : Item) (more : List ℕ) (finished : Bool) → core.finished ≡ finished → MayCome core more → (given ≡ item.Need → ⊥) → Gives core given next
    → Gives (ended_link (fed core more)) given (ended_link (fed next more))
gives_whole core next given more false is may decided step = gives_at_end (fed core more) (fed next more) given is decided (gives-append core next given more is decided step)
gives_whole core next given more true is may decided step =
    let there : next.finished ≡ true = keeps_finished core next given step ∙ is in
    let here : Gives (ended_link (fed core [])) given (ended_link (fed next [])) = rw (nothing_behind core is, nothing_behind next there) step in
    subst (λ (m : List ℕ). Gives (ended_link (fed core m)) given (ended_link (fed next m))) (sym (may is)) here

-- the response doesn't depend on the bytes left
pub same_response : (link : Link) (more : List ℕ) (given : Item) (reply : Reply) → written (ended_link (fed link more)) given reply ≡ written link given reply
same_response link more (item.Ask asked) reply = refl
same_response link more (item.Refused refusal) reply = refl
same_response link more (item.Bare status) reply = refl
same_response link more (item.Over end.End) reply = refl
same_response link more (item.Over (end.Cut left)) reply = refl
same_response link more (item.Over end.Closed) reply = refl
same_response link more (item.Over (end.Bad status)) reply = refl
same_response link more (item.Over end.Full) reply = refl
same_response link more (item.Over end.ReadFault) reply = refl
same_response link more (item.Over end.WriteFault) reply = refl
same_response link more (item.Over end.Memory) reply = refl
same_response link more item.Need reply = refl

-- ---- the state of a link

-- a request decides no end but these
abbrev is_decided : Option LinkEnd → Bool
is_decided None = true
is_decided (Some end.Closed) = true
is_decided (Some end.Full) = true
is_decided (Some why) = false

decides : (n : ℕ) (closing : Bool) → is_decided (end_after n closing) ≡ true
decides zero closing = refl
decides (suc n) true = refl
decides (suc n) false = refl

goes_on_some : (n : ℕ) (closing : Bool) → end_after n closing ≡ None → 0 < n
goes_on_some zero closing is = absurd cc
goes_on_some (suc n) closing is = omega arith

pub record IsLive (core : Link) : Type 0 where
  pub decided : is_decided core.over ≡ true
  pub some_more : core.over ≡ None → 0 < core.more

pub stays_live : (core next : Link) (given : Item) → IsLive core → Gives core given next → IsLive next
stays_live core _ _ live (ended why is) = live
stays_live core _ _ live (stays given none is) = live
stays_live core _ _ live (takes given rest at closing none is) = record { decided = decides (core.more - 1) closing; some_more = goes_on_some (core.more - 1) closing }

-- ---- how many steps are left

abbrev pub flag : Bool → ℕ
flag true = 0
flag false = 1

-- a link that awaits bytes has fewer than these
abbrev pub most_awaited : ℕ
most_awaited = 1056768

abbrev pub steps_left : Link → ℕ
steps_left core = core.more * (most_awaited + 2) + (most_awaited - length core.left) + flag core.finished

awaits_few : (bytes : List ℕ) → Awaits bytes → length bytes < most_awaited
awaits_few bytes (head few is) = omega (arith, few)
awaits_few bytes (body h has short) =
    let is : length (take 8192 bytes) ≡ length (print_request h ++ has.begins.0) = ap length has.begins.1.1 in
    let within : body_length h ≤ 1048576 = body_within h.method (fields_of h) has.without_fault in
    let size : head_length h ≡ length (print_request h) = refl in
    let rest : length (behind h bytes) ≡ length bytes - head_length h = length-drop (head_length h) bytes in
    omega (arith, short, within, size, rest, is, length-append (print_request h) has.begins.0, length-take 8192 bytes)

-- where more bytes are needed, the last request has decided no end, and the bytes haven't ended
pub record IsNeedy (core : Link) : Type 0 where
  pub none : core.over ≡ None
  pub awaits : Awaits core.left
  pub unfinished : core.finished ≡ false

waiting_need : (finished : Bool) (left : List ℕ) → waiting finished left ≡ item.Need → finished ≡ false
waiting_need false left is = refl
waiting_need true [] is = absurd cc
waiting_need true (b ∷ bytes) is = absurd cc

pub needy : (core next : Link) (given : Item) → given ≡ item.Need → Gives core given next → IsNeedy core
needy core _ _ need (ended why is) = absurd cc
needy core _ _ need (stays _ none (awaiting awaits)) = record { none = none; awaits = awaits; unfinished = waiting_need core.finished core.left need }
needy core _ _ need (stays _ none (refused status is)) = absurd cc
needy core _ _ need (takes given rest at closing none is) = absurd (no_need given (taken_requests core.left rest given at closing is) need)

-- a request leaves fewer steps
pub fewer_by_request : (core next : Link) (given : Item) → is_request given ≡ true → IsLive core → Gives core given next → steps_left next < steps_left core
fewer_by_request core _ _ asking live (ended why is) = absurd cc
fewer_by_request core _ _ asking live (stays given none is) = absurd (no_request core.finished core.left given is asking)
  where
    no_waiting : (finished : Bool) (left : List ℕ) → is_request (waiting finished left) ≡ true → ⊥
    no_waiting false left is = cc
    no_waiting true [] is = cc
    no_waiting true (b ∷ bytes) is = cc

    no_request : (finished : Bool) (left : List ℕ) (given : Item) → Stays finished left given → is_request given ≡ true → ⊥
    no_request finished left _ (awaiting awaits) asking = no_waiting finished left asking
    no_request finished left _ (refused status is) asking = cc
fewer_by_request core _ _ asking live (takes given rest at closing none is) =
    let some : 0 < core.more = live.some_more none in
    omega arith

-- a read leaves fewer steps
pub fewer_by_read : (core after : Link) (left : Option (List ℕ)) (piece : List ℕ) → IsNeedy core → Feeds core left piece after → steps_left after < steps_left core
fewer_by_read core _ left _ need (steps.more piece some) =
    let few = awaits_few core.left need.awaits in
    omega (arith, few, some, length-append core.left piece)
fewer_by_read core _ left _ need (steps.ended at) =
    let here : flag core.finished ≡ 1 = ap flag need.unfinished in
    omega (arith, here)

-- ---- a link that is being served

-- these bytes were read, their first requests answered, and the rest is fed
pub record IsServing {S : Type 0} (asks : S → S → Ask → Reply → Type 0) (old new : Peer) (a b : S) (core : Link) : Type 0 where
  pub bytes : List ℕ
  pub items : List Item
  pub replies : List Reply
  pub output : List ℕ
  pub taken : Consumes old.left new.left bytes
  pub ahead : (more : List ℕ) → MayCome core more → Answers asks (whole_link (bytes ++ more)) a items replies output (ended_link (fed core more)) b
  pub at_end : core.finished ≡ true → IsAtEnd new.left
  pub written : Appends old.holds new.holds output
  pub later : old.faults ≤ new.faults
  pub live : IsLive core

pub serves_none : {S : Type 0} (asks : S → S → Ask → Reply → Type 0) (old : Peer) (a : S) (core : Link) → core ≡ new_link → IsServing asks old old a a core
serves_none asks old a core fresh = rw fresh (record {
  bytes = [];
  items = [];
  replies = [];
  output = [];
  taken = Consumes-nil old.left;
  ahead = λ more may. chain.none (whole_link more) a;
  at_end = λ finished. absurd (false≢true finished);
  written = Appends-nil old.holds;
  later = omega arith;
  live = record { decided = refl; some_more = λ is. omega arith };
})

-- its answers up to now
pub answers_now : {S : Type 0} (asks : S → S → Ask → Reply → Type 0) (old new : Peer) (a b : S) (core : Link) (s : IsServing asks old new a b core)
    → Answers asks (whole_link s.bytes) a s.items s.replies s.output (ended_link (fed core [])) b
answers_now asks old new a b core s = subst (λ (l : List ℕ). Answers asks (whole_link l) a s.items s.replies s.output (ended_link (fed core [])) b) (append-nil s.bytes) (s.ahead [] (λ is. refl))

-- one more request is answered
pub serves_request : {S : Type 0} (asks : S → S → Ask → Reply → Type 0) (old mid new : Peer) (a b c : S) (core next : Link) (given : Item) → IsServing asks old mid a b core → is_request given ≡ true → Gives core given next
    → AnswersItem asks mid new b c next given → IsServing asks old new a c next
serves_request asks old mid new a b c core next given s asking step answered = record {
  bytes = s.bytes;
  items = s.items ++ given ∷ [];
  replies = s.replies ++ answered.reply ∷ [];
  output = s.output ++ written next given answered.reply;
  taken = subst (λ (l : Option (List ℕ)). Consumes old.left l s.bytes) (sym answered.apart) s.taken;
  ahead = λ more may.
      let may_here : MayCome core more = λ is. may (keeps_finished core next given step ∙ is) in
      let there = gives_whole core next given more core.finished refl may_here (no_need given asking) step in
      let longer = answers_more asks (whole_link (s.bytes ++ more)) (ended_link (fed core more)) (ended_link (fed next more)) a b c s.items s.replies s.output given answered.reply (s.ahead more may_here) asking there answered.replied in
      subst (λ (o : List ℕ). Answers asks (whole_link (s.bytes ++ more)) a (s.items ++ given ∷ []) (s.replies ++ answered.reply ∷ []) (s.output ++ o) (ended_link (fed next more)) c) (same_response next more given answered.reply) longer;
  at_end = λ finished. subst IsAtEnd (sym answered.apart) (s.at_end (sym (keeps_finished core next given step) ∙ finished));
  written = Appends-trans old.holds mid.holds new.holds s.output (written next given answered.reply) s.written answered.written;
  later = omega (arith, s.later, answered.later);
  live = stays_live core next given s.live step;
}

-- one more piece is fed
pub serves_read : {S : Type 0} (asks : S → S → Ask → Reply → Type 0) (old mid new : Peer) (a b : S) (core after : Link) → IsServing asks old mid a b core → IsNeedy core → ReadsOn mid new core after
    → IsServing asks old new a b after
serves_read asks old mid new a b core after s need r = by r.piece after r.taken r.feeds
  where
    kept : Appends old.holds new.holds s.output
    kept = subst (λ (h : Option (List ℕ)). Appends old.holds h s.output) (sym r.apart) s.written

    by : (piece : List ℕ) (after : Link) → Consumes mid.left new.left piece → Feeds core new.left piece after → IsServing asks old new a b after
    by _ _ taken (steps.more piece some) = record {
      bytes = s.bytes ++ piece;
      items = s.items;
      replies = s.replies;
      output = s.output;
      taken = Consumes-trans old.left mid.left new.left s.bytes piece s.taken taken;
      ahead = λ more may.
          let there = s.ahead (piece ++ more) (λ is. absurd (false≢true (sym need.unfinished ∙ is))) in
          let whole : s.bytes ++ (piece ++ more) ≡ (s.bytes ++ piece) ++ more = sym (append_assoc s.bytes piece more) in
          let left : core.left ++ (piece ++ more) ≡ (core.left ++ piece) ++ more = sym (append_assoc core.left piece more) in
          subst (λ (l : List ℕ). Answers asks (whole_link ((s.bytes ++ piece) ++ more)) a s.items s.replies s.output (ended_link (record core { left = l })) b) left
          (subst (λ (l : List ℕ). Answers asks (whole_link l) a s.items s.replies s.output (ended_link (fed core (piece ++ more))) b) whole there);
      at_end = λ finished. absurd (false≢true (sym need.unfinished ∙ finished));
      written = kept;
      later = omega (arith, s.later, r.later);
      live = record { decided = s.live.decided; some_more = s.live.some_more };
    }
    by _ _ taken (steps.ended at) = record {
      bytes = s.bytes;
      items = s.items;
      replies = s.replies;
      output = s.output;
      taken = subst (λ (l : List ℕ). Consumes old.left new.left l) (append-nil s.bytes) (Consumes-trans old.left mid.left new.left s.bytes [] s.taken taken);
      ahead = λ more may. subst (λ (m : List ℕ). Answers asks (whole_link (s.bytes ++ m)) a s.items s.replies s.output (ended_link (fed core m)) b) (sym (may refl)) (s.ahead [] (λ is. refl));
      at_end = λ finished. at;
      written = kept;
      later = omega (arith, s.later, r.later);
      live = record { decided = s.live.decided; some_more = s.live.some_more };
    }

-- ---- how it ends

-- it is over by what the last request decided, or because the bytes have ended, or because a head is refused
pub data IsOver (core : Link) (why : LinkEnd) : Type 0 where
  by_request : core.over ≡ Some why → IsOver core why
  by_end : core.finished ≡ true → is_open why ≡ true → IsOver core why
  by_head : (status : ℕ) → why ≡ end.Bad status → IsOver core why

over_is : (x y : LinkEnd) → item.Over x ≡ item.Over y → x ≡ y
over_is x y is = cc

waiting_over : (core : Link) (finished : Bool) (left : List ℕ) (why : LinkEnd) → core.finished ≡ finished → waiting finished left ≡ item.Over why → IsOver core why
waiting_over core false left why is ends = absurd cc
waiting_over core true [] why is ends = by_end is (subst (λ (w : LinkEnd). is_open w ≡ true) (over_is end.End why ends) refl)
waiting_over core true (b ∷ bytes) why is ends = by_end is (subst (λ (w : LinkEnd). is_open w ≡ true) (over_is (end.Cut (length (b ∷ bytes))) why ends) refl)

is_over : (core next : Link) (given : Item) (why : LinkEnd) → given ≡ item.Over why → Gives core given next → IsOver core why
is_over core _ _ why ends (ended other is) = by_request (is ∙ ap Some (over_is other why ends))
is_over core _ _ why ends (stays _ none (awaiting awaits)) = waiting_over core core.finished core.left why refl ends
is_over core _ _ why ends (stays _ none (refused status is)) = by_head status (sym (over_is (end.Bad status) why ends))
is_over core _ _ why ends (takes given rest at closing none is) = absurd (false≢true (sym (ap is_request ends) ∙ taken_requests core.left rest given at closing is))

-- all that was read is answered, and this is its end, whose response is written
serves_over : {S : Type 0} (asks : S → S → Ask → Reply → Type 0) (old mid new : Peer) (a b : S) (core next : Link) (why : LinkEnd) → IsServing asks old mid a b core → Gives core (item.Over why) next
    → Appends mid.holds new.holds (end_text why) → new.left ≡ mid.left → mid.faults ≤ new.faults → Served asks old new a b why
serves_over asks old mid new a b core next why s step text apart later =
    let no : item.Over why ≡ item.Need → ⊥ = λ is. cc in
    let last = gives_whole core next (item.Over why) [] core.finished refl (λ is. refl) no step in
    let now = answers_now asks old mid a b core s in
    record {
      bytes = s.bytes;
      items = s.items;
      here = ended_link (fed core []);
      answered = record {
        replies = s.replies;
        output = s.output;
        taken = subst (λ (l : Option (List ℕ)). Consumes old.left l s.bytes) (sym apart) s.taken;
        answers = now;
        written = Appends-trans old.holds mid.holds new.holds s.output (end_text why) s.written text;
        later = omega (arith, s.later, later);
      };
      talk = answers_talk asks (whole_link s.bytes) (ended_link (fed core [])) a b s.items s.replies s.output why now (talks.over (ended_link (fed core [])) (ended_link (fed next [])) why last);
    }

served_silent : {S : Type 0} (asks : S → S → Ask → Reply → Type 0) (old new : Peer) (a b : S) (core next : Link) (why : LinkEnd) → IsServing asks old new a b core → Gives core (item.Over why) next
    → end_text why ≡ [] → Served asks old new a b why
served_silent asks old new a b core next why s step silent =
    serves_over asks old new new a b core next why s step (subst (λ (t : List ℕ). Appends new.holds new.holds t) (sym silent) (Appends-nil new.holds)) refl (omega arith)

-- an end without a response
pub ends_silent : {S : Type 0} (asks : S → S → Ask → Reply → Type 0) (old new : Peer) (a b : S) (core next : Link) (given : Item) (why : LinkEnd) → IsServing asks old new a b core → given ≡ item.Over why
    → Gives core given next → has_response given ≡ false → LinkEnds asks old new a b why
ends_silent asks old new a b core next given why s is step silent = by why (is_over core next given why is step) (subst (λ (g : Item). Gives core g next) is step) (sym (ap has_response is) ∙ silent)
  where
    undecided : (why : LinkEnd) → is_open why ≡ true → is_decided (Some why) ≡ false
    undecided end.End is = refl
    undecided (end.Cut left) is = refl
    undecided end.Closed is = absurd cc
    undecided (end.Bad status) is = refl
    undecided end.Full is = absurd cc
    undecided end.ReadFault is = refl
    undecided end.WriteFault is = refl
    undecided end.Memory is = refl

    at_end : (why : LinkEnd) → is_open why ≡ true → IsOver core why → IsAtEnd new.left
    at_end why unfinished (by_request is) = absurd (false≢true (sym (undecided why unfinished) ∙ (sym (ap is_decided is) ∙ s.live.decided)))
    at_end why unfinished (by_end finished is) = s.at_end finished
    at_end why unfinished (by_head status is) = absurd (false≢true (sym (ap is_open is) ∙ unfinished))

    never : (why : LinkEnd) → is_decided (Some why) ≡ false → is_open why ≡ false → ((status : ℕ) → why ≡ end.Bad status → ⊥) → IsOver core why → ⊥
    never why unlikely shut good (by_request is) = false≢true (sym unlikely ∙ (sym (ap is_decided is) ∙ s.live.decided))
    never why unlikely shut good (by_end finished is) = false≢true (sym shut ∙ is)
    never why unlikely shut good (by_head status is) = good status is

    by : (why : LinkEnd) → IsOver core why → Gives core (item.Over why) next → has_response (item.Over why) ≡ false → LinkEnds asks old new a b why
    by end.End ends step silent = (served_silent asks old new a b core next end.End s step refl, at_end end.End refl ends)
    by (end.Cut left) ends step silent = (served_silent asks old new a b core next (end.Cut left) s step refl, at_end (end.Cut left) refl ends)
    by end.Closed ends step silent = served_silent asks old new a b core next end.Closed s step refl
    by (end.Bad status) ends step silent = absurd cc
    by end.Full ends step silent = served_silent asks old new a b core next end.Full s step refl
    by end.ReadFault ends step silent = absurd (never end.ReadFault refl refl (λ status is. cc) ends)
    by end.WriteFault ends step silent = absurd (never end.WriteFault refl refl (λ status is. cc) ends)
    by end.Memory ends step silent = absurd (never end.Memory refl refl (λ status is. cc) ends)

-- the refusal of a head was written
pub ends_bad : {S : Type 0} (asks : S → S → Ask → Reply → Type 0) (old mid new : Peer) (a b c : S) (core next : Link) (status : ℕ) → IsServing asks old mid a b core → Gives core (item.Over (end.Bad status)) next
    → AnswersItem asks mid new b c next (item.Over (end.Bad status)) → LinkEnds asks old new a c (end.Bad status)
ends_bad asks old mid new a b c core next status s step answered =
    subst (λ (x : _). Served asks old new a x (end.Bad status)) (sym answered.replied) (serves_over asks old mid new a b core next (end.Bad status) s step answered.written answered.apart answered.later)

-- memory was wanting between two items
pub ends_first : {S : Type 0} (asks : S → S → Ask → Reply → Type 0) (old new : Peer) (a b : S) (core : Link) → IsServing asks old new a b core → ServedFirst asks old new a b
ends_first asks old new a b core s = record {
  bytes = s.bytes;
  items = s.items;
  here = ended_link (fed core []);
  answered = record {
    replies = s.replies;
    output = s.output;
    taken = s.taken;
    answers = answers_now asks old new a b core s;
    written = subst (λ (o : List ℕ). Appends old.holds new.holds o) (sym (append-nil s.output)) s.written;
    later = s.later;
  };
}

-- a piece was read, and lost
pub ends_losing : {S : Type 0} (asks : S → S → Ask → Reply → Type 0) (old mid new : Peer) (a b : S) (core : Link) → IsServing asks old mid a b core → IsNeedy core → LosesPiece mid new → ServedFirst asks old new a b
ends_losing asks old mid new a b core s need r = record {
  bytes = s.bytes ++ r.piece;
  items = s.items;
  here = ended_link (fed core r.piece);
  answered = record {
    replies = s.replies;
    output = s.output;
    taken = Consumes-trans old.left mid.left new.left s.bytes r.piece s.taken r.taken;
    answers = s.ahead r.piece (λ is. absurd (false≢true (sym need.unfinished ∙ is)));
    written = subst (λ (h : Option (List ℕ)). Appends old.holds h (s.output ++ [])) (sym r.apart) (subst (λ (o : List ℕ). Appends old.holds mid.holds o) (sym (append-nil s.output)) s.written);
    later = omega (arith, s.later, r.later);
  };
}

abbrev open_end : List ℕ → LinkEnd
open_end [] = end.End
open_end (b ∷ bytes) = end.Cut (length (b ∷ bytes))

waiting_open : (left : List ℕ) → waiting true left ≡ item.Over (open_end left)
waiting_open [] = refl
waiting_open (b ∷ bytes) = refl

open_ends : (left : List ℕ) → is_open (open_end left) ≡ true
open_ends [] = refl
open_ends (b ∷ bytes) = refl

silent_ends : (left : List ℕ) → end_text (open_end left) ≡ []
silent_ends [] = refl
silent_ends (b ∷ bytes) = refl

-- a read failed
pub ends_reading : {S : Type 0} (asks : S → S → Ask → Reply → Type 0) (old mid new : Peer) (a b : S) (core : Link) → IsServing asks old mid a b core → IsNeedy core → FailsToRead mid new
    → ServedSoFar asks old new a b × HasRisen old.faults new.faults
ends_reading asks old mid new a b core s need r =
    let why = open_end core.left in
    let now = answers_now asks old mid a b core s in
    let here = ended_link (fed core []) in
    let step : Gives here (waiting true core.left) here = stays (waiting true core.left) need.none (subst (λ (l : List ℕ). Stays true l (waiting true core.left)) (sym (append-nil core.left)) (awaiting need.awaits)) in
    let last : Gives here (item.Over why) here = subst (λ (g : Item). Gives here g here) (waiting_open core.left) step in (
      record {
        why = why;
        unfinished = open_ends core.left;
        served = record {
          bytes = s.bytes;
          items = s.items;
          here = here;
          answered = record {
            replies = s.replies;
            output = s.output;
            taken = Consumes-kept old.left mid.left new.left s.bytes s.taken r.kept;
            answers = now;
            written = subst (λ (h : Option (List ℕ)). Appends old.holds h (s.output ++ end_text why)) (sym r.apart)
                (subst (λ (t : List ℕ). Appends old.holds mid.holds (s.output ++ t)) (sym (silent_ends core.left)) (subst (λ (o : List ℕ). Appends old.holds mid.holds o) (sym (append-nil s.output)) s.written));
            later = omega (arith, s.later, r.later);
          };
          talk = answers_talk asks (whole_link s.bytes) here a b s.items s.replies s.output why now (talks.over here here why last);
        };
      },
      λ below. omega (arith, s.later, r.risen below),
    )

pub responds_need : (given : Item) → has_response given ≡ true → given ≡ item.Need → ⊥
responds_need given responds is = false≢true (sym (ap has_response is) ∙ responds)

-- it stopped within a response
pub ends_within : {S : Type 0} (asks : S → S → Ask → Reply → Type 0) (old mid new : Peer) (a b c : S) (core next : Link) (given : Item) → IsServing asks old mid a b core → has_response given ≡ true → Gives core given next
    → LeavesItem asks mid new b c next given → ServedPart asks old new a c
ends_within asks old mid new a b c core next given s responds step left = record {
  bytes = s.bytes;
  items = s.items;
  here = ended_link (fed core []);
  b = b;
  front = left.written.front;
  rest = left.written.rest;
  answered = record {
    replies = s.replies;
    output = s.output;
    taken = subst (λ (l : Option (List ℕ)). Consumes old.left l s.bytes) (sym left.apart) s.taken;
    answers = answers_now asks old mid a b core s;
    written = Appends-trans old.holds mid.holds new.holds s.output left.written.front s.written left.written.appends;
    later = omega (arith, s.later, left.later);
  };
  given = given;
  next = ended_link (fed next []);
  reply = left.reply;
  responds = responds;
  gives = gives_whole core next given [] core.finished refl (λ is. refl) (responds_need given responds) step;
  replied = left.replied;
  split = same_response next [] given left.reply ∙ left.written.split;
}

-- ---- one step

pub need_unfinished : (core next : Link) (given : Item) → given ≡ item.Need → Gives core given next → next.finished ≡ false
need_unfinished core next given need step = keeps_finished core next given step ∙ (needy core next given need step).unfinished

pub serves_step : {S : Type 0} (asks : S → S → Ask → Reply → Type 0) (old mid new : Peer) (a b c : S) (core after : Link) → IsServing asks old mid a b core → StepsOn asks mid new b c core after → IsServing asks old new a c after
serves_step asks old mid new a b c core after s step = by step.goes
  where
    by : GoesOn asks mid new b c step.here after step.given → IsServing asks old new a c after
    by (inl went) =
        let need = needy core step.here step.given went.0 step.gives in
        let read : ReadsOn mid new core after = subst (λ (l : Link). ReadsOn mid new l after) (sym (same_at_need core step.here step.given went.0 step.gives)) went.1 in
        subst (λ (x : _). IsServing asks old new a x after) (sym went.2) (serves_read asks old mid new a b core after s need read)
    by (inr went) = subst (λ (l : Link). IsServing asks old new a c l) (sym went.2) (serves_request asks old mid new a b c core step.here step.given s went.0 step.gives went.1)

pub fewer_step : {S : Type 0} (asks : S → S → Ask → Reply → Type 0) (mid new : Peer) (b c : S) (core after : Link) → IsLive core → StepsOn asks mid new b c core after → steps_left after < steps_left core
fewer_step asks mid new b c core after live step = by step.goes
  where
    by : GoesOn asks mid new b c step.here after step.given → steps_left after < steps_left core
    by (inl went) =
        let need = needy core step.here step.given went.0 step.gives in
        let read : ReadsOn mid new core after = subst (λ (l : Link). ReadsOn mid new l after) (sym (same_at_need core step.here step.given went.0 step.gives)) went.1 in
        fewer_by_read core after new.left read.piece need read.feeds
    by (inr went) = subst (λ (l : Link). steps_left l < steps_left core) (sym went.2) (fewer_by_request core step.here step.given went.0 live step.gives)

ends_told : {S : Type 0} (asks : S → S → Ask → Reply → Type 0) (old mid new : Peer) (a b c : S) (core next : Link) (why : LinkEnd) → IsServing asks old mid a b core → Gives core (item.Over why) next
    → has_response (item.Over why) ≡ true → AnswersItem asks mid new b c next (item.Over why) → LinkEnds asks old new a c why
ends_told asks old mid new a b c core next end.End s step told answered = absurd cc
ends_told asks old mid new a b c core next (end.Cut left) s step told answered = absurd cc
ends_told asks old mid new a b c core next end.Closed s step told answered = absurd cc
ends_told asks old mid new a b c core next (end.Bad status) s step told answered = ends_bad asks old mid new a b c core next status s step answered
ends_told asks old mid new a b c core next end.Full s step told answered = absurd cc
ends_told asks old mid new a b c core next end.ReadFault s step told answered = absurd cc
ends_told asks old mid new a b c core next end.WriteFault s step told answered = absurd cc
ends_told asks old mid new a b c core next end.Memory s step told answered = absurd cc

serves_still : {S : Type 0} (asks : S → S → Ask → Reply → Type 0) (old mid new : Peer) (a b c : S) (core : Link) → new ≡ mid → c ≡ b → IsServing asks old mid a b core → IsServing asks old new a c core
serves_still asks old mid new a b c core peer same s = subst (λ (p : Peer). IsServing asks old p a c core) (sym peer) (subst (λ (x : _). IsServing asks old mid a x core) (sym same) s)

pub ends_step : {S : Type 0} (asks : S → S → Ask → Reply → Type 0) (old mid new : Peer) (a b c : S) (core : Link) (why : LinkEnd) → IsServing asks old mid a b core → StepEnds asks mid new b c core why → LinkEnds asks old new a c why
ends_step asks old mid new a b c core why s step = by step.done.1
  where
    gives : Gives core (item.Over why) step.here
    gives = subst (λ (g : Item). Gives core g step.here) step.done.0 step.gives

    by : ((has_response step.given ≡ true) × AnswersItem asks mid new b c step.here step.given) ⊎ ((has_response step.given ≡ false) × (new ≡ mid) × (c ≡ b)) → LinkEnds asks old new a c why
    by (inl told) = ends_told asks old mid new a b c core step.here why s gives (sym (ap has_response step.done.0) ∙ told.0) (subst (λ (g : Item). AnswersItem asks mid new b c step.here g) step.done.0 told.1)
    by (inr silent) = ends_silent asks old new a c core step.here step.given why (serves_still asks old mid new a b c core silent.1 silent.2 s) step.done.0 step.gives silent.0

pub stops_step : {S : Type 0} (asks : S → S → Ask → Reply → Type 0) (old mid new : Peer) (a b c : S) (core : Link) (why : Halt) → IsServing asks old mid a b core → StepStops asks mid new b c core why → LinkEnds asks old new a c (halt_end why)
stops_step asks old mid new a b c core _ s (steps.before peer same) = inl (ends_first asks old new a c core (serves_still asks old mid new a b c core peer same s))
stops_step asks old mid new a b c core _ s (steps.within given here why step stopped) = by why stopped
  where
    by : (why : Halt) → ItemStops asks mid new b c here given why → LinkEnds asks old new a c (halt_end why)
    by halt.ReadFault stopped = subst (λ (x : _). ServedSoFar asks old new a x × HasRisen old.faults new.faults) (sym stopped.2) (ends_reading asks old mid new a b core s (needy core here given stopped.0 step) stopped.1)
    by halt.WriteFault stopped = (ends_within asks old mid new a b c core here given s stopped.0 step stopped.1, λ below. omega (arith, s.later, stopped.2 below))
    by halt.Memory (inl stopped) = inl (subst (λ (x : _). ServedFirst asks old new a x) (sym stopped.2) (ends_losing asks old mid new a b core s (needy core here given stopped.0 step) stopped.1))
    by halt.Memory (inr stopped) = inr (ends_within asks old mid new a b c core here given s stopped.0 step stopped.1)

-- ---- what the calls of a step leave

pub reads_end : (old new : Peer) (core after : Link) (room : List ℕ) (count : ℕ) → count ≡ 0 → Consumes old.left new.left (take count room) × (count ≡ 0 → 0 < length room → IsAtEnd new.left) → 0 < length room
    → after ≡ ended_link core → new.holds ≡ old.holds → old.faults ≤ new.faults → ReadsOn old new core after
reads_end old new core after room count nothing bytes some is apart later = record {
  piece = [];
  taken = subst (λ (n : ℕ). Consumes old.left new.left (take n room)) nothing bytes.0;
  feeds = subst (λ (l : Link). Feeds core new.left [] l) (sym is) (steps.ended (bytes.1 nothing some));
  apart = apart;
  later = later;
}

pub reads_piece : (old new : Peer) (core after : Link) (room : List ℕ) (count : ℕ) → 0 < count → count ≤ length room → Consumes old.left new.left (take count room)
    → after ≡ fed core (take count room) → new.holds ≡ old.holds → old.faults ≤ new.faults → ReadsOn old new core after
reads_piece old new core after room count some fits taken is apart later = record {
  piece = take count room;
  taken = taken;
  feeds = subst (λ (l : Link). Feeds core new.left (take count room) l) (sym is) (steps.more (take count room) (omega (arith, some, fits, length-take count room)));
  apart = apart;
  later = later;
}

pub leaves_none : {S : Type 0} (asks : S → S → Ask → Reply → Type 0) (old : Peer) (a b : S) (here : Link) (given : Item) (reply : Reply) → RepliesTo asks given a b reply → LeavesItem asks old old a b here given
leaves_none asks old a b here given reply replied = record {
  reply = reply;
  replied = replied;
  written = record { front = []; rest = written here given reply; split = refl; appends = Appends-nil old.holds };
  apart = refl;
  later = omega arith;
}

pub answer_stops : {S : Type 0} (asks : S → S → Ask → Reply → Type 0) (old new : Peer) (a b : S) (here : Link) (given : Item) (why : Halt) → has_response given ≡ true → AnswerStops asks old new a b here given why → ItemStops asks old new a b here given why
answer_stops asks old new a b here given halt.ReadFault responds stopped = absurd stopped
answer_stops asks old new a b here given halt.WriteFault responds stopped = (responds, stopped.0, stopped.1)
answer_stops asks old new a b here given halt.Memory responds stopped = inr (responds, stopped)

pub read_stops : {S : Type 0} (asks : S → S → Ask → Reply → Type 0) (old new : Peer) (a b : S) (here : Link) (given : Item) (why : Halt) → given ≡ item.Need → b ≡ a → ReadStops old new why → ItemStops asks old new a b here given why
read_stops asks old new a b here given halt.ReadFault need same stopped = (need, stopped, same)
read_stops asks old new a b here given halt.WriteFault need same stopped = absurd stopped
read_stops asks old new a b here given halt.Memory need same stopped = inl (need, stopped, same)

pub no_response : has_response item.Need ≡ true → ⊥
no_response is = false≢true is

-- what comes of the item that was given comes of the step
pub acts_step : {S : Type 0} (asks : S → S → Ask → Reply → Type 0) (old new : Peer) (a b : S) (core here after : Link) (given : Item) (result : Result (Option LinkEnd) Halt) → Gives core given here
    → MatchResult result (λ ended. MatchOption ended (GoesOn asks old new a b here after given) (IsDone asks old new a b here given)) (ItemStops asks old new a b here given)
    → MatchResult result (λ ended. MatchOption ended (StepsOn asks old new a b core after) (StepEnds asks old new a b core)) (StepStops asks old new a b core)
acts_step asks old new a b core here after given (Ok None) gives went = record { given = given; here = here; gives = gives; goes = went }
acts_step asks old new a b core here after given (Ok (Some why)) gives done = record { given = given; here = here; gives = gives; done = done }
acts_step asks old new a b core here after given (Err why) gives stopped = steps.within given here why gives stopped

-- memory was wanting before anything was read
pub ends_unread : {S : Type 0} (asks : S → S → Ask → Reply → Type 0) (old : Peer) (a : S) → LinkEnds asks old old a a end.Memory
ends_unread asks old a = inl (ends_first asks old old a a new_link (serves_none asks old a new_link refl))
