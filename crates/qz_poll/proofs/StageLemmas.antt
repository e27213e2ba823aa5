-- From stage to stage of a link that is served.
use Rattle.std.proofs.Common.{◌≡◌, inl, inr, ℕ, ◌+◌, ◌^◌, ◌<◌, ◌≤◌, true, List, [], ◌∷◌, ◌++◌, length, take, drop, Option, Some, None, refl, sym, ap, ◌∙◌, subst, append-nil, append_assoc, arith}
use Rattle.std.proofs.lemmas.Bool.{false≢true}
use Rattle.std.specs.Io.KnownBytes.{Appends, Consumes, IsAtEnd, Keeps}
use Rattle.std.proofs.KnownBytes.{Appends-nil, Appends-trans, Consumes-kept, Keeps-refl}
use Rattle.std.proofs.lemmas.List.{take_rest}
use Rattle.qz_outside.specs.Causes.{HasRisen}
use Rattle.qz_outside.specs.Sources.{WritesOn}
use Rattle.qz_outside.proofs.Steps.{writes_more}
use Rattle.qz_terms.specs.declared.ask.Ask.{Ask}
use Rattle.qz_terms.specs.declared.reply.Reply.{Reply}
use Rattle.qz_http.specs.declared.items.Item.{Item}
use Rattle.qz_http.specs.declared.items.Item.TheVariants as item
use Rattle.qz_http.specs.declared.items.LinkEnd.{LinkEnd}
use Rattle.qz_http.specs.declared.items.LinkEnd.TheVariants as end
use Rattle.qz_http.specs.Links.{Gives, Link, ended, fed, new_link, stays, takes, written}
use Rattle.qz_http.specs.Talk.{ended_link, is_request}
use Rattle.qz_http.proofs.TalkLemmas.{same_at_need, taken_requests}
use Rattle.qz_doors.specs.declared.halt.Halt.TheVariants as halt
use Rattle.qz_doors.specs.Links.{LinkEnds, Peer, ServedSoFar, has_response}
use Rattle.qz_doors.specs.Steps.{AnswersItem, FailsToRead, Feeds, LeavesItem, StepsOn}
use Rattle.qz_doors.specs.Steps as steps
use Rattle.qz_doors.proofs.ServeLemmas.{IsLive, IsNeedy, IsServing, answers_now, ends_first, ends_reading, ends_step, fewer_by_request, fewer_step, gives_whole, leaves_none, needy, responds_need, same_response, serves_none, serves_request, serves_step, steps_left, stops_step}
use Rattle.qz_poll.specs.declared.step.Step.{Step}
use Rattle.qz_poll.specs.declared.step.Step.TheVariants as step
use Rattle.qz_poll.specs.Outsides.{IsLater, Outside}
use Rattle.qz_poll.specs.Owed.{IsOwing, latest, requests}
use Rattle.qz_poll.specs.Stages.{IsAnswering, IsUnderWay, Stage, between, decided, within}
use Rattle.qz_poll.specs.Steps.{HowAnswered, HowRead, IsFurther, Leaves, Pauses, Responds, SendsOn, stalled, undecided, waited, work_left}

-- ---- lists, items and counts

front_empty : (front rest : List ℕ) → [] ≡ front ++ rest → front ≡ []
front_empty [] rest is = refl
front_empty (x ∷ front) rest is = absurd cc

rest_empty : (front rest : List ℕ) → [] ≡ front ++ rest → rest ≡ []
rest_empty [] rest is = sym is
rest_empty (x ∷ front) rest is = absurd cc

-- an item that decides no end and has a response is a request
asking : (given : Item) → has_response given ≡ true → decided given ≡ None → is_request given ≡ true
asking (item.Ask asked) responds free = refl
asking (item.Refused refusal) responds free = refl
asking (item.Bare status) responds free = refl
asking (item.Over why) responds free = absurd cc
asking item.Need responds free = absurd cc

undecides : (given : Item) → is_request given ≡ true → decided given ≡ None
undecides (item.Ask asked) asks = refl
undecides (item.Refused refusal) asks = refl
undecides (item.Bare status) asks = refl
undecides (item.Over why) asks = absurd cc
undecides item.Need asks = absurd cc

given_over : (given : Item) (why : LinkEnd) → decided given ≡ Some why → given ≡ item.Over why
given_over (item.Ask asked) why is = absurd cc
given_over (item.Refused refusal) why is = absurd cc
given_over (item.Bare status) why is = absurd cc
given_over (item.Over other) why is = cc
given_over item.Need why is = absurd cc

-- where a link is over it stays as it was
same_at_over : (core next : Link) (given : Item) (why : LinkEnd) → given ≡ item.Over why → Gives core given next → next ≡ core
same_at_over core _ _ why over (ended other is) = refl
same_at_over core _ _ why over (stays given none is) = refl
same_at_over core _ _ why over (takes given rest at closing none is) = absurd (false≢true (sym (ap is_request over) ∙ taken_requests core.left rest given at closing is))

-- a request leaves one fewer to come
one_fewer : (core next : Link) (given : Item) → IsLive core → is_request given ≡ true → Gives core given next → core.more ≡ next.more + 1
one_fewer core _ _ live asks (ended why is) = absurd cc
one_fewer core _ _ live asks (stays given none is) = absurd (omega (arith, fewer_by_request core core given asks live (stays given none is)))
one_fewer core _ _ live asks (takes given rest at closing none is) =
    let some : 0 < core.more = live.some_more none in
    omega arith

-- and a read none
feeds_same : (core after : Link) (left : Option (List ℕ)) (piece : List ℕ) → Feeds core left piece after → after.more ≡ core.more
feeds_same core _ left _ (steps.more piece some) = refl
feeds_same core _ left _ (steps.ended at) = refl

pub later_same : (o : Outside) → IsLater o o
later_same o = record { key = refl; waits = omega arith; stalls = omega arith }

pub later_still : (o p q : Outside) → IsLater o p → IsLater p q → IsLater o q
later_still o p q first second = record { key = second.key ∙ first.key; waits = omega (arith, first.waits, second.waits); stalls = omega (arith, first.stalls, second.stalls) }

-- one more front of what is unsent was taken
pub sends_more : (old mid new : Outside) (bytes rest : List ℕ) (n : ℕ) → SendsOn old mid bytes rest → Appends mid.peer.holds new.peer.holds (take n rest) → new.peer.left ≡ mid.peer.left
    → mid.peer.faults ≤ new.peer.faults → IsLater mid new → SendsOn old new bytes (drop n rest)
sends_more old mid new bytes rest n sends appends apart faults later = record {
  writes = subst (λ (l : List ℕ). WritesOn old.peer.holds new.peer.holds old.peer.faults new.peer.faults bytes l) (take_rest rest n)
      (writes_more old.peer.holds mid.peer.holds new.peer.holds old.peer.faults mid.peer.faults new.peer.faults bytes rest n sends.writes appends faults);
  apart = apart ∙ sends.apart;
  later = later_still old mid new sends.later later;
}

pub sends_nothing : (o : Outside) (bytes : List ℕ) → SendsOn o o bytes bytes
sends_nothing o bytes = record { writes = record { front = []; split = refl; appends = Appends-nil o.peer.holds; later = omega arith }; apart = refl; later = later_same o }

-- from whatever beginning the link was under way, it is still, and so many more requests have their replies
pub record KeepsOn {S : Type 0} (asks : S → S → Ask → Reply → Type 0) (old new : Stage S) (answered : ℕ) : Type 0 where
  pub each : (first : Peer) (a : S) → IsUnderWay asks first a old → IsFurther asks first a old new answered

module _ {S : Type 0} (asks : S → S → Ask → Reply → Type 0) (first : Peer) (a : S) where
  -- ---- a link that is served, and its outside

  -- between two responses its outside may move on
  moved : (mid new : Peer) (b : S) (core : Link) → IsServing asks first mid a b core → Keeps mid.left new.left → (core.finished ≡ true → IsAtEnd new.left)
      → Appends mid.holds new.holds [] → mid.faults ≤ new.faults → IsServing asks first new a b core
  moved mid new b core s kept at_end same later = record {
    bytes = s.bytes;
    items = s.items;
    replies = s.replies;
    output = s.output;
    taken = Consumes-kept first.left mid.left new.left s.bytes s.taken kept;
    ahead = s.ahead;
    at_end = at_end;
    written = subst (λ (o : List ℕ). Appends first.holds new.holds o) (append-nil s.output) (Appends-trans first.holds mid.holds new.holds s.output [] s.written same);
    later = omega (arith, s.later, later);
    live = s.live;
  }

  -- each whole request of the bytes taken is answered
  so_far : (now : Peer) (b : S) (core : Link) → IsServing asks first now a b core → IsNeedy core → ServedSoFar asks first now a b
  so_far now b core s need =
      let high : Peer = record { left = now.left; holds = now.holds; faults = now.faults + 2 ^ 64 } in
      let fails : FailsToRead now high = record { kept = Keeps-refl now.left; apart = refl; later = omega arith; risen = λ below. omega arith } in
      let r = (ends_reading asks first now high a b core s need fails).0 in
      record {
        why = r.why;
        unfinished = r.unfinished;
        served = record {
          bytes = r.served.bytes;
          items = r.served.items;
          here = r.served.here;
          answered = record {
            replies = r.served.answered.replies;
            output = r.served.answered.output;
            taken = r.served.answered.taken;
            answers = r.served.answered.answers;
            written = r.served.answered.written;
            later = s.later;
          };
          talk = r.served.talk;
        };
      }

  -- ---- writing

  -- more of the latest response is written
  abbrev leaves_less : (old : Stage S) (o : Outside) (rest : List ℕ) (w : IsAnswering asks first a old) → SendsOn old.outside o old.unsent rest → LeavesItem asks w.mid o.peer w.b old.at old.core w.given
  leaves_less old o rest w sends = record {
    reply = w.left.reply;
    replied = w.left.replied;
    written = record {
      front = w.left.written.front ++ sends.writes.front;
      rest = rest;
      split = w.left.written.split ∙ ap (λ (l : List ℕ). w.left.written.front ++ l) (w.unsent_is ∙ sends.writes.split) ∙ sym (append_assoc w.left.written.front sends.writes.front rest);
      appends = Appends-trans w.mid.holds old.outside.peer.holds o.peer.holds w.left.written.front sends.writes.front w.left.written.appends sends.writes.appends;
    };
    apart = sends.apart ∙ w.left.apart;
    later = omega (arith, w.left.later, sends.writes.later);
  }

  pub sends_on : (old : Stage S) (o : Outside) (rest : List ℕ) → IsUnderWay asks first a old → SendsOn old.outside o old.unsent rest
      → IsUnderWay asks first a (record old { outside = o; unsent = rest })
  sends_on old o rest (between s none free) sends =
      let split : [] ≡ sends.writes.front ++ rest = sym none ∙ sends.writes.split in
      let kept : Keeps old.outside.peer.left o.peer.left = subst (λ (l : Option (List ℕ)). Keeps old.outside.peer.left l) (sym sends.apart) (Keeps-refl old.outside.peer.left) in
      let same : Appends old.outside.peer.holds o.peer.holds [] = subst (λ (l : List ℕ). Appends old.outside.peer.holds o.peer.holds l) (front_empty sends.writes.front rest split) sends.writes.appends in
      between (moved old.outside.peer o.peer old.at old.core s kept (λ finished. subst IsAtEnd (sym sends.apart) (s.at_end finished)) same sends.writes.later) (rest_empty sends.writes.front rest split) free
  sends_on old o rest (within w) sends = within (record {
    mid = w.mid;
    before = w.before;
    b = w.b;
    given = w.given;
    serving = w.serving;
    gives = w.gives;
    responds = w.responds;
    left = leaves_less old o rest w sends;
    unsent_is = refl;
    over_is = w.over_is;
  })

  -- a write failed
  pub ends_unsent : (old : Stage S) (o : Outside) (rest : List ℕ) → IsUnderWay asks first a old → SendsOn old.outside o old.unsent rest → HasRisen old.outside.peer.faults o.peer.faults → 0 < length rest
      → LinkEnds asks first o.peer a old.at end.WriteFault
  ends_unsent old o rest (between s none free) sends risen some =
      let split : [] ≡ sends.writes.front ++ rest = sym none ∙ sends.writes.split in
      absurd (omega (arith, some, ap (length {A = ℕ}) (rest_empty sends.writes.front rest split)))
  ends_unsent old o rest (within w) sends risen some =
      stops_step asks first w.mid o.peer a w.b old.at w.before halt.WriteFault w.serving
      (steps.within w.given old.core halt.WriteFault w.gives (w.responds, leaves_less old o rest w sends, λ below. omega (arith, w.left.later, risen below)))

  -- all of the latest response is written
  whole : (s : Stage S) (w : IsAnswering asks first a s) → s.unsent ≡ [] → AnswersItem asks w.mid s.outside.peer w.b s.at s.core w.given
  whole s w none =
      let all : written s.core w.given w.left.reply ≡ w.left.written.front = w.left.written.split ∙ ap (λ (l : List ℕ). w.left.written.front ++ l) (w.unsent_is ∙ none) ∙ append-nil w.left.written.front in
      record {
        reply = w.left.reply;
        replied = w.left.replied;
        written = subst (λ (l : List ℕ). Appends w.mid.holds s.outside.peer.holds l) (sym all) w.left.written.appends;
        apart = w.left.apart;
        later = w.left.later;
      }

  pub rests : (s : Stage S) → IsUnderWay asks first a s → s.unsent ≡ [] → s.over ≡ None → IsServing asks first s.outside.peer a s.at s.core
  rests s (between serving none free) sent unended = serving
  rests s (within w) sent unended =
      serves_request asks first w.mid s.outside.peer a w.b s.at w.before s.core w.given w.serving (asking w.given w.responds (sym w.over_is ∙ unended)) w.gives (whole s w sent)

  -- the response to the latest item, which decided the end, is written
  pub ends_sent : (s : Stage S) (why : LinkEnd) → IsUnderWay asks first a s → s.unsent ≡ [] → s.over ≡ Some why → LinkEnds asks first s.outside.peer a s.at why
  ends_sent s why (between serving none free) sent over = absurd cc
  ends_sent s why (within w) sent over =
      ends_step asks first w.mid s.outside.peer a w.b s.at w.before why w.serving
      (record { given = w.given; here = s.core; gives = w.gives; done = (given_over w.given why (sym w.over_is ∙ over), inl (w.responds, whole s w sent)) })

  -- ---- what is owed

  pub owing : (s : Stage S) → IsUnderWay asks first a s → IsOwing asks first a s
  owing s (between serving none free) = record {
    bytes = serving.bytes;
    owed = serving.output;
    front = serving.output;
    taken = serving.taken;
    owes = requests serving.items serving.replies serving.output (ended_link (fed s.core [])) s.at (answers_now asks first s.outside.peer a s.at s.core serving);
    written = serving.written;
    split = sym (append-nil serving.output) ∙ ap (λ (l : List ℕ). serving.output ++ l) (sym none);
    later = serving.later;
  }
  owing s (within w) =
      let here = ended_link (fed w.before []) in
      let next = ended_link (fed s.core []) in
      let step : Gives here w.given next = gives_whole w.before s.core w.given [] w.before.finished refl (λ is. refl) (responds_need w.given w.responds) w.gives in
      let response : written next w.given w.left.reply ≡ w.left.written.front ++ s.unsent =
      same_response s.core [] w.given w.left.reply ∙ w.left.written.split ∙ ap (λ (l : List ℕ). w.left.written.front ++ l) w.unsent_is in
      record {
        bytes = w.serving.bytes;
        owed = w.serving.output ++ written next w.given w.left.reply;
        front = w.serving.output ++ w.left.written.front;
        taken = subst (λ (l : Option (List ℕ)). Consumes first.left l w.serving.bytes) (sym w.left.apart) w.serving.taken;
        owes = latest w.serving.items w.serving.replies w.serving.output here next w.b s.at w.given w.left.reply (answers_now asks first w.mid a w.b w.before w.serving) w.responds step w.left.replied;
        written = Appends-trans first.holds w.mid.holds s.outside.peer.holds w.serving.output w.left.written.front w.serving.written w.left.written.appends;
        split = ap (λ (l : List ℕ). w.serving.output ++ l) response ∙ sym (append_assoc w.serving.output w.left.written.front s.unsent);
        later = omega (arith, w.serving.later, w.left.later);
      }

  -- ---- answering

  -- the response of an item is to be written
  filled : (old : Stage S) (here : Link) (given : Item) (b : S) (unsent : List ℕ) → IsServing asks first old.outside.peer a old.at old.core → Gives old.core given here → has_response given ≡ true
      → Responds asks old.at b here given unsent → IsUnderWay asks first a (record { outside = old.outside; at = b; core = here; unsent = unsent; over = decided given })
  filled old here given b unsent s gives responds r = within (record {
    mid = old.outside.peer;
    before = old.core;
    b = old.at;
    given = given;
    serving = s;
    gives = gives;
    responds = responds;
    left = record {
      reply = r.reply;
      replied = r.replied;
      written = record { front = []; rest = unsent; split = sym r.unsent_is; appends = Appends-nil old.outside.peer.holds };
      apart = refl;
      later = omega arith;
    };
    unsent_is = refl;
    over_is = refl;
  })

  filled_is : (old new : Stage S) (here : Link) (over : Option LinkEnd) → new ≡ record old { at = new.at; core = here; unsent = new.unsent; over = new.over } → new.over ≡ over
      → ◌≡◌ {A = Stage S} (record { outside = old.outside; at = new.at; core = here; unsent = new.unsent; over = over }) new
  filled_is old new here over rest is =
      ap (λ (o : Option LinkEnd). let s : Stage S = record { outside = old.outside; at = new.at; core = here; unsent = new.unsent; over = o } in s) (sym is) ∙ sym rest

  pub answers : (old new : Stage S) (here : Link) (given : Item) (result : Step) → IsServing asks first old.outside.peer a old.at old.core → old.over ≡ None → Gives old.core given here → has_response given ≡ true
      → HowAnswered asks (record old { core = here }) new given result → Leaves asks first a old new result
  answers old new here given step.Answered s free gives responds (asks_one, fills, over) =
      let is : new.over ≡ decided given = over ∙ free ∙ sym (undecides given asks_one) in
      let fewer = fewer_by_request old.core here given asks_one s.live gives in
      subst (λ (n : Stage S). IsFurther asks first a old n 1 × (work_left n < work_left old)) (filled_is old new here (decided given) fills.rest is) (
        record {
          under_way = filled old here given new.at new.unsent s gives responds fills.responds;
          count = one_fewer old.core here given s.live asks_one gives;
          later = later_same old.outside;
        },
        omega (arith, fewer, ap undecided (undecides given asks_one), ap undecided free),
      )
  answers old new here given step.On s free gives responds (why, over, fills, decides) =
      let is : new.over ≡ decided given = decides ∙ ap decided (sym over) in
      let same = same_at_over old.core here given why over gives in
      subst (λ (n : Stage S). IsFurther asks first a old n 0 × (work_left n < work_left old)) (filled_is old new here (decided given) fills.rest is) (
        record {
          under_way = filled old here given new.at new.unsent s gives responds fills.responds;
          count = omega (arith, ap (λ (l : Link). l.more) same);
          later = later_same old.outside;
        },
        omega (arith, ap steps_left same, ap (λ (g : Item). undecided (decided g)) over, ap undecided free),
      )
  answers old new here given step.NotYet s free gives responds how = absurd how
  answers old new here given (step.Over why) s free gives responds (short, replied, outside) =
      let left = leaves_none asks old.outside.peer old.at new.at here given replied.reply replied.replied in
      let ends : LinkEnds asks first old.outside.peer a new.at end.Memory = stops_step asks first old.outside.peer old.outside.peer a old.at new.at old.core halt.Memory s (steps.within given here halt.Memory gives (inr (responds, left))) in
      subst (λ (w : LinkEnd). LinkEnds asks first new.outside.peer a new.at w) (sym short) (subst (λ (o : Outside). LinkEnds asks first o.peer a new.at end.Memory) (sym outside) ends)

  -- ---- reading

  pub reads : (old : Stage S) (here after : Link) (given : Item) (o : Outside) (result : Step) → IsServing asks first old.outside.peer a old.at old.core → old.unsent ≡ [] → old.over ≡ None
      → given ≡ item.Need → Gives old.core given here → HowRead old.outside o here after result → Leaves asks first a old (record old { outside = o; core = after }) result
  reads old here after given o step.Answered s none free need gives how = absurd how
  reads old here after given o step.On s none free need gives how =
      let went : StepsOn asks old.outside.peer o.peer old.at old.at old.core after = record { given = given; here = here; gives = gives; goes = inl (need, how.0, refl) } in
      let same : old.core ≡ here = same_at_need old.core here given need gives in (
        record {
          under_way = between (serves_step asks first old.outside.peer o.peer a old.at old.at old.core after s went) none free;
          count = omega (arith, ap (λ (l : Link). l.more) same, feeds_same here after o.peer.left how.0.piece how.0.feeds);
          later = how.1;
        },
        omega (arith, fewer_step asks old.outside.peer o.peer old.at old.at old.core after s.live went),
      )
  reads old here after given o step.NotYet s none free need gives how =
      let wants : IsNeedy old.core = needy old.core here given need gives in
      let same : after ≡ old.core = how.same ∙ sym (same_at_need old.core here given need gives) in
      let silent : Appends old.outside.peer.holds o.peer.holds [] = subst (λ (h : Option (List ℕ)). Appends old.outside.peer.holds h []) (sym how.apart) (Appends-nil old.outside.peer.holds) in
      let still : IsServing asks first o.peer a old.at old.core = moved old.outside.peer o.peer old.at old.core s how.kept (λ finished. absurd (false≢true (sym wants.unfinished ∙ finished))) silent how.faults in (
        record {
          under_way = between (subst (λ (l : Link). IsServing asks first o.peer a old.at l) (sym same) still) none free;
          count = omega (arith, ap (λ (l : Link). l.more) same);
          later = how.later;
        },
        waited how.risen (so_far o.peer old.at old.core still wants),
      )
  reads old here after given o (step.Over why) s none free need gives how = by why how
    where
      by : (end_is : LinkEnd) → HowRead old.outside o here after (step.Over end_is) → LinkEnds asks first o.peer a old.at end_is
      by end.ReadFault stop = stops_step asks first old.outside.peer o.peer a old.at old.at old.core halt.ReadFault s (steps.within given here halt.ReadFault gives (need, stop, refl))
      by end.Memory stop = stops_step asks first old.outside.peer o.peer a old.at old.at old.core halt.Memory s (steps.within given here halt.Memory gives (inl (need, stop, refl)))
      by end.End stop = absurd stop
      by (end.Cut left) stop = absurd stop
      by end.Closed stop = absurd stop
      by (end.Bad status) stop = absurd stop
      by end.Full stop = absurd stop
      by end.WriteFault stop = absurd stop

  -- memory was wanting before an item was given
  pub ends_short : (s : Stage S) → IsServing asks first s.outside.peer a s.at s.core → LinkEnds asks first s.outside.peer a s.at end.Memory
  ends_short s serving = inl (ends_first asks first s.outside.peer a s.at s.core serving)

  -- ---- step after step

  -- a link of which nothing was read yet
  pub starts : (o : Outside) (core : Link) (unsent : List ℕ) → first ≡ o.peer → core ≡ new_link → unsent ≡ [] → IsUnderWay asks first a (record { outside = o; at = a; core = core; unsent = unsent; over = None })
  starts o core unsent same fresh none = between (subst (λ (p : Peer). IsServing asks first p a a core) same (serves_none asks first a core fresh)) none refl

  pub further : (old mid new : Stage S) (n k : ℕ) → IsFurther asks first a old mid n → IsFurther asks first a mid new k → IsFurther asks first a old new (n + k)
  further old mid new n k one two = record {
    under_way = two.under_way;
    count = omega (arith, one.count, two.count);
    later = later_still old.outside mid.outside new.outside one.later two.later;
  }

  pub further_on : (old mid new : Stage S) (n : ℕ) → IsFurther asks first a old mid n → IsFurther asks first a mid new 0 → IsFurther asks first a old new n
  further_on old mid new n one two = record {
    under_way = two.under_way;
    count = omega (arith, one.count, two.count);
    later = later_still old.outside mid.outside new.outside one.later two.later;
  }

  pub pauses : (old mid new : Stage S) → IsLater old.outside mid.outside → Pauses asks first a mid new → Pauses asks first a old new
  pauses old mid new later (stalled risen) = stalled (λ below. omega (arith, later.stalls, risen below))
  pauses old mid new later (waited risen so) = waited (λ below. omega (arith, later.waits, risen below)) so

  -- a step that writes first
  pub sends_first : (old new : Stage S) (o : Outside) (rest : List ℕ) (result : Step) → IsLater old.outside o → Leaves asks first a (record old { outside = o; unsent = rest }) new result → Leaves asks first a old new result
  sends_first old new o rest step.Answered later (went, fewer) = (record { under_way = went.under_way; count = went.count; later = later_still old.outside o new.outside later went.later }, fewer)
  sends_first old new o rest step.On later (went, fewer) = (record { under_way = went.under_way; count = went.count; later = later_still old.outside o new.outside later went.later }, fewer)
  sends_first old new o rest step.NotYet later (went, pause) =
      (record { under_way = went.under_way; count = went.count; later = later_still old.outside o new.outside later went.later }, pauses old (record old { outside = o; unsent = rest }) new later pause)
  sends_first old new o rest (step.Over why) later ends = ends
