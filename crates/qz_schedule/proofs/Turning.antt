-- A turn, whatever it is for.
use Rattle.std.proofs.Common.{◌≡◌, ℕ, ◌%◌, Bool, true, false, List, [], Option, Some, None, refl, sym, subst}
use Rattle.std.specs.Prelude.{◌==◌, if◌then◌else◌, nat_lt, slice_get}
use Rattle.std.proofs.lemmas.Bool.{eqb-true, ltb-true}
use Rattle.qz_grading.specs.declared.refusal.AttemptId.{AttemptId}
use Rattle.qz_grading.specs.declared.refusal.Refusal.{Refusal}
use Rattle.qz_grading.specs.declared.refusal.Refusal.TheVariants as refusal
use Rattle.qz_terms.specs.declared.ask.Ask.{Ask}
use Rattle.qz_terms.specs.declared.people.Caller.{Caller}
use Rattle.qz_terms.specs.declared.record.Record.{Record}
use Rattle.qz_terms.specs.declared.reply.Reply.TheVariants as reply
use Rattle.qz_terms.specs.declared.request.Request.{Request}
use Rattle.qz_terms.specs.declared.request.Request.TheVariants as request
use Rattle.qz_terms.specs.Answer.{attempt_named}
use Rattle.qz_schedule.specs.Worlds.{Begins, Choice, ForJob, ForNames, ForPlan, ForQuiz, ForRequest, ForRows, ForUser, GoesOn, LacksMemory, Mending, MendingIsPossible, Next, Stage, TurnIsPossible, Visit, World, held_at, is_formed, lists_in, missing_live, not_there, second_part, seeing, stages, turn_at, turn_by, turn_in, turn_of, turn_with, visitor}
use Rattle.qz_schedule.proofs.Following.{asking, begin-ready}
use Rattle.qz_schedule.proofs.Keeping.{Good, IsIn, IsVisiting, Sees, Stands, good-replied}
use Rattle.qz_schedule.proofs.Knowing.{HasRead, MayAnswer, MayFind, MayPlan, MayReport, MayWork, Ready}
use Rattle.qz_schedule.proofs.Mending.{AtCatalog, AtPart, at-the-catalog, at-the-part, good-outside}
use Rattle.qz_schedule.proofs.Reading.{job-turn, names-turn, plan-turn, quiz-turn, user-turn}
use Rattle.qz_schedule.proofs.Reporting.{rows-turn}
use Rattle.qz_schedule.proofs.Requesting.{live-request, plan-request, recorded-request, work-request}
use Rattle.qz_schedule.proofs.Saying.{live-among, refused-said}

-- ---- the second part of a turn that reads

module _ (n : ℕ) (w : World) (k moment : ℕ) (ask : Ask) (v : Visit) where
  user-part : (l : List Record) (choice : Choice) → AtCatalog n w v l → is_formed ask ≡ true → slice_get (stages n ask) v.made ≡ Some ForUser → v.rows ≡ [] → Good n (second_part w k moment ask (seeing v None l) None l n choice ForUser)
  user-part l LacksMemory c formed at ready = good-outside n w k moment ask (seeing v None l) refusal.Memory c.good c.sees refl
  user-part l choice c formed at ready = user-turn n w k moment ask v l c formed at ready

  quiz-part : (a : AttemptId) (l : List Record) (choice : Choice) → AtPart n w v (a.user % n) l → is_formed ask ≡ true → slice_get (stages n ask) v.made ≡ Some (ForQuiz a) → MayFind v.records (visitor v ask) ask a
      → Good n (second_part w k moment ask (seeing v (Some (a.user % n)) l) (Some (a.user % n)) l n choice (ForQuiz a))
  quiz-part a l LacksMemory p formed at ready = good-outside n w k moment ask (seeing v (Some (a.user % n)) l) refusal.Memory p.good p.sees refl
  quiz-part a l choice p formed at ready = quiz-turn n w k moment ask v a l p formed at ready

  plan-part : (l : List Record) (choice : Choice) → AtCatalog n w v l → is_formed ask ≡ true → slice_get (stages n ask) v.made ≡ Some ForPlan → MayPlan n v.records v.parts (visitor v ask) v.quiz ask → Good n (second_part w k moment ask (seeing v None l) None l n choice ForPlan)
  plan-part l LacksMemory c formed at ready = good-outside n w k moment ask (seeing v None l) refusal.Memory c.good c.sees refl
  plan-part l choice c formed at ready = plan-turn n w k moment ask v l c formed at ready

  job-part : (number : ℕ) (l : List Record) (choice : Choice) → AtCatalog n w v l → is_formed ask ≡ true → slice_get (stages n ask) v.made ≡ Some (ForJob number) → MayWork v.records (visitor v ask) ask number
      → Good n (second_part w k moment ask (seeing v None l) None l n choice (ForJob number))
  job-part number l LacksMemory c formed at ready = good-outside n w k moment ask (seeing v None l) refusal.Memory c.good c.sees refl
  job-part number l choice c formed at ready = job-turn n w k moment ask v number l c formed at ready

  names-part : (quiz : ℕ) (l : List Record) (choice : Choice) → AtCatalog n w v l → is_formed ask ≡ true → slice_get (stages n ask) v.made ≡ Some (ForNames quiz) → MayReport v.records (visitor v ask) v.rows ask quiz
      → Good n (second_part w k moment ask (seeing v None l) None l n choice (ForNames quiz))
  names-part quiz l LacksMemory c formed at ready = good-outside n w k moment ask (seeing v None l) refusal.Memory c.good c.sees refl
  names-part quiz l choice c formed at ready = names-turn n w k moment ask v quiz l c formed at ready

  rows-part : (quiz part : ℕ) (l : List Record) (choice : Choice) → AtPart n w v part l → is_formed ask ≡ true → slice_get (stages n ask) v.made ≡ Some (ForRows quiz part) → HasRead v.records v.parts (visitor v ask) v.plan v.names v.rows ask quiz part
      → Good n (second_part w k moment ask (seeing v (Some part) l) (Some part) l n choice (ForRows quiz part))
  rows-part quiz part l LacksMemory p formed at ready = good-outside n w k moment ask (seeing v (Some part) l) refusal.Memory p.good p.sees refl
  rows-part quiz part l choice p formed at ready = rows-turn n w k moment ask v quiz part l p formed at ready

-- ---- at a shard, if it is there

at-shard : (n : ℕ) (w : World) (k moment : ℕ) (ask : Ask) (v : Visit) (choice : Choice) (stage : Stage) (j : ℕ) (m : Mending) (other : World) (b : Bool) → Good n w → Sees n (lists_in w) v → MendingIsPossible m → nat_lt j n ≡ b → Good n other
    → ((u : World) (d : List Record) → AtPart n u v j d → Good n (second_part u k moment ask (seeing v (Some j) d) (Some j) d n choice stage))
    → Good n (if b then turn_at w k moment ask v n m choice (Some j) (held_at w (Some j)) stage else other)
at-shard n w k moment ask v choice stage j m other true g s possible is stays goes = at-the-part n w k moment ask v choice stage g s j m (ltb-true j n is) possible goes
at-shard n w k moment ask v choice stage j m other false g s possible is stays goes = stays

-- ---- a request's own turn

-- an ask about attempts that go on, in a shard that isn't there
nowhere-by : (n : ℕ) (w : World) (k moment : ℕ) (ask : Ask) (v : Visit) (o : Option Refusal) → Good n w → Sees n (lists_in w) v → MayAnswer n v.records v.parts (visitor v ask) v.plan v.job ask → missing_live n ask.request ≡ o → Good n (not_there w k moment ask v o)
nowhere-by n w k moment ask v None g s may is = g
nowhere-by n w k moment ask v (Some r) g s may is =
    good-replied n w k moment ask v v (reply.Refused r) g s (record {
      seen = record { records = s.begins.records; each = s.begins.each };
      answer = λ own. refused-said n v.records v.parts moment ask (visitor v ask) r s.counts may.knows.found (live-among n v.records (visitor v ask) ask.request r may.knows.may is);
    })

module _ (n : ℕ) (w : World) (k moment : ℕ) (who : Caller) (key : Option (List ℕ)) (v : Visit) (choice : Choice) (m : Mending) (g : Good n w) (s : Sees n (lists_in w) v) (possible : MendingIsPossible m) where
  own-turn : (x : Request) → is_formed (asking who key x) ≡ true → slice_get (stages n (asking who key x)) v.made ≡ Some ForRequest → MayAnswer n v.records v.parts (visitor v (asking who key x)) v.plan v.job (asking who key x)
      → Good n (turn_by w k moment (asking who key x) v n m choice (Some ForRequest))
  own-turn (request.Work job shard) formed at may =
      at-shard n w k moment (asking who key (request.Work job shard)) v choice ForRequest shard m w (nat_lt shard n) g s possible refl g (λ u d p. work-request n u k moment (asking who key (request.Work job shard)) v shard d p formed may job refl choice)
  own-turn (request.Live shard a) formed at may =
      at-shard n w k moment (asking who key (request.Live shard a)) v choice ForRequest shard m (not_there w k moment (asking who key (request.Live shard a)) v (missing_live n (request.Live shard a))) (nat_lt shard n) g s possible refl
      (nowhere-by n w k moment (asking who key (request.Live shard a)) v (missing_live n (request.Live shard a)) g s may refl) (λ u d p. live-request n u k moment (asking who key (request.Live shard a)) v shard d p formed may a refl choice)
  own-turn (request.Report q) formed at may = let other = may.other in absurd cc
  own-turn (request.Start q) formed at may = let j = (visitor v (asking who key (request.Start q))).number % n in at-shard n w k moment (asking who key (request.Start q)) v choice ForRequest j m w (nat_lt j n) g s possible refl g (λ u d p. plan-request n u k moment (asking who key (request.Start q)) v j d p formed may refl refl choice at)
  own-turn (request.Grade q owner) formed at may = at-shard n w k moment (asking who key (request.Grade q owner)) v choice ForRequest (owner % n) m w (nat_lt (owner % n) n) g s possible refl g (λ u d p. plan-request n u k moment (asking who key (request.Grade q owner)) v (owner % n) d p formed may refl refl choice at)
  own-turn (request.Save a i c r) formed at may = at-shard n w k moment (asking who key (request.Save a i c r)) v choice ForRequest (a.user % n) m w (nat_lt (a.user % n) n) g s possible refl g (λ u d p. plan-request n u k moment (asking who key (request.Save a i c r)) v (a.user % n) d p formed may refl refl choice at)
  own-turn (request.Submit a i c r) formed at may = at-shard n w k moment (asking who key (request.Submit a i c r)) v choice ForRequest (a.user % n) m w (nat_lt (a.user % n) n) g s possible refl g (λ u d p. plan-request n u k moment (asking who key (request.Submit a i c r)) v (a.user % n) d p formed may refl refl choice at)
  own-turn (request.Again a i) formed at may = at-shard n w k moment (asking who key (request.Again a i)) v choice ForRequest (a.user % n) m w (nat_lt (a.user % n) n) g s possible refl g (λ u d p. plan-request n u k moment (asking who key (request.Again a i)) v (a.user % n) d p formed may refl refl choice at)
  own-turn (request.Finish a) formed at may = at-shard n w k moment (asking who key (request.Finish a)) v choice ForRequest (a.user % n) m w (nat_lt (a.user % n) n) g s possible refl g (λ u d p. plan-request n u k moment (asking who key (request.Finish a)) v (a.user % n) d p formed may refl refl choice at)
  own-turn (request.Mark a i mark) formed at may = at-shard n w k moment (asking who key (request.Mark a i mark)) v choice ForRequest (a.user % n) m w (nat_lt (a.user % n) n) g s possible refl g (λ u d p. plan-request n u k moment (asking who key (request.Mark a i mark)) v (a.user % n) d p formed may refl refl choice at)
  own-turn (request.Settle a) formed at may = at-shard n w k moment (asking who key (request.Settle a)) v choice ForRequest (a.user % n) m w (nat_lt (a.user % n) n) g s possible refl g (λ u d p. plan-request n u k moment (asking who key (request.Settle a)) v (a.user % n) d p formed may refl refl choice at)
  own-turn (request.View a i) formed at may = at-shard n w k moment (asking who key (request.View a i)) v choice ForRequest (a.user % n) m w (nat_lt (a.user % n) n) g s possible refl g (λ u d p. plan-request n u k moment (asking who key (request.View a i)) v (a.user % n) d p formed may refl refl choice at)
  own-turn (request.Total a) formed at may = at-shard n w k moment (asking who key (request.Total a)) v choice ForRequest (a.user % n) m w (nat_lt (a.user % n) n) g s possible refl g (λ u d p. plan-request n u k moment (asking who key (request.Total a)) v (a.user % n) d p formed may refl refl choice at)
  own-turn (request.Page a) formed at may = at-shard n w k moment (asking who key (request.Page a)) v choice ForRequest (a.user % n) m w (nat_lt (a.user % n) n) g s possible refl g (λ u d p. plan-request n u k moment (asking who key (request.Page a)) v (a.user % n) d p formed may refl refl choice at)
  own-turn x formed at may = at-the-catalog n w k moment (asking who key x) v choice ForRequest g s m possible (λ u d c. recorded-request n u k moment (asking who key x) v d c formed may refl choice)

-- ---- any turn

-- the turn that is made now
record IsMade (n : ℕ) (w : World) (ask : Ask) (v : Visit) (m : Mending) (s : Stage) : Type 0 where
  good : Good n w
  sees : Sees n (lists_in w) v
  formed : is_formed ask ≡ true
  possible : MendingIsPossible m
  at : slice_get (stages n ask) v.made ≡ Some s
  ready : Ready n v ask s

-- an ask that names an attempt, or for a report, asks of no shard by its number
unlive-attempt : (n : ℕ) (x : Request) (a : AttemptId) → attempt_named x ≡ Some a → missing_live n x ≡ None
unlive-attempt n (request.Live shard b) a named = absurd cc
unlive-attempt n x a named = refl

unlive-report : (n quiz : ℕ) (x : Request) → x ≡ request.Report quiz → missing_live n x ≡ None
unlive-report n quiz x is = rw is refl

stays-there : (n : ℕ) (w : World) (k moment : ℕ) (ask : Ask) (v : Visit) → Good n w → missing_live n ask.request ≡ None → Good n (not_there w k moment ask v (missing_live n ask.request))
stays-there n w k moment ask v g none = subst (λ (o : Option Refusal). Good n (not_there w k moment ask v o)) (sym none) g

stage-turn : (n : ℕ) (w : World) (k moment : ℕ) (ask : Ask) (v : Visit) (m : Mending) (choice : Choice) (s : Stage) → IsMade n w ask v m s → Good n (turn_by w k moment ask v n m choice (Some s))
stage-turn n w k moment ask v m choice ForUser i = at-the-catalog n w k moment ask v choice ForUser i.good i.sees m i.possible (λ u d c. user-part n u k moment ask v d choice c i.formed i.at i.ready)
stage-turn n w k moment ask v m choice (ForQuiz a) i =
    at-shard n w k moment ask v choice (ForQuiz a) (a.user % n) m (not_there w k moment ask v (missing_live n ask.request)) (nat_lt (a.user % n) n) i.good i.sees i.possible refl (stays-there n w k moment ask v i.good (unlive-attempt n ask.request a i.ready.named)) (λ u d p. quiz-part n u k moment ask v a d choice p i.formed i.at i.ready)
stage-turn n w k moment ask v m choice ForPlan i = at-the-catalog n w k moment ask v choice ForPlan i.good i.sees m i.possible (λ u d c. plan-part n u k moment ask v d choice c i.formed i.at i.ready)
stage-turn n w k moment ask v m choice (ForJob number) i = at-the-catalog n w k moment ask v choice (ForJob number) i.good i.sees m i.possible (λ u d c. job-part n u k moment ask v number d choice c i.formed i.at i.ready)
stage-turn n w k moment ask v m choice (ForNames quiz) i = at-the-catalog n w k moment ask v choice (ForNames quiz) i.good i.sees m i.possible (λ u d c. names-part n u k moment ask v quiz d choice c i.formed i.at i.ready)
stage-turn n w k moment ask v m choice (ForRows quiz part) i =
    at-shard n w k moment ask v choice (ForRows quiz part) part m (not_there w k moment ask v (missing_live n ask.request)) (nat_lt part n) i.good i.sees i.possible refl (stays-there n w k moment ask v i.good (unlive-report n quiz ask.request i.ready.request_is)) (λ u d p. rows-part n u k moment ask v quiz part d choice p i.formed i.at i.ready)
stage-turn n w k moment ask v m choice ForRequest i = own-turn n w k moment ask.caller ask.key v choice m i.good i.sees i.possible ask.request i.formed i.at i.ready

any-turn : (n : ℕ) (w : World) (k moment : ℕ) (ask : Ask) (v : Visit) (m : Mending) (choice : Choice) (o : Option Stage) → Good n w → ((s : Stage) → o ≡ Some s → IsMade n w ask v m s) → Good n (turn_by w k moment ask v n m choice o)
any-turn n w k moment ask v m choice None g made = g
any-turn n w k moment ask v m choice (Some s) g made = stage-turn n w k moment ask v m choice s (made s refl)

-- with as many shards as there are lists
turn-with : (n : ℕ) (w : World) (k moment : ℕ) (ask : Ask) (v : Visit) (made : ℕ) (m : Mending) (choice : Choice) → Good n w → ((s : Stage) → slice_get (stages n ask) made ≡ Some s → IsMade n w ask v m s) → Good n (turn_with w k moment ask v made m choice)
turn-with n w k moment ask v made m choice g each =
    subst (λ (i : ℕ). Good n (turn_by w k moment ask v i m choice (slice_get (stages i ask) made))) (sym g.lists.counts) (any-turn n w k moment ask v m choice (slice_get (stages n ask) made) g each)

-- ---- the next turn of a caller

goes-if : (n : ℕ) (w : World) (k moment : ℕ) (ask : Ask) (v : Visit) (made : ℕ) (m : Mending) (choice : Choice) (b : Bool) → (made == v.made) ≡ b → Good n w → Sees n (lists_in w) v → IsIn n v ask → MendingIsPossible m
    → Good n (if b then turn_with w k moment ask v made m choice else w)
goes-if n w k moment ask v made m choice false is g s i possible = g
goes-if n w k moment ask v made m choice true is g s i possible =
    let same : made ≡ v.made = eqb-true made v.made is in
    turn-with n w k moment ask v made m choice g (λ t at.
    let now : slice_get (stages n ask) v.made ≡ Some t = subst (λ (c : ℕ). slice_get (stages n ask) c ≡ Some t) same at in
    record { good = g; sees = s; formed = i.formed; possible = possible; at = now; ready = i.next t now })

turn-in : (n : ℕ) (w : World) (k moment : ℕ) (v : Visit) (m : Mending) (choice : Choice) (next : Next) (o : Option Ask) → Good n w → Sees n (lists_in w) v → Stands n v o → TurnIsPossible next m → Good n (turn_in w k moment v m choice next o)
turn-in n w k moment v m choice (Begins ask) None g s rests possible =
    turn-with n w k moment ask v 0 m choice g (λ t at. record {
      good = g;
      sees = s;
      formed = possible.formed;
      possible = possible.mends;
      at = subst (λ (c : ℕ). slice_get (stages n ask) c ≡ Some t) (sym rests.made) at;
      ready = begin-ready n ask v t rests possible.formed at;
    })
turn-in n w k moment v m choice (Begins ask) (Some other) g s i possible = g
turn-in n w k moment v m choice (GoesOn made) None g s rests possible = g
turn-in n w k moment v m choice (GoesOn made) (Some ask) g s i possible = goes-if n w k moment ask v made m choice (made == v.made) refl g s i possible.mends

turn-of : (n : ℕ) (w : World) (k moment : ℕ) (next : Next) (m : Mending) (choice : Choice) (o : Option Visit) → Good n w → ((v : Visit) → o ≡ Some v → IsVisiting n (lists_in w) v) → TurnIsPossible next m → Good n (turn_of w k moment next m choice o)
turn-of n w k moment next m choice None g visits possible = g
turn-of n w k moment next m choice (Some v) g visits possible = let i = visits v refl in turn-in n w k moment v m choice next v.ask g i.sees i.stands possible

-- a turn of a caller
pub good-turn : (n : ℕ) (w : World) (k moment : ℕ) (next : Next) (m : Mending) (choice : Choice) → Good n w → TurnIsPossible next m → Good n (turn_of w k moment next m choice (slice_get w.visits k))
good-turn n w k moment next m choice g possible = turn-of n w k moment next m choice (slice_get w.visits k) g (λ v is. g.visits k v is) possible
