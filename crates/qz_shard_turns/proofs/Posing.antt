-- What a shard answers under a plan that was read before, and that it stays tied to its catalogue.
use Rattle.std.proofs.Common.{◌≡◌, ℕ, Bool, true, false, List, [], ◌∷◌, ◌++◌, Option, Some, None, IfSome, Result, Ok, Err, IfOk, IfErr, refl, ap, sym, ◌∙◌, subst}
use mathlib.Core.List.{IsPrefix}
use Rattle.qz_catalog.specs.Holdings.{lean}
use Rattle.qz_catalog_turns.specs.declared.replied.OwnRecord.{OwnRecord}
use Rattle.qz_catalog_turns.specs.declared.replied.Replied.{Replied}
use Rattle.qz_catalog_turns.specs.Owning.{CallReplies, OneReply, ReplyEnds, TurnReplies}
use Rattle.qz_catalog_turns.specs.Turning.{tale_of}
use Rattle.qz_catalog_turns.proofs.Owning.{Puts, call-replies, mended-reply, one-told, puts-as, reply-means, tales-reply, turn-replies, with-one}
use Rattle.qz_grading.specs.declared.refusal.Refusal.{Refusal}
use Rattle.qz_keeper.specs.Lists.{EachMayStand, IsSettled, Looks, OneCall}
use Rattle.qz_keeper.specs.Recording.{GoesOn, HasFailed}
use Rattle.qz_keeper.proofs.Calls.{call_doubts}
use Rattle.qz_school.specs.Agreement.{is_start}
use Rattle.qz_school.proofs.Leaning.{leaning_law}
use Rattle.qz_school.proofs.Putting.{older_law}
use Rattle.qz_serial.specs.Calls.{ShardAnswers}
use Rattle.qz_serial.proofs.Composing.{calls_mean, mended_same}
use Rattle.qz_serial.proofs.Growing.{grown_part}
use Rattle.qz_serial.proofs.Seats.{mended_grows}
use Rattle.qz_shard.specs.declared.shard.Older.{Older}
use Rattle.qz_shard.specs.Holdings.{IsAsked}
use Rattle.qz_shard.specs.Keeping as part
use Rattle.qz_school.proofs.Calls.{call_grows, call_stands, stand_as, stand_both, stands_mended}
use Rattle.qz_school.proofs.Planning.{planned_means}
use Rattle.qz_terms.specs.declared.ask.Ask.{Ask}
use Rattle.qz_terms.specs.declared.people.User.{User}
use Rattle.qz_terms.specs.declared.plan.Plan.{Plan}
use Rattle.qz_terms.specs.declared.record.Record.{Record}
use Rattle.qz_terms.specs.declared.reply.Reply.{Reply}
use Rattle.qz_terms.specs.declared.reply.Reply.TheVariants as reply
use Rattle.qz_terms.specs.declared.request.Request.{Request}
use Rattle.qz_terms.specs.Answer.{list_after, moment_of, put_here}
use Rattle.qz_terms.specs.Cause.{verdict_here}
use Rattle.qz_terms.specs.Legal.{AllAgree, IsLegal}
use Rattle.qz_terms.specs.Serial.{Held, Mended}
use Rattle.qz_turn.specs.declared.view.Tale.{Tale}
use Rattle.qz_turn.specs.Passes.{Standing}
use Rattle.qz_turn.specs.Tales.{Follows}
use Rattle.qz_turn.specs.Turns.{AddsTurn, Joins}
use Rattle.qz_turn.proofs.Prefixes.{prefix_trans}
use Rattle.qz_shard_turns.specs.Posing.{CanPose, Comes, IsAnsweredNow, IsPlannedBy, WasAnswered, shard_at}
use Rattle.qz_shard_turns.specs.Tying.{Behind, Did, IsTied, Placed}
use Rattle.qz_shard_turns.proofs.Tying.{agree-on, joined-first, joined-legal, joined-second}

-- ---- each list that goes on from what was seen

later-doubt : (P : List Record → Type 0) (seen l : List Record) (doubt : Option Record) → IsPrefix seen l → ((h : List Record) → IsPrefix seen h → P h) → IfSome doubt (λ r. P (l ++ r ∷ []))
later-doubt P seen l None p each = tt
later-doubt P seen l (Some r) p each = each (l ++ r ∷ []) (prefix_trans seen l (l ++ r ∷ []) p (r ∷ [], refl))

pub each-later : (P : List Record → Type 0) (seen : List Record) (held : Held) → IsPrefix seen held.list → ((h : List Record) → IsPrefix seen h → P h) → EachMayStand P held
each-later P seen held p each = record { without = each held.list p; with_doubt = later-doubt P seen held.list held.doubt p each }

-- ---- what is asked

pub posed-asked : (c seen : List Record) (index count : ℕ) (user : User) (plan : Plan) (ask : Ask) (moment : ℕ) (held : Held) → CanPose c seen index count user plan ask moment → IsPrefix seen held.list → EachMayStand (λ h. IsAsked h plan ask moment) held
posed-asked c seen index count user plan ask moment held pose p = each-later (λ h. IsAsked h plan ask moment) seen held p
    (λ h q. let is = pose.planned h q in record { keyed = pose.asked.keyed; of_quiz = is.of_quiz; kept_plan = is.kept; kept_request = pose.asked.kept; kept_moment = pose.asked.moment_kept })

-- ---- what is answered

pub answered-now : (failed : Type 0) (index count moment : ℕ) (user : User) (plan : Plan) (ask : Ask) (old new : Held) (told : Reply) → OneCall failed reply.Refused (part.IsTold index count moment user plan ask) old new told
    → OneCall failed reply.Refused (IsAnsweredNow moment user plan ask) old new told
answered-now failed index count moment user plan ask old new told call = (calls_mean failed failed reply.Refused (part.IsTold index count moment user plan ask) (IsAnsweredNow moment user plan ask)).each old new told (λ f. f) (λ h t g is. record { answered = is.answered; newer = is.newer }) call

pub answered-ok : (failed : Type 0) (index count moment : ℕ) (user : User) (plan : Plan) (ask : Ask) (old new : Held) (result : Result Reply Older) → IfOk result (λ told. OneCall failed reply.Refused (part.IsTold index count moment user plan ask) old new told)
    → IfOk result (λ told. OneCall failed reply.Refused (IsAnsweredNow moment user plan ask) old new told)
answered-ok failed index count moment user plan ask old new (Ok told) call = answered-now failed index count moment user plan ask old new told call
answered-ok failed index count moment user plan ask old new (Err o) call = tt

now-means : (c : List Record) (index count moment : ℕ) (user : User) (plan : Plan) (ask : Ask) (h : List Record) (t : Reply) (g : List Record) → Rattle.qz_terms.specs.Catalog.user_of c ask.caller ≡ Some user → IsPlannedBy c index count user ask.request plan h → IsAnsweredNow moment user plan ask h t g
    → ShardAnswers c moment user ask h t g
now-means c index count moment user plan ask h t g found p is =
    planned_means c (shard_at index count h) moment user plan ask t g found
    (record { whole = p.whole; free = p.free; plan_is = p.plan_is; given_is = p.given_is; of_quiz = p.of_quiz; kept = p.kept; here = p.here; newer = is.newer }) is.answered

-- it is the catalogue's answer
pub answers-catalog : (failed worse : Type 0) (c seen : List Record) (index count moment : ℕ) (user : User) (plan : Plan) (ask : Ask) (old new : Held) (told : Reply) (left : OwnRecord) → (failed → worse) → CanPose c seen index count user plan ask moment → IsPrefix seen old.list
    → OneReply failed reply.Refused (IsAnsweredNow moment user plan ask) old new told left → OneReply worse reply.Refused (ShardAnswers c moment user ask) old new told left
answers-catalog failed worse c seen index count moment user plan ask old new told left to pose p r =
    reply-means failed worse reply.Refused (IsAnsweredNow moment user plan ask) (ShardAnswers c moment user ask) old new told left to
    (each-later (λ h. (t : Reply) (g : List Record) → IsAnsweredNow moment user plan ask h t g → ShardAnswers c moment user ask h t g) seen old p
    (λ h q t g is. now-means c index count moment user plan ask h t g pose.known (pose.planned h q) is)) r

-- ---- what became of its own record

-- an answer puts at most one record
pub now-puts : (moment : ℕ) (user : User) (plan : Plan) (ask : Ask) → Puts (IsAnsweredNow moment user plan ask)
now-puts moment user plan ask h told g is =
    let at = moment_of h moment user ask.request in
    puts-as h (list_after h moment user plan ask) g is.answered.list (with-one (verdict_here h at user plan ask) h (put_here h at user plan ask))

-- behind the mending of the list
pub answered-after : (s t : Type 0) (m n o : ℕ) (moment : ℕ) (user : User) (plan : Plan) (ask : Ask) (old mended new : Held) (result : Result Replied Older) → GoesOn s t m n → IsSettled old mended
    → IfOk result (λ told. ReplyEnds (HasFailed t n o) reply.Refused (IsAnsweredNow moment user plan ask) mended new told.reply told.own) → IfOk result (λ told. OneReply (HasFailed s m o) reply.Refused (IsAnsweredNow moment user plan ask) old new told.reply told.own)
answered-after s t m n o moment user plan ask old mended new (Ok told) goes settled r = mended-reply s t m n o reply.Refused (IsAnsweredNow moment user plan ask) old mended new told.reply told.own goes settled r
answered-after s t m n o moment user plan ask old mended new (Err late) goes settled r = tt

pub older-after : (plan : Plan) (x : Request) (old mended new : Held) (result : Result Replied Older) → IsSettled old mended → IfErr result (λ o. part.IsOlder plan x mended new o.floor) → IfErr result (λ o. part.IsOlder plan x old new o.floor)
older-after plan x old mended new (Ok told) settled late = tt
older-after plan x old mended new (Err o) settled late = record {
  mends = subst (Mended old) (sym (mended_same mended new late.mends settled.no_doubt)) settled.mends;
  no_doubt = late.no_doubt;
  older_is = late.older_is;
}

-- ---- what it leaves agrees

list-under : (h : List Record) (now : ℕ) (user : User) (given whole : Plan) (ask : Ask) (b : Bool) → is_start ask.request ≡ b → given ≡ lean b whole → list_after h now user given ask ≡ list_after h now user whole ask
list-under h now user given whole ask true start is = ap (λ (p : Plan). list_after h now user p ask) is
list-under h now user given whole ask false start is = ap (λ (p : Plan). list_after h now user p ask) is ∙ leaning_law.list h now user whole ask start

now-agrees : (c d seen : List Record) (index count moment : ℕ) (user : User) (plan : Plan) (ask : Ask) (h : List Record) (t : Reply) (g : List Record) → CanPose c seen index count user plan ask moment → IsPrefix c d → AllAgree d h → IsPrefix seen h → IsAnsweredNow moment user plan ask h t g → AllAgree d g
now-agrees c d seen index count moment user plan ask h t g pose more all p is =
    let by = pose.planned h p in
    let under = list-under h moment user plan by.whole ask (is_start ask.request) refl by.given_is in
    let left = older_law.answered c more.0 h moment user by.whole ask pose.legal (subst (λ (l : List Record). AllAgree l h) (sym more.1) all) by.ready pose.known by.plan_is in
    subst (λ (l : List Record). AllAgree l g) more.1 (subst (λ (l : List Record). AllAgree (c ++ more.0) l) (sym (is.answered.list ∙ under)) left)

pub answer-stands : (failed : Type 0) (c d seen : List Record) (index count moment : ℕ) (user : User) (plan : Plan) (ask : Ask) (old new : Held) (told : Reply) → CanPose c seen index count user plan ask moment → IsPrefix c d → IsPrefix seen old.list → EachMayStand (AllAgree d) old
    → OneCall failed reply.Refused (IsAnsweredNow moment user plan ask) old new told → EachMayStand (AllAgree d) new
answer-stands failed c d seen index count moment user plan ask old new told pose more p agree call =
    call_stands failed reply.Refused (IsAnsweredNow moment user plan ask) (AllAgree d) (λ h. AllAgree d h × IsPrefix seen h) old new told (λ h q. q.0) (λ h t g q is. now-agrees c d seen index count moment user plan ask h t g pose more q.0 q.1 is)
    (stand_both (AllAgree d) (IsPrefix seen) old agree (each-later (IsPrefix seen) seen old p (λ h q. q))) call

-- whatever came of it
pub left-standing : (failed : Type 0) (c d seen : List Record) (index count moment : ℕ) (user : User) (plan : Plan) (ask : Ask) (old new : Held) (result : Result Replied Older) → CanPose c seen index count user plan ask moment → IsPrefix c d → IsPrefix seen old.list → EachMayStand (AllAgree d) old
    → IfOk result (λ told. OneReply failed reply.Refused (IsAnsweredNow moment user plan ask) old new told.reply told.own) → IfErr result (λ o. part.IsOlder plan ask.request old new o.floor) → EachMayStand (AllAgree d) new
left-standing failed c d seen index count moment user plan ask old new (Ok told) pose more p agree r late = answer-stands failed c d seen index count moment user plan ask old new told.reply pose more p agree r.call
left-standing failed c d seen index count moment user plan ask old new (Err o) pose more p agree r late = stands_mended (AllAgree d) old new late.mends agree

pub answer-tied : {K : Type 0} (failed : Type 0) (place : Placed) (before after : Behind K) (note : Standing Record (Unit {0})) (seen : List Record) (moment : ℕ) (user : User) (plan : Plan) (ask : Ask) (result : Result Replied Older) → IsTied place before
    → Joins before.note note after.note → part.IsSamePart before.shard after.shard → CanPose note.seen.list seen place.index place.count user plan ask moment → IsPrefix seen before.shard.held.list
    → IfOk result (λ told. OneReply failed reply.Refused (IsAnsweredNow moment user plan ask) before.shard.held after.shard.held told.reply told.own) → IfErr result (λ o. part.IsOlder plan ask.request before.shard.held after.shard.held o.floor) → IsTied place after
answer-tied failed place before after note seen moment user plan ask result tied j same pose p call late = record {
  index_is = same.index ∙ tied.index_is;
  count_is = same.count ∙ tied.count_is;
  own = j.lock ∙ tied.own;
  catalog = joined-legal before.note note after.note j tied.catalog pose.legal;
  agree = left-standing failed note.seen.list after.note.seen.list seen place.index place.count moment user plan ask before.shard.held after.shard.held result pose (joined-second before.note note after.note j) p
      (stand_as (AllAgree after.note.seen.list) (AllAgree before.note.seen.list) before.shard.held (λ h all. agree-on before.note.seen.list after.note.seen.list h (joined-first before.note note after.note j) all) tied.agree) call late;
}

-- ---- what came of it

pub same-legal : {K : Type 0} (before after : part.Keeping K) → part.IsSamePart before after → EachMayStand (IsLegal after.index after.count) after.held → EachMayStand (IsLegal before.index before.count) after.held
same-legal before after same legal =
    subst (λ (n : ℕ). EachMayStand (IsLegal n before.count) after.held) same.index (subst (λ (n : ℕ). EachMayStand (IsLegal after.index n) after.held) same.count legal)

-- what a look did
pub look-did : {A K : Type 0} (sound : K → Type 0) (faults : K → ℕ) (Says : List Record → Result A Refusal → Type 0) (before after : part.Keeping K) (told : Result A Refusal)
    → OneCall (HasFailed (sound before.keeper) (faults before.keeper) (faults after.keeper)) (λ r. Err r) (Looks Says) before.held after.held told
    → part.IsSamePart before after → EachMayStand (IsLegal before.index before.count) before.held → EachMayStand (IsLegal after.index after.count) after.held → Did faults (λ r. Err r) (Looks Says) before after (Some told)
look-did sound faults Says before after told call same found left = record {
  answer = told;
  told_is = refl;
  calls = record {
    call = (calls_mean _ _ (λ r. Err r) (Looks Says) (Looks Says)).each before.held after.held told (λ f. (f.0.rose, f.1)) (λ h t g is. is) (call_doubts _ (λ r. Err r) (Looks Says) before.held after.held told call);
    found_may = found;
    seen_may = same-legal before after same left;
  };
}

pub came : {K : Type 0} (sound : K → Type 0) (faults : K → ℕ) (c seen : List Record) (moment : ℕ) (user : User) (plan : Plan) (ask : Ask) (index count : ℕ) (before after : part.Keeping K) (result : Result Replied Older) → CanPose c seen index count user plan ask moment → IsPrefix seen before.held.list
    → IfOk result (λ told. OneReply (HasFailed (sound before.keeper) (faults before.keeper) (faults after.keeper)) reply.Refused (IsAnsweredNow moment user plan ask) before.held after.held told.reply told.own) → IfErr result (λ o. part.IsOlder plan ask.request before.held after.held o.floor)
    → part.IsSamePart before after → EachMayStand (IsLegal before.index before.count) before.held → EachMayStand (IsLegal after.index after.count) after.held → Comes faults c moment user plan ask before after result
came sound faults c seen moment user plan ask index count before after (Ok told) pose p r late same found left =
    let failed = HasFailed (sound before.keeper) (faults before.keeper) (faults after.keeper) in
    call-replies (IsLegal before.index before.count) failed reply.Refused (ShardAnswers c moment user ask) (tale_of before.held (faults before.keeper)) (tale_of after.held (faults after.keeper)) told.reply told.own (λ f. f.rose)
    (answers-catalog failed failed c seen index count moment user plan ask before.held after.held told.reply told.own (λ f. f) pose p r) found (same-legal before after same left)
came sound faults c seen moment user plan ask index count before after (Err o) pose p r late same found left = late

grown-prefix : (old new : Held) → Rattle.qz_serial.proofs.Growing.Grows old.list new.list → IsPrefix old.list new.list
grown-prefix old new g = (g.rest, sym g.grown)

-- the list only grows
pub came-longer : {K : Type 0} (faults : K → ℕ) (c : List Record) (moment : ℕ) (user : User) (plan : Plan) (ask : Ask) (before after : part.Keeping K) (result : Result Replied Older) → Comes faults c moment user plan ask before after result → IsPrefix before.held.list after.held.list
came-longer faults c moment user plan ask before after (Ok told) is =
    grown-prefix before.held after.held (call_grows _ reply.Refused (ShardAnswers c moment user ask) before.held after.held told.reply (λ h t g says. let grown = grown_part c h moment user ask in record { rest = grown.rest; grown = says.1 ∙ grown.grown }) is.calls.call)
came-longer faults c moment user plan ask before after (Err o) is = grown-prefix before.held after.held (mended_grows before.held after.held is.mends)

-- ---- a turn

tied-calls : {A K : Type 0} (refused : Refusal → A) (Answers : List Record → A → List Record → Type 0) (place : Placed) (before : Behind K) (first last : Tale Record) (told : A) (left : OwnRecord) → IsTied place before
    → CallReplies (IsLegal before.shard.index before.shard.count) refused Answers first last told left → CallReplies (IsLegal place.index place.count) refused Answers first last told left
tied-calls refused Answers place before first last told left tied r =
    subst (λ (n : ℕ). CallReplies (IsLegal place.index n) refused Answers first last told left) tied.count_is (subst (λ (i : ℕ). CallReplies (IsLegal i before.shard.count) refused Answers first last told left) tied.index_is r)

-- what came of it is told of the turn
pub turn-of : {A K : Type 0} (refused : Refusal → A) (Answers : List Record → A → List Record → Type 0) (place : Placed) (before : Behind K) (first last : Tale Record) (old new : Standing Record Placed) (told : A) (left : OwnRecord) → IsTied place before
    → CallReplies (IsLegal before.shard.index before.shard.count) refused Answers first last told left → new.found ≡ first → new.seen ≡ last → Follows old.seen new.found → Follows new.found new.seen → new.numbers ≡ old.numbers → new.lock ≡ old.lock → AddsTurn old new
    → TurnReplies (IsLegal place.index place.count) refused Answers old new told left
turn-of refused Answers place before first last old new told left tied r found seen begins grows numbers lock turns =
    turn-replies (IsLegal place.index place.count) refused Answers old new told left (tales-reply (IsLegal place.index place.count) refused Answers new.found new.seen first last told left found seen (tied-calls refused Answers place before first last told left tied r)) begins grows numbers lock turns

turn-told : {K : Type 0} (faults : K → ℕ) (c : List Record) (moment : ℕ) (user : User) (plan : Plan) (ask : Ask) (place : Placed) (before after : Behind K) (old new : Standing Record Placed) (result : Result Replied Older) → IsTied place before
    → Comes faults c moment user plan ask before.shard after.shard result → new.found ≡ tale_of before.shard.held (faults before.shard.keeper) → new.seen ≡ tale_of after.shard.held (faults after.shard.keeper)
    → Follows old.seen new.found → Follows new.found new.seen → new.numbers ≡ old.numbers → new.lock ≡ old.lock → AddsTurn old new
    → IfOk result (λ told. TurnReplies (IsLegal place.index place.count) reply.Refused (ShardAnswers c moment user ask) old new told.reply told.own)
turn-told faults c moment user plan ask place before after old new (Ok told) tied r found seen begins grows numbers lock turns =
    turn-of reply.Refused (ShardAnswers c moment user ask) place before (tale_of before.shard.held (faults before.shard.keeper)) (tale_of after.shard.held (faults after.shard.keeper)) old new told.reply told.own tied r found seen begins grows numbers lock turns
turn-told faults c moment user plan ask place before after old new (Err o) tied r found seen begins grows numbers lock turns = tt

pub answered-turn : {K : Type 0} (faults : K → ℕ) (c d : List Record) (moment : ℕ) (user : User) (plan : Plan) (ask : Ask) (place : Placed) (before after : Behind K) (old new : Standing Record Placed) (o : Option (Result Replied Older)) (result : Result Replied Older) → c ≡ d → IsTied place before
    → WasAnswered faults c moment user plan ask before after o → o ≡ Some result → new.found ≡ tale_of before.shard.held (faults before.shard.keeper) → new.seen ≡ tale_of after.shard.held (faults after.shard.keeper)
    → Follows old.seen new.found → Follows new.found new.seen → new.numbers ≡ old.numbers → new.lock ≡ old.lock → AddsTurn old new
    → IfOk result (λ told. TurnReplies (IsLegal place.index place.count) reply.Refused (ShardAnswers d moment user ask) old new told.reply told.own)
answered-turn faults c d moment user plan ask place before after old new o result same tied w is found seen begins grows numbers lock turns =
    let comes = subst (λ (r : Result Replied Older). Comes faults c moment user plan ask before.shard after.shard r) (one-told o w.result result w.told_is is) w.comes in
    turn-told faults d moment user plan ask place before after old new result tied (subst (λ (l : List Record). Comes faults l moment user plan ask before.shard after.shard result) same comes) found seen begins grows numbers lock turns
