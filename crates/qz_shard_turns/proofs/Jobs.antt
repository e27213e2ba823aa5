-- What a step of a job leaves, and that its shard stays tied to its catalogue.
use Rattle.std.proofs.Common.{◌≡◌, ℕ, List, Option, Some, refl, ap, sym, ◌∙◌, subst}
use mathlib.Core.List.{IsPrefix}
use Rattle.qz_catalog_turns.specs.declared.replied.Replied.{Replied}
use Rattle.qz_catalog_turns.specs.Owning.{CallReplies, OneReply, TurnReplies}
use Rattle.qz_catalog_turns.specs.Turning.{tale_of}
use Rattle.qz_catalog_turns.proofs.Owning.{Puts, call-replies, one-told}
use Rattle.qz_keeper.specs.Lists.{EachMayStand, OneCall}
use Rattle.qz_keeper.specs.Recording.{HasFailed}
use Rattle.qz_school.proofs.Working.{working_law}
use Rattle.qz_serial.proofs.Longer.{staying_law}
use Rattle.qz_shard.specs.Holdings.{IsWorkable}
use Rattle.qz_shard.specs.Keeping as part
use Rattle.qz_shard.specs.Works.{IsWorked}
use Rattle.qz_school.proofs.Calls.{call_stands, stand_as, stand_both}
use Rattle.qz_terms.specs.declared.plan.Job.{Job}
use Rattle.qz_terms.specs.declared.record.Record.{Record}
use Rattle.qz_terms.specs.declared.reply.Reply.{Reply}
use Rattle.qz_terms.specs.declared.reply.Reply.TheVariants as reply
use Rattle.qz_terms.specs.Answer.{put_by_job}
use Rattle.qz_terms.specs.Catalog as catalog
use Rattle.qz_terms.specs.Legal.{AllAgree, IsLegal, IsLegalCatalog}
use Rattle.qz_terms.specs.Serial.{Held}
use Rattle.qz_turn.specs.Passes.{Standing}
use Rattle.qz_turn.specs.Tales.{Follows}
use Rattle.qz_turn.specs.Turns.{AddsTurn, Joins}
use Rattle.qz_shard_turns.specs.Tying.{Behind, IsTied, Placed}
use Rattle.qz_shard_turns.specs.Jobs.{CanWork, DidWork}
use Rattle.qz_shard_turns.proofs.Posing.{same-legal, turn-of}
use Rattle.qz_shard_turns.proofs.Tying.{agree-on, joined-first, joined-legal, joined-second}

-- ---- a longer catalogue has the job too

job-on : (c d : List Record) (n : ℕ) (job : Job) → IsPrefix c d → catalog.job c n ≡ Some job → catalog.job d n ≡ Some job
job-on c d n job p is = subst (λ (l : List Record). catalog.job l n ≡ Some job) p.1 (staying_law.job c p.0 n job is)

user-on : (c d : List Record) (caller : ℕ) (job : Job) (moment : ℕ) → IsPrefix c d → (w : CanWork c caller job moment) → catalog.user_of d w.who ≡ Some w.user
user-on c d caller job moment p w = subst (λ (l : List Record). catalog.user_of l w.who ≡ Some w.user) p.1 (staying_law.caller c p.0 w.who w.user w.known)

pub work-asked : (c d : List Record) (index count caller : ℕ) (job : Job) (moment : ℕ) (held : Held) → CanWork c caller job moment → IsPrefix c d → IsLegalCatalog d → EachMayStand (AllAgree d) held → EachMayStand (IsLegal index count) held
    → EachMayStand (λ h. IsWorkable h job moment) held
work-asked c d index count caller job moment held w p legal agree own = stand_as (λ h. IsWorkable h job moment) (λ h. AllAgree d h × IsLegal index count h) held
    (λ h stands. record {
      kept_plan = w.job_is.kept;
      known = λ j planned q x slot question learned. working_law.known d h w.number j job planned q x legal stands.0 (job-on c d w.number job p w.job_is.job_is) slot question learned;
      has_slot = working_law.slots d h index count w.number job legal stands.1 stands.0 (job-on c d w.number job p w.job_is.job_is);
      kept_moment = w.in_range;
    }) (stand_both (AllAgree d) (IsLegal index count) held agree own)

-- ---- the shard stays tied

step-agrees : (c d : List Record) (index count caller : ℕ) (job : Job) (moment : ℕ) (h : List Record) (t : Reply) (g : List Record) → CanWork c caller job moment → IsPrefix c d → IsLegalCatalog d → AllAgree d h → IsLegal index count h → IsWorked h moment caller job t g → AllAgree d g
step-agrees c d index count caller job moment h t g w p legal all own is =
    let left = working_law.worked d h index count moment w.who w.user w.number job legal own all (user-on c d caller job moment p w) (job-on c d w.number job p w.job_is.job_is) in
    subst (AllAgree d) (sym (is.list ∙ ap (λ n. Rattle.qz_terms.specs.Answer.work_after h moment n job) (sym w.caller_is))) left

pub tied-before : {K : Type 0} (place : Placed) (before : Behind K) (note new : Standing Record (Unit {0})) → IsTied place before → Joins before.note note new → EachMayStand (AllAgree new.seen.list) before.shard.held
tied-before place before note new tied j =
    stand_as (AllAgree new.seen.list) (AllAgree before.note.seen.list) before.shard.held (λ h all. agree-on before.note.seen.list new.seen.list h (joined-first before.note note new j) all) tied.agree

pub work-tied : {K : Type 0} (failed : Type 0) (place : Placed) (before after : Behind K) (note : Standing Record (Unit {0})) (caller : ℕ) (job : Job) (moment : ℕ) (told : Reply) → IsTied place before
    → Joins before.note note after.note → part.IsSamePart before.shard after.shard → CanWork note.seen.list caller job moment → EachMayStand (IsLegal before.shard.index before.shard.count) before.shard.held
    → OneCall failed reply.Refused (λ h t g. IsWorked h moment caller job t g) before.shard.held after.shard.held told → IsTied place after
work-tied failed place before after note caller job moment told tied j same w own call =
    let d = after.note.seen.list in
    let more = joined-second before.note note after.note j in
    let legal = joined-legal before.note note after.note j tied.catalog w.legal in
    record {
      index_is = same.index ∙ tied.index_is;
      count_is = same.count ∙ tied.count_is;
      own = j.lock ∙ tied.own;
      catalog = legal;
      agree = call_stands failed reply.Refused (λ h t g. IsWorked h moment caller job t g) (AllAgree d) (λ h. AllAgree d h × IsLegal before.shard.index before.shard.count h) before.shard.held after.shard.held told (λ h q. q.0)
          (λ h t g q is. step-agrees note.seen.list d before.shard.index before.shard.count caller job moment h t g w more legal q.0 q.1 is)
          (stand_both (AllAgree d) (IsLegal before.shard.index before.shard.count) before.shard.held (tied-before place before note after.note tied j) own) call;
    }

-- ---- what became of its own record

-- a step puts at most one record
pub worked-puts : (moment caller : ℕ) (job : Job) → Puts (λ h t g. IsWorked h moment caller job t g)
worked-puts moment caller job h told g is = record { put = put_by_job h moment caller job; grown = is.list }

-- ---- what came of it

pub work-did : {K : Type 0} (sound : K → Type 0) (faults : K → ℕ) (caller : ℕ) (job : Job) (moment : ℕ) (before after : part.Keeping K) (told : Replied)
    → OneReply (HasFailed (sound before.keeper) (faults before.keeper) (faults after.keeper)) reply.Refused (λ h t g. IsWorked h moment caller job t g) before.held after.held told.reply told.own
    → part.IsSamePart before after → EachMayStand (IsLegal before.index before.count) before.held → EachMayStand (IsLegal after.index after.count) after.held → DidWork faults moment caller job before after (Some told)
work-did sound faults caller job moment before after told r same found left = record {
  replied = told;
  told_is = refl;
  comes = call-replies (IsLegal before.index before.count) (HasFailed (sound before.keeper) (faults before.keeper) (faults after.keeper)) reply.Refused (λ h t g. IsWorked h moment caller job t g) (tale_of before.held (faults before.keeper)) (tale_of after.held (faults after.keeper)) told.reply told.own
      (λ f. f.rose) r found (same-legal before after same left);
}

-- ---- a turn

pub worked-turn : {K : Type 0} (faults : K → ℕ) (moment caller : ℕ) (job : Job) (place : Placed) (before after : Behind K) (old new : Standing Record Placed) (o : Option Replied) (told : Replied) → IsTied place before
    → DidWork faults moment caller job before.shard after.shard o → o ≡ Some told → new.found ≡ tale_of before.shard.held (faults before.shard.keeper) → new.seen ≡ tale_of after.shard.held (faults after.shard.keeper)
    → Follows old.seen new.found → Follows new.found new.seen → new.numbers ≡ old.numbers → new.lock ≡ old.lock → AddsTurn old new
    → TurnReplies (IsLegal place.index place.count) reply.Refused (λ h t g. IsWorked h moment caller job t g) old new told.reply told.own
worked-turn faults moment caller job place before after old new o told tied w is found seen begins grows numbers lock turns =
    let first = tale_of before.shard.held (faults before.shard.keeper) in
    let last = tale_of after.shard.held (faults after.shard.keeper) in
    let comes = subst (λ (x : Replied). CallReplies (IsLegal before.shard.index before.shard.count) reply.Refused (λ h t g. IsWorked h moment caller job t g) first last x.reply x.own) (one-told o w.replied told w.told_is is) w.comes in
    turn-of reply.Refused (λ h t g. IsWorked h moment caller job t g) place before first last old new told.reply told.own tied comes found seen begins grows numbers lock turns
