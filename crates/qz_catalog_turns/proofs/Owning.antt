-- What became of a request's own record, by what its call at a list came to.
use Rattle.std.proofs.Common.{◌≡◌, ℕ, Bool, true, List, [], ◌∷◌, ◌++◌, length, length-append, Option, Some, None, Result, Ok, Err, refl, ap, sym, ◌∙◌, subst, arith, append-nil}
use Rattle.std.specs.Prelude.{if◌then◌else◌, is_none, nat_lt, option_to_list, is_some}
use Rattle.std.proofs.lemmas.Bool.{le-ltb, lt-ltb}
use Rattle.qz_catalog.specs.Keeping.{IsTold, Keeping}
use Rattle.qz_catalog.proofs.KeptCalls.{each_settled, settled_by}
use Rattle.qz_grading.specs.declared.refusal.Refusal.{Refusal}
use Rattle.qz_keeper.specs.Lists.{CallEnds, EachMayStand, IsSettled, Looks, OneCall, answered, no_memory, put_in_doubt, stayed_in_doubt}
use Rattle.qz_keeper.specs.Recording.{GoesOn, HasFailed}
use Rattle.qz_keeper.proofs.Calls.{ends_doubt}
use Rattle.qz_keeper.proofs.Settling.{mended_may}
use Rattle.qz_outside.specs.Causes.{HasRisen}
use Rattle.qz_serial.specs.Calls.{LookEnds, looked, unlooked, unread}
use Rattle.qz_serial.proofs.Composing.{ends_mean, look_ends, none-some, settled_call}
use Rattle.qz_terms.specs.declared.ask.Ask.{Ask}
use Rattle.qz_terms.specs.declared.people.User.{User}
use Rattle.qz_terms.specs.declared.record.Record.{Record}
use Rattle.qz_terms.specs.declared.reply.Reply.{Reply}
use Rattle.qz_terms.specs.declared.reply.Reply.TheVariants as reply
use Rattle.qz_terms.specs.Answer.{list_with}
use Rattle.qz_terms.specs.CatalogAnswer.{catalog_verdict, put_in}
use Rattle.qz_terms.specs.Cause.{Denied, Granted, Repeated, Verdict}
use Rattle.qz_terms.specs.Legal.{IsLegalCatalog}
use Rattle.qz_terms.specs.Serial.{Held, with_list}
use Rattle.qz_turn.specs.declared.view.Tale.{Tale}
use Rattle.qz_turn.specs.Passes.{Standing}
use Rattle.qz_turn.specs.Tales.{Follows}
use Rattle.qz_turn.specs.Turns.{AddsTurn}
use Rattle.qz_catalog_turns.specs.declared.replied.OwnRecord.{OwnRecord}
use Rattle.qz_catalog_turns.specs.declared.replied.OwnRecord.TheVariants as own
use Rattle.qz_catalog_turns.specs.declared.replied.Replied.{Replied}
use Rattle.qz_catalog_turns.specs.Owning.{CallReplies, DidReply, Leaves, OneReply, ReplyEnds, TurnReplies, absent, in_doubt, own_of, stands}
use Rattle.qz_catalog_turns.specs.Turning.{Fails, held_of, tale_of}

-- ---- one record more, or none

-- the list afterwards is the list before, with at most one record behind it
pub record PutsOne (h g : List Record) : Type 0 where
  pub put : Option Record
  pub grown : g ≡ h ++ option_to_list put

-- each answer puts at most one
abbrev pub Puts : {A : Type 0} → (List Record → A → List Record → Type 0) → Type 0
Puts Answers = (h : List Record) (told : _) (g : List Record) → Answers h told g → PutsOne h g

pub puts-as : (h l g : List Record) → g ≡ l → PutsOne h l → PutsOne h g
puts-as h l g is p = record { put = p.put; grown = is ∙ p.grown }

pub with-one : (v : Verdict) (h : List Record) (put : Option Record) → PutsOne h (list_with v h put)
with-one (Denied r) h put = record { put = None; grown = sym (append-nil h) }
with-one (Repeated l r) h put = record { put = None; grown = sym (append-nil h) }
with-one Granted h put = record { put = put; grown = refl }

pub told-puts : (now : ℕ) (user : User) (ask : Ask) → Puts (IsTold now user ask)
told-puts now user ask h told g is = puts-as h (list_with (catalog_verdict h now user ask) h (put_in h now user ask)) g is.list (with-one (catalog_verdict h now user ask) h (put_in h now user ask))

-- ---- what it leaves of a mended list

held-is : (g : Held) (l : List Record) (doubt : Option Record) → g.list ≡ l → g.doubt ≡ doubt → g ≡ record { list = l; doubt = doubt }
held-is g l doubt list is = ap (λ (x : List Record). let h : Held = record { list = x; doubt = g.doubt } in h) list ∙ ap (λ (x : Option Record). let h : Held = record { list = l; doubt = x } in h) is

none-more : (n : ℕ) → own_of true n n ≡ own.Absent
none-more n = ap (λ (b : Bool). if b then own.Stands else own.Absent) (le-ltb n n (omega arith))

one-longer : (l : List Record) (r : Record) → nat_lt (length l) (length (l ++ r ∷ [])) ≡ true
one-longer l r = lt-ltb (length l) (length (l ++ r ∷ [])) (omega (arith, length-append l (r ∷ [])))

one-more : (l : List Record) (r : Record) → own_of true (length l) (length (l ++ r ∷ [])) ≡ own.Stands
one-more l r = ap (λ (b : Bool). if b then own.Stands else own.Absent) (one-longer l r)

leaves-put : (l : List Record) (put : Option Record) → Leaves (with_list l) (with_list (l ++ option_to_list put)) (own_of true (length l) (length (l ++ option_to_list put)))
leaves-put l None =
    subst (λ (x : List Record). Leaves (with_list l) (with_list x) (own_of true (length l) (length x))) (sym (append-nil l))
    (subst (Leaves (with_list l) (with_list l)) (sym (none-more (length l))) (absent (with_list l)))
leaves-put l (Some r) = subst (Leaves (with_list l) (with_list (l ++ r ∷ []))) (sym (one-more l r)) (stands l r)

abbrev own_between : Held → Held → OwnRecord
own_between mended new = own_of (is_none new.doubt) (length mended.list) (length new.list)

leaves-answered : (m new : Held) (put : Option Record) → m.doubt ≡ None → new.doubt ≡ None → new.list ≡ m.list ++ option_to_list put → Leaves m new (own_between m new)
leaves-answered m new put clear now grown =
    subst (λ (k : Held). Leaves k new (own_between k new)) (sym (held-is m m.list None refl clear))
    (subst (λ (k : Held). Leaves (with_list m.list) k (own_between (with_list m.list) k)) (sym (held-is new (m.list ++ option_to_list put) None grown now)) (leaves-put m.list put))

leaves-doubted : (m new : Held) (r : Record) → m.doubt ≡ None → new ≡ record { list = m.list; doubt = Some r } → Leaves m new (own_between m new)
leaves-doubted m new r clear is =
    subst (λ (k : Held). Leaves m k (own_between m k)) (sym is)
    (subst (λ (k : Held). Leaves k (record { list = m.list; doubt = Some r }) own.InDoubt) (sym (held-is m m.list None refl clear)) (in_doubt m.list r))

leaves-same : (m new : Held) → m.doubt ≡ None → new ≡ m → Leaves m new (own_between m new)
leaves-same m new clear is =
    let none : own_between m m ≡ own.Absent = ap (λ (d : Option Record). own_of (is_none d) (length m.list) (length m.list)) clear ∙ none-more (length m.list) in
    subst (λ (k : Held). Leaves m k (own_between m k)) (sym is) (subst (Leaves m m) (sym none) (absent m))

left-by : {A : Type 0} (failed : Type 0) (refused : Refusal → A) (Answers : List Record → A → List Record → Type 0) (m new : Held) (told : A) → Puts Answers → m.doubt ≡ None → CallEnds failed refused Answers m new told → Leaves m new (own_between m new)
left-by failed refused Answers m new told puts clear (answered was now is) = let p = puts m.list told new.list is in leaves-answered m new p.put clear now p.grown
left-by failed refused Answers m new told puts clear (put_in_doubt why answer r was is new_is said) = leaves-doubted m new r clear new_is
left-by failed refused Answers m new told puts clear (stayed_in_doubt why doubt new_is said) = absurd (none-some m.doubt clear doubt)
left-by failed refused Answers m new told puts clear (no_memory new_is said) = leaves-same m new clear new_is

-- a call at a list in which none is in doubt, and what it left
pub reply-ends : {A : Type 0} (failed : Type 0) (refused : Refusal → A) (Answers : List Record → A → List Record → Type 0) (m new : Held) (told : A) (is_settled : Bool) (before now : ℕ) → Puts Answers → m.doubt ≡ None
    → is_settled ≡ is_none new.doubt → before ≡ length m.list → now ≡ length new.list → OneCall failed refused Answers m new told → ReplyEnds failed refused Answers m new told (own_of is_settled before now)
reply-ends failed refused Answers m new told is_settled before now puts clear settled_is before_is now_is call =
    let ends = settled_call failed refused Answers m new told clear call in
    let same : own_between m new ≡ own_of is_settled before now =
    ap (λ (b : Bool). own_of b (length m.list) (length new.list)) (sym settled_is) ∙ ap (λ (n : ℕ). own_of is_settled n (length new.list)) (sym before_is) ∙ ap (λ (n : ℕ). own_of is_settled before n) (sym now_is) in
    record { ends = ends; leaves = subst (Leaves m new) same (left-by failed refused Answers m new told puts clear ends) }

-- ---- the mending before it

err-ok : {A B : Type 0} (r : B) (x : A) → ◌≡◌ {A = Result A B} (Err r) (Ok x) → ⊥
err-ok r x e = absurd cc

err-is : {A : Type 0} (r s : Refusal) → ◌≡◌ {A = Result A Refusal} (Err r) (Err s) → r ≡ s
err-is r s e = cc

unmended-by : {A : Type 0} (failed : Type 0) (refused : Refusal → A) (Answers : List Record → A → List Record → Type 0) (old new : Held) (r : Refusal)
    → LookEnds {A = Result (Unit {0}) Refusal} failed (λ r. Err r) (λ _ told. told ≡ Ok tt) old new (Err r) → OneReply failed refused Answers old new (refused r) own.Absent
unmended-by failed refused Answers old new r (looked settled says) = absurd (err-ok r tt says)
unmended-by failed refused Answers old new r (unread why mends doubt is) = record {
  call = record { mended = new; mends = mends; ends = stayed_in_doubt why doubt refl (ap refused (err-is r _ is)) };
  leaves = absent new;
}
unmended-by failed refused Answers old new r (unlooked mends is) = record {
  call = record { mended = new; mends = mends; ends = no_memory refl (ap refused (err-is r _ is)) };
  leaves = absent new;
}

-- a list that can't be mended: nothing is put
pub unmended : {A : Type 0} (failed : Type 0) (refused : Refusal → A) (Answers : List Record → A → List Record → Type 0) (old new : Held) (r : Refusal)
    → OneCall {A = Result (Unit {0}) Refusal} failed (λ r. Err r) (Looks (λ _ told. told ≡ Ok tt)) old new (Err r) → OneReply failed refused Answers old new (refused r) own.Absent
unmended failed refused Answers old new r call = unmended-by failed refused Answers old new r (look_ends failed (λ r. Err r) (λ _ told. told ≡ Ok tt) old new (Err r) call)

-- what holds of each list that may stand holds on of a list that was mended
pub mended-each : (failed : Type 0) (P : List Record → Type 0) (old new : Held) → OneCall {A = Result (Unit {0}) Refusal} failed (λ r. Err r) (Looks (λ _ told. told ≡ Ok tt)) old new (Ok tt) → EachMayStand P old → EachMayStand P new
mended-each failed P old new call each = let settled = settled_by failed old new call in each_settled P new settled.no_doubt (mended_may P old new settled.mends each)

failed-first : (s t : Type 0) (m n o : ℕ) → GoesOn s t m n → HasFailed t n o → HasFailed s m o
failed-first s t m n o g f = record { rose = λ below. omega (arith, g.later, f.rose below); unsound = λ sound. f.unsound (g.still sound) }

-- it was mended, and then the request came to this
pub mended-reply : {A : Type 0} (s t : Type 0) (m n o : ℕ) (refused : Refusal → A) (Answers : List Record → A → List Record → Type 0) (old mended new : Held) (told : A) (left : OwnRecord)
    → GoesOn s t m n → IsSettled old mended → ReplyEnds (HasFailed t n o) refused Answers mended new told left → OneReply (HasFailed s m o) refused Answers old new told left
mended-reply s t m n o refused Answers old mended new told left g settled r = record {
  call = record { mended = mended; mends = settled.mends; ends = ends_mean (HasFailed t n o) (HasFailed s m o) refused Answers Answers mended new told (failed-first s t m n o g) (λ t g is. is) r.ends };
  leaves = r.leaves;
}

-- ---- other answers

-- those that are meant by them over each list that may stand
pub reply-means : {A : Type 0} (failed worse : Type 0) (refused : Refusal → A) (Answers Others : List Record → A → List Record → Type 0) (old new : Held) (told : A) (left : OwnRecord)
    → (failed → worse) → EachMayStand (λ h. (t : A) (g : List Record) → Answers h t g → Others h t g) old → OneReply failed refused Answers old new told left → OneReply worse refused Others old new told left
reply-means failed worse refused Answers Others old new told left to each r = record {
  call = record {
    mended = r.call.mended;
    mends = r.call.mends;
    ends = ends_mean failed worse refused Answers Others r.call.mended new told to (mended_may (λ h. (t : _) (g : List Record) → Answers h t g → Others h t g) old r.call.mended r.call.mends each) r.call.ends;
  };
  leaves = r.leaves;
}

-- ---- what an errand did

-- a keeper failed only where its count rose
pub call-replies : {A : Type 0} (P : List Record → Type 0) (failed : Type 0) (refused : Refusal → A) (Answers : List Record → A → List Record → Type 0) (found seen : Tale Record) (told : A) (left : OwnRecord)
    → (failed → HasRisen found.faults seen.faults) → OneReply failed refused Answers (held_of found) (held_of seen) told left → EachMayStand P (held_of found) → EachMayStand P (held_of seen) → CallReplies P refused Answers found seen told left
call-replies P failed refused Answers found seen told left to r found_may seen_may = record {
  calls = record {
    call = record {
      mended = r.call.mended;
      mends = r.call.mends;
      ends = ends_mean (failed × (is_some seen.doubt ≡ true)) (Fails found seen) refused Answers Answers r.call.mended (held_of seen) told (λ f. (to f.0, f.1)) (λ t g is. is)
          (ends_doubt failed refused Answers r.call.mended (held_of seen) told r.call.ends);
    };
    found_may = found_may;
    seen_may = seen_may;
  };
  leaves = r.leaves;
}

pub did-reply : {K : Type 0} (sound : K → Type 0) (faults : K → ℕ) (Answers : List Record → Reply → List Record → Type 0) (before after : Keeping K) (replied : Replied)
    → OneReply (HasFailed (sound before.keeper) (faults before.keeper) (faults after.keeper)) reply.Refused Answers before.held after.held replied.reply replied.own
    → EachMayStand IsLegalCatalog before.held → EachMayStand IsLegalCatalog after.held → DidReply faults Answers before after (Some replied)
did-reply sound faults Answers before after replied r found left = record {
  replied = replied;
  told_is = refl;
  comes = call-replies IsLegalCatalog (HasFailed (sound before.keeper) (faults before.keeper) (faults after.keeper)) reply.Refused Answers (tale_of before.held (faults before.keeper)) (tale_of after.held (faults after.keeper)) replied.reply replied.own (λ f. f.rose) r found left;
}

-- ---- a turn

pub one-told : {A : Type 0} (o : Option A) (a b : A) → o ≡ Some a → o ≡ Some b → a ≡ b
one-told o a b one other = cc

told-replies : {K : Type 0} (faults : K → ℕ) (Answers : List Record → Reply → List Record → Type 0) (before after : Keeping K) (o : Option Replied) (told : Replied) → DidReply faults Answers before after o → o ≡ Some told
    → CallReplies IsLegalCatalog reply.Refused Answers (tale_of before.held (faults before.keeper)) (tale_of after.held (faults after.keeper)) told.reply told.own
told-replies faults Answers before after o told d is =
    subst (λ (x : Replied). CallReplies IsLegalCatalog reply.Refused Answers (tale_of before.held (faults before.keeper)) (tale_of after.held (faults after.keeper)) x.reply x.own) (one-told o d.replied told d.told_is is) d.comes

-- between what is told of a list before and afterwards
pub tales-reply : {A : Type 0} (P : List Record → Type 0) (refused : Refusal → A) (Answers : List Record → A → List Record → Type 0) (found seen first last : Tale Record) (told : A) (left : OwnRecord) → found ≡ first → seen ≡ last → CallReplies P refused Answers first last told left
    → CallReplies P refused Answers found seen told left
tales-reply P refused Answers found seen first last told left found_is seen_is r =
    subst (λ (t : Tale Record). CallReplies P refused Answers t seen told left) (sym found_is) (subst (λ (t : Tale Record). CallReplies P refused Answers first t told left) (sym seen_is) r)

pub turn-replies : {A K : Type 0} (P : List Record → Type 0) (refused : Refusal → A) (Answers : List Record → A → List Record → Type 0) (old new : Standing Record K) (told : A) (left : OwnRecord) → CallReplies P refused Answers new.found new.seen told left
    → Follows old.seen new.found → Follows new.found new.seen → new.numbers ≡ old.numbers → new.lock ≡ old.lock → AddsTurn old new → TurnReplies P refused Answers old new told left
turn-replies P refused Answers old new told left r begins grows numbers lock turns = record {
  turn = record { begins = begins; grows = grows; calls = r.calls; numbers = numbers; lock = lock; turns = turns };
  leaves = r.leaves;
}

-- what an errand did is told of its turn
pub replied-turn : {K : Type 0} (faults : K → ℕ) (Answers : List Record → Reply → List Record → Type 0) (before after : Keeping K) (old new : Standing Record (Unit {0})) (o : Option Replied) (told : Replied) → DidReply faults Answers before after o → o ≡ Some told
    → new.found ≡ tale_of before.held (faults before.keeper) → new.seen ≡ tale_of after.held (faults after.keeper) → Follows old.seen new.found → Follows new.found new.seen → new.numbers ≡ old.numbers → new.lock ≡ old.lock → AddsTurn old new
    → TurnReplies IsLegalCatalog reply.Refused Answers old new told.reply told.own
replied-turn faults Answers before after old new o told d is found seen begins grows numbers lock turns =
    turn-replies IsLegalCatalog reply.Refused Answers old new told.reply told.own
    (tales-reply IsLegalCatalog reply.Refused Answers new.found new.seen (tale_of before.held (faults before.keeper)) (tale_of after.held (faults after.keeper)) told.reply told.own found seen (told-replies faults Answers before after o told d is)) begins grows numbers lock turns
