-- What a look at a shard behind its lock leaves, and what a pass of the catalogue has then seen.
use Rattle.std.proofs.Common.{◌≡◌, ◌⊎◌, ⊎_elim, ℕ, ◌≤◌, Bool, true, false, List, [], ◌∷◌, ◌++◌, length, Option, Some, None, Result, Err, refl, ap, sym, ◌∙◌, subst, arith, append-nil}
use Rattle.std.specs.Prelude.{if◌then◌else◌, nat_lt}
use Rattle.std.proofs.lemmas.Bool.{ltb-false}
use Rattle.std.proofs.lemmas.List.{nil_from_length}
use Rattle.std.proofs.lemmas.List.Elements.{All-nil}
use mathlib.Core.List.{IsPrefix}
use Rattle.qz_catalog_turns.specs.Turning.{IsLook}
use Rattle.qz_grading.specs.declared.refusal.Refusal.{Refusal}
use Rattle.qz_keeper.specs.Lists.{EachMayStand, Looks, OneCall}
use Rattle.qz_shard.specs.Keeping as part
use Rattle.qz_school.proofs.Calls.{look_stands}
use Rattle.qz_school.proofs.Agreeing.{all-longer}
use Rattle.qz_terms.specs.declared.record.Record.{Record}
use Rattle.qz_terms.specs.Legal.{AllAgree, IsLegalCatalog}
use Rattle.qz_turn.specs.declared.view.Tale.{Tale}
use Rattle.qz_turn.specs.declared.view.Turn.{Turn}
use Rattle.qz_turn.specs.Passes.{Standing}
use Rattle.qz_turn.specs.Tales.{Follows}
use Rattle.qz_turn.proofs.Prefixes.{follows_self, prefix_self}
use Rattle.qz_turn.specs.Turns.{Joins, note_of}
use Rattle.qz_shard_turns.specs.Tying.{Behind, HasLooked, IsTied, Placed, SeesMore, WasFound}

-- ---- the shard

-- a look leaves it tied
pub look-tied : {A K : Type 0} (failed : Type 0) (Says : List Record → Result A Refusal → Type 0) (place : Placed) (before after : Behind K) (told : Result A Refusal) → IsTied place before
    → OneCall failed (λ r. Err r) (Looks Says) before.shard.held after.shard.held told → part.IsSamePart before.shard after.shard → after.note ≡ before.note → IsTied place after
look-tied failed Says place before after told tied call same kept = record {
  index_is = same.index ∙ tied.index_is;
  count_is = same.count ∙ tied.count_is;
  own = ap (λ (n : Standing Record (Unit {0})). n.lock) kept ∙ tied.own;
  catalog = subst (λ (n : Standing Record (Unit {0})). IsLegalCatalog n.seen.list) (sym kept) tied.catalog;
  agree = subst (λ (n : Standing Record (Unit {0})). EachMayStand (AllAgree n.seen.list) after.shard.held) (sym kept) (look_stands failed (λ r. Err r) Says (AllAgree before.note.seen.list) before.shard.held after.shard.held told tied.agree call);
}

-- ---- the pass of the catalogue

pub agree-on : (c d h : List Record) → IsPrefix c d → AllAgree c h → AllAgree d h
agree-on c d h p all = subst (λ (l : List Record). AllAgree l h) p.1 (all-longer c p.0 h all)

-- of two lists, one of which begins the other, that which isn't shorter is the longer
pub no-more : (c d : List Record) → IsPrefix c d → length d ≤ length c → d ≡ c
no-more c d p le =
    let none : p.0 ≡ [] = nil_from_length p.0 (let long = ap length p.1 in omega (arith, long, Rattle.std.proofs.Common.length-append c p.0)) in
    sym p.1 ∙ ap (λ (l : List Record). c ++ l) none ∙ append-nil c

agree-longer : (a b : Tale Record) (h : List Record) (shorter : Bool) → nat_lt (length a.list) (length b.list) ≡ shorter → IsPrefix a.list b.list ⊎ IsPrefix b.list a.list → AllAgree b.list h → AllAgree (if shorter then b else a).list h
agree-longer a b h true is one all = all
agree-longer a b h false is one all =
    let le : length b.list ≤ length a.list = ltb-false (length a.list) (length b.list) is in
    ⊎_elim (λ p. subst (λ (l : List Record). AllAgree l h) (no-more a.list b.list p le) all) (λ p. agree-on b.list a.list h p all) one

-- what agrees with the list of one agrees with what two passes have seen together
pub joined-agrees : {K : Type 0} (before other after : Standing Record K) (h : List Record) → Joins before other after → AllAgree other.seen.list h → AllAgree after.seen.list h
joined-agrees before other after h j all =
    subst (λ (t : Tale Record). AllAgree t.list h) (sym j.seen) (agree-longer before.seen other.seen h (nat_lt (length before.seen.list) (length other.seen.list)) refl j.one_list all)

prefix-longer : (a b : Tale Record) (shorter : Bool) → nat_lt (length a.list) (length b.list) ≡ shorter → IsPrefix a.list b.list ⊎ IsPrefix b.list a.list → IsPrefix a.list (if shorter then b else a).list
prefix-longer a b true is one = ⊎_elim (λ p. p) (λ p. absurd (let lt = Rattle.std.proofs.lemmas.Bool.ltb-true (length a.list) (length b.list) is in let long = ap length p.1 in omega (arith, lt, long, Rattle.std.proofs.Common.length-append b.list p.0))) one
prefix-longer a b false is one = ([], append-nil a.list)

either-legal : (a b : Tale Record) (shorter : Bool) → IsLegalCatalog a.list → IsLegalCatalog b.list → IsLegalCatalog (if shorter then b else a).list
either-legal a b true one other = other
either-legal a b false one other = one

-- what is seen together is one of the two
pub joined-legal : {K : Type 0} (before other after : Standing Record K) → Joins before other after → IsLegalCatalog before.seen.list → IsLegalCatalog other.seen.list → IsLegalCatalog after.seen.list
joined-legal before other after j one two =
    subst (λ (t : Tale Record). IsLegalCatalog t.list) (sym j.seen) (either-legal before.seen other.seen (nat_lt (length before.seen.list) (length other.seen.list)) one two)

second : (a b : Tale Record) (shorter : Bool) → nat_lt (length a.list) (length b.list) ≡ shorter → IsPrefix a.list b.list ⊎ IsPrefix b.list a.list → IsPrefix b.list (if shorter then b else a).list
second a b true is one = prefix_self b.list
second a b false is one =
    let le : length b.list ≤ length a.list = ltb-false (length a.list) (length b.list) is in
    ⊎_elim (λ q. subst (λ (l : List Record). IsPrefix l a.list) (sym (no-more a.list b.list q le)) (prefix_self a.list)) (λ q. q) one

-- and so does what the other had seen
pub joined-second : {K : Type 0} (before other after : Standing Record K) → Joins before other after → IsPrefix other.seen.list after.seen.list
joined-second before other after j =
    subst (λ (t : Tale Record). IsPrefix other.seen.list t.list) (sym j.seen) (second before.seen other.seen (nat_lt (length before.seen.list) (length other.seen.list)) refl j.one_list)

-- what was seen begins what is seen together
pub joined-first : {K : Type 0} (before other after : Standing Record K) → Joins before other after → IsPrefix before.seen.list after.seen.list
joined-first before other after j =
    subst (λ (t : Tale Record). IsPrefix before.seen.list t.list) (sym j.seen) (prefix-longer before.seen other.seen (nat_lt (length before.seen.list) (length other.seen.list)) refl j.one_list)

-- a pass without numbers was joined into another
pub joined-more : {K : Type 0} (before other after : Standing Record K) → Joins before other after → other.numbers ≡ [] → SeesMore before after
joined-more before other after j none = record {
  begins = subst (λ (t : Tale Record). Follows before.seen t) (sym j.seen) (record {
    begins = prefix-longer before.seen other.seen (nat_lt (length before.seen.list) (length other.seen.list)) refl j.one_list;
    faults = omega arith;
  });
  numbers = j.numbers ∙ ap (λ (l : List ℕ). before.numbers ++ l) none ∙ append-nil before.numbers;
  lock = j.lock;
}

-- ---- turns that put no record

-- none was taken
pub looked-still : {K : Type 0} (old new : Standing Record K) → SeesMore old new → new.turns ≡ old.turns → HasLooked old new
looked-still old new sees same = record {
  sees = sees;
  looks = record { turns = []; added = same ∙ sym (append-nil old.turns); looks = All-nil IsLook };
}

pub looked-self : {K : Type 0} (p : Standing Record K) → HasLooked p p
looked-self p = looked-still p p (record { begins = follows_self p.seen; numbers = refl; lock = refl }) refl

-- a pass that took none was joined into another
pub looked-joined : {K : Type 0} (before other after : Standing Record K) → Joins before other after → other.numbers ≡ [] → other.turns ≡ [] → HasLooked before after
looked-joined before other after j none idle =
    looked-still before after (joined-more before other after j none) (j.turns ∙ ap (λ (l : List (Turn Record)). before.turns ++ l) idle ∙ append-nil before.turns)

-- ---- a turn

pub one-some : {A : Type 0} (o : Option A) (a b : A) → o ≡ Some a → o ≡ Some b → a ≡ b
one-some o a b one other = cc

-- what an errand was given has seen what the shard's records agree with
pub turned-agrees : {A K : Type 0} (faults : K → ℕ) (Says : List Record → Result A Refusal → Type 0) (place : Placed) (before after : Behind K) (told : Option (Result A Refusal)) (o : Option (Standing Record (Unit {0}))) (note : Standing Record (Unit {0}))
    → WasFound faults Says before after told o → o ≡ Some note → IsTied place after → AllAgree note.seen.list after.shard.held.list
turned-agrees faults Says place before after told o note w is tied =
    let same : note ≡ note_of before.note = one-some o note (note_of before.note) is w.noted in
    subst (λ (n : Standing Record (Unit {0})). AllAgree n.seen.list after.shard.held.list) (sym same)
    (subst (λ (n : Standing Record (Unit {0})). AllAgree n.seen.list after.shard.held.list) w.looked.kept tied.agree.without)
