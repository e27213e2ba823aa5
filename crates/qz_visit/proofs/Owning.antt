-- What a request leaves of its own between the lists that it found, once they were mended, and those that its passes see.
use Rattle.std.proofs.Common.{◌≡◌, inr, ℕ, Bool, true, false, List, [], ◌∷◌, Some, refl, sym, ◌∙◌, subst, eq-eqb}
use Rattle.std.specs.Prelude.{◌==◌, slice_get, slice_set}
use Rattle.std.proofs.lemmas.Bool.{eqb-true}
use mathlib.Core.List.{IsPrefix}
use Rattle.qz_catalog_turns.specs.declared.replied.OwnRecord.{OwnRecord}
use Rattle.qz_catalog_turns.specs.declared.replied.OwnRecord.TheVariants as own
use Rattle.qz_catalog_turns.specs.Owning.{Leaves, absent, in_doubt, stands}
use Rattle.qz_catalog_turns.specs.Turning.{held_of}
use Rattle.qz_grading.specs.declared.refusal.Refusal.{Refusal}
use Rattle.qz_grading.specs.declared.refusal.Refusal.TheVariants as refusal
use Rattle.qz_keeper.specs.Lists.{CallEnds, Looks, OneCall, answered, no_memory, stayed_in_doubt}
use Rattle.qz_serial.specs.Calls.{LookEnds, looked, unlooked, unread}
use Rattle.qz_serial.proofs.Composing.{look_ends}
use Rattle.qz_serial.proofs.Seats.{mended_grows, set_apart, set_get}
use Rattle.qz_terms.specs.declared.record.Record.{Record}
use Rattle.qz_terms.specs.Serial.{Held, Mended, stays}
use Rattle.qz_turn.specs.declared.view.Tale.{Tale}
use Rattle.qz_turn.specs.Passes.{Standing}
use Rattle.qz_turn.proofs.Prefixes.{prefix_self, prefix_trans}
use Rattle.qz_visit.specs.Visits.{IsFoundBy, TookTurn, own_if}

-- ---- looks, from the mended list on

pub ends_mend : {A : Type 0} (failed : Type 0) (refused : Refusal → A) (Says : List Record → A → Type 0) (old new : Held) (told : A) → LookEnds failed refused Says old new told → Mended old new
ends_mend failed refused Says old new told (looked settled says) = settled.mends
ends_mend failed refused Says old new told (unread why mends doubt said) = mends
ends_mend failed refused Says old new told (unlooked mends said) = mends

pub ends_again : {A : Type 0} (failed : Type 0) (refused : Refusal → A) (Says : List Record → A → Type 0) (old new : Held) (told : A) → LookEnds failed refused Says old new told → LookEnds failed refused Says new new told
ends_again failed refused Says old new told (looked settled says) = looked (record { mends = stays new; no_doubt = settled.no_doubt }) says
ends_again failed refused Says old new told (unread why mends doubt said) = unread why (stays new) doubt said
ends_again failed refused Says old new told (unlooked mends said) = unlooked (stays new) said

-- a look behind which no other call comes is the whole call, from the mended list on
pub look_is_call : {A B : Type 0} (failed : Type 0) (refused : Refusal → A) (Says : List Record → A → Type 0) (also : Refusal → B) (Answers : List Record → B → List Record → Type 0) (old new : Held) (told : A) (said : B) → LookEnds failed refused Says old new told
    → (Says new.list told → Answers new.list said new.list) → ((r : Refusal) → told ≡ refused r → said ≡ also r) → CallEnds failed also Answers new new said
look_is_call failed refused Says also Answers old new told said (looked settled says) means same = answered settled.no_doubt settled.no_doubt (means says)
look_is_call failed refused Says also Answers old new told said (unread why mends doubt is) means same = stayed_in_doubt why doubt refl (same refusal.KeepFault is)
look_is_call failed refused Says also Answers old new told said (unlooked mends is) means same = no_memory refl (same refusal.Memory is)

pub look_again : {A : Type 0} (failed : Type 0) (refused : Refusal → A) (Says : List Record → A → Type 0) (old new : Held) (told : A) → OneCall failed refused (Looks Says) old new told → OneCall failed refused (Looks Says) new new told
look_again failed refused Says old new told call = record {
  mended = new;
  mends = stays new;
  ends = look_is_call failed refused Says refused (Looks Says) old new told told (look_ends failed refused Says old new told call) (λ says. (says, refl)) (λ r is. is);
}

-- a call, from the mended list on
pub call_again : {A : Type 0} (failed : Type 0) (refused : Refusal → A) (Answers : List Record → A → List Record → Type 0) (old new : Held) (told : A) (call : OneCall failed refused Answers old new told) → OneCall failed refused Answers call.mended new told
call_again failed refused Answers old new told call = record { mended = call.mended; mends = stays call.mended; ends = call.ends }

-- ---- what was found, once it was mended

-- a list, with the count of faults that was found of it
abbrev pub with_held : {K : Type 0} → Standing Record K → Held → Tale Record
with_held p h = record { list = h.list; doubt = h.doubt; faults = p.found.faults }

-- as it is seen
abbrev pub as_seen : {K : Type 0} → Standing Record K → Tale Record
as_seen p = with_held p (held_of p.seen)

-- a pass that found it so
abbrev pub rested : {K : Type 0} → Standing Record K → Standing Record K
rested p = record p { found = as_seen p }

pub leaves_grow : (m n : Held) (o : OwnRecord) → Leaves m n o → IsPrefix m.list n.list
leaves_grow _ _ _ (absent h) = prefix_self h.list
leaves_grow _ _ _ (stands l r) = (r ∷ [], refl)
leaves_grow _ _ _ (in_doubt l r) = prefix_self l

pub found_mended : {K : Type 0} (old new : Standing Record K) (m : Held) → TookTurn old new → Mended (held_of new.found) m → IsPrefix m.list new.seen.list → IsFoundBy old new (with_held new m)
found_mended old new m is mends grows =
    let grown = mended_grows (held_of new.found) m mends in
    record {
      begins = record { begins = prefix_trans old.seen.list new.found.list m.list is.begins.begins (grown.rest, sym grown.grown); faults = is.begins.faults };
      grows = record { begins = grows; faults = is.grows.faults };
      turned = inr (is, (mends, refl));
      numbers = is.numbers;
      lock = is.lock;
    }

pub found_settled : {K : Type 0} (old new : Standing Record K) → TookTurn old new → Mended (held_of new.found) (held_of new.seen) → IsFoundBy old new (as_seen new)
found_settled old new is mends = found_mended old new (held_of new.seen) is mends (prefix_self new.seen.list)

-- ---- at each shard

some-is : (a b : Tale Record) → Some a ≡ Some b → a ≡ b
some-is a b is = cc

-- nothing of a request's own is where it didn't go
pub leaves_none : (ts : List (Tale Record)) (k : ℕ) (f s : Tale Record) → slice_get ts k ≡ Some f → slice_get ts k ≡ Some s → Leaves (held_of f) (held_of s) own.Absent
leaves_none ts k f s one other = subst (λ (t : Tale Record). Leaves (held_of f) (held_of t) own.Absent) (some-is f s (sym one ∙ other)) (absent (held_of f))

leaves-by : (ts : List (Tale Record)) (k j : ℕ) (old there seen f s : Tale Record) (o : OwnRecord) (b : Bool) → slice_get ts k ≡ Some old → Leaves (held_of there) (held_of seen) o → slice_get (slice_set ts k there) j ≡ Some f → slice_get (slice_set ts k seen) j ≡ Some s
    → (k == j) ≡ b → Leaves (held_of f) (held_of s) (own_if b o)
leaves-by ts k j old there seen f s o true at leaves one other is =
    let same : k ≡ j = eqb-true k j is in
    let first : Some there ≡ Some f = sym (set_get ts k old there at) ∙ subst (λ (i : ℕ). slice_get (slice_set ts k there) i ≡ Some f) (sym same) one in
    let second : Some seen ≡ Some s = sym (set_get ts k old seen at) ∙ subst (λ (i : ℕ). slice_get (slice_set ts k seen) i ≡ Some s) (sym same) other in
    subst (λ (t : Tale Record). Leaves (held_of t) (held_of s) o) (some-is there f first) (subst (λ (t : Tale Record). Leaves (held_of there) (held_of t) o) (some-is seen s second) leaves)
leaves-by ts k j old there seen f s o false at leaves one other is =
    leaves_none ts j f s (sym (set_apart ts k j there apart) ∙ one) (sym (set_apart ts k j seen apart) ∙ other)
  where
    apart : j ≡ k → ⊥
    apart same = let no : true ≡ false = sym (eq-eqb k j (sym same)) ∙ is in absurd cc

-- and where it went it is as is said
pub leaves_there : (ts : List (Tale Record)) (k j : ℕ) (old there seen f s : Tale Record) (o : OwnRecord) → slice_get ts k ≡ Some old → Leaves (held_of there) (held_of seen) o → slice_get (slice_set ts k there) j ≡ Some f → slice_get (slice_set ts k seen) j ≡ Some s → Leaves (held_of f) (held_of s) (own_if (k == j) o)
leaves_there ts k j old there seen f s o at leaves one other = leaves-by ts k j old there seen f s o (k == j) at leaves one other refl
