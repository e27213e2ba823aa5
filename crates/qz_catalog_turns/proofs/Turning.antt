-- What one turn at a list comes to.
use Rattle.std.proofs.Common.{◌≡◌, ℕ, List, [], ◌∷◌, ◌++◌, Option, Some, None, IfSome, refl, ap, sym, ◌∙◌, subst}
use mathlib.Core.List.{IsPrefix}
use Rattle.qz_catalog.specs.Applying.{IsAsked}
use Rattle.qz_catalog.specs.Keeping.{IsTold, Keeping}
use Rattle.qz_grading.specs.declared.refusal.Refusal.{Refusal}
use Rattle.qz_keeper.specs.Lists.{CallEnds, EachMayStand, Looks, OneCall, answered, no_memory, put_in_doubt, stayed_in_doubt}
use Rattle.qz_keeper.specs.Recording.{GoesOn, HasFailed}
use Rattle.qz_keeper.proofs.Calls.{call_doubts}
use Rattle.qz_serial.proofs.Composing.{calls_mean}
use Rattle.qz_serial.proofs.Growing.{grown_records}
use Rattle.qz_serial.proofs.Longer.{staying_law}
use Rattle.qz_terms.specs.declared.ask.Ask.{Ask}
use Rattle.qz_terms.specs.declared.people.User.{User}
use Rattle.qz_terms.specs.declared.record.Record.{Record}
use Rattle.qz_terms.specs.Legal.{IsLegalCatalog}
use Rattle.qz_terms.specs.Serial.{Held, Mended, adopted, dropped, stays}
use Rattle.qz_turn.specs.Tales.{Follows}
use Rattle.qz_turn.proofs.Prefixes.{prefix_self, prefix_trans}
use Rattle.qz_catalog_turns.specs.Turning.{Did, tale_of}

-- ---- a list only grows

same-list : (a b : List Record) → b ≡ a → IsPrefix a b
same-list a b same = subst (λ (l : List Record). IsPrefix a l) (sym same) (prefix_self a)

mending-grows : (old new : Held) → Mended old new → IsPrefix old.list new.list
mending-grows _ _ (stays k) = prefix_self k.list
mending-grows _ _ (dropped l x) = prefix_self l
mending-grows _ _ (adopted l x) = (x ∷ [], refl)

abbrev pub Grow : {A : Type 0} → (List Record → A → List Record → Type 0) → Type 0
Grow Answers = (h : List Record) (told : _) (g : List Record) → Answers h told g → IsPrefix h g

ending-grows : {A : Type 0} (failed : Type 0) (refused : Refusal → A) (Answers : List Record → A → List Record → Type 0) (mended new : Held) (told : A) → Grow Answers → CallEnds failed refused Answers mended new told → IsPrefix mended.list new.list
ending-grows failed refused Answers mended new told grow (answered before after is) = grow mended.list told new.list is
ending-grows failed refused Answers mended new told grow (put_in_doubt why answer r before is new_is said) = same-list mended.list new.list (ap (λ (h : Held). h.list) new_is)
ending-grows failed refused Answers mended new told grow (stayed_in_doubt why doubt new_is said) = same-list mended.list new.list (ap (λ (h : Held). h.list) new_is)
ending-grows failed refused Answers mended new told grow (no_memory new_is said) = same-list mended.list new.list (ap (λ (h : Held). h.list) new_is)

pub call-grows : {A : Type 0} (failed : Type 0) (refused : Refusal → A) (Answers : List Record → A → List Record → Type 0) (old new : Held) (told : A) → Grow Answers → OneCall failed refused Answers old new told → IsPrefix old.list new.list
call-grows failed refused Answers old new told grow c =
    prefix_trans old.list c.mended.list new.list (mending-grows old c.mended c.mends) (ending-grows failed refused Answers c.mended new told grow c.ends)

pub looks-grow : {A : Type 0} (Says : List Record → A → Type 0) → Grow (Looks Says)
looks-grow Says h told g is = same-list h g is.1

pub told-grows : (now : ℕ) (user : User) (ask : Ask) → Grow (IsTold now user ask)
told-grows now user ask h told g is =
    let grown = grown_records h now user ask in
    (grown.rest, sym (is.list ∙ grown.grown))

-- ---- what an errand did

pub follows-call : {A K : Type 0} (sound : K → Type 0) (faults : K → ℕ) (failed : Type 0) (refused : Refusal → A) (Answers : List Record → A → List Record → Type 0) (before after : Keeping K) (told : A) → Grow Answers
    → OneCall failed refused Answers before.held after.held told → GoesOn (sound before.keeper) (sound after.keeper) (faults before.keeper) (faults after.keeper)
    → Follows (tale_of before.held (faults before.keeper)) (tale_of after.held (faults after.keeper))
follows-call sound faults failed refused Answers before after told grow call goes = record { begins = call-grows failed refused Answers before.held after.held told grow call; faults = goes.later }

pub did : {A K : Type 0} (sound : K → Type 0) (faults : K → ℕ) (refused : Refusal → A) (Answers : List Record → A → List Record → Type 0) (before after : Keeping K) (answer : A)
    → OneCall (HasFailed (sound before.keeper) (faults before.keeper) (faults after.keeper)) refused Answers before.held after.held answer
    → EachMayStand IsLegalCatalog before.held → EachMayStand IsLegalCatalog after.held → Did faults refused Answers before after (Some answer)
did sound faults refused Answers before after answer call found left = record {
  answer = answer;
  told_is = refl;
  calls = record {
    call = (calls_mean _ _ refused Answers Answers).each before.held after.held answer (λ f. (f.0.rose, f.1)) (λ h t g is. is) (call_doubts _ refused Answers before.held after.held answer call);
    found_may = found;
    seen_may = left;
  };
}

-- ---- what may be asked over a list may be over each longer one

asked-longer : (c rest : List Record) (user : User) (ask : Ask) (moment : ℕ) → IsAsked c user ask moment → IsAsked (c ++ rest) user ask moment
asked-longer c rest user ask moment a = record {
  keyed = a.keyed;
  of_catalog = a.of_catalog;
  by_user = staying_law.caller c rest ask.caller user a.by_user;
  kept_request = a.kept_request;
  described = a.described;
  kept_moment = a.kept_moment;
}

asked-on : (c d : List Record) (user : User) (ask : Ask) (moment : ℕ) → IsPrefix c d → IsAsked c user ask moment → IsAsked d user ask moment
asked-on c d user ask moment p a = subst (λ (l : List Record). IsAsked l user ask moment) p.1 (asked-longer c p.0 user ask moment a)

asked-doubt : (h : List Record) (doubt : Option Record) (user : User) (ask : Ask) (moment : ℕ) → IsAsked h user ask moment → IfSome doubt (λ r. IsAsked (h ++ r ∷ []) user ask moment)
asked-doubt h None user ask moment a = tt
asked-doubt h (Some r) user ask moment a = asked-longer h (r ∷ []) user ask moment a

pub asked-each : (c : List Record) (held : Held) (user : User) (ask : Ask) (moment : ℕ) → IsPrefix c held.list → IsAsked c user ask moment → EachMayStand (λ l. IsAsked l user ask moment) held
asked-each c held user ask moment p a =
    let here = asked-on c held.list user ask moment p a in
    record { without = here; with_doubt = asked-doubt held.list held.doubt user ask moment here }
