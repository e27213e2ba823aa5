-- A bank with one version more, and with entries more.
use Rattle.std.proofs.Common.{◌≡◌, ℕ, ◌+◌, ◌-◌, ◌<◌, ◌≤◌, Bool, true, false, List, [], ◌∷◌, ◌++◌, Option, Some, None, length, map, option_map, get_or, refl, sym, ap, ◌∙◌, arith, length-append}
use Rattle.std.specs.Prelude.{◌==◌, if◌then◌else◌, is_none, nat_le, slice_get, slice_set, unwrap_or}
use Rattle.std.proofs.lemmas.Bool.{leb-false}
use Rattle.std.proofs.lemmas.List.{length-map, length-set}
use Rattle.std.proofs.lemmas.List.Elements.{All-append, All-map, All-set}
use Rattle.std.proofs.lemmas.Option.{slice_get_within, slice_get-get_or}
use Rattle.qz_grading.specs.declared.question.Item.{Item}
use Rattle.qz_grading.specs.declared.question.Question.{Question}
use Rattle.qz_grading.specs.declared.refusal.Refusal.TheVariants as refusal
use Rattle.qz_grading.specs.declared.refusal.Thing.TheVariants as thing
use Rattle.qz_grading.specs.Behaviours.{first_some, when}
use Rattle.qz_grading.specs.Grading.{at_place}
use Rattle.qz_terms.specs.Cause.{too_many}
use Rattle.qz_bank.specs.declared.entry.Entry.{Entry}
use Rattle.qz_bank.specs.Banks.{IsBank, IsEntry, entry_cause, first_version, grown, with_version}

-- ---- an entry that may have one version more

pub record MayGrow (es : List Entry) (e : ℕ) (x : Entry) : Type 0 where
  pub not_zero : (e == 0) ≡ false
  pub at : at_place es e ≡ Some x
  pub get : slice_get es (e - 1) ≡ Some x
  pub few : length x.versions < 1000

few-by : (n : ℕ) (b : Bool) → nat_le 1000 n ≡ b → first_some ((if b then Some (refusal.TooMany 1000) else None) ∷ []) ≡ None → n < 1000
few-by n true is none = absurd cc
few-by n false is none = let less = leb-false 1000 n is in omega arith

there-by : (o : Option Entry) → first_some (when (is_none o) (refusal.Unknown thing.Entry) ∷ too_many 1000 (unwrap_or (option_map (λ (x : Entry). length x.versions) o) 0) ∷ []) ≡ None → (x : Entry) × (o ≡ Some x) × (length x.versions < 1000)
there-by None none = absurd cc
there-by (Some x) none = (x, refl, few-by (length x.versions) (nat_le 1000 (length x.versions)) refl none)

grow-by : (es : List Entry) (e : ℕ) (x : Entry) (b : Bool) → (e == 0) ≡ b → at_place es e ≡ Some x → length x.versions < 1000 → MayGrow es e x
grow-by es e x true is at few = let none : None ≡ Some x = rw is at at in absurd cc
grow-by es e x false is at few = record { not_zero = is; at = at; get = rw is at at; few = few }

pub may-grow : (es : List Entry) (e : ℕ) → entry_cause es e ≡ None → (x : Entry) × MayGrow es e x
may-grow es e none =
    let found = there-by (at_place es e) none in
    (found.0, grow-by es e found.0 (e == 0) refl found.1 found.2)

read-there : (es : List Entry) (e : ℕ) (x y : Entry) → MayGrow es e x → y ≡ get_or es (e - 1) y → y ≡ x
read-there es e x y h is =
    let some : Some (get_or es (e - 1) y) ≡ Some x = sym (slice_get-get_or es (e - 1) y (slice_get_within es (e - 1) x h.get)) ∙ h.get in
    cc

-- the entry at the place, with this version more, is put where it was
pub record IsGrown (es : List Entry) (e : ℕ) (q : Question) (y z : Entry) : Type 0 where
  pub bank : IsBank (slice_set es (e - 1) z)
  pub grown_is : slice_set es (e - 1) z ≡ grown es e q

pub grows : (es : List Entry) (e : ℕ) (q : Question) (y z : Entry) → IsBank es → entry_cause es e ≡ None → y ≡ get_or es (e - 1) y → z ≡ with_version y q → IsGrown es e q y z
grows es e q y z h none is made =
    let found = may-grow es e none in
    let x = found.0 in
    let there = found.1 in
    let same : z ≡ with_version x q = made ∙ ap (λ (w : Entry). with_version w q) (read-there es e x y there is) in
    let longer : length z.versions ≡ length x.versions + 1 = ap (λ (w : Entry). length w.versions) same ∙ length-append x.versions (q ∷ []) in
    let kept : IsEntry z = record { some = omega arith; few = let few = there.few in omega arith } in
    record {
      bank = record { few = rw length-set h.few; each = All-set IsEntry es (e - 1) z kept h.each };
      grown_is = ap (slice_set es (e - 1)) same ∙ sym (ap (λ (o : Option Entry). unwrap_or (option_map (λ (w : Entry). slice_set es (e - 1) (with_version w q)) o) es) there.at);
    }

-- ---- an import

first-kept : (i : Item) → IsEntry (first_version i)
first-kept i = record { some = omega arith; few = omega arith }

pub imported-kept : (es : List Entry) (is : List Item) → IsBank es → length es + length is ≤ 20000 → IsBank (es ++ map first_version is)
imported-kept es is h few = record {
  few = simp (length-append, length-map) few;
  each = All-append IsEntry es (map first_version is) h.each (All-map IsEntry first_version is (λ k d inside. first-kept (get_or is k d)));
}
