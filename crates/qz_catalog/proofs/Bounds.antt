-- What a reply over a legal list has room for: a quiz has at most 200 slots, and there are at most 20,000 entries.
use Rattle.std.proofs.Common.{◌≡◌, ℕ, ◌+◌, ◌≤◌, Bool, true, false, List, ◌∷◌, ◌++◌, Option, Some, None, length, refl, ap, ◌∙◌, arith, append_assoc}
use Rattle.std.specs.Prelude.{if◌then◌else◌, nat_lt}
use Rattle.std.proofs.lemmas.Bool.{ltb-false}
use Rattle.qz_grading.specs.declared.question.Bank.{Bank}
use Rattle.qz_grading.specs.declared.refusal.Refusal.TheVariants as refusal
use Rattle.qz_terms.specs.declared.record.Record.{Record}
use Rattle.qz_terms.specs.declared.request.Request.{Request}
use Rattle.qz_terms.specs.declared.request.Request.TheVariants as request
use Rattle.qz_terms.specs.Catalog.{asked, entries, imports_by}
use Rattle.qz_terms.specs.Legal.{IsLegalCatalog}
use Rattle.qz_catalog.specs.Applying.{IsShort, IsToldOver, import_size, slotted_quiz}
use Rattle.qz_catalog.proofs.Accepted.{IsAccepted, accepted, by-prefixes, few-slots}
use Rattle.qz_roster.proofs.CountLemmas.{entries-push}
use Rattle.qz_roster.proofs.NextLemmas.{first-none, slots-length}

pub legal-before : (l rest : List Record) → IsLegalCatalog (l ++ rest) → IsLegalCatalog l
legal-before l rest legal = record {
  each = λ k r more e. legal.each k r (more ++ rest) (ap (λ (t : List Record). t ++ rest) e ∙ append_assoc k (r ∷ more) rest);
}

-- ---- entries

within-by : (most count : ℕ) (b : Bool) → nat_lt most count ≡ b → (if b then Some (refusal.TooMany most) else None) ≡ None → count ≤ most
within-by most count true is none = absurd cc
within-by most count false is none = ltb-false most count is

import-room : (l : List Record) (r : Record) (gift : Bank) → IsAccepted l r (request.Import gift) → length (entries l) + length gift.items ≤ 20000
import-room l r gift a = within-by 20000 (length (entries l) + length gift.items) (nat_lt 20000 (length (entries l) + length gift.items)) refl (first-none _ _ a.causeless).0

entry-room : (l : List Record) (r : Record) (o : Option Request) → ((x : Request) → o ≡ Some x → IsAccepted l r x) → length (entries l) ≤ 20000 → length (entries l) + length (imports_by o) ≤ 20000
entry-room l r (Some (request.Import gift)) told few = import-room l r gift (told (request.Import gift) refl)
entry-room l r o told few = omega arith

pub entries-few : (c : List Record) → IsLegalCatalog c → length (entries c) ≤ 20000
entries-few c legal = by-prefixes (λ (l : List Record). length (entries l) ≤ 20000) c (omega arith)
    (λ l r rest e few. let room = entry-room l r (asked r) (λ x is. accepted c l r rest x legal e is) few in let long = entries-push l r in omega arith)

-- ---- of a list whose last record is told of

size-told : (x : Request) → length (imports_by (Some x)) ≡ import_size x
size-told (request.Import gift) = refl
size-told x = refl

pub short : (l : List Record) (r : Record) (t : IsToldOver l r) → IsShort l t.request
short l r t =
    let whole : length (entries l) ≡ length (entries t.before) + length (imports_by (asked r)) = ap (λ (k : List Record). length (entries k)) t.ends ∙ entries-push t.before r in
    let here : length (imports_by (asked r)) ≡ import_size t.request = ap (λ (o : Option Request). length (imports_by o)) t.asked ∙ size-told t.request in
    let made = few-slots l (slotted_quiz t.request) t.legal in
    let long = slots-length l (slotted_quiz t.request) in
    record {
      few = t.few;
      entries = entries-few l t.legal;
      made = omega arith;
      slots = omega arith;
    }
