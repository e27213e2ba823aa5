-- Every version of an entry keeps what every question keeps, since what made it was kept.
use Rattle.std.proofs.Common.{◌≡◌, ℕ, ◌+◌, ◌-◌, ◌≤◌, Bool, true, false, ◌&&◌, List, [], ◌∷◌, ◌++◌, Option, Some, None, option_map, length, map, refl, sym, ap, subst, ◌∙◌, arith, All}
use Rattle.std.specs.List.{list_all}
use Rattle.std.specs.Prelude.{ℤ, pos, ◌==◌, filter_map, int_le, nat_le, nat_lt, option_and_then, slice_get, slice_set, sum_by, unwrap_or}
use Rattle.std.proofs.lemmas.Bool.{eqb-true, leb-true, ltb-false}
use Rattle.std.proofs.lemmas.Int.{ints}
use Rattle.std.proofs.lemmas.List.Elements.{All-append, All-cons, All-head, All-nil, All-push, All-set, All-tail}
use Rattle.std.proofs.lemmas.List.Folds.{list_all-append}
use Rattle.std.proofs.lemmas.List.Sums.{sum_by-append}
use Rattle.std.proofs.lemmas.Option.{get_or_from_slice_get, slice_get_within}
use Rattle.qz_decimal.specs.Numbers.{one}
use Rattle.qz_decimal.specs.Reading.{IsWrittenFraction}
use Rattle.qz_grading.specs.declared.limits.TheConstants.{MOST_TOGETHER}
use Rattle.qz_grading.specs.declared.question.Item.{Item}
use Rattle.qz_grading.specs.declared.question.Kind.{Kind}
use Rattle.qz_grading.specs.declared.question.Kind.TheVariants as kind
use Rattle.qz_grading.specs.declared.question.Question.{Question}
use Rattle.qz_grading.specs.declared.refusal.Refusal.TheVariants as refusal
use Rattle.qz_grading.specs.Behaviours.{when}
use Rattle.qz_grading.specs.Canonical.{canonical_question, canonical_size}
use Rattle.qz_grading.specs.Grading.{at_place}
use Rattle.qz_grading.specs.Questions.{IsQuestion, are_no_longer, texts}
use Rattle.qz_grading.proofs.TogetherLemmas.{together-length}
use Rattle.qz_terms.specs.declared.plan.Planned.{Planned}
use Rattle.qz_terms.specs.declared.record.Record.{Record}
use Rattle.qz_terms.specs.declared.request.Request.{Request}
use Rattle.qz_terms.specs.declared.request.Request.TheVariants as request
use Rattle.qz_terms.specs.Catalog.{asked, changed_by, edited, questions, tuned}
use Rattle.qz_terms.specs.Catalog as catalog
use Rattle.qz_terms.specs.Cause.{cause_in, missing_in}
use Rattle.qz_terms.specs.Kept.{AreQuestions, IsKept, KeepsRequest, are_hints, asks_described, described_by, is_described, is_penalty}
use Rattle.qz_terms.specs.Legal.{IsLegalCatalog}
use Rattle.qz_bank.specs.declared.entry.Entry.{Entry}
use Rattle.qz_bank.specs.Banks.{change_cause, entry_cause, first_version, grown, newer_version, newest, size_cause, version, with_version}
use Rattle.qz_bank.specs.Laws.{IsBankOf, changes_bank}
use Rattle.qz_bank.proofs.FollowingLemmas.{cause-follows, count-follows, other-follows, version-follows}
use Rattle.qz_catalog.specs.Applying.{bank_after, bank_cause}
use Rattle.qz_catalog.specs.Holdings.{keeps_described}
use Rattle.qz_roster.proofs.NextLemmas.{first-none}
use Rattle.qz_catalog.proofs.Accepted.{accepted, by-prefixes}
use Rattle.qz_catalog.proofs.Deciding.{bank-after}
use Rattle.qz_catalog.proofs.Keeping.{request-kept}
use Rattle.qz_catalog.proofs.Marks.{and-left, and-right}

-- ---- a version

pub record IsKeptVersion (q : Question) : Type 0 where
  pub question : IsQuestion q
  pub described : is_described q ≡ true

no-general : (k : Kind) (general : List ℕ) → described_by k general ≡ true → k ≡ kind.Description → length general ≡ 0
no-general k general is same = eqb-true (length general) 0 (subst (λ (j : Kind). described_by j general ≡ true) same is)

size-by : (q : Question) (b : Bool) → nat_lt MOST_TOGETHER (canonical_size q) ≡ b → when b (refusal.TooMany MOST_TOGETHER) ≡ None → canonical_size q ≤ MOST_TOGETHER
size-by q true is none = absurd cc
size-by q false is none = ltb-false MOST_TOGETHER (canonical_size q) is

-- its texts are no longer than what is measured of it
together-kept : (q : Question) → is_described q ≡ true → size_cause q ≡ None → sum_by length (texts q ++ q.hints) ≤ 262144
together-kept q is none =
    let long = together-length q (no-general q.kind q.general.text is) in
    let whole : sum_by length (texts q ++ q.hints) ≡ sum_by length (texts q) + sum_by length q.hints = sum_by-append {X = List ℕ} length (texts q) q.hints in
    let measured : length (canonical_question q) + sum_by length q.hints ≤ 262144 = size-by q (nat_lt MOST_TOGETHER (canonical_size q)) refl none in
    omega (arith, long, whole, measured)

edited-kept : (old gift : Question) → IsKeptVersion old → IsQuestion gift → is_described gift ≡ true → size_cause (edited old gift) ≡ None → IsKeptVersion (edited old gift)
edited-kept old gift kept is described none = record {
  question = record {
    kind = is.kind;
    penalty = kept.question.penalty;
    lengths = is.lengths;
    few_hints = kept.question.few_hints;
    hints = kept.question.hints;
    together = together-kept (edited old gift) described none;
  };
  described = described;
}

fraction-kept : (p : ℤ) → is_penalty p ≡ true → IsWrittenFraction p
fraction-kept p is =
    let above = and-left (int_le (pos 0) p) (int_le p (pos one)) is in
    let below = and-right (int_le (pos 0) p) (int_le p (pos one)) is in
    (omega (arith, ints, above), omega (arith, ints, below))

tuned-kept : (old : Question) (penalty : ℤ) (hints : List (List ℕ)) → IsKeptVersion old → is_penalty penalty && are_hints hints ≡ true → size_cause (tuned old penalty hints) ≡ None → IsKeptVersion (tuned old penalty hints)
tuned-kept old penalty hints kept is none =
    let given = and-right (is_penalty penalty) (are_hints hints) is in
    record {
      question = record {
        kind = kept.question.kind;
        penalty = fraction-kept penalty (and-left (is_penalty penalty) (are_hints hints) is);
        lengths = kept.question.lengths;
        few_hints = leb-true (length hints) 20 (and-left (nat_le (length hints) 20) (are_no_longer 4096 hints) given);
        hints = and-right (nat_le (length hints) 20) (are_no_longer 4096 hints) given;
        together = together-kept (tuned old penalty hints) kept.described none;
      };
      described = kept.described;
    }

-- ---- a bank

abbrev AreKept : Entry → Type 0
AreKept x = All IsKeptVersion x.versions

abbrev IsKeptBank : List Entry → Type 0
IsKeptBank es = All AreKept es

place-by : {A : Type 0} (P : A → Type 0) (xs : List A) (n : ℕ) (x : A) (b : Bool) → (n == 0) ≡ b → at_place xs n ≡ Some x → All P xs → P x
place-by P xs n x true is found all = let none : None ≡ Some x = rw is at found in absurd cc
place-by P xs n x false is found all =
    let get : slice_get xs (n - 1) ≡ Some x = rw is at found in
    subst P (get_or_from_slice_get xs (n - 1) x x get) (all (n - 1) x (slice_get_within xs (n - 1) x get))

pub place-kept : {A : Type 0} (P : A → Type 0) (xs : List A) (n : ℕ) (x : A) → at_place xs n ≡ Some x → All P xs → P x
place-kept P xs n x found all = place-by P xs n x (n == 0) refl found all

version-by : (es : List Entry) (e n : ℕ) (q : Question) (o : Option Entry) → at_place es e ≡ o → option_and_then (λ (x : Entry). at_place x.versions n) o ≡ Some q → IsKeptBank es → IsKeptVersion q
version-by es e n q None is told bank = absurd cc
version-by es e n q (Some x) is told bank = place-kept IsKeptVersion x.versions n q told (place-kept AreKept es e x is bank)

version-kept : (es : List Entry) (e n : ℕ) (q : Question) → version es e n ≡ Some q → IsKeptBank es → IsKeptVersion q
version-kept es e n q told bank = version-by es e n q (at_place es e) refl told bank

grown-kept : (es : List Entry) (e : ℕ) (q : Question) (o : Option Entry) → at_place es e ≡ o → IsKeptVersion q → IsKeptBank es → IsKeptBank (unwrap_or (option_map (λ (x : Entry). slice_set es (e - 1) (with_version x q)) o) es)
grown-kept es e q None is kept bank = bank
grown-kept es e q (Some x) is kept bank = All-set AreKept es (e - 1) (with_version x q) (All-push IsKeptVersion x.versions q (place-kept AreKept es e x is bank) kept) bank

-- a change that keeps each version that is kept
abbrev Keeps : Request → Type 0
Keeps x = (old : Question) → IsKeptVersion old → size_cause (changed_by old x) ≡ None → IsKeptVersion (changed_by old x)

changed-by : (es : List Entry) (e : ℕ) (x : Request) (o : Option Question) → newest es e ≡ o → Keeps x → option_and_then size_cause (option_map (λ old. changed_by old x) o) ≡ None → IsKeptBank es → IsKeptBank (unwrap_or (option_map (grown es e) (option_map (λ old. changed_by old x) o)) es)
changed-by es e x None is keeps none bank = bank
changed-by es e x (Some old) is keeps none bank = grown-kept es e (changed_by old x) (at_place es e) refl (keeps old (version-kept es e _ old is bank) none) bank

changed-kept : (es : List Entry) (e : ℕ) (x : Request) → Keeps x → change_cause es e x ≡ None → IsKeptBank es → IsKeptBank (unwrap_or (option_map (grown es e) (newer_version es e x)) es)
changed-kept es e x keeps none bank =
    let size = option_and_then size_cause (newer_version es e x) in
    changed-by es e x (newest es e) refl keeps (first-none size [] (first-none (entry_cause es e) (size ∷ []) none).1).0 bank

imported-kept : (is : List Item) → AreQuestions (map (λ (i : Item). i.question) is) → list_all (λ (i : Item). is_described i.question) is ≡ true → IsKeptBank (map first_version is)
imported-kept [] are all = All-nil AreKept
imported-kept (i ∷ is) are all =
    let later = list_all (λ (j : Item). is_described j.question) is in
    let first : IsKeptVersion i.question = record { question = All-head IsQuestion i.question (map (λ (j : Item). j.question) is) are; described = and-left (is_described i.question) later all } in
    All-cons AreKept (first_version i) (map first_version is) (All-cons IsKeptVersion i.question [] first (All-nil IsKeptVersion))
    (imported-kept is (All-tail IsQuestion i.question (map (λ (j : Item). j.question) is) are) (and-right (is_described i.question) later all))

bank-kept : (es : List Entry) (x : Request) → KeepsRequest x → asks_described x ≡ true → bank_cause es x ≡ None → IsKeptBank es → IsKeptBank (bank_after es x)
bank-kept es (request.Import gift) keeps described none bank = All-append AreKept es (map first_version gift.items) bank (imported-kept gift.items keeps described)
bank-kept es (request.Edit e gift) keeps described none bank = changed-kept es e (request.Edit e gift) (λ old kept small. edited-kept old gift kept keeps described small) none bank
bank-kept es (request.Tune e penalty hints) keeps described none bank = changed-kept es e (request.Tune e penalty hints) (λ old kept small. tuned-kept old penalty hints kept keeps small) none bank
bank-kept es x keeps described none bank = bank

-- ---- the bank of all the records

-- a request that was accepted has no cause in the bank of the records before
pub bank-free : (l : List Record) (es : List Entry) (r : Record) (x : Request) → IsBankOf l es → missing_in l x ≡ None → cause_in l r x ≡ None → bank_cause es x ≡ None
bank-free l es r (request.Import gift) bank there none = ap (λ (n : ℕ). when (nat_lt 20000 (n + length gift.items)) (refusal.TooMany 20000)) (count-follows l es bank) ∙ (first-none _ _ none).0
bank-free l es r (request.Edit e gift) bank there none = cause-follows l es e (request.Edit e gift) bank ∙ rw (there, none) refl
bank-free l es r (request.Tune e penalty hints) bank there none = cause-follows l es e (request.Tune e penalty hints) bank ∙ rw (there, none) refl
bank-free l es r x bank there none = refl

-- the bank of these records, whose versions are all kept
record HasKeptBank (l : List Record) : Type 0 where
  entries : List Entry
  bank : IsBankOf l entries
  kept : IsKeptBank entries

seam-passes : {A : Type 0} (p : A → Bool) (l : List A) (x : A) (rest : List A) → list_all p (l ++ x ∷ rest) ≡ true → p x ≡ true
seam-passes p l x rest all = and-left (p x) (list_all p rest) (and-right (list_all p l) (list_all p (x ∷ rest)) (sym (list_all-append p l (x ∷ rest)) ∙ all))

one-more : (c l : List Record) (r : Record) (rest : List Record) (o : Option Request) → IsLegalCatalog c → All IsKept c → list_all keeps_described c ≡ true → c ≡ l ++ r ∷ rest → asked r ≡ o → HasKeptBank l → HasKeptBank (l ++ r ∷ [])
one-more c l r rest None legal kept described e is b = record { entries = b.entries; bank = other-follows l b.entries r b.bank (ap changes_bank is); kept = b.kept }
one-more c l r rest (Some x) legal kept described e is b =
    let a = accepted c l r rest x legal e is in
    let none : bank_cause b.entries x ≡ None = bank-free l b.entries r x b.bank a.there a.causeless in
    let here : keeps_described r ≡ true = seam-passes keeps_described l r rest (ap (list_all keeps_described) (sym e) ∙ described) in
    let asks : asks_described x ≡ true = ap (λ (o : Option Request). unwrap_or (option_map asks_described o) true) (sym is) ∙ here in
    record {
      entries = bank_after b.entries x;
      bank = bank-after l b.entries r x b.bank is none;
      kept = bank-kept b.entries x (request-kept c l r rest kept e x is) asks none b.kept;
    }

kept-bank : (c : List Record) → IsLegalCatalog c → All IsKept c → list_all keeps_described c ≡ true → HasKeptBank c
kept-bank c legal kept described = by-prefixes HasKeptBank c (record { entries = []; bank = record { entries = refl; none_ahead = λ e ahead. refl }; kept = All-nil AreKept }) (λ l r rest e b. one-more c l r rest (asked r) legal kept described e refl b)

-- ---- what is told of the records

told-step : {A B : Type 0} (P : B → Type 0) (f : A → Option B) (x : A) (xs : List A) (o : Option B) → f x ≡ o → ((y : B) → o ≡ Some y → P y) → All P (filter_map f xs) → All P (filter_map f (x ∷ xs))
told-step P f x xs None is here rest = rw is rest
told-step P f x xs (Some y) is here rest = rw is (All-cons P y (filter_map f xs) (here y refl) rest)

told-kept : {A B : Type 0} (P : B → Type 0) (f : A → Option B) (xs : List A) → ((x : A) (y : B) → f x ≡ Some y → P y) → All P (filter_map f xs)
told-kept P f [] each = All-nil P
told-kept P f (x ∷ xs) each = told-step P f x xs (f x) refl (each x) (told-kept P f xs each)

-- the questions of these slots are questions
pub questions-kept : (c : List Record) (ss : List Planned) → IsLegalCatalog c → All IsKept c → list_all keeps_described c ≡ true → AreQuestions (questions c ss)
questions-kept c ss legal kept described =
    let b = kept-bank c legal kept described in
    told-kept IsQuestion (λ (s : Planned). catalog.version c s.entry s.version) ss (λ s q told. (version-kept b.entries s.entry s.version q (version-follows c b.entries s.entry s.version b.bank ∙ told) b.kept).question)
