-- What a request comes to, and the causes that stand in the bank.
use Rattle.std.proofs.Common.{◌≡◌, ℕ, ◌+◌, Bool, true, List, [], ◌∷◌, ◌++◌, Option, Some, None, length, refl, sym, ap, ◌∙◌}
use Rattle.std.specs.Prelude.{is_none, is_some, nat_lt, option_map, unwrap_or, ℤ, pos, int_lt, ◌||◌}
use Rattle.std.specs.Option.{option_or}
use Rattle.std.proofs.lemmas.Bool.{eq-eqb}
use Rattle.qz_grading.specs.declared.question.Bank.{Bank}
use Rattle.qz_grading.specs.declared.question.Question.{Question}
use Rattle.qz_grading.specs.declared.refusal.Refusal.{Refusal}
use Rattle.qz_grading.specs.declared.refusal.Refusal.TheVariants as refusal
use Rattle.qz_grading.specs.declared.refusal.Thing.TheVariants as thing
use Rattle.qz_grading.specs.Behaviours.{first_some, when}
use Rattle.qz_grading.specs.Grading.{at_place}
use Rattle.qz_terms.specs.declared.ask.Ask.{Ask}
use Rattle.qz_terms.specs.declared.people.User.{User}
use Rattle.qz_terms.specs.declared.record.Event.TheVariants as event
use Rattle.qz_terms.specs.declared.record.Record.{Record}
use Rattle.qz_terms.specs.declared.request.Request.{Request}
use Rattle.qz_terms.specs.declared.request.Request.TheVariants as request
use Rattle.qz_terms.specs.Catalog.{asked, changes_by, entries}
use Rattle.qz_terms.specs.Catalog as catalog
use Rattle.qz_terms.specs.CatalogAnswer.{gift_reply, looked_in_by, moment_in, record_in}
use Rattle.qz_terms.specs.Cause.{Denied, Granted, by_key, bad_max, cause_in, denied, forbidden, greatest_max, keeps_request, missing_entry, most_for_kind, missing_in, verdict_in}
use Rattle.qz_bank.specs.declared.entry.Entry.{Entry}
use Rattle.qz_bank.specs.Banks as banks
use Rattle.qz_bank.specs.Laws.{IsBankOf, changes_bank}
use Rattle.qz_bank.proofs.FollowingLemmas.{cause-follows, change-follows, count-follows, import-follows, latest-follows, other-follows, there-follows, version-follows}
use Rattle.qz_roster.proofs.NextLemmas.{first-none}
use Rattle.qz_catalog.specs.Applying.{IsFree, bank_after, bad_for, bank_cause, early_cause, greatest_of, stand_in}

-- ---- the first refusal

second-none : (a b : Option Refusal) → first_some (a ∷ b ∷ []) ≡ None → b ≡ None
second-none a b none = (first-none b [] (first-none a (b ∷ []) none).1).0

second-some : (a b : Option Refusal) (r : Refusal) → a ≡ None → first_some (a ∷ b ∷ []) ≡ Some r → b ≡ Some r
second-some None None r none some = absurd cc
second-some None (Some x) r none some = some
second-some (Some x) b r none some = absurd cc

-- ---- a record stands for another of the same request under the same key

pub cause-same : (c : List Record) (moment caller : ℕ) (key : Option (List ℕ)) (x : Request) → cause_in c (record { moment = moment; caller = caller; owner = 0; key = key; terms = None; event = event.Asked x }) x ≡ cause_in c (stand_in key x) x
cause-same c moment caller key (request.Import gift) = refl
cause-same c moment caller key x = refl

pub verdict-same : (c : List Record) (now : ℕ) (user : User) (ask : Ask) → verdict_in c user (record_in c now user ask) ask ≡ verdict_in c user (stand_in ask.key ask.request) ask
verdict-same c now user ask = ap (λ (o : Option Refusal). unwrap_or (first_some (denied (forbidden user ask.request) ∷ denied (missing_in c ask.request) ∷ by_key (keeps_request ask.request) user.number ask.key c ∷ denied o ∷ [])) Granted) (cause-same c (moment_in c now) user.number ask.key ask.request)

-- ---- the causes behind those that are tested early

pub cause-none : (c : List Record) (es : List Entry) (key : Option (List ℕ)) (x : Request) → IsBankOf c es → early_cause c key x ≡ None → bank_cause es x ≡ None → cause_in c (stand_in key x) x ≡ None
cause-none c es key (request.Edit e gift) bank early none = second-none (missing_entry c e) _ (sym (cause-follows c es e (request.Edit e gift) bank) ∙ none)
cause-none c es key (request.Tune e penalty hints) bank early none = second-none (missing_entry c e) _ (sym (cause-follows c es e (request.Tune e penalty hints) bank) ∙ none)
cause-none c es key x bank early none = early

full-by : (c : List Record) (es : List Entry) (gift : Bank) (r : Refusal) (rest : Option Refusal) → IsBankOf c es → first_some (when (nat_lt 20000 (length (entries c) + length gift.items)) (refusal.TooMany 20000) ∷ rest ∷ []) ≡ None → banks.import_cause es gift ≡ Some r → ⊥
full-by c es gift r rest bank early some =
    let none = (first-none _ (rest ∷ []) early).0 in
    let same : banks.import_cause es gift ≡ None = ap (λ (n : ℕ). when (nat_lt 20000 (n + length gift.items)) (refusal.TooMany 20000)) (count-follows c es bank) ∙ none in
    absurd cc

pub cause-some : (c : List Record) (es : List Entry) (key : Option (List ℕ)) (x : Request) (r : Refusal) → IsBankOf c es → missing_in c x ≡ None → early_cause c key x ≡ None → bank_cause es x ≡ Some r → cause_in c (stand_in key x) x ≡ Some r
cause-some c es key (request.Import gift) r bank there early some = absurd (full-by c es gift r _ bank early some)
cause-some c es key (request.Edit e gift) r bank there early some = second-some (missing_entry c e) _ r there (sym (cause-follows c es e (request.Edit e gift) bank) ∙ some)
cause-some c es key (request.Tune e penalty hints) r bank there early some = second-some (missing_entry c e) _ r there (sym (cause-follows c es e (request.Tune e penalty hints) bank) ∙ some)
cause-some c es key x r bank there early some = absurd cc

-- ---- the verdict

pub granted : (c : List Record) (es : List Entry) (now : ℕ) (user : User) (ask : Ask) → IsBankOf c es → IsFree c user ask → bank_cause es ask.request ≡ None → verdict_in c user (record_in c now user ask) ask ≡ Granted
granted c es now user ask bank free none = verdict-same c now user ask ∙ rw (free.permitted, free.there, free.new, cause-none c es ask.key ask.request bank free.early none) refl

pub refused : (c : List Record) (es : List Entry) (now : ℕ) (user : User) (ask : Ask) (r : Refusal) → IsBankOf c es → IsFree c user ask → bank_cause es ask.request ≡ Some r → verdict_in c user (record_in c now user ask) ask ≡ Denied r
refused c es now user ask r bank free some = verdict-same c now user ask ∙ rw (free.permitted, free.there, free.new, cause-some c es ask.key ask.request r bank free.there free.early some) refl

-- ---- the bank afterwards

some-not : {A : Type 0} (o : Option A) (r : Refusal) → when (is_none o) r ≡ None → is_some o ≡ true
some-not None r none = absurd cc
some-not (Some x) r none = refl

entry-there : (es : List Entry) (e : ℕ) (x : Request) → banks.change_cause es e x ≡ None → is_some (at_place es e) ≡ true
entry-there es e x none = some-not (at_place es e) (refusal.Unknown thing.Entry) (first-none _ _ (first-none (banks.entry_cause es e) _ none).0).0

pub bank-after : (c : List Record) (es : List Entry) (r : Record) (x : Request) → IsBankOf c es → asked r ≡ Some x → bank_cause es x ≡ None → IsBankOf (c ++ r ∷ []) (bank_after es x)
bank-after c es r (request.Import gift) bank is none = import-follows c es r gift bank is
bank-after c es r (request.Edit e gift) bank is none = change-follows c es r e (request.Edit e gift) bank (ap (changes_by e) is ∙ rw (eq-eqb e e refl) refl) (entry-there es e (request.Edit e gift) none)
bank-after c es r (request.Tune e penalty hints) bank is none = change-follows c es r e (request.Tune e penalty hints) bank (ap (changes_by e) is ∙ rw (eq-eqb e e refl) refl) (entry-there es e (request.Tune e penalty hints) none)
bank-after c es r x bank is none = other-follows c es r bank (ap changes_bank is)

-- ---- what the bank tells of the records

greatest-follows : (c : List Record) (es : List Entry) (e : ℕ) → IsBankOf c es → greatest_of es e ≡ greatest_max c e
greatest-follows c es e bank =
    ap (λ (o : Option Question). unwrap_or (option_map (λ (q : Question). most_for_kind q.kind) o) (pos 0))
    (version-follows c es e (unwrap_or (banks.latest es e) 0) bank ∙ ap (catalog.version c e) (latest-follows c es e bank))

pub bad-follows : (c : List Record) (es : List Entry) (e : ℕ) (max : ℤ) → IsBankOf c es → bad_for es e max ≡ bad_max c e max
bad-follows c es e max bank = ap (λ (g : ℤ). when (int_lt max (pos 0) || int_lt g max) (refusal.OutOfRange g)) (greatest-follows c es e bank)

none-by : {A B : Type 0} (a : Option A) (b : Option B) → is_some a ≡ is_some b → is_none a ≡ is_none b
none-by None None same = refl
none-by None (Some y) same = absurd cc
none-by (Some x) None same = absurd cc
none-by (Some x) (Some y) same = refl

pub entry-follows : (c : List Record) (es : List Entry) (e : ℕ) → IsBankOf c es → when (is_none (at_place es e)) (refusal.Unknown thing.Entry) ≡ missing_entry c e
entry-follows c es e bank = ap (λ (b : Bool). when b (refusal.Unknown thing.Entry)) (none-by (at_place es e) (at_place (entries c) e) (there-follows c es e bank))

pub version-told : (c : List Record) (es : List Entry) (e n : ℕ) → IsBankOf c es → when (is_none (banks.version es e n)) (refusal.Unknown thing.Version) ≡ when (is_none (catalog.version c e n)) (refusal.Unknown thing.Version)
version-told c es e n bank = ap (λ (o : Option Question). when (is_none o) (refusal.Unknown thing.Version)) (version-follows c es e n bank)

either-first : (a b : Option Refusal) → option_or a b ≡ first_some (a ∷ b ∷ [])
either-first None None = refl
either-first None (Some x) = refl
either-first (Some x) b = refl

third-first : (a b d : Option Refusal) → option_or (option_or a b) d ≡ first_some (a ∷ b ∷ d ∷ [])
third-first None None None = refl
third-first None None (Some x) = refl
third-first None (Some x) d = refl
third-first (Some x) b d = refl

pub both-first : (a b p q : Option Refusal) → a ≡ p → b ≡ q → option_or a b ≡ first_some (p ∷ q ∷ [])
both-first a b p q one two = either-first a b ∙ ap (λ (o : Option Refusal). first_some (o ∷ b ∷ [])) one ∙ ap (λ (o : Option Refusal). first_some (p ∷ o ∷ [])) two

pub all-first : (a b d p q r : Option Refusal) → a ≡ p → b ≡ q → d ≡ r → option_or (option_or a b) d ≡ first_some (p ∷ q ∷ r ∷ [])
all-first a b d p q r one two three =
    third-first a b d
    ∙ ap (λ (o : Option Refusal). first_some (o ∷ b ∷ d ∷ [])) one
    ∙ ap (λ (o : Option Refusal). first_some (p ∷ o ∷ d ∷ [])) two
    ∙ ap (λ (o : Option Refusal). first_some (p ∷ q ∷ o ∷ [])) three

pub looked-gift : (c : List Record) (es : List Entry) (e n : ℕ) (x : Request) (o : Option Question) → IsBankOf c es → x ≡ request.Bank e n → o ≡ banks.version es e n → gift_reply o ≡ looked_in_by c x
looked-gift c es e n x o bank is found =
    ap gift_reply (found ∙ version-follows c es e n bank) ∙ ap (looked_in_by c) (sym is)
