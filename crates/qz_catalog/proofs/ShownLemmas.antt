-- Numbers that replies show, and what a record that is put owes.
use Rattle.std.proofs.Common.{◌≡◌, ℕ, zero, suc, ◌+◌, ◌<◌, ◌⊎◌, inl, inr, Bool, true, false, List, [], ◌∷◌, ◌++◌, Some, None, length, take, get_or, refl, sym, ap, subst, ◌∙◌, arith, length-append}
use Rattle.std.specs.Prelude.{is_some, slice_get, slice_index, ◌||◌}
use Rattle.std.proofs.lemmas.List.{length-take-le, take-append-le, take_all}
use Rattle.std.proofs.lemmas.Option.{get_or_from_slice_get, slice_get_within}
use Rattle.qz_lemmas.proofs.Lists.{get-kept}
use Rattle.qz_grading.proofs.StepLemmas.{slice_get-push}
use Rattle.qz_grading.specs.Grading.{at_place, is_place}
use Rattle.qz_terms.specs.declared.ask.Ask.{Ask}
use Rattle.qz_terms.specs.declared.people.User.{User}
use Rattle.qz_terms.specs.declared.record.Event.{Event}
use Rattle.qz_terms.specs.declared.record.Event.TheVariants as event
use Rattle.qz_terms.specs.declared.record.Record.{Record}
use Rattle.qz_terms.specs.declared.reply.Done.{Done}
use Rattle.qz_terms.specs.declared.reply.Reply.{Reply}
use Rattle.qz_terms.specs.declared.reply.Reply.TheVariants as reply
use Rattle.qz_terms.specs.declared.request.Request.{Request}
use Rattle.qz_terms.specs.Answer.{said}
use Rattle.qz_terms.specs.Catalog.{asked, asked_by, users}
use Rattle.qz_terms.specs.CatalogAnswer.{record_in}
use Rattle.qz_terms.specs.Cause.{Verdict, missing_in, verdict_in}
use Rattle.qz_bank.specs.declared.entry.Entry.{Entry}
use Rattle.qz_roster.specs.Roster.{IsNext}
use Rattle.qz_roster.proofs.Reading.{some-same}
use Rattle.qz_roster.proofs.Telling.{there-is}
use Rattle.qz_catalog.specs.Applying.{IsAskedAt, IsLooked, IsPosed, IsRepeated, IsShort, IsToldOver, stand_in}
use Rattle.qz_catalog.specs.Holdings.{AreShown, IsHeld, IsShownBy}
use Rattle.qz_catalog.specs.Shown.{done_with}
use Rattle.qz_catalog.proofs.Answering.{repeated-answer}
use Rattle.qz_catalog.proofs.Bounds.{short}
use Rattle.qz_catalog.proofs.Granting.{asked-by}
use Rattle.qz_catalog.proofs.KeyLemmas.{split-at}

-- ---- one number more

number-kept : (ns : List ℕ) (n k : ℕ) → k < length ns → slice_index (ns ++ n ∷ []) k ≡ slice_index ns k
number-kept [] n k inside = absurd (omega arith)
number-kept (m ∷ ns) n zero inside = refl
number-kept (m ∷ ns) n (suc k) inside = number-kept ns n k (let within : suc k < suc (length ns) = inside in omega arith)

number-last : (ns : List ℕ) (n : ℕ) → slice_index (ns ++ n ∷ []) (length ns) ≡ n
number-last [] n = refl
number-last (m ∷ ns) n = number-last ns n

shown-by : (c : List Record) (ns : List ℕ) (r : Record) (n k : ℕ) (s : Record) (x : Request) → AreShown c ns → ((y : Request) → asked r ≡ Some y → IsShownBy (c ++ r ∷ []) y n) → slice_get (c ++ r ∷ []) k ≡ Some s → asked s ≡ Some x
    → (k < length c) ⊎ (k ≡ length c) → IsShownBy (take (k + 1) (c ++ r ∷ [])) x (slice_index (ns ++ n ∷ []) k)
shown-by c ns r n k s x are told at asks (inl before) =
    let old = are.each k s x (sym (get-kept c r k before) ∙ at) asks in
    let count = are.count in
    let front : take (k + 1) (c ++ r ∷ []) ≡ take (k + 1) c = take-append-le (k + 1) c (r ∷ []) (omega arith) in
    subst (λ (l : List Record). IsShownBy l x (slice_index (ns ++ n ∷ []) k)) (sym front) (subst (IsShownBy (take (k + 1) c) x) (sym (number-kept ns n k (omega arith))) old)
shown-by c ns r n k s x are told at asks (inr last) =
    let here : Some r ≡ Some s = sym (slice_get-push c r) ∙ ap (slice_get (c ++ r ∷ [])) (sym last) ∙ at in
    let same : r ≡ s = some-same r s here in
    let long = length-append c (r ∷ []) in
    let whole : take (k + 1) (c ++ r ∷ []) ≡ c ++ r ∷ [] = take_all (k + 1) (c ++ r ∷ []) (omega arith) in
    let place : k ≡ length ns = let count = are.count in omega arith in
    let number : slice_index (ns ++ n ∷ []) k ≡ n = ap (slice_index (ns ++ n ∷ [])) place ∙ number-last ns n in
    subst (λ (l : List Record). IsShownBy l x (slice_index (ns ++ n ∷ []) k)) (sym whole) (subst (IsShownBy (c ++ r ∷ []) x) (sym number) (told x (ap asked same ∙ asks)))

at-most : (m n : ℕ) → m < n + 1 → (m < n) ⊎ (m ≡ n)
at-most m zero less = inr (omega arith)
at-most zero (suc n) less = inl (omega arith)
at-most (suc m) (suc n) less = elim (at-most m n (let within : suc m < suc n + 1 = less in omega arith)) [ inl below ↦ inl (omega arith) | inr same ↦ inr (ap suc same) ]

pub shown-push : (c : List Record) (ns : List ℕ) (r : Record) (n : ℕ) → AreShown c ns → ((x : Request) → asked r ≡ Some x → IsShownBy (c ++ r ∷ []) x n) → AreShown (c ++ r ∷ []) (ns ++ n ∷ [])
shown-push c ns r n are told = record {
  count = let a = length-append c (r ∷ []) in let b = length-append ns (n ∷ []) in let count = are.count in omega arith;
  each = λ k s x at asks.
      let inside = slice_get_within (c ++ r ∷ []) k s at in
      let long = length-append c (r ∷ []) in
      shown-by c ns r n k s x are told at asks (at-most k (length c) (omega arith));
}

-- ---- the record that stands last

last-split : (l : List Record) (at : ℕ) (r : Record) → length l ≡ at + 1 → slice_get l at ≡ Some r → l ≡ take at l ++ r ∷ []
last-split l at r long found =
    let split = split-at l at r found in
    sym (take_all (at + 1) l (omega arith)) ∙ split.0

pub last-short : (l : List Record) (es : List Entry) (at : ℕ) (r : Record) (x : Request) → IsHeld l es → length l ≡ at + 1 → slice_get l at ≡ Some r → asked r ≡ Some x → IsShort l x
last-short l es at r x held long found asks =
    let told : IsToldOver l r = record { legal = held.legal; few = held.few; before = take at l; ends = last-split l at r long found; request = x; asked = asks } in
    short l r told

-- ---- what is said of a record

pub said-told : (c : List Record) (ns : List ℕ) (at : ℕ) (r : Record) (x : Request) (d : Done) → AreShown c ns → slice_get c at ≡ Some r → r.event ≡ event.Asked x → asked r ≡ Some x → d ≡ done_with x (slice_index ns at) → reply.Ok (at + 1) d ≡ said (take (at + 1) c) r
said-told c ns at r x d are found is asks done_is =
    let inside = slice_get_within c at r found in
    let long = length-take-le (at + 1) c (omega arith) in
    let shown = are.each at r x found asks in
    rw (is, long) (ap (reply.Ok (at + 1)) (done_is ∙ shown.done))

pub asked-at : (c : List Record) (n : ℕ) (v : Verdict) → IsRepeated c n v → IsAskedAt c n
asked-at c n v again = record { item = again.0; at = again.1; asked = again.2 }

pub again-looked : (c : List Record) (user : User) (ask : Ask) (n : ℕ) (told : Reply) → IsRepeated c n (verdict_in c user (stand_in ask.key ask.request) ask) → ((r : Record) → slice_get c n ≡ Some r → told ≡ said (take (n + 1) c) r) → IsLooked c user ask told
again-looked c user ask n told again says =
    repeated-answer c user ask n again.0 told again (sym (get_or_from_slice_get c n again.0 again.0 again.1)) (says again.0 again.1)

-- ---- a record that may stand behind others

pub called-by : (c : List Record) (n : ℕ) (user : User) (b : Bool) → at_place (users c) n ≡ Some user → b || is_place (length (users c)) n ≡ true
called-by c n user true at = refl
called-by c n user false at = sym (there-is (users c) n) ∙ ap is_some at

pub posed-next : (c : List Record) (es : List Entry) (now : ℕ) (user : User) (ask : Ask) (r : Record) → IsPosed c es now user ask → r ≡ record_in c now user ask → IsNext c r
posed-next c es now user ask r p is = subst (IsNext c) (sym is) (record {
  there = λ x asks. let same : ask.request ≡ x = some-same ask.request x asks in ap (missing_in c) (sym same) ∙ p.free.there;
  called = called-by c user.number user _ (asked-by c ask.caller user ask.request p.asked.by_user p.asked.of_catalog p.keeps p.free.permitted);
})

-- ---- what is read at a place

pub found-at : (c : List Record) (n : ℕ) (r : Record) → IsAskedAt c n → r ≡ get_or c n r → slice_get c n ≡ Some r
found-at c n r there is = there.at ∙ ap Some (sym (get_or_from_slice_get c n there.item r there.at) ∙ sym is)

pub number-read : (ns : List ℕ) (k n : ℕ) → k < length ns → n ≡ get_or ns k n → n ≡ slice_index ns k
number-read [] k n inside is = absurd (omega arith)
number-read (m ∷ ns) zero n inside is = is
number-read (m ∷ ns) (suc k) n inside is = number-read ns k n (let within : suc k < suc (length ns) = inside in omega arith) is

-- no request made it
pub not-asked : (c : List Record) (n : ℕ) (r : Record) → IsAskedAt c n → r ≡ get_or c n r → asked r ≡ None → ⊥
not-asked c n r there is none =
    let same : there.item ≡ r = sym (get_or_from_slice_get c n there.item r there.at) ∙ sym is in
    let some = there.asked in
    let nothing : is_some (asked there.item) ≡ false = ap is_some (ap asked same ∙ none) in
    cc

pub asked-inside : (c : List Record) (ns : List ℕ) (n : ℕ) → AreShown c ns → IsAskedAt c n → n < length ns
asked-inside c ns n are there = let inside = slice_get_within c n there.item there.at in let count = are.count in omega arith

-- ---- what is put

pub put-at : (l g : List Record) (r : Record) (at : ℕ) → g ≡ l ++ r ∷ [] → at ≡ length l → slice_get g at ≡ Some r
put-at l g r at list place = ap (slice_get g) place ∙ ap (λ (k : List Record). slice_get k (length l)) list ∙ slice_get-push l r

pub put-said : (c l g : List Record) (r : Record) (told : Reply) (at : ℕ) → l ≡ c → g ≡ l ++ r ∷ [] → at ≡ length l → ((s : Record) → slice_get g at ≡ Some s → told ≡ said (take (at + 1) g) s) → told ≡ said (c ++ r ∷ []) r
put-said c l g r told at same list place says =
    let long : length g ≡ length l + 1 = ap (λ (k : List Record). length k) list ∙ length-append l (r ∷ []) in
    let whole : take (at + 1) g ≡ c ++ r ∷ [] = take_all (at + 1) g (omega arith) ∙ list ∙ ap (λ (k : List Record). k ++ r ∷ []) same in
    says r (put-at l g r at list place) ∙ ap (λ (k : List Record). said k r) whole

pub none-asked : (e : Event) → ((x : Request) → e ≡ event.Asked x → ⊥) → asked_by e ≡ None
none-asked (event.Asked x) none = absurd (none x refl)
none-asked e none = refl
