-- How long the bytes of each part are at most: so many for its numbers and counts, and beside them its texts.
use Rattle.std.proofs.Common.{◌≡◌, ℕ, suc, ◌+◌, ◌*◌, ◌≤◌, Bool, true, false, leb, List, [], ◌∷◌, ◌++◌, length, map, ℤ, Option, Some, None, refl, ap, ◌∙◌, flat_map, sum_by, arith}
use Rattle.std.specs.List.{list_all}
use Rattle.std.specs.Prelude.{filter, is_none, not, unwrap_or}
use Rattle.std.proofs.lemmas.Bool.{and_parts, leb-true}
use Rattle.std.proofs.lemmas.List.{length-append, length-map}
use Rattle.std.proofs.lemmas.List.Concat.{flat_map-cons, flat_map_single}
use Rattle.std.proofs.lemmas.List.Sums.{count_by-le-length, length-filter, sum_by-append, sum_by-cons}
use Rattle.qz_grading.specs.declared.question.Choice.{Choice}
use Rattle.qz_grading.specs.declared.question.Extent.{Extent}
use Rattle.qz_grading.specs.declared.question.Extent.TheVariants as extent
use Rattle.qz_grading.specs.declared.question.Kind.{Kind}
use Rattle.qz_grading.specs.declared.question.Kind.TheVariants as kind
use Rattle.qz_grading.specs.declared.question.Num.{Num}
use Rattle.qz_grading.specs.declared.question.Pair.{Pair}
use Rattle.qz_grading.specs.declared.question.Question.{Question}
use Rattle.qz_grading.specs.declared.question.Rich.{Rich}
use Rattle.qz_grading.specs.declared.question.Shape.{Shape}
use Rattle.qz_grading.specs.declared.question.Short.{Short}
use Rattle.qz_grading.specs.declared.refusal.AttemptId.{AttemptId}
use Rattle.qz_grading.specs.declared.response.Answer.{Answer}
use Rattle.qz_grading.specs.declared.response.Answer.TheVariants as answer
use Rattle.qz_grading.specs.declared.response.Response.{Response}
use Rattle.qz_grading.specs.declared.response.Step.{Step}
use Rattle.qz_grading.specs.declared.response.Step.TheVariants as step
use Rattle.qz_grading.specs.Questions.{IsQuestion, are_no_longer, kind_texts, parts}
use Rattle.qz_terms.specs.declared.access.Settings.{Settings}
use Rattle.qz_terms.specs.declared.plan.Bound.{Bound}
use Rattle.qz_terms.specs.declared.record.Event.{Event}
use Rattle.qz_terms.specs.declared.record.Event.TheVariants as event
use Rattle.qz_terms.specs.declared.record.Learned.{Learned}
use Rattle.qz_terms.specs.declared.record.Record.{Record}
use Rattle.qz_terms.specs.declared.record.Terms.{Terms}
use Rattle.qz_terms.specs.declared.request.Request.{Request}
use Rattle.qz_terms.specs.declared.request.Request.TheVariants as request
use Rattle.qz_terms.specs.declared.limits.TheConstants.{MOST_RECORD}
use Rattle.qz_terms.specs.Kept.{AreLearned, IsKept, KeepsEvent, KeepsRequest, are_hints, is_answer, is_bound, is_step}
use Rattle.qz_terms.specs.History as history
use Rattle.qz_terms.specs.Legal.{LearnsNew, same_pair, version_of_bound, version_of_learned}
use Rattle.qz_terms.specs.Lists.{once}
use Rattle.qz_terms.specs.Spelling.{answer_bytes, attempt_bytes, bound_bytes, choice_bytes, eight_bytes, event_bytes, extent_bytes, four_bytes, kind_bytes, learned_bytes, list_bytes, num_bytes, one_byte, option_bytes, pair_bytes, question_bytes, request_bytes, response_bytes, rich_bytes, settings_bytes, shape_bytes, short_bytes, signed_bytes, spelling, step_bytes, terms_bytes, text_bytes, two_bytes, wide_bytes}
use Rattle.qz_record.specs.Lengths.{IsBrief, NamesBriefly, PicksFew, StepsBriefly, TellsBriefly, is_import}
use Rattle.qz_record.proofs.Fitting.{behaviour_len, bool_len, format_len, handling_len, how_len, method_len, review_len, role_len, whom_len}
use Rattle.qz_record.proofs.TextLengths.{own_texts}

-- so many bytes at most
pub record Within (bytes : List ℕ) (most : ℕ) : Type 0 where
  pub len : length bytes ≤ most

-- one behind the other
infixl 20 ◌⊕◌
◌⊕◌ : {a b : List ℕ} {m n : ℕ} → Within a m → Within b n → Within (a ++ b) (m + n)
◌⊕◌ {a} {b} p q = record { len = omega (arith, length-append a b, p.len, q.len) }

-- behind the number of a variant
tagged : {bytes : List ℕ} {m : ℕ} (n : ℕ) → Within bytes m → Within (n ∷ bytes) (1 + m)
tagged n p = record { len = omega (arith, p.len) }

no-more : {bytes : List ℕ} {m : ℕ} (n : ℕ) → m ≤ n → Within bytes m → Within bytes n
no-more n le p = record { len = omega (arith, le, p.len) }

single : {bytes : List ℕ} → length bytes ≡ 1 → Within bytes 1
single e = record { len = omega (arith, e) }

one : (n : ℕ) → Within (n ∷ []) 1
one n = record { len = omega arith }

two : (n : ℕ) → Within (two_bytes n) 2
two n = record { len = omega arith }

four : (n : ℕ) → Within (four_bytes n) 4
four n = record { len = omega arith }

eight : (n : ℕ) → Within (eight_bytes n) 8
eight n = record { len = omega arith }

signed : (z : ℤ) → Within (signed_bytes z) 8
signed z = record { len = omega arith }

wide : (z : ℤ) → Within (wide_bytes z) 16
wide z = record { len = omega arith }

-- ---- texts and lists

text : (t : List ℕ) → Within (text_bytes t) (4 + length t)
text t = four (length t) ⊕ record { len = omega arith }

rich : (r : Rich) → Within (rich_bytes r) (1 + (4 + length r.text))
rich r = single (format_len r.format) ⊕ text r.text

sum_two : (a b : List ℕ) → sum_by length (a ∷ b ∷ []) ≡ length a + length b
sum_two a b = omega (arith, sum_by-cons length a (b ∷ []), sum_by-cons length b [])

sum_one : (a : List ℕ) → sum_by length (a ∷ []) ≡ length a
sum_one a = omega (arith, sum_by-cons length a [])

-- items, each of at most 46 bytes beside its texts
items : {A : Type 0} (bytes : A → List ℕ) (own : A → List (List ℕ)) → ((x : A) → Within (bytes x) (46 + sum_by length (own x))) → (xs : List A) → Within (flat_map bytes xs) (46 * length xs + sum_by length (flat_map own xs))
items bytes own each [] = record { len = omega arith }
items bytes own each (x ∷ xs) =
    let split : length (flat_map bytes (x ∷ xs)) ≡ length (bytes x) + length (flat_map bytes xs) = ap (λ (l : List ℕ). length l) (flat_map-cons bytes x xs) ∙ length-append (bytes x) (flat_map bytes xs) in
    let sums : sum_by length (flat_map own (x ∷ xs)) ≡ sum_by length (own x) + sum_by length (flat_map own xs) = ap (λ (l : List (List ℕ)). sum_by length l) (flat_map-cons own x xs) ∙ sum_by-append length (own x) (flat_map own xs) in
    record { len = omega (arith, split, sums, (each x).len, (items bytes own each xs).len) }

list : {A : Type 0} (bytes : A → List ℕ) (own : A → List (List ℕ)) → ((x : A) → Within (bytes x) (46 + sum_by length (own x))) → (xs : List A) → Within (list_bytes bytes xs) (4 + (46 * length xs + sum_by length (flat_map own xs)))
list bytes own each xs = four (length xs) ⊕ items bytes own each xs

-- items without texts
abbrev no_texts : {A : Type 0} → A → List (List ℕ)
no_texts x = []

sum_none : {A : Type 0} (xs : List A) → sum_by length (flat_map no_texts xs) ≡ 0
sum_none [] = refl
sum_none (x ∷ xs) = sum_none xs

bare : {A : Type 0} (bytes : A → List ℕ) → ((x : A) → Within (bytes x) 46) → (xs : List A) → Within (list_bytes bytes xs) (4 + 46 * length xs)
bare {A} bytes each xs =
    let p = list bytes no_texts (λ x. record { len = omega (arith, (each x).len) }) xs in
    record { len = omega (arith, p.len, sum_none xs) }

-- ---- questions

choice : (c : Choice) → Within (choice_bytes c) (46 + sum_by length (c.text.text ∷ c.feedback.text ∷ []))
choice c = no-more _ (omega (arith, sum_two c.text.text c.feedback.text)) (signed c.weight ⊕ rich c.text ⊕ rich c.feedback)

pair : (x : Pair) → Within (pair_bytes x) (46 + sum_by length (x.stem.text ∷ x.answer ∷ []))
pair x = no-more _ (omega (arith, sum_two x.stem.text x.answer)) (rich x.stem ⊕ text x.answer)

short : (x : Short) → Within (short_bytes x) (46 + sum_by length (x.pattern ∷ x.feedback.text ∷ []))
short x = no-more _ (omega (arith, sum_two x.pattern x.feedback.text)) (signed x.weight ⊕ text x.pattern ⊕ rich x.feedback)

extent-of : (e : Extent) → Within (extent_bytes e) 33
extent-of extent.Any = record { len = omega arith }
extent-of (extent.Near centre slack) = tagged 1 (wide centre ⊕ wide slack)
extent-of (extent.Between low high) = tagged 2 (wide low ⊕ wide high)

num : (x : Num) → Within (num_bytes x) (46 + sum_by length (x.feedback.text ∷ []))
num x = no-more _ (omega (arith, sum_one x.feedback.text)) (signed x.weight ⊕ extent-of x.extent ⊕ rich x.feedback)

kind-of : (k : Kind) → Within (kind_bytes k) (12 + (46 * parts k + sum_by length (kind_texts k)))
kind-of kind.Description = record { len = omega arith }
kind-of kind.Essay = record { len = omega arith }
kind-of (kind.TrueFalse right on_wrong on_right) = no-more _ (omega (arith, sum_two on_wrong.text on_right.text)) (tagged 2 (single (bool_len right) ⊕ rich on_wrong ⊕ rich on_right))
kind-of (kind.One choices) = no-more _ (omega arith) (tagged 3 (list choice_bytes (λ (c : Choice). c.text.text ∷ c.feedback.text ∷ []) choice choices))
kind-of (kind.Several choices) = no-more _ (omega arith) (tagged 4 (list choice_bytes (λ (c : Choice). c.text.text ∷ c.feedback.text ∷ []) choice choices))
kind-of (kind.Matching pairs) = no-more _ (omega arith) (tagged 5 (list pair_bytes (λ (x : Pair). x.stem.text ∷ x.answer ∷ []) pair pairs))
kind-of (kind.ShortAnswer answers) = no-more _ (omega arith) (tagged 6 (list short_bytes (λ (x : Short). x.pattern ∷ x.feedback.text ∷ []) short answers))
kind-of (kind.Numerical answers) =
    let same : sum_by length (flat_map (λ (x : Num). x.feedback.text ∷ []) answers) ≡ sum_by length (map (λ (x : Num). x.feedback.text) answers) = ap (λ (l : List (List ℕ)). sum_by length l) (flat_map_single (λ (x : Num). x.feedback.text) answers) in
    no-more _ (omega (arith, same)) (tagged 7 (list num_bytes (λ (x : Num). x.feedback.text ∷ []) num answers))

hint : (t : List ℕ) → Within (text_bytes t) (46 + sum_by length (t ∷ []))
hint t = no-more _ (omega (arith, sum_one t)) (text t)

hints-of : (ts : List (List ℕ)) → Within (list_bytes text_bytes ts) (4 + (46 * length ts + sum_by length ts))
hints-of ts =
    let same : sum_by length (flat_map (λ (t : List ℕ). t ∷ []) ts) ≡ sum_by length ts = ap (λ (l : List (List ℕ)). sum_by length l) (own_texts ts) in
    no-more _ (omega (arith, same)) (list text_bytes (λ (t : List ℕ). t ∷ []) hint ts)

sum_three : (a b c : List ℕ) (ts us : List (List ℕ)) → sum_by length ((a ∷ b ∷ c ∷ ts) ++ us) ≡ length a + length b + length c + sum_by length ts + sum_by length us
sum_three a b c ts us = omega (arith, sum_by-append length (a ∷ b ∷ c ∷ ts) us, sum_by-cons length a (b ∷ c ∷ ts), sum_by-cons length b (c ∷ ts), sum_by-cons length c ts)

question : (q : Question) → IsQuestion q → Within (question_bytes q) 266240
question q is =
    no-more _ (omega (arith, sum_three q.name q.text.text q.general.text (kind_texts q.kind) q.hints, is.kind.few, is.few_hints, is.together))
    (text q.name ⊕ rich q.text ⊕ rich q.general ⊕ kind-of q.kind ⊕ signed q.penalty ⊕ hints-of q.hints)

-- ---- what was learned

learned-one : (l : Learned) → IsQuestion l.question → Within (learned_bytes l) 266248
learned-one l is = four l.entry ⊕ four l.version ⊕ question l.question is

learned-items : (ls : List Learned) → AreLearned ls → Within (flat_map learned_bytes ls) (266248 * length ls)
learned-items [] all = record { len = omega arith }
learned-items (l ∷ ls) all =
    let split : length (flat_map learned_bytes (l ∷ ls)) ≡ length (learned_bytes l) + length (flat_map learned_bytes ls) = ap (λ (x : List ℕ). length x) (flat_map-cons learned_bytes l ls) ∙ length-append (learned_bytes l) (flat_map learned_bytes ls) in
    let first : IsQuestion l.question = all 0 l.question (omega arith) in
    let rest : AreLearned ls = λ i d lt. all (suc i) d (omega (arith, lt)) in
    record { len = omega (arith, split, (learned-one l first).len, (learned-items ls rest).len) }

learned-list : (ls : List Learned) → AreLearned ls → Within (list_bytes learned_bytes ls) (4 + 266248 * length ls)
learned-list ls all = four (length ls) ⊕ learned-items ls all

bound : (b : Bound) → Within (bound_bytes b) 24
bound b = four b.entry ⊕ four b.version ⊕ signed b.max ⊕ eight b.at

attempt : (a : AttemptId) → Within (attempt_bytes a) 8
attempt a = four a.user ⊕ four a.nth

shape : (s : Shape) → Within (shape_bytes s) 3
shape s = one s.kind ⊕ one s.first ⊕ one s.second

-- ---- steps

answer-of : (a : Answer) → is_answer a ≡ true → PicksFew a → Within (answer_bytes a) 66000
answer-of answer.Blank kept few = record { len = omega arith }
answer-of (answer.Pick n) kept few = record { len = omega arith }
answer-of (answer.Picks ns) kept few = no-more _ (omega (arith, few)) (tagged 2 (bare one_byte (λ n. record { len = omega arith }) ns))
answer-of (answer.Match ns) kept few = no-more _ (omega (arith, few)) (tagged 3 (bare one_byte (λ n. record { len = omega arith }) ns))
answer-of (answer.Words t) kept few = no-more _ (omega (arith, leb-true (length t) 65536 kept)) (tagged 4 (text t))

response : (r : Response) → is_answer r.answer ≡ true → PicksFew r.answer → Within (response_bytes r) 66001
response r kept few = answer-of r.answer kept few ⊕ one r.certainty

step-of : (x : Step) → is_step x ≡ true → StepsBriefly x → Within (step_bytes x) 66002
step-of (step.Save r) kept few = tagged 0 (response r kept few)
step-of (step.Submit r) kept few = tagged 1 (response r kept few)
step-of step.Again kept few = record { len = omega arith }
step-of step.Finish kept few = record { len = omega arith }
step-of (step.Mark mark max) kept few = record { len = omega arith }

-- ---- requests

asked_hints : (ts : List (List ℕ)) → are_no_longer 4096 ts ≡ true → Within (flat_map text_bytes ts) (4100 * length ts)
asked_hints [] few = record { len = omega arith }
asked_hints (t ∷ ts) few =
    let parts = and_parts (leb (length t) 4096) (are_no_longer 4096 ts) few in
    let split : length (flat_map text_bytes (t ∷ ts)) ≡ length (text_bytes t) + length (flat_map text_bytes ts) = ap (λ (x : List ℕ). length x) (flat_map-cons text_bytes t ts) ∙ length-append (text_bytes t) (flat_map text_bytes ts) in
    record { len = omega (arith, split, (text t).len, leb-true (length t) 4096 parts.0, (asked_hints ts parts.1).len) }

asked_hint-list : (ts : List (List ℕ)) → are_hints ts ≡ true → Within (list_bytes text_bytes ts) 82004
asked_hint-list ts are =
    let parts = and_parts (leb (length ts) 20) (are_no_longer 4096 ts) are in
    no-more _ (omega (arith, leb-true (length ts) 20 parts.0)) (four (length ts) ⊕ asked_hints ts parts.1)

option-of : (bytes : ℕ → List ℕ) → ((n : ℕ) → Within (bytes n) 8) → (o : Option ℕ) → Within (option_bytes bytes o) 9
option-of bytes each None = record { len = omega arith }
option-of bytes each (Some n) = tagged 1 (each n)

four_of : (n : ℕ) → Within (four_bytes n) 8
four_of n = record { len = omega arith }

request-of : (x : Request) → KeepsRequest x → NamesBriefly x → is_import (event.Asked x) ≡ false → Within (request_bytes x) 266245
request-of (request.User name role token) kept brief other = no-more _ (omega (arith, brief.0, brief.1)) (tagged 0 (text name ⊕ single (role_len role) ⊕ text token))
request-of (request.Group name) kept brief other = no-more _ (omega (arith, brief)) (tagged 1 (text name))
request-of (request.Member group user) kept brief other = record { len = omega arith }
request-of (request.Import gift) kept brief other = absurd cc
request-of (request.Edit entry gift) kept brief other = tagged 4 (four entry ⊕ question gift kept)
request-of (request.Tune entry penalty hints) kept brief other = no-more _ (omega arith) (tagged 5 (four entry ⊕ signed penalty ⊕ asked_hint-list hints (and_parts _ _ kept).1))
request-of (request.Quiz name behaviour) kept brief other = no-more _ (omega (arith, brief)) (tagged 6 (text name ⊕ single (behaviour_len behaviour)))
request-of (request.Slot quiz entry max) kept brief other = record { len = omega arith }
request-of (request.Ready quiz) kept brief other = record { len = omega arith }
request-of (request.Remax quiz slot max) kept brief other = record { len = omega arith }
request-of (request.Policy quiz method grade) kept brief other = no-more _ (omega arith) (tagged 10 (four quiz ⊕ single (method_len method) ⊕ wide grade))
request-of (request.Times quiz opens closes limit allowed handling grace review) kept brief other = no-more _ (omega arith) (tagged 11 (four quiz ⊕ eight opens ⊕ eight closes ⊕ four limit ⊕ four allowed ⊕ single (handling_len handling) ⊕ four grace ⊕ single (review_len review)))
request-of (request.Override quiz whom number opens closes limit allowed) kept brief other =
    no-more _ (omega arith) (tagged 12 (four quiz ⊕ single (whom_len whom) ⊕ four number ⊕ option-of eight_bytes eight opens ⊕ option-of eight_bytes eight closes ⊕ option-of four_bytes four_of limit ⊕ option-of four_bytes four_of allowed))
request-of (request.Regrade quiz) kept brief other = record { len = omega arith }
request-of x kept brief other = record { len = omega arith }

-- ---- records

event-of : (e : Event) → KeepsEvent e → TellsBriefly e → is_import e ≡ false → Within (event_bytes e) 53300000
event-of (event.Founded shards token) kept brief other = no-more _ (omega (arith, brief)) (tagged 0 (one shards ⊕ text token))
event-of (event.Asked x) kept brief other = no-more _ (omega arith) (tagged 1 (request-of x kept.1 brief other))
event-of (event.Started quiz nth behaviour bounds learned) kept brief other =
    let few : length bounds ≤ 200 = leb-true (length bounds) 200 (and_parts (leb (length bounds) 200) (list_all is_bound bounds) kept.0).0 in
    no-more _ (omega (arith, few, brief)) (tagged 2 (four quiz ⊕ four nth ⊕ single (behaviour_len behaviour) ⊕ bare bound_bytes (λ b. no-more _ (omega arith) (bound b)) bounds ⊕ learned-list learned kept.1))
event-of (event.Acted a k x) kept brief other = no-more _ (omega arith) (tagged 3 (attempt a ⊕ two k ⊕ step-of x kept brief))
event-of (event.Noted a k x) kept brief other = no-more _ (omega arith) (tagged 4 (attempt a ⊕ two k ⊕ step-of x kept brief))
event-of (event.Ended a how) kept brief other = no-more _ (omega arith) (tagged 5 (attempt a ⊕ single (how_len how)))
event-of (event.Rebound job a k b learned) kept brief other = no-more _ (omega (arith, brief)) (tagged 6 (four job ⊕ attempt a ⊕ two k ⊕ bound b ⊕ learned-list learned kept.1))
event-of (event.Skipped job a k b newer) kept brief other = no-more _ (omega arith) (tagged 7 (four job ⊕ attempt a ⊕ two k ⊕ shape b ⊕ shape newer))
event-of (event.JobDone job quiz position) kept brief other = no-more _ (omega arith) (tagged 8 (four job ⊕ four quiz ⊕ eight position))

key-of : (key : Option (List ℕ)) → length (unwrap_or key []) ≤ 64 → Within (option_bytes text_bytes key) 69
key-of None few = record { len = omega arith }
key-of (Some t) few = no-more _ (omega (arith, few)) (tagged 1 (text t))

settings : (s : Settings) → Within (settings_bytes s) 30
settings s = eight s.opens ⊕ eight s.closes ⊕ four s.limit ⊕ four s.allowed ⊕ single (handling_len s.handling) ⊕ four s.grace ⊕ single (review_len s.review)

terms-of : (t : Option Terms) → Within (option_bytes terms_bytes t) 39
terms-of None = record { len = omega arith }
terms-of (Some t) = tagged 1 (eight t.at ⊕ settings t.settings)

pub record-short : (r : Record) → IsKept r → IsBrief r → is_import r.event ≡ false → length (spelling r) ≤ MOST_RECORD
record-short r kept brief other = (no-more MOST_RECORD (omega arith) (eight r.moment ⊕ four r.caller ⊕ four r.owner ⊕ key-of r.key brief.key ⊕ terms-of r.terms ⊕ event-of r.event kept.event brief.event other)).len

pub same_length : (r s : Record) → r.key ≡ s.key → r.terms ≡ s.terms → r.event ≡ s.event → length (spelling r) ≡ length (spelling s)
same_length r s key terms event =
    rw (key, terms, event) refl

-- ---- what a list learns

filter-le : {A : Type 0} (p : A → Bool) (xs : List A) → length (filter p xs) ≤ length xs
filter-le p xs = omega (arith, length-filter p xs, count_by-le-length p xs)

once-le : {A : Type 0} (is_same : A → A → Bool) (xs : List A) → length (once is_same xs) ≤ length xs
once-le is_same [] = omega arith
once-le is_same (x ∷ xs) = omega (arith, filter-le (λ y. not (is_same x y)) (once is_same xs), once-le is_same xs)

pub learned-few : (l : List Record) (bounds : List Bound) (learned : List Learned) → LearnsNew l bounds learned → length learned ≤ length bounds
learned-few l bounds learned new =
    let versions : List (ℕ × ℕ) = once same_pair (map version_of_bound bounds) in
    let is_new : ℕ × ℕ → Bool = λ v. is_none (history.version l v.0 v.1) in
    let same : length (map version_of_learned learned) ≡ length (filter is_new versions) = ap (λ (vs : List (ℕ × ℕ)). length vs) new in
    omega (arith, length-map learned version_of_learned, same, filter-le is_new versions, once-le same_pair (map version_of_bound bounds), length-map bounds version_of_bound)
