-- A request that the catalogue keeps is the same as itself.
use Rattle.std.proofs.Common.{◌≡◌, ℕ, Bool, true, false, ◌&&◌, ◌||◌, List, [], ◌∷◌, Option, None, Some, length, ℤ, refl, eq-eqb}
use Rattle.std.specs.List.{list_all}
use Rattle.std.specs.Ordering.{int_eq}
use Rattle.std.specs.Prelude.{◌==◌, bytes_eq, zip}
use Rattle.std.proofs.lemmas.Bool.Decides.{Decides-int_eq}
use Rattle.qz_grading.specs.declared.question.Bank.{Bank}
use Rattle.qz_grading.specs.declared.question.Choice.{Choice}
use Rattle.qz_grading.specs.declared.question.Extent.{Extent}
use Rattle.qz_grading.specs.declared.question.Extent.TheVariants as extent
use Rattle.qz_grading.specs.declared.question.Item.{Item}
use Rattle.qz_grading.specs.declared.question.Kind.{Kind}
use Rattle.qz_grading.specs.declared.question.Kind.TheVariants as kind
use Rattle.qz_grading.specs.declared.question.Num.{Num}
use Rattle.qz_grading.specs.declared.question.Pair.{Pair}
use Rattle.qz_grading.specs.declared.question.Question.{Question}
use Rattle.qz_grading.specs.declared.question.Rich.{Rich}
use Rattle.qz_grading.specs.declared.question.Short.{Short}
use Rattle.qz_grading.specs.Canonical.{format_mark, same_texts}
use Rattle.qz_grading.specs.Sameness.{all_same, same_bank, same_bool, same_choice, same_extent, same_item, same_kind, same_num, same_pair, same_question, same_rich, same_short}
use Rattle.qz_terms.specs.declared.request.Request.{Request}
use Rattle.qz_terms.specs.declared.request.Request.TheVariants as request
use Rattle.qz_terms.specs.CatalogAnswer.{keeps_record}
use Rattle.qz_terms.specs.Sameness.{same_request, same_setting}
use Rattle.qz_terms.specs.Spelling.{behaviour_bytes, handling_bytes, method_bytes, review_bytes, role_bytes, whom_bytes}
use Rattle.qz_terms.proofs.Standing.{bytes-same}

number-same : (n : ℕ) → (n == n) ≡ true
number-same n = eq-eqb n n refl

mark-same : (m : ℤ) → int_eq m m ≡ true
mark-same m = (Decides-int_eq m m).1 refl

both : (a b : Bool) → a ≡ true → b ≡ true → a && b ≡ true
both a b one other = rw (one, other) refl

items-same : {A : Type 0} (is_same : A → A → Bool) (each : (x : A) → is_same x x ≡ true) (xs : List A) → list_all (λ (p : A × A). is_same p.0 p.1) (zip xs xs) ≡ true
items-same is_same each [] = refl
items-same is_same each (x ∷ xs) = both (is_same x x) (list_all (λ (p : _ × _). is_same p.0 p.1) (zip xs xs)) (each x) (items-same is_same each xs)

list-same : {A : Type 0} (is_same : A → A → Bool) (each : (x : A) → is_same x x ≡ true) (xs : List A) → all_same is_same xs xs ≡ true
list-same is_same each xs = both (length xs == length xs) (list_all (λ (p : _ × _). is_same p.0 p.1) (zip xs xs)) (number-same (length xs)) (items-same is_same each xs)

texts-same : (xs : List (List ℕ)) → same_texts xs xs ≡ true
texts-same xs = list-same bytes_eq bytes-same xs

bool-same : (b : Bool) → same_bool b b ≡ true
bool-same true = refl
bool-same false = refl

rich-same : (r : Rich) → same_rich r r ≡ true
rich-same r = both (bytes_eq (format_mark r.format) (format_mark r.format)) (bytes_eq r.text r.text) (bytes-same (format_mark r.format)) (bytes-same r.text)

choice-same : (c : Choice) → same_choice c c ≡ true
choice-same c = both (int_eq c.weight c.weight) (same_rich c.text c.text && same_rich c.feedback c.feedback) (mark-same c.weight) (both (same_rich c.text c.text) (same_rich c.feedback c.feedback) (rich-same c.text) (rich-same c.feedback))

pair-same : (p : Pair) → same_pair p p ≡ true
pair-same p = both (same_rich p.stem p.stem) (bytes_eq p.answer p.answer) (rich-same p.stem) (bytes-same p.answer)

short-same : (s : Short) → same_short s s ≡ true
short-same s = both (int_eq s.weight s.weight) (bytes_eq s.pattern s.pattern && same_rich s.feedback s.feedback) (mark-same s.weight) (both (bytes_eq s.pattern s.pattern) (same_rich s.feedback s.feedback) (bytes-same s.pattern) (rich-same s.feedback))

extent-same : (e : Extent) → same_extent e e ≡ true
extent-same extent.Any = refl
extent-same (extent.Near c s) = both (int_eq c c) (int_eq s s) (mark-same c) (mark-same s)
extent-same (extent.Between l h) = both (int_eq l l) (int_eq h h) (mark-same l) (mark-same h)

num-same : (n : Num) → same_num n n ≡ true
num-same n = both (int_eq n.weight n.weight) (same_extent n.extent n.extent && same_rich n.feedback n.feedback) (mark-same n.weight) (both (same_extent n.extent n.extent) (same_rich n.feedback n.feedback) (extent-same n.extent) (rich-same n.feedback))

kind-same : (k : Kind) → same_kind k k ≡ true
kind-same kind.Description = refl
kind-same kind.Essay = refl
kind-same (kind.TrueFalse r w o) = both (same_bool r r) (same_rich w w && same_rich o o) (bool-same r) (both (same_rich w w) (same_rich o o) (rich-same w) (rich-same o))
kind-same (kind.One cs) = list-same same_choice choice-same cs
kind-same (kind.Several cs) = list-same same_choice choice-same cs
kind-same (kind.Matching ps) = list-same same_pair pair-same ps
kind-same (kind.ShortAnswer ss) = list-same same_short short-same ss
kind-same (kind.Numerical ns) = list-same same_num num-same ns

question-same : (q : Question) → same_question q q ≡ true
question-same q =
    let name : bytes_eq q.name q.name ≡ true = bytes-same q.name in
    let text : same_rich q.text q.text ≡ true = rich-same q.text in
    let general : same_rich q.general q.general ≡ true = rich-same q.general in
    let kind_is : same_kind q.kind q.kind ≡ true = kind-same q.kind in
    let penalty : int_eq q.penalty q.penalty ≡ true = mark-same q.penalty in
    both (bytes_eq q.name q.name) _ name (both (same_rich q.text q.text) _ text (both (same_rich q.general q.general) _ general (both (same_kind q.kind q.kind) _ kind_is (both (int_eq q.penalty q.penalty) _ penalty (texts-same q.hints)))))

item-same : (i : Item) → same_item i i ≡ true
item-same i = both (same_texts i.category i.category) (same_question i.question i.question) (texts-same i.category) (question-same i.question)

bank-same : (b : Bank) → same_bank b b ≡ true
bank-same b = list-same same_item item-same b.items

setting-same : (s : Option ℕ) → same_setting s s ≡ true
setting-same None = refl
setting-same (Some n) = number-same n

or-first : (a b : Bool) → a ≡ true → a || b ≡ true
or-first a b one = rw one refl

pub kept-same : (x : Request) → keeps_record x ≡ true → same_request x x ≡ true
kept-same (request.User name role token) kept = rw (bytes-same name, bytes-same (role_bytes role), bytes-same token) refl
kept-same (request.Group name) kept = rw (bytes-same name) refl
kept-same (request.Member group user) kept = rw (number-same group, number-same user) refl
kept-same (request.Import gift) kept = or-first (same_bank gift gift) _ (bank-same gift)
kept-same (request.Edit entry gift) kept = or-first ((entry == entry) && same_question gift gift) _ (both (entry == entry) (same_question gift gift) (number-same entry) (question-same gift))
kept-same (request.Tune entry penalty hints) kept = or-first ((entry == entry) && (int_eq penalty penalty && same_texts hints hints)) _ (both (entry == entry) (int_eq penalty penalty && same_texts hints hints) (number-same entry) (both (int_eq penalty penalty) (same_texts hints hints) (mark-same penalty) (texts-same hints)))
kept-same (request.Quiz name behaviour) kept = rw (bytes-same name, bytes-same (behaviour_bytes behaviour)) refl
kept-same (request.Slot quiz entry max) kept = rw (number-same quiz, number-same entry, mark-same max) refl
kept-same (request.Ready quiz) kept = rw (number-same quiz) refl
kept-same (request.Remax quiz slot max) kept = rw (number-same quiz, number-same slot, mark-same max) refl
kept-same (request.Policy quiz method grade) kept = rw (number-same quiz, bytes-same (method_bytes method), mark-same grade) refl
kept-same (request.Times quiz opens closes limit allowed handling grace review) kept =
    rw (number-same quiz, number-same opens, number-same closes, number-same limit, number-same allowed, bytes-same (handling_bytes handling), number-same grace, bytes-same (review_bytes review)) refl
kept-same (request.Override quiz whom number opens closes limit allowed) kept =
    rw (number-same quiz, bytes-same (whom_bytes whom), number-same number, setting-same opens, setting-same closes, setting-same limit, setting-same allowed) refl
kept-same (request.Regrade quiz) kept = rw (number-same quiz) refl
kept-same x kept = absurd cc
