-- A bank of written questions is what its canonical text is read as.
use Rattle.std.proofs.Common.{◌≡◌, ◌≢◌, ◌≤◌, ℕ, ℤ, Bool, true, false, cond, ◌==◌, List, [], ◌∷◌, ◌++◌, length, refl, sym, ap, ◌∙◌, subst, codes, arith, append_assoc}
use Rattle.std.specs.List.{list_all}
use Rattle.std.specs.Prelude.{zip, bytes_eq}
use Rattle.std.proofs.lemmas.Slice.Eq.{bytes_eq-Decides}
use Rattle.std.proofs.lemmas.Bool.{and_parts, eqb-true}
use Rattle.qz_grading.specs.declared.question.Item.{Item}
use Rattle.qz_grading.specs.Canonical.{same_texts, category_path, category_line, canonical_question, canonical_items, canonical}
use Rattle.qz_grading.specs.Canonical.{is_nothing, canonical_size}
use Rattle.qz_grading.specs.Questions.{IsSound}
use Rattle.qz_grading.specs.declared.question.Kind.{Kind}
use Rattle.qz_grading.specs.declared.question.Kind.TheVariants as kind
use Rattle.qz_grading.specs.declared.question.Question.{Question}
use Rattle.qz_grading.specs.declared.question.Rich.{Rich}
use Rattle.qz_grading.specs.declared.limits.TheConstants.{MOST_TOGETHER}
use Rattle.gift_read.specs.Values.{question_with}
use Rattle.gift_laws.specs.Written.{IsKind, IsWritten, AreNames, AreItems, ReadsBack}
use Rattle.gift_laws.proofs.ReadBackBank.{IsQuestionText, ReadsItems, reads-none, reads-question, reading-items}
use Rattle.gift_laws.proofs.ReadBackKinds.{IsFramed, asks-description, asks-essay, asks-truth}
use Rattle.gift_laws.proofs.ReadBackMatching.{asks-matching}
use Rattle.gift_laws.proofs.ReadBackChoices.{asks-one, asks-several}
use Rattle.gift_laws.proofs.ReadBackShort.{asks-short}
use Rattle.gift_laws.proofs.ReadBackNumerical.{asks-numerical}
use Rattle.gift_laws.proofs.ReadBackCategory.{reads-category}

-- ---- every kind

asks-kind : (name : List ℕ) (r general : Rich) (k : Kind) → IsFramed name r general k → IsKind r.format k → IsSound k → (k ≡ kind.Description → general.text ≡ []) → IsQuestionText (question_with name r general k)
asks-kind name r general kind.Description is own whole described = asks-description name r general is (described refl)
asks-kind name r general kind.Essay is own whole described = asks-essay name r general is (is_nothing general.text) refl
asks-kind name r general (kind.TrueFalse right on_wrong on_right) is own whole described = asks-truth name r general on_wrong on_right right is own.0 own.1
asks-kind name r general (kind.One choices) is own whole described = asks-one name r general choices is own whole
asks-kind name r general (kind.Several choices) is own whole described = asks-several name r general choices is own whole
asks-kind name r general (kind.Matching pairs) is own whole described = asks-matching name r general pairs is own whole
asks-kind name r general (kind.ShortAnswer answers) is own whole described = asks-short name r general answers is own whole
asks-kind name r general (kind.Numerical answers) is own whole described = asks-numerical name r general answers is own whole

written-whole : (q : Question) → IsWritten q → question_with q.name q.text q.general q.kind ≡ q
written-whole q is =
    sym (ap (λ (p : ℤ). record { name = q.name; text = q.text; general = q.general; kind = q.kind; penalty = p; hints = q.hints }) is.penalty
    ∙ ap (λ (h : List (List ℕ)). question_with_hints q h) is.no_hints)
  where
    question_with_hints : Question → List (List ℕ) → Question
    question_with_hints q h = record (question_with q.name q.text q.general q.kind) { hints = h }

pub asks-written : (q : Question) → IsWritten q → IsQuestionText q
asks-written q is =
    let whole = written-whole q is in
    let framed : IsFramed q.name q.text q.general q.kind = record {
      own_name = is.name;
      named = is.named;
      own_text = is.text;
      own_general = is.general;
      short = is.lengths;
      small = subst (λ (p : Question). canonical_size p ≤ MOST_TOGETHER) (sym whole) is.size;
    } in
    subst IsQuestionText whole (asks-kind q.name q.text q.general q.kind framed is.kind is.sound is.described)

-- ---- the same path

names-same : (a b : List (List ℕ)) → length a ≡ length b → list_all (λ (p : List ℕ × List ℕ). bytes_eq p.0 p.1) (zip a b) ≡ true → a ≡ b
names-same [] [] e all = refl
names-same [] (y ∷ ys) e all = absurd (omega (arith, e))
names-same (x ∷ xs) [] e all = absurd (omega (arith, e))
names-same (x ∷ xs) (y ∷ ys) e all =
    let parts = and_parts (bytes_eq x y) (list_all (λ (p : List ℕ × List ℕ). bytes_eq p.0 p.1) (zip xs ys)) all in
    let first : x ≡ y = (bytes_eq-Decides x y).0 parts.0 in
    let later = names-same xs ys (omega (arith, e)) parts.1 in
    cc

path-same : (a b : List (List ℕ)) → same_texts a b ≡ true → a ≡ b
path-same a b e =
    let parts = and_parts (length a == length b) (list_all (λ (p : List ℕ × List ℕ). bytes_eq p.0 p.1) (zip a b)) e in
    names-same a b (eqb-true (length a) (length b) parts.0) parts.1

-- ---- items

-- a category line stands where the category is another
reads-in : (before path : List (List ℕ)) (text : List ℕ) (items : List Item) → path ≢ [] → AreNames path → ReadsItems path text items → (same : Bool) → same_texts before path ≡ same
    → ReadsItems before (cond same [] (codes "$CATEGORY: " ++ category_path path ++ 10 ∷ 10 ∷ []) ++ text) items
reads-in before path text items some names later true e = subst (λ (p : List (List ℕ)). ReadsItems p text items) (sym (path-same before path e)) later
reads-in before [] text items some names later false e = absurd (some refl)
reads-in before (name ∷ path) text items some names later false e = reads-category before name path text items names later

reads-items : (before : List (List ℕ)) (items : List Item) → AreItems items → ReadsItems before (canonical_items before items) items
reads-items before [] written = reads-none before
reads-items before (i ∷ is) written =
    let later = reads-items i.category is written.1 in
    let asked = reads-question i.category (canonical_items i.category is) is i.question (asks-written i.question written.0.question) later in
    let whole = reads-in before i.category (canonical_question i.question ++ canonical_items i.category is) (i ∷ is) written.0.named written.0.names asked (same_texts before i.category) refl in
    subst (λ (t : List ℕ). ReadsItems before t (i ∷ is)) (sym (append_assoc (category_line before i.category) (canonical_question i.question) (canonical_items i.category is))) whole

pub reads_back : ReadsBack
reads_back = record { same = λ bank written. reading-items (canonical bank) bank.items (reads-items (codes "Default" ∷ []) bank.items written) }
