-- A block without a broken rule spells a question.
use Rattle.std.proofs.Common.{◌≡◌, ◌≤◌, ℕ, Bool, true, false, cond, not, ◌&&◌, ◌||◌, List, [], ◌∷◌, ◌++◌, length, map, Option, Some, None, refl, subst, arith}
use Rattle.std.specs.Prelude.{IsTrue, nat_lt, All, Result, Ok, Err}
use Rattle.std.proofs.lemmas.Bool.{or_parts, not-false, ltb-false}
use Rattle.std.proofs.lemmas.List.{append-nil}
use Rattle.std.proofs.lemmas.List.Elements.{All-cons}
use Rattle.qz_decimal.specs.Reading.{IsWrittenFraction}
use Rattle.gift_lex.specs.declared.block.Block.{Block}
use Rattle.qz_grading.specs.declared.question.Format.{Format}
use Rattle.qz_grading.specs.declared.question.Kind.{Kind}
use Rattle.qz_grading.specs.declared.question.Kind.TheVariants as kind
use Rattle.qz_grading.specs.declared.question.Question.{Question}
use Rattle.qz_grading.specs.Canonical.{canonical_size}
use Rattle.qz_grading.specs.Questions.{parts, least_parts, has_no_blank, has_stem, has_right_choice, are_no_longer, texts, IsSound, IsQuestion}
use Rattle.gift_read.specs.declared.places.Landmark.TheVariants as landmark
use Rattle.gift_read.specs.declared.parts.Sort.{Sort}
use Rattle.gift_read.specs.declared.parts.Sort.TheVariants as sort
use Rattle.gift_read.specs.Places.{Marks, is_at, before, from, occurs, trimmed}
use Rattle.gift_read.specs.Texts.{rich_of}
use Rattle.gift_read.specs.Parts.{body, answer_part, general_marks, answers, truth, short_unless, sort_in, sort_of}
use Rattle.gift_read.specs.Values.{kind_in, penalty_of, question}
use Rattle.gift_read.specs.Category.{is_category}
use Rattle.qz_grading.specs.declared.limits.TheConstants.{MOST_PARTS, MOST_TEXT, MOST_TOGETHER}
use Rattle.gift_read.specs.Faults.{when, is_nameless, has_stray_brace, is_unclosed, is_long, is_matching, lacks_piece, has_stray_arrow, has_stray_feedback, broken_values, broken_question, flaws, is_large, or_large, broken}
use Rattle.qz_grading.specs.declared.question.Item.{Item}
use Rattle.gift_read.specs.declared.reading.Entry.{Entry}
use Rattle.gift_read.specs.declared.reading.Entry.TheVariants as entry
use Rattle.gift_read.specs.Gift.{Fault, told_by, told, onto, followed, items_of}
use Rattle.gift_read.proofs.SoundLemmas.{kind_in-numbers, pieces-whole}
use Rattle.qz_grading.proofs.TogetherLemmas.{together-length}

-- ---- no rule is broken

pub none-before : (rules : List ℕ) (b : Bool) (rule : ℕ) → rules ++ when b rule ≡ [] → (rules ≡ []) × (b ≡ false)
none-before [] true rule e = cc
none-before [] false rule e = (refl, refl)
none-before (r ∷ rules) b rule e = cc

pub none-broken : (b : Block) → broken b ≡ [] → (flaws b ≡ []) × (is_large b ≡ false)
none-broken b e = go (flaws b) (is_large b) refl e
  where
    go : (rules : List ℕ) (large : Bool) → is_large b ≡ large → or_large rules b ≡ [] → (rules ≡ []) × (large ≡ false)
    go [] large is e = (refl, (none-before [] large 2 (rw is at e)).1)
    go (r ∷ rules) large is e = cc

none-question : (b : Block) (nameless braces : Bool) → is_nameless b.marks ≡ nameless → (has_stray_brace (body b.marks) || is_unclosed (body b.marks)) ≡ braces → broken_question nameless b ≡ []
    → broken_values (question b) (sort_of (body b.marks)) (answers (answer_part (body b.marks))) ≡ []
none-question b true braces named closed e = cc
none-question b false true named closed e = absurd (behind _ (rw closed at e))
  where
    behind : (rules : List ℕ) → rules ++ (5 ∷ []) ≡ [] → ⊥
    behind [] e = cc
    behind (r ∷ rules) e = cc
none-question b false false named closed e = rw closed at e

-- ---- the general feedback of a description

no_braces : (b : Bool) (answers : Marks) (f : Format) → kind_in f answers (cond b (sort_in answers) sort.Description) ≡ kind.Description → b ≡ false
no_braces false answers f e = refl
no_braces true [] f e = cc
no_braces true (m ∷ marks) f e = absurd (go (is_at landmark.Hash part) (occurs (is_at landmark.Tilde) part) (occurs (is_at landmark.Equals) part) (occurs (is_at landmark.Arrow) part) (truth (trimmed (before (is_at landmark.Hash) part))) e)
  where
    part : Marks
    part = m ∷ marks

    go : (hash tilde equals arrow : Bool) (right : Option Bool) → kind_in f part (cond hash sort.Numerical (cond tilde (cond equals sort.One sort.Several) (cond (equals && arrow) sort.Matching (short_unless right)))) ≡ kind.Description → ⊥
    go true tilde equals arrow right e = cc
    go false true true arrow right e = cc
    go false true false arrow right e = cc
    go false false true true right e = cc
    go false false true false None e = cc
    go false false true false (Some right) e = cc
    go false false false arrow None e = cc
    go false false false arrow (Some right) e = cc

from-none : (here : Marks → Bool) (marks : Marks) → occurs here marks ≡ false → from here marks ≡ []
from-none here [] e = refl
from-none here (m ∷ marks) e = let parts = or_parts (here (m ∷ marks)) (occurs here marks) e in rw parts.0 (from-none here marks parts.1)

-- without braces there is none
pub description-general : (f : Format) (body : Marks) → kind_in f (answers (answer_part body)) (sort_of body) ≡ kind.Description → length (rich_of f (general_marks (answer_part body))).text ≡ 0
description-general f body e =
    let none = no_braces (occurs (is_at landmark.Opening) body) (answers (answer_part body)) f e in
    rw (from-none (is_at landmark.Opening) body none) refl

-- ---- the whole

written-penalty : (k : Kind) → IsWrittenFraction (penalty_of k)
written-penalty kind.Description = (record { le = tt }, record { le = tt })
written-penalty kind.Essay = (record { le = tt }, record { le = tt })
written-penalty (kind.TrueFalse right a b) = (record { le = tt }, record { le = tt })
written-penalty (kind.One choices) = (record { le = tt }, record { le = tt })
written-penalty (kind.Several choices) = (record { le = tt }, record { le = tt })
written-penalty (kind.Matching pairs) = (record { le = tt }, record { le = tt })
written-penalty (kind.ShortAnswer answers) = (record { le = tt }, record { le = tt })
written-penalty (kind.Numerical answers) = (record { le = tt }, record { le = tt })

sound-kind : (q : Question) (s : Sort) (answers : Marks) (f : Format) → q.kind ≡ kind_in f answers s → broken_values q s answers ≡ [] → IsSound q.kind × IsTrue (are_no_longer 65536 (texts q)) × (has_stray_arrow s answers ≡ false)
sound-kind q s answers f is e =
    let right = none-before _ (not (has_right_choice q.kind)) 11 e in
    let feedback = none-before _ (has_stray_feedback s answers) 10 right.0 in
    let numbers = none-before _ _ 9 feedback.0 in
    let matching = none-before _ _ 8 numbers.0 in
    let weights = none-before _ _ 7 matching.0 in
    let pieces = none-before (when (is_long q) 2) _ 6 weights.0 in
    let long = none-before [] (is_long q) 2 pieces.0 in
    let limits = or_parts (not (are_no_longer MOST_TEXT (texts q))) (nat_lt MOST_PARTS (parts q.kind)) long.1 in
    let others = or_parts (not (is_matching q.kind) && lacks_piece q.kind) _ pieces.1 in
    let matched = or_parts (is_matching q.kind && (lacks_piece q.kind || not (has_stem q.kind))) _ matching.1 in
    let whole = pieces-whole q.kind others.0 matched.0 in
    let full = or_parts (nat_lt (parts q.kind) (least_parts q.kind)) (not (has_no_blank q.kind)) whole.0 in (
      record {
        few = ltb-false MOST_PARTS (parts q.kind) limits.1;
        enough = ltb-false (parts q.kind) (least_parts q.kind) full.0;
        numbers = rw is (kind_in-numbers f answers s);
        no_blank = not-false _ full.1;
        right_choice = not-false _ right.1;
        stem = whole.1;
      },
      not-false _ limits.0,
      matched.1,
    )

-- the kind and the lengths of the texts are as they must be, and no arrow is astray
pub values-kept : (b : Block) → is_category b.marks ≡ false → broken b ≡ []
    → IsSound (question b).kind × IsTrue (are_no_longer 65536 (texts (question b))) × (has_stray_arrow (sort_of (body b.marks)) (answers (answer_part (body b.marks))) ≡ false)
values-kept b asked e =
    let values = none-question b (is_nameless b.marks) _ refl refl (rw asked at (none-broken b e).0) in
    sound-kind (question b) (sort_of (body b.marks)) (answers (answer_part (body b.marks))) (question b).text.format refl values

pub size-kept : (b : Block) → is_category b.marks ≡ false → broken b ≡ [] → canonical_size (question b) ≤ MOST_TOGETHER
size-kept b asked e = ltb-false MOST_TOGETHER (canonical_size (question b)) (rw asked at (none-broken b e).1)

pub question-kept : (b : Block) → is_category b.marks ≡ false → broken b ≡ [] → IsQuestion (question b)
question-kept b asked e =
    let kept = values-kept b asked e in
    let together = together-length (question b) (description-general (question b).text.format (body b.marks)) in
    record {
      kind = kept.0;
      penalty = written-penalty (question b).kind;
      lengths = kept.1;
      few_hints = omega arith;
      hints = refl;
      together = rw append-nil (omega (arith, together, size-kept b asked e));
    }

-- ---- every question that is read

abbrev questions : List Item → List Question
questions items = map (λ (i : Item). i.question) items

abbrev KeptIfAsked : Result Entry Fault → Type 0
KeptIfAsked (Ok (entry.Asked q)) = IsQuestion q
KeptIfAsked (Ok (entry.Category path)) = Unit {0}
KeptIfAsked (Err fault) = Unit {0}

told-kept : (b : Block) → KeptIfAsked (told b)
told-kept b = go (broken b) (is_category b.marks) refl refl
  where
    go : (rules : List ℕ) (is : Bool) → broken b ≡ rules → is_category b.marks ≡ is → KeptIfAsked (told_by rules is b)
    go (rule ∷ rules) is e asked = tt
    go [] true e asked = tt
    go [] false e asked = question-kept b asked e

abbrev KeptIfRead : Result (List Item) Fault → Type 0
KeptIfRead (Ok items) = All IsQuestion (questions items)
KeptIfRead (Err fault) = Unit {0}

onto-kept : (names : List (List ℕ)) (q : Question) (later : Result (List Item) Fault) → IsQuestion q → KeptIfRead later → KeptIfRead (onto (record { category = names; question = q }) later)
onto-kept names q (Ok items) here kept = All-cons IsQuestion q (questions items) here kept
onto-kept names q (Err fault) here kept = tt

followed-kept : (names : List (List ℕ)) (e : Result Entry Fault) (later : List (List ℕ) → Result (List Item) Fault) → KeptIfAsked e → ((n : List (List ℕ)) → KeptIfRead (later n)) → KeptIfRead (followed names e later)
followed-kept names (Err fault) later here kept = tt
followed-kept names (Ok (entry.Category path)) later here kept = kept path
followed-kept names (Ok (entry.Asked q)) later here kept = onto-kept names q (later names) here (kept names)

items_of-kept : (names : List (List ℕ)) (blocks : List Block) → KeptIfRead (items_of names blocks)
items_of-kept names [] = λ k d lt. absurd (omega arith)
items_of-kept names (b ∷ blocks) = followed-kept names (told b) (λ n. items_of n blocks) (told-kept b) (λ n. items_of-kept n blocks)

-- the questions that are read keep what every question keeps
pub items-kept : (names : List (List ℕ)) (blocks : List Block) (items : List Item) → items_of names blocks ≡ Ok items → All IsQuestion (map (λ (i : Item). i.question) items)
items-kept names blocks items e = subst KeptIfRead e (items_of-kept names blocks)
