-- True-false questions, read back.
use Rattle.std.proofs.Common.{◌≡◌, ◌≢◌, ℕ, Bool, true, false, cond, not, ◌&&◌, ◌||◌, List, [], ◌∷◌, ◌++◌, map, drop, codes, refl, ap, ◌∙◌, append-nil}
use Rattle.std.proofs.lemmas.Bool.{and_parts}
use Rattle.std.proofs.lemmas.List.{map-append}
use Rattle.gift_lex.specs.declared.block.Block.{Block}
use Rattle.gift_lex.specs.declared.block.Piece.TheVariants.{Sign, Plain}
use Rattle.qz_grading.specs.declared.question.Format.{Format}
use Rattle.qz_grading.specs.declared.question.Format.TheVariants as format
use Rattle.qz_grading.specs.declared.question.Kind.TheVariants as kind
use Rattle.qz_grading.specs.declared.question.Rich.{Rich}
use Rattle.qz_grading.specs.Canonical.{is_nothing}
use Rattle.gift_read.specs.declared.places.Landmark.TheVariants as landmark
use Rattle.gift_read.specs.declared.parts.Sort.{Sort}
use Rattle.gift_read.specs.declared.parts.Sort.TheVariants as sort
use Rattle.gift_read.specs.Places.{Marks, character, is_at, before, from, occurs, trimmed}
use Rattle.gift_read.specs.Texts.{rich_of}
use Rattle.gift_read.specs.Parts.{sort_in, short_unless, truth, feedback_marks}
use Rattle.gift_read.specs.Values.{question_with, on_wrong, on_right}
use Rattle.gift_laws.specs.Written as written
use Rattle.gift_laws.specs.Written.{IsText, IsRich}
use Rattle.gift_laws.proofs.ReadBackPlaces.{Passes, passes-nil, passes-cons, passes-append, passes-plain, passes-occurs, passes-before, passes-from, found-before, found-from, is_plain, are_plain, plain-sign, ends_ink, trimmed-ink}
use Rattle.gift_laws.proofs.ReadBackRich.{rich_marks, rich_marks-plain, rich_marks-ink, rich_of-nothing, rich_of-rich, ends-append}
use Rattle.gift_laws.proofs.ReadBackFrame.{named_marks, braced}
use Rattle.gift_laws.proofs.ReadBackGeneral.{with_general, general-before, general-marks, closed-general}
use Rattle.gift_laws.proofs.ReadBackTold.{IsRead}
use Rattle.gift_laws.proofs.ReadBackPlain.{IsShort, no_text, reads-braced}

abbrev pub word : Bool → Marks
word true = map Plain (codes "TRUE")
word false = map Plain (codes "FALSE")

word-plain : (right : Bool) → are_plain (word right) ≡ true
word-plain true = refl
word-plain false = refl

-- ---- what may stand behind the word

record IsTail (tail : Marks) : Type 0 where
  no_hashes : occurs (is_at landmark.Hashes) tail ≡ false
  closed : Passes (is_at landmark.Closing) tail
  no_tilde : Passes (is_at landmark.Tilde) tail
  no_equals : Passes (is_at landmark.Equals) tail
  ends : ends_ink tail ≡ true
  first : before (is_at landmark.Hash) tail ≡ []
  whole : from (is_at landmark.Hash) tail ≡ tail

tail-nil : IsTail []
tail-nil = record { no_hashes = refl; closed = passes-nil (is_at landmark.Closing); no_tilde = passes-nil (is_at landmark.Tilde); no_equals = passes-nil (is_at landmark.Equals); ends = refl; first = refl; whole = refl }

no_hashes_in : (marks : Marks) → are_plain marks ≡ true → Passes (is_at landmark.Hashes) marks
no_hashes_in marks plain = passes-plain 35 (35 ∷ 35 ∷ 35 ∷ []) marks plain

one_hash : (marks : Marks) → are_plain marks ≡ true → occurs (is_at landmark.Hashes) (Sign 35 ∷ marks) ≡ false
one_hash [] plain = refl
one_hash (m ∷ marks) plain =
    let parts = and_parts (is_plain m) (are_plain marks) plain in
    rw (plain-sign 35 m parts.0, passes-occurs (is_at landmark.Hashes) marks (no_hashes_in marks parts.1)) refl

two_hashes : (marks more : Marks) → are_plain marks ≡ true → are_plain more ≡ true → occurs (is_at landmark.Hashes) (Sign 35 ∷ (marks ++ (Sign 35 ∷ more))) ≡ false
two_hashes [] [] plain also = refl
two_hashes [] (n ∷ more) plain also =
    let parts = and_parts (is_plain n) (are_plain more) also in
    rw (plain-sign 35 n parts.0, passes-occurs (is_at landmark.Hashes) more (no_hashes_in more parts.1)) refl
two_hashes (m ∷ marks) more plain also =
    let parts = and_parts (is_plain m) (are_plain marks) plain in
    rw (plain-sign 35 m parts.0, (no_hashes_in marks parts.1).occurs_is (Sign 35 ∷ more), one_hash more also) refl

-- behind a hash
ends-hash : (marks : Marks) → ends_ink marks ≡ true → ends_ink (Sign 35 ∷ marks) ≡ true
ends-hash marks ends = ends-append (35 ∷ []) (map character marks) refl ends

pub ends-two : (marks more : Marks) → ends_ink marks ≡ true → ends_ink more ≡ true → ends_ink (marks ++ more) ≡ true
ends-two marks more first second = ap written.ends_ink (map-append character marks more) ∙ ends-append (map character marks) (map character more) first second

tail-one : (marks : Marks) → are_plain marks ≡ true → ends_ink marks ≡ true → IsTail (Sign 35 ∷ marks)
tail-one marks plain ends = record {
  no_hashes = one_hash marks plain;
  closed = passes-cons (is_at landmark.Closing) (Sign 35) marks (λ ys. refl) (passes-plain 125 [] marks plain);
  no_tilde = passes-cons (is_at landmark.Tilde) (Sign 35) marks (λ ys. refl) (passes-plain 126 [] marks plain);
  no_equals = passes-cons (is_at landmark.Equals) (Sign 35) marks (λ ys. refl) (passes-plain 61 [] marks plain);
  ends = ends-hash marks ends;
  first = refl;
  whole = refl;
}

tail-two : (marks more : Marks) → are_plain marks ≡ true → are_plain more ≡ true → ends_ink marks ≡ true → ends_ink more ≡ true → IsTail (Sign 35 ∷ (marks ++ (Sign 35 ∷ more)))
tail-two marks more plain also ends more_ends =
    let one = tail-one marks plain ends in
    let two = tail-one more also more_ends in
    record {
      no_hashes = two_hashes marks more plain also;
      closed = passes-append (is_at landmark.Closing) (Sign 35 ∷ marks) (Sign 35 ∷ more) one.closed two.closed;
      no_tilde = passes-append (is_at landmark.Tilde) (Sign 35 ∷ marks) (Sign 35 ∷ more) one.no_tilde two.no_tilde;
      no_equals = passes-append (is_at landmark.Equals) (Sign 35 ∷ marks) (Sign 35 ∷ more) one.no_equals two.no_equals;
      ends = ends-two (Sign 35 ∷ marks) (Sign 35 ∷ more) one.ends two.ends;
      first = refl;
      whole = refl;
    }

-- ---- the word and what stands behind it

word-no_hashes : (right : Bool) (tail : Marks) → IsTail tail → occurs (is_at landmark.Hashes) (word right ++ tail) ≡ false
word-no_hashes right tail is = (no_hashes_in (word right) (word-plain right)).occurs_is tail ∙ is.no_hashes

word-trimmed : (right : Bool) (tail : Marks) → IsTail tail → trimmed (word right ++ tail) ≡ word right ++ tail
word-trimmed true tail is = trimmed-ink (word true ++ tail) refl (ends-two (word true) tail refl is.ends)
word-trimmed false tail is = trimmed-ink (word false ++ tail) refl (ends-two (word false) tail refl is.ends)

word-before : (right : Bool) (tail : Marks) → IsTail tail → before (is_at landmark.Hash) (word right ++ tail) ≡ word right
word-before right tail is = (passes-plain 35 [] (word right) (word-plain right)).before_is tail ∙ ap (λ (t : Marks). word right ++ t) is.first ∙ append-nil (word right)

word-feedback : (right : Bool) (tail : Marks) → IsTail tail → feedback_marks (word right ++ tail) ≡ drop 1 tail
word-feedback right tail is = ap (drop 1) ((passes-plain 35 [] (word right) (word-plain right)).from_is tail ∙ is.whole)

no_tilde_there : (right : Bool) (tail : Marks) → IsTail tail → occurs (is_at landmark.Tilde) (word right ++ tail) ≡ false
no_tilde_there right tail is = passes-occurs (is_at landmark.Tilde) (word right ++ tail) (passes-append (is_at landmark.Tilde) (word right) tail (passes-plain 126 [] (word right) (word-plain right)) is.no_tilde)

no_equals_there : (right : Bool) (tail : Marks) → IsTail tail → occurs (is_at landmark.Equals) (word right ++ tail) ≡ false
no_equals_there right tail is = passes-occurs (is_at landmark.Equals) (word right ++ tail) (passes-append (is_at landmark.Equals) (word right) tail (passes-plain 61 [] (word right) (word-plain right)) is.no_equals)

-- what is told where neither a tilde nor an equals sign stands
abbrev pub sort_by : Bool → Bool → Bool → Bool → Marks → Sort
sort_by hash tilde equals arrow front =
    cond hash sort.Numerical (cond tilde (cond equals sort.One sort.Several) (cond (equals && arrow) sort.Matching (short_unless (truth (trimmed front)))))

word-sort : (right : Bool) (tail : Marks) → IsTail tail → sort_in (word right ++ tail) ≡ sort.TrueFalse right
word-sort true tail is =
    let part = word true ++ tail in
    ap (λ (t : Bool). sort_by false t (occurs (is_at landmark.Equals) part) (occurs (is_at landmark.Arrow) part) (before (is_at landmark.Hash) part)) (no_tilde_there true tail is)
    ∙ ap (λ (t : Bool). sort_by false false t (occurs (is_at landmark.Arrow) part) (before (is_at landmark.Hash) part)) (no_equals_there true tail is)
    ∙ ap (λ (t : Marks). sort_by false false false (occurs (is_at landmark.Arrow) part) t) (word-before true tail is)
word-sort false tail is =
    let part = word false ++ tail in
    ap (λ (t : Bool). sort_by false t (occurs (is_at landmark.Equals) part) (occurs (is_at landmark.Arrow) part) (before (is_at landmark.Hash) part)) (no_tilde_there false tail is)
    ∙ ap (λ (t : Bool). sort_by false false t (occurs (is_at landmark.Arrow) part) (before (is_at landmark.Hash) part)) (no_equals_there false tail is)
    ∙ ap (λ (t : Marks). sort_by false false false (occurs (is_at landmark.Arrow) part) t) (word-before false tail is)

-- ---- the question

-- the feedback for a wrong answer, and the one for a right answer, each behind a hash where it is written
abbrev pub tail_of : Format → Rich → Rich → Bool → Bool → Marks
tail_of f wrong right true true = []
tail_of f wrong right false true = Sign 35 ∷ rich_marks f wrong
tail_of f wrong right b false = Sign 35 ∷ (rich_marks f wrong ++ (Sign 35 ∷ rich_marks f right))

record ReadsTail (f : Format) (wrong right : Rich) (tail : Marks) : Type 0 where
  is_tail : IsTail tail
  wrong_is : rich_of f (before (is_at landmark.Hash) (drop 1 tail)) ≡ wrong
  right_is : rich_of f (feedback_marks (drop 1 tail)) ≡ right
  no_third : occurs (is_at landmark.Hash) (feedback_marks (drop 1 tail)) ≡ false

hash_plain : (f : Format) (r : Rich) → Passes (is_at landmark.Hash) (rich_marks f r)
hash_plain f r = passes-plain 35 [] (rich_marks f r) (rich_marks-plain f r)

reads_two : (f : Format) (wrong right : Rich) → IsRich f wrong → IsRich f right → ReadsTail f wrong right (Sign 35 ∷ (rich_marks f wrong ++ (Sign 35 ∷ rich_marks f right)))
reads_two f wrong right is_wrong is_right =
    let wm = rich_marks f wrong in
    let rm = rich_marks f right in
    let behind : feedback_marks (wm ++ (Sign 35 ∷ rm)) ≡ rm = ap (drop 1) (found-from (is_at landmark.Hash) wm (Sign 35) rm (hash_plain f wrong) refl) in
    record {
      is_tail = tail-two wm rm (rich_marks-plain f wrong) (rich_marks-plain f right) (rich_marks-ink f wrong is_wrong.text).1 (rich_marks-ink f right is_right.text).1;
      wrong_is = ap (rich_of f) (found-before (is_at landmark.Hash) wm (Sign 35) rm (hash_plain f wrong) refl) ∙ rich_of-rich f wrong is_wrong;
      right_is = ap (rich_of f) behind ∙ rich_of-rich f right is_right;
      no_third = ap (occurs (is_at landmark.Hash)) behind ∙ passes-occurs (is_at landmark.Hash) rm (hash_plain f right);
    }

reads_tail : (f : Format) (wrong right : Rich) → IsRich f wrong → IsRich f right → (no_wrong no_right : Bool) → is_nothing wrong.text ≡ no_wrong → is_nothing right.text ≡ no_right
    → ReadsTail f wrong right (tail_of f wrong right no_wrong no_right)
reads_tail f wrong right is_wrong is_right true true e g = record {
  is_tail = tail-nil;
  wrong_is = rich_of-nothing f wrong is_wrong (no_text wrong e);
  right_is = rich_of-nothing f right is_right (no_text right g);
  no_third = refl;
}
reads_tail f wrong right is_wrong is_right false true e g =
    let wm = rich_marks f wrong in
    let behind : feedback_marks wm ≡ [] = ap (drop 1) (passes-from (is_at landmark.Hash) wm (hash_plain f wrong)) in
    record {
      is_tail = tail-one wm (rich_marks-plain f wrong) (rich_marks-ink f wrong is_wrong.text).1;
      wrong_is = ap (rich_of f) (passes-before (is_at landmark.Hash) wm (hash_plain f wrong)) ∙ rich_of-rich f wrong is_wrong;
      right_is = ap (rich_of f) behind ∙ rich_of-nothing f right is_right (no_text right g);
      no_third = ap (occurs (is_at landmark.Hash)) behind;
    }
reads_tail f wrong right is_wrong is_right true false e g = reads_two f wrong right is_wrong is_right
reads_tail f wrong right is_wrong is_right false false e g = reads_two f wrong right is_wrong is_right

abbrev pub truth_inner : Format → Bool → Rich → Rich → Rich → Bool → Bool → Bool → Marks
truth_inner f right on_wrong on_right general no_wrong no_right none = with_general (word right ++ tail_of f on_wrong on_right no_wrong no_right) none (rich_marks f general)

general_read : (f : Format) (general : Rich) (none : Bool) → IsRich f general → is_nothing general.text ≡ none → rich_of f (cond none [] (rich_marks f general)) ≡ general
general_read f general true is e = rich_of-nothing f general is (no_text general e)
general_read f general false is e = rich_of-rich f general is

pub reads-truth : (b : Block) (name : List ℕ) (r general on_wrong on_right : Rich) (right : Bool) → IsText name → name ≢ [] → IsText r.text → IsRich r.format general
    → IsRich r.format on_wrong → IsRich r.format on_right
    → IsShort (question_with name r general (kind.TrueFalse right on_wrong on_right)) → (no_wrong no_right none : Bool)
    → is_nothing on_wrong.text ≡ no_wrong → is_nothing on_right.text ≡ no_right → is_nothing general.text ≡ none
    → b.marks ≡ named_marks name (braced (rich_marks format.Moodle r) (truth_inner r.format right on_wrong on_right general no_wrong no_right none))
    → IsRead b (question_with name r general (kind.TrueFalse right on_wrong on_right))
reads-truth b name r general on_wrong on_right right is_name named is_text is_general is_wrong is_right short no_wrong no_right none e g h is =
    let f = r.format in
    let tail = tail_of f on_wrong on_right no_wrong no_right in
    let reads = reads_tail f on_wrong on_right is_wrong is_right no_wrong no_right e g in
    let a = word right ++ tail in
    let gm = rich_marks f general in
    let plain = rich_marks-plain f general in
    let no_hashes = word-no_hashes right tail reads.is_tail in
    let closed = closed-general a gm none (passes-append (is_at landmark.Closing) (word right) tail (passes-plain 125 [] (word right) (word-plain right)) reads.is_tail.closed) plain in
    let feedback = word-feedback right tail reads.is_tail in
    reads-braced b name r general (kind.TrueFalse right on_wrong on_right) (with_general a none gm) a (sort.TrueFalse right) is_name named is_text closed
    (ap trimmed (general-before a gm none no_hashes plain) ∙ word-trimmed right tail reads.is_tail)
    (word-sort right tail reads.is_tail)
    (ap (λ (m : Marks). kind.TrueFalse right (rich_of f (before (is_at landmark.Hash) m)) (rich_of f (feedback_marks m))) feedback
    ∙ ap (λ (w : Rich). kind.TrueFalse right w (rich_of f (feedback_marks (drop 1 tail)))) reads.wrong_is
    ∙ ap (λ (w : Rich). kind.TrueFalse right on_wrong w) reads.right_is)
    (ap (rich_of f) (general-marks a gm none no_hashes plain) ∙ general_read f general none is_general h)
    (record {
      short = ap (λ (x : Bool). not x || false) short;
      pieces = refl;
      weights = refl;
      pairs = refl;
      numbers = refl;
      feedback = ap (λ (m : Marks). occurs (is_at landmark.Hash) (feedback_marks m)) feedback ∙ reads.no_third;
      right = refl;
    })
    is
