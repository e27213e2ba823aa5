-- Short answers, read back.
use Rattle.std.proofs.Common.{◌≡◌, ℕ, Bool, true, false, not, ◌&&◌, List, [], ◌∷◌, ◌++◌, map, refl, ap, ◌∙◌, append-nil, codes, arith, inl, ℤ, pos}
use Rattle.std.specs.List.{list_any}
use Rattle.std.specs.Ordering.{int_eq}
use Rattle.std.specs.Str.{chars}
use Rattle.gift_lex.specs.declared.block.Piece.TheVariants.{Sign, Plain}
use Rattle.qz_decimal.specs.Numbers.{one}
use Rattle.qz_grading.specs.declared.question.Format.{Format}
use Rattle.qz_grading.specs.declared.question.Kind.TheVariants as kind
use Rattle.qz_grading.specs.declared.question.Rich.{Rich}
use Rattle.qz_grading.specs.declared.question.Short.{Short}
use Rattle.qz_grading.specs.Canonical as canonical
use Rattle.qz_grading.specs.Canonical.{begins_with, is_nothing, escaped, short_piece}
use Rattle.qz_grading.specs.Questions as sound
use Rattle.gift_read.specs.declared.places.Landmark.TheVariants as landmark
use Rattle.gift_read.specs.declared.parts.Sort.TheVariants as sort
use Rattle.gift_read.specs.Places.{Marks, is_at, before, occurs}
use Rattle.gift_read.specs.Texts.{text_of}
use Rattle.gift_read.specs.Parts.{Part, sort_in}
use Rattle.gift_read.specs.Values.{question_with, short_of}
use Rattle.gift_read.specs.Faults.{is_misweighed}
use Rattle.gift_laws.specs.Written as written
use Rattle.gift_laws.specs.Written.{IsAnswer, Each}
use Rattle.gift_laws.proofs.ReadBackPlaces.{passes-plain, passes-occurs}
use Rattle.gift_laws.proofs.ReadBackMarks.{text_marks-characters, text_marks-plain}
use Rattle.gift_laws.proofs.ReadBackRich.{written_characters, marks_of_text, rich_marks, text_of-own}
use Rattle.gift_laws.proofs.ReadBackTruth.{sort_by}
use Rattle.gift_laws.proofs.ReadBackArrows.{occurs-arrow, arrow-around, rich-arrow}
use Rattle.gift_laws.proofs.ReadBackBank.{IsQuestionText}
use Rattle.gift_laws.proofs.ReadBackWriting.{Writes-text}
use Rattle.gift_laws.proofs.ReadBackPieces
use Rattle.gift_laws.proofs.ReadBackPieces.{parts_marks, spaced, from_first, gap, IsPieceLine, ReadsPiece}
use Rattle.gift_laws.proofs.ReadBackKinds.{IsFramed, Writes-opening}
use Rattle.gift_laws.proofs.ReadBackLayout.{Known, known, known-items, flat_map-known, reads-pieces, asks-items, faultless-pieces}
use Rattle.gift_laws.proofs.ReadBackAnswers as answers
use Rattle.gift_laws.proofs.ReadBackAnswers.{plain-uncut, Answered, IsAnswered, weight_or_none, feedback_or_none, text_of_piece, characters_of_piece, piece-line, reads-built, reads-weighed, piece-passes, is_piece, equals-part, no_percent-text, needless-own, text_some, marks_some, weight-arrow}

-- ---- one answer

abbrev answered : Short → Answered
answered s = record {
  sign = 61;
  needless = int_eq (pos one) s.weight && not (begins_with 37 s.pattern);
  weight = s.weight;
  answer = marks_of_text s.pattern;
  feedback = s.feedback;
}

is_answered : (f : Format) (s : Short) → IsAnswer f s → IsAnswered f (answered s)
is_answered f s is =
    let same = text_marks-characters (chars s.pattern) in
    record {
      sign = inl refl;
      weight = is.weight;
      own = needless-own (pos one) s.weight s.pattern (marks_of_text s.pattern) (no_percent-text s.pattern is.pattern);
      uncut = plain-uncut (marks_of_text s.pattern) (text_marks-plain (chars s.pattern));
      begins = ap written.begins_ink same ∙ is.pattern.begins;
      ends = ap written.ends_ink same ∙ is.pattern.ends;
      some = marks_some s.pattern is.pattern is.some;
      feedback = is.feedback;
    }

-- what it is where it is known
module _ (f : Format) where
  abbrev KnownShort : Type 0
  KnownShort = Known (IsAnswer f)

  abbrev part_of : KnownShort → Part
  part_of t = answers.part_of f (answered t.0)

  abbrev text_written : KnownShort → List ℕ
  text_written t = text_of_piece f (answered t.0) (escaped t.0.pattern)

  abbrev characters_written : KnownShort → List ℕ
  characters_written t = characters_of_piece f (answered t.0) (written_characters t.0.pattern)

  known-answered : (t : KnownShort) → IsAnswered f (answered t.0)
  known-answered t = is_answered f t.0 t.1

short-line : (f : Format) (t : Known (IsAnswer f)) → IsPieceLine (text_written f t) (characters_written f t) (part_of f t)
short-line f t = piece-line f (answered t.0) (escaped t.0.pattern) (written_characters t.0.pattern) (known-answered f t) (Writes-text t.0.pattern t.1.pattern)

abbrev short_with : ℤ → Marks → Rich → Short
short_with w pattern feedback = record { weight = w; pattern = text_of pattern; feedback = feedback }

reads-short : (f : Format) (t : Known (IsAnswer f)) → ReadsPiece (short_of f) (part_of f t) t.0
reads-short f t =
    let reads = reads-built f short_with (answered t.0) (known-answered f t) in
    let same : short_with t.0.weight (marks_of_text t.0.pattern) t.0.feedback ≡ t.0 = ap (λ (p : List ℕ). record { weight = t.0.weight; pattern = p; feedback = t.0.feedback }) (text_of-own t.0.pattern t.1.pattern) in
    record { alone = reads.alone ∙ same; followed = reads.followed ∙ same }

-- ---- no arrow

feedback-arrow : (f : Format) (r : Rich) (none : Bool) (answer : Marks) → occurs (is_at landmark.Arrow) answer ≡ false → written.has_arrow (chars r.text) ≡ false → occurs (is_at landmark.Arrow) (answer ++ feedback_or_none f r none) ≡ false
feedback-arrow f r true answer no_arrow behind = ap (occurs (is_at landmark.Arrow)) (append-nil answer) ∙ no_arrow
feedback-arrow f r false answer no_arrow behind = arrow-around answer (Sign 35) (rich_marks f r) refl refl no_arrow (rich-arrow f r behind)

part-arrow : (f : Format) (t : Known (IsAnswer f)) → occurs (is_at landmark.Arrow) (part_of f t).1 ≡ false
part-arrow f t =
    let s = answered t.0 in
    let pattern = occurs-arrow (marks_of_text t.0.pattern) ∙ ap written.has_arrow (text_marks-characters (chars t.0.pattern)) ∙ t.1.no_arrow in
    feedback-arrow f s.feedback (is_nothing s.feedback.text) (weight_or_none s.needless s.weight ++ s.answer) (weight-arrow s.needless s.weight s.answer t.1.weight pattern) t.1.no_arrow_behind

behind-arrow : (f : Format) (marks : Marks) (ts : List (Known (IsAnswer f))) → occurs (is_at landmark.Arrow) marks ≡ false → occurs (is_at landmark.Arrow) (marks ++ parts_marks (map (part_of f) ts)) ≡ false
behind-arrow f marks [] no_arrow = ap (occurs (is_at landmark.Arrow)) (append-nil marks) ∙ no_arrow
behind-arrow f marks (t ∷ ts) no_arrow = arrow-around marks (Plain 10) (Plain 9 ∷ Sign 61 ∷ ((part_of f t).1 ++ parts_marks (map (part_of f) ts))) refl refl no_arrow (behind-arrow f (part_of f t).1 ts (part-arrow f t))

no_arrows : (f : Format) (t : Known (IsAnswer f)) (ts : List (Known (IsAnswer f))) → occurs (is_at landmark.Arrow) (from_first (part_of f t) (map (part_of f) ts)) ≡ false
no_arrows f t ts = behind-arrow f (part_of f t).1 ts (part-arrow f t)

-- ---- the question

short-sort : (f : Format) (t : Known (IsAnswer f)) (ts : List (Known (IsAnswer f))) → sort_in (from_first (part_of f t) (map (part_of f) ts)) ≡ sort.ShortAnswer
short-sort f t ts =
    let a = from_first (part_of f t) (map (part_of f) ts) in
    let tildes = ReadBackPieces.all-pass (is_at landmark.Tilde) (part_of f) (t ∷ ts) (λ u. piece-passes 126 f (answered u.0) (known-answered f u) refl refl refl) in
    let no_tilde = passes-occurs (is_at landmark.Tilde) a (ReadBackPieces.passes-from_first (is_at landmark.Tilde) (part_of f t) (map (part_of f) ts) (passes-plain 126 [] gap refl) tildes) in
    ap (λ (x : Bool). sort_by false x true (occurs (is_at landmark.Arrow) a) (before (is_at landmark.Hash) a)) no_tilde
    ∙ ap (λ (x : Bool). sort_by false false true x (before (is_at landmark.Hash) a)) (no_arrows f t ts)

pub asks-short : (name : List ℕ) (r general : Rich) (shorts : List Short) → IsFramed name r general (kind.ShortAnswer shorts) → Each (IsAnswer r.format) shorts → sound.IsSound (kind.ShortAnswer shorts)
    → IsQuestionText (question_with name r general (kind.ShortAnswer shorts))
asks-short name r general [] is each whole = absurd (omega (arith, whole.enough))
asks-short name r general (s ∷ shorts) is each whole =
    let f = r.format in
    let k = kind.ShortAnswer (s ∷ shorts) in
    let ts = known (IsAnswer f) (s ∷ shorts) each in
    let first : Known (IsAnswer f) = (s, each.0) in
    let later = known (IsAnswer f) shorts each.1 in
    let ps = map (part_of f) later in
    let a = from_first (part_of f first) ps in
    let bytes = flat_map-known (IsAnswer f) (short_piece f) (s ∷ shorts) each in
    let cut = ReadBackPieces.pieces-parts (is_at landmark.Equals) 61 (part_of f first) ps (passes-plain 61 [] gap refl) (ReadBackPieces.all-parts (is_at landmark.Equals) (part_of f) ts (λ t. equals-part f (answered t.0) (known-answered f t) refl)) in
    let value = ap (map (short_of f)) cut ∙ ReadBackPieces.map-spaced (short_of f) (part_of f) (λ (t : Known (IsAnswer f)). t.0) ts (reads-short f) ∙ known-items (IsAnswer f) (s ∷ shorts) each in
    let fine = ap (list_any is_misweighed) cut ∙ ReadBackPieces.none-spaced is_misweighed (part_of f) ts (λ t. reads-weighed f (answered t.0) (known-answered f t)) in
    asks-items name r general k (codes "{") [] (text_written f) (characters_written f) (part_of f) ts a sort.ShortAnswer is
    (ap (λ (b : List ℕ). canonical.in_lines (codes "{") b f general) bytes)
    Writes-opening
    (short-line f)
    (reads-pieces (characters_written f) (part_of f) first later (is_nothing general.text) (λ t. is_piece f (answered t.0) (known-answered f t)))
    (short-sort f first later)
    (ap kind.ShortAnswer value)
    (faultless-pieces name r general k sort.ShortAnswer a is.short whole refl refl fine (no_arrows f first later) refl refl)
