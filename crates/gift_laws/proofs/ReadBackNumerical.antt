-- Numerical questions, read back.
use Rattle.std.proofs.Common.{◌≡◌, ℕ, Bool, true, false, not, ◌&&◌, List, [], ◌∷◌, ◌++◌, map, unwrap_or, refl, ap, ◌∙◌, append-nil, codes, arith, inl, ℤ, pos}
use Rattle.std.specs.Char.{encode_utf8}
use Rattle.std.specs.List.{list_any}
use Rattle.std.specs.Option.{is_none}
use Rattle.std.specs.Ordering.{int_eq}
use Rattle.std.proofs.lemmas.Bool.{or_parts}
use Rattle.gift_lex.specs.declared.block.Piece.TheVariants.{Sign}
use Rattle.qz_decimal.specs.Numbers.{one}
use Rattle.qz_grading.specs.declared.question.Extent.{Extent}
use Rattle.qz_grading.specs.declared.question.Extent.TheVariants as extent
use Rattle.qz_grading.specs.declared.question.Format.{Format}
use Rattle.qz_grading.specs.declared.question.Kind.TheVariants as kind
use Rattle.qz_grading.specs.declared.question.Num.{Num}
use Rattle.qz_grading.specs.declared.question.Rich.{Rich}
use Rattle.qz_grading.specs.Canonical as canonical
use Rattle.qz_grading.specs.Canonical.{begins_with, is_nothing, extent_text, num_piece}
use Rattle.qz_grading.specs.Questions as sound
use Rattle.gift_read.specs.declared.places.Landmark.TheVariants as landmark
use Rattle.gift_read.specs.declared.parts.Sort.TheVariants as sort
use Rattle.gift_read.specs.Places.{Marks, is_this_sign, is_at, are_blank, occurs}
use Rattle.gift_read.specs.Parts as parts
use Rattle.gift_read.specs.Parts.{Part, pieces_of}
use Rattle.gift_read.specs.Values.{question_with, extent_of, num_of, other_of}
use Rattle.gift_read.specs.Faults.{has_blank_number, has_no_number, is_misweighed}
use Rattle.gift_laws.specs.Written.{IsNumber, Each}
use Rattle.gift_laws.proofs.ReadBackPlaces.{Passes, passes-nil, passes-cons, passes-plain, passes-occurs, passes-before, passes-from}
use Rattle.gift_laws.proofs.ReadBackBank.{IsQuestionText}
use Rattle.gift_laws.proofs.ReadBackWriting.{Writes, Writes-ascii}
use Rattle.gift_laws.proofs.ReadBackPieces
use Rattle.gift_laws.proofs.ReadBackPieces.{parts_marks, spaced, gap, IsPieceLine, ReadsPiece}
use Rattle.gift_laws.proofs.ReadBackKinds.{IsFramed}
use Rattle.gift_laws.proofs.ReadBackLayout.{Known, known, known-items, flat_map-known, reads-hash_pieces, asks-items, faultless-pieces}
use Rattle.gift_laws.proofs.ReadBackAnswers as answers
use Rattle.gift_laws.proofs.ReadBackAnswers.{Answered, IsAnswered, text_of_piece, characters_of_piece, piece-line, reads-built, reads-weighed, piece-passes, is_piece, equals-part, needless-own}
use Rattle.gift_laws.proofs.ReadBackExtents.{extent_marks, extent-marks, Writes-extent, extent-read}

-- ---- one answer

abbrev answered : Num → Answered
answered n = record {
  sign = 61;
  needless = int_eq (pos one) n.weight && not (begins_with 37 []);
  weight = n.weight;
  answer = extent_marks n.extent;
  feedback = n.feedback;
}

is_answered : (f : Format) (n : Num) → IsNumber f n → IsAnswered f (answered n)
is_answered f n is =
    let marks = extent-marks n.extent is.extent in
    record {
      sign = inl refl;
      weight = is.weight;
      own = needless-own (pos one) n.weight [] (extent_marks n.extent) (λ none. marks.no_percent);
      uncut = marks.uncut;
      begins = marks.begins;
      ends = marks.ends;
      some = marks.some;
      feedback = is.feedback;
    }

module _ (f : Format) where
  abbrev KnownNum : Type 0
  KnownNum = Known (IsNumber f)

  abbrev part_of : KnownNum → Part
  part_of t = answers.part_of f (answered t.0)

  abbrev text_written : KnownNum → List ℕ
  text_written t = text_of_piece f (answered t.0) (extent_text t.0.extent)

  abbrev characters_written : KnownNum → List ℕ
  characters_written t = characters_of_piece f (answered t.0) (extent_text t.0.extent)

  known-answered : (t : KnownNum) → IsAnswered f (answered t.0)
  known-answered t = is_answered f t.0 t.1

num-line : (f : Format) (t : Known (IsNumber f)) → IsPieceLine (text_written f t) (characters_written f t) (part_of f t)
num-line f t = piece-line f (answered t.0) (extent_text t.0.extent) (extent_text t.0.extent) (known-answered f t) (Writes-extent t.0.extent t.1.extent)

abbrev num_with : ℤ → Marks → Rich → Num
num_with w marks feedback = record { weight = w; extent = unwrap_or (extent_of marks) extent.Any; feedback = feedback }

reads-num : (f : Format) (t : Known (IsNumber f)) → ReadsPiece (num_of f) (part_of f t) t.0
reads-num f t =
    let reads = reads-built f num_with (answered t.0) (known-answered f t) in
    let told = ap (λ o. unwrap_or o extent.Any) (extent-read t.0.extent t.1.extent) in
    let same : num_with t.0.weight (extent_marks t.0.extent) t.0.feedback ≡ t.0 = ap (λ (e : Extent). record { weight = t.0.weight; extent = e; feedback = t.0.feedback }) told in
    record { alone = reads.alone ∙ same; followed = reads.followed ∙ same }

reads-inked : (f : Format) (t : Known (IsNumber f)) → ReadsPiece has_blank_number (part_of f t) false
reads-inked f t =
    let reads = reads-built f (λ w marks feedback. are_blank marks) (answered t.0) (known-answered f t) in
    let ink = (extent-marks t.0.extent t.1.extent).inked in
    record { alone = reads.alone ∙ ink; followed = reads.followed ∙ ink }

reads-told : (f : Format) (t : Known (IsNumber f)) → ReadsPiece has_no_number (part_of f t) false
reads-told f t =
    let reads = reads-built f (λ w marks feedback. is_none (extent_of marks)) (answered t.0) (known-answered f t) in
    let told = ap (λ o. is_none o) (extent-read t.0.extent t.1.extent) in
    record { alone = reads.alone ∙ told; followed = reads.followed ∙ told }

-- ---- no feedback for every other number

passes-others : (xs : Marks) → occurs (is_at landmark.Tilde) xs ≡ false → Passes (is_at landmark.Others) xs
passes-others [] none = passes-nil (is_at landmark.Others)
passes-others (m ∷ xs) none =
    let parts = or_parts (is_this_sign 126 m && true) (occurs (is_at landmark.Tilde) xs) none in
    passes-cons (is_at landmark.Others) m xs (λ ys. rw (no_sign (is_this_sign 126 m) parts.0) refl) (passes-others xs parts.1)
  where
    no_sign : (b : Bool) → (b && true) ≡ false → b ≡ false
    no_sign true e = e
    no_sign false e = refl

no_tilde : (f : Format) (ts : List (Known (IsNumber f))) → occurs (is_at landmark.Tilde) (parts_marks (map (part_of f) ts)) ≡ false
no_tilde f ts =
    let each = ReadBackPieces.all-pass (is_at landmark.Tilde) (part_of f) ts (λ t. piece-passes 126 f (answered t.0) (known-answered f t) refl refl refl) in
    passes-occurs (is_at landmark.Tilde) (parts_marks (map (part_of f) ts)) (ReadBackPieces.passes-parts (is_at landmark.Tilde) (map (part_of f) ts) (passes-plain 126 [] gap refl) each)

-- ---- the question

Writes-opening : Writes (codes "{#") (codes "{#") (Sign 123 ∷ Sign 35 ∷ [])
unfolding encode_utf8
Writes-opening = Writes-ascii (codes "{#") refl refl refl refl refl

-- white space stands before the first piece
num-pieces : (f : Format) (t : Known (IsNumber f)) (ts : List (Known (IsNumber f))) → pieces_of sort.Numerical (Sign 35 ∷ parts_marks (map (part_of f) (t ∷ ts))) ≡ spaced (map (part_of f) (t ∷ ts))
num-pieces f t ts =
    let rest = parts_marks (map (part_of f) (t ∷ ts)) in
    ap (λ (m : Marks). parts.pieces (is_at landmark.Equals) 61 m) (passes-before (is_at landmark.Others) rest (passes-others rest (no_tilde f (t ∷ ts))))
    ∙ ReadBackPieces.pieces-parts (is_at landmark.Equals) 61 (part_of f t) (map (part_of f) ts) (passes-plain 61 [] gap refl) (ReadBackPieces.all-parts (is_at landmark.Equals) (part_of f) (t ∷ ts) (λ u. equals-part f (answered u.0) (known-answered f u) refl))

pub asks-numerical : (name : List ℕ) (r general : Rich) (nums : List Num) → IsFramed name r general (kind.Numerical nums) → Each (IsNumber r.format) nums → sound.IsSound (kind.Numerical nums)
    → IsQuestionText (question_with name r general (kind.Numerical nums))
asks-numerical name r general [] is each whole = absurd (omega (arith, whole.enough))
asks-numerical name r general (n ∷ nums) is each whole =
    let f = r.format in
    let k = kind.Numerical (n ∷ nums) in
    let ts = known (IsNumber f) (n ∷ nums) each in
    let first : Known (IsNumber f) = (n, each.0) in
    let later = known (IsNumber f) nums each.1 in
    let rest = parts_marks (map (part_of f) ts) in
    let a : Marks = Sign 35 ∷ rest in
    let bytes = flat_map-known (IsNumber f) (num_piece f) (n ∷ nums) each in
    let passes = passes-others rest (no_tilde f ts) in
    let cut = num-pieces f first later in
    let value = ap (map (num_of f)) cut ∙ ReadBackPieces.map-spaced (num_of f) (part_of f) (λ (t : Known (IsNumber f)). t.0) ts (reads-num f) ∙ known-items (IsNumber f) (n ∷ nums) each in
    let fine = ap (list_any is_misweighed) cut ∙ ReadBackPieces.none-spaced is_misweighed (part_of f) ts (λ t. reads-weighed f (answered t.0) (known-answered f t)) in
    let inked = ap (list_any has_blank_number) cut ∙ ReadBackPieces.none-spaced has_blank_number (part_of f) ts (reads-inked f) in
    let told = ap (list_any has_no_number) cut ∙ ReadBackPieces.none-spaced has_no_number (part_of f) ts (reads-told f) in
    let stray = ap (occurs (is_at landmark.Tilde)) (passes-before (is_at landmark.Others) rest passes) ∙ no_tilde f ts in
    asks-items name r general k (codes "{#") (Sign 35 ∷ []) (text_written f) (characters_written f) (part_of f) ts a sort.Numerical is
    (ap (λ (b : List ℕ). canonical.in_lines (codes "{#") b f general) bytes)
    Writes-opening
    (num-line f)
    (reads-hash_pieces (characters_written f) (part_of f) first later (is_nothing general.text) (λ t. is_piece f (answered t.0) (known-answered f t)))
    refl
    (ap (λ (m : Marks). kind.Numerical (map (num_of f) (pieces_of sort.Numerical a) ++ other_of f m)) (passes-from (is_at landmark.Others) rest passes)
    ∙ ap kind.Numerical (append-nil (map (num_of f) (pieces_of sort.Numerical a)) ∙ value))
    (faultless-pieces name r general k sort.Numerical a is.short whole refl inked fine refl told stray)
