-- Pieces with a weight, an answer and a feedback, read back.
use Rattle.std.proofs.Common.{◌≡◌, ◌≢◌, ℕ, Bool, true, false, cond, not, ◌&&◌, ◌==◌, List, [], ◌∷◌, ◌++◌, map, drop, length, encode_utf8_all, Option, unwrap_or, refl, sym, ap, ◌∙◌, append_assoc, append-nil, codes, arith, lit<, ℤ, pos, ◌⊎◌, inl, inr}
use Rattle.std.specs.Char.{encode_utf8}
use Rattle.std.specs.List.{list_all}
use Rattle.std.specs.Option.{is_none}
use Rattle.std.specs.Ordering.{int_eq}
use Rattle.std.specs.Str.{chars}
use Rattle.std.proofs.lemmas.Bool.{and_parts, not-true, eqb-true, ne_eqb}
use Rattle.std.proofs.lemmas.Bool.Decides.{Decides-int_eq}
use Rattle.std.proofs.lemmas.List.{map-append}
use Rattle.std.proofs.lemmas.List.Folds.{list_all-append}
use Rattle.std.proofs.lemmas.Str.{encodes-chars, encode_ascii}
use Rattle.gift_lex.specs.declared.block.Piece.{Piece}
use Rattle.gift_lex.specs.declared.block.Piece.TheVariants.{Escaped, Sign, Plain}
use Rattle.gift_lex.specs.Blocks as lex
use Rattle.qz_grading.specs.declared.question.Format.{Format}
use Rattle.qz_grading.specs.declared.question.Format.TheVariants as format
use Rattle.qz_grading.specs.declared.question.Rich.{Rich}
use Rattle.qz_grading.specs.Canonical.{begins_with, format_mark, is_nothing, rich_behind, short_number, weight_text}
use Rattle.qz_grading.specs.Questions.{is_weight}
use Rattle.gift_read.specs.declared.places.Landmark.TheVariants as landmark
use Rattle.gift_read.specs.Places.{Marks, character, is_at, are_blank, is_this_sign, signs_at, occurs, trimmed}
use Rattle.gift_read.specs.Texts.{rich_of}
use Rattle.gift_read.specs.Parts.{Part, answer_marks, feedback_marks}
use Rattle.gift_read.specs.Values.{is_weighed, weight_told, unweighed, own_weight, weight_of}
use Rattle.gift_read.specs.Faults.{is_misweighed}
use Rattle.gift_laws.specs.Written as written
use Rattle.gift_laws.specs.Written.{IsText, IsRich}
use Rattle.gift_laws.proofs.ReadBackPlaces.{Passes, passes-nil, passes-cons, passes-plain, passes-append, passes-before, passes-from, found-before, found-from, is_plain, are_plain, plain-sign, begins_ink, ends_ink, trimmed-around}
use Rattle.gift_laws.proofs.ReadBackArrows.{arrow-around, arrow-without}
use Rattle.gift_laws.proofs.ReadBackMarks.{text_marks, text_mark-character, text_marks-characters}
use Rattle.gift_laws.proofs.ReadBackRich.{marks_of_text, is_marked, rich_characters, rich_marks, rich_marks-plain, rich_marks-ink, rich_marks-some, rich_of-nothing, rich_of-around}
use Rattle.gift_laws.proofs.ReadBackPlain.{no_text}
use Rattle.gift_laws.proofs.ReadBackTruth.{ends-two}
use Rattle.gift_laws.proofs.ReadBackWriting.{Writes, Writes-nil, Writes-append, Writes-ascii, Writes-behind}
use Rattle.gift_laws.proofs.ReadBackPieces
use Rattle.gift_laws.proofs.ReadBackPieces.{gap, IsPart, IsPieceLine, ReadsPiece}
use Rattle.gift_laws.proofs.ReadBackKinds.{Writes-hash}
use Rattle.gift_laws.proofs.ReadBackLayout.{IsPiece}
use Rattle.gift_laws.proofs.ReadBackWeighed.{weight_marks_of, Writes-weight, weighed-is, weighed-told, weighed-rest, weight-split, weight-greater}

-- ---- marks of an answer: no sign but a colon is among them

abbrev pub is_uncut : Piece → Bool
is_uncut (Sign c) = c == 58
is_uncut (Escaped c) = true
is_uncut (Plain c) = true

abbrev pub are_uncut : Marks → Bool
are_uncut marks = list_all is_uncut marks

uncut-sign : (s : ℕ) (m : Piece) → (58 == s) ≡ false → is_uncut m ≡ true → is_this_sign s m ≡ false
uncut-sign s (Sign c) other uncut = rw (eqb-true c 58 uncut) other
uncut-sign s (Escaped c) other uncut = refl
uncut-sign s (Plain c) other uncut = refl

passes-uncut : (s : ℕ) (ss : List ℕ) (xs : Marks) → (58 == s) ≡ false → are_uncut xs ≡ true → Passes (signs_at (s ∷ ss)) xs
passes-uncut s ss [] other uncut = passes-nil (signs_at (s ∷ ss))
passes-uncut s ss (m ∷ xs) other uncut =
    let parts = and_parts (is_uncut m) (are_uncut xs) uncut in
    passes-cons (signs_at (s ∷ ss)) m xs (λ ys. rw (uncut-sign s m other parts.0) refl) (passes-uncut s ss xs other parts.1)

pub plain-uncut : (xs : Marks) → are_plain xs ≡ true → are_uncut xs ≡ true
plain-uncut [] plain = refl
plain-uncut (Sign c ∷ xs) plain = cc
plain-uncut (Escaped c ∷ xs) plain = plain-uncut xs plain
plain-uncut (Plain c ∷ xs) plain = plain-uncut xs plain

-- ---- the weight, where it is written

abbrev pub weight_or_none : Bool → ℤ → Marks
weight_or_none needless w = cond needless [] (weight_marks_of w)

-- what is read of a weight and the answer behind it
record ReadsWeight (sign : ℕ) (w : ℤ) (rest answer : Marks) : Type 0 where
  pub weight : weight_of sign answer ≡ w
  pub left : unweighed answer ≡ rest
  pub fine : (is_weighed answer && is_none (weight_told answer)) ≡ false

-- the sign's own weight isn't written, unless the answer begins with a percent sign
reads-weight : (sign : ℕ) (w : ℤ) (rest : Marks) (needless : Bool) → is_weight w ≡ true → (needless ≡ true → (own_weight sign ≡ w) × (is_at landmark.Percent rest ≡ false)) → ReadsWeight sign w rest (weight_or_none needless w ++ rest)
reads-weight sign w rest true is own =
    let parts = own refl in
    record { weight = rw parts.1 parts.0; left = rw parts.1 refl; fine = rw parts.1 refl }
reads-weight sign w rest false is own =
    let weighed = weighed-is w rest is in
    let told = weighed-told w rest is in
    let answer = weight_marks_of w ++ rest in
    record {
      weight = ap (λ (b : Bool). cond b (unwrap_or (weight_told answer) (pos 0)) (own_weight sign)) weighed ∙ ap (λ (t : Option ℤ). unwrap_or t (pos 0)) told;
      left = weighed-rest w rest is;
      fine = ap (λ (b : Bool). b && is_none (weight_told answer)) weighed ∙ ap (λ (t : Option ℤ). is_none t) told;
    }

Writes-weight_or_none : (needless : Bool) (w : ℤ) → is_weight w ≡ true → Writes (cond needless [] (weight_text w)) (cond needless [] (weight_text w)) (weight_or_none needless w)
Writes-weight_or_none true w is = Writes-nil
Writes-weight_or_none false w is = Writes-weight w is

uncut-map : (cs : List ℕ) → are_uncut (map Plain cs) ≡ true
uncut-map [] = refl
uncut-map (c ∷ cs) = uncut-map cs

weight-uncut : (needless : Bool) (w : ℤ) → are_uncut (weight_or_none needless w) ≡ true
weight-uncut true w = refl
weight-uncut false w = uncut-map (weight_text w)

-- ---- the feedback behind a hash, where it isn't empty

abbrev pub feedback_or_none : Format → Rich → Bool → Marks
feedback_or_none f feedback none = cond none [] (Sign 35 ∷ rich_marks f feedback)

-- an answer and its feedback, and white space
record ReadsAnswer (f : Format) (answer : Marks) (feedback : Rich) (piece : Marks) : Type 0 where
  pub answer_is : answer_marks piece ≡ answer
  pub feedback_is : rich_of f (feedback_marks piece) ≡ feedback

reads-answer : (f : Format) (answer : Marks) (feedback : Rich) (space : Marks) (none : Bool) → are_uncut answer ≡ true → begins_ink answer ≡ true → ends_ink answer ≡ true → IsRich f feedback
    → are_blank space ≡ true → are_plain space ≡ true → is_nothing feedback.text ≡ none → ReadsAnswer f answer feedback ((answer ++ feedback_or_none f feedback none) ++ space)
reads-answer f answer feedback space true uncut begins ends is blank space_plain e =
    let here = is_at landmark.Hash in
    let whole : (answer ++ []) ++ space ≡ answer ++ space = ap (λ (t : Marks). t ++ space) (append-nil answer) in
    let passes = passes-append here answer space (passes-uncut 35 [] answer refl uncut) (passes-plain 35 [] space space_plain) in
    record {
      answer_is = ap answer_marks whole ∙ ap trimmed (passes-before here (answer ++ space) passes) ∙ trimmed-around [] answer space refl begins ends blank;
      feedback_is = ap (λ (t : Marks). rich_of f (feedback_marks t)) whole ∙ ap (λ (t : Marks). rich_of f (drop 1 t)) (passes-from here (answer ++ space) passes) ∙ rich_of-nothing f feedback is (no_text feedback e);
    }
reads-answer f answer feedback space false uncut begins ends is blank space_plain e =
    let here = is_at landmark.Hash in
    let fm = rich_marks f feedback in
    let whole = append_assoc answer (Sign 35 ∷ fm) space in
    let passes = passes-uncut 35 [] answer refl uncut in
    record {
      answer_is = ap answer_marks whole ∙ ap trimmed (found-before here answer (Sign 35) (fm ++ space) passes refl)
          ∙ ap trimmed (sym (append-nil answer)) ∙ trimmed-around [] answer [] refl begins ends refl;
      feedback_is = ap (λ (t : Marks). rich_of f (feedback_marks t)) whole ∙ ap (λ (t : Marks). rich_of f (drop 1 t)) (found-from here answer (Sign 35) (fm ++ space) passes refl)
          ∙ rich_of-around f feedback [] space is refl blank;
    }

-- ---- a piece

-- the sign of a piece
abbrev pub IsSign : ℕ → Type 0
IsSign s = (s ≡ 61) ⊎ (s ≡ 126)

-- its sign, whether its weight isn't written, its weight, the marks of its answer, and its feedback
pub record Answered : Type 0 where
  pub sign : ℕ
  pub needless : Bool
  pub weight : ℤ
  pub answer : Marks
  pub feedback : Rich

pub record IsAnswered (f : Format) (t : Answered) : Type 0 where
  pub sign : IsSign t.sign
  pub weight : is_weight t.weight ≡ true
  pub own : t.needless ≡ true → (own_weight t.sign ≡ t.weight) × (is_at landmark.Percent t.answer ≡ false)
  pub uncut : are_uncut t.answer ≡ true
  pub begins : begins_ink t.answer ≡ true
  pub ends : ends_ink t.answer ≡ true
  pub some : t.answer ≢ []
  pub feedback : IsRich f t.feedback

abbrev answer_of : Answered → Marks
answer_of t = weight_or_none t.needless t.weight ++ t.answer

abbrev pub part_of : Format → Answered → Part
part_of f t = (t.sign, answer_of t ++ feedback_or_none f t.feedback (is_nothing t.feedback.text))

-- ---- how it is written

-- with this text of its answer
abbrev pub text_of_piece : Format → Answered → List ℕ → List ℕ
text_of_piece f t answer = (t.sign ∷ []) ++ cond t.needless [] (weight_text t.weight) ++ answer ++ rich_behind (codes "#") f t.feedback

abbrev behind_sign : Format → Answered → List ℕ → List ℕ
behind_sign f t answer = cond t.needless [] (weight_text t.weight) ++ answer ++ cond (is_nothing t.feedback.text) [] (codes "#" ++ rich_characters f t.feedback)

abbrev pub characters_of_piece : Format → Answered → List ℕ → List ℕ
characters_of_piece f t answer = (t.sign ∷ []) ++ cond t.needless [] (weight_text t.weight) ++ answer ++ cond (is_nothing t.feedback.text) [] (codes "#" ++ rich_characters f t.feedback)

sign-text : (s : ℕ) → IsSign s → Writes (s ∷ []) (s ∷ []) (Sign s ∷ [])
unfolding encode_utf8
sign-text s (inl is) = rw is (Writes-ascii (61 ∷ []) refl refl refl refl refl)
sign-text s (inr is) = rw is (Writes-ascii (126 ∷ []) refl refl refl refl refl)

not_blank : (s : ℕ) (cs : List ℕ) → IsSign s → lex.is_blank_line (s ∷ cs) ≡ false
not_blank s cs (inl is) = rw is refl
not_blank s cs (inr is) = rw is refl

no_comment : (s : ℕ) (cs : List ℕ) → IsSign s → lex.is_comment (s ∷ cs) ≡ false
no_comment s cs (inl is) = rw is refl
no_comment s cs (inr is) = rw is refl

pub piece-line : (f : Format) (t : Answered) (text cs : List ℕ) → IsAnswered f t → Writes text cs t.answer → IsPieceLine (text_of_piece f t text) (characters_of_piece f t cs) (part_of f t)
piece-line f t text cs is writes = record {
  writes = Writes-append _ _ _ _ _ _
      (Writes-append _ _ _ _ _ _ (Writes-append _ _ _ _ _ _ (sign-text t.sign is.sign) (Writes-weight_or_none t.needless t.weight is.weight)) writes)
      (Writes-behind (codes "#") (Sign 35 ∷ []) f t.feedback Writes-hash is.feedback.text (is_nothing t.feedback.text) refl);
  inked = not_blank t.sign (behind_sign f t cs) is.sign;
  no_comment = no_comment t.sign (behind_sign f t cs) is.sign;
}

-- ---- what is read of it

answer-uncut : (f : Format) (t : Answered) → IsAnswered f t → are_uncut (answer_of t) ≡ true
answer-uncut f t is = list_all-append is_uncut (weight_or_none t.needless t.weight) t.answer ∙ rw (weight-uncut t.needless t.weight, is.uncut) refl

characters_some : (marks : Marks) → marks ≢ [] → map character marks ≢ []
characters_some [] some none = some refl
characters_some (m ∷ marks) some none = cc

answer-ends : (f : Format) (t : Answered) → IsAnswered f t → ends_ink (answer_of t) ≡ true
answer-ends f t is =
    ap written.ends_ink (map-append character (weight_or_none t.needless t.weight) t.answer)
    ∙ ReadBackPieces.ends-behind (map character (weight_or_none t.needless t.weight)) (map character t.answer) (characters_some t.answer is.some)
    ∙ is.ends

answer-begins : (f : Format) (t : Answered) → IsAnswered f t → begins_ink (answer_of t) ≡ true
answer-begins f t is = go t.needless
  where
    go : (b : Bool) → begins_ink (weight_or_none b t.weight ++ t.answer) ≡ true
    go true = is.begins
    go false = refl

record ReadsAnswered (f : Format) (t : Answered) (piece : Marks) : Type 0 where
  weight : weight_of t.sign (answer_marks piece) ≡ t.weight
  left : unweighed (answer_marks piece) ≡ t.answer
  feedback : rich_of f (feedback_marks piece) ≡ t.feedback
  fine : is_misweighed (t.sign, piece) ≡ false

piece-read : (f : Format) (t : Answered) (space : Marks) → IsAnswered f t → are_blank space ≡ true → are_plain space ≡ true → ReadsAnswered f t ((part_of f t).1 ++ space)
piece-read f t space is blank space_plain =
    let reads = reads-answer f (answer_of t) t.feedback space (is_nothing t.feedback.text) (answer-uncut f t is) (answer-begins f t is) (answer-ends f t is) is.feedback blank space_plain refl in
    let weight = reads-weight t.sign t.weight t.answer t.needless is.weight is.own in
    record {
      weight = ap (weight_of t.sign) reads.answer_is ∙ weight.weight;
      left = ap unweighed reads.answer_is ∙ weight.left;
      feedback = reads.feedback_is;
      fine = ap (λ (m : Marks). is_weighed m && is_none (weight_told m)) reads.answer_is ∙ weight.fine;
    }

-- what is made of the weight, the answer and the feedback of a piece
abbrev pub built : {V : Type 0} → Format → (ℤ → Marks → Rich → V) → Part → V
built f build p = build (weight_of p.0 (answer_marks p.1)) (unweighed (answer_marks p.1)) (rich_of f (feedback_marks p.1))

built-same : {V : Type 0} (f : Format) (build : ℤ → Marks → Rich → V) (t : Answered) (piece : Marks) → ReadsAnswered f t piece → built f build (t.sign, piece) ≡ build t.weight t.answer t.feedback
built-same f build t piece reads =
    ap (λ (w : ℤ). build w (unweighed (answer_marks piece)) (rich_of f (feedback_marks piece))) reads.weight
    ∙ ap (λ (m : Marks). build t.weight m (rich_of f (feedback_marks piece))) reads.left
    ∙ ap (build t.weight t.answer) reads.feedback

pub reads-built : {V : Type 0} (f : Format) (build : ℤ → Marks → Rich → V) (t : Answered) → IsAnswered f t → ReadsPiece (built f build) (part_of f t) (build t.weight t.answer t.feedback)
reads-built f build t is = record {
  alone = ap (λ (m : Marks). built f build (t.sign, m)) (sym (append-nil (part_of f t).1)) ∙ built-same f build t ((part_of f t).1 ++ []) (piece-read f t [] is refl refl);
  followed = built-same f build t ((part_of f t).1 ++ gap) (piece-read f t gap is refl refl);
}

pub reads-weighed : (f : Format) (t : Answered) → IsAnswered f t → ReadsPiece is_misweighed (part_of f t) false
reads-weighed f t is = record {
  alone = ap (λ (m : Marks). is_misweighed (t.sign, m)) (sym (append-nil (part_of f t).1)) ∙ (piece-read f t [] is refl refl).fine;
  followed = (piece-read f t gap is refl refl).fine;
}

-- ---- what is found in it

-- a feedback behind its hash
feedback-passes : (s : ℕ) (f : Format) (r : Rich) (none : Bool) → (35 == s) ≡ false → Passes (signs_at (s ∷ [])) (feedback_or_none f r none)
feedback-passes s f r true other = passes-nil (signs_at (s ∷ []))
feedback-passes s f r false other = passes-cons (signs_at (s ∷ [])) (Sign 35) (rich_marks f r) (λ ys. rw other refl) (passes-plain s [] (rich_marks f r) (rich_marks-plain f r))

hash-some : (marks : Marks) → marks ≢ [] → are_plain marks ≡ true → Passes (is_at landmark.Hashes) (Sign 35 ∷ marks)
hash-some [] some plain = absurd (some refl)
hash-some (m ∷ marks) some plain =
    let parts = and_parts (is_plain m) (are_plain marks) plain in
    passes-cons (is_at landmark.Hashes) (Sign 35) (m ∷ marks) (λ ys. rw (plain-sign 35 m parts.0) refl) (passes-plain 35 (35 ∷ 35 ∷ 35 ∷ []) (m ∷ marks) plain)

feedback-hashes : (f : Format) (r : Rich) → IsText r.text → (none : Bool) → is_nothing r.text ≡ none → Passes (is_at landmark.Hashes) (feedback_or_none f r none)
feedback-hashes f r is true e = passes-nil (is_at landmark.Hashes)
feedback-hashes f r is false e = hash-some (rich_marks f r) (rich_marks-some f r is e) (rich_marks-plain f r)

-- no sign is found behind that of the piece, but colons and a hash
behind-passes : (s : ℕ) (f : Format) (t : Answered) → IsAnswered f t → (58 == s) ≡ false → (35 == s) ≡ false → Passes (signs_at (s ∷ [])) (part_of f t).1
behind-passes s f t is colon hash =
    passes-append (signs_at (s ∷ [])) (answer_of t) (feedback_or_none f t.feedback (is_nothing t.feedback.text)) (passes-uncut s [] (answer_of t) colon (answer-uncut f t is)) (feedback-passes s f t.feedback (is_nothing t.feedback.text) hash)

pub piece-passes : (s : ℕ) (f : Format) (t : Answered) → IsAnswered f t → (58 == s) ≡ false → (35 == s) ≡ false → (t.sign == s) ≡ false → Passes (signs_at (s ∷ [])) (Sign t.sign ∷ (part_of f t).1)
piece-passes s f t is colon hash sign = passes-cons (signs_at (s ∷ [])) (Sign t.sign) (part_of f t).1 (λ ys. rw sign refl) (behind-passes s f t is colon hash)

pub sign-other : (s d : ℕ) → IsSign s → (61 == d) ≡ false → (126 == d) ≡ false → (s == d) ≡ false
sign-other s d (inl is) e g = rw is e
sign-other s d (inr is) e g = rw is g

piece-hashes : (f : Format) (t : Answered) → IsAnswered f t → Passes (is_at landmark.Hashes) (Sign t.sign ∷ (part_of f t).1)
piece-hashes f t is =
    passes-cons (is_at landmark.Hashes) (Sign t.sign) (part_of f t).1 (λ ys. rw (sign-other t.sign 35 is.sign refl refl) refl)
    (passes-append (is_at landmark.Hashes) (answer_of t) (feedback_or_none f t.feedback (is_nothing t.feedback.text)) (passes-uncut 35 (35 ∷ 35 ∷ 35 ∷ []) (answer_of t) refl (answer-uncut f t is)) (feedback-hashes f t.feedback is.feedback.text (is_nothing t.feedback.text) refl))

sign-ink : (s : ℕ) → IsSign s → (begins_ink (Sign s ∷ []) ≡ true) × (ends_ink (Sign s ∷ []) ≡ true)
sign-ink s (inl is) = rw is (refl, refl)
sign-ink s (inr is) = rw is (refl, refl)

piece-ends : (f : Format) (t : Answered) → IsAnswered f t → ends_ink (Sign t.sign ∷ (part_of f t).1) ≡ true
piece-ends f t is = go (is_nothing t.feedback.text)
  where
    go : (b : Bool) → ends_ink (Sign t.sign ∷ (answer_of t ++ feedback_or_none f t.feedback b)) ≡ true
    go true = ends-two (Sign t.sign ∷ []) (answer_of t ++ []) (sign-ink t.sign is.sign).1 (ap ends_ink (append-nil (answer_of t)) ∙ answer-ends f t is)
    go false =
        ends-two (Sign t.sign ∷ []) (answer_of t ++ Sign 35 ∷ rich_marks f t.feedback) (sign-ink t.sign is.sign).1
        (ends-two (answer_of t) (Sign 35 ∷ rich_marks f t.feedback) (answer-ends f t is) (ends-two (Sign 35 ∷ []) (rich_marks f t.feedback) refl (rich_marks-ink f t.feedback is.feedback.text).1))

pub is_piece : (f : Format) (t : Answered) → IsAnswered f t → IsPiece (part_of f t)
is_piece f t is = record {
  begins = (sign-ink t.sign is.sign).0;
  ends = piece-ends f t is;
  closed = piece-passes 125 f t is refl refl (sign-other t.sign 125 is.sign refl refl);
  no_hashes = piece-hashes f t is;
}

-- a piece with the equals sign begins at it
pub equals-part : (f : Format) (t : Answered) → IsAnswered f t → t.sign ≡ 61 → IsPart (is_at landmark.Equals) (part_of f t)
equals-part f t is sign = record { passes = behind-passes 61 f t is refl refl; begins = λ ys. rw sign refl }

-- and one of choices at either
both-pass : (xs : Marks) → are_uncut xs ≡ true → Passes (is_at landmark.Choice) xs
both-pass [] uncut = passes-nil (is_at landmark.Choice)
both-pass (m ∷ xs) uncut =
    let parts = and_parts (is_uncut m) (are_uncut xs) uncut in
    passes-cons (is_at landmark.Choice) m xs (λ ys. rw (uncut-sign 126 m refl parts.0, uncut-sign 61 m refl parts.0) refl) (both-pass xs parts.1)

feedback-choice : (f : Format) (r : Rich) (none : Bool) → Passes (is_at landmark.Choice) (feedback_or_none f r none)
feedback-choice f r true = passes-nil (is_at landmark.Choice)
feedback-choice f r false = passes-cons (is_at landmark.Choice) (Sign 35) (rich_marks f r) (λ ys. refl) (both-pass (rich_marks f r) (plain-uncut (rich_marks f r) (rich_marks-plain f r)))

pub choice-part : (f : Format) (t : Answered) → IsAnswered f t → IsPart (is_at landmark.Choice) (part_of f t)
choice-part f t is = record {
  passes = passes-append (is_at landmark.Choice) (answer_of t) (feedback_or_none f t.feedback (is_nothing t.feedback.text)) (both-pass (answer_of t) (answer-uncut f t is)) (feedback-choice f t.feedback (is_nothing t.feedback.text));
  begins = λ ys. elim is.sign [ inl e ↦ rw e refl | inr e ↦ rw e refl ];
}

pub choice-gap : Passes (is_at landmark.Choice) gap
choice-gap = both-pass gap refl

-- ---- texts that aren't empty, and that don't begin with a percent sign

percent-first : (f : Format) (cs : List ℕ) → is_at landmark.Percent (map lex.single (format_mark f) ++ text_marks cs) ≡ false
percent-first format.Moodle cs = refl
percent-first format.Html cs = refl
percent-first format.Plain cs = refl
percent-first format.Markdown cs = refl

percent-text : (cs : List ℕ) → begins_with 37 (encode_utf8_all cs) ≡ false → is_at landmark.Percent (text_marks cs) ≡ false
percent-text [] none = refl
percent-text (c ∷ cs) none = go (c == 37) refl
  where
    go : (b : Bool) → (c == 37) ≡ b → is_at landmark.Percent (text_marks (c ∷ cs)) ≡ false
    go true e =
        let some : begins_with 37 (encode_utf8_all (c ∷ cs)) ≡ true = rw (eqb-true c 37 e, encode_ascii 37 (lit< tt)) refl in
        cc
    go false e = rw (text_mark-character c, e) refl

pub no_percent-text : (text : List ℕ) → IsText text → begins_with 37 text ≡ false → is_at landmark.Percent (marks_of_text text) ≡ false
no_percent-text text is none = percent-text (chars text) (ap (begins_with 37) (encodes-chars text is.utf8) ∙ none)

pub no_percent : (f : Format) (r : Rich) → IsText r.text → begins_with 37 r.text ≡ false → is_at landmark.Percent (rich_marks f r) ≡ false
no_percent f r is none = go (is_marked f r)
  where
    go : (b : Bool) → is_at landmark.Percent (map lex.single (cond b (format_mark r.format) []) ++ marks_of_text r.text) ≡ false
    go true = percent-first r.format (chars r.text)
    go false = no_percent-text r.text is none

-- where the weight isn't written, before this text
pub needless-own : (own w : ℤ) (text : List ℕ) (marks : Marks) → (begins_with 37 text ≡ false → is_at landmark.Percent marks ≡ false) → (int_eq own w && not (begins_with 37 text)) ≡ true → (own ≡ w) × (is_at landmark.Percent marks ≡ false)
needless-own own w text marks percent e =
    let parts = and_parts (int_eq own w) (not (begins_with 37 text)) e in
    ((Decides-int_eq own w).0 parts.0, percent (not-true (begins_with 37 text) parts.1))

pub text_some : (text : List ℕ) → text ≢ [] → is_nothing text ≡ false
text_some [] some = absurd (some refl)
text_some (c ∷ text) some = ne_eqb (length (c ∷ text)) 0 (λ e. omega (arith, e))

pub marks_some : (text : List ℕ) → IsText text → text ≢ [] → marks_of_text text ≢ []
marks_some text is some none =
    let empty : chars text ≡ [] = sym (text_marks-characters (chars text)) ∙ ap (map character) none in
    some (sym (encodes-chars text is.utf8) ∙ ap encode_utf8_all empty)

-- no arrow is among a weight and an answer without one
pub weight-arrow : (needless : Bool) (w : ℤ) (answer : Marks) → is_weight w ≡ true → occurs (is_at landmark.Arrow) answer ≡ false → occurs (is_at landmark.Arrow) (weight_or_none needless w ++ answer) ≡ false
weight-arrow true w answer is none = none
weight-arrow false w answer is none =
    ap (occurs (is_at landmark.Arrow)) (weight-split w answer)
    ∙ arrow-around (map Plain (short_number 5 w)) (Plain 37) answer refl refl (arrow-without (short_number 5 w) (weight-greater w is)) none
