-- Questions with choices, read back.
use Rattle.std.proofs.Common.{◌≡◌, ℕ, Bool, true, false, cond, not, ◌&&◌, ◌||◌, ◌==◌, List, [], ◌∷◌, ◌++◌, map, flat_map, refl, ap, ◌∙◌, codes, arith, inl, inr, ℤ, pos}
use Rattle.std.specs.List.{list_any}
use Rattle.std.specs.Ordering.{int_eq}
use Rattle.std.proofs.lemmas.Bool.{or_parts}
use Rattle.gift_lex.specs.declared.block.Piece.TheVariants.{Sign, Plain}
use Rattle.qz_decimal.specs.Numbers.{one}
use Rattle.qz_grading.specs.declared.question.Choice.{Choice}
use Rattle.qz_grading.specs.declared.question.Format.{Format}
use Rattle.qz_grading.specs.declared.question.Kind.{Kind}
use Rattle.qz_grading.specs.declared.question.Kind.TheVariants as kind
use Rattle.qz_grading.specs.declared.question.Rich.{Rich}
use Rattle.qz_grading.specs.Canonical as canonical
use Rattle.qz_grading.specs.Canonical.{begins_with, is_nothing, rich_text, tilde_choice, equals_choice, single_choices, answer_part}
use Rattle.qz_grading.specs.Questions as sound
use Rattle.gift_read.specs.declared.places.Landmark.TheVariants as landmark
use Rattle.gift_read.specs.declared.parts.Sort.{Sort}
use Rattle.gift_read.specs.declared.parts.Sort.TheVariants as sort
use Rattle.gift_read.specs.Places.{Marks, is_at, signs_at, before, occurs}
use Rattle.gift_read.specs.Texts.{rich_of}
use Rattle.gift_read.specs.Parts as parts
use Rattle.gift_read.specs.Parts.{Part, sort_in}
use Rattle.gift_read.specs.Values.{own_weight, question_with, choice_of, kind_in}
use Rattle.gift_read.specs.Faults.{is_misweighed}
use Rattle.gift_laws.specs.Written.{IsChoice, Each}
use Rattle.gift_laws.proofs.ReadBackPlaces.{passes-plain, passes-occurs, occurs-later}
use Rattle.gift_laws.proofs.ReadBackRich.{rich_characters, rich_marks, rich_marks-plain, rich_marks-ink, rich_marks-some, rich_of-rich}
use Rattle.gift_laws.proofs.ReadBackTold.{IsFaultless}
use Rattle.gift_laws.proofs.ReadBackTruth.{sort_by}
use Rattle.gift_laws.proofs.ReadBackBank.{IsQuestionText}
use Rattle.gift_laws.proofs.ReadBackWriting.{Writes-rich}
use Rattle.gift_laws.proofs.ReadBackPieces
use Rattle.gift_laws.proofs.ReadBackPieces.{parts_marks, spaced, from_first, gap, EachPasses, IsPieceLine, ReadsPiece}
use Rattle.gift_laws.proofs.ReadBackKinds.{IsFramed, Writes-opening}
use Rattle.gift_laws.proofs.ReadBackLayout.{Known, known, flat_map-known, reads-pieces, asks-items, faultless-pieces}
use Rattle.gift_laws.proofs.ReadBackAnswers as answers
use Rattle.gift_laws.proofs.ReadBackAnswers.{IsSign, sign-other, plain-uncut, Answered, IsAnswered, text_of_piece, characters_of_piece, piece-line, reads-built, reads-weighed, piece-passes, is_piece, choice-part, choice-gap, no_percent, needless-own, text_some}

-- ---- a choice behind its sign

abbrev pub Signed : Type 0
Signed = ℕ × Choice

pub record IsSigned (f : Format) (t : Signed) : Type 0 where
  pub sign : IsSign t.0
  pub choice : IsChoice f t.1

abbrev answered : Format → Signed → Answered
answered f t = record {
  sign = t.0;
  needless = int_eq (own_weight t.0) t.1.weight && not (begins_with 37 t.1.text.text);
  weight = t.1.weight;
  answer = rich_marks f t.1.text;
  feedback = t.1.feedback;
}

is_answered : (f : Format) (t : Signed) → IsSigned f t → IsAnswered f (answered f t)
is_answered f t is =
    let text = is.choice.text.text in
    let ink = rich_marks-ink f t.1.text text in
    record {
      sign = is.sign;
      weight = is.choice.weight;
      own = needless-own (own_weight t.0) t.1.weight t.1.text.text (rich_marks f t.1.text) (no_percent f t.1.text text);
      uncut = plain-uncut (rich_marks f t.1.text) (rich_marks-plain f t.1.text);
      begins = ink.0;
      ends = ink.1;
      some = rich_marks-some f t.1.text text (text_some t.1.text.text is.choice.some);
      feedback = is.choice.feedback;
    }

abbrev part_of : Format → Signed → Part
part_of f t = answers.part_of f (answered f t)

abbrev text_of_choice : Format → Signed → List ℕ
text_of_choice f t = text_of_piece f (answered f t) (rich_text f t.1.text)

abbrev characters_of_choice : Format → Signed → List ℕ
characters_of_choice f t = characters_of_piece f (answered f t) (rich_characters f t.1.text)

choice-line : (f : Format) (t : Signed) → IsSigned f t → IsPieceLine (text_of_choice f t) (characters_of_choice f t) (part_of f t)
choice-line f t is = piece-line f (answered f t) (rich_text f t.1.text) (rich_characters f t.1.text) (is_answered f t is) (Writes-rich f t.1.text is.choice.text.text)

-- ---- what is read of it

abbrev choice_with : Format → ℤ → Marks → Rich → Choice
choice_with f w text feedback = record { weight = w; text = rich_of f text; feedback = feedback }

reads-choice : (f : Format) (t : Known (IsSigned f)) → ReadsPiece (choice_of f) (part_of f t.0) t.0.1
reads-choice f t =
    let reads = reads-built f (choice_with f) (answered f t.0) (is_answered f t.0 t.1) in
    let same : choice_with f t.0.1.weight (rich_marks f t.0.1.text) t.0.1.feedback ≡ t.0.1 = ap (λ (r : Rich). record { weight = t.0.1.weight; text = r; feedback = t.0.1.feedback }) (rich_of-rich f t.0.1.text t.1.choice.text) in
    record { alone = reads.alone ∙ same; followed = reads.followed ∙ same }

-- ---- choices with their signs

abbrev with_tilde : List Choice → List Signed
with_tilde [] = []
with_tilde (c ∷ cs) = (126, c) ∷ with_tilde cs

-- the first of full weight has an equals sign
abbrev with_signs : List Choice → List Signed
with_signs [] = []
with_signs (c ∷ cs) = cond (int_eq c.weight (pos one)) ((61, c) ∷ with_tilde cs) ((126, c) ∷ with_signs cs)

tilde-each : (f : Format) (cs : List Choice) → Each (IsChoice f) cs → Each (IsSigned f) (with_tilde cs)
tilde-each f [] each = tt
tilde-each f (c ∷ cs) each = (record { sign = inr refl; choice = each.0 }, tilde-each f cs each.1)

signs-each : (f : Format) (cs : List Choice) → Each (IsChoice f) cs → Each (IsSigned f) (with_signs cs)
signs-each f [] each = tt
signs-each f (c ∷ cs) each = go (int_eq c.weight (pos one)) (signs-each f cs each.1)
  where
    go : (b : Bool) → Each (IsSigned f) (with_signs cs) → Each (IsSigned f) (cond b ((61, c) ∷ with_tilde cs) ((126, c) ∷ with_signs cs))
    go true later = (record { sign = inl refl; choice = each.0 }, tilde-each f cs each.1)
    go false later = (record { sign = inr refl; choice = each.0 }, later)

tilde-choices : (cs : List Choice) → map (λ (t : Signed). t.1) (with_tilde cs) ≡ cs
tilde-choices [] = refl
tilde-choices (c ∷ cs) = ap (λ (t : List Choice). c ∷ t) (tilde-choices cs)

signs-choices : (cs : List Choice) → map (λ (t : Signed). t.1) (with_signs cs) ≡ cs
signs-choices [] = refl
signs-choices (c ∷ cs) = go (int_eq c.weight (pos one)) (signs-choices cs)
  where
    go : (b : Bool) → map (λ (t : Signed). t.1) (with_signs cs) ≡ cs → map (λ (t : Signed). t.1) (cond b ((61, c) ∷ with_tilde cs) ((126, c) ∷ with_signs cs)) ≡ c ∷ cs
    go true later = ap (λ (t : List Choice). c ∷ t) (tilde-choices cs)
    go false later = ap (λ (t : List Choice). c ∷ t) later

abbrev line_text : Format → Signed → List ℕ
line_text f t = canonical.line (text_of_choice f t)

tilde-text : (f : Format) (cs : List Choice) → flat_map (tilde_choice f) cs ≡ flat_map (line_text f) (with_tilde cs)
tilde-text f [] = refl
tilde-text f (c ∷ cs) = ap (λ (t : List ℕ). line_text f (126, c) ++ t) (tilde-text f cs)

signs-text : (f : Format) (cs : List Choice) → single_choices f cs ≡ flat_map (line_text f) (with_signs cs)
signs-text f [] = refl
signs-text f (c ∷ cs) = go (int_eq c.weight (pos one)) (signs-text f cs)
  where
    go : (b : Bool) → single_choices f cs ≡ flat_map (line_text f) (with_signs cs)
        → cond b (equals_choice f c ++ flat_map (tilde_choice f) cs) (tilde_choice f c ++ single_choices f cs) ≡ flat_map (line_text f) (cond b ((61, c) ∷ with_tilde cs) ((126, c) ∷ with_signs cs))
    go true later = ap (λ (t : List ℕ). line_text f (61, c) ++ t) (tilde-text f cs)
    go false later = ap (λ (t : List ℕ). line_text f (126, c) ++ t) later

-- ---- which signs stand there

abbrev has_sign : ℕ → List Signed → Bool
has_sign s ts = list_any (λ (t : Signed). t.0 == s) ts

abbrev known_part : (f : Format) → Known (IsSigned f) → Part
known_part f t = part_of f t.0

abbrev known_sign : (f : Format) → ℕ → List (Known (IsSigned f)) → Bool
known_sign f s ts = list_any (λ (t : Known (IsSigned f)). t.0.0 == s) ts

sign-found : (f : Format) (s : ℕ) (ts : List (Known (IsSigned f))) → known_sign f s ts ≡ true → occurs (signs_at (s ∷ [])) (parts_marks (map (known_part f) ts)) ≡ true
sign-found f s [] has = cc
sign-found f s (t ∷ ts) has = go (t.0.0 == s) refl has (λ later. sign-found f s ts later)
  where
    go : (b : Bool) → (t.0.0 == s) ≡ b → (b || known_sign f s ts) ≡ true → (known_sign f s ts ≡ true → occurs (signs_at (s ∷ [])) (parts_marks (map (known_part f) ts)) ≡ true)
        → occurs (signs_at (s ∷ [])) (parts_marks (map (known_part f) (t ∷ ts))) ≡ true
    go true e has found = rw e refl
    go false e has found = occurs-later (signs_at (s ∷ [])) (Plain 10 ∷ Plain 9 ∷ Sign t.0.0 ∷ (part_of f t.0).1) (parts_marks (map (known_part f) ts)) (found has)

known-sign : (f : Format) (s : ℕ) (ts : List Signed) (each : Each (IsSigned f) ts) → known_sign f s (known (IsSigned f) ts each) ≡ has_sign s ts
known-sign f s [] each = refl
known-sign f s (t ∷ ts) each = ap (λ (b : Bool). (t.0 == s) || b) (known-sign f s ts each.1)

known-values : (f : Format) (ts : List Signed) (each : Each (IsSigned f) ts) → map (λ (t : Known (IsSigned f)). t.0.1) (known (IsSigned f) ts each) ≡ map (λ (t : Signed). t.1) ts
known-values f [] each = refl
known-values f (t ∷ ts) each = ap (λ (cs : List Choice). t.1 ∷ cs) (known-values f ts each.1)

-- ---- the answer part

choices-pieces : (f : Format) (t : Known (IsSigned f)) (ts : List (Known (IsSigned f))) → parts.pieces (is_at landmark.Choice) 126 (from_first (part_of f t.0) (map (known_part f) ts)) ≡ spaced (map (known_part f) (t ∷ ts))
choices-pieces f t ts =
    ReadBackPieces.pieces-parts (is_at landmark.Choice) 126 (part_of f t.0) (map (known_part f) ts) choice-gap
    (ReadBackPieces.all-parts (is_at landmark.Choice) (known_part f) (t ∷ ts) (λ u. choice-part f (answered f u.0) (is_answered f u.0 u.1)))

-- the kind is told by the signs
choices-sort : (f : Format) (t : Known (IsSigned f)) (ts : List (Known (IsSigned f))) (equals : Bool) → known_sign f 126 (t ∷ ts) ≡ true
    → occurs (is_at landmark.Equals) (from_first (part_of f t.0) (map (known_part f) ts)) ≡ equals → sort_in (from_first (part_of f t.0) (map (known_part f) ts)) ≡ cond equals sort.One sort.Several
choices-sort f t ts equals has e =
    let a = from_first (part_of f t.0) (map (known_part f) ts) in
    let hash : is_at landmark.Hash a ≡ false = rw (sign-other t.0.0 35 t.1.sign refl refl) refl in
    let tilde : occurs (is_at landmark.Tilde) a ≡ true = sign-found f 126 (t ∷ ts) has in
    ap (λ (x : Bool). sort_by x (occurs (is_at landmark.Tilde) a) (occurs (is_at landmark.Equals) a) (occurs (is_at landmark.Arrow) a) (before (is_at landmark.Hash) a)) hash
    ∙ ap (λ (x : Bool). sort_by false x (occurs (is_at landmark.Equals) a) (occurs (is_at landmark.Arrow) a) (before (is_at landmark.Hash) a)) tilde
    ∙ ap (λ (x : Bool). cond x sort.One sort.Several) e

choices-read : (f : Format) (t : Known (IsSigned f)) (ts : List (Known (IsSigned f))) → map (choice_of f) (spaced (map (known_part f) (t ∷ ts))) ≡ map (λ (u : Known (IsSigned f)). u.0.1) (t ∷ ts)
choices-read f t ts = ReadBackPieces.map-spaced (choice_of f) (known_part f) (λ (u : Known (IsSigned f)). u.0.1) (t ∷ ts) (reads-choice f)

choices-fine : (f : Format) (t : Known (IsSigned f)) (ts : List (Known (IsSigned f))) → list_any is_misweighed (spaced (map (known_part f) (t ∷ ts))) ≡ false
choices-fine f t ts = ReadBackPieces.none-spaced is_misweighed (known_part f) (t ∷ ts) (λ u. reads-weighed f (answered f u.0) (is_answered f u.0 u.1))

sign-absent : (f : Format) (s : ℕ) (ts : List (Known (IsSigned f))) → (58 == s) ≡ false → (35 == s) ≡ false → known_sign f s ts ≡ false → EachPasses (signs_at (s ∷ [])) (map (known_part f) ts)
sign-absent f s [] colon hash none = tt
sign-absent f s (t ∷ ts) colon hash none =
    let parts = or_parts (t.0.0 == s) (known_sign f s ts) none in
    (piece-passes s f (answered f t.0) (is_answered f t.0 t.1) colon hash parts.0, sign-absent f s ts colon hash parts.1)

abbrev kind_for : Bool → List Choice → Kind
kind_for single choices = cond single (kind.One choices) (kind.Several choices)

abbrev sort_for : Bool → Sort
sort_for single = cond single sort.One sort.Several

equals-found : (f : Format) (t : Known (IsSigned f)) (ts : List (Known (IsSigned f))) (single : Bool) → known_sign f 61 (t ∷ ts) ≡ single → occurs (is_at landmark.Equals) (from_first (part_of f t.0) (map (known_part f) ts)) ≡ single
equals-found f t ts true has = sign-found f 61 (t ∷ ts) has
equals-found f t ts false none =
    passes-occurs (is_at landmark.Equals) (from_first (part_of f t.0) (map (known_part f) ts)) (ReadBackPieces.passes-from_first (is_at landmark.Equals) (part_of f t.0) (map (known_part f) ts) (passes-plain 61 [] gap refl) (sign-absent f 61 (t ∷ ts) refl refl none))

kind-read : (f : Format) (a : Marks) (single : Bool) (choices : List Choice) → map (choice_of f) (parts.pieces (is_at landmark.Choice) 126 a) ≡ choices → kind_in f a (sort_for single) ≡ kind_for single choices
kind-read f a true choices e = ap kind.One e
kind-read f a false choices e = ap kind.Several e

part-same : (f : Format) (general : Rich) (text : List ℕ) (single : Bool) (choices : List Choice) → cond single (single_choices f choices) (flat_map (tilde_choice f) choices) ≡ text
    → answer_part (kind_for single choices) f general ≡ canonical.in_lines (codes "{") text f general
part-same f general text true choices e = ap (λ (b : List ℕ). canonical.in_lines (codes "{") b f general) e
part-same f general text false choices e = ap (λ (b : List ℕ). canonical.in_lines (codes "{") b f general) e

pieces-same : (a : Marks) (single : Bool) → parts.pieces_of (sort_for single) a ≡ parts.pieces (is_at landmark.Choice) 126 a
pieces-same a true = refl
pieces-same a false = refl

-- the faults of other kinds
signed-faultless : (name : List ℕ) (r general : Rich) (single : Bool) (choices : List Choice) (a : Marks) → IsFramed name r general (kind_for single choices) → sound.IsSound (kind_for single choices)
    → list_any is_misweighed (parts.pieces_of (sort_for single) a) ≡ false → IsFaultless (question_with name r general (kind_for single choices)) (sort_for single) a
signed-faultless name r general true choices a is whole fine = faultless-pieces name r general (kind.One choices) sort.One a is.short whole refl refl fine refl refl refl
signed-faultless name r general false choices a is whole fine = faultless-pieces name r general (kind.Several choices) sort.Several a is.short whole refl refl fine refl refl refl

asks-signed : (name : List ℕ) (r general : Rich) (single : Bool) (choices : List Choice) (ts : List Signed) (each : Each (IsSigned r.format) ts) → IsFramed name r general (kind_for single choices)
    → sound.IsSound (kind_for single choices)
    → cond single (single_choices r.format choices) (flat_map (tilde_choice r.format) choices) ≡ flat_map (line_text r.format) ts → map (λ (t : Signed). t.1) ts ≡ choices
    → has_sign 126 ts ≡ true → has_sign 61 ts ≡ single
    → IsQuestionText (question_with name r general (kind_for single choices))
asks-signed name r general single choices [] each is whole text values tilde equals = cc
asks-signed name r general single choices (t ∷ ts) each is whole text values tilde equals =
    let f = r.format in
    let all = known (IsSigned f) (t ∷ ts) each in
    let first : Known (IsSigned f) = (t, each.0) in
    let later = known (IsSigned f) ts each.1 in
    let a = from_first (part_of f t) (map (known_part f) later) in
    let bytes = text ∙ flat_map-known (IsSigned f) (line_text f) (t ∷ ts) each in
    let has = known-sign f 126 (t ∷ ts) each ∙ tilde in
    let right = known-sign f 61 (t ∷ ts) each ∙ equals in
    let cut = choices-pieces f first later in
    let value = ap (map (choice_of f)) cut ∙ choices-read f first later ∙ known-values f (t ∷ ts) each ∙ values in
    asks-items name r general (kind_for single choices) (codes "{") [] (λ (u : Known (IsSigned f)). text_of_choice f u.0) (λ (u : Known (IsSigned f)). characters_of_choice f u.0) (known_part f) all a (sort_for single) is
    (part-same f general (flat_map (λ (u : Known (IsSigned f)). line_text f u.0) all) single choices bytes)
    Writes-opening
    (λ u. choice-line f u.0 u.1)
    (reads-pieces (λ (u : Known (IsSigned f)). characters_of_choice f u.0) (known_part f) first later (is_nothing general.text) (λ u. is_piece f (answered f u.0) (is_answered f u.0 u.1)))
    (choices-sort f first later single has (equals-found f first later single right))
    (kind-read f a single choices value)
    (signed-faultless name r general single choices a is whole (ap (list_any is_misweighed) (pieces-same a single ∙ cut) ∙ choices-fine f first later))

-- ---- several choices

no_equals : (cs : List Choice) → has_sign 61 (with_tilde cs) ≡ false
no_equals [] = refl
no_equals (c ∷ cs) = no_equals cs

pub asks-several : (name : List ℕ) (r general : Rich) (choices : List Choice) → IsFramed name r general (kind.Several choices) → Each (IsChoice r.format) choices → sound.IsSound (kind.Several choices)
    → IsQuestionText (question_with name r general (kind.Several choices))
asks-several name r general [] is each whole = absurd (omega (arith, whole.enough))
asks-several name r general (c ∷ cs) is each whole =
    let choices = c ∷ cs in
    asks-signed name r general false choices (with_tilde choices) (tilde-each r.format choices each) is whole (tilde-text r.format choices) (tilde-choices choices) refl (no_equals choices)

-- ---- one choice

has_equals : (cs : List Choice) → list_any (λ (c : Choice). int_eq c.weight (pos one)) cs ≡ true → has_sign 61 (with_signs cs) ≡ true
has_equals [] some = cc
has_equals (c ∷ cs) some = go (int_eq c.weight (pos one)) some (has_equals cs)
  where
    go : (b : Bool) → (b || list_any (λ (c : Choice). int_eq c.weight (pos one)) cs) ≡ true → (list_any (λ (c : Choice). int_eq c.weight (pos one)) cs ≡ true → has_sign 61 (with_signs cs) ≡ true)
        → has_sign 61 (cond b ((61, c) ∷ with_tilde cs) ((126, c) ∷ with_signs cs)) ≡ true
    go true some later = refl
    go false some later = later some

has_tilde : (c d : Choice) (cs : List Choice) → has_sign 126 (with_signs (c ∷ d ∷ cs)) ≡ true
has_tilde c d cs = go (int_eq c.weight (pos one))
  where
    go : (b : Bool) → has_sign 126 (cond b ((61, c) ∷ with_tilde (d ∷ cs)) ((126, c) ∷ with_signs (d ∷ cs))) ≡ true
    go true = refl
    go false = refl

pub asks-one : (name : List ℕ) (r general : Rich) (choices : List Choice) → IsFramed name r general (kind.One choices) → Each (IsChoice r.format) choices → sound.IsSound (kind.One choices)
    → IsQuestionText (question_with name r general (kind.One choices))
asks-one name r general [] is each whole = absurd (omega (arith, whole.enough))
asks-one name r general (c ∷ []) is each whole = absurd (omega (arith, whole.enough))
asks-one name r general (c ∷ d ∷ cs) is each whole =
    let choices = c ∷ d ∷ cs in
    asks-signed name r general true choices (with_signs choices) (signs-each r.format choices each) is whole (signs-text r.format choices) (signs-choices choices) (has_tilde c d cs) (has_equals choices whole.right_choice)
