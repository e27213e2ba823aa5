-- Questions whose answer part has a line a piece: from what is read of the pieces to what is read of the question.
use Rattle.std.proofs.Common.{◌≡◌, ℕ, Bool, true, false, cond, not, ◌&&◌, ◌||◌, nat_lt, List, [], ◌∷◌, ◌++◌, map, flat_map, refl, sym, ap, ◌∙◌, subst, append_assoc}
use Rattle.std.specs.List.{list_any}
use Rattle.std.proofs.lemmas.Bool.{le-ltb}
use Rattle.gift_lex.specs.declared.block.Piece.TheVariants.{Sign, Plain}
use Rattle.qz_grading.specs.declared.question.Format.{Format}
use Rattle.qz_grading.specs.declared.question.Format.TheVariants as format
use Rattle.qz_grading.specs.declared.question.Kind.{Kind}
use Rattle.qz_grading.specs.declared.question.Rich.{Rich}
use Rattle.qz_grading.specs.Canonical as canonical
use Rattle.qz_grading.specs.Canonical.{is_nothing, answer_part, general_line}
use Rattle.qz_grading.specs.Questions as sound
use Rattle.gift_read.specs.declared.places.Landmark.TheVariants as landmark
use Rattle.gift_read.specs.declared.parts.Sort.{Sort}
use Rattle.gift_read.specs.Places.{Marks, is_at, are_blank, signs_at, occurs, trimmed}
use Rattle.gift_read.specs.Texts.{rich_of}
use Rattle.gift_read.specs.Parts.{Part, sort_in}
use Rattle.gift_read.specs.Values.{question_with, kind_in}
use Rattle.qz_grading.specs.declared.limits.TheConstants.{MOST_PARTS}
use Rattle.gift_read.specs.Faults.{is_matching, has_blank_number, has_no_number, number_pieces, is_misweighed, weighed_pieces, has_stray_arrow, has_stray_feedback}
use Rattle.gift_laws.specs.Written.{IsRich, Each}
use Rattle.gift_laws.proofs.ReadBackPlaces.{Passes, passes-cons, passes-append, passes-plain, passes-occurs, begins_ink, ends_ink, trimmed-around}
use Rattle.gift_laws.proofs.ReadBackRich.{rich_marks, rich_marks-plain, rich_of-nothing, rich_of-around}
use Rattle.gift_laws.proofs.ReadBackFrame.{named_marks, braced}
use Rattle.gift_laws.proofs.ReadBackGeneral.{general-before, general-marks, closed-general}
use Rattle.gift_laws.proofs.ReadBackTold.{IsFaultless}
use Rattle.gift_laws.proofs.ReadBackPlain.{IsShort, no_text, plain-behind, reads-braced}
use Rattle.gift_laws.proofs.ReadBackLines.{Line, joined_marks}
use Rattle.gift_laws.proofs.ReadBackBank.{IsQuestionText}
use Rattle.gift_laws.proofs.ReadBackWriting.{Writes}
use Rattle.gift_laws.proofs.ReadBackParts.{AreWritten, written-append, general_lines, written-general, several-lines, part_inner, part_inner-lines, gap_before}
use Rattle.gift_laws.proofs.ReadBackPieces.{gap, parts_marks, from_first, EachPasses, passes-parts, passes-gap_before, ends-from_first, trimmed-parts, IsPieceLine, piece_line, lines-items, joined_marks-items, all-pass, all-end}
use Rattle.gift_laws.proofs.ReadBackKinds.{IsFramed}

-- ---- a list whose items carry what is known of them

abbrev pub Known : {T : Type 0} → (T → Type 0) → Type 0
Known {T} P = (x : T) × P x

abbrev pub known : {T : Type 0} (P : T → Type 0) (xs : List T) → Each P xs → List (Known P)
known P [] each = []
known P (x ∷ xs) each = (x, each.0) ∷ known P xs each.1

pub known-items : {T : Type 0} (P : T → Type 0) (xs : List T) (each : Each P xs) → map (λ (t : Known P). t.0) (known P xs each) ≡ xs
known-items P [] each = refl
known-items P (x ∷ xs) each = ap (λ t. x ∷ t) (known-items P xs each.1)

pub flat_map-known : {T : Type 0} (P : T → Type 0) (g : T → List ℕ) (xs : List T) (each : Each P xs) → flat_map g xs ≡ flat_map (λ (t : Known P). g t.0) (known P xs each)
flat_map-known P g [] each = refl
flat_map-known P g (x ∷ xs) each = ap (λ (t : List ℕ). g x ++ t) (flat_map-known P g xs each.1)

-- ---- what stands in the braces before the general feedback

abbrev pub before_general : Marks → List Line → Bool → Marks
before_general extra ls none = extra ++ (joined_marks ls ++ gap_before none)

-- and what is read of it
record ReadsAnswers (f : Format) (extra : Marks) (ls : List Line) (none : Bool) (a : Marks) (s : Sort) (k : Kind) : Type 0 where
  no_hashes : occurs (is_at landmark.Hashes) (before_general extra ls none) ≡ false
  closed : Passes (is_at landmark.Closing) (before_general extra ls none)
  left : trimmed (before_general extra ls none) ≡ a
  sort : sort_in a ≡ s
  kind : kind_in f a s ≡ k

general_read : (f : Format) (general : Rich) (none : Bool) → IsRich f general → is_nothing general.text ≡ none → rich_of f (cond none [] (rich_marks f general ++ (Plain 10 ∷ []))) ≡ general
general_read f general true is e = rich_of-nothing f general is (no_text general e)
general_read f general false is e = rich_of-around f general [] (Plain 10 ∷ []) is refl refl

asks-lines : (name : List ℕ) (r general : Rich) (k : Kind) (opening text : List ℕ) (extra : Marks) (ls : List Line) (a : Marks) (s : Sort) → IsFramed name r general k
    → answer_part k r.format general ≡ (opening ++ 10 ∷ []) ++ text ++ general_line r.format general ++ 125 ∷ []
    → Writes opening opening (Sign 123 ∷ extra) → AreWritten text ls → ReadsAnswers r.format extra ls (is_nothing general.text) a s k → IsFaultless (question_with name r general k) s a
    → IsQuestionText (question_with name r general k)
asks-lines name r general k opening text extra ls a s is part_is opens written reads faultless =
    let f = r.format in
    let none = is_nothing general.text in
    let gm = rich_marks f general ++ (Plain 10 ∷ []) in
    let plain = plain-behind (rich_marks f general) (rich_marks-plain f general) in
    let xs = before_general extra ls none in
    let all = written-append text (general_line f general) ls (general_lines f general none) written (written-general f general is.own_general.text none refl) in
    let shaped = part_is ∙ ap (λ (t : List ℕ). t ++ 125 ∷ []) (append_assoc (opening ++ 10 ∷ []) text (general_line f general)) in
    several-lines (question_with name r general k) opening (text ++ general_line f general) extra (ls ++ general_lines f general none) is.own_name is.own_text shaped opens all is.small
    (λ b marks. reads-braced b name r general k (part_inner extra ls none (rich_marks f general)) a s is.own_name is.named is.own_text
    (closed-general xs gm none reads.closed plain)
    (ap trimmed (general-before xs gm none reads.no_hashes plain) ∙ reads.left)
    reads.sort reads.kind
    (ap (rich_of f) (general-marks xs gm none reads.no_hashes plain) ∙ general_read f general none is.own_general refl)
    faultless
    (marks ∙ ap (λ (t : Marks). named_marks name (braced (rich_marks format.Moodle r) t)) (part_inner-lines f general extra ls none)))

-- ---- pieces, a line each

-- a piece that doesn't end the answer part, nor begins the general feedback
pub record IsPiece (p : Part) : Type 0 where
  pub begins : begins_ink (Sign p.0 ∷ []) ≡ true
  pub ends : ends_ink (Sign p.0 ∷ p.1) ≡ true
  pub closed : Passes (is_at landmark.Closing) (Sign p.0 ∷ p.1)
  pub no_hashes : Passes (is_at landmark.Hashes) (Sign p.0 ∷ p.1)

abbrev pub item_lines : {T : Type 0} → (T → List ℕ) → (T → Part) → List T → List Line
item_lines cs part ts = map (λ t. piece_line (cs t) (part t)) ts

-- what is left of their lines
pub record ReadsPieces (extra : Marks) (ls : List Line) (none : Bool) (a : Marks) : Type 0 where
  pub no_hashes : occurs (is_at landmark.Hashes) (before_general extra ls none) ≡ false
  pub closed : Passes (is_at landmark.Closing) (before_general extra ls none)
  pub left : trimmed (before_general extra ls none) ≡ a

passes-lines : (s : ℕ) (ss : List ℕ) (ps : List Part) (none : Bool) → EachPasses (signs_at (s ∷ ss)) ps → Passes (signs_at (s ∷ ss)) (parts_marks ps ++ gap_before none)
passes-lines s ss ps none each =
    let here = signs_at (s ∷ ss) in
    passes-append here (parts_marks ps) (gap_before none) (passes-parts here ps (passes-plain s ss gap refl) each) (passes-gap_before here none (passes-plain s ss (Plain 10 ∷ []) refl) (passes-plain s ss gap refl))

pub reads-pieces : {T : Type 0} (cs : T → List ℕ) (part : T → Part) (t : T) (ts : List T) (none : Bool) → ((u : T) → IsPiece (part u))
    → ReadsPieces [] (item_lines cs part (t ∷ ts)) none (from_first (part t) (map part ts))
reads-pieces cs part t ts none each =
    let all = t ∷ ts in
    let whole = ap (λ (m : Marks). m ++ gap_before none) (joined_marks-items cs part all) in
    let hashes = passes-lines 35 (35 ∷ 35 ∷ 35 ∷ []) (map part all) none (all-pass (is_at landmark.Hashes) part all (λ u. (each u).no_hashes)) in
    let closing = passes-lines 125 [] (map part all) none (all-pass (is_at landmark.Closing) part all (λ u. (each u).closed)) in
    record {
      no_hashes = ap (occurs (is_at landmark.Hashes)) whole ∙ passes-occurs (is_at landmark.Hashes) (parts_marks (map part all) ++ gap_before none) hashes;
      closed = subst (λ (m : Marks). Passes (is_at landmark.Closing) m) (sym whole) closing;
      left = ap trimmed whole ∙ trimmed-parts (part t) (map part ts) none (each t).begins (all-end part all (λ u. (each u).ends));
    }

blank_gap : (none : Bool) → are_blank (gap_before none) ≡ true
blank_gap true = refl
blank_gap false = refl

-- the same behind a hash
pub reads-hash_pieces : {T : Type 0} (cs : T → List ℕ) (part : T → Part) (t : T) (ts : List T) (none : Bool) → ((u : T) → IsPiece (part u))
    → ReadsPieces (Sign 35 ∷ []) (item_lines cs part (t ∷ ts)) none (Sign 35 ∷ parts_marks (map part (t ∷ ts)))
reads-hash_pieces cs part t ts none each =
    let all = t ∷ ts in
    let rest = parts_marks (map part all) ++ gap_before none in
    let whole = ap (λ (m : Marks). Sign 35 ∷ (m ++ gap_before none)) (joined_marks-items cs part all) in
    let hashes = passes-lines 35 (35 ∷ 35 ∷ 35 ∷ []) (map part all) none (all-pass (is_at landmark.Hashes) part all (λ u. (each u).no_hashes)) in
    let closing = passes-lines 125 [] (map part all) none (all-pass (is_at landmark.Closing) part all (λ u. (each u).closed)) in
    record {
      no_hashes = ap (occurs (is_at landmark.Hashes)) whole ∙ passes-occurs (is_at landmark.Hashes) rest hashes;
      closed = subst (λ (m : Marks). Passes (is_at landmark.Closing) m) (sym whole) (passes-cons (is_at landmark.Closing) (Sign 35) rest (λ ys. refl) closing);
      left = ap trimmed whole ∙ trimmed-around [] (Sign 35 ∷ parts_marks (map part all)) (gap_before none) refl refl (ends-from_first (part t) (map part ts) (all-end part all (λ u. (each u).ends))) (blank_gap none);
    }

pub asks-items : {T : Type 0} (name : List ℕ) (r general : Rich) (k : Kind) (opening : List ℕ) (extra : Marks) (text cs : T → List ℕ) (part : T → Part) (ts : List T) (a : Marks) (s : Sort) → IsFramed name r general k
    → answer_part k r.format general ≡ canonical.in_lines opening (flat_map (λ (t : T). canonical.line (text t)) ts) r.format general
    → Writes opening opening (Sign 123 ∷ extra) → ((t : T) → IsPieceLine (text t) (cs t) (part t)) → ReadsPieces extra (item_lines cs part ts) (is_nothing general.text) a
    → sort_in a ≡ s → kind_in r.format a s ≡ k → IsFaultless (question_with name r general k) s a → IsQuestionText (question_with name r general k)
asks-items {T} name r general k opening extra text cs part ts a s is part_is opens lines reads sort_is kind_is faultless =
    asks-lines name r general k opening (flat_map (λ (t : T). canonical.line (text t)) ts) extra (item_lines cs part ts) a s is part_is opens (lines-items text cs part ts lines)
    (record { no_hashes = reads.no_hashes; closed = reads.closed; left = reads.left; sort = sort_is; kind = kind_is }) faultless

-- a question of another kind than matching has no fault where its pieces have none
pub faultless-pieces : (name : List ℕ) (r general : Rich) (k : Kind) (s : Sort) (a : Marks) → IsShort (question_with name r general k) → sound.IsSound k → is_matching k ≡ false
    → list_any has_blank_number (number_pieces s a) ≡ false → list_any is_misweighed (weighed_pieces s a) ≡ false → has_stray_arrow s a ≡ false
    → list_any has_no_number (number_pieces s a) ≡ false → has_stray_feedback s a ≡ false → IsFaultless (question_with name r general k) s a
faultless-pieces name r general k s a short whole other ink weights arrow numbers feedback =
    let few = le-ltb MOST_PARTS (sound.parts k) whole.few in
    let enough = le-ltb (sound.parts k) (sound.least_parts k) whole.enough in
    let lacks : (nat_lt (sound.parts k) (sound.least_parts k) || not (sound.has_no_blank k)) ≡ false = ap (λ (x : Bool). x || not (sound.has_no_blank k)) enough ∙ ap not whole.no_blank in
    record {
      short = ap (λ (x : Bool). not x || nat_lt MOST_PARTS (sound.parts k)) short ∙ few;
      pieces = ap (λ (x : Bool). (not x && (nat_lt (sound.parts k) (sound.least_parts k) || not (sound.has_no_blank k))) || list_any has_blank_number (number_pieces s a)) other
          ∙ ap (λ (x : Bool). x || list_any has_blank_number (number_pieces s a)) lacks ∙ ink;
      weights = weights;
      pairs = ap (λ (x : Bool). (x && ((nat_lt (sound.parts k) (sound.least_parts k) || not (sound.has_no_blank k)) || not (sound.has_stem k))) || has_stray_arrow s a) other ∙ arrow;
      numbers = numbers;
      feedback = feedback;
      right = ap not whole.right_choice;
    }
