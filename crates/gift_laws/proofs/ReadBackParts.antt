-- Answer parts of several lines, and the canonical text of each kind.
use Rattle.std.proofs.Common.{◌≡◌, ◌≤◌, ℕ, Bool, true, false, cond, List, [], ◌∷◌, ◌++◌, flat_map, encode_utf8_all, refl, sym, ap, ◌∙◌, append_assoc, append-nil, codes}
use Rattle.std.specs.Char.{encode_utf8}
use Rattle.std.proofs.Math.Utf8.{scalars}
use Rattle.std.proofs.lemmas.Grind.{flat_map-append}
use Rattle.gift_lex.specs.declared.block.Block.{Block}
use Rattle.gift_lex.specs.declared.block.Piece.TheVariants.{Sign, Plain}
use Rattle.gift_lex.specs.Blocks as lex
use Rattle.qz_grading.specs.declared.question.Format.{Format}
use Rattle.qz_grading.specs.declared.question.Format.TheVariants as format
use Rattle.qz_grading.specs.declared.question.Question.{Question}
use Rattle.qz_grading.specs.declared.question.Rich.{Rich}
use Rattle.qz_grading.specs.Canonical as canonical
use Rattle.qz_grading.specs.Canonical.{is_nothing, rich_text, rich_behind, answer_part, canonical_question, canonical_size, general_line, in_lines}
use Rattle.gift_read.specs.Places.{Marks}
use Rattle.qz_grading.specs.declared.limits.TheConstants.{MOST_TOGETHER}
use Rattle.gift_laws.specs.Written.{IsText, has_no_return}
use Rattle.gift_laws.proofs.ReadBackMarks.{Spells-single}
use Rattle.gift_laws.proofs.ReadBackRich.{written_characters, rich_characters, rich_marks}
use Rattle.gift_laws.proofs.ReadBackFrame.{named_marks, braced}
use Rattle.gift_laws.proofs.ReadBackGeneral.{hashes, with_general}
use Rattle.gift_laws.proofs.ReadBackLines.{IsLine, Line, AreLines, joined, joined_marks}
use Rattle.gift_laws.proofs.ReadBackTold.{IsRead}
use Rattle.gift_laws.proofs.ReadBackBank.{IsPlainText, plain_text-append, feeds_text, IsQuestionText}
use Rattle.gift_laws.proofs.ReadBackWriting.{Writes, Writes-append, Writes-ascii, Writes-rich, front_text, front_characters, front_marks, Writes-front, front_marks-named}

-- ---- lines, each with its line feed behind it

abbrev pub ended : List Line → List ℕ
ended ls = flat_map (λ (l : Line). l.0 ++ 10 ∷ []) ls

pub record AreWritten (text : List ℕ) (ls : List Line) : Type 0 where
  pub plain : IsPlainText text (ended ls)
  pub lines : AreLines ls

pub lines-append : (ls ms : List Line) → AreLines ls → AreLines ms → AreLines (ls ++ ms)
lines-append [] ms first second = second
lines-append (l ∷ ls) ms first second = (first.0, lines-append ls ms first.1 second)

pub written-nil : AreWritten [] []
written-nil = record { plain = record { is = refl; scalar = refl; no_return = refl }; lines = tt }

pub written-append : (text more : List ℕ) (ls ms : List Line) → AreWritten text ls → AreWritten more ms → AreWritten (text ++ more) (ls ++ ms)
written-append text more ls ms first second =
    let plain = plain_text-append text more (ended ls) (ended ms) first.plain second.plain in
    let same = flat_map-append (λ (l : Line). l.0 ++ 10 ∷ []) ls ms in
    record {
      plain = record {
        is = plain.is ∙ ap encode_utf8_all (sym same);
        scalar = ap scalars same ∙ plain.scalar;
        no_return = ap has_no_return same ∙ plain.no_return;
      };
      lines = lines-append ls ms first.lines second.lines;
    }

pub tab_text : Writes (9 ∷ []) (9 ∷ []) (Plain 9 ∷ [])
unfolding encode_utf8
tab_text = Writes-ascii (9 ∷ []) refl refl refl refl refl

feed_text : IsPlainText (10 ∷ []) (10 ∷ [])
unfolding encode_utf8
feed_text = record { is = refl; scalar = refl; no_return = refl }

-- one line behind a tab, which begins with a sign
pub written-line : (text cs : List ℕ) (marks : Marks) → Writes text cs marks → lex.is_blank_line cs ≡ false → lex.is_comment cs ≡ false → AreWritten (canonical.line text) ((9 ∷ cs, Plain 9 ∷ marks) ∷ [])
written-line text cs marks writes inked no_comment =
    let tabbed = Writes-append (9 ∷ []) text (9 ∷ []) cs (Plain 9 ∷ []) marks tab_text writes in
    let plain = plain_text-append (9 ∷ text) (10 ∷ []) (9 ∷ cs) (10 ∷ []) tabbed.plain feed_text in
    let same : ended ((9 ∷ cs, Plain 9 ∷ marks) ∷ []) ≡ (9 ∷ cs) ++ 10 ∷ [] = append-nil ((9 ∷ cs) ++ 10 ∷ []) in
    record {
      plain = record { is = plain.is ∙ ap encode_utf8_all (sym same); scalar = ap scalars same ∙ plain.scalar; no_return = ap has_no_return same ∙ plain.no_return };
      lines = (record { feedless = tabbed.feedless; spells = tabbed.spells; inked = inked; no_comment = no_comment }, tt);
    }

-- ---- the line of the general feedback

abbrev pub general_lines : Format → Rich → Bool → List Line
general_lines f general none = cond none [] ((9 ∷ 35 ∷ 35 ∷ 35 ∷ 35 ∷ rich_characters f general, Plain 9 ∷ (hashes ++ rich_marks f general)) ∷ [])

pub Writes-hashes : Writes (codes "####") (codes "####") hashes
unfolding encode_utf8
Writes-hashes = Writes-ascii (codes "####") refl refl refl refl refl

pub written-general : (f : Format) (general : Rich) → IsText general.text → (none : Bool) → is_nothing general.text ≡ none → AreWritten (general_line f general) (general_lines f general none)
written-general f general is true e = rw e written-nil
written-general f general is false e =
    let writes = Writes-append (codes "####") (rich_text f general) (codes "####") (rich_characters f general) hashes (rich_marks f general) Writes-hashes (Writes-rich f general is) in
    rw e (written-line (codes "####" ++ rich_text f general) (codes "####" ++ rich_characters f general) (hashes ++ rich_marks f general) writes refl refl)

-- ---- a question of several lines

closing : Line
closing = (125 ∷ [], Sign 125 ∷ [])

closing-line : IsLine (125 ∷ []) (Sign 125 ∷ [])
closing-line = record { feedless = refl; spells = Spells-single (125 ∷ []) refl; inked = refl; no_comment = refl }

brace_text : IsPlainText (125 ∷ []) (125 ∷ [])
unfolding encode_utf8
brace_text = record { is = refl; scalar = refl; no_return = refl }

-- line feeds behind lines, or before them
shifted : (ls : List Line) → (10 ∷ ended ls) ++ 125 ∷ [] ≡ joined (ls ++ (125 ∷ [], Sign 125 ∷ []) ∷ [])
shifted [] = refl
shifted (l ∷ ls) =
    ap (λ (t : List ℕ). 10 ∷ t) (append_assoc (l.0 ++ 10 ∷ []) (ended ls) (125 ∷ []) ∙ append_assoc l.0 (10 ∷ []) (ended ls ++ 125 ∷ []))
    ∙ ap (λ (t : List ℕ). (10 ∷ l.0) ++ t) (shifted ls)

in_braces-shifted : (front opening : List ℕ) (ls : List Line) → (front ++ ((opening ++ 10 ∷ []) ++ ended ls ++ 125 ∷ [])) ≡ (front ++ opening) ++ joined (ls ++ (125 ∷ [], Sign 125 ∷ []) ∷ [])
in_braces-shifted front opening ls =
    ap (λ (t : List ℕ). front ++ t) (append_assoc (opening ++ 10 ∷ []) (ended ls) (125 ∷ []) ∙ append_assoc opening (10 ∷ []) (ended ls ++ 125 ∷ []) ∙ ap (λ (t : List ℕ). opening ++ t) (shifted ls))
    ∙ sym (append_assoc front opening (joined (ls ++ (125 ∷ [], Sign 125 ∷ []) ∷ [])))

plain_text-same : (text cs ds : List ℕ) → cs ≡ ds → IsPlainText text cs → IsPlainText text ds
plain_text-same text cs ds same is = record { is = is.is ∙ ap encode_utf8_all same; scalar = ap scalars (sym same) ∙ is.scalar; no_return = ap has_no_return (sym same) ∙ is.no_return }

pub several-lines : (q : Question) (opening text : List ℕ) (extra : Marks) (ls : List Line) → IsText q.name → IsText q.text.text
    → answer_part q.kind q.text.format q.general ≡ (opening ++ 10 ∷ []) ++ text ++ 125 ∷ [] → Writes opening opening (Sign 123 ∷ extra) → AreWritten text ls
    → canonical_size q ≤ MOST_TOGETHER
    → ((b : Block) → b.marks ≡ named_marks q.name (braced (rich_marks format.Moodle q.text) (extra ++ (joined_marks ls ++ Plain 10 ∷ []))) → IsRead b q) → IsQuestionText q
several-lines q opening text extra ls is_name is_text part_is opens written small read =
    let front = Writes-front q is_name is_text in
    let first = Writes-append (front_text q) opening (front_characters q) opening (front_marks q) (Sign 123 ∷ extra) front opens in
    let part = plain_text-append ((opening ++ 10 ∷ []) ++ text) (125 ∷ []) ((opening ++ 10 ∷ []) ++ ended ls) (125 ∷ [])
    (plain_text-append (opening ++ 10 ∷ []) text (opening ++ 10 ∷ []) (ended ls) (plain_text-append opening (10 ∷ []) opening (10 ∷ []) opens.plain feed_text) written.plain) brace_text in
    let whole = plain_text-append (front_text q) ((opening ++ 10 ∷ []) ++ text ++ 125 ∷ []) (front_characters q) ((opening ++ 10 ∷ []) ++ ended ls ++ 125 ∷ []) front.plain part in
    let shaped = plain_text-same (front_text q ++ ((opening ++ 10 ∷ []) ++ text ++ 125 ∷ [])) _ _ (in_braces-shifted (front_characters q) opening ls) whole in
    let all = plain_text-append (front_text q ++ ((opening ++ 10 ∷ []) ++ text ++ 125 ∷ [])) (10 ∷ 10 ∷ []) ((front_characters q ++ opening) ++ joined (ls ++ (125 ∷ [], Sign 125 ∷ []) ∷ [])) (10 ∷ 10 ∷ []) shaped feeds_text in
    let ms = joined_marks ls in
    let tail : Marks = Plain 10 ∷ Sign 125 ∷ [] in
    record {
      first = (58 ∷ []) ++ written_characters q.name ++ (58 ∷ 58 ∷ []) ++ rich_characters format.Moodle q.text ++ opening;
      marks = front_marks q ++ (Sign 123 ∷ extra);
      later = ls ++ (125 ∷ [], Sign 125 ∷ []) ∷ [];
      line = record { feedless = first.feedless; spells = first.spells; inked = refl; no_comment = refl };
      lines = lines-append ls ((125 ∷ [], Sign 125 ∷ []) ∷ []) written.lines (closing-line, tt);
      text = record { is = rw part_is all.is; scalar = all.scalar; no_return = all.no_return };
      read = λ b is.
          read b (is
          ∙ ap (λ (t : Marks). (front_marks q ++ (Sign 123 ∷ extra)) ++ t) (flat_map-append (λ (l : Line). Plain 10 ∷ l.1) ls ((125 ∷ [], Sign 125 ∷ []) ∷ []))
          ∙ append_assoc (front_marks q) (Sign 123 ∷ extra) (ms ++ tail)
          ∙ front_marks-named q (Sign 123 ∷ (extra ++ (ms ++ tail)))
          ∙ ap (λ (t : Marks). named_marks q.name (rich_marks format.Moodle q.text ++ (Sign 123 ∷ t))) (ap (λ (t : Marks). extra ++ t) (sym (append_assoc ms (Plain 10 ∷ []) (Sign 125 ∷ []))) ∙ sym (append_assoc extra (ms ++ Plain 10 ∷ []) (Sign 125 ∷ []))));
      small = small;
    }

-- ---- what stands in the braces

abbrev pub gap_before : Bool → Marks
gap_before none = cond none (Plain 10 ∷ []) (Plain 10 ∷ Plain 9 ∷ [])

abbrev pub part_inner : Marks → List Line → Bool → Marks → Marks
part_inner extra ls none general = with_general (extra ++ (joined_marks ls ++ gap_before none)) none (general ++ Plain 10 ∷ [])

pub part_inner-lines : (f : Format) (general : Rich) (extra : Marks) (ls : List Line) (none : Bool)
    → extra ++ (joined_marks (ls ++ general_lines f general none) ++ Plain 10 ∷ []) ≡ part_inner extra ls none (rich_marks f general)
part_inner-lines f general extra ls true = ap (λ (t : List Line). extra ++ (joined_marks t ++ Plain 10 ∷ [])) (append-nil ls) ∙ sym (append-nil (extra ++ (joined_marks ls ++ Plain 10 ∷ [])))
part_inner-lines f general extra ls false =
    let ms = joined_marks ls in
    let gm = rich_marks f general in
    let led : Marks = Plain 10 ∷ Plain 9 ∷ [] in
    let all : joined_marks (ls ++ general_lines f general false) ≡ ms ++ (led ++ (hashes ++ gm)) = flat_map-append (λ (l : Line). Plain 10 ∷ l.1) ls (general_lines f general false) ∙ ap (λ (t : Marks). ms ++ t) (append-nil (led ++ (hashes ++ gm))) in
    ap (λ (t : Marks). extra ++ (t ++ Plain 10 ∷ [])) all
    ∙ ap (λ (t : Marks). extra ++ t) (append_assoc ms (led ++ (hashes ++ gm)) (Plain 10 ∷ []) ∙ sym (append_assoc ms led (hashes ++ (gm ++ Plain 10 ∷ []))))
    ∙ sym (append_assoc extra (ms ++ led) (hashes ++ (gm ++ Plain 10 ∷ [])))
