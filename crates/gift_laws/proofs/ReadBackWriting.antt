-- The canonical text of questions: its characters, its marks and its lines.
use Rattle.std.proofs.Common.{◌≡◌, ◌≤◌, ℕ, Bool, true, false, cond, not, ◌&&◌, ◌==◌, List, [], ◌∷◌, ◌++◌, map, flat_map, encode_utf8_all, refl, sym, ap, ◌∙◌, append_assoc, append-nil}
use Rattle.std.specs.Char.{encode_utf8}
use Rattle.std.specs.List.{list_all}
use Rattle.std.specs.Str.{chars}
use Rattle.std.proofs.Math.Utf8.{scalars}
use lib.Utf8.{scalar}
use Rattle.std.proofs.lemmas.Bool.{and_parts, and_from}
use Rattle.std.proofs.lemmas.List.Folds.{list_all-append}
use Rattle.std.proofs.lemmas.Str.{scalars-chars}
use Rattle.gift_lex.specs.declared.block.Block.{Block}
use Rattle.gift_lex.specs.declared.block.Piece.TheVariants.{Sign}
use Rattle.gift_lex.specs.Blocks as lex
use Rattle.qz_grading.specs.declared.question.Format.{Format}
use Rattle.qz_grading.specs.declared.question.Format.TheVariants as format
use Rattle.qz_grading.specs.declared.question.Question.{Question}
use Rattle.qz_grading.specs.declared.question.Rich.{Rich}
use Rattle.qz_grading.specs.Canonical as canonical
use Rattle.qz_grading.specs.Canonical.{escaped_byte, escaped, is_nothing, rich_text, rich_behind, answer_part, canonical_question, canonical_size, general_line}
use Rattle.gift_read.specs.Places.{Marks}
use Rattle.qz_grading.specs.declared.limits.TheConstants.{MOST_TOGETHER}
use Rattle.gift_laws.specs.Written.{IsText, has_no_return}
use Rattle.gift_laws.proofs.ReadBackMarks.{Spells, Spells-nil, Spells-append, Spells-single, Spells-text}
use Rattle.gift_laws.proofs.ReadBackRich.{written_characters, marks_of_text, escaped-written, is_marked, rich_characters, rich_marks, rich_text-written, Spells-rich}
use Rattle.gift_laws.proofs.ReadBackFrame.{named_marks}
use Rattle.gift_laws.proofs.ReadBackLines.{is_feedless}
use Rattle.gift_laws.proofs.ReadBackTold.{IsRead}
use Rattle.gift_laws.proofs.ReadBackBank.{IsPlainText, plain_text-append, feeds_text, IsQuestionText}

-- ---- text on one line

pub record Writes (text cs : List ℕ) (marks : Marks) : Type 0 where
  pub plain : IsPlainText text cs
  pub feedless : is_feedless cs ≡ true
  pub spells : Spells cs marks

pub Writes-nil : Writes [] [] []
Writes-nil = record { plain = record { is = refl; scalar = refl; no_return = refl }; feedless = refl; spells = Spells-nil }

pub Writes-append : (text more cs ds : List ℕ) (ms ns : Marks) → Writes text cs ms → Writes more ds ns → Writes (text ++ more) (cs ++ ds) (ms ++ ns)
Writes-append text more cs ds ms ns first second = record {
  plain = plain_text-append text more cs ds first.plain second.plain;
  feedless = list_all-append (λ c. not (c == 10)) cs ds ∙ rw (first.feedless, second.feedless) refl;
  spells = Spells-append cs ds ms ns first.spells second.spells;
}

-- ---- escaped texts

pub scalars-all : (cs : List ℕ) → scalars cs ≡ list_all scalar cs
scalars-all [] = refl
scalars-all (c ∷ cs) = ap (λ (b : Bool). scalar c && b) (scalars-all cs)

-- what holds of a backslash, an n and each character but a line feed holds of the text as it is written
list_all-escaped : (p q : ℕ → Bool) → p 92 ≡ true → p 110 ≡ true → ((c : ℕ) → (c == 10) ≡ false → q c ≡ true → p c ≡ true) → (cs : List ℕ) → list_all q cs ≡ true → list_all p (flat_map escaped_byte cs) ≡ true
list_all-escaped p q slash n other [] all = refl
list_all-escaped p q slash n other (c ∷ cs) all =
    let parts = and_parts (q c) (list_all q cs) all in
    list_all-append p (escaped_byte c) (flat_map escaped_byte cs)
    ∙ and_from (list_all p (escaped_byte c)) (list_all p (flat_map escaped_byte cs)) (go (c == 10) (canonical.is_sign c) refl parts.0) (list_all-escaped p q slash n other cs parts.1)
  where
    go : (b s : Bool) → (c == 10) ≡ b → q c ≡ true → list_all p (cond b (92 ∷ 110 ∷ []) (cond s (92 ∷ c ∷ []) (c ∷ []))) ≡ true
    go true s e holds = rw (slash, n) refl
    go false true e holds = rw (slash, other c e holds) refl
    go false false e holds = rw (other c e holds) refl

list_all-true : (cs : List ℕ) → list_all (λ _. true) cs ≡ true
list_all-true [] = refl
list_all-true (c ∷ cs) = list_all-true cs

pub Writes-text : (text : List ℕ) → IsText text → Writes (escaped text) (written_characters text) (marks_of_text text)
Writes-text text is = record {
  plain = record {
    is = escaped-written text is;
    scalar = scalars-all (written_characters text) ∙ list_all-escaped scalar scalar refl refl (λ c feed holds. holds) (chars text) (sym (scalars-all (chars text)) ∙ scalars-chars text is.utf8);
    no_return = list_all-escaped (λ c. not (c == 13)) (λ c. not (c == 13)) refl refl (λ c feed holds. holds) (chars text) is.no_return;
  };
  feedless = list_all-escaped (λ c. not (c == 10)) (λ _. true) refl refl (λ c feed holds. ap not feed) (chars text) (list_all-true (chars text));
  spells = Spells-text (chars text);
}

-- ---- ASCII

pub Writes-ascii : (cs : List ℕ) → encode_utf8_all cs ≡ cs → scalars cs ≡ true → has_no_return cs ≡ true → is_feedless cs ≡ true → list_all (λ c. not (c == 92)) cs ≡ true → Writes cs cs (map lex.single cs)
Writes-ascii cs bytes scalar no_return feedless no_slash = record { plain = record { is = sym bytes; scalar = scalar; no_return = no_return }; feedless = feedless; spells = Spells-single cs no_slash }

-- ---- texts with a format

rich-plain : (default : Format) (r : Rich) (b : Bool) → IsText r.text → (scalars (cond b (canonical.format_mark r.format) [] ++ written_characters r.text) ≡ true) × (has_no_return (cond b (canonical.format_mark r.format) [] ++ written_characters r.text) ≡ true) × (is_feedless (cond b (canonical.format_mark r.format) [] ++ written_characters r.text) ≡ true)
rich-plain default r false is = let w = Writes-text r.text is in (w.plain.scalar, w.plain.no_return, w.feedless)
rich-plain default r true is = go r.format
  where
    go : (f : Format) → (scalars (canonical.format_mark f ++ written_characters r.text) ≡ true) × (has_no_return (canonical.format_mark f ++ written_characters r.text) ≡ true) × (is_feedless (canonical.format_mark f ++ written_characters r.text) ≡ true)
    go format.Moodle = let w = Writes-text r.text is in (w.plain.scalar, w.plain.no_return, w.feedless)
    go format.Html = let w = Writes-text r.text is in (w.plain.scalar, w.plain.no_return, w.feedless)
    go format.Plain = let w = Writes-text r.text is in (w.plain.scalar, w.plain.no_return, w.feedless)
    go format.Markdown = let w = Writes-text r.text is in (w.plain.scalar, w.plain.no_return, w.feedless)

pub Writes-rich : (default : Format) (r : Rich) → IsText r.text → Writes (rich_text default r) (rich_characters default r) (rich_marks default r)
Writes-rich default r is =
    let parts = rich-plain default r (is_marked default r) is in
    record {
      plain = record { is = rich_text-written default r is; scalar = parts.0; no_return = parts.1 };
      feedless = parts.2;
      spells = Spells-rich default r;
    }

-- behind a sign, where the text isn't empty
pub Writes-behind : (sign : List ℕ) (marks : Marks) (default : Format) (r : Rich) → Writes sign sign marks → IsText r.text → (none : Bool) → is_nothing r.text ≡ none
    → Writes (rich_behind sign default r) (cond none [] (sign ++ rich_characters default r)) (cond none [] (marks ++ rich_marks default r))
Writes-behind sign marks default r signs is true e = rw e Writes-nil
Writes-behind sign marks default r signs is false e = rw e (Writes-append sign (rich_text default r) sign (rich_characters default r) marks (rich_marks default r) signs (Writes-rich default r is))

-- ---- the front of a question

colons : List ℕ
colons = 58 ∷ 58 ∷ []

pub Writes-colons : Writes (58 ∷ 58 ∷ []) (58 ∷ 58 ∷ []) (Sign 58 ∷ Sign 58 ∷ [])
unfolding encode_utf8
Writes-colons = Writes-ascii (58 ∷ 58 ∷ []) refl refl refl refl refl

abbrev pub front_text : Question → List ℕ
front_text q = (58 ∷ 58 ∷ []) ++ escaped q.name ++ (58 ∷ 58 ∷ []) ++ rich_text format.Moodle q.text

abbrev pub front_characters : Question → List ℕ
front_characters q = (58 ∷ 58 ∷ []) ++ written_characters q.name ++ (58 ∷ 58 ∷ []) ++ rich_characters format.Moodle q.text

abbrev pub front_marks : Question → Marks
front_marks q = (Sign 58 ∷ Sign 58 ∷ []) ++ marks_of_text q.name ++ (Sign 58 ∷ Sign 58 ∷ []) ++ rich_marks format.Moodle q.text

pub Writes-front : (q : Question) → IsText q.name → IsText q.text.text → Writes (front_text q) (front_characters q) (front_marks q)
Writes-front q is_name is_text =
    Writes-append _ _ _ _ _ _
    (Writes-append _ _ _ _ _ _ (Writes-append _ _ _ _ _ _ Writes-colons (Writes-text q.name is_name)) Writes-colons)
    (Writes-rich format.Moodle q.text is_text)

pub front_marks-named : (q : Question) (rest : Marks) → front_marks q ++ rest ≡ named_marks q.name (rich_marks format.Moodle q.text ++ rest)
front_marks-named q rest =
    let n = marks_of_text q.name in
    let r = rich_marks format.Moodle q.text in
    let c : Marks = Sign 58 ∷ Sign 58 ∷ [] in
    ap (λ (t : Marks). Sign 58 ∷ Sign 58 ∷ t) (append_assoc (n ++ c) r rest ∙ append_assoc n c (r ++ rest))

-- ---- a question on one line

pub one-line : (q : Question) (part cs : List ℕ) (marks : Marks) → IsText q.name → IsText q.text.text → answer_part q.kind q.text.format q.general ≡ part → Writes part cs marks
    → canonical_size q ≤ MOST_TOGETHER
    → ((b : Block) → b.marks ≡ named_marks q.name (rich_marks format.Moodle q.text ++ marks) → IsRead b q) → IsQuestionText q
one-line q part cs marks is_name is_text part_is writes small read =
    let whole = Writes-append (front_text q) part (front_characters q) cs (front_marks q) marks (Writes-front q is_name is_text) writes in
    let text = plain_text-append (front_text q ++ part) (10 ∷ 10 ∷ []) (front_characters q ++ cs) (10 ∷ 10 ∷ []) whole.plain feeds_text in
    record {
      first = (58 ∷ []) ++ written_characters q.name ++ (58 ∷ 58 ∷ []) ++ rich_characters format.Moodle q.text ++ cs;
      marks = front_marks q ++ marks;
      later = [];
      line = record { feedless = whole.feedless; spells = whole.spells; inked = refl; no_comment = refl };
      lines = tt;
      text = record {
        is = rw part_is text.is ∙ ap (λ (t : List ℕ). encode_utf8_all (t ++ 10 ∷ 10 ∷ [])) (sym (append-nil (front_characters q ++ cs)));
        scalar = ap (λ (t : List ℕ). scalars (t ++ 10 ∷ 10 ∷ [])) (append-nil (front_characters q ++ cs)) ∙ text.scalar;
        no_return = ap (λ (t : List ℕ). has_no_return (t ++ 10 ∷ 10 ∷ [])) (append-nil (front_characters q ++ cs)) ∙ text.no_return;
      };
      read = λ b is. read b (is ∙ append-nil (front_marks q ++ marks) ∙ front_marks-named q marks);
      small = small;
    }
