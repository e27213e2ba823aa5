-- Texts with a format, read back from their marks.
use Rattle.std.proofs.Common.{◌≡◌, ◌≢◌, suc, ℕ, Bool, true, false, cond, not, ◌||◌, ◌==◌, List, [], ◌∷◌, ◌++◌, map, flat_map, length, encode_utf8_all, None, unwrap_or, refl, sym, ap, ◌∙◌, codes, lit<, arith}
use Rattle.std.specs.Char.{encode_utf8}
use Rattle.std.specs.Str.{chars}
use Rattle.std.proofs.lemmas.Bool.{or_parts, not-false, eqb-true, ne_eqb}
use Rattle.std.proofs.lemmas.List.{length-append}
use Rattle.std.proofs.lemmas.List.Folds.{list_all-append}
use Rattle.std.proofs.lemmas.Str.{encode_ascii, encodes-append, encodes-chars}
use Rattle.gift_lex.specs.Blocks.{single}
use Rattle.qz_grading.specs.declared.question.Format.{Format}
use Rattle.qz_grading.specs.declared.question.Format.TheVariants as format
use Rattle.qz_grading.specs.declared.question.Rich.{Rich}
use Rattle.qz_grading.specs.Canonical.{format_mark, same_format, begins_with, escaped_byte, escaped, is_nothing, rich_text}
use Rattle.gift_read.specs.Places.{Marks, character, are_blank, trimmed}
use Rattle.gift_read.specs.Texts.{spelled, text_of, named_format, behind_format, shown, formatted, rich_of}
use Rattle.gift_laws.specs.Written as written
use Rattle.gift_laws.specs.Written.{IsText, IsRich}
use Rattle.gift_laws.proofs.ReadBackPlaces.{are_plain, begins_ink, ends_ink, trimmed-ink, trimmed-around}
use Rattle.gift_laws.proofs.ReadBackMarks.{text_marks, text_mark-character, text_marks-characters, text_marks-plain, Spells, Spells-nil, Spells-append, Spells-single, Spells-text, escaped-encodes, spelled-text}

-- ---- texts

-- their characters, as they are written and as marks
abbrev pub written_characters : List ℕ → List ℕ
written_characters text = flat_map escaped_byte (chars text)

abbrev pub marks_of_text : List ℕ → Marks
marks_of_text text = text_marks (chars text)

pub escaped-written : (text : List ℕ) → IsText text → escaped text ≡ encode_utf8_all (written_characters text)
escaped-written text is = ap escaped (sym (encodes-chars text is.utf8)) ∙ escaped-encodes (chars text)

pub trimmed-text : (text : List ℕ) → IsText text → trimmed (marks_of_text text) ≡ marks_of_text text
trimmed-text text is =
    let same = text_marks-characters (chars text) in
    trimmed-ink (marks_of_text text) (ap written.begins_ink same ∙ is.begins) (ap written.ends_ink same ∙ is.ends)

pub spelled-own : (text : List ℕ) → IsText text → spelled (marks_of_text text) ≡ text
spelled-own text is = spelled-text (chars text) ∙ encodes-chars text is.utf8

pub text_of-own : (text : List ℕ) → IsText text → text_of (marks_of_text text) ≡ text
text_of-own text is = ap spelled (trimmed-text text is) ∙ spelled-own text is

-- ---- whether the format is written

abbrev pub is_marked : Format → Rich → Bool
is_marked default r = not (same_format default r.format) || begins_with 91 r.text

abbrev mark_characters : Bool → Format → List ℕ
mark_characters b f = cond b (format_mark f) []

abbrev pub rich_characters : Format → Rich → List ℕ
rich_characters default r = mark_characters (is_marked default r) r.format ++ written_characters r.text

abbrev pub rich_marks : Format → Rich → Marks
rich_marks default r = map single (mark_characters (is_marked default r) r.format) ++ marks_of_text r.text

same_format-equal : (a b : Format) → same_format a b ≡ true → a ≡ b
same_format-equal format.Moodle format.Moodle e = refl
same_format-equal format.Html format.Html e = refl
same_format-equal format.Plain format.Plain e = refl
same_format-equal format.Markdown format.Markdown e = refl
same_format-equal format.Moodle format.Html e = cc
same_format-equal format.Moodle format.Plain e = cc
same_format-equal format.Moodle format.Markdown e = cc
same_format-equal format.Html format.Moodle e = cc
same_format-equal format.Html format.Plain e = cc
same_format-equal format.Html format.Markdown e = cc
same_format-equal format.Plain format.Moodle e = cc
same_format-equal format.Plain format.Html e = cc
same_format-equal format.Plain format.Markdown e = cc
same_format-equal format.Markdown format.Moodle e = cc
same_format-equal format.Markdown format.Html e = cc
same_format-equal format.Markdown format.Plain e = cc

-- ---- as marks

mark-bytes : (b : Bool) (f : Format) → encode_utf8_all (mark_characters b f) ≡ mark_characters b f
unfolding encode_utf8
mark-bytes false f = refl
mark-bytes true format.Moodle = refl
mark-bytes true format.Html = refl
mark-bytes true format.Plain = refl
mark-bytes true format.Markdown = refl

pub rich_text-written : (default : Format) (r : Rich) → IsText r.text → rich_text default r ≡ encode_utf8_all (rich_characters default r)
rich_text-written default r is =
    rw (escaped-written r.text is) (ap (λ t. t ++ encode_utf8_all (written_characters r.text)) (sym (mark-bytes (is_marked default r) r.format)))
    ∙ sym (encodes-append (mark_characters (is_marked default r) r.format) (written_characters r.text))

Spells-mark_characters : (b : Bool) (f : Format) → Spells (mark_characters b f) (map single (mark_characters b f))
Spells-mark_characters false f = Spells-nil
Spells-mark_characters true format.Moodle = Spells-single (codes "[moodle]") refl
Spells-mark_characters true format.Html = Spells-single (codes "[html]") refl
Spells-mark_characters true format.Plain = Spells-single (codes "[plain]") refl
Spells-mark_characters true format.Markdown = Spells-single (codes "[markdown]") refl

pub Spells-rich : (default : Format) (r : Rich) → Spells (rich_characters default r) (rich_marks default r)
Spells-rich default r =
    let marked = mark_characters (is_marked default r) r.format in
    Spells-append marked (written_characters r.text) (map single marked) (marks_of_text r.text) (Spells-mark_characters (is_marked default r) r.format) (Spells-text (chars r.text))

mark-plain : (b : Bool) (f : Format) → are_plain (map single (mark_characters b f)) ≡ true
mark-plain false f = refl
mark-plain true format.Moodle = refl
mark-plain true format.Html = refl
mark-plain true format.Plain = refl
mark-plain true format.Markdown = refl

-- no sign is among them
pub rich_marks-plain : (default : Format) (r : Rich) → are_plain (rich_marks default r) ≡ true
rich_marks-plain default r =
    list_all-append _ (map single (mark_characters (is_marked default r) r.format)) (marks_of_text r.text)
    ∙ rw (mark-plain (is_marked default r) r.format) (text_marks-plain (chars r.text))

-- ---- read back

pub ends-append : (xs ys : List ℕ) → written.ends_ink xs ≡ true → written.ends_ink ys ≡ true → written.ends_ink (xs ++ ys) ≡ true
ends-append [] ys first second = second
ends-append (x ∷ []) [] first second = first
ends-append (x ∷ []) (y ∷ ys) first second = second
ends-append (x ∷ y ∷ xs) ys first second = ends-append (y ∷ xs) ys first second

-- behind a format's mark
marked-characters : (f : Format) (text : List ℕ) → map character (map single (format_mark f) ++ marks_of_text text) ≡ format_mark f ++ chars text
marked-characters format.Moodle text = rw (text_marks-characters (chars text)) refl
marked-characters format.Html text = rw (text_marks-characters (chars text)) refl
marked-characters format.Plain text = rw (text_marks-characters (chars text)) refl
marked-characters format.Markdown text = rw (text_marks-characters (chars text)) refl

mark_ink : (f : Format) (text : List ℕ) → (written.begins_ink (format_mark f ++ text) ≡ true) × (written.ends_ink (format_mark f) ≡ true)
mark_ink format.Moodle text = (refl, refl)
mark_ink format.Html text = (refl, refl)
mark_ink format.Plain text = (refl, refl)
mark_ink format.Markdown text = (refl, refl)

trimmed-marked : (f : Format) (text : List ℕ) → IsText text → trimmed (map single (format_mark f) ++ marks_of_text text) ≡ map single (format_mark f) ++ marks_of_text text
trimmed-marked f text is =
    let same = marked-characters f text in
    trimmed-ink (map single (format_mark f) ++ marks_of_text text) (ap written.begins_ink same ∙ (mark_ink f (chars text)).0)
    (ap written.ends_ink same ∙ ends-append (format_mark f) (chars text) (mark_ink f (chars text)).1 is.ends)

-- the format and the marks of the text
abbrev ReadsRich : Format → Rich → Marks → Type 0
ReadsRich default r marks = (unwrap_or (named_format (trimmed marks)) default ≡ r.format) × (shown marks ≡ marks_of_text r.text)

reads-marked : (default f : Format) (text : List ℕ) → IsText text → ReadsRich default (record { format = f; text = text }) (map single (format_mark f) ++ marks_of_text text)
reads-marked default format.Moodle text is = rw (trimmed-marked format.Moodle text is) (refl, trimmed-text text is)
reads-marked default format.Html text is = rw (trimmed-marked format.Html text is) (refl, trimmed-text text is)
reads-marked default format.Plain text is = rw (trimmed-marked format.Plain text is) (refl, trimmed-text text is)
reads-marked default format.Markdown text is = rw (trimmed-marked format.Markdown text is) (refl, trimmed-text text is)

no_format : (cs : List ℕ) → begins_with 91 (encode_utf8_all cs) ≡ false → named_format (text_marks cs) ≡ None
no_format [] none = refl
no_format (c ∷ cs) none = go (c == 91) refl
  where
    go : (b : Bool) → (c == 91) ≡ b → named_format (text_marks (c ∷ cs)) ≡ None
    go true e =
        let is : c ≡ 91 = eqb-true c 91 e in
        let some : begins_with 91 (encode_utf8_all (c ∷ cs)) ≡ true = rw (is, encode_ascii 91 (lit< tt)) refl in
        cc
    go false e = rw (text_mark-character c, e) refl

reads-unmarked : (default : Format) (text : List ℕ) → IsText text → begins_with 91 text ≡ false → ReadsRich default (record { format = default; text = text }) (marks_of_text text)
reads-unmarked default text is none =
    let no_name = no_format (chars text) (ap (begins_with 91) (encodes-chars text is.utf8) ∙ none) in
    rw (trimmed-text text is, no_name) (refl, refl)

reads_rich : (default f : Format) (text : List ℕ) → IsText text → (b : Bool) → (not (same_format default f) || begins_with 91 text) ≡ b
    → ReadsRich default (record { format = f; text = text }) (map single (mark_characters b f) ++ marks_of_text text)
reads_rich default f text is true e = reads-marked default f text is
reads_rich default f text is false e =
    let parts = or_parts (not (same_format default f)) (begins_with 91 text) e in
    let same = same_format-equal default f (not-false (same_format default f) parts.0) in
    rw (← same) (reads-unmarked default text is parts.1)

-- a question's text
pub shown-rich : (default : Format) (r : Rich) → IsText r.text → shown (rich_marks default r) ≡ marks_of_text r.text
shown-rich default r is = (reads_rich default r.format r.text is (is_marked default r) refl).1

pub formatted-rich : (default : Format) (r : Rich) → IsText r.text → formatted default (rich_marks default r) ≡ r
formatted-rich default r is =
    let reads = reads_rich default r.format r.text is (is_marked default r) refl in
    rw (reads.0, reads.1, spelled-own r.text is) refl

-- any other
rich_or_empty : (default : Format) (r whole : Rich) (text : List ℕ) → r.text ≡ text → (text ≡ [] → r.format ≡ default) → whole ≡ r
    → cond (is_nothing text) (record { format = default; text = [] }) whole ≡ r
rich_or_empty default r whole [] is own same = rw (← own refl, ← is) refl
rich_or_empty default r whole (c ∷ cs) is own same = rw (ne_eqb (length (c ∷ cs)) 0 (λ e. omega arith)) same

pub rich_of-rich : (default : Format) (r : Rich) → IsRich default r → rich_of default (rich_marks default r) ≡ r
rich_of-rich default r is =
    let text = ap spelled (shown-rich default r is.text) ∙ spelled-own r.text is.text in
    ap (λ (t : List ℕ). cond (is_nothing t) (record { format = default; text = [] }) (formatted default (rich_marks default r))) text
    ∙ rich_or_empty default r (formatted default (rich_marks default r)) r.text refl is.empty (formatted-rich default r is.text)

-- ---- with white space around

-- what marks tell, by what is left of them
abbrev told_by_trimmed : Format → Marks → Rich
told_by_trimmed default t =
    cond (is_nothing (spelled (behind_format (named_format t) t))) (record { format = default; text = [] }) (record { format = unwrap_or (named_format t) default; text = spelled (behind_format (named_format t) t) })

rich_of-same : (default : Format) (marks other : Marks) → trimmed marks ≡ trimmed other → rich_of default marks ≡ rich_of default other
rich_of-same default marks other same = ap (told_by_trimmed default) same

abbrev IsInk : Marks → Type 0
IsInk marks = (begins_ink marks ≡ true) × (ends_ink marks ≡ true)

ink-rich : (f : Format) (text : List ℕ) → IsText text → (b : Bool) → IsInk (map single (mark_characters b f) ++ marks_of_text text)
ink-rich f text is true =
    let same = marked-characters f text in
    (ap written.begins_ink same ∙ (mark_ink f (chars text)).0, ap written.ends_ink same ∙ ends-append (format_mark f) (chars text) (mark_ink f (chars text)).1 is.ends)
ink-rich f text is false =
    let same = text_marks-characters (chars text) in
    (ap written.begins_ink same ∙ is.begins, ap written.ends_ink same ∙ is.ends)

pub rich_marks-ink : (default : Format) (r : Rich) → IsText r.text → (begins_ink (rich_marks default r) ≡ true) × (ends_ink (rich_marks default r) ≡ true)
rich_marks-ink default r is = ink-rich r.format r.text is (is_marked default r)

pub rich_of-around : (default : Format) (r : Rich) (before_it behind : Marks) → IsRich default r → are_blank before_it ≡ true → are_blank behind ≡ true
    → rich_of default (before_it ++ (rich_marks default r ++ behind)) ≡ r
rich_of-around default r before_it behind is blank blank_behind =
    let ink = rich_marks-ink default r is.text in
    rich_of-same default (before_it ++ (rich_marks default r ++ behind)) (rich_marks default r) (trimmed-around before_it (rich_marks default r) behind blank ink.0 ink.1 blank_behind ∙ sym (trimmed-ink (rich_marks default r) ink.0 ink.1))
    ∙ rich_of-rich default r is

-- where nothing stands, an empty text is read
pub rich_of-nothing : (default : Format) (r : Rich) → IsRich default r → r.text ≡ [] → rich_of default [] ≡ r
rich_of-nothing default r is none = rw (← is.empty none, ← none) refl

-- marks of a text that isn't empty
pub rich_marks-some : (default : Format) (r : Rich) → IsText r.text → is_nothing r.text ≡ false → rich_marks default r ≢ []
rich_marks-some default r is some none = go (chars r.text) refl
  where
    go : (cs : List ℕ) → chars r.text ≡ cs → ⊥
    go [] e =
        let empty : r.text ≡ [] = sym (encodes-chars r.text is.utf8) ∙ ap encode_utf8_all e in
        let nothing : is_nothing r.text ≡ true = rw empty refl in
        cc
    go (c ∷ cs) e =
        let long = ap length none ∙ refl in
        let parts = length-append (map single (mark_characters (is_marked default r) r.format)) (marks_of_text r.text) in
        let text : length (marks_of_text r.text) ≡ suc (length (text_marks cs)) = ap (λ (t : List ℕ). length (text_marks t)) e in
        absurd (omega (arith, long, parts, text))
