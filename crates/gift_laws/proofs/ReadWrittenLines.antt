-- The lines of a text, and the lines of each of its blocks.
use Rattle.std.proofs.Common.{◌≡◌, ℕ, Bool, true, false, cond, not, ◌&&◌, ◌==◌, List, [], ◌∷◌, refl, sym, ap, ◌∙◌}
use Rattle.std.specs.List.{list_all, onto_first, flat_map}
use Rattle.std.specs.Str.{IsUtf8, chars}
use lib.Utf8.{scalar}
use Rattle.std.proofs.lemmas.Bool.{and_parts, and_from, cond_both}
use Rattle.std.proofs.lemmas.Str.{scalars-chars}
use Rattle.gift_lex.specs.Blocks.{line_feed, carriage_return, byte_order_mark, without_order_mark, plain_break, with_plain_breaks, characters, Line, between_feeds, lines_of, is_blank_line, is_comment, is_category, runs, cut, only_comments, groups}
use Rattle.gift_laws.proofs.ReadBackWriting.{scalars-all}
use Rattle.gift_laws.proofs.ListLemmas.{list_all-both, flat_map-kept, filter-kept, enumerate-kept, onto_first-kept, slice_split-kept}
use Rattle.gift_laws.proofs.ReadWrittenTexts.{is_good}

-- ---- characters

plain_break-good : (c : ℕ) → scalar c ≡ true → is_good (plain_break c) ≡ true
plain_break-good c is = cond_both (c == carriage_return) line_feed c (λ (d : ℕ). is_good d ≡ true) (λ e. refl) (λ e. and_from _ _ is (ap not e))

with_plain_breaks-good : (cs : List ℕ) → list_all scalar cs ≡ true → list_all is_good (with_plain_breaks cs) ≡ true
with_plain_breaks-good [] all = refl
with_plain_breaks-good (c ∷ []) all = and_from _ _ (plain_break-good c (and_parts (scalar c) true all).0) refl
with_plain_breaks-good (c ∷ d ∷ cs) all =
    let parts = and_parts (scalar c) (list_all scalar (d ∷ cs)) all in
    let later = and_parts (scalar d) (list_all scalar cs) parts.1 in
    let both = with_plain_breaks-good cs later.1 in
    let one = with_plain_breaks-good (d ∷ cs) parts.1 in
    cond_both (c == carriage_return && d == line_feed) (line_feed ∷ with_plain_breaks cs) (plain_break c ∷ with_plain_breaks (d ∷ cs)) (λ (t : List ℕ). list_all is_good t ≡ true)
    (λ e. both) (λ e. and_from _ _ (plain_break-good c parts.0) one)

without_order_mark-scalars : (cs : List ℕ) → list_all scalar cs ≡ true → list_all scalar (without_order_mark cs) ≡ true
without_order_mark-scalars [] all = refl
without_order_mark-scalars (c ∷ cs) all =
    cond_both (c == byte_order_mark) cs (c ∷ cs) (λ (t : List ℕ). list_all scalar t ≡ true) (λ e. (and_parts (scalar c) (list_all scalar cs) all).1) (λ e. all)

characters-good : (text : List ℕ) → IsUtf8 text → list_all is_good (characters text) ≡ true
characters-good text utf8 =
    with_plain_breaks-good (without_order_mark (chars text)) (without_order_mark-scalars (chars text) (sym (scalars-all (chars text)) ∙ scalars-chars text utf8))

-- ---- lines

-- a character that may stand in a line
abbrev pub is_inner : ℕ → Bool
is_inner c = is_good c && not (c == line_feed)

abbrev has_inner : Line → Bool
has_inner line = list_all is_inner line.1

-- a line of a block isn't blank
abbrev pub is_line : Line → Bool
is_line line = has_inner line && not (is_blank_line line.1)

lines-inner : (text : List ℕ) → IsUtf8 text → list_all has_inner (lines_of text) ≡ true
lines-inner text utf8 =
    enumerate-kept (list_all is_inner) 1 (between_feeds (characters text)) (slice_split-kept (λ c. c == line_feed) is_good (characters text) (characters-good text utf8))

-- ---- the lines of a block

abbrev is_none : List Line → Bool
is_none [] = true
is_none (line ∷ later) = false

-- a category line that only comments stand before is the last
abbrev pub is_closed : List Line → Bool
is_closed [] = true
is_closed (line ∷ later) = cond (is_category line.1) (is_none later) (cond (is_comment line.1) (is_closed later) true)

abbrev pub is_group : List Line → Bool
is_group group = list_all is_line group && is_closed group

cut-lines : (at_front : Bool) (lines : List Line) → list_all is_line lines ≡ true → list_all (list_all is_line) (cut at_front lines) ≡ true
cut-lines at_front [] all = refl
cut-lines at_front (line ∷ lines) all =
    let parts = and_parts (is_line line) (list_all is_line lines) all in
    cond_both (at_front && is_category line.1) ((line ∷ []) ∷ cut true lines) (onto_first line (cut (at_front && is_comment line.1) lines)) (λ (t : List (List Line)). list_all (list_all is_line) t ≡ true)
    (λ e. and_from _ _ (and_from _ _ parts.0 refl) (cut-lines true lines parts.1))
    (λ e. onto_first-kept is_line line (cut (at_front && is_comment line.1) lines) parts.0 (cut-lines (at_front && is_comment line.1) lines parts.1))

abbrev first_closed : List (List Line) → Bool
first_closed [] = true
first_closed (group ∷ later) = is_closed group

abbrev later_closed : List (List Line) → Bool
later_closed [] = true
later_closed (group ∷ later) = list_all is_closed later

all_closed : (parts : List (List Line)) → first_closed parts ≡ true → later_closed parts ≡ true → list_all is_closed parts ≡ true
all_closed [] first later = refl
all_closed (group ∷ parts) first later = and_from _ _ first later

later-onto : (line : Line) (parts : List (List Line)) → later_closed parts ≡ true → later_closed (onto_first line parts) ≡ true
later-onto line [] later = refl
later-onto line (group ∷ parts) later = later

cut-first : (lines : List Line) → first_closed (cut true lines) ≡ true
cut-first [] = refl
cut-first (line ∷ lines) = go (cut-first lines) (is_category line.1) refl (is_comment line.1) refl
  where
    onto : (parts : List (List Line)) → (is_category line.1 ≡ false) → (is_comment line.1 ≡ true → first_closed parts ≡ true) → first_closed (onto_first line parts) ≡ true
    onto [] no_category first = rw no_category (cond_both (is_comment line.1) true true (λ (b : Bool). b ≡ true) (λ e. refl) (λ e. refl))
    onto (group ∷ parts) no_category first = rw no_category (cond_both (is_comment line.1) (is_closed group) true (λ (b : Bool). b ≡ true) first (λ e. refl))

    go : first_closed (cut true lines) ≡ true → (category : Bool) → is_category line.1 ≡ category → (comment : Bool) → is_comment line.1 ≡ comment → first_closed (cond category ((line ∷ []) ∷ cut true lines) (onto_first line (cut comment lines))) ≡ true
    go first true e comment is = rw e refl
    go first false e true is = onto (cut true lines) e (λ _. first)
    go first false e false is = onto (cut false lines) e (λ other. cc)

cut-later : (at_front : Bool) (lines : List Line) → later_closed (cut at_front lines) ≡ true
cut-later at_front [] = refl
cut-later at_front (line ∷ lines) =
    cond_both (at_front && is_category line.1) ((line ∷ []) ∷ cut true lines) (onto_first line (cut (at_front && is_comment line.1) lines)) (λ (t : List (List Line)). later_closed t ≡ true)
    (λ e. all_closed (cut true lines) (cut-first lines) (cut-later true lines))
    (λ e. later-onto line (cut (at_front && is_comment line.1) lines) (cut-later (at_front && is_comment line.1) lines))

cut-groups : (lines : List Line) → list_all is_line lines ≡ true → list_all is_group (cut true lines) ≡ true
cut-groups lines all = list_all-both (list_all is_line) is_closed (cut true lines) (cut-lines true lines all) (all_closed (cut true lines) (cut-first lines) (cut-later true lines))

pub groups-are : (text : List ℕ) → IsUtf8 text → list_all is_group (groups (lines_of text)) ≡ true
groups-are text utf8 =
    let lines = lines_of text in
    let run = slice_split-kept (λ (line : Line). is_blank_line line.1) has_inner lines (lines-inner text utf8) in
    filter-kept is_group (λ (group : List Line). not (only_comments group)) (flat_map (cut true) (runs lines)) (flat_map-kept (list_all is_line) is_group (cut true) cut-groups (runs lines) run)
