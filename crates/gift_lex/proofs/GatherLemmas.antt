-- Blocks gathered line by line are the groups of the lines.
use Rattle.std.proofs.Common.{◌≡◌, Bool, true, false, cond, not, ◌&&◌, List, [], ◌∷◌, ◌++◌, map, Option, Some, None, refl, sym, ap, ◌∙◌, append_assoc}
use Rattle.std.specs.List.{filter, slice_split, onto_first, flat_map, join_by}
use Rattle.std.proofs.Math.Bool.{and_assoc, and-true}
use Rattle.std.proofs.lemmas.List.{append-nil}
use Rattle.std.proofs.lemmas.List.Folds.{list_all-append}
use Rattle.std.proofs.lemmas.Grind.{flat_map-append}
use Rattle.gift_lex.specs.declared.block.Block.{Block}
use Rattle.gift_lex.specs.declared.block.Piece.TheVariants.{Plain}
use Rattle.gift_lex.specs.declared.gathering.Started.{Started}
use Rattle.gift_lex.specs.Blocks.{Line, line_feed, is_blank_line, is_comment, is_category, runs, cut, only_comments, groups, line_marks, last_number, block_of}
use Rattle.gift_lex.specs.Gathering.{at_front, grown, ended, gathered}

-- ---- the block that has started with some lines

abbrev started_by : List Line → Option Started
started_by [] = None
started_by (line ∷ lines) = Some (record {
  line = line.0;
  last_line = last_number (line ∷ lines);
  marks = join_by line_marks (Plain line_feed ∷ []) (line ∷ lines);
  only_comments = only_comments (line ∷ lines);
})

last_number-push : (lines : List Line) (line : Line) → last_number (lines ++ line ∷ []) ≡ line.0
last_number-push [] line = refl
last_number-push (a ∷ []) line = refl
last_number-push (a ∷ b ∷ lines) line = last_number-push (b ∷ lines) line

-- a further line joins it
started_by-push : (lines : List Line) (line : Line) → started_by (lines ++ line ∷ []) ≡ Some (grown (started_by lines) line)
started_by-push [] line = rw (append-nil, and-true) refl
started_by-push (a ∷ lines) line =
    let behind = λ (l : Line). (Plain line_feed ∷ []) ++ line_marks l in
    rw (last_number-push (a ∷ lines) line, flat_map-append behind lines (line ∷ []), list_all-append (λ (l : Line). is_comment l.1) lines (line ∷ []), append-nil) (simp (append_assoc, and_assoc, and-true))

at_front-started : (lines : List Line) → at_front (started_by lines) ≡ only_comments lines
at_front-started [] = refl
at_front-started (a ∷ lines) = refl

-- ---- the blocks of groups of lines

abbrev blocks : List (List Line) → List Block
blocks parts = map block_of (filter (λ part. not (only_comments part)) parts)

ended-started : (lines : List Line) → ended (started_by lines) ≡ blocks (lines ∷ [])
ended-started [] = refl
ended-started (a ∷ lines) = go (only_comments (a ∷ lines))
  where
    go : (b : Bool) → cond b [] (block_of (a ∷ lines) ∷ []) ≡ map block_of (cond (not b) ((a ∷ lines) ∷ []) [])
    go true = refl
    go false = refl

blocks-cons : (part : List Line) (parts : List (List Line)) → blocks (part ∷ parts) ≡ blocks (part ∷ []) ++ blocks parts
blocks-cons part parts = go (not (only_comments part))
  where
    go : (b : Bool) → map block_of (cond b (part ∷ filter (λ part. not (only_comments part)) parts) (filter (λ part. not (only_comments part)) parts)) ≡ map block_of (cond b (part ∷ []) []) ++ blocks parts
    go true = refl
    go false = refl

-- ---- the groups of lines behind those that stand in a block already

-- such lines, put before the first part
abbrev onto : List Line → List (List Line) → List (List Line)
onto lines [] = lines ∷ []
onto lines (part ∷ parts) = (lines ++ part) ∷ parts

onto-nil : (parts : List (List Line)) → blocks (onto [] parts) ≡ blocks parts
onto-nil [] = refl
onto-nil (part ∷ parts) = refl

-- where the first run goes on with a block
abbrev cut_runs : Bool → List (List Line) → List (List Line)
cut_runs front [] = []
cut_runs front (run ∷ later) = cut front run ++ flat_map (cut true) later

cut_runs-true : (parts : List (List Line)) → cut_runs true parts ≡ flat_map (cut true) parts
cut_runs-true [] = refl
cut_runs-true (part ∷ parts) = refl

-- some list is the first
pub record HasFirst {X : Type 0} (parts : List (List X)) : Type 0 where
  first : List X
  later : List (List X)
  split : parts ≡ first ∷ later

onto_first-first : {X : Type 0} (x : X) (parts : List (List X)) → HasFirst (onto_first x parts)
onto_first-first x [] = record { first = x ∷ []; later = []; split = refl }
onto_first-first x (part ∷ parts) = record { first = x ∷ part; later = parts; split = refl }

slice_split-first : {X : Type 0} (p : X → Bool) (xs : List X) → HasFirst (slice_split p xs)
slice_split-first p [] = record { first = []; later = []; split = refl }
slice_split-first p (x ∷ xs) = go (p x)
  where
    go : (b : Bool) → HasFirst (cond b ([] ∷ slice_split p xs) (onto_first x (slice_split p xs)))
    go true = record { first = []; later = slice_split p xs; split = refl }
    go false = onto_first-first x (slice_split p xs)

cut-first : (front : Bool) (lines : List Line) → HasFirst (cut front lines)
cut-first front [] = record { first = []; later = []; split = refl }
cut-first front (line ∷ lines) = go (front && is_category line.1)
  where
    go : (b : Bool) → HasFirst (cond b ((line ∷ []) ∷ cut true lines) (onto_first line (cut (front && is_comment line.1) lines)))
    go true = record { first = line ∷ []; later = cut true lines; split = refl }
    go false = onto_first-first line (cut (front && is_comment line.1) lines)

-- ---- one line more

-- a blank line ends the block
step-blank : (before : List Line) (later : List Block) (parts : List (List Line)) → later ≡ blocks (cut_runs true parts)
    → ended (started_by before) ++ later ≡ blocks (onto before (cut_runs (only_comments before) ([] ∷ parts)))
step-blank before later parts e =
    rw (append-nil, blocks-cons before (flat_map (cut true) parts), ended-started before, e, cut_runs-true parts) refl

-- so does a category line at its front
step-category : (before : List Line) (line : Line) (later : List Block) (parts : List (List Line)) → HasFirst parts → (only_comments before && is_category line.1) ≡ true → later ≡ blocks (cut_runs true parts)
    → ended (Some (grown (started_by before) line)) ++ later ≡ blocks (onto before (cut_runs (only_comments before) (onto_first line parts)))
step-category before line later parts has ends e =
    let whole : ended (Some (grown (started_by before) line)) ≡ blocks ((before ++ line ∷ []) ∷ []) =
    ap ended (sym (started_by-push before line)) ∙ ended-started (before ++ line ∷ []) in
    let behind = rw has.split at e in
    rw (has.split, ends, blocks-cons (before ++ line ∷ []) (cut_runs true (has.first ∷ has.later)))
    (ap (λ (b : List Block). b ++ later) whole ∙ ap (λ (b : List Block). blocks ((before ++ line ∷ []) ∷ []) ++ b) behind)

-- any other joins it
step-other : (before : List Line) (line : Line) (later : List Block) (parts : List (List Line)) → HasFirst parts → (only_comments before && is_category line.1) ≡ false
    → later ≡ blocks (onto (before ++ line ∷ []) (cut_runs (only_comments (before ++ line ∷ [])) parts))
    → later ≡ blocks (onto before (cut_runs (only_comments before) (onto_first line parts)))
step-other before line later parts has joins e =
    let test : only_comments (before ++ line ∷ []) ≡ (only_comments before && is_comment line.1) =
    list_all-append (λ (l : Line). is_comment l.1) before (line ∷ []) ∙ rw and-true refl in
    let cut_has = cut-first (only_comments before && is_comment line.1) has.first in
    e ∙ rw (has.split, joins, test, cut_has.split, append_assoc) refl

-- ---- the theorem

gathered-onto : (before lines : List Line) → gathered (started_by before) lines ≡ blocks (onto before (cut_runs (only_comments before) (runs lines)))
gathered-onto before [] = rw append-nil (ended-started before)
gathered-onto before (line ∷ later) =
    rw (at_front-started before) (go (is_blank_line line.1) (only_comments before && is_category line.1) refl (gathered-onto [] later ∙ onto-nil (cut_runs true (runs later))) (ap (λ s. gathered s later) (sym (started_by-push before line)) ∙ gathered-onto (before ++ line ∷ []) later))
  where
    go : (blank ends : Bool) → (only_comments before && is_category line.1) ≡ ends → gathered None later ≡ blocks (cut_runs true (runs later))
        → gathered (Some (grown (started_by before) line)) later ≡ blocks (onto (before ++ line ∷ []) (cut_runs (only_comments (before ++ line ∷ [])) (runs later)))
        → cond blank (ended (started_by before) ++ gathered None later) (cond ends (ended (Some (grown (started_by before) line)) ++ gathered None later) (gathered (Some (grown (started_by before) line)) later))
        ≡ blocks (onto before (cut_runs (only_comments before) (cond blank ([] ∷ runs later) (onto_first line (runs later)))))
    go true ends is none more = step-blank before (gathered None later) (runs later) none
    go false true is none more = step-category before line (gathered None later) (runs later) (slice_split-first (λ l. is_blank_line l.1) later) is none
    go false false is none more = step-other before line (gathered (Some (grown (started_by before) line)) later) (runs later) (slice_split-first (λ l. is_blank_line l.1) later) is more

-- gathered line by line, the blocks are those of the groups
pub gathered-groups : (lines : List Line) → gathered None lines ≡ map block_of (groups lines)
gathered-groups lines = gathered-onto [] lines ∙ onto-nil (cut_runs true (runs lines)) ∙ ap blocks (cut_runs-true (runs lines))
