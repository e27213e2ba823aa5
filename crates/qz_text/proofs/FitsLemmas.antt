-- Fitting parts to a text: the relation from its first part on, that the test decides it, and that a part may be taken
-- at its first place.
use Rattle.std.proofs.Common.{◌≡◌, ◌↔◌, ℕ, ◌+◌, ◌≤◌, Bool, true, false, nat_eq, get_or, List, [], ◌∷◌, ◌++◌, length, take, drop, Decides, refl, sym, ap, ◌∙◌, subst, ⊎_elim, arith, append_assoc, append-nil, length-append, take-append-drop}
use Rattle.std.proofs.lemmas.Bool.{cases_lt, and_parts, and_from, or_cases, or_left, or_right, false≢true}
use Rattle.std.proofs.lemmas.Bool.Decides.{Decides-eqb}
use Rattle.std.proofs.lemmas.List.{append_cancel_left, get_or_append_left, get_or-append-add, drop-append-le}
use Rattle.std.proofs.lemmas.List.Prefix.{front_rest}
use Rattle.std.proofs.lemmas.Slice.Eq.{slice_eq-Decides, starts_is}
use Rattle.std.specs.Cmp.Lexicographic.{pointwise}
use Rattle.std.specs.List.{list_any, starts_with}
use Rattle.memchr.specs.Find.{OccursAt}
use Rattle.memchr.proofs.lemmas.MatchLemmas.{OccursAt-split}
use Rattle.qz_text.specs.Patterns.{FitsParts, woven, endings, fits_parts}
use Rattle.qz_text.specs.Gaps.{EndingFits, StandsNowhere, FollowsFirst}
use Rattle.qz_text.proofs.PartsLemmas.{HasFirst}

-- ---- the relation, from its first part on

one_part : (part text : List ℕ) (runs : List (List ℕ)) → length runs + 1 ≡ 1 → text ≡ woven (part ∷ []) runs → text ≡ part
one_part part text [] n e = e
one_part part text (run ∷ runs) n e = absurd (omega arith)

pub FitsParts-one : (part text : List ℕ) → FitsParts (part ∷ []) text → text ≡ part
FitsParts-one part text h = one_part part text h.runs h.one_each h.filled

pub FitsParts-from_one : (part text : List ℕ) → text ≡ part → FitsParts (part ∷ []) text
FitsParts-from_one part text e = record { runs = []; one_each = refl; filled = e }

-- the first part, and a text of which some ending fits the later parts
pub record FirstFits (part : List ℕ) (later : List (List ℕ)) (text : List ℕ) : Type 0 where
  pub rest : List ℕ
  pub split : text ≡ part ++ rest
  pub fits : EndingFits later rest

first_of : (part next text : List ℕ) (later runs : List (List ℕ)) → length runs + 1 ≡ length later + 1 + 1 → text ≡ woven (part ∷ next ∷ later) runs → FirstFits part (next ∷ later) text
first_of part next text later [] n e = absurd (omega arith)
first_of part next text later (run ∷ runs) n e =
    record {
      rest = run ++ woven (next ∷ later) runs;
      split = e;
      fits = record {
        front = run;
        ending = woven (next ∷ later) runs;
        split = refl;
        fits = record { runs = runs; one_each = omega arith; filled = refl };
      };
    }

pub FitsParts-first : (part next text : List ℕ) (later : List (List ℕ)) → FitsParts (part ∷ next ∷ later) text → FirstFits part (next ∷ later) text
FitsParts-first part next text later h =
    let n = h.one_each in first_of part next text later h.runs (omega arith) h.filled

pub FitsParts-from_first : (part text : List ℕ) (later : List (List ℕ)) → FirstFits part later text → FitsParts (part ∷ later) text
FitsParts-from_first part text later h =
    let ends = h.fits in
    let tail = ends.fits in
    let n = tail.one_each in
    record {
      runs = ends.front ∷ tail.runs;
      one_each = omega arith;
      filled = h.split ∙ ap (λ l. part ++ l) (ends.split ∙ ap (λ l. ends.front ++ l) tail.filled);
    }

pub FitsParts-front : (part text : List ℕ) (later : List (List ℕ)) → FitsParts (part ∷ later) text → (rest : List ℕ) × (text ≡ part ++ rest)
FitsParts-front part text [] h = ([], FitsParts-one part text h ∙ sym (append-nil part))
FitsParts-front part text (next ∷ later) h = let first = FitsParts-first part next text later h in (first.rest, first.split)

-- behind the first part, some ending fits the later parts
pub FitsParts-after : (part text rest : List ℕ) (later : List (List ℕ)) → HasFirst later → text ≡ part ++ rest → FitsParts (part ∷ later) text ↔ EndingFits later rest
FitsParts-after part text rest later some e = (
  λ h.
      let first = FitsParts-first part some.first text some.later (subst (λ ps. FitsParts (part ∷ ps) text) some.are h) in
      let same : first.rest ≡ rest = append_cancel_left part first.rest rest (sym first.split ∙ e) in
      subst (λ ps. EndingFits ps rest) (sym some.are) (subst (EndingFits (some.first ∷ some.later)) same first.fits),
  λ h. FitsParts-from_first part text later (record { rest = rest; split = e; fits = h }),
)

-- ---- the test

record EndingPasses (test : List ℕ → Bool) (text : List ℕ) : Type 0 where
  front : List ℕ
  ending : List ℕ
  split : text ≡ front ++ ending
  passes : test ending ≡ true

EndingPasses-from_any : (test : List ℕ → Bool) (text : List ℕ) → list_any test (endings text) ≡ true → EndingPasses test text
EndingPasses-from_any test [] h =
    ⊎_elim (λ here. record { front = []; ending = []; split = refl; passes = here }) (λ never. absurd (false≢true never)) (or_cases (test []) false h)
EndingPasses-from_any test (c ∷ cs) h =
    ⊎_elim (λ here. record { front = []; ending = c ∷ cs; split = refl; passes = here })
    (λ later.
    let found = EndingPasses-from_any test cs later in
    record { front = c ∷ found.front; ending = found.ending; split = ap (λ l. c ∷ l) found.split; passes = found.passes })
    (or_cases (test (c ∷ cs)) (list_any test (endings cs)) h)

any_ending : (test : List ℕ → Bool) (front ending : List ℕ) → test ending ≡ true → list_any test (endings (front ++ ending)) ≡ true
any_ending test [] [] h = or_left (test []) false h
any_ending test [] (c ∷ cs) h = or_left (test (c ∷ cs)) (list_any test (endings cs)) h
any_ending test (c ∷ front) ending h =
    or_right (test (c ∷ front ++ ending)) (list_any test (endings (front ++ ending))) (any_ending test front ending h)

pub fits_parts-Decides : (parts : List (List ℕ)) (text : List ℕ) → Decides (fits_parts parts text) (FitsParts parts text)
fits_parts-Decides [] text = (λ e. absurd (false≢true e), λ h. absurd (omega (arith, h.one_each)))
fits_parts-Decides (part ∷ []) text =
    let same = slice_eq-Decides Decides-eqb text part (pointwise nat_eq text part) refl in
    (λ e. FitsParts-from_one part text (same.0 e), λ h. same.1 (FitsParts-one part text h))
fits_parts-Decides (part ∷ next ∷ later) text =
    let begins = starts_is Decides-eqb text part (starts_with nat_eq text part) refl in (
      λ e.
          let both = and_parts (starts_with nat_eq text part) (list_any (fits_parts (next ∷ later)) (endings (drop (length part) text))) e in
          let found = EndingPasses-from_any (fits_parts (next ∷ later)) (drop (length part) text) both.1 in
          FitsParts-from_first part text (next ∷ later) (record {
            rest = drop (length part) text;
            split = begins.0 both.0;
            fits = record {
              front = found.front;
              ending = found.ending;
              split = found.split;
              fits = (fits_parts-Decides (next ∷ later) found.ending).0 found.passes;
            };
          }),
      λ h.
          let first = FitsParts-first part next text later h in
          let ends = first.fits in
          let rest : drop (length part) text ≡ ends.front ++ ends.ending = front_rest text part first.rest first.split ∙ ends.split in
          and_from _ _ (begins.1 first.rest first.split)
          (subst (λ l. list_any (fits_parts (next ∷ later)) (endings l) ≡ true) (sym rest)
          (any_ending (fits_parts (next ∷ later)) ends.front ends.ending ((fits_parts-Decides (next ∷ later) ends.ending).1 ends.fits))),
    )

-- ---- a part at its first place

module _ (text part : List ℕ) where
  OccursAt-after : (front rest : List ℕ) → text ≡ front ++ (part ++ rest) → OccursAt text part (length front)
  OccursAt-after front rest e =
      record {
        fits = omega (arith, ap length e, length-append front (part ++ rest), length-append part rest);
        reads = λ j below. ap (λ t. get_or t (length front + j) 0) e ∙ get_or-append-add front (part ++ rest) j 0 ∙ get_or_append_left part rest 0 j below;
      }

  occurrence : (later : List (List ℕ)) (h : EndingFits (part ∷ later) text) → OccursAt text part (length h.front)
  occurrence later h =
      let found = FitsParts-front part h.ending later h.fits in
      OccursAt-after h.front found.0 (h.split ∙ ap (λ l. h.front ++ l) found.1)

  -- where the part stands nowhere, no ending fits
  pub EndingFits-nowhere : (later : List (List ℕ)) → StandsNowhere part text → EndingFits (part ∷ later) text → ⊥
  EndingFits-nowhere later nowhere h =
      let place = occurrence later h in
      nowhere (length h.front) (omega arith) (omega (arith, place.fits)) place

  -- to take the part at its first place leaves each ending that another place leaves
  EndingFits-first : (next rest : List ℕ) (later : List (List ℕ)) → FollowsFirst part text rest → EndingFits (part ∷ next ∷ later) text → EndingFits (next ∷ later) rest
  EndingFits-first next rest later follows h =
      let found = FitsParts-first part next h.ending later h.fits in
      let ends = found.fits in
      let place = follows.place in
      let whole : text ≡ (h.front ++ (part ++ ends.front)) ++ ends.ending =
      h.split ∙ ap (λ l. h.front ++ l) (found.split ∙ ap (λ l. part ++ l) ends.split ∙ sym (append_assoc part ends.front ends.ending))
      ∙ sym (append_assoc h.front (part ++ ends.front) ends.ending) in
      let low : place ≤ length h.front =
      ⊎_elim (λ before. absurd (follows.first (length h.front) (omega arith) before (occurrence (next ∷ later) h))) (λ le. le) (cases_lt (length h.front) place) in
      record {
        front = drop (place + length part) (h.front ++ (part ++ ends.front));
        ending = ends.ending;
        split =
            follows.after ∙ ap (drop (place + length part)) whole
            ∙ drop-append-le (place + length part) (h.front ++ (part ++ ends.front)) ends.ending (omega (arith, low, length-append h.front (part ++ ends.front), length-append part ends.front));
        fits = ends.fits;
      }

  EndingFits-from_first : (rest : List ℕ) (later : List (List ℕ)) → FollowsFirst part text rest → EndingFits later rest → EndingFits (part ∷ later) text
  EndingFits-from_first rest later follows h =
      let place = follows.place in
      record {
        front = take place text;
        ending = part ++ rest;
        split =
            sym (take-append-drop place text) ∙ ap (λ l. take place text ++ l) (OccursAt-split text part place follows.stands ∙ ap (λ l. part ++ l) (sym follows.after));
        fits = FitsParts-from_first part (part ++ rest) later (record { rest = rest; split = refl; fits = h });
      }

  pub EndingFits-after : (rest : List ℕ) (later : List (List ℕ)) → HasFirst later → FollowsFirst part text rest → EndingFits (part ∷ later) text ↔ EndingFits later rest
  EndingFits-after rest later some follows = (
    λ h.
        subst (λ ps. EndingFits ps rest) (sym some.are)
        (EndingFits-first some.first rest some.later follows (subst (λ ps. EndingFits (part ∷ ps) text) some.are h)),
    EndingFits-from_first rest later follows,
  )

-- the last part ends the text
pub EndingFits-last : (text part : List ℕ) → EndingFits (part ∷ []) text → (front : List ℕ) × (text ≡ front ++ part)
EndingFits-last text part h = (h.front, h.split ∙ ap (λ l. h.front ++ l) (FitsParts-one part h.ending h.fits))

pub EndingFits-from_last : (text part front : List ℕ) → text ≡ front ++ part → EndingFits (part ∷ []) text
EndingFits-from_last text part front e = record { front = front; ending = part; split = e; fits = FitsParts-from_one part part refl }
