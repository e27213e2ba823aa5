-- A page: one part more at a time, and the feedback of a response.
use Rattle.std.proofs.Common.{◌≡◌, ℕ, suc, ◌+◌, Bool, true, false, not, List, [], ◌∷◌, ◌++◌, Some, None, append-nil, map, take, refl, sym, ap, ◌∙◌, arith}
use Rattle.std.specs.List.{prefix_len}
use Rattle.std.specs.Prelude.{filter_map}
use Rattle.qz_grading.specs.declared.refusal.AttemptId.{AttemptId}
use Rattle.qz_grading.specs.declared.response.Step.{Step}
use Rattle.qz_grading.specs.Steps.{before, is_finish}
use Rattle.qz_terms.specs.declared.record.Record.{Record}
use Rattle.qz_terms.specs.declared.reply.Part.{Part}
use Rattle.qz_terms.specs.History.{Slot, slot}
use Rattle.qz_terms.specs.Lists.{places_to}
use Rattle.qz_terms.specs.Parts.{part}
use Rattle.qz_book.proofs.PlayLemmas.{slots-more}

-- ---- a part for each slot

abbrev pub parts_to : Bool → List Record → AttemptId → ℕ → List Part
parts_to visible h a n = map (part visible) (filter_map (slot h a) (places_to n))

pub parts-more : (visible : Bool) (h : List Record) (a : AttemptId) (n : ℕ) (ps : List Part) (p : Part) (s : Slot) → ps ≡ parts_to visible h a n → slot h a (n + 1) ≡ Some s → p ≡ part visible s → ps ++ p ∷ [] ≡ parts_to visible h a (n + 1)
parts-more visible h a n ps p s so_far is made =
    ap (λ (t : List Part). t ++ p ∷ []) so_far
    ∙ ap (λ (q : Part). parts_to visible h a n ++ q ∷ []) made
    ∙ sym (slots-more (part visible) h a n (Some s) is)

pub parts-same : (visible : Bool) (h : List Record) (a : AttemptId) (n : ℕ) (ps : List Part) → ps ≡ parts_to visible h a n → slot h a (n + 1) ≡ None → ps ≡ parts_to visible h a (n + 1)
parts-same visible h a n ps so_far is = so_far ∙ sym (append-nil (parts_to visible h a n)) ∙ sym (slots-more (part visible) h a n None is)

-- ---- steps before a finish

before-more : (x : Step) (s : List Step) (b : Bool) → is_finish x ≡ b → take (prefix_len (λ y. not (is_finish y)) s) s ≡ before s → take (prefix_len (λ y. not (is_finish y)) (x ∷ s)) (x ∷ s) ≡ before (x ∷ s)
before-more x s true is rest = rw is refl
before-more x s false is rest =
    let more : 1 + prefix_len (λ y. not (is_finish y)) s ≡ suc (prefix_len (λ y. not (is_finish y)) s) = omega arith in
    rw (is, more) (ap (λ (t : List Step). x ∷ t) rest)

pub before_front : (s : List Step) → take (prefix_len (λ y. not (is_finish y)) s) s ≡ before s
before_front [] = refl
before_front (x ∷ s) = before-more x s (is_finish x) refl (before_front s)
