-- What the first records of a catalogue tell of a quiz's questions stays, whatever comes behind them.
use Rattle.std.proofs.Common.{◌≡◌, ℕ, ◌+◌, ◌-◌, true, List, [], ◌∷◌, ◌++◌, Option, Some, None, map, take, drop, refl, sym, ap, subst, ◌∙◌}
use Rattle.std.specs.List.{enumerate_from, list_all}
use Rattle.std.specs.Prelude.{ℤ, is_some}
use Rattle.std.proofs.lemmas.List.{take-append-drop}
use Rattle.qz_grading.specs.declared.question.Question.{Question}
use Rattle.qz_grading.specs.Grading.{at_place}
use Rattle.qz_terms.specs.declared.plan.Planned.{Planned}
use Rattle.qz_terms.specs.declared.record.Record.{Record}
use Rattle.qz_terms.specs.Catalog.{entries, latest, questions, slots, slots_made, version}
use Rattle.qz_terms.specs.Legal.{IsLegalCatalog}
use Rattle.qz_terms.proofs.Staying.{version-stays}
use Rattle.qz_catalog.specs.Readings.{slot_over}
use Rattle.qz_catalog.proofs.Bounds.{legal-before}
use Rattle.qz_catalog.proofs.Marks.{and-left, and-right, first-entries, newest-there}

-- ---- the questions of slots

same-version : (c rest : List Record) (e n : ℕ) (o : Option Question) → version c e n ≡ o → is_some o ≡ true → version (c ++ rest) e n ≡ o
same-version c rest e n None is there = absurd cc
same-version c rest e n (Some q) is there = version-stays c rest e n q is

questions-step : (c g : List Record) (s : Planned) (ss : List Planned) (o : Option Question) → version c s.entry s.version ≡ o → version g s.entry s.version ≡ o → questions g ss ≡ questions c ss → questions g (s ∷ ss) ≡ questions c (s ∷ ss)
questions-step c g s ss None is also rest = rw (is, also) rest
questions-step c g s ss (Some q) is also rest = rw (is, also) (ap (λ (qs : List Question). q ∷ qs) rest)

questions-over : (c rest : List Record) (q k : ℕ) (ss : List (ℕ × ℤ)) → list_all (λ (s : ℕ × ℤ). is_some (at_place (entries c) s.0)) ss ≡ true → questions (c ++ rest) (map (slot_over c q) (enumerate_from k ss)) ≡ questions c (map (slot_over c q) (enumerate_from k ss))
questions-over c rest q k [] all = refl
questions-over c rest q k (s ∷ ss) all =
    let here = newest-there c s.0 (and-left (is_some (at_place (entries c) s.0)) (list_all (λ (t : ℕ × ℤ). is_some (at_place (entries c) t.0)) ss) all) in
    questions-step c (c ++ rest) (slot_over c q (k, s)) (map (slot_over c q) (enumerate_from (k + 1) ss)) (version c s.0 (latest c s.0)) refl (same-version c rest s.0 (latest c s.0) (version c s.0 (latest c s.0)) refl here)
    (questions-over c rest q (k + 1) ss (and-right (is_some (at_place (entries c) s.0)) (list_all (λ (t : ℕ × ℤ). is_some (at_place (entries c) t.0)) ss) all))

pub front-legal : (c : List Record) (n : ℕ) → IsLegalCatalog c → IsLegalCatalog (take n c)
front-legal c n legal = legal-before (take n c) (drop n c) (subst IsLegalCatalog (sym (take-append-drop n c)) legal)

-- those of a quiz's slots over the first records
pub questions-stay : (c : List Record) (n q : ℕ) → IsLegalCatalog c → questions c (slots (take n c) q) ≡ questions (take n c) (slots (take n c) q)
questions-stay c n q legal =
    ap (λ (l : List Record). questions l (slots (take n c) q)) (sym (take-append-drop n c))
    ∙ questions-over (take n c) (drop n c) q 1 (slots_made (take n c) q) (first-entries (take n c) q (front-legal c n legal))
