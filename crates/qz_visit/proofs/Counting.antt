-- How many records were seen of each list, without a request's own.
use Rattle.std.proofs.Common.{◌≡◌, ◌⊎◌, inl, inr, ℕ, ◌+◌, ◌<◌, ◌≤◌, true, false, List, [], ◌∷◌, Option, Some, None, IfSome, length, refl, sym, ap, ◌∙◌, subst, arith}
use Rattle.std.specs.Prelude.{slice_get, slice_set}
use Rattle.std.proofs.lemmas.List.{length-append, length-map, length-set}
use Rattle.std.proofs.lemmas.Option.{slice_get_within}
use Rattle.qz_catalog_turns.specs.declared.replied.OwnRecord.{OwnRecord}
use Rattle.qz_catalog_turns.specs.declared.replied.OwnRecord.TheVariants as own
use Rattle.qz_catalog_turns.specs.Owning.{Leaves, absent, in_doubt, stands}
use Rattle.qz_serial.proofs.Seats.{set_apart, set_get, within_there}
use Rattle.qz_terms.specs.declared.ask.Ask.{Ask}
use Rattle.qz_terms.specs.declared.record.Record.{Record}
use Rattle.qz_terms.specs.Serial.{Held, is_catalog, is_part}
use Rattle.qz_turn.specs.declared.view.Tale.{Tale}
use Rattle.qz_visit.specs.declared.last.Last.{Last}
use Rattle.qz_visit.specs.declared.last.Said.{Said}
use Rattle.qz_visit.specs.Visits.{AreLeft, Asked, AsksInTurn, IsNamed, IsUnasked, Owns, Seats, Visited, own_if, own_kept, seen_by, seen_in, without_own}
use Rattle.qz_visit.specs.Ways.{Part}
use Rattle.qz_visit.proofs.Reporting.{count_found, count_told}

-- ---- one list after the other

-- the first so many were counted
pub record LeftTo (o : OwnRecord) (part : Option ℕ) (tales : List (Tale Record)) (counts : List ℕ) (n : ℕ) : Type 0 where
  pub many : length counts ≡ length tales
  pub each : (k : ℕ) (t : Tale Record) → k < n → slice_get tales k ≡ Some t → slice_get counts k ≡ Some (without_own (own_if (is_part k part) o) (length t.list))

pub left_none : (o : OwnRecord) (part : Option ℕ) (tales : List (Tale Record)) (counts : List ℕ) → length counts ≡ length tales → LeftTo o part tales counts 0
left_none o part tales counts many = record { many = many; each = λ k t within at. absurd (omega (arith, within)) }

pub left_one : (o : OwnRecord) (part : Option ℕ) (tales : List (Tale Record)) (counts : List ℕ) (n x : ℕ) (t : Tale Record) → LeftTo o part tales counts n → slice_get tales n ≡ Some t → x ≡ without_own (own_if (is_part n part) o) (length t.list)
    → LeftTo o part tales (slice_set counts n x) (n + 1)
left_one o part tales counts n x t so at is = record {
  many = length-set counts n x ∙ so.many;
  each = λ k s within there. elim (lower n k within) [
    | inl less ↦ set_apart counts n k x (apart n k less) ∙ so.each k s less there
    | inr same ↦
        let here : slice_get tales k ≡ Some t = subst (λ (i : ℕ). slice_get tales i ≡ Some t) (sym same) at in
        let one : t ≡ s = some-is t s (sym here ∙ there) in
        let old = within_there counts n (let inside = slice_get_within tales n t at in let long = so.many in omega (arith, inside, long)) in
        let put : slice_get (slice_set counts n x) n ≡ Some x = set_get counts n old.0 x old.1 in
        let value : x ≡ without_own (own_if (is_part k part) o) (length s.list) = is ∙ ap (λ (i : ℕ). without_own (own_if (is_part i part) o) (length t.list)) (sym same) ∙ ap (λ (y : Tale Record). without_own (own_if (is_part k part) o) (length y.list)) one in
        subst (λ (i : ℕ). slice_get (slice_set counts n x) i ≡ Some (without_own (own_if (is_part k part) o) (length s.list))) (sym same) (put ∙ ap (λ (y : ℕ). Some y) value)
  ];
}
  where
    lower : (n k : ℕ) → k < n + 1 → (k < n) ⊎ (k ≡ n)
    lower n k within = grind (arith, within)

    apart : (n k : ℕ) → k < n → k ≡ n → ⊥
    apart n k less same = absurd (omega (arith, less, same))

    some-is : (a b : Tale Record) → Some a ≡ Some b → a ≡ b
    some-is a b e = cc

pub left_all : (o : OwnRecord) (part : Option ℕ) (tales : List (Tale Record)) (counts : List ℕ) (n : ℕ) → length tales ≤ n → LeftTo o part tales counts n → AreLeft o part tales counts
left_all o part tales counts n all so = record {
  many = so.many;
  each = λ k t at. so.each k t (let inside = slice_get_within tales k t at in omega (arith, inside, all)) at;
}

-- ---- what is kept of a request

left-count : (m n : Held) (o : OwnRecord) → Leaves m n o → without_own o (length n.list) ≡ length m.list
left-count _ _ _ (absent h) = refl
left-count _ _ _ (stands l r) = let long = length-append l (r ∷ []) in omega (arith, long)
left-count _ _ _ (in_doubt l r) = refl

pub asked_by : (old new : Seats) (last : Last) (now : ℕ) (ask : Ask) (said : Said) → Visited old new now ask said → last.list ≡ said.list → own_kept last.put last.doubt ≡ said.own
    → last.catalog ≡ without_own (own_if (is_catalog said.list) said.own) (length new.records.seen.list) → AreLeft said.own said.list (seen_by new.parts) last.parts → AsksInTurn old.records new.records ask → Asked old new last now ask said.reply
asked_by old new last now ask said v list_is own_is catalog parts in_turn = record {
  visited = record {
    found = v.found;
    records = v.records;
    parts = v.parts;
    once = v.once;
    owns = subst (λ (p : Option ℕ). Owns v.found (seen_in new) p (own_kept last.put last.doubt)) (sym list_is) (subst (λ (o : OwnRecord). Owns v.found (seen_in new) said.list o) (sym own_is) v.owns);
    named = subst (λ (p : Option ℕ). IsNamed v.found.records.list old.parts new.parts ask p said.reply) (sym list_is) v.named;
  };
  in_turn = in_turn;
  catalog = catalog ∙ left-count _ _ _ v.owns.records;
  parts = record {
    many = parts.many ∙ length-map new.parts (λ (p : Part). p.seen) ∙ sym many;
    each = λ k t at.
        let within = slice_get_within v.found.parts k t at in
        let long = length-map new.parts (λ (p : Part). p.seen) in
        let seen = within_there (seen_by new.parts) k (omega (arith, within, long, many)) in
        parts.each k seen.0 seen.1 ∙ ap (λ (n : ℕ). Some n) (left-count _ _ _ (v.owns.parts k t seen.0 at seen.1));
  };
}
  where
    many : length v.found.parts ≡ length new.parts
    many = count_told old.parts new.parts v.found.parts v.parts ∙ sym (count_found old.parts new.parts v.found.parts v.parts)

-- before the first one
pub unasked : (p : Seats) (last : Last) → last.catalog ≡ length p.records.seen.list → AreLeft own.Absent last.list (seen_by p.parts) last.parts → last.list ≡ None → own_kept last.put last.doubt ≡ own.Absent → IsUnasked p last
unasked p last catalog parts list_is own_is = record {
  catalog = catalog;
  parts = record { many = parts.many; each = λ k t at. parts.each k t at ∙ ap (λ (n : ℕ). Some n) (none-off (is_part k last.list) (length t.list)) };
  list = list_is;
  own = own_is;
}
  where
    none-off : (b : _) (n : ℕ) → without_own (own_if b own.Absent) n ≡ n
    none-off true n = refl
    none-off false n = refl
