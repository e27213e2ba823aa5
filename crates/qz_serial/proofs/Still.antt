-- A request that puts nothing leaves lists that are settled as they are.
use Rattle.std.proofs.Common.{◌≡◌, ℕ, zero, suc, true, false, ◌||◌, List, [], ◌∷◌, Option, Some, None, length, drop, refl, sym, ap, ◌∙◌}
use Rattle.std.specs.Prelude.{is_some, slice_get, slice_set, unwrap_or}
use Rattle.qz_terms.specs.declared.ask.Ask.{Ask}
use Rattle.qz_terms.specs.declared.record.Record.{Record}
use Rattle.qz_terms.specs.SchoolAnswer.{catalog_list, shard_list}
use Rattle.qz_terms.specs.Serial.{Held, Lists, added, added_to_part, is_in_doubt, is_settled, lists_over, part_list, part_read, parts_over, puts_record, with_list}
use Rattle.qz_serial.proofs.Over.{records_same}
use Rattle.qz_serial.proofs.Seats.{list_at, same_held, set_same}

-- a request puts nothing
pub record PutsNothing (m : Lists) (now : ℕ) (ask : Ask) : Type 0 where
  pub records : catalog_list m.records.list now ask ≡ m.records.list
  pub part : (k : ℕ) → part_read m ask ≡ Some k → shard_list m.records.list (part_list m k) now ask ≡ part_list m k

-- of a list that is read none is in doubt, or it isn't there
abbrev pub IsPartClear : Lists → Ask → Type 0
IsPartClear m ask = (k : ℕ) → part_read m ask ≡ Some k → is_in_doubt m (Some k) ≡ false

none-clear : {A : Type 0} (o : Option A) → is_some o ≡ false → o ≡ None
none-clear None is = refl
none-clear (Some x) is = absurd cc

set-out : {A : Type 0} (xs : List A) (i : ℕ) (x : A) → slice_get xs i ≡ None → slice_set xs i x ≡ xs
set-out [] i x none = refl
set-out (y ∷ xs) zero x none = absurd cc
set-out (y ∷ xs) (suc i) x none = ap (λ t. y ∷ t) (set-out xs i x none)

set-still : (ps : List Held) (k : ℕ) (l : List Record) (o : Option Held) → slice_get ps k ≡ o → is_some (unwrap_or o (record { list = []; doubt = None })).doubt ≡ false → l ≡ list_at ps k → slice_set ps k (with_list l) ≡ ps
set-still ps k l None there clear same = set-out ps k (with_list l) there
set-still ps k l (Some h) there clear same =
    let list : h.list ≡ l = sym (same ∙ rw there refl) in
    set_same ps k (with_list l) (there ∙ ap (λ (x : Held). Some x) (same_held h l list (none-clear h.doubt clear)))

over-by : (m : Lists) (now : ℕ) (ask : Ask) (o : Option ℕ) → part_read m ask ≡ o → IsPartClear m ask → PutsNothing m now ask → parts_over m now ask o ≡ m.parts
over-by m now ask None read clear nothing = refl
over-by m now ask (Some k) read clear nothing = set-still m.parts k (shard_list m.records.list (part_list m k) now ask) (slice_get m.parts k) refl (clear k read) (nothing.part k read)

pub still_over : (m : Lists) (now : ℕ) (ask : Ask) → is_settled m ask ≡ true → IsPartClear m ask → PutsNothing m now ask → lists_over m now ask ≡ m
still_over m now ask settled clear nothing =
    ap (λ (h : Held). let l : Lists = record { records = h; parts = parts_over m now ask (part_read m ask) } in l) (records_same m now ask settled nothing.records)
    ∙ ap (λ (ps : List Held). let l : Lists = record { records = m.records; parts = ps } in l) (over-by m now ask (part_read m ask) refl clear nothing)

-- ---- no record is put in doubt

drop-all : (l : List Record) → drop (length l) l ≡ []
drop-all [] = refl
drop-all (x ∷ l) = drop-all l

none-added : (old new : List Record) → new ≡ old → is_some (added old new) ≡ false
none-added old new same = rw (same, drop-all old) refl

added-by : (m : Lists) (now : ℕ) (ask : Ask) (o : Option ℕ) → part_read m ask ≡ o → PutsNothing m now ask → is_some (added_to_part m now ask o) ≡ false
added-by m now ask None read nothing = refl
added-by m now ask (Some k) read nothing = none-added (part_list m k) (shard_list m.records.list (part_list m k) now ask) (nothing.part k read)

pub nothing_put : (m : Lists) (now : ℕ) (ask : Ask) → PutsNothing m now ask → puts_record m now ask ≡ false
nothing_put m now ask nothing =
    ap (λ b. b || is_some (added_to_part m now ask (part_read m ask))) (none-added m.records.list (catalog_list m.records.list now ask) nothing.records) ∙ added-by m now ask (part_read m ask) refl nothing
