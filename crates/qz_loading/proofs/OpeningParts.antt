-- Shards that are opened one behind another.
use Rattle.std.proofs.Common.{◌≡◌, ℕ, ◌+◌, ◌<◌, ◌≤◌, ⊎_elim, List, [], ◌∷◌, ◌++◌, length, None, Some, true, false, ap, sym, subst, ◌∙◌, arith, length-append}
use Rattle.std.proofs.lemmas.Bool.{cases_lt}
use Rattle.qz_disks.specs.Shelves.{ChangesAt, File, Files, Place, SameFile}
use Rattle.qz_journal.specs.Journals.{Ledger}
use Rattle.qz_loading.proofs.Finding.{is_place, later_no_part, parts_apart}
use Rattle.qz_loading.proofs.Sounding.{pushed}
use Rattle.qz_loading.proofs.Standing.{opened_like, same_then_stays, same_twice}
use Rattle.qz_loading.specs.Opening.{ArePartsOf, IsPartOf, ShardsAgree}
use Rattle.qz_loading.specs.Places.{IsNoPart, KeepsOthers, LeavesRest, PartsAre, StaysLike, part_place}
use Rattle.qz_shard.specs.Keeping as part
use Rattle.qz_terms.specs.declared.record.Record.{Record}
use Rattle.qz_terms.specs.Legal.{AllAgree}

-- the first shards are open, so many
pub record IsOpening {D : Type 0} (moment : D → ℕ) (left_at : D → ℕ → List ℕ → Type 0) (folder : List ℕ) (old now : Files) (count index : ℕ) (parts : List (part.Keeping (Ledger D))) : Type 0 where
  pub opened : ArePartsOf moment left_at folder old count parts
  pub number : length parts ≡ index
  pub out : PartsAre true folder index now
  pub others : KeepsOthers folder index old now

-- the next one is as it was
pub next_free : (folder : List ℕ) (old now : Files) (count index : ℕ) → count ≤ 64 → index < count → PartsAre false folder count old → KeepsOthers folder index old now → now.is_out (part_place folder index) ≡ false
next_free folder old now count index few below free others = others.is_out (part_place folder index) (later_no_part folder index index (omega arith) (omega arith)) ∙ free.each index below

pub next_same : (folder : List ℕ) (old now : Files) (index : ℕ) → index < 64 → KeepsOthers folder index old now → SameFile (old.file (part_place folder index)) (now.file (part_place folder index))
next_same folder old now index few others = others.file (part_place folder index) (later_no_part folder index index (omega arith) (omega arith))

part_of_like : {D : Type 0} (moment : D → ℕ) (left_at : D → ℕ → List ℕ → Type 0) (a b : File) (index count : ℕ) (s : part.Keeping (Ledger D)) → SameFile a b → IsPartOf moment left_at b index count s → IsPartOf moment left_at a index count s
part_of_like moment left_at a b index count s same is = record { payloads = is.payloads; opened = opened_like moment left_at a b s.keeper is.payloads same is.opened; loaded = is.loaded }

wider : (folder : List ℕ) (index : ℕ) (at : Place) → IsNoPart folder (index + 1) at → IsNoPart folder index at
wider folder index at none = record { each = λ k below. none.each k (omega arith) }

pub one_more_open : {D : Type 0} (moment : D → ℕ) (left_at : D → ℕ → List ℕ → Type 0) (folder : List ℕ) (old now new : Files) (count index : ℕ) (parts : List (part.Keeping (Ledger D))) (s : part.Keeping (Ledger D)) → index < 64 → IsOpening moment left_at folder old now count index parts
    → IsPartOf moment left_at (now.file (part_place folder index)) index count s → new.is_out (part_place folder index) ≡ true → ChangesAt (part_place folder index) now new → IsOpening moment left_at folder old new count (index + 1) (parts ++ s ∷ [])
one_more_open moment left_at folder old now new count index parts s few o is out changes = record {
  opened = record {
    each = pushed (λ k t. IsPartOf moment left_at (old.file (part_place folder k)) k count t) parts s o.opened.each
        (let at = o.number in subst (λ n. IsPartOf moment left_at (old.file (part_place folder n)) n count s) (sym o.number)
        (part_of_like moment left_at (old.file (part_place folder index)) (now.file (part_place folder index)) index count s (next_same folder old now index few o.others) is));
  };
  number = length-append parts (s ∷ []) ∙ ap (λ n. n + 1) o.number;
  out = record { each = out_each };
  others = record {
    is_out = λ at none. changes.is_out at (none.each index (omega arith)) ∙ o.others.is_out at (wider folder index at none);
    file = λ at none. same_twice (old.file at) (now.file at) (new.file at) (o.others.file at (wider folder index at none)) (changes.file at (none.each index (omega arith)));
  };
}
  where
    out_each : (k : ℕ) → k < index + 1 → new.is_out (part_place folder k) ≡ true
    out_each k below =
        ⊎_elim
        (λ less. changes.is_out (part_place folder k) (λ same. (let x : k ≡ index = parts_apart folder k index (omega arith) few' same in omega (arith, x, less))) ∙ o.out.each k less)
        (λ from. (let e : index ≡ k = omega arith in ap (λ n. new.is_out (part_place folder n)) (sym e) ∙ out))
        (cases_lt k index)
      where
        few' : index < 100
        few' = omega (arith, few)

-- the next one isn't opened
pub rest_left : (folder : List ℕ) (old now new : Files) (count index : ℕ) → count ≤ 64 → index < count → PartsAre false folder count old → KeepsOthers folder index old now → StaysLike (now.file (part_place folder index)) (new.file (part_place folder index))
    → new.is_out (part_place folder index) ≡ false → ChangesAt (part_place folder index) now new → LeavesRest folder index count old new
rest_left folder old now new count index few below free others stays back changes = record {
  next = same_then_stays (old.file (part_place folder index)) (now.file (part_place folder index)) (new.file (part_place folder index)) here_same stays;
  behind = behind_same;
  others = others_same;
  is_out = is_out_same;
}
  where
    here_same : SameFile (old.file (part_place folder index)) (now.file (part_place folder index))
    here_same = next_same folder old now index (omega arith) others

    behind_same : (k : ℕ) → index < k → k < count → SameFile (old.file (part_place folder k)) (new.file (part_place folder k))
    behind_same k more inside =
        same_twice (old.file (part_place folder k)) (now.file (part_place folder k)) (new.file (part_place folder k)) (others.file (part_place folder k) (later_no_part folder index k (omega arith) (omega arith)))
        (changes.file (part_place folder k) (λ same. (let x : k ≡ index = parts_apart folder k index (omega arith) (omega arith) same in omega (arith, x, more))))

    others_same : (at : Place) → IsNoPart folder count at → SameFile (old.file at) (new.file at)
    others_same at none = same_twice (old.file at) (now.file at) (new.file at) (others.file at (record { each = λ k less. none.each k (omega arith) })) (changes.file at (none.each index below))

    is_out_same : (at : Place) → IsNoPart folder index at → new.is_out at ≡ old.is_out at
    is_out_same at none =
        ⊎_elim
        (λ same. (ap new.is_out same ∙ back ∙ sym (free.each index below) ∙ ap old.is_out (sym same)))
        (λ other. changes.is_out at other ∙ others.is_out at none)
        (is_place at (part_place folder index))

pub out_stays : (folder : List ℕ) (index : ℕ) (now new : Files) → index < 64 → PartsAre true folder index now → ChangesAt (part_place folder index) now new → PartsAre true folder index new
out_stays folder index now new few out changes = record {
  each = λ k below. changes.is_out (part_place folder k) (λ same. (let x : k ≡ index = parts_apart folder k index (omega arith) (omega arith) same in omega (arith, x))) ∙ out.each k below;
}

-- a file was opened, and given back
pub changes_twice : (at : Place) (old mid new : Files) → ChangesAt at old mid → ChangesAt at mid new → ChangesAt at old new
changes_twice at old mid new one two = record {
  is_out = λ other far. two.is_out other far ∙ one.is_out other far;
  file = λ other far. same_twice (old.file other) (mid.file other) (new.file other) (one.file other far) (two.file other far);
}

pub none_agree : {K : Type 0} (c : List Record) (parts : List (part.Keeping K)) → parts ≡ [] → ShardsAgree c parts
none_agree c parts is = record { each = λ k s got. (let none : None ≡ Some s = (rw is at got) in absurd cc) }

pub one_more_agrees : {K : Type 0} (c : List Record) (parts : List (part.Keeping K)) (s : part.Keeping K) → ShardsAgree c parts → AllAgree c s.held.list → ShardsAgree c (parts ++ s ∷ [])
one_more_agrees c parts s agree is = record { each = pushed (λ k t. AllAgree c t.held.list) parts s agree.each is }
