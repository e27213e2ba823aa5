-- Shelves and disks that fail no call.
use Rattle.std.proofs.Common.{◌≡◌, ℕ, ◌∙◌, zero, suc, List, [], ◌∷◌, ◌++◌, length, None, Some, ap, sym, subst, refl, arith, append_assoc}
use Rattle.std.specs.Prelude.{slice_get}
use Rattle.qz_disks.specs.Shelves.{File, Files, SameFile}
use Rattle.qz_disks.specs.Sound.{StaysSound}
use Rattle.qz_folders.proofs.Files.{carried}
use Rattle.qz_folders.specs.Opening.{IsSoundOut}
use Rattle.qz_journal.specs.Journals.{Ledger}
use Rattle.qz_loading.specs.Opening.{AreSound, AreSoundOut}
use Rattle.qz_loading.specs.Places.{part_place}
use Rattle.qz_shard.specs.Keeping as part

-- two calls, of which the first answered
pub stays_both : (a b c : Type 0) (x y z : ℕ) (first then : Type 0) → StaysSound a b x y first → StaysSound b c y z then → StaysSound a c x z then
stays_both a b c x y z first then one two = record {
  works = λ was failed. two.works (one.still was) failed;
  steady = λ was. two.steady (one.still was) ∙ one.steady was;
  still = λ was. two.still (one.still was);
}

-- what is told less often
pub stays_told : (a b : Type 0) (x y : ℕ) (first told : Type 0) → StaysSound a b x y first → (told → first) → StaysSound a b x y told
stays_told a b x y first told one same = record { works = λ was failed. one.works was (same failed); steady = one.steady; still = one.still }

pub stays_itself : (a : Type 0) (x : ℕ) → StaysSound a a x x ⊥
stays_itself a x = record { works = λ was failed. failed; steady = λ was. refl; still = λ was. was }

-- two calls, of which the first told this, and the second tells nothing, if all was sound
pub stays_after : (a b c : Type 0) (x y z : ℕ) (first told : Type 0) → StaysSound a b x y first → (told → first) → (a → StaysSound b c y z ⊥) → StaysSound a c x z told
stays_after a b c x y z first told one same two = record {
  works = λ was failed. one.works was (same failed);
  steady = λ was. (two was).steady (one.still was) ∙ one.steady was;
  still = λ was. (two was).still (one.still was);
}

-- two calls, of which the second tells, if all was sound
pub stays_then : (a b c : Type 0) (x y z : ℕ) (first told : Type 0) → StaysSound a b x y first → (a → StaysSound b c y z told) → StaysSound a c x z told
stays_then a b c x y z first told one two = record {
  works = λ was failed. (two was).works (one.still was) failed;
  steady = λ was. (two was).steady (one.still was) ∙ one.steady was;
  still = λ was. (two was).still (one.still was);
}

at_seam : {X : Type 0} (front : List X) (x : X) (behind : List X) → slice_get (front ++ x ∷ behind) (length front) ≡ Some x
at_seam [] x behind = refl
at_seam (y ∷ front) x behind = at_seam front x behind

-- one shard of them
pub sound_at : {D : Type 0} (sound : D → Type 0) (faults : D → ℕ) (parts rest less behind : List (part.Keeping (Ledger D))) (s : part.Keeping (Ledger D)) → parts ≡ rest ++ behind → rest ≡ less ++ s ∷ [] → slice_get parts (length less) ≡ Some s
sound_at sound faults parts rest less behind s split is =
    let whole : parts ≡ less ++ s ∷ behind = split ∙ ap (λ l. l ++ behind) is ∙ append_assoc less (s ∷ []) behind in
    rw whole (at_seam less s behind)

sound_like : {D : Type 0} (sound : D → Type 0) (faults : D → ℕ) (a b : File) (journal : Ledger D) → SameFile a b → IsSoundOut sound faults b journal → IsSoundOut sound faults a journal
sound_like sound faults a b journal same is = record { disk = is.disk; no_faults = is.no_faults; keeper = carried a.reads b.reads same.reads is.keeper (λ _ h. h) }

pub sound_parts_like : {D : Type 0} (sound : D → Type 0) (faults : D → ℕ) (folder : List ℕ) (old mid : Files) (parts : List (part.Keeping (Ledger D))) → ((k : ℕ) → SameFile (old.file (part_place folder k)) (mid.file (part_place folder k)))
    → AreSoundOut sound faults folder mid parts → AreSoundOut sound faults folder old parts
sound_parts_like sound faults folder old mid parts same are = record { each = λ k s got. sound_like sound faults (old.file (part_place folder k)) (mid.file (part_place folder k)) s.keeper (same k) (are.each k s got) }

pub none_sound : {D : Type 0} (sound : D → Type 0) (faults : D → ℕ) (folder : List ℕ) (files : Files) (parts : List (part.Keeping (Ledger D))) → parts ≡ [] → AreSoundOut sound faults folder files parts
none_sound sound faults folder files parts is = record { each = λ k s got. (let none : None ≡ Some s = (rw is at got) in absurd cc) }

pub pushed : {X : Type 0} (P : ℕ → X → Type 0) (xs : List X) (x : X) → ((k : ℕ) (y : X) → slice_get xs k ≡ Some y → P k y) → P (length xs) x → (k : ℕ) (y : X) → slice_get (xs ++ x ∷ []) k ≡ Some y → P k y
pushed P [] x before here zero y got = let e : x ≡ y = cc in subst (P 0) e here
pushed P [] x before here (suc k) y got = absurd cc
pushed P (z ∷ xs) x before here zero y got = before zero y got
pushed P (z ∷ xs) x before here (suc k) y got =
    let e : length (z ∷ xs) ≡ suc (length xs) = omega arith in
    pushed (λ n v. P (suc n) v) xs x (λ n v is. before (suc n) v is) (subst (λ n. P n x) e here) k y got

pub one_more_sound : {D : Type 0} (sound : D → Type 0) (faults : D → ℕ) (folder : List ℕ) (old now : Files) (index : ℕ) (parts : List (part.Keeping (Ledger D))) (s : part.Keeping (Ledger D)) → length parts ≡ index
    → SameFile (old.file (part_place folder index)) (now.file (part_place folder index)) → AreSoundOut sound faults folder old parts → IsSoundOut sound faults (now.file (part_place folder index)) s.keeper → AreSoundOut sound faults folder old (parts ++ s ∷ [])
one_more_sound sound faults folder old now index parts s number same are is = record {
  each = pushed (λ k t. IsSoundOut sound faults (old.file (part_place folder k)) t.keeper) parts s are.each
      (subst (λ n. IsSoundOut sound faults (old.file (part_place folder n)) s.keeper) (sym number) (sound_like sound faults (old.file (part_place folder index)) (now.file (part_place folder index)) s.keeper same is));
}

pub sound_out : {D : Type 0} (sound : D → Type 0) (faults : D → ℕ) (folder : List ℕ) (files : Files) (parts : List (part.Keeping (Ledger D))) → AreSoundOut sound faults folder files parts → AreSound sound faults parts
sound_out sound faults folder files parts are = record { disk = λ k s got. (are.each k s got).disk; no_faults = λ k s got. (are.each k s got).no_faults }
