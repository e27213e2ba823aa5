-- A record that was put behind a shard's list.
use Rattle.std.proofs.Common.{◌≡◌, ℕ, ◌+◌, ◌-◌, true, List, [], ◌∷◌, ◌++◌, Some, length, take, sym, ap, subst, ◌∙◌, refl, arith}
use Rattle.std.specs.Prelude.{slice_get}
use Rattle.std.proofs.Math.Seq.{take-append_seam}
use Rattle.qz_grading.proofs.StepLemmas.{slice_get-push}
use Rattle.qz_index.specs.declared.keys.Keys.{Keys}
use Rattle.qz_index.specs.Keys.{AreKeys, HasKeyRoom}
use Rattle.qz_terms.specs.declared.record.Record.{Record}
use Rattle.qz_terms.specs.Kept.{IsKept}
use Rattle.qz_shard.specs.Untold.{IsUntold}
use Rattle.qz_book.specs.Held.{is_asked}

pub untold : (keys : Keys) (h g : List Record) (r : Record) (n : ℕ) → g ≡ h ++ r ∷ [] → n ≡ length h → AreKeys keys h → HasKeyRoom keys r → IsKept r → is_asked r ≡ true → IsUntold keys g n
untold keys h g r n put at before room kept asked =
    let front : take n g ≡ h = ap (λ (m : ℕ). take m g) at ∙ ap (take (length h)) put ∙ take-append_seam h (r ∷ []) in
    record {
      made = r;
      stands = put ∙ ap (λ (l : List Record). l ++ r ∷ []) (sym front);
      at = ap (slice_get g) at ∙ ap (λ (l : List Record). slice_get l (length h)) put ∙ slice_get-push h r;
      before = subst (AreKeys keys) (sym front) before;
      room = room;
      kept = kept;
      asked = asked;
    }

pub stands-at : (h g : List Record) (r : Record) (n : ℕ) → g ≡ h ++ r ∷ [] → n ≡ length h → slice_get g n ≡ Some r
stands-at h g r n put at = ap (slice_get g) at ∙ ap (λ (l : List Record). slice_get l (length h)) put ∙ slice_get-push h r
