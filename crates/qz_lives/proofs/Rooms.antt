-- More room leaves all else.
use Rattle.std.proofs.Common.{◌≡◌, ℕ, ◌≤◌, Bool, true, false, List, Some, refl, sym, ap, subst, ◌∙◌, arith}
use Rattle.std.specs.Prelude.{◌==◌}
use Rattle.std.proofs.lemmas.Bool.{eqb-true}
use Rattle.qz_grading.specs.Grading.{at_place}
use Rattle.qz_usage.specs.Runs.{Run}
use Rattle.qz_usage.specs.Usages.{with_slot}
use Rattle.qz_lives.specs.Runs.{AreRoomier}
use Rattle.qz_lives.proofs.Places.{length-with, same-item, with-apart, with-here}

pub roomier-same : (runs : List Run) → AreRoomier runs runs
roomier-same runs = record { count = refl; each = λ k r is. (r.room, is, omega arith) }

roomier-at : (runs : List Run) (k : ℕ) (r n : Run) → at_place runs k ≡ Some r → n ≡ record r { room = n.room } → r.room ≤ n.room → (j : ℕ) (q : Run) (z : Bool) → (j == k) ≡ z → at_place runs j ≡ Some q → (m : ℕ) × (at_place (with_slot runs k n) j ≡ Some (record q { room = m })) × (q.room ≤ m)
roomier-at runs k r n there is more j q true same at_j =
    let one : j ≡ k = eqb-true j k same in
    let alike : q ≡ r = same-item (at_place runs k) q r (ap (at_place runs) (sym one) ∙ at_j) there in
    let room : q.room ≤ n.room = subst (λ (x : Run). x.room ≤ n.room) (sym alike) more in
    (n.room, ap (at_place (with_slot runs k n)) one ∙ with-here runs k r n there ∙ ap (λ (x : Run). Some x) (is ∙ ap (λ (x : Run). record x { room = n.room }) (sym alike)), room)
roomier-at runs k r n there is more j q false apart at_j = (q.room, with-apart runs k j n apart ∙ at_j, omega arith)

-- of one run that has more
pub roomier-with : (runs : List Run) (k : ℕ) (r n : Run) → at_place runs k ≡ Some r → n ≡ record r { room = n.room } → r.room ≤ n.room → AreRoomier runs (with_slot runs k n)
roomier-with runs k r n there is more = record { count = length-with runs k n; each = λ j q at_j. roomier-at runs k r n there is more j q (j == k) refl at_j }

pub roomier-more : (a b c : List Run) → AreRoomier a b → AreRoomier b c → AreRoomier a c
roomier-more a b c one two = record {
  count = two.count ∙ one.count;
  each = λ k r is.
      let first = one.each k r is in
      let second = two.each k (record r { room = first.0 }) first.1 in
      (second.0, second.1, (let less = first.2 in let more : first.0 ≤ second.0 = second.2 in omega arith));
}
