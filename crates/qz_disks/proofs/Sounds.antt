-- Calls of what fails none.
use Rattle.std.proofs.Common.{ℕ, ◌∙◌}
use Rattle.qz_disks.specs.Sound.{StaysSound}

-- one call behind another
pub then_sound : {P Q R F G : Type 0} {a b c : ℕ} → StaysSound P Q a b F → StaysSound Q R b c G → StaysSound P R a c G
then_sound first second = record {
  works = λ was. second.works (first.still was);
  steady = λ was. second.steady (first.still was) ∙ first.steady was;
  still = λ was. second.still (first.still was);
}

-- the calls up to here, whatever came of the last
pub up_to_here : {P Q F : Type 0} {a b : ℕ} → StaysSound P Q a b F → StaysSound P Q a b ⊥
up_to_here so_far = record {
  works = λ was never. never;
  steady = so_far.steady;
  still = so_far.still;
}
