-- How runs of calls go on in time.
use Rattle.std.proofs.Common.{◌≡◌, ◌⊎◌, inl, inr, ⊎_elim, ℕ, ◌<◌, ◌≤◌, List, refl, sym, subst, arith}
use Rattle.std.proofs.lemmas.Bool.{cases_lt}
use Rattle.qz_disks.specs.Disks.{Same, Elapses, LeavesOnly}

split_lt : (a b : ℕ) → a ≤ b → (a ≡ b) ⊎ (a < b)
split_lt a b le = ⊎_elim (λ less. inr less) (λ same. inl (omega arith)) (cases_lt a b)

-- what may be left now has Q, where what might be left before has it, and each step from there gives it
pub at_end : (step : List ℕ → List ℕ → Type 0) (before now : ℕ) (past since : ℕ → List ℕ → Type 0) (Q : List ℕ → Type 0) → Elapses step before now past since
    → ((c : List ℕ) → past before c → Q c) → ((d c : List ℕ) → past before d → step d c → Q c) → (c : List ℕ) → since now c → Q c
at_end step before now past since Q time stays steps c left = ⊎_elim
    (λ same. stays c (time.adds_nothing before c (omega arith) (subst (λ t. since t c) (sym same) left)))
    (λ later. let from = time.follows now c later (omega arith) left in steps from.0 c from.1 from.2)
    (split_lt before now time.later)

-- a call that writes nothing behind another call
pub then_same : (step : List ℕ → List ℕ → Type 0) → ((d : List ℕ) → step d d) → (a b c : ℕ) (p q r : ℕ → List ℕ → Type 0)
    → Elapses step a b p q → Elapses Same b c q r → Elapses step a c p r
then_same step whole a b c p q r first second = record {
  later = omega (arith, first.later, second.later);
  keeps = λ t x le had. second.keeps t x (omega (arith, first.later)) (first.keeps t x le had);
  adds_nothing = λ t x le has. first.adds_nothing t x le (second.adds_nothing t x (omega (arith, first.later)) has);
  follows = λ t x after le has. ⊎_elim
      (λ past_it.
      let from = second.follows t x past_it le has in
      let was : q b x = subst (q b) (sym from.2) from.1 in
      ⊎_elim
      (λ same. (x, first.adds_nothing a x (omega arith) (subst (λ s. q s x) (sym same) was), whole x))
      (λ later. first.follows b x later (omega arith) was)
      (split_lt a b first.later))
      (λ within. first.follows t x after within (second.adds_nothing t x within has))
      (cases_lt b t);
}

pub same_whole : (d : List ℕ) → Same d d
same_whole d = refl

-- before the first call of a run
pub started : (P : List ℕ → Type 0) (now : ℕ) (past : ℕ → List ℕ → Type 0) → ((c : List ℕ) → past now c → P c) → LeavesOnly P now now past past
started P now past here = record {
  later = omega arith;
  each = λ t c lower upper left. here c (subst (λ s. past s c) (let same : t ≡ now = omega arith in same) left);
  adds_nothing = λ t c le left. left;
}

-- one call more
pub goes_on : (P : List ℕ → Type 0) (step : List ℕ → List ℕ → Type 0) (a b c : ℕ) (p q r : ℕ → List ℕ → Type 0) → LeavesOnly P a b p q → Elapses step b c q r
    → ((d x : List ℕ) → q b d → step d x → P x) → LeavesOnly P a c p r
goes_on P step a b c p q r so_far time steps = record {
  later = omega (arith, so_far.later, time.later);
  each = λ t x lower upper left. ⊎_elim
      (λ past_it. let from = time.follows t x past_it upper left in steps from.0 x from.1 from.2)
      (λ within. so_far.each t x lower within (time.adds_nothing t x within left))
      (cases_lt b t);
  adds_nothing = λ t x le left. so_far.adds_nothing t x le (time.adds_nothing t x (omega (arith, so_far.later)) left);
}

-- one call as a run
pub one_call : (P : List ℕ → Type 0) (step : List ℕ → List ℕ → Type 0) (a b : ℕ) (p q : ℕ → List ℕ → Type 0) → Elapses step a b p q
    → ((c : List ℕ) → p a c → P c) → ((d x : List ℕ) → p a d → step d x → P x) → LeavesOnly P a b p q
one_call P step a b p q time here steps = goes_on P step a a b p p q (started P a p here) time steps

-- what may be left at a run's end
pub run_end : (P : List ℕ → Type 0) (a b : ℕ) (p q : ℕ → List ℕ → Type 0) → LeavesOnly P a b p q → (c : List ℕ) → q b c → P c
run_end P a b p q run c left = run.each b c run.later (omega arith) left
