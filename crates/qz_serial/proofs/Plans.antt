-- What the plan of a catalogue tells.
use Rattle.std.proofs.Common.{◌≡◌, ℕ, List, Option, Some, None, length, refl}
use Rattle.qz_grading.specs.declared.outcome.Behaviour.{Behaviour}
use Rattle.qz_grading.specs.Grading.{at_place}
use Rattle.qz_terms.specs.declared.plan.Plan.{Plan}
use Rattle.qz_terms.specs.declared.record.Record.{Record}
use Rattle.qz_terms.specs.Catalog as catalog

-- ---- what a catalogue's plan tells

pub record IsPlanned (c : List Record) (q : ℕ) (plan : Plan) : Type 0 where
  pub at : plan.at ≡ length c
  pub quiz : plan.quiz ≡ q
  pub ready : plan.ready ≡ catalog.is_ready c q
  pub slots : plan.slots ≡ catalog.slots c q
  pub questions : plan.questions ≡ catalog.questions c (catalog.slots c q)

planned-by : (c : List Record) (q u : ℕ) (plan : Plan) (o : Option (List ℕ × Behaviour)) → at_place (catalog.quizzes c) q ≡ o → catalog.plan c q u ≡ Some plan → IsPlanned c q plan
planned-by c q u plan None is told = let none : None ≡ Some plan = rw is at told in absurd cc
planned-by c q u plan (Some named) is told =
    let some : Some _ ≡ Some plan = rw is at told in
    record { at = cc; quiz = cc; ready = cc; slots = cc; questions = cc }

pub planned-so : (c : List Record) (q u : ℕ) (plan : Plan) → catalog.plan c q u ≡ Some plan → IsPlanned c q plan
planned-so c q u plan told = planned-by c q u plan (at_place (catalog.quizzes c) q) refl told

pub planned-at : (c : List Record) (q u : ℕ) (plan : Plan) → catalog.plan c q u ≡ Some plan → plan.at ≡ length c
planned-at c q u plan told = (planned-so c q u plan told).at

pub planned-quiz : (c : List Record) (q u : ℕ) (plan : Plan) → catalog.plan c q u ≡ Some plan → plan.quiz ≡ q
planned-quiz c q u plan told = (planned-so c q u plan told).quiz
