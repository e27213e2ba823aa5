use Rattle.qz_agreement.proofs.Walking.{IsWalked}
use Rattle.qz_agreement.proofs.disagreement.look_at.Given as goal

abbrev pub invariant-loop-index : goal.invariant-loop-index
invariant-loop-index l = IsWalked l.catalog l.records l.findings l.index l.quizzes
