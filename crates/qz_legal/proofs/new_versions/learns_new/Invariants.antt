use Rattle.qz_legal.proofs.LearnTests.{IsMatched}
use Rattle.qz_legal.proofs.new_versions.learns_new.Given as goal

abbrev pub invariant-loop-place : goal.invariant-loop-place
invariant-loop-place l = IsMatched l.book l.bounds l.learned l.place l.count l.matches
