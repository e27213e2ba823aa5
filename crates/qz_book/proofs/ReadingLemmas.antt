-- What is kept of a list's records, told of what is read of them.
use Rattle.std.proofs.Common.{◌≡◌, ℕ, true, List, Option, Some, None, refl, sym, ap, option_map, All, Bor, subst}
use Rattle.std.specs.Prelude.{IfSome, option_and_then}
use Rattle.qz_grading.specs.declared.refusal.AttemptId.{AttemptId}
use Rattle.qz_terms.specs.declared.record.Record.{Record}
use Rattle.qz_terms.specs.History.{Start, start, version}
use Rattle.qz_terms.specs.Kept.{IsKept, is_moment}
use Rattle.qz_lives.specs.declared.live.Begun.{Begun}
use Rattle.qz_lives.specs.Attempts.{begun_of}
use Rattle.qz_grading.specs.declared.refusal.Refusal.{Refusal}
use Rattle.qz_lives.proofs.Keeping.{start-kept, version-kept}
use Rattle.std.specs.Option.{option_copied}
use Rattle.qz_grading.specs.declared.question.Question.{Question}
use Rattle.qz_grading.specs.Questions.{IsQuestion}

-- ---- what is told of a start

pub begun-cause : (f : ℕ → Option Refusal) (o : Option Start) (b : Option Begun) → b ≡ option_map begun_of o → option_and_then (λ (s : Start). f s.moment) o ≡ option_and_then (λ (s : Begun). f s.moment) b
begun-cause f None b is = sym (ap (option_and_then (λ (s : Begun). f s.moment)) is)
begun-cause f (Some s) b is = sym (ap (option_and_then (λ (s : Begun). f s.moment)) is)

begun-kept : (h : List Record) (a : AttemptId) (o : Option Start) (b : Option Begun) → start h a ≡ o → b ≡ option_map begun_of o → All IsKept h → IfSome b (λ s. is_moment s.moment ≡ true)
begun-kept h a None b told is kept = rw is tt
begun-kept h a (Some s) b told is kept = rw is (start-kept h a s kept told).0

pub moment-kept : (h : List Record) (a : AttemptId) (b : Option Begun) → b ≡ option_map begun_of (start h a) → All IsKept h → IfSome b (λ s. is_moment s.moment ≡ true)
moment-kept h a b is kept = begun-kept h a (start h a) b refl is kept

-- ---- questions

pub asked-kept : (h : List Record) (e v : ℕ) (o : Option (Bor Question)) → option_copied o ≡ version h e v → All IsKept h → IfSome o (λ q. IsQuestion q.now)
asked-kept h e v None is kept = tt
asked-kept h e v (Some q) is kept = version-kept h e v q.now kept (sym is)
