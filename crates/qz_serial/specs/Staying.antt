-- What stands in a catalogue whatever comes behind it.
use Rattle.std.specs.Prelude.{◌≡◌, ℕ, ◌≤◌, true, List, ◌++◌, ℤ, length, take, is_some, Some, None}
use Rattle.qz_grading.specs.declared.outcome.Behaviour.{Behaviour}
use Rattle.qz_grading.specs.declared.question.Item.{Item}
use Rattle.qz_grading.specs.declared.question.Question.{Question}
use Rattle.qz_grading.specs.Grading.{at_place}
use Rattle.qz_terms.specs.declared.people.Caller.{Caller}
use Rattle.qz_terms.specs.declared.people.User.{User}
use Rattle.qz_terms.specs.declared.plan.Job.{Job}
use Rattle.qz_terms.specs.declared.record.Record.{Record}
use Rattle.qz_terms.specs.declared.request.Request.{Request}
use Rattle.qz_terms.specs.Catalog as catalog
use Rattle.qz_terms.specs.Cause.{missing_in}
use Rattle.qz_terms.specs.SchoolAnswer.{first_refusal, plan_for}

pub record StaysThere : Type 0 where
  pub front : (c rest : List Record) (n : ℕ) → n ≤ length c → take n (c ++ rest) ≡ take n c
  pub user : (c rest : List Record) (n : ℕ) (u : User) → at_place (catalog.users c) n ≡ Some u → at_place (catalog.users (c ++ rest)) n ≡ Some u
  pub caller : (c rest : List Record) (who : Caller) (u : User) → catalog.user_of c who ≡ Some u → catalog.user_of (c ++ rest) who ≡ Some u
  pub group : (c rest : List Record) (n : ℕ) (name : List ℕ) → at_place (catalog.groups c) n ≡ Some name → at_place (catalog.groups (c ++ rest)) n ≡ Some name
  pub entry : (c rest : List Record) (n : ℕ) (i : Item) → at_place (catalog.entries c) n ≡ Some i → at_place (catalog.entries (c ++ rest)) n ≡ Some i
  pub version : (c rest : List Record) (entry n : ℕ) (q : Question) → catalog.version c entry n ≡ Some q → catalog.version (c ++ rest) entry n ≡ Some q
  pub quiz : (c rest : List Record) (n : ℕ) (named : List ℕ × Behaviour) → at_place (catalog.quizzes c) n ≡ Some named → at_place (catalog.quizzes (c ++ rest)) n ≡ Some named
  pub slot : (c rest : List Record) (quiz k : ℕ) (s : ℕ × ℤ) → at_place (catalog.slots_made c quiz) k ≡ Some s → at_place (catalog.slots_made (c ++ rest) quiz) k ≡ Some s
  pub ready : (c rest : List Record) (quiz : ℕ) → catalog.is_ready c quiz ≡ true → catalog.is_ready (c ++ rest) quiz ≡ true
  pub job : (c rest : List Record) (n : ℕ) (j : Job) → catalog.job c n ≡ Some j → catalog.job (c ++ rest) n ≡ Some j
  pub found : (c rest : List Record) (x : Request) → missing_in c x ≡ None → missing_in (c ++ rest) x ≡ None
  pub free : (c rest : List Record) (user : User) (x : Request) → first_refusal c user x ≡ None → first_refusal (c ++ rest) user x ≡ None
  pub planned : (c rest h : List Record) (user : User) (x : Request) → is_some (plan_for c h user x) ≡ true → is_some (plan_for (c ++ rest) h user x) ≡ true
