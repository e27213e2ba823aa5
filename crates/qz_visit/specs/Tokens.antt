-- What is asked by a token, and of which shard.
use Rattle.std.specs.Prelude.{◌≡◌, ℕ, ◌≤◌, List}
use Rattle.qz_grading.specs.declared.refusal.AttemptId.{AttemptId}
use Rattle.qz_terms.specs.declared.ask.Ask.{Ask}
use Rattle.qz_terms.specs.declared.people.Caller.TheVariants as caller
use Rattle.qz_terms.specs.declared.people.User.{User}
use Rattle.qz_terms.specs.declared.request.Request.{Request}
use Rattle.qz_terms.specs.declared.request.Request.TheVariants as request
use Rattle.qz_visit.specs.Ways.{IsKnownBy, Seen}

-- The pass has seen the user with the token by which is asked.
pub record IsKnownTo (seen : Seen) (ask : Ask) (user : User) : Type 0 where
  pub token : List ℕ
  pub caller_is : ask.caller ≡ caller.Token token
  pub known : IsKnownBy seen ask user

-- It names a shard that isn't there, of so many.
pub data IsBeyond (count : ℕ) (x : Request) : Type 0 where
  going : (shard : ℕ) (attempt : AttemptId) → x ≡ request.Live shard attempt → count ≤ shard → IsBeyond count x
  step : (job shard : ℕ) → x ≡ request.Work job shard → count ≤ shard → IsBeyond count x
