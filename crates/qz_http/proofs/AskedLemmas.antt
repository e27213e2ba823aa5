-- By whom a request asks.
use Rattle.std.proofs.Common.{◌≡◌, ℕ, List, Option, Ok, Err, ◌∙◌}
use Rattle.std.specs.Prelude.{IfOk, Result}
use Rattle.qz_grading.specs.declared.refusal.Refusal.{Refusal}
use Rattle.qz_terms.specs.declared.ask.Ask.{Ask}
use Rattle.qz_terms.specs.declared.people.Caller.{Caller}
use Rattle.qz_json.specs.Bodies.{CanBeAsked}
use Rattle.qz_http.specs.Items.{IsAskedBy, caller_of}

pub asked-by : (r : Result Ask Refusal) (token : Option (List ℕ)) (who : Caller) → who ≡ caller_of token
    → IfOk r (λ ask. ask.caller ≡ who) → IfOk r CanBeAsked → IfOk r (IsAskedBy token)
asked-by (Ok ask) token who is by can = record { by = by ∙ is; asked = can }
asked-by (Err refusal) token who is by can = tt
