use Rattle.std.proofs.Common.{◌≡◌}
use Rattle.std.specs.Bool.{Decides}
use Rattle.std.proofs.lemmas.Bool.Decides.{Decides-at}
use Rattle.std.proofs.lemmas.Result.{IfOk-weaker}
use Rattle.qz_terms.specs.Legal.{IsAllowedInCatalog}
use Rattle.qz_catalog.specs.Allowed.{can_stand}
use Rattle.qz_catalog.proofs.Allowing.{stand-decides}
use Rattle.qz_catalog.proofs.legal.is_allowed.Goals as goal

pub returns : goal.returns
returns c =
    let list = c.args.book.now.records.items in
    let test = can_stand list c.args.made.now in
    IfOk-weaker c.can_stand.result (λ b. b ≡ test) (λ b. Decides b (IsAllowedInCatalog list c.args.made.now))
    (λ b is. Decides-at b test is (stand-decides list c.args.made.now c.requires.indexed.held.some c.requires.kept)) c.can_stand.ensures
