use Rattle.std.proofs.Common.{◌≡◌}
use Rattle.std.specs.Bool.{Decides}
use Rattle.std.proofs.lemmas.Bool.Decides.{Decides-at}
use Rattle.qz_terms.specs.Legal.{IsAllowed}
use Rattle.qz_legal.specs.Allowed.{can_stand}
use Rattle.qz_legal.proofs.TakeLemmas.{if_ok-more}
use Rattle.qz_legal.proofs.StandLemmas.{stand-decides}
use Rattle.qz_legal.proofs.legal.is_allowed.Goals as goal

pub returns-clause-allowed : goal.returns-clause-allowed
returns-clause-allowed c =
    let test = can_stand c.args.index c.args.count c.args.book.now c.args.made.now in
    if_ok-more c.can_stand.result (λ b. b ≡ test) (λ b. Decides b (IsAllowed c.args.index c.args.count c.args.book.now c.args.made.now))
    (λ b is. Decides-at b test is (stand-decides c.args.index c.args.count c.args.book.now c.args.made.now)) c.can_stand.ensures.allowed
