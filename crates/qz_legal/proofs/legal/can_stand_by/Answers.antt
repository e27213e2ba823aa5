use Rattle.std.proofs.Common.{◌≡◌, List, ap, ◌∙◌}
use Rattle.qz_terms.specs.declared.record.Learned.{Learned}
use Rattle.qz_legal.specs.Allowed.{can_rebind}
use Rattle.qz_legal.proofs.TakeLemmas.{if_ok-more}
use Rattle.qz_legal.proofs.legal.can_stand_by.Goals as goal

pub returns-in-Rebound-clause-allowed : goal.returns-in-Rebound-clause-allowed
returns-in-Rebound-clause-allowed c =
    let test : List Learned → _ = λ (ls : List Learned). can_rebind c.args.book.now c.args.made.now c.in-Rebound.job c.in-Rebound.attempt c.in-Rebound.slot c.in-Rebound.bound ls in
    rw c.in-Rebound.is (if_ok-more c.can_rebind.result (λ b. b ≡ test c.as_slice-in-Rebound.result.now) (λ b. b ≡ test c.in-Rebound.learned)
    (λ b is. is ∙ ap test c.as_slice-in-Rebound.ensures) c.can_rebind.ensures.allowed)
