use Rattle.std.proofs.Common.{ℕ, Some, true, subst}
use Rattle.std.specs.BTreeMap.{Updates}
use Rattle.qz_room.specs.Pairs.{pair_cmp}
use Rattle.qz_index.proofs.OrderLemmas.{ordered-put}
use Rattle.qz_index.proofs.order.Order.put.Goals as goal

pub returns : goal.returns
returns c = λ a. ordered-put c.args.self.now (record { attempts = c.fill.new.map }) c.args.attempt a
    (subst (λ (k : ℕ × ℕ). Updates pair_cmp c.args.self.now.attempts c.fill.new.map k (Some true)) c.key_of.ensures c.fill.ensures)
