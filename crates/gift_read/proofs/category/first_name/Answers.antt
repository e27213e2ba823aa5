use Rattle.std.proofs.Common.{arith}
use Rattle.gift_read.proofs.CategoryLemmas.{onto_front-nil}
use Rattle.gift_read.proofs.category.first_name.Goals as goal

pub loop-rest-init : goal.loop-rest-init
loop-rest-init c = record { left = rw c.new-name.ensures.items (onto_front-nil c.args.path.now); within = omega arith }
