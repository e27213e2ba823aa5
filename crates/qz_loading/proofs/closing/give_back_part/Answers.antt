use Rattle.qz_loading.proofs.GivingBack.{stored_back}
use Rattle.qz_loading.proofs.closing.give_back_part.Goals as goal

pub returns-clause-back : goal.returns-clause-back
returns-clause-back g c = record {
  tells = rw (← c.into_keeper.ensures.keeper) (rw c.part_name-name.ensures at c.give_back.ensures.tells);
  stands = rw (← c.into_keeper.ensures.keeper) (stored_back _ _ _ _ c.into_keeper.ensures.stored (rw c.part_name-name.ensures at c.give_back.ensures.stands));
}
