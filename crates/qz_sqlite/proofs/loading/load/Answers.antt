use Rattle.qz_sqlite.proofs.Given.{found-in, lists-stay, load-fault}
use Rattle.qz_sqlite.proofs.loading.load.Goals as goal

pub returns-in-Ok-read_school-clause-loaded : goal.returns-in-Ok-read_school-clause-loaded
returns-in-Ok-read_school-clause-loaded g c = record { opened = c.in-Ok.opened; are_found = c.in-Ok.ensures.tables; are_opened = c.in-Ok.ensures.opened; is_read = rw c.as_slice.ensures at c.in-Ok-read_school.ensures.read }

pub returns-in-Ok-read_school-clause-cause : goal.returns-in-Ok-read_school-clause-cause
returns-in-Ok-read_school-clause-cause g c = record { later = c.open.ensures.cause.later; failed = λ is. absurd cc }

pub returns-clause-why : goal.returns-clause-why
returns-clause-why g c = load-fault _ _ _ c.in-Ok.opened.catalog c.in-Ok.opened.part c.in-Err-read_school.fault (found-in _ _ _ _ c.in-Ok.opened c.in-Ok.ensures.opened) (rw c.as_slice.ensures at c.in-Err-read_school.ensures.refused)

pub returns-clause-stay : goal.returns-clause-stay
returns-clause-stay g c = lists-stay _ _ _ _ _ _ c.in-Ok.opened c.in-Err-read_school.keepers c.in-Err-read_school.fault c.in-Ok.ensures.opened c.in-Err-read_school.ensures.back c.give_back.ensures.catalog c.give_back.ensures.part
