use Rattle.qz_doors.proofs.ServeLemmas.{ends_unread}
use Rattle.qz_doors.proofs.link.serve_or_halt.Goals as goal

pub returns-in_default : goal.returns-in_default
returns-in_default g c = ends_unread _ _ _

pub returns-in_default-new : goal.returns-in_default-new
returns-in_default-new g c = ends_unread _ _ _
