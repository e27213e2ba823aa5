use Rattle.qz_opening.proofs.Refusing.{stops_unsaid, unloaded_by}
use Rattle.std.proofs.Common.{Err, ap, ◌∙◌}
use Rattle.qz_opening.proofs.opening.open_school.Goals as goal

pub returns-in-Err-clause-unloaded : goal.returns-in-Err-clause-unloaded
returns-in-Err-clause-unloaded g c =
    unloaded_by c.args.folder.now _ _ _ _ c.in-Err.fault _
    (record { why = c.in-Err.ensures.why; none_out = c.in-Err.ensures.none_out; stay = c.in-Err.ensures.stay; unreached = c.in-Err.ensures.unreached })
    (λ is. c.load.ensures.cause.failed (c.in-Err.is ∙ ap (λ f. Err f) is)) c.tell.ensures

pub returns-in-Ok-clause-restarts : goal.returns-in-Ok-clause-restarts
returns-in-Ok-clause-restarts g c = record { each = c.in-Ok.ensures.restarts.each }

pub returns-in-Err-clause-restarts : goal.returns-in-Err-clause-restarts
returns-in-Err-clause-restarts g c = record { each = λ l parts kept. stops_unsaid c.in-Err.fault _ _ _ (c.in-Err.ensures.restarts.each l parts kept) c.tell.ensures }
