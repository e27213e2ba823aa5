use Rattle.std.proofs.Common.{◌≡◌, None, subst}
use Rattle.qz_terms.specs.declared.request.Request.{Request}
use Rattle.qz_terms.specs.Cause.{missing_here, missing_slot}
use Rattle.qz_book.proofs.SlotLemmas.{slot-some}
use Rattle.qz_shard.proofs.looking.looked_by.Goals as goal

pub viewed-requires : goal.viewed-requires
viewed-requires c =
    let there : missing_slot c.args.book.now c.args.user.now c.in-View.attempt c.in-View.slot ≡ None =
    subst (λ (x : Request). missing_here c.args.book.now c.args.user.now x ≡ None) c.in-View.is c.requires.there in
    slot-some c.args.book.now c.args.user.now c.in-View.attempt c.in-View.slot c.requires.sound there
