use Rattle.std.proofs.Common.{◌≡◌, None, refl, sym, subst, ◌∙◌}
use Rattle.qz_terms.specs.declared.reply.Reply.{Reply}
use Rattle.qz_terms.specs.declared.reply.Reply.TheVariants as reply
use Rattle.qz_terms.specs.Answer.{looked, looked_by, moment_of, named_user}
use Rattle.qz_terms.specs.Cause.{forbidden, missing_here}
use Rattle.qz_terms.specs.History.{place}
use Rattle.qz_shard.specs.Answering.{IsAnswered}
use Rattle.qz_shard.proofs.LookLemmas.{look-answered}
use Rattle.qz_shard.proofs.looking.seen.Goals as goal

pub returns : goal.returns
returns c =
    let h = c.args.book.now in
    let user = c.args.user.now in
    let plan = c.args.plan.now in
    let ask = c.args.ask.now in
    let allowed : forbidden user ask.request ≡ None = sym c.forbidden.ensures ∙ c.in_default.is in
    let there : missing_here h user ask.request ≡ None = sym c.missing_here.ensures ∙ c.in_default-missing_here.is in
    let told : c.in_ok-looked_by.field-0 ≡ looked_by h (moment_of h c.args.now user ask.request) user plan ask.request = rw c.moment_of-moment.ensures at c.in_ok-looked_by.ensures in
    let at : c.place.result ≡ place h (named_user user ask.request) = rw c.named_user.ensures at c.place.ensures in
    let same : looked h (moment_of h c.args.now user ask.request) user plan ask.request ≡ reply.Ok c.place.result c.in_ok-looked_by.field-0 = rw (told, at) refl in
    subst (λ (r : Reply). IsAnswered h c.args.now user plan ask r h) same (look-answered h c.args.now user plan ask c.requires.look c.requires.asked.keyed allowed there)
