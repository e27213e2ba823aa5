use Rattle.std.proofs.Common.{◌≡◌, List, [], ◌∷◌, ◌++◌, refl, sym, ap, subst, ◌∙◌}
use Rattle.qz_keeper.specs.Recording.{one_put}
use Rattle.qz_terms.specs.Answer.{said}
use Rattle.qz_terms.specs.declared.record.Record.{Record}
use Rattle.qz_terms.specs.Cause.{verdict_here}
use Rattle.qz_shard.specs.declared.decision.Decision.{Decision}
use Rattle.qz_shard.specs.declared.decision.Decision.TheVariants as decision
use Rattle.qz_shard.specs.Answering.{IsAnswered, IsPosed}
use Rattle.qz_shard.specs.Decisions.{IsDecision, IsRepeated}
use Rattle.qz_shard.specs.Holdings.{Holding}
use Rattle.qz_book.specs.Nexts.{IsNext}
use Rattle.qz_shard.specs.Puts.{record_by}
use Rattle.qz_shard.proofs.Counting.{few-made}
use Rattle.qz_shard.proofs.Making.{decided-next, granted-answer, idle-answer, repeated-answer}
use Rattle.qz_shard.proofs.shard_core.ShardCore.answer.Goals as goal

pub returns-in-Repeated-clause-answered : goal.returns-in-Repeated-clause-answered
returns-in-Repeated-clause-answered g c =
    let list = c.self.inside.book in
    let view : list ≡ c.args.self.now.records = ap (λ (s : Holding). s.records) c.self.view_is in
    let repeated : IsRepeated c.in-Repeated.reply (verdict_here list c.moment_of-moment.result c.args.user.now c.args.plan.now c.args.ask.now) =
    subst (λ (d : Decision). IsDecision list c.moment_of-moment.result c.args.user.now c.args.plan.now c.args.ask.now d) c.in-Repeated.is c.in_ok-refusal.ensures in
    subst (λ (h : List Record). IsAnswered h c.args.now c.args.user.now c.args.plan.now c.args.ask.now c.in-Repeated.reply h) view
    (repeated-answer list c.args.now c.moment_of-moment.result c.args.user.now c.args.plan.now c.args.ask.now c.in-Repeated.reply c.moment_of-moment.ensures repeated)

pub returns-in-Idle-clause-answered : goal.returns-in-Idle-clause-answered
returns-in-Idle-clause-answered g c =
    let list = c.self.inside.book in
    let idle : IsDecision list c.moment_of-moment.result c.args.user.now c.args.plan.now c.args.ask.now decision.Idle =
    subst (λ (d : Decision). IsDecision list c.moment_of-moment.result c.args.user.now c.args.plan.now c.args.ask.now d) c.in-Idle.is c.in_ok-refusal.ensures in
    let same : list ≡ c.args.self.now.records = ap (λ (s : Holding). s.records) c.self.view_is in
    idle-answer list c.args.self.now.records c.args.now c.moment_of-moment.result c.args.user.now c.args.plan.now c.args.ask.now c.idle.result same c.moment_of-moment.ensures c.requires.posed.change idle c.idle.ensures

pub put-requires-clause-next : goal.put-requires-clause-next
put-requires-clause-next g c =
    let list = c.self.inside.book in
    let s : Holding = record { index = c.self.inside.index; count = c.self.inside.count; records = c.self.inside.book } in
    let posed : IsPosed s c.args.now c.args.user.now c.args.plan.now c.args.ask.now = subst (λ (t : Holding). IsPosed t c.args.now c.args.user.now c.args.plan.now c.args.ask.now) (sym c.self.view_is) c.requires.posed in
    let made : IsDecision list c.moment_of-moment.result c.args.user.now c.args.plan.now c.args.ask.now (decision.Made c.in-Made.event) =
    subst (λ (d : Decision). IsDecision list c.moment_of-moment.result c.args.user.now c.args.plan.now c.args.ask.now d) c.in-Made.is c.in_ok-refusal.ensures in
    subst (λ (t : Holding). IsNext t.index t.count t.records c.in_ok-made.made) c.self.view_is
    (decided-next s list c.args.now c.moment_of-moment.result c.args.user.now c.args.plan.now c.args.ask.now c.in-Made.event c.in_ok-made.made c.self.invariant.held posed refl c.moment_of-moment.ensures made c.in_ok-made.ensures)

pub put-requires-clause-ready : goal.put-requires-clause-ready
put-requires-clause-ready g c = c.requires.ready.each c.in_ok-made.made (put-requires-clause-next g c) (ap (λ (r : Record). r.key) c.in_ok-made.ensures)

pub returns-clause-recorded : goal.returns-clause-recorded
returns-clause-recorded g c =
    let h = c.args.self.now.records in
    let list = c.self.inside.book in
    let view : list ≡ h = ap (λ (s : Holding). s.records) c.self.view_is in
    let made : IsDecision list c.moment_of-moment.result c.args.user.now c.args.plan.now c.args.ask.now (decision.Made c.in-Made.event) =
    subst (λ (d : Decision). IsDecision list c.moment_of-moment.result c.args.user.now c.args.plan.now c.args.ask.now d) c.in-Made.is c.in_ok-refusal.ensures in
    let r = record_by c.moment_of-moment.result c.args.user.now c.args.plan.now c.args.ask.now c.in-Made.event in
    let same : c.in_ok-made.made ≡ r = c.in_ok-made.ensures in
    let after = (granted-answer list h (h ++ r ∷ []) c.args.now c.moment_of-moment.result c.args.user.now c.args.plan.now c.args.ask.now c.in-Made.event (said (h ++ r ∷ []) r) view c.moment_of-moment.ensures made (record { said_so = refl; put = refl })).list in
    let s : Holding = record { index = c.self.inside.index; count = c.self.inside.count; records = c.self.inside.book } in
    let posed : IsPosed s c.args.now c.args.user.now c.args.plan.now c.args.ask.now = subst (λ (t : Holding). IsPosed t c.args.now c.args.user.now c.args.plan.now c.args.ask.now) (sym c.self.view_is) c.requires.posed in
    let next = subst (λ (t : Holding). IsNext t.index t.count t.records c.in_ok-made.made) c.self.view_is
    (decided-next s list c.args.now c.moment_of-moment.result c.args.user.now c.args.plan.now c.args.ask.now c.in-Made.event c.in_ok-made.made c.self.invariant.held posed refl c.moment_of-moment.ensures made c.in_ok-made.ensures) in
    one_put c.in_ok-made.made next (sym after ∙ ap (λ (x : Record). h ++ x ∷ []) (sym same)) c.put.ensures.recorded

pub returns-clause-count : goal.returns-clause-count
returns-clause-count g c =
    let list = c.self.inside.book in
    let view : list ≡ c.args.self.now.records = ap (λ (s : Holding). s.records) c.self.view_is in
    let made : IsDecision list c.moment_of-moment.result c.args.user.now c.args.plan.now c.args.ask.now (decision.Made c.in-Made.event) =
    subst (λ (d : Decision). IsDecision list c.moment_of-moment.result c.args.user.now c.args.plan.now c.args.ask.now d) c.in-Made.is c.in_ok-refusal.ensures in
    few-made c.args.self.now.records c.moment_of-moment.result c.args.user.now c.args.plan.now c.args.ask.now c.in-Made.event c.in_ok-made.made _ _
    (subst (λ (l : List Record). IsDecision l c.moment_of-moment.result c.args.user.now c.args.plan.now c.args.ask.now (decision.Made c.in-Made.event)) view made)
    c.in_ok-made.ensures c.put.ensures.count
