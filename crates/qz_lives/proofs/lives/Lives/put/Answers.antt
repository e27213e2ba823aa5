use Rattle.std.proofs.Common.{◌≡◌, refl, sym, ap, subst, ◌∙◌, arith}
use Rattle.std.specs.Prelude.{is_some}
use Rattle.qz_terms.specs.declared.record.Event.{Event}
use Rattle.qz_terms.specs.declared.record.Event.TheVariants as event
use Rattle.qz_terms.specs.declared.record.How.TheVariants as how
use Rattle.qz_lives.specs.Changes.{HasRoomBy, IsPreparedBy}
use Rattle.qz_lives.proofs.Following.{lives-abandoned, lives-acted, lives-finished, lives-rebound, lives-spared, lives-started, quiet, spares-acted, spares-ended, spares-rebound}
use Rattle.qz_lives.proofs.Members.{from-one}
use Rattle.qz_lives.proofs.Putting.{act-of, can-act, can-end, can-rebind, end-of, event-allowed, last-of, rebind-of, rebind-count}
use Rattle.qz_lives.proofs.Totals.{can-total, rows-abandoned, rows-begun, rows-next, rows-spared}
use Rattle.qz_lives.proofs.lives.Lives.put.Goals as goal

pub returns-in-Attempt-clause-lives : goal.returns-in-Attempt-clause-lives
returns-in-Attempt-clause-lives g c =
    let l = c.args.records.now in
    let r = c.args.record.now in
    let known = g.V.Versions.version_of c.args.versions.now in
    let made : IsPreparedBy known r (event.Started c.in-Started.quiz c.in-Started.nth c.in-Started.behaviour c.in-Started.bounds c.in-Started.learned) c.args.prepared = subst (λ (d : Event). IsPreparedBy known r d c.args.prepared) c.in-Started.is c.requires.ready.prepared in
    let attempt = subst (IsPreparedBy known r (event.Started c.in-Started.quiz c.in-Started.nth c.in-Started.behaviour c.in-Started.bounds c.in-Started.learned)) c.in-Attempt.is made in
    let last = last-of l r c.requires.lawful in
    record {
      attempts = lives-started known c.args.self.now c.start.new.self l r c.in-Started.quiz c.in-Started.nth c.in-Started.behaviour c.in-Started.bounds c.in-Started.learned c.in-Attempt.live c.requires.known c.requires.lives.attempts last c.in-Started.is attempt.0 attempt.1 attempt.2 c.start.ensures.becomes;
      rows = rw c.start.ensures.rows (rows-begun c.args.self.now l r c.in-Started.quiz c.in-Started.nth c.in-Started.behaviour c.in-Started.bounds c.in-Started.learned c.requires.lives last c.in-Started.is);
    }

pub act-requires : goal.act-requires
act-requires g c =
    let l = c.args.records.now in
    let r = c.args.record.now in
    let m = c.args.self.now in
    let known = g.V.Versions.version_of c.args.versions.now in
    let a = c.in-Acted.attempt in
    let k = c.in-Acted.slot in
    let room : HasRoomBy m r (event.Acted a k c.in-Acted.step) = subst (HasRoomBy m r) c.in-Acted.is c.requires.ready.room in
    let made : IsPreparedBy known r (event.Acted a k c.in-Acted.step) c.args.prepared = subst (λ (d : Event). IsPreparedBy known r d c.args.prepared) c.in-Acted.is c.requires.ready.prepared in
    let same = subst (IsPreparedBy known r (event.Acted a k c.in-Acted.step)) c.in-Step.is made in
    let is : r.event ≡ event.Acted a k c.in-Step.step = c.in-Acted.is ∙ ap (event.Acted a k) (sym same) in
    let last = last-of l r c.requires.lawful in
    let d = act-of known m l r a k c.in-Step.step c.requires.known c.requires.lives.attempts last is in
    can-act known m l a k c.in-Step.step d (can-total last.index last.count m.rows l a d.live last.legal c.requires.lives.rows d.told) room

pub returns-in-Step-clause-lives : goal.returns-in-Step-clause-lives
returns-in-Step-clause-lives g c =
    let l = c.args.records.now in
    let r = c.args.record.now in
    let m = c.args.self.now in
    let known = g.V.Versions.version_of c.args.versions.now in
    let a = c.in-Acted.attempt in
    let k = c.in-Acted.slot in
    let made : IsPreparedBy known r (event.Acted a k c.in-Acted.step) c.args.prepared = subst (λ (d : Event). IsPreparedBy known r d c.args.prepared) c.in-Acted.is c.requires.ready.prepared in
    let same = subst (IsPreparedBy known r (event.Acted a k c.in-Acted.step)) c.in-Step.is made in
    let is : r.event ≡ event.Acted a k c.in-Step.step = c.in-Acted.is ∙ ap (event.Acted a k) (sym same) in
    let last = last-of l r c.requires.lawful in
    let d = act-of known m l r a k c.in-Step.step c.requires.known c.requires.lives.attempts last is in
    let acted = c.act.ensures.acted in
    let attempts = lives-acted known m c.act.new.self l r a k c.in-Step.step c.requires.known c.requires.lives.attempts d is acted in
    record { attempts = attempts; rows = rows-next m c.act.new.self l r a d.live acted.next c.requires.lives last (λ b apart. spares-acted r a k c.in-Step.step b is apart) (rw is refl) attempts d.told acted.becomes.here acted.row }

pub finish-requires : goal.finish-requires
finish-requires g c =
    let l = c.args.records.now in
    let r = c.args.record.now in
    let m = c.args.self.now in
    let known = g.V.Versions.version_of c.args.versions.now in
    let is : r.event ≡ event.Ended c.in-Ended.attempt how.Finished = c.in-Ended.is ∙ ap (event.Ended c.in-Ended.attempt) c.in-Finished.is in
    let room : HasRoomBy m r (event.Ended c.in-Ended.attempt how.Finished) = subst (HasRoomBy m r) is c.requires.ready.room in
    let last = last-of l r c.requires.lawful in
    let d = end-of known m l r c.in-Ended.attempt how.Finished c.requires.known c.requires.lives.attempts last is in
    can-end known m l c.in-Ended.attempt d (from-one last.index last.count l c.in-Ended.attempt d.told.started last.legal d.told.start_is) room

pub returns-in-Finished-clause-lives : goal.returns-in-Finished-clause-lives
returns-in-Finished-clause-lives g c =
    let l = c.args.records.now in
    let r = c.args.record.now in
    let m = c.args.self.now in
    let known = g.V.Versions.version_of c.args.versions.now in
    let last = last-of l r c.requires.lawful in
    let d = end-of known m l r c.in-Ended.attempt c.in-Ended.how c.requires.known c.requires.lives.attempts last c.in-Ended.is in
    let done = c.finish.ensures.finished in
    let attempts = lives-finished known m c.finish.new.self l r c.in-Ended.attempt (record { how = c.in-Ended.how; place = c.args.place }) c.requires.known c.requires.lives.attempts last d c.requires.place c.in-Finished.is c.in-Ended.is done in
    record { attempts = attempts; rows = rows-next m c.finish.new.self l r c.in-Ended.attempt d.live done.next c.requires.lives last (λ b apart. spares-ended r c.in-Ended.attempt c.in-Ended.how b c.in-Ended.is apart) (rw c.in-Ended.is refl) attempts d.told done.becomes.here done.row }

pub abandon-requires : goal.abandon-requires
abandon-requires g c =
    let l = c.args.records.now in
    let r = c.args.record.now in
    let m = c.args.self.now in
    let known = g.V.Versions.version_of c.args.versions.now in
    ap is_some (end-of known m l r c.in-Ended.attempt c.in-Ended.how c.requires.known c.requires.lives.attempts (last-of l r c.requires.lawful) c.in-Ended.is).there

pub returns-in-Ended-clause-lives : goal.returns-in-Ended-clause-lives
returns-in-Ended-clause-lives g c =
    let l = c.args.records.now in
    let r = c.args.record.now in
    let m = c.args.self.now in
    let known = g.V.Versions.version_of c.args.versions.now in
    let last = last-of l r c.requires.lawful in
    let d = end-of known m l r c.in-Ended.attempt c.in-Ended.how c.requires.known c.requires.lives.attempts last c.in-Ended.is in
    record {
      attempts = lives-abandoned known m c.abandon.new.self l r c.in-Ended.attempt (record { how = c.in-Ended.how; place = c.args.place }) c.requires.known c.requires.lives.attempts last d c.requires.place c.in-Abandoned.is c.in-Ended.is c.abandon.ensures;
      rows = rw c.abandon.ensures.rows (rows-abandoned m l r c.in-Ended.attempt c.in-Ended.how c.requires.lives c.in-Ended.is c.in-Abandoned.is d.unended);
    }

pub rebind-requires : goal.rebind-requires
rebind-requires g c =
    let l = c.args.records.now in
    let r = c.args.record.now in
    let m = c.args.self.now in
    let known = g.V.Versions.version_of c.args.versions.now in
    let last = last-of l r c.requires.lawful in
    let d = rebind-of known m l r c.in-Rebound.job c.in-Rebound.attempt c.in-Rebound.slot c.in-Rebound.bound c.in-Rebound.learned c.requires.known c.requires.lives.attempts last c.in-Rebound.is in
    can-rebind known m l r c.in-Rebound.attempt c.in-Rebound.slot c.in-Rebound.bound d (can-total last.index last.count m.rows l c.in-Rebound.attempt d.live last.legal c.requires.lives.rows d.told)

pub returns-in-Rebound-clause-lives : goal.returns-in-Rebound-clause-lives
returns-in-Rebound-clause-lives g c =
    let l = c.args.records.now in
    let r = c.args.record.now in
    let m = c.args.self.now in
    let known = g.V.Versions.version_of c.args.versions.now in
    let last = last-of l r c.requires.lawful in
    let d = rebind-of known m l r c.in-Rebound.job c.in-Rebound.attempt c.in-Rebound.slot c.in-Rebound.bound c.in-Rebound.learned c.requires.known c.requires.lives.attempts last c.in-Rebound.is in
    let anew = c.rebind.ensures.rebound in
    let attempts = lives-rebound known m c.rebind.new.self l r c.in-Rebound.job c.in-Rebound.attempt c.in-Rebound.slot c.in-Rebound.bound c.in-Rebound.learned c.requires.known c.requires.lives.attempts d c.in-Rebound.is anew in
    record { attempts = attempts; rows = rows-next m c.rebind.new.self l r c.in-Rebound.attempt d.live anew.next c.requires.lives last (λ b apart. spares-rebound r c.in-Rebound.job c.in-Rebound.attempt c.in-Rebound.slot c.in-Rebound.bound c.in-Rebound.learned b c.in-Rebound.is apart) (rw c.in-Rebound.is refl) attempts d.told anew.becomes.here anew.row }

pub returns-in-Rebound-clause-count : goal.returns-in-Rebound-clause-count
returns-in-Rebound-clause-count g c =
    let l = c.args.records.now in
    let r = c.args.record.now in
    let m = c.args.self.now in
    let known = g.V.Versions.version_of c.args.versions.now in
    let d = rebind-of known m l r c.in-Rebound.job c.in-Rebound.attempt c.in-Rebound.slot c.in-Rebound.bound c.in-Rebound.learned c.requires.known c.requires.lives.attempts (last-of l r c.requires.lawful) c.in-Rebound.is in
    rw c.in-Rebound.is (rebind-count known m l r c.in-Rebound.attempt c.in-Rebound.slot c.in-Rebound.bound c.args.steps.now c.rebind.new.steps d c.rebind.ensures.count)

pub returns : goal.returns
returns g c =
    let l = c.args.records.now in
    let r = c.args.record.now in
    let n = c.in_default in
    let m = c.args.self.now in
    let h = c.requires.lives in
    let q = quiet l r r.event refl (event-allowed l r r.event refl (last-of l r c.requires.lawful)) n.not-Started n.not-Acted n.not-Ended n.not-Rebound in
    record { lives = record { attempts = lives-spared m l r q.spares h.attempts; rows = rows-spared m l r h.attempts m.rows q.spares q.no_start h.rows }; count = omega arith }
