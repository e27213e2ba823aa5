use Rattle.std.proofs.Common.{ap, ◌∙◌, sym, subst}
use Rattle.qz_terms.specs.declared.record.Record.{Record}
use Rattle.qz_terms.specs.Legal.{AllAgree}
use Rattle.qz_turn.specs.declared.view.Tale.{Tale}
use Rattle.qz_turn.specs.Passes.{Lock, Standing}
use Rattle.qz_shard_turns.specs.Tying.{Placed}
use Rattle.qz_shard_turns.proofs.Tying.{joined-agrees, looked-joined, looked-self, one-some, turned-agrees}
use Rattle.qz_shard_turns.proofs.finding.quiz_of.Goals as goal

pub returns-clause-agree : goal.returns-clause-agree
returns-clause-agree g c =
    let t = c.turn.ensures in
    let place = c.requires.tie.place in
    let keyed = ap (λ (l : Lock Placed). l.key) c.requires.pass ∙ c.requires.tie.keyed in
    joined-agrees _ c.in-Some-Some.note _ c.turn.new.pass.seen.list c.join.ensures
    (subst (λ (x : Tale Record). AllAgree c.in-Some-Some.note.seen.list x.list) (sym t.seen)
    (turned-agrees _ _ place t.value_before t.value_after _ _ c.in-Some-Some.note t.went c.in-Some-Some.is-1 (t.fits_after.at place keyed)))

pub returns-in_err-quiz-clause-seen : goal.returns-in_err-quiz-clause-seen
returns-in_err-quiz-clause-seen g c = looked-self c.args.seen.now

pub returns-clause-seen : goal.returns-clause-seen
returns-clause-seen g c =
    let noted = one-some _ _ _ c.in-Some-Some.is-1 c.turn.ensures.went.noted in
    looked-joined c.args.seen.now c.in-Some-Some.note c.join.new.pass c.join.ensures (ap (λ (n : Standing Record (Unit {0})). n.numbers) noted) (ap (λ (n : Standing Record (Unit {0})). n.turns) noted)
