use Rattle.std.proofs.Common.{◌≡◌, ℕ, length, arith, subst}
use Rattle.std.proofs.lemmas.List.Elements.{All-nil}
use Rattle.qz_agreement.specs.Findings.{AreLookedAt, IsClaim}
use Rattle.qz_agreement.proofs.Walking.{nothing-looked, walk-more}
use Rattle.qz_agreement.proofs.disagreement.look_at.Goals as goal

pub loop-index-init : goal.loop-index-init
loop-index-init c = record {
  looked = nothing-looked c.args.catalog.now c.args.records.now c.new-findings.result c.new-findings.ensures.first c.new-findings.ensures.claims (All-nil (IsClaim c.args.catalog.now c.args.records.now));
  quizzes = c.new-quizzes.ensures;
}

pub loop-index-preserved : goal.loop-index-preserved
loop-index-preserved c =
    walk-more c.args.catalog.now c.args.records.now c.loop-index.findings c.note.new.self c.loop-index.index c.loop-index.quizzes c.follow.new.self c.index-records-index.result c.in_ok-verdict.verdict
    c.requires.legal c.loop-index-test.true c.index-records-index.is c.loop-index.invariant c.in_ok-verdict.ensures (record { first = c.in_ok-note.ensures.first; claims = c.in_ok-note.ensures.claims }) c.in_ok-follow.ensures

pub returns : goal.returns
returns c =
    let whole : c.loop-index.index ≡ length c.args.records.now = (let past = c.loop-index-test.false in let below = c.loop-index.auto.index-end in omega (arith, past, below)) in
    subst (λ (n : ℕ). AreLookedAt c.args.catalog.now c.args.records.now c.loop-index.findings n) whole c.loop-index.invariant.looked
