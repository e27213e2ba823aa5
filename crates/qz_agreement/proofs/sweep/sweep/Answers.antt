use Rattle.std.proofs.Common.{◌≡◌, ◌<◌, ℕ, List, Some, ap, arith, get_or, length, subst, sym, ◌∙◌}
use Rattle.std.proofs.lemmas.Option.{get_or_from_slice_get, slice_get-get_or}
use Rattle.qz_agreement.specs.declared.findings.Claim.{Claim}
use Rattle.qz_agreement.specs.Findings.{AreSwept}
use Rattle.qz_agreement.proofs.Sweeping.{claim-at, claim-inside, grows-to, sweeping-more, sweeping-none}
use Rattle.qz_agreement.proofs.sweep.sweep.Goals as goal
use Rattle.qz_agreement.proofs.sweep.sweep.Goals.{then-not-branch, else-not-branch}

abbrev nought : Claim
nought = record { at = 0; quiz = 0; index = 0 }

read-at : (claims : List Claim) (n : ℕ) → n < length claims → get_or claims n nought ≡ get_or claims n (get_or claims n nought)
read-at claims n inside = sym (get_or_from_slice_get claims n (get_or claims n nought) (get_or claims n nought) (slice_get-get_or claims n nought inside))

pub loop-claim-init : goal.loop-claim-init
loop-claim-init c = sweeping-none c.args.whole.now c.args.records.now c.args.claims.now c.args.found c.in_ok-first.first c.requires.claims c.in_ok-first.ensures

pub fits_then-requires : goal.fits_then-requires
fits_then-requires c =
    let n = c.loop-claim.claim-index in
    let a = get_or c.args.claims.now n nought in
    let is = read-at c.args.claims.now n c.loop-claim-test.true in
    let t = claim-at c.args.whole.now c.args.records.now c.args.claims.now n a c.requires.claims c.loop-claim-test.true is in
    record {
      front = c.loop-claim.invariant.front;
      below = grows-to c.args.whole.now c.args.records.now c.args.claims.now c.args.found c.loop-claim.last c.loop-claim.first n a c.loop-claim-test.true is c.loop-claim.invariant;
      within = t.pends.within;
      index = claim-inside c.args.whole.now c.args.records.now a t;
    }

pub loop-claim-preserved : goal.loop-claim-preserved
loop-claim-preserved c =
    let n = c.loop-claim.claim-index in
    let a = get_or c.args.claims.now n nought in
    let is = read-at c.args.claims.now n c.loop-claim-test.true in
    sweeping-more c.args.whole.now c.args.records.now c.args.claims.now c.args.found c.loop-claim.last c.if-not-branch.last c.fits_then.new.first n a c.in_ok-fits_then.field-0
    c.requires.claims c.requires.sorted c.loop-claim-test.true is c.in_ok-fits_then.ensures.front c.in_ok-fits_then.ensures.below c.in_ok-fits_then.ensures.fits
    (elim c.if-not-branch.branch [
      | then-not-branch w ↦ rw w.if-not-branch.true (w.last-is ∙ ap Some w.earlier.ensures)
      | else-not-branch w ↦ rw w.if-not-branch.false w.last-is
    ])
    c.loop-claim.invariant.swept

pub returns : goal.returns
returns c =
    let whole : c.loop-claim.claim-index ≡ length c.args.claims.now = (let past = c.loop-claim-test.false in let below = c.loop-claim.auto.claim-index-end in omega (arith, past, below)) in
    subst (λ (m : ℕ). AreSwept c.args.whole.now c.args.records.now c.args.claims.now c.args.found c.loop-claim.last m) whole c.loop-claim.invariant.swept
