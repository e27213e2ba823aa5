use Rattle.std.proofs.Common.{List, ℕ, subst}
use Rattle.qz_catalog.specs.Loads.{IsBegun, IsTaken}
use Rattle.qz_catalog.proofs.LoadLemmas.{first-illegal, read-illegal, read-more}
use Rattle.qz_catalog.proofs.loading.book_of.Goals as goal

pub returns-in_default-clause-illegal : goal.returns-in_default-clause-illegal
returns-in_default-clause-illegal c = first-illegal c.args.payload.now c.args.others.now (subst (IsBegun c.args.payload.now) c.in_default.is c.in_ok-book.ensures)

pub returns-then-not-branch-clause-illegal : goal.returns-then-not-branch-clause-illegal
returns-then-not-branch-clause-illegal c =
    let payload = c.index-others-place.result in
    let list = c.loop-place.book.records.items in
    let new = c.take.new.book.records.items in
    let taken : IsTaken list new payload c.in_ok-take.field-0 = subst (λ (p : List ℕ). IsTaken list new p c.in_ok-take.field-0) c.as_slice.ensures c.in_ok-take.ensures.taken in
    read-illegal c.args.payload.now c.args.others.now c.loop-place.place list new payload c.loop-place-test.true c.index-others-place.is c.loop-place.invariant.0 (subst (IsTaken list new payload) c.if-not-branch.true taken)

pub loop-place-preserved : goal.loop-place-preserved
loop-place-preserved c =
    let payload = c.index-others-place.result in
    let list = c.loop-place.book.records.items in
    let new = c.take.new.book.records.items in
    let taken : IsTaken list new payload c.in_ok-take.field-0 = subst (λ (p : List ℕ). IsTaken list new p c.in_ok-take.field-0) c.as_slice.ensures c.in_ok-take.ensures.taken in
    (read-more c.args.payload.now c.args.others.now c.loop-place.place list new payload c.loop-place-test.true c.index-others-place.is c.loop-place.invariant.0 (subst (IsTaken list new payload) c.if-not-branch.false taken), c.take.ensures.book)
