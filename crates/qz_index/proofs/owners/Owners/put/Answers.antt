use Rattle.std.proofs.Common.{◌≡◌, ◌+◌, ap, ◌∙◌, arith}
use Rattle.std.specs.Int.{from_bool}
use Rattle.std.specs.Prelude.{is_some}
use Rattle.qz_terms.specs.History.{started}
use Rattle.qz_index.specs.declared.owners.Tally.{Tally}
use Rattle.qz_index.proofs.OwnerLemmas.{few_attempts, few_bit, few_records, raised, tallied-put}
use Rattle.qz_index.proofs.owners.Owners.put.Goals as goal

pub overflow_add-new : goal.overflow_add-new
overflow_add-new c =
    let few = few_records c.args.self.now c.args.records.now c.args.record.now.owner c.requires.tallied in
    let same = ap (λ (t : Tally). t.records) c.tally-old.ensures in
    omega (arith, c.requires.few)

pub overflow_add-new-2 : goal.overflow_add-new-2
overflow_add-new-2 c =
    let few = few_attempts c.args.self.now c.args.records.now c.args.record.now.owner c.requires.tallied in
    let same = ap (λ (t : Tally). t.next) c.tally-old.ensures in
    let bit = few_bit c.is_start.result c.from.result c.from.ensures in
    omega (arith, c.requires.few)

pub returns : goal.returns
returns c =
    let r = c.args.record.now in
    let old = c.tally-old.result in
    let one : c.from.result ≡ from_bool (is_some (started r)) = c.from.ensures ∙ ap from_bool c.is_start.ensures in
    tallied-put c.args.self.now (record { tallies = c.fill.new.map }) c.args.records.now r _ c.requires.tallied
    (ap (λ n. record { records = old.records + 1; last = r.moment; next = old.next + n }) one ∙ ap (λ (t : Tally). raised t r) c.tally-old.ensures) c.fill.ensures
