use Rattle.std.proofs.Common.{◌≡◌, ℕ, ◌+◌, ◌≤◌, List, length, ap, subst, ◌∙◌, arith}
use Rattle.std.proofs.lemmas.List.{length-map}
use Rattle.qz_grading.specs.declared.question.Item.{Item}
use Rattle.qz_bank.specs.declared.entry.Entry.{Entry}
use Rattle.qz_bank.specs.Banks.{first_version}
use Rattle.qz_bank.specs.Changes.{CanImport}
use Rattle.qz_bank.specs.Room.{IsRoom}
use Rattle.qz_bank.proofs.BankLemmas.{imported-kept}
use Rattle.qz_bank.proofs.entries.Entries.prepare_import.Goals as goal

pub returns-clause-ready : goal.returns-clause-ready
returns-clause-ready c =
    let list = c.self.inside.entries.items in
    let count = ap (λ (is : List Item). length is) c.as_slice-count.ensures in
    let few : length list + length c.args.bank.items ≤ 20000 = omega (arith, c.if-count-before.false, c.len-before.ensures, count, c.self.invariant.few) in
    let long : length c.in_ok-made.made.items ≡ length c.args.bank.items = ap (λ (es : List Entry). length es) c.in_ok-made.ensures ∙ length-map c.args.bank.items first_version in
    let sum : c.len-before.result + length c.as_slice-count.result.now ≡ length list + length c.in_ok-made.made.items = omega (arith, c.len-before.ensures, count, long) in
    subst (λ (es : List Entry). CanImport es c.in_ok-made.made c.in_ok-room.room) c.self.view_is (record {
      bank = rw c.in_ok-made.ensures (imported-kept list c.args.bank.items c.self.invariant few);
      fits = subst (λ (n : ℕ). IsRoom n c.in_ok-room.room) sum c.in_ok-room.ensures;
    })
