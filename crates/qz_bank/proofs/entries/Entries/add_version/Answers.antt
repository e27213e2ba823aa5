use Rattle.std.proofs.Common.{List, ap, ◌∙◌}
use Rattle.qz_bank.specs.declared.entry.Entry.{Entry}
use Rattle.qz_bank.specs.Banks.{grown}
use Rattle.qz_bank.proofs.BankLemmas.{grows}
use Rattle.qz_bank.proofs.entries.Entries.add_version.Goals as goal

pub invariant_of-self : goal.invariant_of-self
invariant_of-self c = (grows c.self.inside.entries.items c.args.entry c.args.newer c.index_mut.result.now c.add.new.self c.self.invariant (rw c.self.view_is c.requires.free) c.index_mut.ensures.value c.add.ensures).bank

pub returns : goal.returns
returns c =
    (grows c.self.inside.entries.items c.args.entry c.args.newer c.index_mut.result.now c.add.new.self c.self.invariant (rw c.self.view_is c.requires.free) c.index_mut.ensures.value c.add.ensures).grown_is
    ∙ ap (λ (es : List Entry). grown es c.args.entry c.args.newer) c.self.view_is
