use Rattle.std.proofs.Common.{Some, true, subst}
use Rattle.std.specs.BTreeMap.{Updates}
use Rattle.qz_index.specs.declared.skips.Skip.{Skip}
use Rattle.qz_index.specs.Jobs.{skip_cmp}
use Rattle.qz_index.proofs.JobLemmas.{skips-other, skips-put}
use Rattle.qz_index.proofs.skips.Skips.put.Goals as goal

pub returns-in-Skipped : goal.returns-in-Skipped
returns-in-Skipped c =
    skips-put c.args.self.now (record { skipped = c.fill.new.map }) c.args.records.now c.args.record.now _ _ _ _ _ c.requires.skipped c.in-Skipped.is
    (subst (λ (k : Skip). Updates skip_cmp c.args.self.now.skipped c.fill.new.map k (Some true)) c.skip_of.ensures c.fill.ensures)

pub returns-in_default : goal.returns-in_default
returns-in_default c = skips-other c.args.self.now c.args.records.now c.args.record.now c.requires.skipped c.in_default.not-Skipped
