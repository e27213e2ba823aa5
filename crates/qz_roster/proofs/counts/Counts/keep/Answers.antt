use Rattle.std.proofs.Common.{◌+◌, length, ap, ◌∙◌, arith}
use Rattle.std.specs.Int.{from_bool}
use Rattle.std.specs.Prelude.{is_some}
use Rattle.qz_terms.specs.declared.record.Record.{Record}
use Rattle.qz_terms.specs.Catalog.{asked, group_by}
use Rattle.qz_roster.proofs.CountLemmas.{counts-kept}
use Rattle.qz_roster.proofs.Reading.{length-told}
use Rattle.qz_roster.proofs.Telling.{more-few}
use Rattle.qz_roster.proofs.counts.Counts.keep.Goals as goal

pub overflow_add-self : goal.overflow_add-self
overflow_add-self c =
    let most = length-told (λ (s : Record). group_by (asked s)) c.args.records.now in
    let groups = c.requires.counts.groups in
    let few = c.requires.few in
    let sum = more-few c.args.self.now.groups (length c.args.records.now) c.from.result (is_some (group_by (asked c.args.record.now))) (c.from.ensures ∙ ap from_bool c.makes_group.ensures) (omega arith) in
    omega arith

pub overflow_add-self-2 : goal.overflow_add-self-2
overflow_add-self-2 c = let entries = c.requires.counts.entries in let most = c.requires.entries in let more = c.import_count.ensures.few in omega arith

pub returns : goal.returns
returns c =
    counts-kept c.args.records.now c.args.record.now c.args.self.now c.keep_job.new.self c.requires.counts
    (c.keep_job.ensures.groups ∙ ap (λ n. c.args.self.now.groups + n) (c.from.ensures ∙ ap from_bool c.makes_group.ensures))
    (c.keep_job.ensures.entries ∙ ap (λ n. c.args.self.now.entries + n) c.import_count.ensures.value)
    c.keep_job.ensures.jobs
