use Rattle.std.proofs.Common.{◌≡◌, ℕ, ◌+◌, Option, Some, length, ap, subst, ◌∙◌}
use Rattle.std.specs.BTreeMap.{Updates}
use Rattle.std.specs.Ordering.{nat_cmp}
use Rattle.std.specs.Prelude.{unwrap_or}
use Rattle.qz_index.specs.Jobs.{done_in}
use Rattle.qz_index.proofs.JobLemmas.{done_jobs-other, done_jobs-put}
use Rattle.qz_index.proofs.done.DoneJobs.put.Goals as goal

pub returns-in-JobDone : goal.returns-in-JobDone
returns-in-JobDone c =
    let h = c.args.records.now in
    let value : c.unwrap_or-place.result ≡ unwrap_or (done_in h c.in-JobDone.job) (length h + 1) = c.unwrap_or-place.ensures ∙ ap (λ (o : Option ℕ). unwrap_or o (length h + 1)) (c.place.ensures h c.requires.done) in
    done_jobs-put c.args.self.now (record { places = c.fill.new.map }) h c.args.record.now c.in-JobDone.job _ _ c.requires.done c.in-JobDone.is
    (subst (λ (n : ℕ). Updates nat_cmp c.args.self.now.places c.fill.new.map c.in-JobDone.job (Some (Some n))) value c.fill.ensures)

pub returns-in_default : goal.returns-in_default
returns-in_default c = done_jobs-other c.args.self.now c.args.records.now c.args.record.now c.requires.done c.in_default.not-JobDone
