use Rattle.std.proofs.Common.{◌≡◌, ℕ, Some, max, ap, subst, ◌∙◌, rules}
use Rattle.std.specs.BTreeMap.{Updates}
use Rattle.std.specs.Ordering.{nat_cmp}
use Rattle.qz_index.proofs.JobLemmas.{floors-other, floors-put}
use Rattle.qz_index.proofs.floors.Floors.put.Goals as goal

pub returns-in-JobDone : goal.returns-in-JobDone
returns-in-JobDone c =
    let h = c.args.records.now in
    let first : c.max-floor.result ≡ max c.floor.result c.in-JobDone.position = search rules in
    let value = first ∙ ap (λ n. max n c.in-JobDone.position) (c.floor.ensures h c.requires.floors) in
    floors-put c.args.self.now (record { positions = c.fill.new.map }) h c.args.record.now _ c.in-JobDone.quiz c.in-JobDone.position c.requires.floors c.in-JobDone.is
    (subst (λ (n : ℕ). Updates nat_cmp c.args.self.now.positions c.fill.new.map c.in-JobDone.quiz (Some n)) value c.fill.ensures)

pub returns-in_default : goal.returns-in_default
returns-in_default c = floors-other c.args.self.now c.args.records.now c.args.record.now c.requires.floors c.in_default.not-JobDone
