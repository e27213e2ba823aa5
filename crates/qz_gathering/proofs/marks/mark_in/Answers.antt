use Rattle.std.proofs.Common.{◌≡◌, ◌-◌, ◌≤◌, ℕ, Bool, true, false, List, ap, length, refl, sym, ◌∙◌, arith}
use Rattle.std.specs.Prelude.{◌&&◌, if◌then◌else◌, nat_le, slice_set}
use Rattle.std.proofs.lemmas.List.{set_past}
use Rattle.qz_school.specs.Solos.{lists_in}
use Rattle.qz_gathering.specs.Gathering.{count_before, counted, number_for}
use Rattle.qz_gathering.specs.Marking.{speaks_next}
use Rattle.qz_gathering.proofs.marks.mark_in.Goals as goal

past-all : (v : Bool) (marks : List Bool) (k : ℕ) → length marks ≤ k → marks ≡ (let l : List Bool = if v then slice_set marks k true else marks in l)
past-all true marks k far = sym (set_past marks k true far)
past-all false marks k far = refl

pub returns-then-index-len : goal.returns-then-index-len
returns-then-index-len g c =
    let n = c.args.note.now in
    let base = c.args.base.now in
    let count : c.number_for-count.result ≡ counted n = c.number_for-count.ensures ∙ ap (λ (ps : List ℕ). number_for n.catalog ps n.list) c.as_slice.ensures in
    let before : c.count_before-before.result ≡ count_before base n.list = c.count_before-before.ensures in
    let long = ap length c.marks.view_is in
    past-all (nat_le (count_before base n.list) (counted n) && speaks_next (lists_in c.args.solo.now) n) c.args.marks.now (counted n - count_before base n.list) (omega arith)
