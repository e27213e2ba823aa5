use Rattle.std.proofs.Common.{rules, ap, ◌∙◌}
use Rattle.std.specs.BTreeMap.{is_at}
use Rattle.std.specs.Map.{lookup}
use Rattle.std.specs.Ordering.{nat_cmp}
use Rattle.std.proofs.lemmas.Map.Made.{lookup-map_values, map_same_pairs}
use Rattle.qz_book.specs.Cursors.{moved_back}
use Rattle.qz_book.proofs.cursors.Track.move_back.Goals as goal

pub returns : goal.returns
returns c = λ job.
    let back = moved_back c.args.attempt c.args.plan in
    let es = c.args.self.now.jobs.entries in
    ap (lookup (is_at (nat_cmp job))) (map_same_pairs _ back _ (λ k v b w f' t. search rules) es c.retain.new.self.entries c.retain.ensures.filtered)
    ∙ lookup-map_values back (is_at (nat_cmp job)) es
