use Rattle.std.proofs.Common.{◌≡◌, None, sym, ◌∙◌}
use Rattle.qz_lemmas.proofs.Options.{none-by}
use Rattle.qz_room.specs.Pairs.{pair_cmp}
use Rattle.qz_index.specs.Versions.{origin}
use Rattle.qz_room.proofs.Filled.{filled_kept}
use Rattle.qz_index.proofs.VersionLemmas.{origin_learned}
use Rattle.qz_index.proofs.versions.Versions.learn.Goals as goal

pub returns-then-is_none-clause-learned : goal.returns-then-is_none-clause-learned
returns-then-is_none-clause-learned c =
    let none : origin c.args.self.now c.args.entry c.args.version ≡ None = sym c.origin.ensures ∙ none-by c.origin.result c.if-is_none.ensures in
    origin_learned c.args.self.now (record { origins = c.fill.new.map }) c.args.entry c.args.version c.args.at c.fill.ensures none

pub returns-then-is_none-clause-kept : goal.returns-then-is_none-clause-kept
returns-then-is_none-clause-kept c = λ e v is. filled_kept pair_cmp c.args.self.now.origins c.fill.new.map _ _ (e, v) c.fill.ensures is
