use Rattle.std.proofs.Common.{◌≡◌, rules, tests, drop, ap, ◌∙◌}
use Rattle.std.specs.List.{prefix_len}
use Rattle.std.proofs.lemmas.Iterator.{YieldsList-from_slice}
use Rattle.std.proofs.lemmas.Iterator.Consumers.{count_from_yields_List}
use Rattle.std.proofs.lemmas.Iterator.Search.{YieldsList-from_take_while}
use Rattle.std.proofs.lemmas.List.Folds.{length-prefix_len}
use Rattle.qz_decimal.specs.Decimals.{is_space}
use Rattle.qz_decimal.proofs.decimal.skip_blanks.Goals as goal
use Rattle.qz_decimal.proofs.decimal.skip_blanks.Goals.{After-count-count}

counted : (c : After-count-count) → c.count-count.result ≡ prefix_len is_space c.args.text.now
counted c =
    count_from_yields_List c.take_while.result c.count-count.result c.count-count.ensures.ran
    (YieldsList-from_take_while _ is_space (YieldsList-from_slice c.args.text.now (search rules)) c.take_while.ensures.closure c.take_while.ensures.done (λ x b q k. search (rules, tests)))
    ∙ length-prefix_len is_space c.args.text.now

pub returns : goal.returns
returns c = c.split_at.ensures.back ∙ ap (λ n. drop n c.args.text.now) (counted (goal.at.returns c).After-count-count)
