use Rattle.std.proofs.Common.{◌≡◌, rules, tests, take, drop, ap, ◌∙◌}
use Rattle.std.specs.Prelude.{min}
use Rattle.std.specs.Char.{is_ascii_digit}
use Rattle.std.specs.List.{prefix_len}
use Rattle.std.proofs.lemmas.Iterator.{YieldsList-from_slice}
use Rattle.std.proofs.lemmas.Iterator.Consumers.{count_from_yields_List}
use Rattle.std.proofs.lemmas.Iterator.Search.{YieldsList-from_take_while}
use Rattle.std.proofs.lemmas.List.Folds.{length-prefix_len}
use Rattle.qz_decimal.proofs.DigitRuns.{first_digits-each}
use Rattle.qz_decimal.proofs.digits.split_digits.Goals as goal
use Rattle.qz_decimal.proofs.digits.split_digits.Goals.{After-count-count}

counted : (c : After-count-count) → c.count-count.result ≡ prefix_len is_ascii_digit c.args.text.now
counted c =
    count_from_yields_List c.take_while.result c.count-count.result c.count-count.ensures.ran
    (YieldsList-from_take_while _ is_ascii_digit (YieldsList-from_slice c.args.text.now (search rules)) c.take_while.ensures.closure c.take_while.ensures.done (λ x b q k. search (rules, tests)))
    ∙ length-prefix_len is_ascii_digit c.args.text.now

pub returns : goal.returns
returns c =
    let count = c.min.ensures ∙ ap (λ n. min n c.args.most) (counted (goal.at.returns c).After-count-count) in
    let digits = c.split_at.ensures.front ∙ ap (λ n. take n c.args.text.now) count in
    record {
      digits = digits;
      rest = c.split_at.ensures.back ∙ ap (λ n. drop n c.args.text.now) count;
      each = rw digits (first_digits-each c.args.most c.args.text.now);
      few = search rules;
    }
