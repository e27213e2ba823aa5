use Rattle.qz_text.proofs.HtmlLemmas.{unmarked, back}
use Rattle.qz_text.proofs.escaping.escape.Goals as goal

pub returns-clause-unmarked : goal.returns-clause-unmarked
returns-clause-unmarked c = rw (c.in_ok-html_of.ensures, c.as_str.ensures) (unmarked c.args.text.now)

pub returns-clause-back : goal.returns-clause-back
returns-clause-back c = rw (c.in_ok-html_of.ensures, c.as_str.ensures) (back c.args.text.now)
