use Rattle.std.proofs.Common.{ap, sym, ◌∙◌, Some, None}
use Rattle.std.specs.Prelude.{option_copied}
use Rattle.qz_terms.specs.declared.reply.Done.TheVariants as done
use Rattle.qz_catalog.proofs.Deciding.{looked-gift}
use Rattle.qz_catalog.proofs.replies.looked.Goals as goal

pub returns-in_ok-try_copy-in-Some : goal.returns-in_ok-try_copy-in-Some
returns-in_ok-try_copy-in-Some c =
    ap done.Gift c.in_ok-try_copy-in-Some.ensures
    ∙ looked-gift c.args.book.now.records.items c.args.book.now.entries c.in-Bank.entry c.in-Bank.version c.args.request.now (Some c.in-Some.question.now) c.requires.held.bank c.in-Bank.is (sym (ap option_copied c.in-Some.is) ∙ c.version.ensures)

pub returns-in-None : goal.returns-in-None
returns-in-None c = looked-gift c.args.book.now.records.items c.args.book.now.entries c.in-Bank.entry c.in-Bank.version c.args.request.now None c.requires.held.bank c.in-Bank.is (sym (ap option_copied c.in-None.is) ∙ c.version.ensures)
