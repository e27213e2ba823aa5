use Rattle.std.proofs.Common.{◌≡◌, ◌++◌, arith, ap, length, length-append, rules, sym}
use Rattle.qz_script.proofs.KeptLemmas.{kept-long, kept-short}
use Rattle.qz_script.proofs.script_line.longer.Goals as goal

pub returns-then-saturating_add-gt-LONGEST : goal.returns-then-saturating_add-gt-LONGEST
returns-then-saturating_add-gt-LONGEST c =
    let size : c.len.result ≡ length c.front.inside.items.items = search rules in
    sym (kept-long (c.args.front ++ c.args.piece.now) (omega (arith, length-append c.args.front c.args.piece.now, ap length c.front.view_is)))

pub returns : goal.returns
returns c =
    let size : c.len.result ≡ length c.front.inside.items.items = search rules in
    let short = kept-short (c.args.front ++ c.args.piece.now) (omega (arith, length-append c.args.front c.args.piece.now, ap length c.front.view_is)) in
    rw (c.in_ok-extend_from_slice.ensures.items, c.front.view_is) (sym short)
