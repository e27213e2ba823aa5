use Rattle.std.proofs.Common.{◌-◌, ◌∙◌, subst, sym}
use Rattle.qz_http.specs.Talk.{EndsSo}
use Rattle.qz_http.proofs.EndLemmas.{ends_badly, ends_here, ends_in_part, ends_later}
use Rattle.qz_http.proofs.ends.+end_from.Goals as goal

pub returns-in-Part : goal.returns-in-Part
returns-in-Part t c = subst (λ e. EndsSo c.args.bytes.now c.args.more e) (sym c.cut_end.ensures) (ends_in_part c.args.bytes.now c.args.more c.in-Part.ensures.awaits)

pub returns-in-Bad : goal.returns-in-Bad
returns-in-Bad t c = ends_badly c.args.bytes.now c.args.more c.in-Bad.status c.in-Bad.ensures

pub returns-in-Some : goal.returns-in-Some
returns-in-Some t c =
    let front = c.in-Request in
    ends_here c.args.bytes.now front.body.now front.len c.args.more front.head c.in-Some.end front.ensures (sym c.end_after.ensures ∙ c.in-Some.is)

pub returns-in-None : goal.returns-in-None
returns-in-None t c =
    let front = c.in-Request in
    ends_later c.args.bytes.now front.body.now front.len c.args.more front.head c.end_from.result front.ensures (sym c.end_after.ensures ∙ c.in-None.is)
    (subst (λ b. EndsSo b (c.args.more - 1) c.end_from.result) c.split_at.ensures.back c.end_from.ensures)
