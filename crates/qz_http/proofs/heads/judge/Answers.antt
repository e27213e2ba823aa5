use Rattle.std.proofs.Common.{sym, ap, ◌∙◌, inr, Err}
use Rattle.qz_http.proofs.HeadLemmas.{read_at, judged, unfinished, unfinished_as_read, hopeless_first, never_first, none_yet}
use Rattle.qz_http.proofs.heads.judge.Goals as goal

pub returns-in-Ok-Complete : goal.returns-in-Ok-Complete
returns-in-Ok-Complete c =
    let found = rw c.in-Ok-Complete.field-0-is at c.in-Ok-Complete.ensures.complete in
    judged c.args.bytes.now c.first_bytes-first.result.now _ found.0 c.judge_read.result c.first_bytes-first.ensures found.1.reads
    (c.judge_read.ensures found.0 (read_at _ _ _ found.0 found.1))

pub returns-in-Ok-Partial : goal.returns-in-Ok-Partial
returns-in-Ok-Partial c =
    let none = rw c.in-Ok-Partial.field-0-is at c.in-Ok-Partial.ensures.partial in
    let may = rw c.in-Ok-Partial.field-0-is at c.in-Ok-Partial.ensures.unfinished in
    c.judge_unfinished.ensures (unfinished_as_read c.args.bytes.now c.first_bytes-first.result.now c.first_bytes-first.ensures none may)

pub returns-else-is_past_target : goal.returns-else-is_past_target
returns-else-is_past_target c =
    let first = c.first_bytes-first.result.now in
    let never = never_first c.args.bytes.now first _ c.in-Err.field-0 c.first_bytes-first.ensures c.requires c.in-Err.ensures.invalid (λ is. c.in-Err.ensures.too_many (ap Err is)) in
    c.judge_unfinished-else-is_past_target.ensures (unfinished c.args.bytes.now first c.first_bytes-first.ensures (none_yet first never) (inr (sym c.is_past_target.ensures ∙ c.if-is_past_target.false)))

pub returns-then-is_past_target : goal.returns-then-is_past_target
returns-then-is_past_target c =
    let first = c.first_bytes-first.result.now in
    let never = never_first c.args.bytes.now first _ c.in-Err.field-0 c.first_bytes-first.ensures c.requires c.in-Err.ensures.invalid (λ is. c.in-Err.ensures.too_many (ap Err is)) in
    hopeless_first c.args.bytes.now first c.first_bytes-first.ensures never (sym c.is_past_target.ensures ∙ c.if-is_past_target.true)
