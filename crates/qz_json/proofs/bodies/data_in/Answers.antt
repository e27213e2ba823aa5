use Rattle.std.proofs.Common.{true≢false, sym, ◌∙◌}
use Rattle.serde_json.specs.View.{view}
use Rattle.qz_json.proofs.BodyLemmas.{is-data, no-data}
use Rattle.qz_json.proofs.bodies.data_in.Goals as goal

pub returns-in-Ok : goal.returns-in-Ok
returns-in-Ok c = is-data c.args.bytes.now (view c.in-Ok.body) c.in-Ok.ensures.ok

pub returns-else-is_memory : goal.returns-else-is_memory
returns-else-is_memory c = rw c.malformed.ensures (no-data c.args.bytes.now (c.in-Err.ensures.err (λ m. true≢false (sym (c.is_memory.ensures.1 m) ∙ c.if-is_memory.false))))
