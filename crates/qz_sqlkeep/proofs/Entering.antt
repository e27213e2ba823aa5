-- What the statements of one payload do, one after another.
use Rattle.std.proofs.Common.{◌≡◌, ℕ, ℤ, ◌+◌, pos, List, length, Option, Ok, Err, Result, OnOk}
use Rattle.sqlite.specs.Effect.{Database}
use Rattle.sqlite.specs.State.{State}
use Rattle.qz_sqltables.specs.Rows.{Tables, with_payload}
use Rattle.qz_sqltables.specs.Statements.{PutsPayload, Turns}
use Rattle.qz_terms.specs.declared.record.Record.{Record}
use Rattle.qz_sqlkeep.specs.Tables.{with_entry, with_record}

pub turns_nothing : (db : Database) → Turns (λ t. t) db db
turns_nothing db = record { turns = λ t has. has }

pub then_turns : {V E : Type 0} (f g : Tables → Tables) (old mid new : Database) (r : Result V E) → Turns f old mid → OnOk r (Turns g mid new) → OnOk r (Turns (λ t. g (f t)) old new)
then_turns f g old mid new (Ok v) first next = record { turns = λ t has. next.turns (f t) (first.turns t has) }
then_turns f g old mid new (Err e) first next = tt

pub enters_after : {V E : Type 0} (payload : List ℕ) (spelled : Option Record) (place : ℤ) (old mid : State) (new : Database) (r : Result V E) → PutsPayload payload place old mid
    → ((n : ℕ) → place ≡ pos n → OnOk r (Turns (with_record n spelled) mid.now new)) → OnOk r (Turns (with_entry payload spelled) old.now new)
enters_after payload spelled place old mid new (Ok v) puts next = record {
  turns = λ t has. (next (length t.payloads + 1) (puts.at t has)).turns (with_payload payload t) (puts.puts.turns t has);
}
enters_after payload spelled place old mid new (Err e) puts next = tt
