-- A change that is prepared: what it leaves of a bank, and what it needs to be put.
use Rattle.std.specs.Prelude.{◌≡◌, ℕ, ◌+◌, List, ◌++◌, length, None, Vec, unwrap_or}
use Rattle.qz_bank.specs.declared.entry.Entry.{Entry}
use Rattle.qz_bank.specs.declared.prepared.Prepared.{Prepared}
use Rattle.qz_bank.specs.declared.prepared.Prepared.TheVariants as prepared
use Rattle.qz_grading.specs.declared.question.Question.{Question}
use Rattle.qz_bank.specs.Banks.{IsBank, entry_cause, grown, latest}
use Rattle.qz_bank.specs.Room.{IsRoom}

-- the bank once it is put
abbrev pub with_change : List Entry → Prepared → List Entry
with_change es (prepared.Import made room) = es ++ made.items
with_change es (prepared.Version entry newer room) = grown es entry newer

-- these entries may stand behind all that are there, and there is room for both
pub record CanImport {Z : Type 0} (es : List Entry) (made room : Vec Entry Z) : Type 0 where
  pub bank : IsBank (es ++ made.items)
  pub fits : IsRoom (length es + length made.items) room

-- an entry may have one version more, and there is room for it and for those before
pub record CanRenew {Z : Type 0} (es : List Entry) (entry : ℕ) (room : Vec Question Z) : Type 0 where
  pub free : entry_cause es entry ≡ None
  pub fits : IsRoom (unwrap_or (latest es entry) 0 + 1) room

abbrev pub CanPut : List Entry → Prepared → Type 0
CanPut es (prepared.Import made room) = CanImport es made room
CanPut es (prepared.Version entry newer room) = CanRenew es entry room
