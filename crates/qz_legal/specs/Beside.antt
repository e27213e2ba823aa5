-- What is kept beside the records of a shard.
use Rattle.std.specs.Prelude.{ℕ, List}
use Rattle.qz_index.specs.declared.keys.Keys.{Keys}
use Rattle.qz_index.specs.Keys.{AreKeys}
use Rattle.qz_terms.specs.declared.record.Record.{Record}
use Rattle.qz_book.specs.declared.cursors.Cursors.{Cursors}
use Rattle.qz_book.specs.Cursors.{AreCursors}
use Rattle.qz_book.specs.Held.{IsHeld}

-- the list of a shard, the replies that were said of its records with a key, and how far jobs have come
pub record IsAnswering (index count : ℕ) (h : List Record) (keys : Keys) (cursors : Cursors) : Type 0 where
  pub held : IsHeld index count h
  pub keyed : AreKeys keys h
  pub passed : AreCursors cursors h
