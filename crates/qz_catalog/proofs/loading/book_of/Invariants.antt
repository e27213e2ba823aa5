use Rattle.qz_catalog.specs.Holdings.{IsBook}
use Rattle.qz_catalog.proofs.LoadLemmas.{IsReadTo}
use Rattle.qz_catalog.proofs.loading.book_of.Given as goal

abbrev pub invariant-loop-place : goal.invariant-loop-place
invariant-loop-place l = IsReadTo l.payload l.others l.place l.book.records.items × IsBook l.book
