-- What opening a school comes to whose lists the files of its folder stand for.
use Rattle.std.specs.Prelude.{◌≡◌, ◌⊎◌, ℕ, List, Result, MatchResult}
use Rattle.qz_disks.specs.Shelves.{Files}
use Rattle.qz_ending.specs.declared.stop.Stop.{Stop}
use Rattle.qz_ending.specs.declared.stop.Stop.TheVariants as stop
use Rattle.qz_journal.specs.Journals.{Ledger}
use Rattle.qz_loading.specs.Opening.{lists_of}
use Rattle.qz_school.specs.Solos.{School}
use Rattle.qz_solo.specs.Restarting.{IsKeptIn}
use Rattle.qz_terms.specs.declared.record.Record.{Record}

-- Where they stand for these lists, which are those of a school, it is opened with these, unless a fault or want of memory keeps it from being.
pub record Reopens {D : Type 0} (folder : List ℕ) (files : Files) (result : Result (School (Ledger D)) Stop) : Type 0 where
  pub each : (c : List Record) (parts : List (List Record)) → IsKeptIn folder files c parts
      → MatchResult result (λ made. (made.catalog.held.list ≡ c) × (lists_of made.parts ≡ parts)) (λ why. (why ≡ stop.ShelfFault) ⊎ (why ≡ stop.Memory))
