-- Files that were opened as journals.
use Rattle.std.proofs.Common.{ℕ, List, Option, IfSome, arith}
use Rattle.qz_disks.specs.Disks.{LeavesOnly}
use Rattle.qz_disks.specs.Shelves.{File, SameFile, disk_file}
use Rattle.qz_journal.specs.Journals.{StandsAs}
use Rattle.qz_folders.specs.Opening.{LeavesSince}
use Rattle.qz_folders.proofs.Files.{carried}

like : {old new : List ℕ → Type 0} → ((c : List ℕ) → new c → old c) → (c : List ℕ) → StandsAs new c → StandsAs old c
like adds_nothing c stands = record { outcome = stands.outcome; possible = adds_nothing stands.outcome stands.possible; same = stands.same }

-- a run of calls on a disk that is the file
pub since_then : (file : File) (reads : Option (List ℕ)) (began now : ℕ) (past since : ℕ → List ℕ → Type 0) → SameFile file (disk_file reads began past) → IfSome reads (λ _. LeavesOnly (StandsAs (past began)) began now past since)
    → IfSome file.reads (λ _. LeavesSince (StandsAs file.left) file now since)
since_then file reads began now past since same run = carried file.reads reads same.reads run (λ _ calls. record {
  began = began;
  later = calls.later;
  begins = λ c left. same.adds_nothing c (calls.adds_nothing began c (omega arith) left);
  each = λ t c lower upper left. like same.adds_nothing c (calls.each t c lower upper left);
})
