-- Files that were founded.
use Rattle.std.proofs.Common.{◌≡◌, ◌∙◌, ℕ, inr, List, Option, None, Some, IfSome, Ok, Err, Result, option_map, ap, sym, subst}
use Rattle.qz_disks.specs.Shelves.{File}
use Rattle.qz_journal.specs.Frames.{stands_for}
use Rattle.qz_journal.specs.Journals.{Ledger, StandFor}
use Rattle.qz_folders.specs.declared.fault.FoundFault.{FoundFault}
use Rattle.qz_folders.specs.declared.fault.FoundFault.TheVariants.{Already, Damaged, Fault, Memory}
use Rattle.qz_folders.specs.Founding.{EndsFounding, Keeps, PutsFirst}
use Rattle.qz_folders.specs.Opening.{IsOpened}

-- what is kept is what each crash leaves
left_by : {payloads : List (List ℕ)} {in_doubt : Option (List ℕ)} {outcomes : List ℕ → Type 0} (kept : Option (List (List ℕ))) (doubt : Option (List ℕ)) → Keeps payloads in_doubt kept doubt
    → IfSome kept (λ l. StandFor l doubt outcomes) → StandFor payloads in_doubt outcomes
left_by {payloads} {in_doubt} {outcomes} kept doubt keeps stand =
    subst (λ d. StandFor payloads d outcomes) keeps.doubtful (subst (λ o. IfSome o (λ l. StandFor l doubt outcomes)) keeps.told stand)

-- a file that was opened, and whose journal was given back
put_and_back : (payload bytes : List ℕ) (old new : List ℕ → Type 0) (payloads : List (List ℕ)) (kept : Option (List (List ℕ))) (doubt : Option (List ℕ)) (result : Result (Unit {0}) FoundFault)
    → stands_for bytes ≡ Ok payloads → old bytes → PutsFirst payloads payload kept doubt result → IfSome kept (λ l. StandFor l doubt new) → EndsFounding payload bytes old new result
put_and_back payload bytes old new payloads kept doubt (Ok done) stood here puts stand = record { was_empty = stood ∙ ap (λ l. Ok l) puts.0; founded = left_by kept doubt puts.1 stand }
put_and_back payload bytes old new payloads kept doubt (Err Already) stood here puts stand = record { list = payloads; some = puts.0; stood = stood; stands = left_by kept doubt puts.1 stand }
put_and_back payload bytes old new payloads kept doubt (Err (Damaged place)) stood here puts stand = absurd puts
put_and_back payload bytes old new payloads kept doubt (Err Fault) stood here puts stand = inr (record { was_empty = stood ∙ ap (λ l. Ok l) puts.0; stand = left_by kept doubt puts.1 stand })
put_and_back payload bytes old new payloads kept doubt (Err Memory) stood here puts stand = record {
  each = λ c left. record { outcome = bytes; possible = here; same = (left_by kept doubt puts stand).each c left ∙ sym stood };
}

-- the same for a file that may be told
pub ends_with_put : (payload : List ℕ) (file : File) (new : List ℕ → Type 0) {D : Type 0} (moment : D → ℕ) (left_at : D → ℕ → List ℕ → Type 0) (journal : Ledger D) (payloads : List (List ℕ)) (kept : Option (List (List ℕ))) (doubt : Option (List ℕ))
    (result : Result (Unit {0}) FoundFault) → IsOpened moment left_at file journal payloads → IfSome file.reads file.left → IfSome journal.kept (λ _. PutsFirst payloads payload kept doubt result)
    → IfSome kept (λ l. StandFor l doubt new) → IfSome file.reads (λ bytes. EndsFounding payload bytes file.left new result)
ends_with_put payload file new moment left_at journal payloads kept doubt result is here puts stand = told file.reads is.list here is.kept
  where
    told : (o : Option (List ℕ)) → IfSome o (λ bytes. stands_for bytes ≡ Ok payloads) → IfSome o file.left → journal.kept ≡ option_map (λ _. payloads) o → IfSome o (λ bytes. EndsFounding payload bytes file.left new result)
    told None list here same = tt
    told (Some bytes) list here same = put_and_back payload bytes file.left new payloads kept doubt result list here (subst (λ o. IfSome o (λ _. PutsFirst payloads payload kept doubt result)) same puts) stand
