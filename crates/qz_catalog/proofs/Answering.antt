-- What is answered, and what the list and its bank are afterwards.
use Rattle.std.proofs.Common.{◌≡◌, ℕ, ◌+◌, ◌-◌, ◌<◌, ◌^◌, List, [], ◌∷◌, ◌++◌, None, length, take, get_or, refl, sym, ap, ◌∙◌, arith, length-append}
use Rattle.std.proofs.lemmas.List.Elements.{All-push}
use Rattle.std.proofs.lemmas.List.Folds.{list_all-append}
use Rattle.std.proofs.lemmas.Option.{get_or_from_slice_get}
use Rattle.qz_terms.specs.declared.ask.Ask.{Ask}
use Rattle.qz_terms.specs.declared.people.User.{User}
use Rattle.qz_terms.specs.declared.record.Record.{Record}
use Rattle.qz_terms.specs.declared.reply.Reply.{Reply}
use Rattle.qz_terms.specs.Answer.{said}
use Rattle.qz_terms.specs.CatalogAnswer.{catalog_after, catalog_answer, catalog_verdict, record_in}
use Rattle.qz_terms.specs.Cause.{Repeated, verdict_in}
use Rattle.qz_terms.specs.Kept.{IsKept}
use Rattle.qz_terms.specs.Legal.{IsLegalCatalog}
use Rattle.qz_bank.specs.declared.entry.Entry.{Entry}
use Rattle.qz_catalog.specs.Applying.{IsLooked, IsPosed, IsRepeated, bank_after, bank_cause, stand_in}
use Rattle.qz_catalog.specs.Holdings.{IsHeld, keeps_described}
use Rattle.qz_catalog.proofs.Deciding.{bank-after, granted, verdict-same}
use Rattle.qz_catalog.proofs.Granting.{allowed, kept, legal-push}

-- ---- a record that is put

legal-more : (c : List Record) (es : List Entry) (now : ℕ) (user : User) (ask : Ask) → IsPosed c es now user ask → bank_cause es ask.request ≡ None → IsLegalCatalog (c ++ record_in c now user ask ∷ [])
legal-more c es now user ask p none =
    legal-push c (record_in c now user ask) p.held.legal (allowed c now user ask p.asked p.keeps p.free.permitted (granted c es now user ask p.held.bank p.free none))

pub longer : (c : List Record) (r : Record) → length (c ++ r ∷ []) ≡ length c + 1
longer c r = length-append c (r ∷ [])

pub put-held : (c : List Record) (es : List Entry) (now : ℕ) (user : User) (ask : Ask) → IsPosed c es now user ask → bank_cause es ask.request ≡ None → length c + 1 < 2 ^ 32 - 1 → IsHeld (c ++ record_in c now user ask ∷ []) (bank_after es ask.request)
put-held c es now user ask p none few = record {
  legal = legal-more c es now user ask p none;
  kept = All-push IsKept c (record_in c now user ask) p.held.kept (kept c now user ask p.held.kept p.asked p.keeps);
  described = list_all-append keeps_described c (record_in c now user ask ∷ []) ∙ rw (p.held.described, p.asked.described) refl;
  some = let long = longer c (record_in c now user ask) in omega arith;
  few = let long = longer c (record_in c now user ask) in omega arith;
  bank = bank-after c es (record_in c now user ask) ask.request p.held.bank refl none;
}

-- ---- a record that is told of again

pub repeated-answer : (c : List Record) (user : User) (ask : Ask) (n : ℕ) (r : Record) (told : Reply) → IsRepeated c n (verdict_in c user (stand_in ask.key ask.request) ask) → r ≡ get_or c n r → told ≡ said (take (n + 1) c) r → IsLooked c user ask told
repeated-answer c user ask n r told again item says =
    let same : again.0 ≡ r = sym (get_or_from_slice_get c n again.0 r again.1) ∙ sym item in
    let verdict : (now : ℕ) → catalog_verdict c now user ask ≡ Repeated (take (n + 1) c) r = λ now. verdict-same c now user ask ∙ again.3 ∙ ap (Repeated (take (n + 1) c)) same in
    record {
      reply = λ now. let answer : catalog_answer c now user ask ≡ said (take (n + 1) c) r = rw (verdict now) refl in says ∙ sym answer;
      list = λ now. let after : catalog_after c now user ask ≡ c = rw (verdict now) refl in sym after;
    }
