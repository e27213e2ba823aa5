-- What it means that a request to the catalogue acts once.
use Rattle.std.specs.Prelude.{◌≡◌, ℕ, true, List, ◌++◌, is_some, Some, None}
use Rattle.qz_terms.specs.declared.ask.Ask.{Ask}
use Rattle.qz_terms.specs.declared.people.User.{User}
use Rattle.qz_terms.specs.declared.record.Record.{Record}
use Rattle.qz_terms.specs.declared.reply.Done.{Done}
use Rattle.qz_terms.specs.declared.reply.Reply.{Reply}
use Rattle.qz_terms.specs.declared.reply.Reply.TheVariants as reply
use Rattle.qz_terms.specs.Answer.{said}
use Rattle.qz_terms.specs.CatalogAnswer.{asks_catalog, catalog_after, catalog_answer}
use Rattle.qz_terms.specs.Cause.{Repeated, by_key, forbidden, is_keyed, keeps_request, missing_in}

-- A request stands in the catalogue's list: of the records with its caller and its key the first keeps it, and nothing refuses it before
-- its key is looked at. This was said of that record.
pub record StandsInCatalog (c : List Record) (user : User) (ask : Ask) (told : Reply) : Type 0 where
  pub records : List Record
  pub own : Record
  pub may : forbidden user ask.request ≡ None
  pub there : missing_in c ask.request ≡ None
  pub found : by_key (keeps_request ask.request) user.number ask.key c ≡ Some (Repeated records own)
  pub said : told ≡ said records own

-- What the catalogue accepts with a key stands in its list from then on. Asked again, it has the reply that it had, and adds nothing.
pub record CatalogActsOnce : Type 0 where
  pub stands : (c : List Record) (now : ℕ) (user : User) (ask : Ask) (place : ℕ) (d : Done) → is_keyed ask ≡ true → is_some ask.key ≡ true → asks_catalog ask.request ≡ true
      → catalog_answer c now user ask ≡ reply.Ok place d → StandsInCatalog (catalog_after c now user ask) user ask (reply.Ok place d)
  pub stays : (c rest : List Record) (user : User) (ask : Ask) (told : Reply) → StandsInCatalog c user ask told → StandsInCatalog (c ++ rest) user ask told
  pub again : (c : List Record) (now : ℕ) (user : User) (ask : Ask) (told : Reply) → StandsInCatalog c user ask told → (catalog_answer c now user ask ≡ told) × (catalog_after c now user ask ≡ c)
