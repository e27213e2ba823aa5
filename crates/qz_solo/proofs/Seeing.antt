-- A school, seen as its catalogue and its shards.
use Rattle.std.proofs.Common.{◌≡◌, ℕ, false, true, Result, refl, sym, subst}
use Rattle.qz_grading.specs.declared.refusal.Refusal.{Refusal}
use Rattle.qz_terms.specs.declared.ask.Ask.{Ask}
use Rattle.qz_terms.specs.declared.people.User.{User}
use Rattle.qz_terms.specs.declared.reply.Reply.{Reply}
use Rattle.qz_terms.specs.declared.request.Request.{Request}
use Rattle.qz_terms.specs.declared.request.Request.TheVariants as request
use Rattle.qz_terms.specs.CatalogAnswer.{asks_catalog}
use Rattle.qz_serial.specs.Paths.{IsKnown}
use Rattle.qz_school.specs.Answering.{IsServed, Serves}
use Rattle.qz_school.specs.Planning.{asks_shard}
use Rattle.qz_school.specs.Solos.{School, lists_in}

pub seen_from : {K : Type 0} (sound : K → Type 0) (faults : K → ℕ) (l a b : School K) (now : ℕ) (ask : Ask) (r : Reply) → a ≡ l → IsServed sound faults a b now ask r → IsServed sound faults l b now ask r
seen_from sound faults l a b now ask r view served = subst (λ (x : School _). IsServed sound faults x b now ask r) view served

pub seen_still : {K : Type 0} (sound : K → Type 0) (faults : K → ℕ) (l a : School K) (now : ℕ) (ask : Ask) (r : Reply) → a ≡ l → IsServed sound faults a a now ask r → IsServed sound faults l l now ask r
seen_still sound faults l a now ask r view served = subst (λ (x : School _). IsServed sound faults x x now ask r) view served

pub known_seen : {K : Type 0} (l a : School K) (ask : Ask) (user : User) → a ≡ l → IsKnown (lists_in l) l.catalog.held ask user → IsKnown (lists_in a) a.catalog.held ask user
known_seen l a ask user view known = subst (λ (x : School _). IsKnown (lists_in x) x.catalog.held ask user) (sym view) known

-- what a shard answers isn't the catalogue's
pub shard_other : (x : Request) → asks_shard x ≡ true → asks_catalog x ≡ false
shard_other (request.Start q) is = refl
shard_other (request.Save a k certainty response) is = refl
shard_other (request.Submit a k certainty response) is = refl
shard_other (request.Again a k) is = refl
shard_other (request.Finish a) is = refl
shard_other (request.Mark a k mark) is = refl
shard_other (request.Settle a) is = refl
shard_other (request.View a k) is = refl
shard_other (request.Total a) is = refl
shard_other (request.Page a) is = refl
shard_other (request.Grade q u) is = refl
shard_other x is = absurd cc

pub serves_from : {K : Type 0} (sound : K → Type 0) (faults : K → ℕ) (l a b : School K) (now : ℕ) (ask : Ask) (result : Result Reply Refusal) → a ≡ l → Serves sound faults a b now ask result → Serves sound faults l b now ask result
serves_from sound faults l a b now ask result view served = subst (λ (x : School _). Serves sound faults x b now ask result) view served
