-- What stands in the lists of a school goes on standing while they grow, and lists grow by all that is asked of them.
use Rattle.std.proofs.Common.{◌≡◌, ℕ, Bool, true, false, List, ◌++◌, Option, Some, None, length, refl, sym, ap, subst}
use Rattle.std.specs.Prelude.{if◌then◌else◌, is_some, not, ◌||◌}
use Rattle.qz_terms.specs.declared.ask.Ask.{Ask}
use Rattle.qz_terms.specs.declared.people.User.{User}
use Rattle.qz_terms.specs.declared.record.Record.{Record}
use Rattle.qz_terms.specs.declared.reply.Reply.{Reply}
use Rattle.qz_terms.specs.declared.request.Request.{Request}
use Rattle.qz_terms.specs.CatalogAnswer.{asks_catalog, catalog_after}
use Rattle.qz_terms.specs.SchoolAnswer.{catalog_list, first_refusal, part_of, plan_for, shard_list}
use Rattle.qz_terms.specs.Catalog as catalog
use Rattle.qz_terms.specs.Laws.{Stands}
use Rattle.qz_terms.specs.Serial.{Asks, Held, Lists, Turn, answered, doubt_over, doubted, doubted_parts, lists_over, no_memory, part_list, part_read, parts_over, put_in_doubt, reads_catalog, stayed_in_doubt, with_list}
use Rattle.qz_terms.proofs.Standing.{once_law}
use Rattle.qz_serial.specs.Standing.{StandsIn, StandsInRecords, StandsInShard, in_records, in_shard, own_list}
use Rattle.qz_serial.proofs.Growing.{Grows, grown_part, grown_records, plan_grown, stays_so}
use Rattle.qz_serial.proofs.Longer.{staying_law}
use Rattle.qz_serial.proofs.Places.{some-there}
use Rattle.qz_serial.proofs.Repeating.{repeating_law}
use Rattle.qz_serial.proofs.Seats.{ListsGrow, grow_none, grow_on, list_at, mending_grows, set_grows}

-- ---- what stands in longer lists

own-grown : (a b : Lists) (user : User) (x : Request) → ListsGrow a b → Grows (own_list a user x) (own_list b user x)
own-grown a b user x grows = subst (λ (n : ℕ). Grows (own_list a user x) (part_list b (part_of n user x))) (sym grows.count) (grows.each (part_of (length a.parts) user x))

shard-grown : (a b : Lists) (x : Ask) (told : Reply) → ListsGrow a b → StandsInShard a x told → StandsInShard b x told
shard-grown a b x told grows s =
    let c = a.records.list in
    let rest = grows.records.rest in
    let own = own-grown a b s.user x.request grows in
    let here = plan_grown c (own_list a s.user x.request) (own_list b s.user x.request) s.user x.request s.plan own s.planned in
    let planned = some-there (plan_for (c ++ rest) (own_list b s.user x.request) s.user x.request) (staying_law.planned c rest (own_list b s.user x.request) s.user x.request (ap is_some here)) in
    let same = sym grows.records.grown in
    record {
      user = s.user;
      plan = planned.0;
      known = subst (λ (e : List Record). catalog.user_of e x.caller ≡ Some s.user) same (staying_law.caller c rest x.caller s.user s.known);
      free = subst (λ (e : List Record). first_refusal e s.user x.request ≡ None) same (staying_law.free c rest s.user x.request s.free);
      planned = subst (λ (e : List Record). plan_for e (own_list b s.user x.request) s.user x.request ≡ Some planned.0) same planned.1;
      stands = subst (λ (h : List Record). Stands h s.user x told) (sym own.grown) (once_law.stays (own_list a s.user x.request) own.rest s.user x told s.stands);
    }

records-grown : (a b : Lists) (x : Ask) (told : Reply) → ListsGrow a b → StandsInRecords a x told → StandsInRecords b x told
records-grown a b x told grows s =
    let c = a.records.list in
    let rest = grows.records.rest in
    let same = sym grows.records.grown in
    record {
      user = s.user;
      known = subst (λ (e : List Record). catalog.user_of e x.caller ≡ Some s.user) same (staying_law.caller c rest x.caller s.user s.known);
      of_catalog = s.of_catalog;
      stands = subst (λ (e : List Record). Rattle.qz_serial.specs.Repeating.StandsInCatalog e s.user x told) same (repeating_law.stays c rest s.user x told s.stands);
    }

pub stands_grown : (a b : Lists) (x : Ask) (told : Reply) → ListsGrow a b → StandsIn a x told → StandsIn b x told
stands_grown a b x told grows (in_shard s) = in_shard (shard-grown a b x told grows s)
stands_grown a b x told grows (in_records s) = in_records (records-grown a b x told grows s)

-- ---- what a request leaves

catalog-grows : (c : List Record) (now : ℕ) (ask : Ask) (o : Option User) → catalog.user_of c ask.caller ≡ o → Grows c (catalog_list c now ask)
catalog-grows c now ask None found = rw found (stays_so c)
catalog-grows c now ask (Some user) found = rw found (by (is_some (first_refusal c user ask.request) || not (asks_catalog ask.request)))
  where
    by : (b : Bool) → Grows c (if b then c else catalog_after c now user ask)
    by true = stays_so c
    by false = grown_records c now user ask

shard-grows : (c h : List Record) (now : ℕ) (ask : Ask) (o : Option User) → catalog.user_of c ask.caller ≡ o → Grows h (shard_list c h now ask)
shard-grows c h now ask None found = rw found (stays_so h)
shard-grows c h now ask (Some user) found = rw found (grown_part c h now user ask)

if-grows : (b : Bool) (h : Held) (g : Held) → Grows h.list g.list → Grows h.list (let k : Held = if b then g else h in k).list
if-grows true h g grows = grows
if-grows false h g grows = stays_so h.list

over-grows : (m : Lists) (now : ℕ) (ask : Ask) → ListsGrow m (lists_over m now ask)
over-grows m now ask = record {
  records = if-grows (reads_catalog m ask) m.records (with_list (catalog_list m.records.list now ask)) (catalog-grows m.records.list now ask (catalog.user_of m.records.list ask.caller) refl);
  count = count (part_read m ask);
  each = each (part_read m ask);
}
  where
    count : (o : Option ℕ) → length (parts_over m now ask o) ≡ length m.parts
    count None = refl
    count (Some k) = Rattle.std.proofs.lemmas.List.length-set m.parts k (with_list (shard_list m.records.list (part_list m k) now ask))

    each : (o : Option ℕ) (j : ℕ) → Grows (list_at m.parts j) (list_at (parts_over m now ask o) j)
    each None j = stays_so (list_at m.parts j)
    each (Some k) j = set_grows m.parts k (with_list (shard_list m.records.list (part_list m k) now ask)) (shard-grows m.records.list (part_list m k) now ask (catalog.user_of m.records.list ask.caller) refl) j

doubt-grows : (m : Lists) (now : ℕ) (ask : Ask) → ListsGrow m (doubt_over m now ask)
doubt-grows m now ask = record {
  records = if-grows (reads_catalog m ask) m.records (doubted m.records.list (catalog_list m.records.list now ask)) (stays_so m.records.list);
  count = count (part_read m ask);
  each = each (part_read m ask);
}
  where
    count : (o : Option ℕ) → length (doubted_parts m now ask o) ≡ length m.parts
    count None = refl
    count (Some k) = Rattle.std.proofs.lemmas.List.length-set m.parts k (doubted (part_list m k) (shard_list m.records.list (part_list m k) now ask))

    each : (o : Option ℕ) (j : ℕ) → Grows (list_at m.parts j) (list_at (doubted_parts m now ask o) j)
    each None j = stays_so (list_at m.parts j)
    each (Some k) j = set_grows m.parts k (doubted (part_list m k) (shard_list m.records.list (part_list m k) now ask)) (stays_so (list_at m.parts k)) j

turn_grows : (m b : Lists) (now : ℕ) (ask : Ask) (r : Reply) → Turn m b now ask r → ListsGrow m b
turn_grows m b now ask r (answered l n x settled) = over-grows l n x
turn_grows m b now ask r (put_in_doubt l n x settled puts) = doubt-grows l n x
turn_grows m b now ask r (stayed_in_doubt l n x doubt) = grow_none l
turn_grows m b now ask r (no_memory l n x) = grow_none l

pub asks_grow : (a b : Lists) (now : ℕ) (ask : Ask) (r : Reply) → Asks a b now ask r → ListsGrow a b
asks_grow a b now ask r s = grow_on a s.mended b (mending_grows a s.mended s.mends) (turn_grows s.mended b now ask r s.turn)
