-- The lists of a school without their records in doubt: what a request comes to that reads none in doubt it comes to over them.
use Rattle.std.proofs.Common.{◌≡◌, ℕ, zero, suc, Bool, true, false, not, List, [], ◌∷◌, ◌++◌, Option, Some, None, length, map, option_map, refl, sym, ap, ◌∙◌}
use Rattle.std.specs.List.{list_any, range_with_len}
use Rattle.std.specs.Prelude.{if◌then◌else◌, is_none, is_some, option_to_list, slice_get, slice_set, unwrap_or}
use Rattle.std.proofs.lemmas.List.{length-map}
use Rattle.qz_terms.specs.declared.ask.Ask.{Ask}
use Rattle.qz_terms.specs.declared.people.Caller.{Caller}
use Rattle.qz_terms.specs.declared.people.Caller.TheVariants as caller
use Rattle.qz_terms.specs.declared.record.Record.{Record}
use Rattle.qz_terms.specs.declared.request.Request.{Request}
use Rattle.qz_terms.specs.declared.request.Request.TheVariants as request
use Rattle.qz_terms.specs.Catalog.{user_of, worker}
use Rattle.qz_terms.specs.Cause.{may_ask}
use Rattle.qz_terms.specs.History as history
use Rattle.qz_terms.specs.Lists.{up_to_first}
use Rattle.qz_terms.specs.SchoolAnswer.{asked_part, catalog_list, refusal_among, school_answer, shard_list}
use Rattle.qz_terms.specs.Serial.{Held, Lists, catalog_if, goes_on, held_in, is_catalog, is_in_doubt, is_report, is_settled, is_started, lists_of, lists_over, lists_read, part_list, part_read, parts_asked, parts_over, reads_catalog, records_over, reply_over, route, shards_asked, with_list, worker_route}

abbrev pub clear : Held → Held
clear h = with_list h.list

abbrev pub cleared : Lists → Lists
cleared a = record { records = clear a.records; parts = map clear a.parts }

-- ---- one of them

abbrev pub nothing : Held
nothing = record { list = []; doubt = None }

pub at_cleared : (ps : List Held) (k : ℕ) → unwrap_or (slice_get (map clear ps) k) nothing ≡ clear (unwrap_or (slice_get ps k) nothing)
at_cleared [] k = refl
at_cleared (p ∷ ps) zero = refl
at_cleared (p ∷ ps) (suc k) = at_cleared ps k

pub held_cleared : (a : Lists) (list : Option ℕ) → held_in (cleared a) list ≡ clear (held_in a list)
held_cleared a None = refl
held_cleared a (Some k) = at_cleared a.parts k

list-cleared : (ps : List Held) (k : ℕ) → unwrap_or (option_map (λ (h : Held). h.list) (slice_get (map clear ps) k)) [] ≡ unwrap_or (option_map (λ (h : Held). h.list) (slice_get ps k)) []
list-cleared [] k = refl
list-cleared (p ∷ ps) zero = refl
list-cleared (p ∷ ps) (suc k) = list-cleared ps k

part-cleared : (a : Lists) (k : ℕ) → part_list (cleared a) k ≡ part_list a k
part-cleared a k = list-cleared a.parts k

lists-cleared : (ps : List Held) → lists_of (map clear ps) ≡ lists_of ps
lists-cleared [] = refl
lists-cleared (p ∷ ps) = ap (λ (ls : List (List Record)). p.list ∷ ls) (lists-cleared ps)

count-cleared : (a : Lists) → length (map clear a.parts) ≡ length a.parts
count-cleared a = length-map a.parts clear

-- the same is said over them
pub reply_cleared : (a : Lists) (now : ℕ) (ask : Ask) → reply_over (cleared a) now ask ≡ reply_over a now ask
reply_cleared a now ask = ap (λ (ps : List (List Record)). school_answer a.records.list ps now ask) (lists-cleared a.parts)

-- ---- the lists that a request reads

goes-cleared : (a : Lists) (ask : Ask) → goes_on (cleared a) ask ≡ goes_on a ask
goes-cleared a ask = ap (λ (n : ℕ). unwrap_or (option_map (λ user. is_none (refusal_among a.records.list n user ask.request)) (user_of a.records.list ask.caller)) false) (count-cleared a)

read-cleared : (a : Lists) (ask : Ask) → part_read (cleared a) ask ≡ part_read a ask
read-cleared a ask = λ i. if goes-cleared a ask i then asked_part a.records.list (count-cleared a i) ask else None

asked-cleared : (a : Lists) (ask : Ask) → parts_asked (cleared a) ask ≡ parts_asked a ask
asked-cleared a ask = λ i. if is_report ask.request then (if goes-cleared a ask i then range_with_len 0 (count-cleared a i) else []) else option_to_list (read-cleared a ask i)

shards-cleared : (a : Lists) (ask : Ask) → shards_asked (cleared a) ask ≡ shards_asked a ask
shards-cleared a ask = ap (λ (ks : List ℕ). map (λ k. Some k) ks) (asked-cleared a ask)

started-cleared : (a : Lists) (ask : Ask) (x : Request) → is_started (cleared a) ask x ≡ is_started a ask x
started-cleared a ask (request.Settle attempt) = λ i. list_any (λ k. is_some (history.start (part-cleared a k i) attempt)) (asked-cleared a ask i)
started-cleared a ask x = refl

worker-cleared : (a : Lists) (ask : Ask) (x : Request) → worker_route (cleared a) ask x ≡ worker_route a ask x
worker-cleared a ask (request.Live shard attempt) = shards-cleared a ask
worker-cleared a ask (request.Settle attempt) = λ i. shards-cleared a ask i ++ catalog_if (started-cleared a ask ask.request i)
worker-cleared a ask x = ap (λ (ls : List (Option ℕ)). if may_ask worker x then None ∷ ls else []) (shards-cleared a ask)

route-cleared : (a : Lists) (ask : Ask) (who : Caller) → route (cleared a) ask who ≡ route a ask who
route-cleared a ask (caller.Token token) = ap (λ (ls : List (Option ℕ)). None ∷ ls) (shards-cleared a ask)
route-cleared a ask caller.Worker = worker-cleared a ask ask.request

-- ---- none of them is in doubt

whole-step : {A : Type 0} (p : A → Bool) (x : A) (l : List A) (b : Bool) → p x ≡ b → list_any p (x ∷ l) ≡ false → (list_any p l ≡ false → up_to_first p l ≡ l) → up_to_first p (x ∷ l) ≡ x ∷ l
whole-step p x l true is none later = let no : true ≡ false = rw is at none in absurd cc
whole-step p x l false is none later = let rest : list_any p l ≡ false = rw is at none in rw (is, later rest) refl

whole-read : {A : Type 0} (p : A → Bool) (l : List A) → list_any p l ≡ false → up_to_first p l ≡ l
whole-read p [] none = refl
whole-read p (x ∷ l) none = whole-step p x l (p x) refl none (whole-read p l)

none-doubted : (a : Lists) (list : Option ℕ) → is_in_doubt (cleared a) list ≡ false
none-doubted a list = ap (λ (h : Held). is_some h.doubt) (held_cleared a list)

none-of : (a : Lists) (l : List (Option ℕ)) → list_any (is_in_doubt (cleared a)) l ≡ false
none-of a [] = refl
none-of a (x ∷ l) = rw (none-doubted a x) (none-of a l)

not-true : (b : Bool) → not b ≡ true → b ≡ false
not-true true is = absurd cc
not-true false is = refl

-- a request that reads no list in doubt reads the same ones
read-same : (a : Lists) (ask : Ask) → is_settled a ask ≡ true → lists_read (cleared a) ask ≡ lists_read a ask
read-same a ask settled =
    whole-read (is_in_doubt (cleared a)) (route (cleared a) ask ask.caller) (none-of a (route (cleared a) ask ask.caller))
    ∙ route-cleared a ask ask.caller
    ∙ sym (whole-read (is_in_doubt a) (route a ask ask.caller) (not-true (list_any (is_in_doubt a) (route a ask ask.caller)) settled))

-- ---- the lists with the record that a request puts

put-cleared : (b : Bool) (h : Held) (l : List Record) → (if b then with_list l else clear h) ≡ clear (if b then with_list l else h)
put-cleared true h l = refl
put-cleared false h l = refl

records-cleared : (a : Lists) (now : ℕ) (ask : Ask) → is_settled a ask ≡ true → records_over (cleared a) now ask ≡ clear (records_over a now ask)
records-cleared a now ask settled =
    let l : List Record = catalog_list a.records.list now ask in
    ap (λ (ls : List (Option ℕ)). if list_any is_catalog ls then with_list l else clear a.records) (read-same a ask settled) ∙ put-cleared (reads_catalog a ask) a.records l

set-cleared : (ps : List Held) (k : ℕ) (l : List Record) → slice_set (map clear ps) k (with_list l) ≡ map clear (slice_set ps k (with_list l))
set-cleared [] k l = refl
set-cleared (p ∷ ps) zero l = refl
set-cleared (p ∷ ps) (suc k) l = ap (λ (hs : List Held). clear p ∷ hs) (set-cleared ps k l)

parts-by : (a : Lists) (now : ℕ) (ask : Ask) (read : Option ℕ) → parts_over (cleared a) now ask read ≡ map clear (parts_over a now ask read)
parts-by a now ask None = refl
parts-by a now ask (Some k) =
    ap (λ (l : List Record). slice_set (map clear a.parts) k (with_list (shard_list a.records.list l now ask))) (part-cleared a k) ∙ set-cleared a.parts k (shard_list a.records.list (part_list a k) now ask)

parts-cleared : (a : Lists) (now : ℕ) (ask : Ask) → parts_over (cleared a) now ask (part_read (cleared a) ask) ≡ map clear (parts_over a now ask (part_read a ask))
parts-cleared a now ask = ap (λ (o : Option ℕ). parts_over (cleared a) now ask o) (read-cleared a ask) ∙ parts-by a now ask (part_read a ask)

-- it is the same one
pub over_cleared : (a : Lists) (now : ℕ) (ask : Ask) → is_settled a ask ≡ true → lists_over (cleared a) now ask ≡ cleared (lists_over a now ask)
over_cleared a now ask settled = λ i. record { records = records-cleared a now ask settled i; parts = parts-cleared a now ask i }
