-- What a request does to lists, and what is said of it, by its kind.
use Rattle.std.proofs.Common.{◌≡◌, ℕ, Bool, true, false, not, ◌||◌, List, [], ◌∷◌, Option, Some, None, length, refl, sym, ap, ◌∙◌}
use Rattle.std.specs.List.{list_any}
use Rattle.std.specs.Prelude.{if◌then◌else◌, is_some}
use Rattle.qz_grading.specs.declared.refusal.Refusal.{Refusal}
use Rattle.qz_grading.specs.declared.refusal.Refusal.TheVariants as refusal
use Rattle.qz_terms.specs.declared.ask.Ask.{Ask}
use Rattle.qz_terms.specs.declared.people.User.{User}
use Rattle.qz_terms.specs.declared.record.Record.{Record}
use Rattle.qz_terms.specs.declared.reply.Reply.TheVariants as reply
use Rattle.qz_terms.specs.CatalogAnswer.{asks_catalog}
use Rattle.qz_terms.specs.SchoolAnswer.{answer_among, asked_part, catalog_list, first_refusal, part_at, part_of, refusal_among, school_answer_by, shard_list, user_after, user_answer}
use Rattle.qz_terms.specs.Catalog.{user_of}
use Rattle.qz_terms.specs.Cause.{missing_shard}
use Rattle.qz_terms.specs.Lists.{up_to_first}
use Rattle.qz_terms.specs.Serial.{Held, Lists, goes_on, is_catalog, is_in_doubt, is_report, is_settled, lists_of, lists_over, part_list, part_read, reads_catalog, records_over, reply_over, route, with_list}
use Rattle.qz_serial.specs.Paths.{IsGoing, with_part}
use Rattle.qz_serial.proofs.Answering.{answered-among, answered-free, both-parts, free-both}
use Rattle.qz_serial.proofs.Seats.{count_parts, parts_at, same_held}

-- ---- a catalogue that isn't asked

or-true : (b : Bool) → (b || true) ≡ true
or-true true = refl
or-true false = refl

none-clear : {A : Type 0} (o : Option A) → is_some o ≡ false → o ≡ None
none-clear None is = refl
none-clear (Some x) is = absurd cc

pub records_kept : (c : List Record) (now : ℕ) (ask : Ask) → asks_catalog ask.request ≡ false → catalog_list c now ask ≡ c
records_kept c now ask other = by (user_of c ask.caller) refl
  where
    by : (u : Option User) → user_of c ask.caller ≡ u → catalog_list c now ask ≡ c
    by None none = rw none refl
    by (Some user) found = rw (found, other, or-true (is_some (first_refusal c user ask.request))) refl

-- a list that is read is settled where all that are read are
clear-step : (p : Option ℕ → Bool) (x : Option ℕ) (l : List (Option ℕ)) (b : Bool) → p x ≡ b → list_any p (x ∷ l) ≡ false → list_any is_catalog (up_to_first p (x ∷ l)) ≡ true → (list_any p l ≡ false → list_any is_catalog (up_to_first p l) ≡ true → p None ≡ false) → p None ≡ false
clear-step p x l true here none read later = absurd (let on : true ≡ false = rw here at none in cc)
clear-step p None l false here none read later = here
clear-step p (Some k) l false here none read later = later (rw here at none) (rw here at read)

read-clear : (p : Option ℕ → Bool) (l : List (Option ℕ)) → list_any p l ≡ false → list_any is_catalog (up_to_first p l) ≡ true → p None ≡ false
read-clear p [] none read = absurd cc
read-clear p (x ∷ l) none read = clear-step p x l (p x) refl none read (λ rest more. read-clear p l rest more)

not-false : (b : Bool) → not b ≡ true → b ≡ false
not-false true is = absurd cc
not-false false is = refl

pub records_clear : (m : Lists) (ask : Ask) → is_settled m ask ≡ true → reads_catalog m ask ≡ true → m.records.doubt ≡ None
records_clear m ask settled read = none-clear m.records.doubt (read-clear (is_in_doubt m) (route m ask ask.caller) (not-false (list_any (is_in_doubt m) (route m ask ask.caller)) settled) read)

records-by : (b : Bool) (h : Held) (l : List Record) → (b ≡ true → h.doubt ≡ None) → l ≡ h.list → (if b then with_list l else h) ≡ h
records-by true h l clear same = sym (same_held h l (sym same) (clear refl))
records-by false h l clear same = refl

-- where nothing is put into it the catalogue stays
pub records_same : (m : Lists) (now : ℕ) (ask : Ask) → is_settled m ask ≡ true → catalog_list m.records.list now ask ≡ m.records.list → records_over m now ask ≡ m.records
records_same m now ask settled kept = records-by (reads_catalog m ask) m.records (catalog_list m.records.list now ask) (records_clear m ask settled) kept

-- ---- a request that goes to a shard

pub goes_free : (c : List Record) (count : ℕ) (ask : Ask) (user : User) (k : ℕ) → IsGoing c count ask user k → first_refusal c user ask.request ≡ None
goes_free c count ask user k g = free-both (first_refusal c user ask.request) (missing_shard count ask.request) g.among

pub goes_other : (c : List Record) (count : ℕ) (ask : Ask) (user : User) (k : ℕ) → IsGoing c count ask user k → (asks_catalog ask.request ≡ false) × (is_report ask.request ≡ false)
goes_other c count ask user k g = both-parts (asks_catalog ask.request) (is_report ask.request) g.goes

pub goes_there : (m : Lists) (ask : Ask) (user : User) → user_of m.records.list ask.caller ≡ Some user → refusal_among m.records.list (length m.parts) user ask.request ≡ None → goes_on m ask ≡ true
goes_there m ask user found among = rw (found, among) refl

if-there : (b : Bool) (o : Option ℕ) → b ≡ true → (if b then o else None) ≡ o
if-there true o is = refl
if-there false o is = absurd cc

pub part_read_is : (m : Lists) (ask : Ask) (user : User) (k : ℕ) → IsGoing m.records.list (length m.parts) ask user k → part_read m ask ≡ Some k
part_read_is m ask user k g =
    let other = goes_other m.records.list (length m.parts) ask user k g in
    let asked : asked_part m.records.list (length m.parts) ask ≡ Some (part_of (length m.parts) user ask.request) = rw (g.found, other.0) refl in
    if-there (goes_on m ask) (asked_part m.records.list (length m.parts) ask) (goes_there m ask user g.found g.among) ∙ asked ∙ ap (λ (n : ℕ). Some n) g.part

shard-is : (c h : List Record) (now : ℕ) (ask : Ask) (user : User) → user_of c ask.caller ≡ Some user → shard_list c h now ask ≡ user_after c h now ask user
shard-is c h now ask user found = rw found refl

pub over_part : (m : Lists) (now : ℕ) (ask : Ask) (user : User) (k : ℕ) → is_settled m ask ≡ true → IsGoing m.records.list (length m.parts) ask user k
    → lists_over m now ask ≡ with_part m k (with_list (user_after m.records.list (part_list m k) now ask user))
over_part m now ask user k settled g =
    let other = goes_other m.records.list (length m.parts) ask user k g in
    rw (part_read_is m ask user k g, records_same m now ask settled (records_kept m.records.list now ask other.0), shard-is m.records.list (part_list m k) now ask user g.found) refl

pub said_by : (m : Lists) (now : ℕ) (ask : Ask) (user : User) → user_of m.records.list ask.caller ≡ Some user → reply_over m now ask ≡ school_answer_by m.records.list (lists_of m.parts) now ask user
said_by m now ask user found = rw found refl

pub said_part : (m : Lists) (now : ℕ) (ask : Ask) (user : User) (k : ℕ) → IsGoing m.records.list (length m.parts) ask user k → reply_over m now ask ≡ user_answer m.records.list (part_list m k) now ask user
said_part m now ask user k g =
    let c = m.records.list in
    let ps = lists_of m.parts in
    let other = goes_other c (length m.parts) ask user k g in
    let free = goes_free c (length m.parts) ask user k g in
    let among : refusal_among c (length ps) user ask.request ≡ None = rw (count_parts m.parts) g.among in
    let told : school_answer_by c ps now ask user ≡ answer_among c ps now user ask ask.request = rw among refl in
    let own : part_at ps (part_of (length ps) user ask.request) ≡ part_list m k = ap (λ (n : ℕ). part_at ps (part_of n user ask.request)) (count_parts m.parts) ∙ (ap (part_at ps) g.part ∙ parts_at m.parts k) in
    said_by m now ask user g.found ∙ told ∙ answered-among c ps now user ask ask.request other.1 ∙ ap (λ (h : List Record). Rattle.qz_terms.specs.SchoolAnswer.answer_by c h now user ask ask.request) own ∙ sym (answered-free c (part_list m k) now user ask free)

-- ---- what is refused

pub unknown_said : (m : Lists) (now : ℕ) (ask : Ask) → user_of m.records.list ask.caller ≡ None → reply_over m now ask ≡ reply.Refused refusal.UnknownToken
unknown_said m now ask none = rw none refl

pub refused_said : (m : Lists) (now : ℕ) (ask : Ask) (user : User) (r : Refusal) → user_of m.records.list ask.caller ≡ Some user → refusal_among m.records.list (length m.parts) user ask.request ≡ Some r → reply_over m now ask ≡ reply.Refused r
refused_said m now ask user r found refused =
    let among : refusal_among m.records.list (length (lists_of m.parts)) user ask.request ≡ Some r = rw (count_parts m.parts) refused in
    said_by m now ask user found ∙ rw among refl
