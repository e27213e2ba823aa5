-- What a call at one list comes to, in the lists of a school.
use Rattle.std.proofs.Common.{◌≡◌, ℕ, Bool, true, false, not, ◌||◌, List, [], ◌∷◌, ◌++◌, Option, Some, None, length, refl, sym, ap, ◌∙◌, subst, eq-eqb}
use Rattle.std.specs.List.{list_any}
use Rattle.std.specs.Prelude.{if◌then◌else◌, is_some, slice_get, slice_set}
use Rattle.std.proofs.lemmas.List.{length-set}
use Rattle.qz_grading.specs.declared.refusal.Refusal.TheVariants as refusal
use Rattle.qz_terms.specs.declared.ask.Ask.{Ask}
use Rattle.qz_terms.specs.declared.people.User.{User}
use Rattle.qz_terms.specs.declared.record.Record.{Record}
use Rattle.qz_terms.specs.declared.reply.Reply.{Reply}
use Rattle.qz_terms.specs.declared.reply.Reply.TheVariants as reply
use Rattle.qz_terms.specs.CatalogAnswer.{asks_catalog, catalog_after}
use Rattle.qz_terms.specs.SchoolAnswer.{catalog_list, first_refusal, user_after, user_answer}
use Rattle.qz_terms.specs.Catalog.{user_of}
use Rattle.qz_terms.specs.Lists.{up_to_first}
use Rattle.qz_terms.specs.Serial.{AllMended, Asks, Held, KeepsUnread, Lists, Mended, Turn, added, answered, doubt_over, doubted, doubted_records, is_catalog, is_in_doubt, is_part, is_settled, lists_of, lists_over, no_memory, part_list, part_read, put_in_doubt, puts_record, reads_catalog, reads_part, reply_over, route, stayed_in_doubt, with_list}
use Rattle.qz_keeper.specs.Lists.{CallEnds, OneCall, answered as call_answered, no_memory as call_wanting, put_in_doubt as call_doubted, stayed_in_doubt as call_stayed}
use Rattle.qz_serial.specs.Calls.{CatalogAnswers, ShardAnswers}
use Rattle.qz_serial.specs.Paths.{IsGoing, with_both, with_part, with_records}
use Rattle.qz_serial.specs.Standing.{is_keep_fault}
use Rattle.qz_serial.proofs.Acting.{no_part}
use Rattle.qz_serial.proofs.Growing.{own_reply}
use Rattle.qz_serial.proofs.Answering.{recorded-by}
use Rattle.qz_serial.proofs.Over.{goes_other, over_part, part_read_is, records_clear, records_kept, said_by, said_part}
use Rattle.qz_serial.proofs.Seats.{all_stay, at_here, same_held, set_apart, set_get, set_mended, set_twice}
use Rattle.qz_serial.proofs.Still.{IsPartClear, PutsNothing, still_over}

-- ---- one list mended

-- a request reads a part, and finds whether it is settled
pub record IsRead (m : Lists) (ask : Ask) (k : ℕ) (h : Held) : Type 0 where
  pub settled : h.doubt ≡ None → is_settled m ask ≡ true
  pub doubted : is_some h.doubt ≡ true → is_settled m ask ≡ false
  pub read : reads_part m ask k ≡ true

pub not-true : (b : Bool) → b ≡ true → b ≡ false → ⊥
not-true b one other = cc

pub both_mended : (a : Lists) (m g h : Held) (k : ℕ) → Mended a.records m → slice_get a.parts k ≡ Some g → Mended g h → AllMended a (with_both a m k h)
both_mended a m g h k records is part = record { records = records; parts = set_mended a.parts k g h is part }

pub both_keep : (a : Lists) (m h : Held) (k : ℕ) (ask : Ask) → (reads_catalog (with_both a m k h) ask ≡ false → m ≡ a.records) → reads_part (with_both a m k h) ask k ≡ true → KeepsUnread a (with_both a m k h) ask
both_keep a m h k ask records read = record {
  records = records;
  parts = λ j unread. set_apart a.parts k j h (λ same. not-true (reads_part (with_both a m k h) ask k) read (subst (λ (i : ℕ). reads_part (with_both a m k h) ask i ≡ false) same unread));
}

-- ---- the record in doubt

added-one : (l : List Record) (x : Record) → added l (l ++ x ∷ []) ≡ Some x
added-one [] x = refl
added-one (y ∷ l) x = added-one l x

added-none : (l : List Record) → added l l ≡ None
added-none [] = refl
added-none (y ∷ l) = added-none l

doubt-by : (b : Bool) (h : Held) (l : List Record) → (b ≡ true → h.doubt ≡ None) → l ≡ h.list → (if b then doubted h.list l else h) ≡ h
doubt-by true h l clear same = rw (same, added-none h.list) (sym (same_held h h.list refl (clear refl)))
doubt-by false h l clear same = refl

records-doubt : (m : Lists) (now : ℕ) (ask : Ask) → is_settled m ask ≡ true → catalog_list m.records.list now ask ≡ m.records.list → doubted_records m now ask ≡ m.records
records-doubt m now ask settled kept = doubt-by (reads_catalog m ask) m.records (catalog_list m.records.list now ask) (records_clear m ask settled) kept

shard-is : (c h : List Record) (now : ℕ) (ask : Ask) (user : User) → user_of c ask.caller ≡ Some user → Rattle.qz_terms.specs.SchoolAnswer.shard_list c h now ask ≡ user_after c h now ask user
shard-is c h now ask user found = rw found refl

doubt-part : (m : Lists) (now : ℕ) (ask : Ask) (user : User) (k : ℕ) (x : Record) → is_settled m ask ≡ true → IsGoing m.records.list (length m.parts) ask user k → user_after m.records.list (part_list m k) now ask user ≡ part_list m k ++ x ∷ []
    → doubt_over m now ask ≡ with_part m k (record { list = part_list m k; doubt = Some x })
doubt-part m now ask user k x settled g longer =
    let other = goes_other m.records.list (length m.parts) ask user k g in
    rw (part_read_is m ask user k g, records-doubt m now ask settled (records_kept m.records.list now ask other.0), shard-is m.records.list (part_list m k) now ask user g.found, longer, added-one (part_list m k) x) refl

or-second : (p q : Bool) → q ≡ true → (p || q) ≡ true
or-second true q is = refl
or-second false q is = is

puts-part : (m : Lists) (now : ℕ) (ask : Ask) (user : User) (k : ℕ) (x : Record) → IsGoing m.records.list (length m.parts) ask user k → user_after m.records.list (part_list m k) now ask user ≡ part_list m k ++ x ∷ [] → puts_record m now ask ≡ true
puts-part m now ask user k x g longer =
    let put : is_some (Rattle.qz_terms.specs.Serial.added_to_part m now ask (part_read m ask)) ≡ true = rw (part_read_is m ask user k g, shard-is m.records.list (part_list m k) now ask user g.found, longer, added-one (part_list m k) x) refl in
    or-second (is_some (added m.records.list (catalog_list m.records.list now ask))) (is_some (Rattle.qz_terms.specs.Serial.added_to_part m now ask (part_read m ask))) put

-- ---- a call at a part

-- the lists mended, the part with this list
record IsSeat (a : Lists) (m : Held) (k : ℕ) (h : Held) (now : ℕ) (ask : Ask) (user : User) : Type 0 where
  going : IsGoing m.list (length (slice_set a.parts k h)) ask user k
  list : part_list (with_both a m k h) k ≡ h.list

seat : (a : Lists) (m g h : Held) (k now : ℕ) (ask : Ask) (user : User) → slice_get a.parts k ≡ Some g → IsGoing m.list (length a.parts) ask user k → IsSeat a m k h now ask user
seat a m g h k now ask user is going = record {
  going = subst (λ (n : ℕ). IsGoing m.list n ask user k) (sym (length-set a.parts k h)) going;
  list = at_here (slice_set a.parts k h) k h (set_get a.parts k g h is);
}

twice : (a : Lists) (m h g : Held) (k : ℕ) → with_part (with_both a m k h) k g ≡ with_both a m k g
twice a m h g k = ap (λ (ps : List Held). let l : Lists = record { records = m; parts = ps } in l) (set_twice a.parts k h g)

part-turn : (failed : Type 0) (a : Lists) (m h new : Held) (k now : ℕ) (ask : Ask) (user : User) (told : Reply) → IsSeat a m k h now ask user → IsRead (with_both a m k h) ask k h
    → CallEnds failed reply.Refused (ShardAnswers m.list now user ask) h new told → Turn (with_both a m k h) (with_both a m k new) now ask told
part-turn failed a m h new k now ask user told s reads (call_answered was clear both) =
    let l = with_both a m k h in
    let after = user_after m.list h.list now ask user in
    let here : user_after m.list (part_list l k) now ask user ≡ after = ap (λ (g : List Record). user_after m.list g now ask user) s.list in
    let over : lists_over l now ask ≡ with_both a m k new = over_part l now ask user k (reads.settled was) s.going ∙ twice a m h _ k ∙ ap (λ (g : Held). with_both a m k g) (ap with_list here ∙ sym (same_held new after both.1 clear)) in
    let said : reply_over l now ask ≡ told = said_part l now ask user k s.going ∙ ap (λ (g : List Record). user_answer m.list g now ask user) s.list ∙ sym both.0 in
    subst (λ (b : Lists). Turn l b now ask told) over (subst (λ (r : Reply). Turn l (lists_over l now ask) now ask r) said (answered l now ask (reads.settled was)))
part-turn failed a m h new k now ask user told s reads (call_doubted why answer x was both is said) =
    let l = with_both a m k h in
    let longer : user_after m.list (part_list l k) now ask user ≡ part_list l k ++ x ∷ [] = ap (λ (g : List Record). user_after m.list g now ask user) s.list ∙ sym both.1 ∙ ap (λ (g : List Record). g ++ x ∷ []) (sym s.list) in
    let over : doubt_over l now ask ≡ with_both a m k new = doubt-part l now ask user k x (reads.settled was) s.going longer ∙ twice a m h _ k
    ∙ ap (λ (g : Held). with_both a m k g) (ap (λ (g : List Record). let i : Held = record { list = g; doubt = Some x } in i) s.list ∙ sym is) in
    subst (λ (b : Lists). Turn l b now ask told) over (subst (λ (r : Reply). Turn l (doubt_over l now ask) now ask r) (sym said) (put_in_doubt l now ask (reads.settled was) (puts-part l now ask user k x s.going longer)))
part-turn failed a m h new k now ask user told s reads (call_stayed why doubt is said) =
    let l = with_both a m k h in
    subst (λ (g : Held). Turn l (with_both a m k g) now ask told) (sym is) (subst (λ (r : Reply). Turn l l now ask r) (sym said) (stayed_in_doubt l now ask (reads.doubted doubt)))
part-turn failed a m h new k now ask user told s reads (call_wanting is said) =
    let l = with_both a m k h in
    subst (λ (g : Held). Turn l (with_both a m k g) now ask told) (sym is) (subst (λ (r : Reply). Turn l l now ask r) (sym said) (no_memory l now ask))

-- A call at a part comes to this in the lists.
pub part_asks : (failed : Type 0) (a : Lists) (m g new : Held) (k now : ℕ) (ask : Ask) (user : User) (told : Reply) (call : OneCall failed reply.Refused (ShardAnswers m.list now user ask) g new told) → Mended a.records m → slice_get a.parts k ≡ Some g
    → IsGoing m.list (length a.parts) ask user k → IsRead (with_both a m k call.mended) ask k call.mended → (reads_catalog (with_both a m k call.mended) ask ≡ false → m ≡ a.records) → Asks a (with_both a m k new) now ask told
part_asks failed a m g new k now ask user told call mends is going reads unread =
    let h = call.mended in
    record {
      mended = with_both a m k h;
      mends = both_mended a m g h k mends is call.mends;
      keeps = both_keep a m h k ask unread reads.read;
      turn = part-turn failed a m h new k now ask user told (seat a m g h k now ask user is going) reads call.ends;
    }

-- ---- a request that puts nothing

pub still_asks : (a m : Lists) (now : ℕ) (ask : Ask) (r : Reply) → AllMended a m → KeepsUnread a m ask → is_settled m ask ≡ true → IsPartClear m ask → PutsNothing m now ask → reply_over m now ask ≡ r → Asks a m now ask r
still_asks a m now ask r mends keeps settled clear nothing said = record {
  mended = m;
  mends = mends;
  keeps = keeps;
  turn = subst (λ (b : Lists). Turn m b now ask r) (still_over m now ask settled clear nothing) (subst (λ (x : Reply). Turn m (lists_over m now ask) now ask x) said (answered m now ask settled));
}

pub failed_asks : (a m : Lists) (now : ℕ) (ask : Ask) → AllMended a m → KeepsUnread a m ask → is_settled m ask ≡ false → Asks a m now ask (reply.Refused refusal.KeepFault)
failed_asks a m now ask mends keeps doubt = record { mended = m; mends = mends; keeps = keeps; turn = stayed_in_doubt m now ask doubt }

pub wanting_asks : (a m : Lists) (now : ℕ) (ask : Ask) → AllMended a m → KeepsUnread a m ask → Asks a m now ask (reply.Refused refusal.Memory)
wanting_asks a m now ask mends keeps = record { mended = m; mends = mends; keeps = keeps; turn = no_memory m now ask }

-- ---- a call at the catalogue

pub records_mended : (a : Lists) (m : Held) → Mended a.records m → AllMended a (with_records a m)
records_mended a m mends = record { records = mends; parts = all_stay a.parts }

pub records_keep : (a : Lists) (m : Held) (ask : Ask) → (reads_catalog (with_records a m) ask ≡ false → m ≡ a.records) → KeepsUnread a (with_records a m) ask
records_keep a m ask unread = record { records = unread; parts = λ k none. refl }

first-alone : (p : Option ℕ → Bool) (b : Bool) → p None ≡ b → list_any is_catalog (up_to_first p (None ∷ [])) ≡ true
first-alone p true is = rw is refl
first-alone p false is = rw is refl

not-alone : (b : Bool) → not (b || false) ≡ not b
not-alone true = refl
not-alone false = refl

pub none-is : {A : Type 0} (o : Option A) → o ≡ None → not (is_some o) ≡ true
none-is o none = rw none refl

pub some-is : {A : Type 0} (o : Option A) → is_some o ≡ true → not (is_some o) ≡ false
some-is o some = rw some refl

-- where the catalogue alone is read
pub record ReadsRecords (a : Lists) (m : Held) (ask : Ask) : Type 0 where
  pub settled : m.doubt ≡ None → is_settled (with_records a m) ask ≡ true
  pub doubted : is_some m.doubt ≡ true → is_settled (with_records a m) ask ≡ false
  pub read : reads_catalog (with_records a m) ask ≡ true

pub alone_reads : (a : Lists) (m : Held) (ask : Ask) → route (with_records a m) ask ask.caller ≡ None ∷ [] → ReadsRecords a m ask
alone_reads a m ask ways =
    let l = with_records a m in
    let way : is_settled l ask ≡ not (is_some m.doubt) = ap (λ (w : List (Option ℕ)). not (list_any (is_in_doubt l) w)) ways ∙ not-alone (is_some m.doubt) in
    record {
      settled = λ none. way ∙ none-is m.doubt none;
      doubted = λ some. way ∙ some-is m.doubt some;
      read = ap (λ (w : List (Option ℕ)). list_any is_catalog (up_to_first (is_in_doubt l) w)) ways ∙ first-alone (is_in_doubt l) (is_in_doubt l None) refl;
    }

records-over : (a : Lists) (m : Held) (now : ℕ) (ask : Ask) (user : User) → ReadsRecords a m ask → asks_catalog ask.request ≡ true → user_of m.list ask.caller ≡ Some user → lists_over (with_records a m) now ask ≡ with_records a (with_list (catalog_after m.list now user ask))
records-over a m now ask user reads of_catalog found =
    let l = with_records a m in
    let r = recorded-by m.list (lists_of a.parts) now user ask (first_refusal m.list user ask.request) refl of_catalog found in
    rw (no_part l ask user of_catalog found, reads.read, r.list) refl

records-doubted : (a : Lists) (m : Held) (now : ℕ) (ask : Ask) (user : User) (x : Record) → ReadsRecords a m ask → asks_catalog ask.request ≡ true → user_of m.list ask.caller ≡ Some user → catalog_after m.list now user ask ≡ m.list ++ x ∷ []
    → doubt_over (with_records a m) now ask ≡ with_records a (record { list = m.list; doubt = Some x })
records-doubted a m now ask user x reads of_catalog found longer =
    let l = with_records a m in
    let r = recorded-by m.list (lists_of a.parts) now user ask (first_refusal m.list user ask.request) refl of_catalog found in
    rw (no_part l ask user of_catalog found, reads.read, r.list, longer, added-one m.list x) refl

records-put : (a : Lists) (m : Held) (now : ℕ) (ask : Ask) (user : User) (x : Record) → asks_catalog ask.request ≡ true → user_of m.list ask.caller ≡ Some user → catalog_after m.list now user ask ≡ m.list ++ x ∷ [] → puts_record (with_records a m) now ask ≡ true
records-put a m now ask user x of_catalog found longer =
    let r = recorded-by m.list (lists_of a.parts) now user ask (first_refusal m.list user ask.request) refl of_catalog found in
    let put : is_some (added m.list (catalog_list m.list now ask)) ≡ true = rw (r.list, longer, added-one m.list x) refl in
    rw put refl

records-turn : (failed : Type 0) (a : Lists) (m new : Held) (now : ℕ) (ask : Ask) (user : User) (told : Reply) → ReadsRecords a m ask → asks_catalog ask.request ≡ true → user_of m.list ask.caller ≡ Some user
    → CallEnds failed reply.Refused (CatalogAnswers now user ask) m new told → Turn (with_records a m) (with_records a new) now ask told
records-turn failed a m new now ask user told reads of_catalog found (call_answered was clear both) =
    let l = with_records a m in
    let r = recorded-by m.list (lists_of a.parts) now user ask (first_refusal m.list user ask.request) refl of_catalog found in
    let over : lists_over l now ask ≡ with_records a new = records-over a m now ask user reads of_catalog found ∙ ap (with_records a) (sym (same_held new (catalog_after m.list now user ask) both.1 clear)) in
    let said : reply_over l now ask ≡ told = said_by l now ask user found ∙ r.answer ∙ sym both.0 in
    subst (λ (b : Lists). Turn l b now ask told) over (subst (λ (x : Reply). Turn l (lists_over l now ask) now ask x) said (answered l now ask (reads.settled was)))
records-turn failed a m new now ask user told reads of_catalog found (call_doubted why answer x was both is said) =
    let l = with_records a m in
    let over : doubt_over l now ask ≡ with_records a new = records-doubted a m now ask user x reads of_catalog found (sym both.1) ∙ ap (with_records a) (sym is) in
    subst (λ (b : Lists). Turn l b now ask told) over (subst (λ (r : Reply). Turn l (doubt_over l now ask) now ask r) (sym said) (put_in_doubt l now ask (reads.settled was) (records-put a m now ask user x of_catalog found (sym both.1))))
records-turn failed a m new now ask user told reads of_catalog found (call_stayed why doubt is said) =
    let l = with_records a m in
    subst (λ (g : Held). Turn l (with_records a g) now ask told) (sym is) (subst (λ (r : Reply). Turn l l now ask r) (sym said) (stayed_in_doubt l now ask (reads.doubted doubt)))
records-turn failed a m new now ask user told reads of_catalog found (call_wanting is said) =
    let l = with_records a m in
    subst (λ (g : Held). Turn l (with_records a g) now ask told) (sym is) (subst (λ (r : Reply). Turn l l now ask r) (sym said) (no_memory l now ask))

-- A call at the catalogue comes to this in the lists.
pub records_ask : (failed : Type 0) (a : Lists) (m new : Held) (now : ℕ) (ask : Ask) (user : User) (told : Reply) → Mended a.records m → ReadsRecords a m ask → asks_catalog ask.request ≡ true → user_of m.list ask.caller ≡ Some user
    → CallEnds failed reply.Refused (CatalogAnswers now user ask) m new told → Asks a (with_records a new) now ask told
records_ask failed a m new now ask user told mends reads of_catalog found ends = record {
  mended = with_records a m;
  mends = records_mended a m mends;
  keeps = records_keep a m ask (λ unread. absurd (not-true (reads_catalog (with_records a m) ask) reads.read unread));
  turn = records-turn failed a m new now ask user told reads of_catalog found ends;
}

-- ---- why a keeper is said to have failed

pub not-memory : (r : Reply) → r ≡ reply.Refused refusal.Memory → r ≡ reply.Refused refusal.KeepFault → ⊥
not-memory r one other = let wrong : false ≡ true = sym (ap is_keep_fault one) ∙ ap is_keep_fault other in absurd cc

pub not-own : (r : Reply) → is_keep_fault r ≡ false → r ≡ reply.Refused refusal.KeepFault → ⊥
not-own r own other = let wrong : false ≡ true = sym own ∙ ap is_keep_fault other in absurd cc

pub call_cause : (failed : Type 0) (Answers : List Record → Reply → List Record → Type 0) (m new : Held) (told : Reply) → ((g : List Record) → Answers m.list told g → is_keep_fault told ≡ false) → CallEnds failed reply.Refused Answers m new told → told ≡ reply.Refused refusal.KeepFault → failed
call_cause failed Answers m new told own (call_answered was clear is) fault = absurd (not-own told (own new.list is) fault)
call_cause failed Answers m new told own (call_doubted why answer x was is new_is said) fault = why
call_cause failed Answers m new told own (call_stayed why doubt is said) fault = why
call_cause failed Answers m new told own (call_wanting is said) fault = absurd (not-memory told said fault)

-- no answer of a part is that one did
part-own : (a : Lists) (m g h : Held) (k now : ℕ) (ask : Ask) (user : User) (told : Reply) (l : List Record) → slice_get a.parts k ≡ Some g → IsGoing m.list (length a.parts) ask user k → ShardAnswers m.list now user ask h.list told l → is_keep_fault told ≡ false
part-own a m g h k now ask user told l is going both =
    let s = seat a m g h k now ask user is going in
    let b = with_both a m k h in
    own_reply b now ask told (said_part b now ask user k s.going ∙ ap (λ (i : List Record). user_answer m.list i now ask user) s.list ∙ sym both.0)

pub part_cause : (failed : Type 0) (a : Lists) (m g new : Held) (k now : ℕ) (ask : Ask) (user : User) (told : Reply) → slice_get a.parts k ≡ Some g → IsGoing m.list (length a.parts) ask user k → OneCall failed reply.Refused (ShardAnswers m.list now user ask) g new told
    → told ≡ reply.Refused refusal.KeepFault → failed
part_cause failed a m g new k now ask user told is going call = call_cause failed (ShardAnswers m.list now user ask) call.mended new told (λ l both. part-own a m g call.mended k now ask user told l is going both) call.ends

-- ---- the lists that are read, by turns

-- whether it is settled is whether the part is
read-by : (l : Lists) (ask : Ask) (k : ℕ) (h : Held) → is_settled l ask ≡ not (is_some h.doubt) → reads_part l ask k ≡ true → IsRead l ask k h
read-by l ask k h way read = record { settled = λ none. way ∙ none-is h.doubt none; doubted = λ some. way ∙ some-is h.doubt some; read = read }

part-doubt : (l : Lists) (k : ℕ) (h : Held) → slice_get l.parts k ≡ Some h → is_in_doubt l (Some k) ≡ is_some h.doubt
part-doubt l k h is = rw is refl

same-number : (k : ℕ) → is_part k (Some k) ≡ true
same-number k = eq-eqb k k refl

behind-way : (p : Option ℕ → Bool) (k : ℕ) (b : Bool) → p None ≡ false → p (Some k) ≡ b → not (list_any p (None ∷ Some k ∷ [])) ≡ not b
behind-way p k b none is = rw (none, is) (not-alone b)

behind-found : (p : Option ℕ → Bool) (k : ℕ) (b : Bool) → p None ≡ false → p (Some k) ≡ b → list_any (is_part k) (up_to_first p (None ∷ Some k ∷ [])) ≡ true
behind-found p k true none is = rw (none, is, same-number k) refl
behind-found p k false none is = rw (none, is, same-number k) refl

-- behind the catalogue
pub behind_read : (l : Lists) (ask : Ask) (k : ℕ) (h : Held) → route l ask ask.caller ≡ None ∷ Some k ∷ [] → is_some l.records.doubt ≡ false → slice_get l.parts k ≡ Some h → IsRead l ask k h
behind_read l ask k h ways clear is =
    let p = is_in_doubt l in
    read-by l ask k h (ap (λ (w : List (Option ℕ)). not (list_any p w)) ways ∙ behind-way p k (is_some h.doubt) clear (part-doubt l k h is))
    (ap (λ (w : List (Option ℕ)). list_any (is_part k) (up_to_first p w)) ways ∙ behind-found p k (is_some h.doubt) clear (part-doubt l k h is))

-- the part alone, or first
first-found : (p : Option ℕ → Bool) (k : ℕ) (rest : List (Option ℕ)) (b : Bool) → p (Some k) ≡ b → list_any (is_part k) (up_to_first p (Some k ∷ rest)) ≡ true
first-found p k rest true is = rw (is, same-number k) refl
first-found p k rest false is = rw (is, same-number k) refl

pub first_found : (l : Lists) (ask : Ask) (k : ℕ) (rest : List (Option ℕ)) → route l ask ask.caller ≡ Some k ∷ rest → reads_part l ask k ≡ true
first_found l ask k rest ways = ap (λ (w : List (Option ℕ)). list_any (is_part k) (up_to_first (is_in_doubt l) w)) ways ∙ first-found (is_in_doubt l) k rest (is_in_doubt l (Some k)) refl

pub alone_read : (l : Lists) (ask : Ask) (k : ℕ) (h : Held) → route l ask ask.caller ≡ Some k ∷ [] → slice_get l.parts k ≡ Some h → IsRead l ask k h
alone_read l ask k h ways is =
    read-by l ask k h (ap (λ (w : List (Option ℕ)). not (list_any (is_in_doubt l) w)) ways ∙ ap (λ b. not (b || false)) (part-doubt l k h is) ∙ not-alone (is_some h.doubt)) (first_found l ask k [] ways)

some-none : {A : Type 0} (o : Option A) → is_some o ≡ true → o ≡ None → ⊥
some-none None some none = absurd cc
some-none (Some x) some none = absurd cc

-- the part stays in doubt
pub doubted_read : (l : Lists) (ask : Ask) (k : ℕ) (h : Held) (rest : List (Option ℕ)) → route l ask ask.caller ≡ Some k ∷ rest → slice_get l.parts k ≡ Some h → is_some h.doubt ≡ true → IsRead l ask k h
doubted_read l ask k h rest ways is doubt =
    let here : is_in_doubt l (Some k) ≡ true = part-doubt l k h is ∙ doubt in
    record {
      settled = λ none. absurd (some-none h.doubt doubt none);
      doubted = λ some. ap (λ (w : List (Option ℕ)). not (list_any (is_in_doubt l) w)) ways ∙ ap (λ b. not (b || list_any (is_in_doubt l) rest)) here;
      read = first_found l ask k rest ways;
    }

-- the part first, and then the catalogue
before-way : (p : Option ℕ → Bool) (k : ℕ) (b : Bool) → p (Some k) ≡ false → p None ≡ b → not (list_any p (Some k ∷ None ∷ [])) ≡ not b
before-way p k b is none = rw (is, none) (not-alone b)

before-found : (p : Option ℕ → Bool) (k : ℕ) (b : Bool) → p (Some k) ≡ false → p None ≡ b → list_any is_catalog (up_to_first p (Some k ∷ None ∷ [])) ≡ true
before-found p k true is none = rw (is, none) refl
before-found p k false is none = rw (is, none) refl

pub before_way : (l : Lists) (ask : Ask) (k : ℕ) (h : Held) → route l ask ask.caller ≡ Some k ∷ None ∷ [] → slice_get l.parts k ≡ Some h → h.doubt ≡ None → is_settled l ask ≡ not (is_some l.records.doubt)
before_way l ask k h ways is clear = ap (λ (w : List (Option ℕ)). not (list_any (is_in_doubt l) w)) ways ∙ before-way (is_in_doubt l) k (is_some l.records.doubt) (part-doubt l k h is ∙ ap is_some clear) refl

pub before_found : (l : Lists) (ask : Ask) (k : ℕ) (h : Held) → route l ask ask.caller ≡ Some k ∷ None ∷ [] → slice_get l.parts k ≡ Some h → h.doubt ≡ None → reads_catalog l ask ≡ true
before_found l ask k h ways is clear = ap (λ (w : List (Option ℕ)). list_any is_catalog (up_to_first (is_in_doubt l) w)) ways ∙ before-found (is_in_doubt l) k (is_some l.records.doubt) (part-doubt l k h is ∙ ap is_some clear) refl

pub before_read : (l : Lists) (ask : Ask) (k : ℕ) (h : Held) → route l ask ask.caller ≡ Some k ∷ None ∷ [] → slice_get l.parts k ≡ Some h → h.doubt ≡ None → l.records.doubt ≡ None → IsRead l ask k h
before_read l ask k h ways is clear none = record {
  settled = λ same. before_way l ask k h ways is clear ∙ none-is l.records.doubt none;
  doubted = λ some. absurd (some-none h.doubt some clear);
  read = first_found l ask k (None ∷ []) ways;
}
