-- A report, through the lists of a school.
use Rattle.std.proofs.Common.{◌≡◌, ◌⊎◌, inl, inr, ℕ, zero, suc, ◌+◌, ◌<◌, ◌≤◌, ℤ, Bool, true, false, not, ◌||◌, List, [], ◌∷◌, Option, Some, None, Result, Ok, Err, MatchResult, length, refl, sym, ap, ◌∙◌, subst, arith}
use Rattle.std.specs.List.{AllZip, list_any, range_with_len}
use Rattle.std.specs.Prelude.{◌==◌, if◌then◌else◌, is_some, map, slice_get, slice_set, unwrap_or}
use Rattle.std.proofs.lemmas.Bool.{eq-eqb}
use Rattle.std.proofs.lemmas.Bool.Decides.{eqb_tells}
use Rattle.std.proofs.lemmas.List.Elements.{length_all_zip}
use Rattle.std.proofs.lemmas.Option.{slice_get_past, slice_get_within}
use Rattle.qz_grading.specs.declared.refusal.Refusal.{Refusal}
use Rattle.qz_grading.specs.declared.refusal.Refusal.TheVariants as refusal
use Rattle.qz_terms.specs.declared.ask.Ask.{Ask}
use Rattle.qz_terms.specs.declared.people.User.{User}
use Rattle.qz_terms.specs.declared.record.Record.{Record}
use Rattle.qz_terms.specs.declared.reply.Reply.{Reply}
use Rattle.qz_terms.specs.declared.reply.Reply.TheVariants as reply
use Rattle.qz_terms.specs.declared.request.Request.{Request}
use Rattle.qz_terms.specs.declared.request.Request.TheVariants as request
use Rattle.qz_terms.specs.CatalogAnswer.{asks_catalog}
use Rattle.qz_terms.specs.SchoolAnswer.{after_by, answer_among, first_refusal, plan_for, refusal_among, report_answer, school_answer_by, shard_list, user_after}
use Rattle.qz_terms.specs.Catalog.{user_of}
use Rattle.qz_terms.specs.Lists.{up_to_first}
use Rattle.qz_terms.specs.Serial.{Asks, Held, KeepsUnread, Lists, Mended, goes_on, is_in_doubt, is_part, is_report, is_settled, lists_of, part_list, reads_catalog, reads_part, reply_over, route, shards_asked}
use Rattle.qz_keeper.specs.Lists.{IsSettled}
use Rattle.qz_serial.specs.Calls.{LookEnds, looked, unlooked, unread}
use Rattle.qz_serial.specs.Once.{AskedOnce}
use Rattle.qz_serial.specs.Reports.{IsReporting, MendedUpTo, ReportsAsk, with_parts}
use Rattle.qz_serial.proofs.Acting.{asked_once, token_reads}
use Rattle.qz_serial.proofs.Composing.{look_ends}
use Rattle.qz_serial.proofs.Growing.{own_reply}
use Rattle.qz_serial.proofs.Joining.{failed_asks, not-memory, not-own, not-true, still_asks, wanting_asks}
use Rattle.qz_serial.proofs.Over.{goes_there, records_kept, said_by}
use Rattle.qz_serial.proofs.Seats.{all_stay, count_parts, set_apart, set_get}
use Rattle.qz_serial.proofs.Workers.{err-is, err-ok}

-- ---- the shards in order

abbrev in_order : ℕ → ℕ → List (Option ℕ)
in_order a n = map (λ k. Some k) (range_with_len a n)

or-second : (p q : Bool) → q ≡ true → (p || q) ≡ true
or-second true q is = refl
or-second false q is = is

or-first : (p q : Bool) → p ≡ true → (p || q) ≡ true
or-first true q is = refl
or-first false q is = absurd cc

head-found : (p : Option ℕ → Bool) (a : ℕ) (rest : List (Option ℕ)) (b : Bool) → p (Some a) ≡ b → list_any (is_part a) (up_to_first p (Some a ∷ rest)) ≡ true
head-found p a rest true is = rw (is, eq-eqb a a refl) refl
head-found p a rest false is = rw (is, eq-eqb a a refl) refl

tail-found : (p : Option ℕ → Bool) (a j : ℕ) (rest : List (Option ℕ)) → p (Some a) ≡ false → list_any (is_part j) (up_to_first p rest) ≡ true → list_any (is_part j) (up_to_first p (Some a ∷ rest)) ≡ true
tail-found p a j rest is found = rw is (or-second (is_part j (Some a)) (list_any (is_part j) (up_to_first p rest)) found)

below : (a j : ℕ) → a ≤ j → (a ≡ j → ⊥) → a < j
below a j low other = grind (arith, other)

before-one : (i k : ℕ) → k < i + 1 → (i ≡ k → ⊥) → k < i
before-one i k within other = grind (arith, other)

at_most_or_above : (j i : ℕ) → (j ≤ i) ⊎ (i + 1 ≤ j)
at_most_or_above zero i = inl (omega arith)
at_most_or_above (suc j) zero = inr (omega arith)
at_most_or_above (suc j) (suc i) = elim (at_most_or_above j i) [ inl low ↦ inl (omega (arith, low)) | inr over ↦ inr (omega (arith, over)) ]

-- a shard is read where none before it is in doubt
found-step : (p : Option ℕ → Bool) (n a j : ℕ) → ((a == j ≡ true) × (a ≡ j)) ⊎ ((a == j ≡ false) × (a ≡ j → ⊥)) → a ≤ j → ((k : ℕ) → k < j → p (Some k) ≡ false) → (a + 1 ≤ j → list_any (is_part j) (up_to_first p (in_order (a + 1) n)) ≡ true)
    → list_any (is_part j) (up_to_first p (in_order a (suc n))) ≡ true
found-step p n a j (inl both) low clear later = subst (λ (i : ℕ). list_any (is_part i) (up_to_first p (in_order a (suc n))) ≡ true) both.1 (head-found p a (in_order (a + 1) n) (p (Some a)) refl)
found-step p n a j (inr both) low clear later =
    let other = both.1 in
    let before : a < j = below a j low other in
    tail-found p a j (in_order (a + 1) n) (clear a before) (later (omega (arith, before)))

found-from : (p : Option ℕ → Bool) (n a j : ℕ) → a ≤ j → j < a + n → ((k : ℕ) → k < j → p (Some k) ≡ false) → list_any (is_part j) (up_to_first p (in_order a n)) ≡ true
found-from p zero a j low high clear = absurd (omega arith)
found-from p (suc n) a j low high clear = found-step p n a j (eqb_tells a j) low clear (λ more. found-from p n (a + 1) j more (let far : j < a + suc n = high in omega (arith, far)) clear)

-- one in doubt among them
any-step : (p : Option ℕ → Bool) (n a j : ℕ) → ((a == j ≡ true) × (a ≡ j)) ⊎ ((a == j ≡ false) × (a ≡ j → ⊥)) → a ≤ j → p (Some j) ≡ true → (a + 1 ≤ j → list_any p (in_order (a + 1) n) ≡ true) → list_any p (in_order a (suc n)) ≡ true
any-step p n a j (inl both) low is later = or-first (p (Some a)) (list_any p (in_order (a + 1) n)) (subst (λ (i : ℕ). p (Some i) ≡ true) (sym both.1) is)
any-step p n a j (inr both) low is later = let before : a < j = below a j low both.1 in or-second (p (Some a)) (list_any p (in_order (a + 1) n)) (later (omega (arith, before)))

any-from : (p : Option ℕ → Bool) (n a j : ℕ) → a ≤ j → j < a + n → p (Some j) ≡ true → list_any p (in_order a n) ≡ true
any-from p zero a j low high is = absurd (omega arith)
any-from p (suc n) a j low high is = any-step p n a j (eqb_tells a j) low is (λ more. any-from p n (a + 1) j more (let far : j < a + suc n = high in omega (arith, far)) is)

none-of : (p : Option ℕ → Bool) (l : List (Option ℕ)) → ((part : Option ℕ) → p part ≡ false) → list_any p l ≡ false
none-of p [] each = refl
none-of p (part ∷ l) each = rw (each part) (none-of p l each)

-- ---- one shard more

set-zip : (ps qs : List Held) (i : ℕ) (held new : Held) → AllZip Mended ps qs → slice_get ps i ≡ Some held → Mended held new → AllZip Mended ps (slice_set qs i new)
set-zip [] [] i held new all is mends = absurd cc
set-zip [] (q ∷ qs) i held new all is mends = absurd all
set-zip (p ∷ ps) [] i held new all is mends = absurd all
set-zip (p ∷ ps) (q ∷ qs) zero held new all is mends = (subst (λ (h : Held). Mended h new) (sym cc) mends, all.1)
set-zip (p ∷ ps) (q ∷ qs) (suc i) held new all is mends = (all.0, set-zip ps qs i held new all.1 is mends)

pub one_zip : (i : ℕ) (old parts : List Held) (held new : Held) → MendedUpTo i old parts → slice_get parts i ≡ Some held → Mended held new → AllZip Mended old (slice_set parts i new)
one_zip i old parts held new m is mends = set-zip old parts i held new m.mends (sym (m.same i (omega arith)) ∙ is) mends

set-same : (i k : ℕ) (old parts : List Held) (new : Held) → MendedUpTo i old parts → i + 1 ≤ k → slice_get (slice_set parts i new) k ≡ slice_get old k
set-same i k old parts new m over = set_apart parts i k new (λ e. omega (arith, e, over)) ∙ m.same k (omega (arith, over))

some-is-some : (g h : Held) (o : Option Held) → o ≡ Some g → o ≡ Some h → g ≡ h
some-is-some g h o one other = cc

one-clear : (i k : ℕ) (old parts : List Held) (held new h : Held) → MendedUpTo i old parts → slice_get parts i ≡ Some held → new.doubt ≡ None → k < i + 1 → slice_get (slice_set parts i new) k ≡ Some h → ((i == k ≡ true) × (i ≡ k)) ⊎ ((i == k ≡ false) × (i ≡ k → ⊥)) → h.doubt ≡ None
one-clear i k old parts held new h m is clear within there (inl both) =
    let here : slice_get (slice_set parts i new) k ≡ Some new = subst (λ (j : ℕ). slice_get (slice_set parts i new) j ≡ Some new) both.1 (set_get parts i held new is) in
    ap (λ (x : Held). x.doubt) (some-is-some h new (slice_get (slice_set parts i new) k) there here) ∙ clear
one-clear i k old parts held new h m is clear within there (inr both) =
    let apart = both.1 in
    m.clear k h (before-one i k within apart) (sym (set_apart parts i k new (λ e. apart (sym e))) ∙ there)

pub one_more : (i : ℕ) (old parts : List Held) (held new : Held) → MendedUpTo i old parts → slice_get parts i ≡ Some held → IsSettled held new → MendedUpTo (i + 1) old (slice_set parts i new)
one_more i old parts held new m is settled = record {
  mends = one_zip i old parts held new m is settled.mends;
  clear = λ k h within there. one-clear i k old parts held new h m is settled.no_doubt within there (eqb_tells i k);
  same = λ k over. set-same i k old parts new m over;
}

-- ---- the way of a report

reporting-found : (a : Lists) (m : Held) (parts : List Held) (ask : Ask) (user : User) (quiz : ℕ) → IsReporting a m ask user quiz → length parts ≡ length a.parts → goes_on (with_parts m parts) ask ≡ true
reporting-found a m parts ask user quiz w count = goes_there (with_parts m parts) ask user w.known.found (subst (λ (n : ℕ). refusal_among m.list n user ask.request ≡ None) (sym count) w.among)

report-ways : (a : Lists) (m : Held) (parts : List Held) (ask : Ask) (user : User) (quiz : ℕ) → IsReporting a m ask user quiz → length parts ≡ length a.parts → route (with_parts m parts) ask ask.caller ≡ None ∷ in_order 0 (length parts)
report-ways a m parts ask user quiz w count =
    let l = with_parts m parts in
    let kind : is_report ask.request ≡ true = ap is_report w.request_is in
    let asked : shards_asked l ask ≡ in_order 0 (length parts) = rw (kind, reporting-found a m parts ask user quiz w count) refl in
    ap (route l ask) w.known.caller_is ∙ ap (λ (rest : List (Option ℕ)). None ∷ rest) asked

clear-by : (m : Held) (parts : List Held) (k : ℕ) (o : Option Held) → slice_get parts k ≡ o → ((h : Held) → slice_get parts k ≡ Some h → h.doubt ≡ None) → is_in_doubt (with_parts m parts) (Some k) ≡ false
clear-by m parts k None there clear = rw there refl
clear-by m parts k (Some h) there clear = let none : h.doubt ≡ None = clear h there in rw (there, none) refl

none-before : (p : Option ℕ → Bool) (j : ℕ) (rest : List (Option ℕ)) → p None ≡ false → list_any (is_part j) (up_to_first p rest) ≡ true → list_any (is_part j) (up_to_first p (None ∷ rest)) ≡ true
none-before p j rest is found = rw is found

reads-to : (a : Lists) (m : Held) (parts : List Held) (ask : Ask) (user : User) (quiz i j : ℕ) → IsReporting a m ask user quiz → length parts ≡ length a.parts → ((k : ℕ) → k < i → is_in_doubt (with_parts m parts) (Some k) ≡ false) → j ≤ i → j < length parts → reads_part (with_parts m parts) ask j ≡ true
reads-to a m parts ask user quiz i j w count clear low high =
    let l = with_parts m parts in
    let p = is_in_doubt l in
    ap (λ (ways : List (Option ℕ)). list_any (is_part j) (up_to_first p ways)) (report-ways a m parts ask user quiz w count)
    ∙ none-before p j (in_order 0 (length parts)) (ap is_some w.known.settled.no_doubt) (found-from p (length parts) 0 j (omega arith) (omega (arith, high)) (λ k less. clear k (omega (arith, less, low))))

-- what isn't read is as it was
keeps : (a : Lists) (m : Held) (parts : List Held) (ask : Ask) (user : User) (quiz i : ℕ) → IsReporting a m ask user quiz → length parts ≡ length a.parts → ((k : ℕ) → k < i → is_in_doubt (with_parts m parts) (Some k) ≡ false)
    → ((k : ℕ) → i + 1 ≤ k → slice_get parts k ≡ slice_get a.parts k) → KeepsUnread a (with_parts m parts) ask
keeps a m parts ask user quiz i w count clear same = record {
  records = λ skips. absurd (not-true (reads_catalog (with_parts m parts) ask) (token_reads (with_parts m parts) ask w.known.token w.known.caller_is) skips);
  parts = λ j skips. keep-by j (order j) skips;
}
  where
    order : (j : ℕ) → (j ≤ i) ⊎ (i + 1 ≤ j)
    order j = at_most_or_above j i

    keep-by : (j : ℕ) → (j ≤ i) ⊎ (i + 1 ≤ j) → reads_part (with_parts m parts) ask j ≡ false → slice_get parts j ≡ slice_get a.parts j
    keep-by j (inr over) skips = same j over
    keep-by j (inl low) skips = within-by j (at_most_or_above (length parts) j) low skips
      where
        within-by : (k : ℕ) → (length parts ≤ k) ⊎ (k + 1 ≤ length parts) → k ≤ i → reads_part (with_parts m parts) ask k ≡ false → slice_get parts k ≡ slice_get a.parts k
        within-by k (inl past) few none = slice_get_past parts k past ∙ sym (slice_get_past a.parts k (subst (λ (n : ℕ). n ≤ k) count past))
        within-by k (inr inside) few none = absurd (not-true (reads_part (with_parts m parts) ask k) (reads-to a m parts ask user quiz i k w count clear few (omega (arith, inside))) none)

-- ---- where none is in doubt before a shard

counted : (old new : List Held) → AllZip Mended old new → length new ≡ length old
counted old new all = sym (length_all_zip Mended old new all)

mended-clear : (i : ℕ) (m : Held) (old parts : List Held) → MendedUpTo i old parts → (k : ℕ) → k < i → is_in_doubt (with_parts m parts) (Some k) ≡ false
mended-clear i m old parts u k less = clear-by m parts k (slice_get parts k) refl (λ h there. u.clear k h less there)

mended-keeps : (a : Lists) (m : Held) (parts : List Held) (i : ℕ) (ask : Ask) (user : User) (quiz : ℕ) → IsReporting a m ask user quiz → MendedUpTo i a.parts parts → KeepsUnread a (with_parts m parts) ask
mended-keeps a m parts i ask user quiz w u = keeps a m parts ask user quiz i w (counted a.parts parts u.mends) (mended-clear i m a.parts parts u) (λ k over. u.same k (omega (arith, over)))

-- the next shard has another list
set-clear : (i : ℕ) (m : Held) (old parts : List Held) (new : Held) → MendedUpTo i old parts → (k : ℕ) → k < i → is_in_doubt (with_parts m (slice_set parts i new)) (Some k) ≡ false
set-clear i m old parts new u k less = clear-by m (slice_set parts i new) k (slice_get (slice_set parts i new) k) refl (λ h there. u.clear k h less (sym (set_apart parts i k new (λ e. omega (arith, e, less))) ∙ there))

set-keeps : (a : Lists) (m held new : Held) (parts : List Held) (i : ℕ) (ask : Ask) (user : User) (quiz : ℕ) → IsReporting a m ask user quiz → MendedUpTo i a.parts parts → slice_get parts i ≡ Some held → Mended held new → KeepsUnread a (with_parts m (slice_set parts i new)) ask
set-keeps a m held new parts i ask user quiz w u is mends =
    keeps a m (slice_set parts i new) ask user quiz i w (counted a.parts (slice_set parts i new) (one_zip i a.parts parts held new u is mends)) (set-clear i m a.parts parts new u) (λ k over. set-same i k a.parts parts new u over)

-- the next shard is in doubt
stays-doubted : (a : Lists) (m held new : Held) (parts : List Held) (i : ℕ) (ask : Ask) (user : User) (quiz : ℕ) → IsReporting a m ask user quiz → MendedUpTo i a.parts parts → slice_get parts i ≡ Some held → Mended held new → is_some new.doubt ≡ true
    → is_settled (with_parts m (slice_set parts i new)) ask ≡ false
stays-doubted a m held new parts i ask user quiz w u is mends doubt =
    let ps = slice_set parts i new in
    let l = with_parts m ps in
    let there = set_get parts i held new is in
    let here : is_in_doubt l (Some i) ≡ true = ap (λ (o : Option Held). is_some (unwrap_or o (record { list = []; doubt = None })).doubt) there ∙ doubt in
    let any = any-from (is_in_doubt l) (length ps) 0 i (omega arith) (let within = slice_get_within ps i new there in omega (arith, within)) here in
    ap (λ (ways : List (Option ℕ)). not (list_any (is_in_doubt l) ways)) (report-ways a m ps ask user quiz w (counted a.parts ps (one_zip i a.parts parts held new u is mends)))
    ∙ ap not (or-second (is_in_doubt l None) (list_any (is_in_doubt l) (in_order 0 (length ps))) any)

ok-is : {A : Type 0} (x y : A) → ◌≡◌ {A = Result A Refusal} (Ok x) (Ok y) → x ≡ y
ok-is x y same = cc

rows-by : (failed : Type 0) (a : Lists) (m held new : Held) (parts : List Held) (i now : ℕ) (ask : Ask) (user : User) (quiz : ℕ) (rows : List Record → List (ℕ × Option ℤ)) (told : Result (List (ℕ × Option ℤ)) Refusal)
    → IsReporting a m ask user quiz → MendedUpTo i a.parts parts → slice_get parts i ≡ Some held → LookEnds failed (λ r. Err r) (λ h t. t ≡ Ok (rows h)) held new told
    → MatchResult told (λ t. MendedUpTo (i + 1) a.parts (slice_set parts i new) × (t ≡ rows new.list)) (λ r. AskedOnce failed a (with_parts m (slice_set parts i new)) now ask (reply.Refused r))
rows-by failed a m held new parts i now ask user quiz rows (Ok t) w u is (looked settled says) = (one_more i a.parts parts held new u is settled, ok-is t (rows new.list) says)
rows-by failed a m held new parts i now ask user quiz rows (Ok t) w u is (unread why mends doubt same) = absurd (err-ok t refusal.KeepFault same)
rows-by failed a m held new parts i now ask user quiz rows (Ok t) w u is (unlooked mends same) = absurd (err-ok t refusal.Memory same)
rows-by failed a m held new parts i now ask user quiz rows (Err r) w u is (looked settled says) = absurd (err-ok (rows new.list) r (sym says))
rows-by failed a m held new parts i now ask user quiz rows (Err r) w u is (unread why mends doubt same) =
    let l = with_parts m (slice_set parts i new) in
    asked_once failed a l now ask (reply.Refused r) w.askable.shards w.askable.keyed
    (subst (λ (x : Refusal). Asks a l now ask (reply.Refused x)) (sym (err-is {A = List (ℕ × Option ℤ)} r refusal.KeepFault same))
    (failed_asks a l now ask (record { records = w.known.settled.mends; parts = one_zip i a.parts parts held new u is mends }) (set-keeps a m held new parts i ask user quiz w u is mends) (stays-doubted a m held new parts i ask user quiz w u is mends doubt)))
    (λ fault. why)
rows-by failed a m held new parts i now ask user quiz rows (Err r) w u is (unlooked mends same) =
    let l = with_parts m (slice_set parts i new) in
    asked_once failed a l now ask (reply.Refused r) w.askable.shards w.askable.keyed
    (subst (λ (x : Refusal). Asks a l now ask (reply.Refused x)) (sym (err-is {A = List (ℕ × Option ℤ)} r refusal.Memory same))
    (wanting_asks a l now ask (record { records = w.known.settled.mends; parts = one_zip i a.parts parts held new u is mends }) (set-keeps a m held new parts i ask user quiz w u is mends)))
    (λ fault. absurd (not-memory (reply.Refused r) (ap reply.Refused (err-is {A = List (ℕ × Option ℤ)} r refusal.Memory same)) fault))

wanting-path : (failed : Type 0) (a : Lists) (m : Held) (parts : List Held) (i now : ℕ) (ask : Ask) (user : User) (quiz : ℕ) → IsReporting a m ask user quiz → MendedUpTo i a.parts parts → AskedOnce failed a (with_parts m parts) now ask (reply.Refused refusal.Memory)
wanting-path failed a m parts i now ask user quiz w u =
    asked_once failed a (with_parts m parts) now ask (reply.Refused refusal.Memory) w.askable.shards w.askable.keyed
    (wanting_asks a (with_parts m parts) now ask (record { records = w.known.settled.mends; parts = u.mends }) (mended-keeps a m parts i ask user quiz w u))
    (λ fault. absurd (not-memory (reply.Refused refusal.Memory) refl fault))

-- ---- all shards have told

all-clear : (a : Lists) (m : Held) (parts : List Held) → m.doubt ≡ None → MendedUpTo (length a.parts) a.parts parts → (part : Option ℕ) → is_in_doubt (with_parts m parts) part ≡ false
all-clear a m parts clear u None = ap is_some clear
all-clear a m parts clear u (Some k) = clear-by m parts k (slice_get parts k) refl (λ h there. u.clear k h (subst (λ (n : ℕ). k < n) (counted a.parts parts u.mends) (slice_get_within parts k h there)) there)

report-after : (b : Bool) (c h : List Record) (now : ℕ) (user : User) (ask : Ask) (quiz : ℕ) → plan_for c h user ask.request ≡ None → (if b then h else after_by c h now user ask (request.Report quiz)) ≡ h
report-after true c h now user ask quiz none = refl
report-after false c h now user ask quiz none = rw none refl

-- a report puts nothing
report-puts : (c h : List Record) (now : ℕ) (ask : Ask) (user : User) (quiz : ℕ) → ask.request ≡ request.Report quiz → user_of c ask.caller ≡ Some user → shard_list c h now ask ≡ h
report-puts c h now ask user quiz is found =
    let after : shard_list c h now ask ≡ user_after c h now ask user = rw found refl in
    after ∙ ap (λ (x : Request). if is_some (first_refusal c user ask.request) then h else after_by c h now user ask x) is ∙ report-after (is_some (first_refusal c user ask.request)) c h now user ask quiz (ap (plan_for c h user) is)

reported : (a : Lists) (m : Held) (parts : List Held) (now : ℕ) (ask : Ask) (user : User) (quiz : ℕ) → IsReporting a m ask user quiz → length parts ≡ length a.parts → reply_over (with_parts m parts) now ask ≡ report_answer m.list (lists_of parts) quiz
reported a m parts now ask user quiz w count =
    let c = m.list in
    let ps = lists_of parts in
    let among : refusal_among c (length ps) user ask.request ≡ None = subst (λ (n : ℕ). refusal_among c n user ask.request ≡ None) (sym (count_parts parts ∙ count)) w.among in
    let told : school_answer_by c ps now ask user ≡ answer_among c ps now user ask ask.request = rw among refl in
    said_by (with_parts m parts) now ask user w.known.found ∙ told ∙ ap (answer_among c ps now user ask) w.request_is

told-path : (failed : Type 0) (a : Lists) (m : Held) (parts : List Held) (now : ℕ) (ask : Ask) (user : User) (quiz : ℕ) (told : Reply) → IsReporting a m ask user quiz → MendedUpTo (length a.parts) a.parts parts → told ≡ report_answer m.list (lists_of parts) quiz
    → AskedOnce failed a (with_parts m parts) now ask told
told-path failed a m parts now ask user quiz told w u is =
    let l = with_parts m parts in
    let count = counted a.parts parts u.mends in
    let clear = all-clear a m parts w.known.settled.no_doubt u in
    let said = reported a m parts now ask user quiz w count ∙ sym is in
    asked_once failed a l now ask told w.askable.shards w.askable.keyed
    (still_asks a l now ask told (record { records = w.known.settled.mends; parts = u.mends }) (mended-keeps a m parts (length a.parts) ask user quiz w u) (ap not (none-of (is_in_doubt l) (route l ask ask.caller) clear)) (λ k read. clear (Some k))
    (record { records = records_kept m.list now ask (ap asks_catalog w.request_is); part = λ k read. report-puts m.list (part_list l k) now ask user quiz w.request_is w.known.found }) said)
    (λ fault. absurd (not-own told (own_reply l now ask told said) fault))

pub reports_law : (failed : Type 0) → ReportsAsk failed
reports_law failed = record {
  begin = λ parts. record { mends = all_stay parts; clear = λ k h none there. absurd (omega (arith, none)); same = λ k over. refl };
  rows = λ a m held new parts i now ask user quiz rows told w u is call. rows-by failed a m held new parts i now ask user quiz rows told w u is (look_ends failed (λ r. Err r) (λ h t. t ≡ Ok (rows h)) held new told call);
  wanting = wanting-path failed;
  told = told-path failed;
}
