-- What the calls of a catalogue that a keeper keeps come to.
use Rattle.std.proofs.Common.{◌≡◌, ◌≤◌, ◌⊎◌, inl, inr, ℕ, Bool, true, List, [], ◌∷◌, ◌++◌, Option, Some, None, IfSome, IfOk, IfErr, OnOk, OnErr, MatchResult, Result, Ok, Err, length, option_map, refl, sym, ap, subst, ◌∙◌}
use Rattle.std.specs.Prelude.{◌+◌, slice_get, take, unwrap_or}
use Rattle.qz_disks.specs.declared.keeper.KeepErr.{KeepErr}
use Rattle.qz_disks.specs.declared.keeper.KeepErr.TheVariants.{Memory}
use Rattle.qz_grading.specs.declared.refusal.Refusal.{Refusal}
use Rattle.qz_grading.specs.declared.refusal.Refusal.TheVariants as refusal
use Rattle.qz_grading.specs.Behaviours.{first_some}
use Rattle.qz_keeper.specs.Custody.{Custody, pending, pending_of}
use Rattle.qz_keeper.specs.Lists.{CallEnds, EachMayStand, IsKeptList, IsSettled, Looks, OneCall, answered, held_in, no_memory, put_in_doubt, stayed_in_doubt}
use Rattle.qz_keeper.specs.Recording.{CanTake, IsRecorded, Recorded, failure, nothing_put, one_put, wanting}
use Rattle.qz_keeper.proofs.Settling.{IsFoundIn, ready_of}
use Rattle.qz_record.specs.Lengths.{NamesBriefly}
use Rattle.qz_terms.specs.declared.ask.Ask.{Ask}
use Rattle.qz_terms.specs.declared.people.User.{User}
use Rattle.qz_terms.specs.declared.plan.Plan.{Plan}
use Rattle.qz_terms.specs.declared.record.Record.{Record}
use Rattle.qz_terms.specs.declared.reply.Reply.{Reply}
use Rattle.qz_terms.specs.declared.reply.Reply.TheVariants as reply
use Rattle.qz_terms.specs.CatalogAnswer.{catalog_after, catalog_answer, catalog_verdict, record_in}
use Rattle.qz_terms.specs.Answer.{said}
use Rattle.qz_terms.specs.Catalog.{plan}
use Rattle.qz_terms.specs.Cause.{Denied, Granted, missing_quiz, missing_user}
use Rattle.qz_terms.specs.Kept.{IsKeptPlan}
use Rattle.qz_terms.specs.Legal.{IsLegalCatalog}
use Rattle.qz_terms.specs.Serial.{Held, Mended}
use Rattle.qz_bank.specs.declared.entry.Entry.{Entry}
use Rattle.qz_catalog.specs.Applying.{IsPosed, bank_cause}
use Rattle.qz_catalog.specs.Holdings.{lean}
use Rattle.qz_catalog.specs.Keeping.{IsReadyToPut, IsTold, MayFollow, TellsPlan}
use Rattle.qz_catalog.proofs.Deciding.{granted, refused}
use Rattle.qz_catalog.proofs.Granting.{allowed, kept, legal-push}
use Rattle.qz_catalog.proofs.Shortness.{granted-short}
use Rattle.qz_catalog.proofs.ShownLemmas.{put-said}

-- ---- a record is put

-- the record that a request puts may stand next
posed-follows : (c : List Record) (es : List Entry) (now : ℕ) (user : User) (ask : Ask) → IsPosed c es now user ask → catalog_verdict c now user ask ≡ Granted → MayFollow c (record_in c now user ask)
posed-follows c es now user ask p verdict = record {
  allowed = allowed c now user ask p.asked p.keeps p.free.permitted verdict;
  kept = kept c now user ask p.held.kept p.asked p.keeps;
  described = p.asked.described;
}

pub posed-kept : (c : List Record) (es : List Entry) (now : ℕ) (user : User) (ask : Ask) (r : Record) → IsPosed c es now user ask → bank_cause es ask.request ≡ None → r ≡ record_in c now user ask → MayFollow c r
posed-kept c es now user ask r p none is = subst (MayFollow c) (sym is) (posed-follows c es now user ask p (granted c es now user ask p.held.bank p.free none))

pub posed-ready : {R : Type 0} (ready : R → Record → Type 0) (recorder : R) (c : List Record) (es : List Entry) (now : ℕ) (user : User) (ask : Ask) (r : Record) → IsPosed c es now user ask → bank_cause es ask.request ≡ None → IsReadyToPut ready recorder c now user ask → r ≡ record_in c now user ask → ready recorder r
posed-ready ready recorder c es now user ask r p none may is =
    let verdict = granted c es now user ask p.held.bank p.free none in
    subst (ready recorder) (sym is) (may.granted verdict (posed-follows c es now user ask p verdict))

pub posed-recorded : {R : Type 0} (records : R → R → Record → Option KeepErr → Type 0) (c : List Record) (es : List Entry) (now : ℕ) (user : User) (ask : Ask) (r : Record) (old new : R) (e : Option KeepErr) → IsPosed c es now user ask → bank_cause es ask.request ≡ None → r ≡ record_in c now user ask
    → IsRecorded records r old new e → Recorded records (MayFollow c) c (catalog_after c now user ask) old new e
posed-recorded records c es now user ask r old new e p none is took =
    let verdict = granted c es now user ask p.held.bank p.free none in
    let after : catalog_after c now user ask ≡ c ++ record_in c now user ask ∷ [] = rw (verdict, p.keeps) refl in
    one_put r (posed-kept c es now user ask r p none is) (after ∙ ap (λ (s : Record). c ++ s ∷ []) (sym is)) took

-- and what is said of it is the answer
pub put-told : (c g : List Record) (es : List Entry) (now : ℕ) (user : User) (ask : Ask) (r : Record) (told : Reply) (at : ℕ) → IsPosed c es now user ask → bank_cause es ask.request ≡ None → r ≡ record_in c now user ask → g ≡ c ++ r ∷ [] → at ≡ length c
    → ((s : Record) → slice_get g at ≡ Some s → told ≡ said (take (at + 1) g) s) → IsTold now user ask c told g
put-told c g es now user ask r told at p none is list place says =
    let verdict = granted c es now user ask p.held.bank p.free none in
    let answer : catalog_answer c now user ask ≡ said (c ++ record_in c now user ask ∷ []) (record_in c now user ask) = rw (verdict, p.keeps) refl in
    let after : catalog_after c now user ask ≡ c ++ record_in c now user ask ∷ [] = rw (verdict, p.keeps) refl in
    record {
      reply = put-said c c g r told at refl list place says ∙ ap (λ (s : Record). said (c ++ s ∷ []) s) is ∙ sym answer;
      list = list ∙ ap (λ (s : Record). c ++ s ∷ []) is ∙ sym after;
    }

-- ---- none is put

pub denied-told : (c : List Record) (now : ℕ) (user : User) (ask : Ask) (r : Refusal) → catalog_verdict c now user ask ≡ Denied r → IsTold now user ask c (reply.Refused r) c
denied-told c now user ask r verdict =
    let answer : catalog_answer c now user ask ≡ reply.Refused r = rw verdict refl in
    let after : catalog_after c now user ask ≡ c = rw verdict refl in
    record { reply = sym answer; list = sym after }

-- what stands against a new version
pub refused-told : (c : List Record) (es : List Entry) (now : ℕ) (user : User) (ask : Ask) (r : Refusal) → IsPosed c es now user ask → (r ≡ refusal.Memory) ⊎ (bank_cause es ask.request ≡ Some r) → (r ≡ refusal.Memory → ⊥) → IsTold now user ask c (reply.Refused r) c
refused-told c es now user ask r p (inl memory) other = absurd (other memory)
refused-told c es now user ask r p (inr some) other = denied-told c now user ask r (refused c es now user ask r p.held.bank p.free some)

-- what is told of it, unless memory was wanting
pub record IsRefused {R : Type 0} (records : R → R → Record → Option KeepErr → Type 0) (c : List Record) (now : ℕ) (user : User) (ask : Ask) (recorder : R) (result : Result Reply KeepErr) : Type 0 where
  pub told : IfOk result (λ told. IsTold now user ask c told c)
  pub recorded : Recorded records (MayFollow c) c (catalog_after c now user ask) recorder recorder (failure result)
  pub unchanged : OnErr result (c ≡ c)

pub refused_ends : {R : Type 0} (records : R → R → Record → Option KeepErr → Type 0) (c : List Record) (es : List Entry) (now : ℕ) (user : User) (ask : Ask) (r : Refusal) (recorder : R) (result : Result Reply KeepErr) → IsPosed c es now user ask → (r ≡ refusal.Memory) ⊎ (bank_cause es ask.request ≡ Some r)
    → IfOk result (λ told. (told ≡ reply.Refused r) × (r ≡ refusal.Memory → ⊥)) → IfErr result (λ e. e ≡ Memory) → IsRefused records c now user ask recorder result
refused_ends records c es now user ask r recorder (Ok told) p cause is why =
    let said : IsTold now user ask c told c = subst (λ (t : Reply). IsTold now user ask c t c) (sym is.0) (refused-told c es now user ask r p cause is.1) in
    record { told = said; recorded = nothing_put (sym said.list) refl refl; unchanged = tt }
refused_ends records c es now user ask r recorder (Err e) p cause is why = record { told = tt; recorded = wanting refl (ap (λ x. Some x) why); unchanged = refl }

-- ---- of a list and its keeper

-- a settled keeper takes the record of a request with a brief key and brief names
pub ready_for : {K : Type 0} (kept : K → Option (List (List ℕ))) (h : List Record) (c : Custody K) (now : ℕ) (user : User) (ask : Ask) → IsKeptList kept MayFollow h c → pending c ≡ None → length (unwrap_or ask.key []) ≤ 64 → NamesBriefly ask.request
    → IsReadyToPut (λ d r. CanTake d r) c h now user ask
ready_for kept h c now user ask k clear brief names = record {
  granted = λ verdict may. record { ready = ready_of kept MayFollow h c k clear; short = granted-short h now user ask may.kept brief names verdict };
}

pub answer_ends : (old new : List Record) (now : ℕ) (user : User) (ask : Ask) (result : Result Reply KeepErr) → IfOk result (λ told. IsTold now user ask old told new) → OnErr result (new ≡ old)
    → MatchResult result (λ told. (told ≡ catalog_answer old now user ask) × (new ≡ catalog_after old now user ask)) (λ _. new ≡ old)
answer_ends old new now user ask (Ok told) is same = (is.reply, is.list)
answer_ends old new now user ask (Err e) is same = same

-- what the answer says of itself
pub answer_told : (now : ℕ) (user : User) (ask : Ask) (h : List Record) → IsTold now user ask h (catalog_answer h now user ask) (catalog_after h now user ask)
answer_told now user ask h = record { reply = refl; list = refl }

-- what was found may stand next
pub found_next : {K : Type 0} (kept : K → Option (List (List ℕ))) (list : List Record) (c d : Custody K) (x : Record) → IsFoundIn kept MayFollow list c d → d.found ≡ Some x → MayFollow list x
found_next kept list c d x f is = subst (λ p. IfSome p (MayFollow list)) (ap (λ p. pending_of p d.found) f.no_doubt ∙ is) f.keeps.next

-- ---- what may stand

legal_with : (l : List Record) (doubt : Option Record) → IsLegalCatalog l → IfSome doubt (MayFollow l) → IfSome doubt (λ r. IsLegalCatalog (l ++ r ∷ []))
legal_with l None legal next = tt
legal_with l (Some r) legal next = legal-push l r legal next.allowed

-- a record that is in doubt may stand behind a legal list
pub legal_held : {K : Type 0} (kept : K → Option (List (List ℕ))) (h : List Record) (c : Custody K) → IsKeptList kept MayFollow h c → IsLegalCatalog h → EachMayStand IsLegalCatalog (held_in h c)
legal_held kept h c k legal = record { without = legal; with_doubt = legal_with h (pending c) legal k.next }

-- ---- a look

held_same : (old new : Held) → old.doubt ≡ None → new.doubt ≡ None → new.list ≡ old.list → new ≡ old
held_same old new before after same = ap (λ l. let h : Held = record { list = l; doubt = new.doubt } in h) same ∙ ap (λ d. let h : Held = record { list = old.list; doubt = d } in h) (after ∙ sym before)

settled_ends : (failed : Type 0) (old mended new : Held) → Mended old mended → CallEnds {A = Result (Unit {0}) Refusal} failed (λ r. Err r) (Looks (λ _ told. told ≡ Ok tt)) mended new (Ok tt) → IsSettled old new
settled_ends failed old mended new mends (answered before after is) = record { mends = subst (Mended old) (sym (held_same mended new before after is.1)) mends; no_doubt = after }
settled_ends failed old mended new mends (put_in_doubt why answer r before is new_is said) = absurd cc
settled_ends failed old mended new mends (stayed_in_doubt why doubt new_is said) = absurd cc
settled_ends failed old mended new mends (no_memory new_is said) = absurd cc

-- what a mending that was answered leaves
pub settled_by : (failed : Type 0) (old new : Held) → OneCall {A = Result (Unit {0}) Refusal} failed (λ r. Err r) (Looks (λ _ told. told ≡ Ok tt)) old new (Ok tt) → IsSettled old new
settled_by failed old new call = settled_ends failed old call.mended new call.mends call.ends

-- each list that may stand, where none is in doubt
pub each_settled : (P : List Record → Type 0) (held : Held) → held.doubt ≡ None → P held.list → EachMayStand P held
each_settled P held none is = record { without = is; with_doubt = subst (λ d. IfSome d (λ r. P (held.list ++ r ∷ []))) (sym none) tt }

plan_wanting : (c : List Record) (quiz user : ℕ) (whole : Bool) (r : Refusal) → (r ≡ refusal.Memory) ⊎ (first_some (missing_quiz c quiz ∷ missing_user c user ∷ []) ≡ Some r) → (Looks (TellsPlan quiz user whole) c (Err r) c) ⊎ (◌≡◌ {A = Result Plan Refusal} (Err r) (Err refusal.Memory))
plan_wanting c quiz user whole r (inl memory) = inr (ap (λ (e : Refusal). Err e) memory)
plan_wanting c quiz user whole r (inr cause) = inl (cause, refl)

pub plan_told : (c : List Record) (quiz user : ℕ) (whole : Bool) (result : Result Plan Refusal) → IfOk result (λ p. option_map (lean whole) (plan c quiz user) ≡ Some p) → IfOk result IsKeptPlan → IfOk result (λ (p : Plan). whole ≡ true → length p.questions ≡ length p.slots)
    → OnOk result (first_some (missing_quiz c quiz ∷ missing_user c user ∷ []) ≡ None) → IfErr result (λ r. (r ≡ refusal.Memory) ⊎ (first_some (missing_quiz c quiz ∷ missing_user c user ∷ []) ≡ Some r)) → (Looks (TellsPlan quiz user whole) c result c) ⊎ (result ≡ Err refusal.Memory)
plan_told c quiz user whole (Ok p) is kept each there why = inl (record { plan_is = is; kept = kept; each = each; there = there }, refl)
plan_told c quiz user whole (Err r) is kept each there why = plan_wanting c quiz user whole r why
