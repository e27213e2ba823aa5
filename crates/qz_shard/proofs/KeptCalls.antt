-- What the calls of a shard that a keeper keeps come to.
use Rattle.std.proofs.Common.{◌≡◌, ◌≤◌, ◌+◌, ℕ, true, arith, List, [], ◌∷◌, ◌++◌, Option, Some, None, IfSome, IfOk, OnErr, MatchResult, Result, Ok, Err, length, refl, sym, ap, subst, ◌∙◌}
use Rattle.std.specs.List.{list_all}
use Rattle.std.specs.Prelude.{All, slice_index_or, unwrap_or}
use Rattle.std.proofs.lemmas.List.Sums.{AllPass-from_list_all, list_all-from_AllPass}
use Rattle.qz_disks.specs.declared.keeper.KeepErr.{KeepErr}
use Rattle.qz_keeper.specs.Custody.{Custody, pending, pending_of}
use Rattle.qz_keeper.specs.Lists.{EachMayStand, IsKeptList, held_in}
use Rattle.qz_keeper.specs.Recording.{CanTake, IsReadyFor}
use Rattle.qz_keeper.proofs.Settling.{IsFoundIn, ready_of, records_held}
use Rattle.qz_record.specs.Records.{IsRecord, keeps_described}
use Rattle.qz_terms.specs.declared.ask.Ask.{Ask}
use Rattle.qz_terms.specs.declared.people.User.{User}
use Rattle.qz_terms.specs.declared.plan.Job.{Job}
use Rattle.qz_terms.specs.declared.plan.Plan.{Plan}
use Rattle.qz_terms.specs.declared.record.Event.{Event}
use Rattle.qz_terms.specs.declared.record.Event.TheVariants as event
use Rattle.qz_terms.specs.declared.record.Record.{Record}
use Rattle.qz_terms.specs.declared.reply.Reply.{Reply}
use Rattle.qz_terms.specs.Catalog.{asked_by}
use Rattle.qz_terms.specs.Answer.{answer_here, list_after, work_after, work_answer}
use Rattle.qz_terms.specs.Legal.{IsLegal}
use Rattle.qz_terms.specs.Serial.{Held, stays}
use Rattle.qz_shard.specs.Answering.{IsAnswered, IsPosed}
use Rattle.qz_shard.specs.Holdings.{Holding}
use Rattle.qz_book.specs.Held.{IsHeld, is_asked, is_asked_event}
use Rattle.qz_shard.specs.Keeping.{CountsFew, IsTold}
use Rattle.qz_book.specs.Nexts.{IsNext}
use Rattle.qz_shard.specs.Works.{IsWorked}
use Rattle.qz_shard.proofs.Alone.{answered_alone}
use Rattle.qz_lives.proofs.Legality.{legal-push}
use Rattle.qz_shard.proofs.Shortness.{next-short}

-- a settled keeper takes each record that may stand next and has a brief key
pub ready_for : {K : Type 0} (kept : K → Option (List (List ℕ))) (index count : ℕ) (h : List Record) (c : Custody K) (key : Option (List ℕ)) → IsKeptList kept (IsNext index count) h c → pending c ≡ None → IsHeld index count h → length (unwrap_or key []) ≤ 64
    → IsReadyFor (λ d r. CanTake d r) c (IsNext index count h) key
ready_for kept index count h c key k clear held brief = record {
  each = λ r next is. record { ready = ready_of kept (IsNext index count) h c k clear; short = next-short index count h r held next (subst (λ (o : Option (List ℕ)). length (unwrap_or o []) ≤ 64) (sym is) brief) };
}

-- a shard's place doesn't change
pub kept_there : {K : Type 0} (kept : K → Option (List (List ℕ))) (index count i n : ℕ) (h : List Record) (c : Custody K) → i ≡ index → n ≡ count → IsKeptList kept (IsNext index count) h c → IsKeptList kept (IsNext i n) h c
kept_there kept index count i n h c same many k = subst (λ j. IsKeptList kept (IsNext j n) h c) (sym same) (subst (λ m. IsKeptList kept (IsNext index m) h c) (sym many) k)

pub answer_ends : (old new : Holding) (now : ℕ) (user : User) (plan : Plan) (ask : Ask) (result : Result Reply KeepErr) → IfOk result (λ told. IsAnswered old.records now user plan ask told new.records) → OnErr result (new ≡ old)
    → MatchResult result (λ told. (told ≡ answer_here old.records now user plan ask) × (new.records ≡ list_after old.records now user plan ask)) (λ _. new.records ≡ old.records)
answer_ends old new now user plan ask (Ok told) answered same = (answered.reply, answered.list)
answer_ends old new now user plan ask (Err e) answered same = ap (λ (s : Holding). s.records) same

pub work_ends : (old new : Holding) (now caller : ℕ) (job : Job) (result : Result Reply KeepErr) → IfOk result (λ told. IsWorked old.records now caller job told new.records) → OnErr result (new ≡ old)
    → MatchResult result (λ told. (told ≡ work_answer old.records now caller job) × (new.records ≡ work_after old.records now caller job)) (λ _. new.records ≡ old.records)
work_ends old new now caller job (Ok told) answered same = (answered.reply, answered.list)
work_ends old new now caller job (Err e) answered same = ap (λ (s : Holding). s.records) same

-- what the answer says of itself
pub answer_told : (index count now : ℕ) (user : User) (plan : Plan) (ask : Ask) (h : List Record) → IsPosed (record { index = index; count = count; records = h }) now user plan ask → IsTold index count now user plan ask h (answer_here h now user plan ask) (list_after h now user plan ask)
answer_told index count now user plan ask h posed =
    let itself : IsAnswered h now user plan ask (answer_here h now user plan ask) (list_after h now user plan ask) = record { reply = refl; list = refl } in
    record { answered = itself; newer = posed.newer; alone = answered_alone (record { index = index; count = count; records = h }) h now user plan ask _ _ _ refl itself refl }

-- a call that stopped at its mending counts nothing
pub counts_none : (most : List Record → ℕ) (old new : Held) (n : ℕ) → CountsFew most old new n n
counts_none most old new n = record { mended = old; mends = stays old; few = omega arith; still = λ _. refl }

-- what was found may stand next
pub found_next : {K : Type 0} (kept : K → Option (List (List ℕ))) (MayFollow : List Record → Record → Type 0) (list : List Record) (c d : Custody K) (x : Record) → IsFoundIn kept MayFollow list c d → d.found ≡ Some x → MayFollow list x
found_next kept MayFollow list c d x f is = subst (λ p. IfSome p (MayFollow list)) (ap (λ p. pending_of p d.found) f.no_doubt ∙ is) f.keeps.next

-- ---- what may stand

legal_with : (index count : ℕ) (l : List Record) (doubt : Option Record) → IsLegal index count l → IfSome doubt (IsNext index count l) → IfSome doubt (λ r. IsLegal index count (l ++ r ∷ []))
legal_with index count l None legal next = tt
legal_with index count l (Some r) legal next = legal-push index count l r legal next.allowed

-- a record that is in doubt may stand behind a legal list
pub legal_held : {K : Type 0} (kept : K → Option (List (List ℕ))) (index count : ℕ) (h : List Record) (c : Custody K) → IsKeptList kept (IsNext index count) h c → IsLegal index count h → EachMayStand (IsLegal index count) (held_in h c)
legal_held kept index count h c k legal = record { without = legal; with_doubt = legal_with index count h (pending c) legal k.next }

-- what a request to a shard puts is none of the catalogue's
unasked : (e : Event) → is_asked_event e ≡ true → asked_by e ≡ None
unasked (event.Asked x) asked = absurd cc
unasked e asked = refl

described : (r : Record) → is_asked r ≡ true → keeps_described r ≡ true
described r asked = rw (unasked r.event asked) refl

-- each record of a list that may stand is one that a file may keep
pub records_there : {K : Type 0} (kept : K → Option (List (List ℕ))) (index count : ℕ) (h : List Record) (c : Custody K) → IsKeptList kept (IsNext index count) h c → IsHeld index count h → EachMayStand (All IsRecord) (held_in h c)
records_there kept index count h c k held =
    records_held kept (IsNext index count) h c k held.kept
    (list_all-from_AllPass keeps_described h (λ n d within. described (slice_index_or h n d) (AllPass-from_list_all is_asked h held.asked n d within)))
    (λ r next. (next.kept, described r next.asked))
