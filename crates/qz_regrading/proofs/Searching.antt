-- A pass searches each shard for attempts to settle.
use Rattle.std.proofs.Common.{◌≡◌, ℕ, ◌+◌, ◌-◌, ◌^◌, ◌<◌, ◌≤◌, Bool, true, false, List, [], ◌∷◌, ◌++◌, Option, Some, None, length, refl, sym, ap, ◌∙◌, subst, eq-eqb, eqb-true, append-nil, length-append, arith}
use Rattle.std.specs.Prelude.{◌==◌, Result, Ok, Err}
use Rattle.std.proofs.lemmas.Bool.{eqb-false}
use Rattle.qz_asking.specs.Asking.{Answerer}
use Rattle.qz_asking.specs.Following.{Follows, stays}
use Rattle.qz_asking.proofs.Following.{follows_on}
use Rattle.qz_grading.specs.declared.refusal.AttemptId.{AttemptId}
use Rattle.qz_grading.specs.declared.refusal.Refusal.{Refusal}
use Rattle.qz_grading.specs.declared.refusal.Refusal.TheVariants as refusal
use Rattle.qz_grading.specs.declared.refusal.Thing.TheVariants as thing
use Rattle.qz_outside.specs.Causes.{HasRisen}
use Rattle.qz_terms.specs.declared.ask.Ask.{Ask}
use Rattle.qz_terms.specs.declared.limits.TheConstants.{MOST_SHARDS}
use Rattle.qz_terms.specs.declared.reply.Done.{Done}
use Rattle.qz_terms.specs.declared.reply.Done.TheVariants as done
use Rattle.qz_terms.specs.declared.reply.Reply.{Reply}
use Rattle.qz_terms.specs.declared.reply.Reply.TheVariants as reply
use Rattle.qz_terms.specs.declared.request.Request.TheVariants as request
use Rattle.qz_terms.specs.Serial.{Lists}
use Rattle.qz_regrading.specs.declared.ends.LoopEnd.{LoopEnd}
use Rattle.qz_regrading.specs.declared.ends.LoopEnd.TheVariants as ends
use Rattle.qz_regrading.specs.declared.met.Met.{Met}
use Rattle.qz_regrading.specs.Loops.{EndsBy, MakesPasses, Regrades}
use Rattle.qz_regrading.specs.Loops as loops
use Rattle.qz_regrading.specs.Parts.{IsPass, LooksBehind, MeetsFaults, MeetsIfThere, MeetsQuietly, MeetsSettling, MeetsSweeping, SearchesShard, faults_told, told_in}
use Rattle.qz_regrading.specs.Passes.{Meets, MetEnds, met_with}
use Rattle.qz_regrading.specs.Workers.{KeepsParts}
use Rattle.qz_regrading.proofs.Meeting.{meets-quiet, meets-refusal, missing-is}
use Rattle.qz_regrading.specs.Working.{IsSearched, Look, LooksOn, Next, Sweeps, Told, Worked, WorksSo, before_all, counts_to, found_in, keep_faults, looks_at, next_of, settled_in, told_by}
use Rattle.qz_regrading.specs.Working as working
use Rattle.qz_regrading.proofs.Working.{faults_on, found_on, looks_on, meets_none, meets_nothing, meets_on, meets_refusal, missing_none, settled_on, so_on, so_one, works_follow}

nothing_behind : {A : Type 0} (xs ys : List A) → ys ≡ [] → xs ++ ys ≡ xs
nothing_behind xs ys second = ap (λ (l : List _). xs ++ l) second ∙ append-nil xs

nothing_before : {A : Type 0} (xs ys : List A) → xs ≡ [] → xs ++ ys ≡ ys
nothing_before xs ys first = ap (λ (l : List _). l ++ ys) first

-- ---- one look

abbrev pub live : ℕ → AttemptId → Reply → Worked
live shard attempt r = record { request = request.Live shard attempt; reply = r }

look_here : (shard : ℕ) (attempt : AttemptId) (r : Reply) (told : Told) → told_by r ≡ told → looks_at shard (live shard attempt r ∷ []) ≡ record { behind = attempt; told = told } ∷ []
look_here shard attempt r told is = rw (eq-eqb shard shard refl, is) refl

look_there : (shard other : ℕ) (attempt : AttemptId) (r : Reply) → (shard == other) ≡ false → looks_at other (live shard attempt r ∷ []) ≡ []
look_there shard other attempt r elsewhere = rw elsewhere refl

found_next : (shard : ℕ) (attempt next : AttemptId) (r : Reply) → told_by r ≡ Next next → found_in (live shard attempt r ∷ []) ≡ next ∷ []
found_next shard attempt next r is = rw is refl

found_by_none : (o : Option AttemptId) (told : Told) → next_of told ≡ None → next_of told ≡ o → o ≡ None
found_by_none o told none is = sym is ∙ none

found_none : (shard : ℕ) (attempt : AttemptId) (r : Reply) (told : Told) → told_by r ≡ told → next_of told ≡ None → found_in (live shard attempt r ∷ []) ≡ []
found_none shard attempt r told is none = rw (is, none) refl

-- what an answer told, as the attempt that goes on
pub told_going : (place : ℕ) (d : Done) (o : Option AttemptId) → next_of (told_by (reply.Ok place d)) ≡ o → told_by (reply.Ok place d) ≡ told_in (Ok o)
told_going place (done.Live (Some attempt)) o is = ap (λ (x : Option AttemptId). told_in (Ok x)) is
told_going place d o is = ap (λ (x : Option AttemptId). told_in (Ok x)) is

-- ---- the search of one shard

-- so far it came, by so many looks
pub record Searching (shard looks : ℕ) (at : AttemptId) (m n : Met) (ws : List Worked) : Type 0 where
  pub looking : LooksOn before_all (looks_at shard ws) at
  pub count : length (looks_at shard ws) ≡ looks
  pub others : (other : ℕ) → (shard == other) ≡ false → looks_at other ws ≡ []
  pub settled : settled_in ws ≡ found_in ws
  pub met : MeetsFaults m n ws

-- one attempt more was told, and is not settled yet
record Seen (shard looks : ℕ) (next : AttemptId) (l m : Met) (ws : List Worked) : Type 0 where
  looking : LooksOn before_all (looks_at shard ws) next
  count : length (looks_at shard ws) ≡ looks + 1
  others : (other : ℕ) → (shard == other) ≡ false → looks_at other ws ≡ []
  found : found_in ws ≡ settled_in ws ++ next ∷ []
  met : MeetsFaults l m ws

module _ {D C : Type 0} (tells : C → ℕ → C → Type 0) (answers : D → D → ℕ → Ask → Reply → Type 0) where
  pub searching_none : (a : Answerer D C) (shard : ℕ) (m : Met) → WorksSo tells answers (Searching shard 0 before_all m m) a a
  searching_none a shard m = record { asked = []; works = working.none a; so = record { looking = working.starts before_all; count = refl; others = λ other elsewhere. refl; settled = refl; met = meets_none m } }

  -- one attempt more is told and settled
  pub searching_more : (a b c d : Answerer D C) (lists : D → Lists) (shard looks : ℕ) (at next : AttemptId) (l m n : Met) (result : Result (Option AttemptId) Refusal) → result ≡ Ok (Some next)
      → WorksSo tells answers (Searching shard looks at l m) a b → LooksBehind tells answers lists shard at b c result → WorksSo tells answers (MeetsSettling next m n) c d → WorksSo tells answers (Searching shard (looks + 1) next l n) a d
  searching_more a b c d lists shard looks at next l m n result is p look settles =
      so_on tells answers (Seen shard looks next l m) (MeetsSettling next m n) (Searching shard (looks + 1) next l n) a c d settled_join (so_one tells answers (Searching shard looks at l m) (Seen shard looks next l m) a b c w seen_join p look.works) settles
    where
      w : Worked
      w = live shard at look.reply

      told : told_by look.reply ≡ Next next
      told = look.told ∙ ap told_in is

      quiet : keep_faults (w ∷ []) ≡ 0
      quiet = look.faults ∙ ap faults_told is

      seen_join : (xs : List Worked) → Searching shard looks at l m xs → Seen shard looks next l m (xs ++ w ∷ [])
      seen_join xs s =
          let read : looks_at shard (xs ++ w ∷ []) ≡ looks_at shard xs ++ record { behind = at; told = Next next } ∷ [] = looks_on shard xs (w ∷ []) ∙ ap (λ (k : List Look). looks_at shard xs ++ k) (look_here shard at look.reply (Next next) told) in
          record {
            looking = subst (λ (k : List Look). LooksOn before_all k next) (sym read) (working.goes_on before_all at next (looks_at shard xs) s.looking);
            count = (let long = ap length read in let more = length-append (looks_at shard xs) (record { behind = at; told = Next next } ∷ []) in let had = s.count in omega (arith, long, more, had));
            others = λ other elsewhere. looks_on other xs (w ∷ []) ∙ nothing_behind (looks_at other xs) (looks_at other (w ∷ [])) (look_there shard other at look.reply elsewhere) ∙ s.others other elsewhere;
            found = found_on xs (w ∷ []) ∙ ap (λ (k : List AttemptId). found_in xs ++ k) (found_next shard at next look.reply told)
                ∙ ap (λ (k : List AttemptId). k ++ next ∷ []) (sym s.settled ∙ sym (settled_on xs (w ∷ []) ∙ append-nil (settled_in xs)));
            met = meets_nothing l m xs (w ∷ []) s.met quiet;
          }

      settled_join : (xs ys : List Worked) → Seen shard looks next l m xs → MeetsSettling next m n ys → Searching shard (looks + 1) next l n (xs ++ ys)
      settled_join xs ys s q =
          let same : (k : ℕ) → looks_at k (xs ++ ys) ≡ looks_at k xs = λ k. looks_on k xs ys ∙ nothing_behind (looks_at k xs) (looks_at k ys) (q.looks k) in
          record {
            looking = subst (λ (k : List Look). LooksOn before_all k next) (sym (same shard)) s.looking;
            count = ap length (same shard) ∙ s.count;
            others = λ other elsewhere. same other ∙ s.others other elsewhere;
            settled = settled_on xs ys ∙ ap (λ (k : List AttemptId). settled_in xs ++ k) q.settled ∙ sym s.found ∙ sym (found_on xs ys ∙ nothing_behind (found_in xs) (found_in ys) q.found);
            met = meets_on l m n xs ys s.met q.met;
          }

  -- the last look tells of no attempt
  ends_join : (lists : D → Lists) (shard looks : ℕ) (at : AttemptId) (l m n : Met) (r : Reply) (told : Told) → told_by r ≡ told → next_of told ≡ None → (xs : List Worked) → Searching shard looks at l m xs
      → MeetsFaults l n (xs ++ live shard at r ∷ []) → SearchesShard shard l n (xs ++ live shard at r ∷ [])
  ends_join lists shard looks at l m n r told is none xs s met =
      let w = live shard at r in
      let read : looks_at shard (xs ++ w ∷ []) ≡ looks_at shard xs ++ record { behind = at; told = told } ∷ [] = looks_on shard xs (w ∷ []) ∙ ap (λ (k : List Look). looks_at shard xs ++ k) (look_here shard at r told is) in
      record {
        searched = subst IsSearched (sym read) (working.to_the_end (looks_at shard xs) at told s.looking none);
        others = λ other elsewhere. looks_on other xs (w ∷ []) ∙ nothing_behind (looks_at other xs) (looks_at other (w ∷ [])) (look_there shard other at r elsewhere) ∙ s.others other elsewhere;
        settled = settled_on xs (w ∷ []) ∙ append-nil (settled_in xs) ∙ s.settled ∙ sym (found_on xs (w ∷ []) ∙ nothing_behind (found_in xs) (found_in (w ∷ [])) (found_none shard at r told is none));
        met = met;
      }

  pub searched_all : (a b c : Answerer D C) (lists : D → Lists) (shard looks : ℕ) (at : AttemptId) (l m : Met) (result : Result (Option AttemptId) Refusal) → next_of (told_in result) ≡ None → faults_told result ≡ 0
      → WorksSo tells answers (Searching shard looks at l m) a b → LooksBehind tells answers lists shard at b c result → WorksSo tells answers (SearchesShard shard l m) a c
  searched_all a b c lists shard looks at l m result none quiet p look =
      so_one tells answers (Searching shard looks at l m) (SearchesShard shard l m) a b c (live shard at look.reply)
      (λ xs s. ends_join lists shard looks at l m m look.reply (told_in result) look.told none xs s (meets_nothing l m xs (live shard at look.reply ∷ []) s.met (look.faults ∙ quiet))) p look.works

  pub searched_refused : (a b c : Answerer D C) (lists : D → Lists) (shard looks : ℕ) (at : AttemptId) (l m : Met) (why : Refusal) → WorksSo tells answers (Searching shard looks at l m) a b
      → LooksBehind tells answers lists shard at b c (Err why) → WorksSo tells answers (SearchesShard shard l (met_with m why)) a c
  searched_refused a b c lists shard looks at l m why p look =
      so_one tells answers (Searching shard looks at l m) (SearchesShard shard l (met_with m why)) a b c (live shard at look.reply)
      (λ xs s. ends_join lists shard looks at l m (met_with m why) look.reply (told_in (Err why)) look.told refl xs s (meets_refusal l m why xs (live shard at look.reply ∷ []) s.met look.faults)) p look.works

  -- a look was refused: the shard isn't there, or the refusal was met
  pub searched_stop : (a b c : Answerer D C) (lists : D → Lists) (shard looks : ℕ) (at : AttemptId) (l m n : Met) (why : Refusal) (there : Bool) → MeetsIfThere why m n there → WorksSo tells answers (Searching shard looks at l m) a b
      → LooksBehind tells answers lists shard at b c (Err why) → WorksSo tells answers (SearchesShard shard l n) a c
  searched_stop a b c lists shard looks at l m n why true is p look = subst (λ (x : Met). WorksSo tells answers (SearchesShard shard l x) a c) (sym is) (searched_refused a b c lists shard looks at l m why p look)
  searched_stop a b c lists shard looks at l m n why false is p look =
      subst (λ (x : Met). WorksSo tells answers (SearchesShard shard l x) a c) (sym is.1) (searched_all a b c lists shard looks at l m (Err why) refl (missing_none why thing.Shard is.0) p look)

  pub searched_on : (a b : Answerer D C) (shard looks : ℕ) (at : AttemptId) (l m : Met) → looks ≡ 2 ^ 64 - 1 → WorksSo tells answers (Searching shard looks at l m) a b → WorksSo tells answers (SearchesShard shard l m) a b
  searched_on a b shard looks at l m all p = record {
    asked = p.asked;
    works = p.works;
    so = record { searched = working.without_end (looks_at shard p.asked) at p.so.looking (p.so.count ∙ all); others = p.so.others; settled = p.so.settled; met = p.so.met };
  }

pub meets_stop : (a b : Lists) (i j : ℕ) (m n : Met) (why : Refusal) (there : Bool) → MeetsIfThere why m n there → KeepsParts a b → i ≤ j → (why ≡ refusal.KeepFault → HasRisen i j) → Meets a b i j m n
meets_stop a b i j m n why true is keeps later rose = subst (λ (x : Met). Meets a b i j m x) (sym is) (meets-refusal a b i j m why keeps later rose)
meets_stop a b i j m n why false is keeps later rose = subst (λ (x : Met). Meets a b i j m x) (sym is.1) (meets-quiet a b i j m keeps later)

pub stop_missing : (m n : Met) (few : Type 0) (why : Refusal) (there : Bool) → MeetsIfThere why m n there → there ≡ false → ((let told : Result (Option AttemptId) Refusal = Err why in told ≡ Err (refusal.Unknown thing.Shard)) → few) → few
stop_missing m n few why true is none missing = absurd cc
stop_missing m n few why false is none missing = missing (ap Err (missing-is why thing.Shard is.0))

-- ---- all shards

-- the shards below one are searched, and nothing was asked of the others
pub record SearchedBelow (shard : ℕ) (m n : Met) (ws : List Worked) : Type 0 where
  pub searched : (k : ℕ) → k < shard → IsSearched (looks_at k ws)
  pub others : (k : ℕ) → shard ≤ k → looks_at k ws ≡ []
  pub settled : settled_in ws ≡ found_in ws
  pub met : MeetsFaults m n ws

module _ (shard : ℕ) (l m n : Met) (xs ys : List Worked) (p : SearchedBelow shard l m xs) (q : SearchesShard shard m n ys) where
  searched_by : (k : ℕ) (e : Bool) → (shard == k) ≡ e → k < shard + 1 → IsSearched (looks_at k (xs ++ ys))
  searched_by k true same within =
      let here : shard ≡ k = eqb-true shard k same in
      subst (λ (j : ℕ). IsSearched (looks_at j (xs ++ ys))) here
      (subst IsSearched (sym (looks_on shard xs ys ∙ nothing_before (looks_at shard xs) (looks_at shard ys) (p.others shard (omega arith)))) q.searched)
  searched_by k false other within =
      let below : k < shard = lower k shard within (eqb-false shard k other) in
      subst IsSearched (sym (looks_on k xs ys ∙ nothing_behind (looks_at k xs) (looks_at k ys) (q.others k other))) (p.searched k below)
    where
      lower : (j next : ℕ) → j < next + 1 → (next ≡ j → ⊥) → j < next
      lower j next last other = grind arith

  above : (k : ℕ) → shard + 1 ≤ k → (shard == k) ≡ false
  above k higher = above-by (shard == k) refl
    where
      above-by : (e : Bool) → (shard == k) ≡ e → e ≡ false
      above-by true same = (let here : shard ≡ k = eqb-true shard k same in absurd (omega (arith, higher, here)))
      above-by false other = refl

  below_join : SearchedBelow (shard + 1) l n (xs ++ ys)
  below_join = record {
    searched = λ k within. searched_by k (shard == k) refl within;
    others = λ k higher. looks_on k xs ys ∙ nothing_behind (looks_at k xs) (looks_at k ys) (q.others k (above k higher)) ∙ p.others k (omega (arith, higher));
    settled = settled_on xs ys ∙ ap (λ (t : List AttemptId). t ++ settled_in ys) p.settled ∙ ap (λ (t : List AttemptId). found_in xs ++ t) q.settled ∙ sym (found_on xs ys);
    met = meets_on l m n xs ys p.met q.met;
  }

module _ {D C : Type 0} (tells : C → ℕ → C → Type 0) (answers : D → D → ℕ → Ask → Reply → Type 0) where
  pub below_none : (a : Answerer D C) (m : Met) → WorksSo tells answers (SearchedBelow 0 m m) a a
  below_none a m = record { asked = []; works = working.none a; so = record { searched = λ k below. absurd (omega (arith, below)); others = λ k above. refl; settled = refl; met = meets_none m } }

  pub below_more : (a b c : Answerer D C) (shard : ℕ) (l m n : Met) → WorksSo tells answers (SearchedBelow shard l m) a b → WorksSo tells answers (SearchesShard shard m n) b c → WorksSo tells answers (SearchedBelow (shard + 1) l n) a c
  below_more a b c shard l m n = so_on tells answers (SearchedBelow shard l m) (SearchesShard shard m n) (SearchedBelow (shard + 1) l n) a b c (λ xs ys p q. below_join shard l m n xs ys p q)

  -- no shard is there that wasn't searched
  pub swept_all : (a b : Answerer D C) (count shard : ℕ) (m n : Met) → count ≤ shard → WorksSo tells answers (SearchedBelow (shard + 1) m n) a b → WorksSo tells answers (MeetsSweeping count m n) a b
  swept_all a b count shard m n few p = record {
    asked = p.asked;
    works = p.works;
    so = record { sweeps = record { searched = λ k there most. p.so.searched k (omega (arith, there, few)); settled = p.so.settled }; met = p.so.met };
  }

  -- as many were searched as a school may have
  pub swept_most : (a b : Answerer D C) (count : ℕ) (m n : Met) → WorksSo tells answers (SearchedBelow (MOST_SHARDS + 1) m n) a b → WorksSo tells answers (MeetsSweeping count m n) a b
  swept_most a b count m n p = record {
    asked = p.asked;
    works = p.works;
    so = record { sweeps = record { searched = λ k there most. p.so.searched k (omega (arith, most)); settled = p.so.settled }; met = p.so.met };
  }

  -- ---- passes

  pub pass_first : (a b c : Answerer D C) (count : ℕ) (n o : Met) → WorksSo tells answers (MeetsQuietly (record { faults = 0; short = false }) n) a b → WorksSo tells answers (MeetsSweeping count n o) b c → WorksSo tells answers (IsPass count o) a c
  pass_first a b c count n o =
      so_on tells answers (MeetsQuietly (record { faults = 0; short = false }) n) (MeetsSweeping count n o) (IsPass count o) a b c
      (λ xs ys p q. record {
        sweeps = record {
          searched = λ k there most. subst IsSearched (sym (looks_on k xs ys ∙ nothing_before (looks_at k xs) (looks_at k ys) (p.quiet.looks k))) (q.sweeps.searched k there most);
          settled = settled_on xs ys ∙ nothing_before (settled_in xs) (settled_in ys) p.quiet.settled ∙ q.sweeps.settled ∙ sym (found_on xs ys ∙ nothing_before (found_in xs) (found_in ys) p.quiet.found);
        };
        met = (let both = faults_on xs ys in let first = p.met in let second = q.met in omega (arith, both, first, second));
      })

  pub pass_more : (a b c : Answerer D C) (count : ℕ) (n o : Met) → WorksSo tells answers (IsPass count n) a b → WorksSo tells answers (MeetsQuietly n o) b c → WorksSo tells answers (IsPass count o) a c
  pass_more a b c count n o =
      so_on tells answers (IsPass count n) (MeetsQuietly n o) (IsPass count o) a b c
      (λ xs ys p q. record {
        sweeps = record {
          searched = λ k there most. subst IsSearched (sym (looks_on k xs ys ∙ nothing_behind (looks_at k xs) (looks_at k ys) (q.quiet.looks k))) (p.sweeps.searched k there most);
          settled = settled_on xs ys ∙ nothing_behind (settled_in xs) (settled_in ys) q.quiet.settled ∙ p.sweeps.settled ∙ sym (found_on xs ys ∙ nothing_behind (found_in xs) (found_in ys) q.quiet.found);
        };
        met = (let both = faults_on xs ys in let first = p.met in let second = q.met in omega (arith, both, first, second));
      })

  -- a pass over lists that have as many shards
  pub pass_counted : (a b : Answerer D C) (count other : ℕ) (m : Met) → other ≡ count → WorksSo tells answers (IsPass count m) a b → WorksSo tells answers (IsPass other m) a b
  pass_counted a b count other m same p = subst (λ (n : ℕ). WorksSo tells answers (IsPass n m) a b) (sym same) p

  -- ---- passes one after the other

  passes_follow : (lists : D → Lists) (a b : Answerer D C) → MakesPasses tells answers lists a b → Follows answers a.desk b.desk
  passes_follow lists a _ (loops.none _) = stays a.desk
  passes_follow lists a b (loops.more _ m _ ws before one sweeps) = follows_on answers a.desk m.desk b.desk (passes_follow lists a m before) (works_follow tells answers m b ws one)

  -- they lead on by requests alone
  pub regrades_follow : (lists : D → Lists) (a b : Answerer D C) (end : LoopEnd) → Regrades tells answers lists a b end → Follows answers a.desk b.desk
  regrades_follow lists a b end r = follows_on answers a.desk r.between.desk b.desk (passes_follow lists a r.between r.before) (works_follow tells answers r.between b r.last r.works)

-- how it ended
pub ended_by : (m : Met) (end : LoopEnd) (ws : List Worked) → MetEnds m end → counts_to m.faults ≡ counts_to (keep_faults ws) → EndsBy end ws
ended_by m ends.Done ws is met = (let clean = is.0 in omega (arith, clean, met))
ended_by m (ends.Left faults) ws is met = (let same = is.0 in let within = is.2 in omega (arith, same, within, met))
ended_by m ends.Short ws is met = (let clean = is.0 in omega (arith, clean, met))
