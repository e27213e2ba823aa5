-- What requests of a worker come to, one part after the other.
use Rattle.std.proofs.Common.{◌≡◌, ℕ, ◌+◌, true, List, [], ◌∷◌, ◌++◌, Some, length, refl, sym, ap, ◌∙◌, subst, append-nil, append_assoc, length-append, arith}
use Rattle.std.specs.Prelude.{filter}
use Rattle.std.proofs.lemmas.List.Elements.{filter-append, filter_map-append}
use Rattle.qz_asking.specs.Asking.{Answerer, Asks}
use Rattle.qz_asking.specs.Following.{Follows, asked, stays}
use Rattle.qz_grading.specs.declared.refusal.AttemptId.{AttemptId}
use Rattle.qz_grading.specs.declared.refusal.Refusal.{Refusal}
use Rattle.qz_grading.specs.declared.refusal.Refusal.TheVariants as refusal
use Rattle.qz_grading.specs.declared.refusal.Thing.{Thing}
use Rattle.qz_terms.specs.declared.ask.Ask.{Ask}
use Rattle.qz_terms.specs.declared.reply.Done.{Done}
use Rattle.qz_terms.specs.declared.reply.Reply.{Reply}
use Rattle.qz_terms.specs.declared.reply.Reply.TheVariants as reply
use Rattle.qz_terms.specs.declared.request.Request.{Request}
use Rattle.qz_terms.specs.declared.request.Request.TheVariants as request
use Rattle.qz_terms.specs.Catalog.{worker}
use Rattle.qz_terms.specs.Cause.{may_ask}
use Rattle.qz_regrading.specs.declared.met.Met.{Met}
use Rattle.qz_regrading.specs.Parts.{IsQuiet, IsWork, MeetsFaults, MeetsQuietly, MeetsSettling, faults_of}
use Rattle.qz_regrading.specs.Passes.{met_with, missing_thing}
use Rattle.qz_regrading.specs.Workers.{worker_asks}
use Rattle.qz_regrading.specs.Working.{IsSearched, Look, LooksOn, Next, NoMore, Nothing, Sweeps, Told, Worked, Works, WorksSo, before_all, counts_to, found_by, found_in, is_keep_fault, keep_faults, look_by, looks_at, next_of, settled_by, settled_in, told_by}
use Rattle.qz_regrading.specs.Working as working

-- ---- what is read of requests, one list behind another

pub looks_on : (shard : ℕ) (xs ys : List Worked) → looks_at shard (xs ++ ys) ≡ looks_at shard xs ++ looks_at shard ys
looks_on shard xs ys = filter_map-append (λ (w : Worked). look_by shard w.request w.reply) xs ys

pub found_on : (xs ys : List Worked) → found_in (xs ++ ys) ≡ found_in xs ++ found_in ys
found_on xs ys = filter_map-append (λ (w : Worked). found_by w.request w.reply) xs ys

pub settled_on : (xs ys : List Worked) → settled_in (xs ++ ys) ≡ settled_in xs ++ settled_in ys
settled_on xs ys = filter_map-append (λ (w : Worked). settled_by w.request) xs ys

pub faults_on : (xs ys : List Worked) → keep_faults (xs ++ ys) ≡ keep_faults xs + keep_faults ys
faults_on xs ys =
    let failed = λ (w : Worked). is_keep_fault w.reply in
    ap length (filter-append failed xs ys) ∙ length-append (filter failed xs) (filter failed ys)

none_on : {A : Type 0} (xs ys : List A) → xs ≡ [] → ys ≡ [] → xs ++ ys ≡ []
none_on xs ys first second = ap (λ (l : List _). l ++ ys) first ∙ second

behind_none : {A : Type 0} (xs ys : List A) → ys ≡ [] → xs ++ ys ≡ xs
behind_none xs ys second = ap (λ (l : List _). xs ++ l) second ∙ append-nil xs

pub quiet_on : (xs ys : List Worked) → IsQuiet xs → IsQuiet ys → IsQuiet (xs ++ ys)
quiet_on xs ys p q = record {
  looks = λ shard. looks_on shard xs ys ∙ none_on (looks_at shard xs) (looks_at shard ys) (p.looks shard) (q.looks shard);
  found = found_on xs ys ∙ none_on (found_in xs) (found_in ys) p.found q.found;
  settled = settled_on xs ys ∙ none_on (settled_in xs) (settled_in ys) p.settled q.settled;
}

pub meets_on : (l m n : Met) (xs ys : List Worked) → MeetsFaults l m xs → MeetsFaults m n ys → MeetsFaults l n (xs ++ ys)
meets_on l m n xs ys p q = (let both = faults_on xs ys in omega (arith, p, q, both))

pub meets_none : (m : Met) → MeetsFaults m m []
meets_none m = (let same : m.faults ≡ m.faults + 0 = omega arith in ap counts_to same)

-- a refusal is met
pub meets_refusal : (m n : Met) (why : Refusal) (xs ys : List Worked) → MeetsFaults m n xs → keep_faults ys ≡ faults_of why → MeetsFaults m (met_with n why) (xs ++ ys)
meets_refusal m n refusal.KeepFault xs ys p failed = (let both = faults_on xs ys in omega (arith, p, failed, both))
meets_refusal m n why xs ys p failed = (let both = faults_on xs ys in omega (arith, p, failed, both))

pub meets_nothing : (m n : Met) (xs ys : List Worked) → MeetsFaults m n xs → keep_faults ys ≡ 0 → MeetsFaults m n (xs ++ ys)
meets_nothing m n xs ys p none = (let both = faults_on xs ys in omega (arith, p, none, both))

refused_one : (x : Request) (why : Refusal) → keep_faults (record { request = x; reply = reply.Refused why } ∷ []) ≡ faults_of why
refused_one x refusal.KeepFault = refl
refused_one x why = refl

pub missing_none : (why : Refusal) (what : Thing) → missing_thing why ≡ Some what → faults_of why ≡ 0
missing_none refusal.KeepFault what is = absurd cc
missing_none why what is = refl

-- ---- requests, one after the other

module _ {D C : Type 0} (tells : C → ℕ → C → Type 0) (answers : D → D → ℕ → Ask → Reply → Type 0) where
  pub works_on : (a b c : Answerer D C) (xs ys : List Worked) → Works tells answers a xs b → Works tells answers b ys c → Works tells answers a (xs ++ ys) c
  works_on a b _ xs _ first (working.none _) = subst (λ (l : List Worked). Works tells answers a l b) (sym (append-nil xs)) first
  works_on a b c xs _ first (working.more _ m _ ys w rest may one) =
      subst (λ (l : List Worked). Works tells answers a l c) (append_assoc xs ys (w ∷ [])) (working.more a m c (xs ++ ys) w (works_on a b m xs ys first rest) may one)

  pub works_one : (a b : Answerer D C) (w : Worked) → may_ask worker w.request ≡ true → Asks tells answers a b (worker_asks w.request) w.reply → Works tells answers a (w ∷ []) b
  works_one a b w may one = working.more a a b [] w (working.none a) may one

  -- they lead from one desk to another
  pub works_follow : (a b : Answerer D C) (ws : List Worked) → Works tells answers a ws b → Follows answers a.desk b.desk
  works_follow a _ _ (working.none _) = stays a.desk
  works_follow a b _ (working.more _ m _ ws w before may one) = asked a.desk m.desk b.desk _ (worker_asks w.request) w.reply (works_follow a m ws before) one.answered

  pub so_on : (P Q R : List Worked → Type 0) (a b c : Answerer D C) → ((xs ys : List Worked) → P xs → Q ys → R (xs ++ ys)) → WorksSo tells answers P a b → WorksSo tells answers Q b c → WorksSo tells answers R a c
  so_on P Q R a b c join p q = record { asked = p.asked ++ q.asked; works = works_on a b c p.asked q.asked p.works q.works; so = join p.asked q.asked p.so q.so }

  pub so_one : (P R : List Worked → Type 0) (a b c : Answerer D C) (w : Worked) → ((xs : List Worked) → P xs → R (xs ++ w ∷ [])) → WorksSo tells answers P a b → Works tells answers b (w ∷ []) c → WorksSo tells answers R a c
  so_one P R a b c w join p one = record { asked = p.asked ++ w ∷ []; works = works_on a b c p.asked (w ∷ []) p.works one; so = join p.asked p.so }

  pub so_other : (P R : List Worked → Type 0) (a b : Answerer D C) → ((xs : List Worked) → P xs → R xs) → WorksSo tells answers P a b → WorksSo tells answers R a b
  so_other P R a b weaker p = record { asked = p.asked; works = p.works; so = weaker p.asked p.so }

  -- ---- work

  pub work_none : (a : Answerer D C) → WorksSo tells answers (IsWork 0) a a
  work_none a = record { asked = []; works = working.none a; so = record { quiet = record { looks = λ shard. refl; found = refl; settled = refl }; faults_are = refl } }

  pub work_one : (a b c : Answerer D C) (job shard : ℕ) (r : Reply) (faults : ℕ) → keep_faults (record { request = request.Work job shard; reply = r } ∷ []) ≡ faults → WorksSo tells answers (IsWork 0) a b
      → Works tells answers b (record { request = request.Work job shard; reply = r } ∷ []) c → WorksSo tells answers (IsWork faults) a c
  work_one a b c job shard r faults are p one = so_one (IsWork 0) (IsWork faults) a b c w (λ xs is. record { quiet = quiet_on xs (w ∷ []) is.quiet silent; faults_are = (let both = faults_on xs (w ∷ []) in let none = is.faults_are in omega (arith, both, none, are)) }) p one
    where
      w : Worked
      w = record { request = request.Work job shard; reply = r }

      silent : IsQuiet (w ∷ [])
      silent = record { looks = λ k. refl; found = refl; settled = refl }

  pub work_answered : (a b c : Answerer D C) (job shard place : ℕ) (d : Done) → WorksSo tells answers (IsWork 0) a b → Works tells answers b (record { request = request.Work job shard; reply = reply.Ok place d } ∷ []) c
      → WorksSo tells answers (IsWork 0) a c
  work_answered a b c job shard place d p one = work_one a b c job shard (reply.Ok place d) 0 refl p one

  pub work_refused : (a b c : Answerer D C) (job shard : ℕ) (why : Refusal) → WorksSo tells answers (IsWork 0) a b → Works tells answers b (record { request = request.Work job shard; reply = reply.Refused why } ∷ []) c
      → WorksSo tells answers (IsWork (faults_of why)) a c
  work_refused a b c job shard why p one = work_one a b c job shard (reply.Refused why) (faults_of why) (refused_one (request.Work job shard) why) p one

  pub work_more : (a b c : Answerer D C) (faults : ℕ) → WorksSo tells answers (IsWork 0) a b → WorksSo tells answers (IsWork faults) b c → WorksSo tells answers (IsWork faults) a c
  work_more a b c faults = so_on (IsWork 0) (IsWork faults) (IsWork faults) a b c (λ xs ys p q. record { quiet = quiet_on xs ys p.quiet q.quiet; faults_are = (let both = faults_on xs ys in let none = p.faults_are in let some = q.faults_are in omega (arith, both, none, some)) })

  -- ---- the walk

  pub quietly_none : (a : Answerer D C) (m : Met) → WorksSo tells answers (MeetsQuietly m m) a a
  quietly_none a m = record { asked = []; works = working.none a; so = record { quiet = record { looks = λ shard. refl; found = refl; settled = refl }; met = meets_none m } }

  pub quietly_refused : (a b c : Answerer D C) (m n : Met) (why : Refusal) → WorksSo tells answers (MeetsQuietly m n) a b → WorksSo tells answers (IsWork (faults_of why)) b c → WorksSo tells answers (MeetsQuietly m (met_with n why)) a c
  quietly_refused a b c m n why = so_on (MeetsQuietly m n) (IsWork (faults_of why)) (MeetsQuietly m (met_with n why)) a b c (λ xs ys p q. record { quiet = quiet_on xs ys p.quiet q.quiet; met = meets_refusal m n why xs ys p.met q.faults_are })

  pub quietly_missing : (a b c : Answerer D C) (m n : Met) (why : Refusal) (what : Thing) → missing_thing why ≡ Some what → WorksSo tells answers (MeetsQuietly m n) a b → WorksSo tells answers (IsWork (faults_of why)) b c
      → WorksSo tells answers (MeetsQuietly m n) a c
  quietly_missing a b c m n why what is =
      so_on (MeetsQuietly m n) (IsWork (faults_of why)) (MeetsQuietly m n) a b c (λ xs ys p q. record { quiet = quiet_on xs ys p.quiet q.quiet; met = meets_nothing m n xs ys p.met (q.faults_are ∙ missing_none why what is) })

  -- ---- single requests that are met

  settling : AttemptId → Reply → Worked
  settling attempt r = record { request = request.Settle attempt; reply = r }

  pub settled_one : (a b : Answerer D C) (attempt : AttemptId) (m : Met) (place : ℕ) (d : Done) → Works tells answers a (record { request = request.Settle attempt; reply = reply.Ok place d } ∷ []) b
      → WorksSo tells answers (MeetsSettling attempt m m) a b
  settled_one a b attempt m place d one = record { asked = record { request = request.Settle attempt; reply = reply.Ok place d } ∷ []; works = one; so = record { looks = λ shard. refl; found = refl; settled = refl; met = meets_none m } }

  pub settled_refused : (a b : Answerer D C) (attempt : AttemptId) (m : Met) (why : Refusal) → Works tells answers a (record { request = request.Settle attempt; reply = reply.Refused why } ∷ []) b
      → WorksSo tells answers (MeetsSettling attempt m (met_with m why)) a b
  settled_refused a b attempt m why one = record {
    asked = record { request = request.Settle attempt; reply = reply.Refused why } ∷ [];
    works = one;
    so = record { looks = λ shard. refl; found = refl; settled = refl; met = meets_refusal m m why [] (record { request = request.Settle attempt; reply = reply.Refused why } ∷ []) (meets_none m) (refused_one (request.Settle attempt) why) };
  }

  pub counted_one : (a b : Answerer D C) (m n : Met) (place : ℕ) (d : Done) → n.faults ≡ m.faults → Works tells answers a (record { request = request.Jobs; reply = reply.Ok place d } ∷ []) b → WorksSo tells answers (MeetsQuietly m n) a b
  counted_one a b m n place d same one =
      record { asked = record { request = request.Jobs; reply = reply.Ok place d } ∷ []; works = one; so = record { quiet = record { looks = λ shard. refl; found = refl; settled = refl }; met = ap counts_to same ∙ meets_none m } }

  pub counted_refused : (a b : Answerer D C) (m : Met) (why : Refusal) → Works tells answers a (record { request = request.Jobs; reply = reply.Refused why } ∷ []) b → WorksSo tells answers (MeetsQuietly m (met_with m why)) a b
  counted_refused a b m why one = record {
    asked = record { request = request.Jobs; reply = reply.Refused why } ∷ [];
    works = one;
    so = record { quiet = record { looks = λ shard. refl; found = refl; settled = refl }; met = meets_refusal m m why [] (record { request = request.Jobs; reply = reply.Refused why } ∷ []) (meets_none m) (refused_one request.Jobs why) };
  }
