-- What a pass has met, one part after the other.
use Rattle.std.proofs.Common.{◌≡◌, ℕ, ◌+◌, ◌<◌, ◌≤◌, min, Bool, true, false, length, Some, refl, sym, ap, subst, eqb, ltb, eqb-true, ltb-true, ltb-false, true≢false, arith}
use Rattle.std.proofs.lemmas.Bool.{eqb-false}
use Rattle.qz_grading.specs.declared.refusal.Refusal.{Refusal}
use Rattle.qz_grading.specs.declared.refusal.Refusal.TheVariants as refusal
use Rattle.qz_grading.specs.declared.refusal.Thing.{Thing}
use Rattle.qz_grading.specs.declared.refusal.Thing.TheVariants as thing
use Rattle.qz_outside.specs.Causes.{HasRisen, counted}
use Rattle.qz_terms.specs.Catalog.{jobs}
use Rattle.qz_terms.specs.History.{is_done}
use Rattle.qz_terms.specs.Serial.{Lists, part_list}
use Rattle.qz_regrading.specs.declared.met.Met.{Met}
use Rattle.qz_regrading.specs.Loops.{AllDone}
use Rattle.qz_regrading.specs.Passes.{AreDone, AreDoneBefore, AreDoneInAll, IsClean, IsRefused, Meets, PassEnds, met_with, missing_thing}
use Rattle.qz_regrading.specs.Workers.{KeepsParts}
use Rattle.qz_regrading.proofs.Keeping.{done-kept, keeps-more, keeps-same}

-- ---- one part after the other

pub meets-none : (a : Lists) (n : ℕ) (m : Met) → Meets a a n n m m
meets-none a n m = record { keeps = keeps-same a; later = omega arith; faults = λ below. omega arith; clean = λ c. c }

pub meets-more : (a b c : Lists) (i j k : ℕ) (m n o : Met) → Meets a b i j m n → Meets b c j k n o → Meets a c i k m o
meets-more a b c i j k m n o f g = record {
  keeps = keeps-more a b c f.keeps g.keeps;
  later = omega (arith, f.later, g.later);
  faults = λ below. omega (arith, f.faults (omega (arith, g.later, below)), g.faults below, f.later, g.later);
  clean = λ clean. f.clean (g.clean clean);
}

-- requests that met nothing
pub meets-quiet : (a b : Lists) (i j : ℕ) (m : Met) → KeepsParts a b → i ≤ j → Meets a b i j m m
meets-quiet a b i j m keeps later = record { keeps = keeps; later = later; faults = λ below. omega (arith, later); clean = λ c. c }

-- with a refusal nothing is clean
pub unclean : (m : Met) (why : Refusal) → IsClean (met_with m why) → ⊥
unclean m refusal.KeepFault c = absurd (omega (arith, c.0))
unclean m why c = absurd (true≢false c.1)

-- a refusal is met
pub meets-refusal : (a b : Lists) (i j : ℕ) (m : Met) (why : Refusal) → KeepsParts a b → i ≤ j → (why ≡ refusal.KeepFault → HasRisen i j) → Meets a b i j m (met_with m why)
meets-refusal a b i j m refusal.KeepFault keeps later risen = record {
  keeps = keeps;
  later = later;
  faults = λ below. (let more : i < j = risen refl below in omega (arith, more));
  clean = λ c. absurd (unclean m refusal.KeepFault c);
}
meets-refusal a b i j m why keeps later risen = record { keeps = keeps; later = later; faults = λ below. omega (arith, later); clean = λ c. absurd (true≢false c.1) }

-- ---- jobs that are done

pub none-done : (a : Lists) (shard from next : ℕ) → next ≤ from → AreDone a shard from next
none-done a shard from next none = record { done = λ job first last. absurd (omega (arith, none, first, last)) }

pub done-still : (a b : Lists) (shard from next : ℕ) → KeepsParts a b → AreDone a shard from next → AreDone b shard from next
done-still a b shard from next keeps d = record { done = λ job first last. done-kept a b shard job keeps (d.done job first last) }

-- one job more is done
done-by : (a b : Lists) (shard from next job : ℕ) (e : Bool) → eqb job next ≡ e → KeepsParts a b → AreDone a shard from next → is_done (part_list b shard) next ≡ true → from ≤ job → job < next + 1 → is_done (part_list b shard) job ≡ true
done-by a b shard from next job true same keeps d one first last = subst (λ (j : ℕ). is_done (part_list b shard) j ≡ true) (sym (eqb-true job next same)) one
done-by a b shard from next job false other keeps d one first last = done-kept a b shard job keeps (d.done job first (below job next last (eqb-false job next other)))
  where
    below : (job next : ℕ) → job < next + 1 → (job ≡ next → ⊥) → job < next
    below job next last other = grind arith

pub done-more : (a b : Lists) (shard from next : ℕ) → KeepsParts a b → AreDone a shard from next → is_done (part_list b shard) next ≡ true → AreDone b shard from (next + 1)
done-more a b shard from next keeps d one = record { done = λ job first last. done-by a b shard from next job (eqb job next) refl keeps d one first last }

-- ---- in each shard

pub before-none : (a : Lists) (from next : ℕ) → AreDoneBefore a 0 from next
before-none a from next = record { done = λ shard before there. absurd (omega (arith, before)) }

pub before-still : (a b : Lists) (shards from next : ℕ) → KeepsParts a b → AreDoneBefore a shards from next → AreDoneBefore b shards from next
before-still a b shards from next keeps d = record { done = λ shard before there. done-still a b shard from next keeps (d.done shard before (subst (λ (n : ℕ). shard < n) keeps.count there)) }

pub before-fewer : (a : Lists) (shards from next least : ℕ) → least ≤ next → AreDoneBefore a shards from next → AreDoneBefore a shards from least
before-fewer a shards from next least fewer d = record { done = λ shard before there. record { done = λ job first last. (d.done shard before there).done job first (omega (arith, last, fewer)) } }

-- one shard more
before-by : (a : Lists) (shards from least shard : ℕ) (e : Bool) → eqb shard shards ≡ e → AreDoneBefore a shards from least → AreDone a shards from least → shard < shards + 1 → shard < length a.parts → AreDone a shard from least
before-by a shards from least shard true same d one before there = subst (λ (k : ℕ). AreDone a k from least) (sym (eqb-true shard shards same)) one
before-by a shards from least shard false other d one before there = d.done shard (less shard shards before (eqb-false shard shards other)) there
  where
    less : (job next : ℕ) → job < next + 1 → (job ≡ next → ⊥) → job < next
    less job next last other = grind arith

pub before-more : (a b : Lists) (shards from next end : ℕ) → KeepsParts a b → AreDoneBefore a shards from next → AreDone b shards from end → AreDoneBefore b (shards + 1) from (min next end)
before-more a b shards from next end keeps d one = record {
  done = λ shard before there. before-by b shards from (min next end) shard (eqb shard shards) refl
      (before-fewer b shards from next (min next end) (omega arith) (before-still a b shards from next keeps d))
      (record { done = λ job first last. one.done job first (omega (arith, last)) }) before there;
}

pub all-missing : (a : Lists) (shards from next : ℕ) → length a.parts ≤ shards → AreDoneBefore a shards from next → AreDoneInAll a from next
all-missing a shards from next missing d = record { done = λ shard before there. d.done shard (omega (arith, missing, there)) there }

-- jobs up to one, and those from there on
joined-by : (a : Lists) (shard from mid next job : ℕ) (e : Bool) → ltb job mid ≡ e → AreDone a shard from mid → AreDone a shard mid next → from ≤ job → job < next → is_done (part_list a shard) job ≡ true
joined-by a shard from mid next job true less d more first last = d.done job first (ltb-true job mid less)
joined-by a shard from mid next job false other d more first last = more.done job (ltb-false job mid other) last

pub all-joined : (a b : Lists) (from mid next : ℕ) → KeepsParts a b → AreDoneInAll a from mid → AreDoneInAll b mid next → AreDoneInAll b from next
all-joined a b from mid next keeps d more = record {
  done = λ shard before there. record {
    done = λ job first last.
        joined-by b shard from mid next job (ltb job mid) refl (done-still a b shard from mid keeps (d.done shard (subst (λ (n : ℕ). shard < n) keeps.count there) (subst (λ (n : ℕ). shard < n) keeps.count there))) (more.done shard there there) first last;
  };
}

-- all that are counted
pub all-done : (a : Lists) (count next : ℕ) → count ≡ length (jobs a.records.list) → count < next → AreDoneInAll a 1 next → AllDone a
all-done a count next counts fewer d = record { done = λ job shard first last there. (d.done shard there there).done job first (omega (arith, counts, fewer, last)) }

-- ---- the walk over the shards

-- how far it came
pub record IsWalked (a b : Lists) (i j : ℕ) (m n : Met) (shards from next : ℕ) : Type 0 where
  pub meets : Meets a b i j m n
  pub done : IsClean n → AreDoneBefore b shards from next

-- the jobs of one shard more are done
pub walked-job : (a b c : Lists) (i j k : ℕ) (m n : Met) (shards from next end : ℕ) → IsWalked a b i j m n shards from next → KeepsParts b c → j ≤ k → AreDone c shards from end → IsWalked a c i k m n (shards + 1) from (min next end)
walked-job a b c i j k m n shards from next end w keeps later one = record {
  meets = meets-more a b c i j k m n n w.meets (meets-quiet b c j k n keeps later);
  done = λ clean. before-more b c shards from next end keeps (w.done clean) one;
}

-- work in one shard more was refused
pub walked-refused : (a b c : Lists) (i j k : ℕ) (m n : Met) (shards from next : ℕ) (why : Refusal) → IsWalked a b i j m n shards from next → KeepsParts b c → j ≤ k → (why ≡ refusal.KeepFault → HasRisen j k) → IsWalked a c i k m (met_with n why) (shards + 1) from next
walked-refused a b c i j k m n shards from next why w keeps later risen = record {
  meets = meets-more a b c i j k m n (met_with n why) w.meets (meets-refusal b c j k n why keeps later risen);
  done = λ clean. absurd (unclean n why clean);
}

pub missing-is : (why : Refusal) (what : Thing) → missing_thing why ≡ Some what → why ≡ refusal.Unknown what
missing-is (refusal.Unknown thing) what is = (let same : thing ≡ what = cc in ap refusal.Unknown same)
missing-is why what is = absurd cc

-- the shard isn't there
pub walked-all : (a b c : Lists) (i j k : ℕ) (m n : Met) (shards from next : ℕ) (why : Refusal) → IsWalked a b i j m n shards from next → KeepsParts b c → IsRefused c j k shards why
    → missing_thing why ≡ Some thing.Shard → IsClean n → AreDoneInAll c from next
walked-all a b c i j k m n shards from next why w keeps refused is clean = all-missing c shards from next (refused.missing (missing-is why thing.Shard is)) (before-still b c shards from next keeps (w.done clean))

-- ---- passes

still-all : (a b : Lists) (from next : ℕ) → KeepsParts a b → AreDoneInAll a from next → AreDoneInAll b from next
still-all a b from next keeps d = subst (λ (count : ℕ). AreDoneBefore b count from next) (sym keeps.count) (before-still a b (length a.parts) from next keeps d)

-- how far a pass came
pub record IsPassed (a b : Lists) (i j : ℕ) (n : Met) (next : ℕ) : Type 0 where
  pub meets : Meets a b i j (record { faults = 0; short = false }) n
  pub done : IsClean n → AreDoneInAll b 1 next

pub passed-first : (a b c : Lists) (i j k : ℕ) (n o : Met) (next : ℕ) → Meets a b i j (record { faults = 0; short = false }) n → (IsClean n → AreDoneInAll b 1 next) → Meets b c j k n o → IsPassed a c i k o next
passed-first a b c i j k n o next walked done swept = record {
  meets = meets-more a b c i j k _ n o walked swept;
  done = λ clean. still-all b c 1 next swept.keeps (done (swept.clean clean));
}

-- the jobs that were counted anew are done
pub passed-more : (a b c d : Lists) (i j k l : ℕ) (n o p : Met) (next mid : ℕ) → IsPassed a b i j n mid → Meets b c j k n o → Meets c d k l o p → (IsClean p → AreDoneInAll d mid next) → IsPassed a d i l p next
passed-more a b c d i j k l n o p next mid s counted walked done = record {
  meets = meets-more a c d i k l _ o p (meets-more a b c i j k _ n o s.meets counted) walked;
  done = λ clean. all-joined b d 1 mid next (keeps-more b c d counted.keeps walked.keeps) (s.done (counted.clean (walked.clean clean))) (done clean);
}

ends-by : (a b : Lists) (i j : ℕ) (n : Met) → Meets a b i j (record { faults = 0; short = false }) n → (IsClean n → AllDone b) → PassEnds b i j n
ends-by a b i j n m done = record { later = m.later; faults = λ below. omega (arith, m.faults below); done = done }

-- no more jobs are there than are done
pub passed-all : (a b c : Lists) (i j k : ℕ) (n o : Met) (next count : ℕ) → IsPassed a b i j n next → Meets b c j k n o → count ≡ length (jobs c.records.list) → count < next → PassEnds c i k o
passed-all a b c i j k n o next count s counted is fewer =
    ends-by a c i k o (meets-more a b c i j k _ n o s.meets counted) (λ clean. all-done c count next is fewer (still-all b c 1 next counted.keeps (s.done (counted.clean clean))))
