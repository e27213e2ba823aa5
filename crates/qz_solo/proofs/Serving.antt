-- How a school serves a user with a token, by what its calls at single lists came to.
use Rattle.std.proofs.Common.{◌≡◌, ◌⊎◌, inl, inr, ℕ, ◌%◌, true, false, List, Some, None, Result, Ok, Err, MatchResult, length, refl, sym, ap, ◌∙◌, subst}
use Rattle.std.specs.Prelude.{slice_get, slice_set}
use Rattle.qz_catalog.specs.Keeping as records
use Rattle.qz_grading.specs.declared.refusal.Refusal.{Refusal}
use Rattle.qz_grading.specs.declared.refusal.Refusal.TheVariants as refusal
use Rattle.qz_keeper.specs.Lists.{Looks, OneCall}
use Rattle.qz_keeper.specs.Recording.{GoesOn, HasFailed}
use Rattle.qz_shard.specs.Keeping as part
use Rattle.qz_terms.specs.declared.ask.Ask.{Ask}
use Rattle.qz_terms.specs.declared.people.Caller.TheVariants as caller
use Rattle.qz_terms.specs.declared.people.User.{User}
use Rattle.qz_terms.specs.declared.record.Record.{Record}
use Rattle.qz_terms.specs.declared.reply.Reply.{Reply}
use Rattle.qz_terms.specs.declared.reply.Reply.TheVariants as reply
use Rattle.qz_terms.specs.declared.request.Request.{Request}
use Rattle.qz_terms.specs.declared.request.Request.TheVariants as request
use Rattle.qz_terms.specs.Answer.{named_user}
use Rattle.qz_terms.specs.CatalogAnswer.{asks_catalog}
use Rattle.qz_terms.specs.SchoolAnswer.{first_refusal, part_of, refusal_among}
use Rattle.qz_terms.specs.Serial.{Asks, Held, Lists, Mended, reads_catalog, stays}
use Rattle.qz_serial.specs.Calls.{CatalogAnswers, ShardAnswers}
use Rattle.qz_serial.specs.Once.{AskedOnce}
use Rattle.qz_serial.specs.Paths.{FindsUser, IsAskable, IsGoing, IsKnown, goes_to_part, with_records}
use Rattle.qz_serial.proofs.Acting.{asked_once, token_reads}
use Rattle.qz_serial.proofs.Composing.{calls_mean, mended_same}
use Rattle.qz_serial.proofs.Tokens.{tokens_law}
use Rattle.qz_school.specs.Answering.{IsServed, MayBeAsked, PartAnswers, PartTells, Serves}
use Rattle.qz_school.specs.Planning.{asks_shard}
use Rattle.qz_school.specs.Solos.{Fails, IsSolo, School, held_of, lists_in}
use Rattle.qz_school.proofs.Keepers.{call_blames, fails_part, fails_records, fails_then, go_both, go_none, go_part, go_records}
use Rattle.qz_solo.proofs.Standing.{count_held, held_there, lists_both}

pub askable : {K : Type 0} (c : records.Keeping K) (ss : List (part.Keeping K)) (ask : Ask) (now : ℕ) → IsSolo c ss → MayBeAsked ask now → let a : School K = record { catalog = c; parts = ss } in IsAskable (lists_in a) ask
askable c ss ask now solo may = record { shards = rw (count_held ss) solo.some; keyed = may.keyed }

-- ---- the user

-- what a catalogue did
pub record RecordsAnswer {K A : Type 0} (sound : K → Type 0) (faults : K → ℕ) (refused : Refusal → A) (Answers : List Record → A → List Record → Type 0) (c d : records.Keeping K) (told : A) : Type 0 where
  pub call : OneCall (HasFailed (sound c.keeper) (faults c.keeper) (faults d.keeper)) refused Answers c.held d.held told
  pub goes_on : GoesOn (sound c.keeper) (sound d.keeper) (faults c.keeper) (faults d.keeper)

user-told : {K : Type 0} (sound : K → Type 0) (faults : K → ℕ) (c d : records.Keeping K) (ss : List (part.Keeping K)) (now : ℕ) (ask : Ask) (token : List ℕ) (told : Result User Refusal) → IsSolo c ss → MayBeAsked ask now → ask.caller ≡ caller.Token token
    → RecordsAnswer sound faults (λ r. Err r) (Looks (FindsUser token)) c d told
    → let a : School K = record { catalog = c; parts = ss } in let b : School K = record { catalog = d; parts = ss } in
    MatchResult told (IsKnown (lists_in a) d.held ask) (λ r. AskedOnce (Fails sound faults a b) (lists_in a) (lists_in b) now ask (reply.Refused r))
user-told sound faults c d ss now ask token told solo may by call =
    let a : School _ = record { catalog = c; parts = ss } in
    let b : School _ = record { catalog = d; parts = ss } in
    let failed = HasFailed (sound c.keeper) (faults c.keeper) (faults d.keeper) in
    (tokens_law (Fails sound faults a b)).user (lists_in a) d.held now ask token told (askable c ss ask now solo may) by
    (call_blames failed (Fails sound faults a b) (λ r. Err r) (Looks (FindsUser token)) (Looks (FindsUser token)) c.held d.held told (fails_records sound faults c d ss) (λ h t g is. is) call.call)

pub user_untold : {K : Type 0} (sound : K → Type 0) (faults : K → ℕ) (c d : records.Keeping K) (ss : List (part.Keeping K)) (now : ℕ) (ask : Ask) (token : List ℕ) (r : Refusal) → IsSolo c ss → MayBeAsked ask now → ask.caller ≡ caller.Token token
    → RecordsAnswer sound faults (λ r. Err r) (Looks (FindsUser token)) c d (Err r) → IsServed sound faults (record { catalog = c; parts = ss }) (record { catalog = d; parts = ss }) now ask (reply.Refused r)
user_untold sound faults c d ss now ask token r solo may by call = record { once = user-told sound faults c d ss now ask token (Err r) solo may by call; goes_on = go_records sound faults c d ss call.goes_on }

pub user_known : {K : Type 0} (sound : K → Type 0) (faults : K → ℕ) (c d : records.Keeping K) (ss : List (part.Keeping K)) (now : ℕ) (ask : Ask) (token : List ℕ) (user : User) → IsSolo c ss → MayBeAsked ask now → ask.caller ≡ caller.Token token
    → RecordsAnswer sound faults (λ r. Err r) (Looks (FindsUser token)) c d (Ok user) → let a : School K = record { catalog = c; parts = ss } in IsKnown (lists_in a) d.held ask user
user_known sound faults c d ss now ask token user solo may by call = user-told sound faults c d ss now ask token (Ok user) solo may by call

-- over the catalogue that was mended
pub known_here : (a : Lists) (ps : List Held) (m : Held) (ask : Ask) (user : User) → IsKnown a m ask user → IsKnown (record { records = m; parts = ps }) m ask user
known_here a ps m ask user known = record { token = known.token; caller_is = known.caller_is; settled = record { mends = stays m; no_doubt = known.settled.no_doubt }; found = known.found }

mended-asks : (a z : Lists) (m : Held) (now : ℕ) (ask : Ask) (user : User) (r : Reply) → IsKnown a m ask user → Asks (with_records a m) z now ask r → Asks a z now ask r
mended-asks a z m now ask user r known asks = record {
  mended = asks.mended;
  mends = record { records = subst (Mended a.records) (sym (mended_same m asks.mended.records asks.mends.records known.settled.no_doubt)) known.settled.mends; parts = asks.mends.parts };
  keeps = record { records = λ unread. absurd (not-both (reads_catalog asks.mended ask) (token_reads asks.mended ask known.token known.caller_is) unread); parts = asks.keeps.parts };
  turn = asks.turn;
}
  where
    not-both : (b : _) → b ≡ true → b ≡ false → ⊥
    not-both true one other = absurd cc
    not-both false one other = absurd cc

-- what is asked of the catalogue that was mended is asked of it as it was
pub served_mended : {K : Type 0} (sound : K → Type 0) (faults : K → ℕ) (c d : records.Keeping K) (ss : List (part.Keeping K)) (z : School K) (now : ℕ) (ask : Ask) (user : User) (r : Reply) → IsSolo c ss → MayBeAsked ask now → let a : School K = record { catalog = c; parts = ss } in IsKnown (lists_in a) d.held ask user
    → GoesOn (sound c.keeper) (sound d.keeper) (faults c.keeper) (faults d.keeper) → IsServed sound faults (record { catalog = d; parts = ss }) z now ask r → IsServed sound faults (record { catalog = c; parts = ss }) z now ask r
served_mended sound faults c d ss z now ask user r solo may known on served =
    let a : School _ = record { catalog = c; parts = ss } in
    let b : School _ = record { catalog = d; parts = ss } in
    let go = go_records sound faults c d ss on in
    record {
      once = asked_once (Fails sound faults a z) (lists_in a) (lists_in z) now ask r (askable c ss ask now solo may).shards may.keyed (mended-asks (lists_in a) (lists_in z) d.held now ask user r known served.once.asks)
          (λ is. fails_then sound faults a b z go (served.once.cause is));
      goes_on = go_both sound faults a b z go served.goes_on;
    }

-- ---- the catalogue alone

pub records_served : {K : Type 0} (sound : K → Type 0) (faults : K → ℕ) (c d : records.Keeping K) (ss : List (part.Keeping K)) (now : ℕ) (ask : Ask) (user : User) (told : Reply) → IsSolo c ss → MayBeAsked ask now → let a : School K = record { catalog = c; parts = ss } in IsKnown (lists_in a) c.held ask user
    → asks_catalog ask.request ≡ true → RecordsAnswer sound faults reply.Refused (records.IsTold now user ask) c d told → IsServed sound faults (record { catalog = c; parts = ss }) (record { catalog = d; parts = ss }) now ask told
records_served sound faults c d ss now ask user told solo may known of_catalog call =
    let a : School _ = record { catalog = c; parts = ss } in
    let b : School _ = record { catalog = d; parts = ss } in
    let failed = HasFailed (sound c.keeper) (faults c.keeper) (faults d.keeper) in
    record {
      once = (tokens_law (Fails sound faults a b)).records (lists_in a) c.held d.held now ask user told (askable c ss ask now solo may) known of_catalog
          (call_blames failed (Fails sound faults a b) reply.Refused (records.IsTold now user ask) (CatalogAnswers now user ask) c.held d.held told (fails_records sound faults c d ss) (λ h t g is. (is.reply, is.list)) call.call);
      goes_on = go_records sound faults c d ss call.goes_on;
    }

-- ---- a refusal, before a shard is read

among_first : (c : List Record) (n : ℕ) (user : User) (ask : Ask) (r : Refusal) → first_refusal c user ask.request ≡ Some r → refusal_among c n user ask.request ≡ Some r
among_first c n user ask r first = rw first refl

pub among_served : {K : Type 0} (sound : K → Type 0) (faults : K → ℕ) (c : records.Keeping K) (ss : List (part.Keeping K)) (now : ℕ) (ask : Ask) (user : User) (r : Refusal) → IsSolo c ss → MayBeAsked ask now → let a : School K = record { catalog = c; parts = ss } in IsKnown (lists_in a) c.held ask user
    → asks_catalog ask.request ≡ false → refusal_among c.held.list (length ss) user ask.request ≡ Some r → IsServed sound faults (record { catalog = c; parts = ss }) (record { catalog = c; parts = ss }) now ask (reply.Refused r)
among_served sound faults c ss now ask user r solo may known other among =
    let a : School _ = record { catalog = c; parts = ss } in
    record {
      once = (tokens_law (Fails sound faults a a)).refused (lists_in a) c.held now ask user r (askable c ss ask now solo may) known other (subst (λ (n : ℕ). refusal_among c.held.list n user ask.request ≡ Some r) (sym (count_held ss)) among);
      goes_on = go_none sound faults a;
    }

pub refused_served : {K : Type 0} (sound : K → Type 0) (faults : K → ℕ) (c : records.Keeping K) (ss : List (part.Keeping K)) (now : ℕ) (ask : Ask) (user : User) (r : Refusal) → IsSolo c ss → MayBeAsked ask now → let a : School K = record { catalog = c; parts = ss } in IsKnown (lists_in a) c.held ask user
    → asks_catalog ask.request ≡ false → first_refusal c.held.list user ask.request ≡ Some r → IsServed sound faults (record { catalog = c; parts = ss }) (record { catalog = c; parts = ss }) now ask (reply.Refused r)
refused_served sound faults c ss now ask user r solo may known other first = among_served sound faults c ss now ask user r solo may known other (among_first c.held.list (length ss) user ask r first)

pub wants_served : {K : Type 0} (sound : K → Type 0) (faults : K → ℕ) (c : records.Keeping K) (ss : List (part.Keeping K)) (now : ℕ) (ask : Ask) (user : User) → IsSolo c ss → MayBeAsked ask now → let a : School K = record { catalog = c; parts = ss } in IsKnown (lists_in a) c.held ask user
    → IsServed sound faults (record { catalog = c; parts = ss }) (record { catalog = c; parts = ss }) now ask (reply.Refused refusal.Memory)
wants_served sound faults c ss now ask user solo may known =
    let a : School _ = record { catalog = c; parts = ss } in
    record { once = (tokens_law (Fails sound faults a a)).wanting (lists_in a) c.held now ask user (askable c ss ask now solo may) known; goes_on = go_none sound faults a }

-- memory was wanting, or the catalogue refuses it
pub either_served : {K : Type 0} (sound : K → Type 0) (faults : K → ℕ) (c : records.Keeping K) (ss : List (part.Keeping K)) (now : ℕ) (ask : Ask) (user : User) (r : Refusal) → IsSolo c ss → MayBeAsked ask now → let a : School K = record { catalog = c; parts = ss } in IsKnown (lists_in a) c.held ask user
    → asks_catalog ask.request ≡ false → (r ≡ refusal.Memory) ⊎ (first_refusal c.held.list user ask.request ≡ Some r) → IsServed sound faults (record { catalog = c; parts = ss }) (record { catalog = c; parts = ss }) now ask (reply.Refused r)
either_served sound faults c ss now ask user r solo may known other (inl memory) = rw memory (wants_served sound faults c ss now ask user solo may known)
either_served sound faults c ss now ask user r solo may known other (inr first) = refused_served sound faults c ss now ask user r solo may known other first

-- ---- one shard

pub part_means : {K : Type 0} (sound : K → Type 0) (faults : K → ℕ) (Answers Others : List Record → Reply → List Record → Type 0) (s g : part.Keeping K) (told : Reply) → ((h : List Record) (t : Reply) (l : List Record) → Answers h t l → Others h t l)
    → PartAnswers sound faults Answers s g told → PartAnswers sound faults Others s g told
part_means sound faults Answers Others s g told each call =
    let failed = HasFailed (sound s.keeper) (faults s.keeper) (faults g.keeper) in
    record { call = (calls_mean failed failed reply.Refused Answers Others).each s.held g.held told (λ why. why) each call.call; same = call.same; goes_on = call.goes_on }

-- a request of this user goes to the shard at this index
pub record GoesTo (c : List Record) (n : ℕ) (ask : Ask) (user : User) (k : ℕ) : Type 0 where
  pub goes : goes_to_part ask.request ≡ true
  pub among : refusal_among c n user ask.request ≡ None
  pub part_is : part_of n user ask.request ≡ k

pub part_served : {K : Type 0} (sound : K → Type 0) (faults : K → ℕ) (c : records.Keeping K) (ss : List (part.Keeping K)) (k : ℕ) (s g : part.Keeping K) (now : ℕ) (ask : Ask) (user : User) (told : Reply) → IsSolo c ss → slice_get ss k ≡ Some s → MayBeAsked ask now
    → let a : School K = record { catalog = c; parts = ss } in IsKnown (lists_in a) c.held ask user → GoesTo c.held.list (length ss) ask user k → PartAnswers sound faults (ShardAnswers c.held.list now user ask) s g told
    → IsServed sound faults (record { catalog = c; parts = ss }) (record { catalog = c; parts = slice_set ss k g }) now ask told
part_served sound faults c ss k s g now ask user told solo is may known goes call =
    let a : School _ = record { catalog = c; parts = ss } in
    let b : School _ = record { catalog = c; parts = slice_set ss k g } in
    let failed = HasFailed (sound s.keeper) (faults s.keeper) (faults g.keeper) in
    let worse = Fails sound faults a b in
    let going : IsGoing c.held.list (length (held_of ss)) ask user k = record {
      goes = goes.goes;
      found = known.found;
      among = subst (λ (n : ℕ). refusal_among c.held.list n user ask.request ≡ None) (sym (count_held ss)) goes.among;
      part = subst (λ (n : ℕ). part_of n user ask.request ≡ k) (sym (count_held ss)) goes.part_is;
    } in
    let other = call_blames failed worse reply.Refused (ShardAnswers c.held.list now user ask) (ShardAnswers c.held.list now user ask) s.held g.held told (fails_part sound faults c ss k s g is) (λ h t l x. x) call.call in
    record {
      once = subst (λ (l : Lists). AskedOnce worse (lists_in a) l now ask told) (sym (lists_both c c ss k g))
          ((tokens_law worse).shard (lists_in a) c.held s.held g.held k now ask user told (askable c ss ask now solo may) known going (held_there ss k s is) other);
      goes_on = go_part sound faults c ss k s g is call.goes_on;
    }

-- ---- a request that a shard answers under a plan

planned-goes : (c : List Record) (n : ℕ) (ask : Ask) (user : User) (k : ℕ) (x : Request) → ask.request ≡ x → asks_shard x ≡ true → first_refusal c user x ≡ None → named_user user x % n ≡ k → GoesTo c n ask user k
planned-goes c n ask user k (request.Start q) is shard free place = record { goes = rw is refl; among = rw (is, free) refl; part_is = rw is place }
planned-goes c n ask user k (request.Save a j certainty response) is shard free place = record { goes = rw is refl; among = rw (is, free) refl; part_is = rw is place }
planned-goes c n ask user k (request.Submit a j certainty response) is shard free place = record { goes = rw is refl; among = rw (is, free) refl; part_is = rw is place }
planned-goes c n ask user k (request.Again a j) is shard free place = record { goes = rw is refl; among = rw (is, free) refl; part_is = rw is place }
planned-goes c n ask user k (request.Finish a) is shard free place = record { goes = rw is refl; among = rw (is, free) refl; part_is = rw is place }
planned-goes c n ask user k (request.Mark a j mark) is shard free place = record { goes = rw is refl; among = rw (is, free) refl; part_is = rw is place }
planned-goes c n ask user k (request.Settle a) is shard free place = record { goes = rw is refl; among = rw (is, free) refl; part_is = rw is place }
planned-goes c n ask user k (request.View a j) is shard free place = record { goes = rw is refl; among = rw (is, free) refl; part_is = rw is place }
planned-goes c n ask user k (request.Total a) is shard free place = record { goes = rw is refl; among = rw (is, free) refl; part_is = rw is place }
planned-goes c n ask user k (request.Page a) is shard free place = record { goes = rw is refl; among = rw (is, free) refl; part_is = rw is place }
planned-goes c n ask user k (request.Grade q u) is shard free place = record { goes = rw is refl; among = rw (is, free) refl; part_is = rw is place }
planned-goes c n ask user k x is shard free place = absurd cc

pub plan_goes : (c : List Record) (n : ℕ) (ask : Ask) (user : User) (owner k : ℕ) → asks_shard ask.request ≡ true → first_refusal c user ask.request ≡ None → named_user user ask.request ≡ owner → owner % n ≡ k → GoesTo c n ask user k
plan_goes c n ask user owner k shard free named place = planned-goes c n ask user k ask.request refl shard free (ap (λ (u : ℕ). u % n) named ∙ place)

-- of a shard whose error is a refusal
pub part_serves : {K : Type 0} (sound : K → Type 0) (faults : K → ℕ) (c : records.Keeping K) (ss : List (part.Keeping K)) (k : ℕ) (s g : part.Keeping K) (now : ℕ) (ask : Ask) (user : User) (result : Result Reply Refusal) → IsSolo c ss → slice_get ss k ≡ Some s → MayBeAsked ask now
    → let a : School K = record { catalog = c; parts = ss } in IsKnown (lists_in a) c.held ask user → GoesTo c.held.list (length ss) ask user k → PartTells sound faults (ShardAnswers c.held.list now user ask) s g result
    → Serves sound faults (record { catalog = c; parts = ss }) (record { catalog = c; parts = slice_set ss k g }) now ask result
part_serves sound faults c ss k s g now ask user (Ok told) solo is may known goes call = part_served sound faults c ss k s g now ask user told solo is may known goes call
part_serves sound faults c ss k s g now ask user (Err r) solo is may known goes call = part_served sound faults c ss k s g now ask user (reply.Refused r) solo is may known goes call

pub same_told : {K : Type 0} (sound : K → Type 0) (faults : K → ℕ) (Answers : List Record → Reply → List Record → Type 0) (s g : part.Keeping K) (result : Result Reply Refusal) → PartTells sound faults Answers s g result → part.IsSamePart s g
same_told sound faults Answers s g (Ok told) call = call.same
same_told sound faults Answers s g (Err r) call = call.same

pub report_other : (ask : Ask) (quiz : ℕ) → ask.request ≡ request.Report quiz → asks_catalog ask.request ≡ false
report_other ask quiz is = rw is refl

pub serves_mended : {K : Type 0} (sound : K → Type 0) (faults : K → ℕ) (c d : records.Keeping K) (ss : List (part.Keeping K)) (z : School K) (now : ℕ) (ask : Ask) (user : User) (result : Result Reply Refusal) → IsSolo c ss → MayBeAsked ask now → let a : School K = record { catalog = c; parts = ss } in IsKnown (lists_in a) d.held ask user
    → GoesOn (sound c.keeper) (sound d.keeper) (faults c.keeper) (faults d.keeper) → Serves sound faults (record { catalog = d; parts = ss }) z now ask result → Serves sound faults (record { catalog = c; parts = ss }) z now ask result
serves_mended sound faults c d ss z now ask user (Ok told) solo may known on served = served_mended sound faults c d ss z now ask user told solo may known on served
serves_mended sound faults c d ss z now ask user (Err r) solo may known on served = served_mended sound faults c d ss z now ask user (reply.Refused r) solo may known on served
