-- What requests do to passes, and the lists that these tell.
use Rattle.std.proofs.Common.{◌≡◌, ◌⊎◌, inl, inr, ⊎_elim, ℕ, ◌<◌, zero, suc, Bool, true, false, List, [], ◌∷◌, ◌++◌, Some, None, length, map, refl, sym, ap, ◌∙◌, subst, append_assoc}
use Rattle.std.specs.Prelude.{◌&&◌, not, slice_get, slice_set}
use Rattle.std.proofs.lemmas.List.Elements.{All-append, All-nil, All-push}
use Rattle.std.proofs.lemmas.List.{length-map, map-set}
use Rattle.std.proofs.lemmas.Option.{slice_get-map, slice_get_within}
use Rattle.qz_catalog_turns.specs.declared.replied.OwnRecord.TheVariants as own
use Rattle.qz_catalog_turns.specs.declared.replied.Replied.{Replied}
use Rattle.qz_catalog_turns.specs.Owning.{Leaves, absent}
use Rattle.qz_catalog_turns.specs.Turning.{Fails, IsLook, Looked, TurnCalls, held_of}
use Rattle.qz_grading.specs.declared.refusal.Refusal.{Refusal}
use Rattle.qz_keeper.specs.Lists.{Looks}
use Rattle.qz_serial.specs.Once.{AskedOnce}
use Rattle.qz_serial.specs.Paths.{goes_to_part}
use Rattle.qz_serial.proofs.Composing.{look_ends}
use Rattle.qz_serial.proofs.Seats.{set_get}
use Rattle.qz_shard_turns.specs.Posing.{TurnIsOlder}
use Rattle.qz_shard_turns.specs.Tying.{HasLooked, SeesMore}
use Rattle.qz_shard_turns.proofs.Tying.{looked-self}
use Rattle.qz_terms.specs.declared.ask.Ask.{Ask}
use Rattle.qz_terms.specs.declared.plan.Plan.{Plan}
use Rattle.qz_terms.specs.declared.record.Record.{Record}
use Rattle.qz_terms.specs.declared.people.User.{User}
use Rattle.qz_terms.specs.declared.reply.Done.{Done}
use Rattle.qz_terms.specs.declared.reply.Reply.{Reply}
use Rattle.qz_terms.specs.declared.reply.Reply.TheVariants as reply
use Rattle.qz_terms.specs.declared.request.Request.{Request}
use Rattle.qz_terms.specs.declared.request.Request.TheVariants as request
use Rattle.qz_terms.specs.Catalog.{user_of}
use Rattle.qz_terms.specs.CatalogAnswer.{asks_catalog}
use Rattle.qz_terms.specs.SchoolAnswer.{asked_part, part_of}
use Rattle.qz_terms.specs.Serial.{Held, Lists, Mended, is_report}
use Rattle.qz_turn.specs.declared.view.Tale.{Tale}
use Rattle.qz_turn.specs.declared.view.Turn.{Turn}
use Rattle.qz_turn.specs.Passes.{Standing}
use Rattle.qz_turn.specs.Turns.{last_turn}
use Rattle.qz_turn.proofs.Prefixes.{follows_self, follows_trans}
use Rattle.qz_visit.specs.declared.last.Said.{Said}
use Rattle.qz_visit.specs.Visits.{AreFoundBy, IsFoundBy, IsMendedTo, Rose, Seats, TakesTurns, Tellings, TookTurn, Visited, at_part, lists_told, more, none, of_catalog, of_shard, refusing, seen_by}
use Rattle.qz_visit.specs.Ways.{Part, Seen, refused_with}
use Rattle.qz_visit.proofs.Owning.{as_seen, ends_mend, found_settled, leaves_none, leaves_there}

-- ---- one pass

pub sees_self : {K : Type 0} (p : Standing Record K) → SeesMore p p
sees_self p = record { begins = follows_self p.seen; numbers = refl; lock = refl }

pub sees_on : {K : Type 0} (a b c : Standing Record K) → SeesMore a b → SeesMore b c → SeesMore a c
sees_on a b c one other = record {
  begins = follows_trans a.seen b.seen c.seen one.begins other.begins;
  numbers = other.numbers ∙ one.numbers;
  lock = other.lock ∙ one.lock;
}

-- ---- turns that put no record

pub looked_on : {K : Type 0} (a b c : Standing Record K) → HasLooked a b → HasLooked b c → HasLooked a c
looked_on a b c one other = record {
  sees = sees_on a b c one.sees other.sees;
  looks = record {
    turns = one.looks.turns ++ other.looks.turns;
    added = other.looks.added ∙ ap (λ (l : List (Turn Record)). l ++ other.looks.turns) one.looks.added ∙ append_assoc a.turns one.looks.turns other.looks.turns;
    looks = All-append IsLook one.looks.turns other.looks.turns one.looks.looks other.looks.looks;
  };
}

-- ---- a turn, behind such

takes-by : {K : Type 0} (a b : Standing Record K) (earlier : List (Turn Record)) → b.turns ≡ a.turns ++ (earlier ++ last_turn b ∷ []) → TakesTurns a b
takes-by a b [] added = record { first = last_turn b; others = []; added = added }
takes-by a b (t ∷ ts) added = record { first = t; others = ts ++ last_turn b ∷ []; added = added }

pub takes_took : {K : Type 0} (a b : Standing Record K) → TookTurn a b → TakesTurns a b
takes_took a b t = takes-by a b t.earlier t.added

pub took_after : {K : Type 0} (a b c : Standing Record K) → HasLooked a b → TookTurn b c → TookTurn a c
took_after a b c l t =
    let turned = last_turn c ∷ [] in
    let long : c.turns ≡ (a.turns ++ l.looks.turns) ++ (t.earlier ++ turned) = t.added ∙ ap (λ (x : List (Turn Record)). x ++ (t.earlier ++ turned)) l.looks.added in
    record {
      begins = follows_trans a.seen b.seen c.found l.sees.begins t.begins;
      grows = t.grows;
      earlier = l.looks.turns ++ t.earlier;
      looks = All-append IsLook l.looks.turns t.earlier l.looks.looks t.looks;
      added = long ∙ append_assoc a.turns l.looks.turns (t.earlier ++ turned) ∙ ap (λ (x : List (Turn Record)). a.turns ++ x) (sym (append_assoc l.looks.turns t.earlier turned));
      numbers = t.numbers ∙ l.sees.numbers;
      lock = t.lock ∙ l.sees.lock;
    }

pub took_sees : {K : Type 0} (a b : Standing Record K) → TookTurn a b → SeesMore a b
took_sees a b t = record { begins = follows_trans a.seen b.found b.seen t.begins t.grows; numbers = t.numbers; lock = t.lock }

pub took_turned : {A K : Type 0} (P : List Record → Type 0) (refused : Refusal → A) (Answers : List Record → A → List Record → Type 0) (old new : Standing Record K) (told : A) → TurnCalls P refused Answers old new told → TookTurn old new
took_turned P refused Answers old new told t = record { begins = t.begins; grows = t.grows; earlier = []; looks = All-nil IsLook; added = t.turns; numbers = t.numbers; lock = t.lock }

-- what was found was mended, and stays
pub took_looked : {K : Type 0} (a b : Standing Record K) → TookTurn a b → Mended (held_of b.found) (held_of b.seen) → HasLooked a b
took_looked a b t mends = record {
  sees = took_sees a b t;
  looks = record { turns = t.earlier ++ last_turn b ∷ []; added = t.added; looks = All-push IsLook t.earlier (last_turn b) t.looks mends };
}

pub turn_mends : {A K : Type 0} (P : List Record → Type 0) (refused : Refusal → A) (Says : List Record → A → Type 0) (old new : Standing Record K) (told : A) → TurnCalls P refused (Looks Says) old new told → Mended (held_of new.found) (held_of new.seen)
turn_mends P refused Says old new told t =
    let failed = Fails new.found new.seen in
    ends_mend failed refused Says (held_of new.found) (held_of new.seen) told (look_ends failed refused Says (held_of new.found) (held_of new.seen) told t.calls.call)

pub turn_looked : {A K : Type 0} (P : List Record → Type 0) (refused : Refusal → A) (Says : List Record → A → Type 0) (old new : Standing Record K) (told : A) → TurnCalls P refused (Looks Says) old new told → HasLooked old new
turn_looked P refused Says old new told t = took_looked old new (took_turned P refused (Looks Says) old new told t) (turn_mends P refused Says old new told t)

-- a plan was older than a job that is done there
pub older_looked : {K : Type 0} (plan : Plan) (x : Request) (old new : Standing Record K) (floor : ℕ) → TurnIsOlder plan x old new floor → HasLooked old new
older_looked plan x old new floor t =
    took_looked old new (record { begins = t.begins; grows = t.grows; earlier = []; looks = All-nil IsLook; added = t.turns; numbers = t.numbers; lock = t.lock }) t.older.mends

-- ---- what was found

pub found_rested : {K : Type 0} (old new : Standing Record K) → HasLooked old new → IsFoundBy old new new.seen
found_rested old new l = record { begins = l.sees.begins; grows = follows_self new.seen; turned = inl (l.looks, refl); numbers = l.sees.numbers; lock = l.sees.lock }

turned-after : {K : Type 0} (a b c : Standing Record K) (t : Tale Record) → HasLooked a b → SeesMore b c → (Looked b c × (t ≡ c.seen)) ⊎ (TookTurn b c × IsMendedTo c.found t) → (Looked a c × (t ≡ c.seen)) ⊎ (TookTurn a c × IsMendedTo c.found t)
turned-after a b c t l sees (inl both) = inl ((looked_on a b c l (record { sees = sees; looks = both.0 })).looks, both.1)
turned-after a b c t l sees (inr both) = inr (took_after a b c l both.0, both.1)

pub found_sees : {K : Type 0} (a b : Standing Record K) (t : Tale Record) → IsFoundBy a b t → SeesMore a b
found_sees a b t is = record { begins = follows_trans a.seen t b.seen is.begins is.grows; numbers = is.numbers; lock = is.lock }

pub found_after : {K : Type 0} (a b c : Standing Record K) (t : Tale Record) → HasLooked a b → IsFoundBy b c t → IsFoundBy a c t
found_after a b c t l is = record {
  begins = follows_trans a.seen b.seen t l.sees.begins is.begins;
  grows = is.grows;
  turned = turned-after a b c t l (found_sees b c t is) is.turned;
  numbers = is.numbers ∙ l.sees.numbers;
  lock = is.lock ∙ l.sees.lock;
}

-- a list that stays as it was found
found-looks : {K : Type 0} (a b : Standing Record K) (t : Tale Record) → SeesMore a b → held_of t ≡ held_of b.seen → (Looked a b × (t ≡ b.seen)) ⊎ (TookTurn a b × IsMendedTo b.found t) → HasLooked a b
found-looks a b t sees same (inl both) = record { sees = sees; looks = both.0 }
found-looks a b t sees same (inr both) = took_looked a b both.0 (subst (Mended (held_of b.found)) same both.1.0)

pub found_looks : {K : Type 0} (a b : Standing Record K) (t : Tale Record) → IsFoundBy a b t → held_of t ≡ held_of b.seen → HasLooked a b
found_looks a b t is same = found-looks a b t (found_sees a b t is) same is.turned

pub found_looked : {A K : Type 0} (P : List Record → Type 0) (refused : Refusal → A) (Says : List Record → A → Type 0) (old new : Standing Record K) (told : A) → TurnCalls P refused (Looks Says) old new told → IsFoundBy old new (as_seen new)
found_looked P refused Says old new told t = found_settled old new (took_turned P refused (Looks Says) old new told t) (turn_mends P refused Says old new told t)

pub turn_sees : {A K : Type 0} (P : List Record → Type 0) (refused : Refusal → A) (Answers : List Record → A → List Record → Type 0) (old new : Standing Record K) (told : A) → TurnCalls P refused Answers old new told → SeesMore old new
turn_sees P refused Answers old new told t = took_sees old new (took_turned P refused Answers old new told t)

-- ---- the passes of the shards

pub all_rested : (ps : List Part) → AreFoundBy ps ps (seen_by ps)
all_rested [] = none
all_rested (p ∷ ps) = more p p p.seen ps ps (seen_by ps) (found_rested p p (looked-self p)) (all_rested ps)

pub one_found : (ps : List Part) (k : ℕ) (old new : Part) (found : Tale Record) → slice_get ps k ≡ Some old → IsFoundBy old new found → AreFoundBy ps (slice_set ps k new) (slice_set (seen_by ps) k found)
one_found [] k old new found at is = absurd cc
one_found (p ∷ ps) zero old new found at is = let same : old ≡ p = cc in more p new found ps ps (seen_by ps) (subst (λ (x : Part). IsFoundBy x new found) same is) (all_rested ps)
one_found (p ∷ ps) (suc k) old new found at is = more p p p.seen ps (slice_set ps k new) (slice_set (seen_by ps) k found) (found_rested p p (looked-self p)) (one_found ps k old new found at is)

-- ---- what they tell

-- the lists that the passes of the shards see
abbrev pub helds : List Part → List Held
helds ps = map held_of (seen_by ps)

pub count_helds : (ps : List Part) → length (helds ps) ≡ length ps
count_helds ps = length-map (seen_by ps) held_of ∙ length-map ps (λ (p : Part). p.seen)

pub seen_there : (ps : List Part) (k : ℕ) (p : Part) → slice_get ps k ≡ Some p → slice_get (seen_by ps) k ≡ Some p.seen
seen_there ps k p is = slice_get-map (λ (q : Part). q.seen) ps k ∙ rw is refl

pub held_there : (ps : List Part) (k : ℕ) (p : Part) → slice_get ps k ≡ Some p → slice_get (helds ps) k ≡ Some (held_of p.seen)
held_there ps k p is = slice_get-map held_of (seen_by ps) k ∙ rw (seen_there ps k p is) refl

pub seen_set : (ps : List Part) (k : ℕ) (p : Part) → seen_by (slice_set ps k p) ≡ slice_set (seen_by ps) k p.seen
seen_set ps k p = map-set (λ (q : Part). q.seen) ps k p

pub told_set : (ts : List (Tale Record)) (k : ℕ) (t : Tale Record) → map held_of (slice_set ts k t) ≡ slice_set (map held_of ts) k (held_of t)
told_set ts k t = map-set held_of ts k t

pub helds_set : (ps : List Part) (k : ℕ) (p : Part) → helds (slice_set ps k p) ≡ slice_set (helds ps) k (held_of p.seen)
helds_set ps k p = ap (map held_of) (seen_set ps k p) ∙ told_set (seen_by ps) k p.seen

abbrev pub seats : Seen → List Part → Seats
seats s ps = record { records = s; parts = ps }

abbrev pub lists : Held → List Held → Lists
lists h hs = record { records = h; parts = hs }

-- ---- what a request came to

-- what is said without a record
abbrev pub put_none : Reply → Replied
put_none told = record { reply = told; own = own.Absent }

-- what the catalogue said
abbrev pub by_catalog : Replied → Said
by_catalog told = record { reply = told.reply; list = None; own = told.own }

pub asked_mean : (failed worse : Type 0) (a b : Lists) (now : ℕ) (ask : Ask) (told : Reply) → (failed → worse) → AskedOnce failed a b now ask told → AskedOnce worse a b now ask told
asked_mean failed worse a b now ask told to once = record { asks = once.asks; cause = λ is. to (once.cause is); stands = once.stands; stays = once.stays; again = once.again }

pub none-some : (k : ℕ) → None ≡ Some k → ⊥
none-some k is = absurd cc

-- whatever is accepted goes to the catalogue
abbrev pub AcceptsThere : Request → Reply → Type 0
AcceptsThere x told = (place : ℕ) (d : Done) → told ≡ reply.Ok place d → asks_catalog x ≡ true

pub refused_there : (x : Request) (r : Refusal) → AcceptsThere x (reply.Refused r)
refused_there x r = λ place d is. absurd cc

-- and is no report
no-report : (x : Request) → asks_catalog x ≡ true → is_report x ≡ true → ⊥
no-report (request.Report quiz) catalog is = absurd cc
no-report x catalog is = absurd cc

not-both : (a r : Bool) → not a && not r ≡ true → r ≡ true → ⊥
not-both true r goes is = absurd cc
not-both false r goes is = let no : false ≡ true = rw is at goes in absurd cc

-- what a shard accepts, it accepts in a turn
abbrev pub Speaks : Part → Part → Reply → Type 0
Speaks po pn told = (place : ℕ) (d : Done) → told ≡ reply.Ok place d → TakesTurns po pn

pub refused_mute : (po pn : Part) (r : Refusal) → Speaks po pn (reply.Refused r)
refused_mute po pn r = λ place d is. absurd cc

pub turn_speaks : (po pn : Part) (told : Reply) → TookTurn po pn → Speaks po pn told
turn_speaks po pn told t = λ place d is. takes_took po pn t

-- a request of one whom the catalogue knows goes to this shard, of so many
abbrev pub GoesThere : List Record → ℕ → Ask → ℕ → Type 0
GoesThere c n ask k = (goes_to_part ask.request ≡ true) × (asked_part c n ask ≡ Some k)

pub goes_other : (x : Request) → goes_to_part x ≡ true → asks_catalog x ≡ false
goes_other x is = other (asks_catalog x) refl is
  where
    other : (b : _) → asks_catalog x ≡ b → goes_to_part x ≡ true → asks_catalog x ≡ false
    other true is goes = let no : false ≡ true = rw is at goes in absurd cc
    other false is goes = is

pub goes_there : (c : List Record) (n k : ℕ) (ask : Ask) (user : User) → user_of c ask.caller ≡ Some user → goes_to_part ask.request ≡ true → part_of n user ask.request ≡ k → GoesThere c n ask k
goes_there c n k ask user found goes part = (goes, rw (found, goes_other ask.request goes, part) refl)

-- at the catalogue alone
pub visited_records : (so sn : Seen) (ps : List Part) (found : Tale Record) (now : ℕ) (ask : Ask) (told : Replied) → AcceptsThere ask.request told.reply → IsFoundBy so sn found → Leaves (held_of found) (held_of sn.seen) told.own
    → AskedOnce (Fails found sn.seen) (lists (held_of found) (helds ps)) (lists (held_of sn.seen) (helds ps)) now ask told.reply → Visited (seats so ps) (seats sn ps) now ask (by_catalog told)
visited_records so sn ps found now ask told other is leaves once =
    let f : Tellings = record { records = found; parts = seen_by ps } in
    let g : Tellings = record { records = sn.seen; parts = seen_by ps } in
    record {
      found = f;
      records = is;
      parts = all_rested ps;
      once = asked_mean (Fails found sn.seen) (Rose f g) (lists (held_of found) (helds ps)) (lists (held_of sn.seen) (helds ps)) now ask told.reply (λ why. of_catalog why) once;
      owns = record { records = leaves; parts = λ k x y one other. leaves_none (seen_by ps) k x y one other };
      named = record {
        place = λ k is. absurd cc;
        turned = λ k o n at d reads was now_is accepted. ⊎_elim (λ is. absurd (none-some k is)) (λ is. absurd (no-report ask.request (other at d accepted) is)) reads;
        elsewhere = λ at d is accepted. rw (other at d accepted) refl;
      };
    }

-- whatever was read stays, and it is refused
pub visited_still : (s : Seen) (ps : List Part) (now : ℕ) (ask : Ask) (r : Refusal) → AskedOnce ⊥ (lists (held_of s.seen) (helds ps)) (lists (held_of s.seen) (helds ps)) now ask (reply.Refused r) → Visited (seats s ps) (seats s ps) now ask (refusing r)
visited_still s ps now ask r once =
    let a = lists (held_of s.seen) (helds ps) in
    visited_records s s ps s.seen now ask (refused_with r) (refused_there ask.request r) (found_rested s s (looked-self s)) (absent (held_of s.seen)) (asked_mean ⊥ (Fails s.seen s.seen) a a now ask (reply.Refused r) (λ why. absurd why) once)

-- a keeper failed, that of the catalogue or that of the shard
abbrev pub Either : Tale Record → Seen → Tale Record → Part → Type 0
Either found sn there pn = Fails found sn.seen ⊎ Fails there pn.seen

rose-either : (sn : Seen) (ps : List Part) (k : ℕ) (po pn : Part) (found there : Tale Record) → slice_get ps k ≡ Some po → Either found sn there pn
    → let f : Tellings = record { records = found; parts = slice_set (seen_by ps) k there } in let g : Tellings = record { records = sn.seen; parts = seen_by (slice_set ps k pn) } in Rose f g
rose-either sn ps k po pn found there at (inl why) = of_catalog why
rose-either sn ps k po pn found there at (inr why) =
    let own = seen_there ps k po at in
    of_shard k there pn.seen (set_get (seen_by ps) k po.seen there own) (rw (seen_set ps k pn) (set_get (seen_by ps) k po.seen pn.seen own)) why

pub part-is : (a b : Part) → Some a ≡ Some b → a ≡ b
part-is a b is = cc

turned-at : (ps : List Part) (k j : ℕ) (po pn o n : Part) → slice_get ps k ≡ Some po → k ≡ j → slice_get ps j ≡ Some o → slice_get (slice_set ps k pn) j ≡ Some n → TakesTurns po pn → TakesTurns o n
turned-at ps k j po pn o n at same was is turned =
    let first : slice_get ps k ≡ Some o = subst (λ (i : ℕ). slice_get ps i ≡ Some o) (sym same) was in
    let second : slice_get (slice_set ps k pn) k ≡ Some n = subst (λ (i : ℕ). slice_get (slice_set ps k pn) i ≡ Some n) (sym same) is in
    subst (λ (x : Part). TakesTurns x n) (part-is po o (sym at ∙ first)) (subst (λ (x : Part). TakesTurns po x) (part-is pn n (sym (set_get ps k po pn at) ∙ second)) turned)

number-is : (k j : ℕ) → Some k ≡ Some j → k ≡ j
number-is k j is = cc

-- at the catalogue and at one shard
pub visited_both : (so sn : Seen) (ps : List Part) (k : ℕ) (po pn : Part) (found there : Tale Record) (now : ℕ) (ask : Ask) (told : Replied) → GoesThere found.list (length ps) ask k → Speaks po pn told.reply → slice_get ps k ≡ Some po → IsFoundBy so sn found → IsFoundBy po pn there
    → Leaves (held_of found) (held_of sn.seen) own.Absent → Leaves (held_of there) (held_of pn.seen) told.own
    → AskedOnce (Either found sn there pn) (lists (held_of found) (slice_set (helds ps) k (held_of there))) (lists (held_of sn.seen) (slice_set (helds ps) k (held_of pn.seen))) now ask told.reply
    → Visited (seats so ps) (seats sn (slice_set ps k pn)) now ask (at_part k told)
visited_both so sn ps k po pn found there now ask told goes speaks at first second none_left leaves once =
    let f : Tellings = record { records = found; parts = slice_set (seen_by ps) k there } in
    let g : Tellings = record { records = sn.seen; parts = seen_by (slice_set ps k pn) } in
    let worse = Rose f g in
    let left = subst (λ (hs : List Held). AskedOnce (Either found sn there pn) (lists (held_of found) hs) (lists (held_of sn.seen) (slice_set (helds ps) k (held_of pn.seen))) now ask told.reply) (sym (told_set (seen_by ps) k there)) once in
    let both = subst (λ (hs : List Held). AskedOnce (Either found sn there pn) (lists_told f) (lists (held_of sn.seen) hs) now ask told.reply) (sym (helds_set ps k pn)) left in
    record {
      found = f;
      records = first;
      parts = one_found ps k po pn there at second;
      once = asked_mean (Either found sn there pn) worse (lists_told f) (lists_told g) now ask told.reply (rose-either sn ps k po pn found there at) both;
      owns = record {
        records = none_left;
        parts = λ j x y one other.
            leaves_there (seen_by ps) k j po.seen there pn.seen x y told.own (seen_there ps k po at) leaves one (subst (λ (ts : List (Tale Record)). slice_get ts j ≡ Some y) (seen_set ps k pn) other);
      };
      named = record {
        place = λ j is. let same = number-is k j is in (goes.0, goes.1 ∙ is, subst (λ (i : ℕ). i < length ps) same (slice_get_within ps k po at));
        turned = λ j o n here d reads was now_is accepted. ⊎_elim
            (λ is. turned-at ps k j po pn o n at (number-is k j is) was now_is (speaks here d accepted))
            (λ is. absurd (not-both (asks_catalog ask.request) (is_report ask.request) goes.0 is)) reads;
        elsewhere = λ here d is accepted. absurd cc;
      };
    }
