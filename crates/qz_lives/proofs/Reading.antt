-- What is read of the attempts that are kept.
use Rattle.std.proofs.Common.{◌≡◌, ℕ, zero, suc, ◌+◌, ◌≤◌, List, [], ◌∷◌, ◌++◌, Option, Some, None, option_map, length, map, take, refl, sym, ap, subst, ◌∙◌, arith}
use Rattle.std.specs.Prelude.{ℤ, filter_map, option_and_then, option_to_list, zip}
use Rattle.std.specs.List.{range_with_len}
use Rattle.std.proofs.lemmas.List.{map-append, take_all}
use Rattle.std.proofs.lemmas.Option.{get_or_from_slice_get}
use Rattle.qz_grading.specs.declared.question.Question.{Question}
use Rattle.qz_grading.specs.declared.refusal.AttemptId.{AttemptId}
use Rattle.qz_grading.specs.Grading.{at_place}
use Rattle.qz_terms.specs.declared.record.How.{How}
use Rattle.qz_terms.specs.declared.record.How.TheVariants as how
use Rattle.qz_terms.specs.declared.record.Record.{Record}
use Rattle.qz_terms.specs.History.{Slot, Start, ended, slot, slot_count, slots, start, total}
use Rattle.qz_terms.specs.History as history
use Rattle.qz_terms.specs.Lists.{places_to}
use Rattle.qz_terms.specs.Rows.{Scored, total_of}
use Rattle.qz_terms.proofs.Walks.{all_of-push, take-one_more}
use Rattle.qz_usage.specs.Runs.{IsBound, Run}
use Rattle.qz_usage.specs.Usages.{AreBound, scored}
use Rattle.qz_lives.specs.declared.live.Begun.{Begun}
use Rattle.qz_lives.specs.declared.live.Ending.{Ending}
use Rattle.qz_lives.specs.declared.live.Live.{Live}
use Rattle.qz_lives.specs.declared.lives.Lives.{Lives}
use Rattle.qz_lives.specs.Attempts.{AreLives, IsSlot, IsSlotAt, IsTold, IsToldAs, begun_of, live_in, slot_of}
use Rattle.qz_lives.specs.Ones.{total_by, total_if}
use Rattle.qz_lives.proofs.Loops.{at-next, has-run-by}

-- ---- slots

few-by : (h : List Record) (a : AttemptId) (b : Begun) (o : Option Live) → IsToldAs h a o → Some b ≡ option_map begun_of (start h a) → b.slots ≤ 200
few-by h a b None t is = absurd (let none = ap (option_map begun_of) t.unstarted in cc)
few-by h a b (Some x) t is =
    let some : option_map begun_of (start h a) ≡ Some (begun_of t.started) = ap (option_map begun_of) t.start_is in
    let same : b ≡ begun_of t.started = cc in
    let slots : b.slots ≡ length t.started.bounds = ap (λ (c : Begun). c.slots) same in
    let count = t.count in
    let few = t.few in
    omega arith

pub few-slots : (m : Lives) (h : List Record) (a : AttemptId) (b : Begun) → AreLives m h → Some b ≡ option_map begun_of (start h a) → b.slots ≤ 200
few-slots m h a b lives is = few-by h a b (live_in m a) (lives.attempts.each a) is

-- ---- a total

bound-push : (rs : List Run) (qs : List Question) (r : Run) (q : Question) → AreBound rs qs → IsBound r q → AreBound (rs ++ r ∷ []) (qs ++ q ∷ [])
bound-push [] [] r q all one = (one, tt)
bound-push [] (p ∷ qs) r q all one = absurd all
bound-push (s ∷ rs) [] r q all one = absurd all
bound-push (s ∷ rs) (p ∷ qs) r q all one = (all.0, bound-push rs qs r q all.1 one)

scored-push : (rs : List Run) (qs : List Question) (r : Run) (q : Question) → AreBound rs qs → map scored (zip (rs ++ r ∷ []) (qs ++ q ∷ [])) ≡ map scored (zip rs qs) ++ scored (r, q) ∷ []
scored-push [] [] r q all = refl
scored-push [] (p ∷ qs) r q all = absurd all
scored-push (s ∷ rs) [] r q all = absurd all
scored-push (s ∷ rs) (p ∷ qs) r q all = ap (λ (t : List Scored). scored (s, p) ∷ t) (scored-push rs qs r q all.1)

range-more : (a n : ℕ) → range_with_len a (suc n) ≡ range_with_len a n ++ (a + n) ∷ []
range-more a zero = let same : a ≡ a + 0 = omega arith in ap (λ (m : ℕ). m ∷ []) same
range-more a (suc n) = let same : a + 1 + n ≡ a + suc n = omega arith in ap (λ (t : List ℕ). a ∷ t) (range-more (a + 1) n ∙ ap (λ (m : ℕ). range_with_len (a + 1) n ++ m ∷ []) same)

places-more : (n : ℕ) → places_to (n + 1) ≡ places_to n ++ (n + 1) ∷ []
places-more n =
    let more : n + 1 ≡ suc n = omega arith in
    let last : 1 + n ≡ n + 1 = omega arith in
    ap places_to more ∙ range-more 1 n ∙ ap (λ (m : ℕ). places_to n ++ m ∷ []) last

-- of one slot more
slots-more : (h : List Record) (a : AttemptId) (n : ℕ) (o : Option Slot) → slot h a (n + 1) ≡ o → map history.scored (filter_map (slot h a) (places_to (n + 1))) ≡ map history.scored (filter_map (slot h a) (places_to n)) ++ map history.scored (option_to_list o)
slots-more h a n o is =
    ap (λ (ns : List ℕ). map history.scored (filter_map (slot h a) ns)) (places-more n)
    ∙ ap (map history.scored) (all_of-push (slot h a) (places_to n) (n + 1))
    ∙ map-append history.scored (filter_map (slot h a) (places_to n)) (option_to_list (slot h a (n + 1)))
    ∙ ap (λ (s : Option Slot). map history.scored (filter_map (slot h a) (places_to n)) ++ map history.scored (option_to_list s)) is

-- the first so many runs, with their questions, count as these slots do
record AreCounted (h : List Record) (a : AttemptId) (runs : List Run) (n : ℕ) : Type 0 where
  questions : List Question
  bound : AreBound (take n runs) questions
  count : map scored (zip (take n runs) questions) ≡ map history.scored (filter_map (slot h a) (places_to n))

counted-to : (h : List Record) (a : AttemptId) (runs : List Run) → ((k : ℕ) → IsSlotAt h a k (at_place runs k)) → (n : ℕ) → n ≤ length runs → AreCounted h a runs n
counted-to h a runs plays zero few = record { questions = []; bound = tt; count = refl }
counted-to h a runs plays (suc n) few =
    let before = counted-to h a runs plays n (omega arith) in
    let run = has-run-by runs n (omega arith) in
    let p : IsSlot h a (n + 1) run.0 = subst (IsSlotAt h a (n + 1)) (at-next runs n run.0 run.1) (plays (n + 1)) in
    let longer : take (n + 1) runs ≡ take n runs ++ run.0 ∷ [] = take-one_more runs n run.0 (omega arith) (sym (get_or_from_slice_get runs n run.0 run.0 run.1)) in
    let next : suc n ≡ n + 1 = omega arith in
    subst (AreCounted h a runs) (sym next) (record {
      questions = before.questions ++ p.question ∷ [];
      bound = subst (λ (rs : List Run). AreBound rs (before.questions ++ p.question ∷ [])) (sym longer) (bound-push (take n runs) before.questions run.0 p.question before.bound p.asked);
      count =
          ap (λ (rs : List Run). map scored (zip rs (before.questions ++ p.question ∷ []))) longer
          ∙ scored-push (take n runs) before.questions run.0 p.question before.bound
          ∙ ap (λ (t : List Scored). t ++ scored (run.0, p.question) ∷ []) before.count
          ∙ sym (slots-more h a n (Some (slot_of run.0 p.question)) p.slot_is);
    })

count-of : (h : List Record) (a : AttemptId) (s : Start) → start h a ≡ Some s → slot_count h a ≡ length s.bounds
count-of h a s is = rw is refl

finished-by : (h : List Record) (a : AttemptId) (o : Option Ending) (t : Option ℤ) → option_map (λ (e : Ending). e.how) o ≡ ended h a → total_of (map history.scored (slots h a)) ≡ t → option_and_then (λ (e : Ending). total_if t e.how) o ≡ total h a
finished-by h a None t is same = rw (← is) refl
finished-by h a (Some e) t is same = by-how e.how refl
  where
    by-how : (w : How) → e.how ≡ w → total_if t e.how ≡ total h a
    by-how how.Finished so = let ended_so : ended h a ≡ Some how.Finished = sym is ∙ ap (λ (v : How). Some v) so in rw (so, ended_so) (sym same)
    by-how how.Abandoned so = let ended_so : ended h a ≡ Some how.Abandoned = sym is ∙ ap (λ (v : How). Some v) so in rw (so, ended_so) refl

-- what an attempt's runs come to is the total that the list tells
pub total-told : (h : List Record) (a : AttemptId) (x : Live) (r : Option ℤ) → IsTold h a x → ((qs : List Question) → AreBound x.slots qs → r ≡ total_by x qs) → r ≡ total h a
total-told h a x r t given =
    let all = counted-to h a x.slots t.slots (length x.slots) (omega arith) in
    let whole : take (length x.slots) x.slots ≡ x.slots = take_all (length x.slots) x.slots (omega arith) in
    let bound : AreBound x.slots all.questions = subst (λ (rs : List Run). AreBound rs all.questions) whole all.bound in
    let count : length x.slots ≡ slot_count h a = t.count ∙ sym (count-of h a t.started t.start_is) in
    let scores : map history.scored (slots h a) ≡ map scored (zip x.slots all.questions) =
    sym (ap (λ (rs : List Run). map scored (zip rs all.questions)) (sym whole) ∙ all.count ∙ ap (λ (n : ℕ). map history.scored (filter_map (slot h a) (places_to n))) count) in
    given all.questions bound ∙ finished-by h a x.ending (total_of (map scored (zip x.slots all.questions))) t.how (ap total_of scores)
