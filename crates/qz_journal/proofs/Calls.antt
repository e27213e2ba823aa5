-- What the calls of an append and of a mending leave, in the words of a disk that may tell its bytes.
use Rattle.std.proofs.Common.{◌≡◌, inl, ℕ, ◌+◌, ◌≤◌, ◌<◌, List, [], ◌∷◌, ◌++◌, length, take, Ok, Option, Some, None, option_map, IfSome, refl, sym, ◌∙◌, ap, subst, arith}
use Rattle.std.proofs.lemmas.List.{append-nil, append_assoc}
use Rattle.qz_disks.specs.Disks.{overwritten, Torn, Cut, Elapses, LeavesOnly, IsDurable}
use Rattle.qz_disks.specs.Keepers.{with_one_more}
use Rattle.qz_disks.proofs.Moments.{one_call, goes_on, at_end, run_end}
use Rattle.qz_journal.specs.Frames.{header, shut_frame, stands_for}
use Rattle.qz_journal.specs.Journals.{gate_behind, payloads_of, payloads_before, payload_of, HoldsFrame, StandsFor, StandFor, StandsLike, IsAtRest, IsKept, IsPut, IsRead}
use Rattle.qz_journal.proofs.Fronts.{same_ok}
use Rattle.qz_journal.proofs.Images.{Framed, framed_of, short_image, kept_before, Resting, resting, at_rest, resting_stands, resting_place}
use Rattle.qz_journal.proofs.Crashes.{torn_behind, rest_behind, written_behind, torn_gate, written_gate, length-framed, cut_behind, cut_rests, cut_short, torn_short}

-- a file at rest is a journal without a doubt
pub kept_resting : (payloads : List (List ℕ)) (gate : ℕ) (bytes : List ℕ) (outcomes : List ℕ → Type 0) → Resting payloads gate bytes → IsDurable bytes outcomes
    → IsKept gate None outcomes bytes × (payloads_before gate bytes ≡ payloads)
kept_resting payloads gate bytes outcomes r durable =
    let stands = resting_stands payloads gate bytes r in
    let place = resting_place payloads gate bytes r in
    let same : payloads_before gate bytes ≡ payloads = kept_before bytes payloads [] gate (stands ∙ ap (λ l. Ok l) (sym (append-nil payloads))) place in (
      record {
        place = place ∙ ap gate_behind (sym same);
        stand = record { each = λ c left. ap stands_for (durable.only c left) ∙ stands ∙ ap (λ l. Ok l) (sym same) };
        at_rest = λ _. at_rest payloads gate bytes outcomes r durable;
      },
      same,
    )

-- mending

pub mend_place : (o : Option (List ℕ)) (size gate : ℕ) → IfSome o (λ bytes. IsRead size gate (payloads_of bytes) bytes) → 9 < size → IfSome o (λ bytes. gate + 1 ≤ length bytes)
mend_place None size gate read long = read
mend_place (Some bytes) size gate read long =
    length-framed (payloads_of bytes) gate bytes (framed_of bytes (payloads_of bytes) (let whole = read.whole in omega arith) read.stands) read.place

pub mend_rests : (o n : Option (List ℕ)) (size gate : ℕ) (outcomes : List ℕ → Type 0) → IfSome o (λ bytes. IsRead size gate (payloads_of bytes) bytes) → 9 < size
    → n ≡ option_map (take (gate + 1)) o → IfSome n (λ bytes. IsDurable bytes outcomes) → IfSome n (λ bytes. IsAtRest gate bytes outcomes)
mend_rests None n size gate outcomes read long is durable = subst (λ n. IfSome n (λ bytes. IsAtRest gate bytes outcomes)) (sym is) read
mend_rests (Some bytes) n size gate outcomes read long is durable =
    let durable_here = subst (λ n. IfSome n (λ bytes. IsDurable bytes outcomes)) is durable in
    let f = framed_of bytes (payloads_of bytes) (let whole = read.whole in omega arith) read.stands in
    let r = cut_rests (payloads_of bytes) gate bytes f read.place in
    subst (λ n. IfSome n (λ bytes. IsAtRest gate bytes outcomes)) (sym is) (at_rest (payloads_of bytes) gate (take (gate + 1) bytes) outcomes r durable_here)

pub mend_cut : (o : Option (List ℕ)) (size gate a b : ℕ) (p q : ℕ → List ℕ → Type 0) → IfSome o (λ bytes. IsRead size gate (payloads_of bytes) bytes) → IfSome o (λ bytes. IsDurable bytes (p a)) → 9 < size
    → Elapses (Cut (gate + 1)) a b p q → IfSome o (λ bytes. LeavesOnly (StandsLike bytes) a b p q)
mend_cut None size gate a b p q read durable long time = read
mend_cut (Some bytes) size gate a b p q read durable long time =
    let f = framed_of bytes (payloads_of bytes) (let whole = read.whole in omega arith) read.stands in
    one_call (StandsLike bytes) (Cut (gate + 1)) a b p q time
    (λ c left. record { same = ap stands_for (durable.only c left) })
    (λ d c left cut. record { same = cut_behind (payloads_of bytes) gate bytes f read.place c (subst (λ e. Cut (gate + 1) e c) (durable.only d left) cut) ∙ sym read.stands })

pub mend_emptied : (o : Option (List ℕ)) (size gate a b : ℕ) (p q : ℕ → List ℕ → Type 0) → IfSome o (λ bytes. IsRead size gate (payloads_of bytes) bytes) → IfSome o (λ bytes. IsDurable bytes (p a)) → size ≤ 9
    → Elapses (Cut 0) a b p q → IfSome o (λ bytes. LeavesOnly (StandsLike bytes) a b p q)
mend_emptied None size gate a b p q read durable short time = read
mend_emptied (Some bytes) size gate a b p q read durable short time =
    let within : length bytes ≤ 9 = let whole = read.whole in omega arith in
    one_call (StandsLike bytes) (Cut 0) a b p q time
    (λ c left. record { same = ap stands_for (durable.only c left) })
    (λ d c left cut. record { same = short_image c (cut_short bytes c within (subst (λ e. Cut 0 e c) (durable.only d left) cut)) ∙ sym (short_image bytes within) })

pub mend_begun : (o : Option (List ℕ)) (size gate a b c : ℕ) (p q r : ℕ → List ℕ → Type 0) → IfSome o (λ bytes. IsRead size gate (payloads_of bytes) bytes) → IfSome o (λ bytes. IsDurable bytes (p a)) → size ≤ 9
    → Elapses (Cut 0) a b p q → Elapses (Torn 0 9) b c q r → IfSome o (λ bytes. LeavesOnly (StandsLike bytes) a c p r)
mend_begun None size gate a b c p q r read durable short first second = read
mend_begun (Some bytes) size gate a b c p q r read durable short first second =
    let within : length bytes ≤ 9 = let whole = read.whole in omega arith in
    let after : (d : List ℕ) → q b d → length d ≤ 9 = at_end (Cut 0) a b p q (λ d. length d ≤ 9) first
    (λ d left. let sizes = ap length (durable.only d left) in omega arith)
    (λ e d left cut. cut_short bytes d within (subst (λ x. Cut 0 x d) (durable.only e left) cut)) in
    goes_on (StandsLike bytes) (Torn 0 9) a b c p q r (mend_emptied (Some bytes) size gate a b p q read durable short first) second
    (λ d x left torn. record { same = short_image x (torn_short d x (after d left) torn) ∙ sym (short_image bytes within) })

-- the file that was begun anew
pub mend_rests_begun : (o m n : Option (List ℕ)) (size gate : ℕ) (outcomes : List ℕ → Type 0) → IfSome o (λ bytes. IsRead size gate (payloads_of bytes) bytes) → size ≤ 9 → m ≡ option_map (take 0) o
    → n ≡ option_map (overwritten 0 (header ++ 0 ∷ [])) m → IfSome n (λ bytes. IsDurable bytes outcomes) → IfSome n (λ bytes. IsAtRest gate bytes outcomes)
mend_rests_begun None m n size gate outcomes read short emptied written durable = subst (λ n. IfSome n (λ bytes. IsAtRest gate bytes outcomes)) (sym (written ∙ ap (option_map (overwritten 0 (header ++ 0 ∷ []))) emptied)) read
mend_rests_begun (Some bytes) m n size gate outcomes read short emptied written durable =
    let is : n ≡ Some (header ++ 0 ∷ []) = written ∙ ap (option_map (overwritten 0 (header ++ 0 ∷ []))) emptied in
    let durable_here = subst (λ n. IfSome n (λ bytes. IsDurable bytes outcomes)) is durable in
    let within : length bytes ≤ 9 = let whole = read.whole in omega arith in
    let none : payloads_of bytes ≡ [] = same_ok (payloads_of bytes) [] (sym read.stands ∙ short_image bytes within) in
    let eight : gate ≡ 8 = read.place ∙ ap gate_behind none in
    let rests : IsAtRest 8 (header ++ 0 ∷ []) outcomes = record { shut = 0; behind = []; closed = omega arith; file = refl; begins = refl; durable = durable_here } in
    subst (λ n. IfSome n (λ bytes. IsAtRest gate bytes outcomes)) (sym is) (subst (λ g. IsAtRest g (header ++ 0 ∷ []) outcomes) (sym eight) rests)

-- putting a frame

pub kept_rests : (gate : ℕ) (bytes : List ℕ) (outcomes : List ℕ → Type 0) → IsKept gate None outcomes bytes → outcomes bytes → Resting (payloads_before gate bytes) gate bytes
kept_rests gate bytes outcomes kept now = resting (payloads_before gate bytes) gate bytes outcomes (kept.at_rest refl) (kept.stand.each bytes now) kept.place

pub put_behind : (o : Option (List ℕ)) (gate count a b : ℕ) (payload : List ℕ) (p q : ℕ → List ℕ → Type 0) → IfSome o (p a) → IfSome o (IsKept gate None (p a)) → Elapses (Torn (gate + 1) count) a b p q
    → IfSome o (λ bytes. LeavesOnly (StandsFor (payloads_before gate bytes) (Some payload)) a b p q)
put_behind None gate count a b payload p q now kept time = now
put_behind (Some bytes) gate count a b payload p q now kept time =
    let rests = kept_rests gate bytes (p a) kept now in
    one_call (StandsFor (payloads_before gate bytes) (Some payload)) (Torn (gate + 1) count) a b p q time
    (λ c left. inl (kept.stand.each c left))
    (λ d c left torn. inl (torn_behind (payloads_before gate bytes) gate bytes rests count c (subst (λ e. Torn (gate + 1) count e c) ((kept.at_rest refl).durable.only d left) torn)))

-- a frame behind a gate, in parts
frame_staged : (frame rest front : List ℕ) (gate : ℕ) (holds : HoldsFrame frame) → header ++ (front ++ gate ∷ (frame ++ rest)) ≡ header ++ (front ++ gate ∷ (shut_frame (payload_of frame) ++ (holds.behind ++ rest)))
frame_staged frame rest front gate holds =
    ap (λ (l : List ℕ). header ++ (front ++ gate ∷ l)) (ap (λ (l : List ℕ). l ++ rest) holds.split ∙ append_assoc (shut_frame (payload_of frame)) holds.behind rest)

pub put_opened : (o n : Option (List ℕ)) (gate a b c : ℕ) (frame : List ℕ) (p q r : ℕ → List ℕ → Type 0) → IfSome o (p a) → IfSome o (IsKept gate None (p a)) → HoldsFrame frame → length (payload_of frame) ≤ 67108864
    → Elapses (Torn (gate + 1) (length frame)) a b p q → n ≡ option_map (overwritten (gate + 1) frame) o → IfSome n (λ bytes. IsDurable bytes (q b)) → Elapses (Torn gate 1) b c q r
    → IfSome o (λ bytes. LeavesOnly (StandsFor (payloads_before gate bytes) (Some (payload_of frame))) a c p r)
put_opened None n gate a b c frame p q r now kept holds fits first written durable second = now
put_opened (Some bytes) n gate a b c frame p q r now kept holds fits first written durable second =
    let L = payloads_before gate bytes in
    let payload = payload_of frame in
    let rests = kept_rests gate bytes (p a) kept now in
    let durable_here = subst (λ n. IfSome n (λ bytes. IsDurable bytes (q b))) written durable in
    let staged_is = written_behind L gate bytes rests frame ∙ frame_staged frame (rest_behind L gate bytes rests frame) rests.front rests.gate holds in
    goes_on (StandsFor L (Some payload)) (Torn gate 1) a b c p q r (put_behind (Some bytes) gate (length frame) a b payload p q now kept first) second
    (λ d x left torn. torn_gate L gate bytes rests payload (holds.behind ++ rest_behind L gate bytes rests frame) (omega arith) x
    (subst (λ e. Torn gate 1 e x) (durable_here.only d left ∙ staged_is) torn))

pub put_kept : (o n m : Option (List ℕ)) (gate : ℕ) (frame : List ℕ) (before outcomes : List ℕ → Type 0) → IfSome o before → IfSome o (IsKept gate None before) → HoldsFrame frame → length (payload_of frame) ≤ 67108864
    → n ≡ option_map (overwritten (gate + 1) frame) o → m ≡ option_map (overwritten gate (1 ∷ [])) n → IfSome m (λ bytes. IsDurable bytes outcomes)
    → IfSome o (λ bytes. IfSome m (IsPut gate (payload_of frame) (payloads_before gate bytes) outcomes))
put_kept None n m gate frame before outcomes now kept holds fits written opened durable = now
put_kept (Some bytes) n m gate frame before outcomes now kept holds fits written opened durable =
    let L = payloads_before gate bytes in
    let payload = payload_of frame in
    let rests = kept_rests gate bytes before kept now in
    let after = overwritten gate (1 ∷ []) (overwritten (gate + 1) frame bytes) in
    let m_is : m ≡ Some after = opened ∙ ap (option_map (overwritten gate (1 ∷ []))) written in
    let durable_here = subst (λ m. IfSome m (λ bytes. IsDurable bytes outcomes)) m_is durable in
    let staged_is = written_behind L gate bytes rests frame ∙ frame_staged frame (rest_behind L gate bytes rests frame) rests.front rests.gate holds in
    let longer : Resting (with_one_more payload L) (gate + 5 + length payload) after =
    subst (Resting (with_one_more payload L) (gate + 5 + length payload)) (ap (overwritten gate (1 ∷ [])) (sym staged_is)) (written_gate L gate bytes rests payload (holds.behind ++ rest_behind L gate bytes rests frame) (omega arith)) in
    let both = kept_resting (with_one_more payload L) (gate + 5 + length payload) after outcomes longer durable_here in
    subst (λ m. IfSome m (IsPut gate payload L outcomes)) (sym m_is) (record { kept = both.0; list = both.1 })

-- giving the room behind the gate up

pub spare_run : (o : Option (List ℕ)) (gate a b : ℕ) (doubt : Option (List ℕ)) (p q : ℕ → List ℕ → Type 0) → doubt ≡ None → IfSome o (p a) → IfSome o (IsKept gate doubt (p a)) → Elapses (Cut (gate + 1)) a b p q
    → IfSome (option_map (payloads_before gate) o) (λ payloads. LeavesOnly (StandsFor payloads doubt) a b p q)
spare_run None gate a b doubt p q none now kept time = now
spare_run (Some bytes) gate a b doubt p q none now kept time =
    let L = payloads_before gate bytes in
    let settled = subst (λ d. IsKept gate d (p a) bytes) none kept in
    let r = kept_rests gate bytes (p a) settled now in
    let f : Framed L bytes = record { front = r.front; gate = r.gate; behind = r.behind; split = r.split; front_is = r.front_is; shut = r.shut } in
    subst (λ d. LeavesOnly (StandsFor L d) a b p q) (sym none) (one_call (StandsFor L None) (Cut (gate + 1)) a b p q time settled.stand.each
    (λ d c left cut. cut_behind L gate bytes f settled.place c (subst (λ e. Cut (gate + 1) e c) ((settled.at_rest refl).durable.only d left) cut)))

pub spare_stands : (o : Option (List ℕ)) (gate a b : ℕ) (doubt : Option (List ℕ)) (p q : ℕ → List ℕ → Type 0) → IfSome (option_map (payloads_before gate) o) (λ payloads. LeavesOnly (StandsFor payloads doubt) a b p q)
    → IfSome (option_map (payloads_before gate) o) (λ payloads. StandFor payloads doubt (q b))
spare_stands None gate a b doubt p q run = run
spare_stands (Some bytes) gate a b doubt p q run = record { each = run_end (StandsFor (payloads_before gate bytes) doubt) a b p q run }
