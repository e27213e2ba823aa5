-- What stays kept in a run of calls, in the words of a disk that may tell its bytes.
use Rattle.std.proofs.Common.{◌≡◌, inl, inr, ⊎_elim, ℕ, ◌≤◌, false, is_some, is_none, List, [], ◌∷◌, ◌++◌, length, take, drop, replicate, Ok, Option, Some, None, option_map, IfSome, refl, sym, ◌∙◌, ap, subst, arith}
use Rattle.std.specs.Int.{to_le_bytes, w32}
use Rattle.std.proofs.lemmas.Nat.{from_le_bytes-to_le_bytes_4}
use Rattle.std.proofs.lemmas.Bool.{cases_lt, true≢false, false≢true}
use Rattle.std.proofs.lemmas.List.{append-nil, append_assoc, take_at}
use Rattle.qz_disks.specs.Disks.{Same, Elapses, LeavesOnly}
use Rattle.qz_disks.specs.Keepers.{with_one_more, MayStand}
use Rattle.qz_disks.proofs.Moments.{started, one_call, run_end}
use Rattle.qz_journal.specs.Frames.{payload_length, shut_frame, stands_for}
use Rattle.qz_journal.specs.Journals.{gate_behind, payloads_before, payload_of, roomy_frame, HoldsFrame, StandsFor, StandFor, StandsAs, StandsLike, IsAtRest, IsKept, IsLoaded, IsRead}
use Rattle.qz_journal.proofs.Fronts.{same_ok}
use Rattle.qz_journal.proofs.Images.{kept_before, resting}
use Rattle.qz_journal.proofs.Calls.{kept_resting}

-- one run behind another
pub runs_on : (P Q : List ℕ → Type 0) (a b c : ℕ) (p q r : ℕ → List ℕ → Type 0) → LeavesOnly P a b p q → LeavesOnly Q b c q r → ((x : List ℕ) → Q x → P x) → LeavesOnly P a c p r
runs_on P Q a b c p q r first second gives = record {
  later = omega (arith, first.later, second.later);
  each = λ t x lower upper left. ⊎_elim
      (λ past_it. gives x (second.each t x (omega arith) upper left))
      (λ within. first.each t x lower within (second.adds_nothing t x within left))
      (cases_lt b t);
  adds_nothing = λ t x le left. first.adds_nothing t x le (second.adds_nothing t x (omega (arith, first.later)) left);
}

pub looked : (P : List ℕ → Type 0) (a b : ℕ) (p q : ℕ → List ℕ → Type 0) → Elapses Same a b p q → ((c : List ℕ) → p a c → P c) → LeavesOnly P a b p q
looked P a b p q time here = one_call P Same a b p q time here (λ d c left same. subst P (sym same) (here d left))

stands_as : (outcomes : List ℕ → Type 0) (c : List ℕ) → outcomes c → StandsAs outcomes c
stands_as outcomes c possible = record { outcome = c; possible = possible; same = refl }

-- reading and then mending
pub recover_crash : (o mid : Option (List ℕ)) (a b c : ℕ) (p q r : ℕ → List ℕ → Type 0) → mid ≡ o → IfSome o (p a) → Elapses Same a b p q → IfSome mid (λ bytes. LeavesOnly (StandsLike bytes) b c q r)
    → IfSome o (λ _. LeavesOnly (StandsAs (p a)) a c p r)
recover_crash None mid a b c p q r same now time mended = now
recover_crash (Some bytes) mid a b c p q r same now time mended =
    let here = subst (λ o. IfSome o (λ bytes. LeavesOnly (StandsLike bytes) b c q r)) same mended in
    runs_on (StandsAs (p a)) (StandsLike bytes) a b c p q r (looked (StandsAs (p a)) a b p q time (stands_as (p a))) here
    (λ x like. record { outcome = bytes; possible = now; same = like.same })

-- what the file stands for after a run that keeps it
stands_now : (bytes image : List ℕ) (b c : ℕ) (q r : ℕ → List ℕ → Type 0) → LeavesOnly (StandsLike bytes) b c q r → r c image → stands_for image ≡ stands_for bytes
stands_now bytes image b c q r run now = (run_end (StandsLike bytes) b c q r run image now).same

pub recover_loaded : (o mid n : Option (List ℕ)) (size gate b c : ℕ) (payloads : List (List ℕ)) (q r : ℕ → List ℕ → Type 0) → mid ≡ o → is_some n ≡ is_some mid → IfSome o (IsRead size gate payloads)
    → IfSome mid (λ bytes. LeavesOnly (StandsLike bytes) b c q r) → IfSome n (λ bytes. IsAtRest gate bytes (r c)) → IfSome n (r c) → IfSome n (IsLoaded gate payloads (r c))
recover_loaded o mid None size gate b c payloads q r same tells read mended rests now = now
recover_loaded None mid (Some after) size gate b c payloads q r same tells read mended rests now = absurd (true≢false (tells ∙ ap is_some same))
recover_loaded (Some bytes) mid (Some after) size gate b c payloads q r same tells read mended rests now =
    let run = subst (λ o. IfSome o (λ bytes. LeavesOnly (StandsLike bytes) b c q r)) same mended in
    let stands = stands_now bytes after b c q r run now ∙ read.stands in
    let both = kept_resting payloads gate after (r c) (resting payloads gate after (r c) rests stands read.place) rests.durable in
    record { kept = both.0; list = both.1 }

-- frames and their payloads

pub payload_framed : (payload behind : List ℕ) → length payload ≤ 67108864 → payload_of (shut_frame payload ++ behind) ≡ payload
payload_framed payload behind fits =
    let size = to_le_bytes w32 (length payload) in
    let told : payload_length (shut_frame payload ++ behind) ≡ length payload = from_le_bytes-to_le_bytes_4 (length payload) (omega arith) in
    let stands : drop 4 (shut_frame payload ++ behind) ≡ payload ++ 0 ∷ behind = append_assoc payload (0 ∷ []) behind in
    ap (λ (n : ℕ). take n (drop 4 (shut_frame payload ++ behind))) told ∙ ap (λ (l : List ℕ). take (length payload) l) stands ∙ take_at payload (0 ∷ behind) (length payload) (omega arith)

pub holds_frame : (payload frame : List ℕ) (room : ℕ) → length payload ≤ 67108864 → frame ≡ roomy_frame room payload → (payload_of frame ≡ payload) × HoldsFrame frame
holds_frame payload frame room fits is =
    let same : payload_of frame ≡ payload = ap payload_of is ∙ payload_framed payload (replicate room 0) fits in (
      same,
      record { behind = replicate room 0; split = is ∙ ap (λ (l : List ℕ). shut_frame l ++ replicate room 0) (sym same) },
    )

-- a journal that may be in doubt

like_stands : (payloads : List (List ℕ)) (doubt : Option (List ℕ)) (bytes image : List ℕ) → stands_for image ≡ stands_for bytes → StandsFor payloads doubt bytes → StandsFor payloads doubt image
like_stands payloads None bytes image same stands = same ∙ stands
like_stands payloads (Some payload) bytes image same (inl stands) = inl (same ∙ stands)
like_stands payloads (Some payload) bytes image same (inr stands) = inr (same ∙ stands)

may_stand : (payloads found : List (List ℕ)) (doubt : Option (List ℕ)) (bytes : List ℕ) → StandsFor payloads doubt bytes → stands_for bytes ≡ Ok found → MayStand payloads doubt found
may_stand payloads found None bytes stands is = same_ok found payloads (sym is ∙ stands)
may_stand payloads found (Some payload) bytes (inl stands) is = inl (same_ok found payloads (sym is ∙ stands))
may_stand payloads found (Some payload) bytes (inr stands) is = inr (same_ok found (with_one_more payload payloads) (sym is ∙ stands))

stands_kept : (payloads : List (List ℕ)) (doubt : Option (List ℕ)) (gate : ℕ) (image : List ℕ) → StandsFor payloads doubt image → gate ≡ gate_behind payloads → payloads_before gate image ≡ payloads
stands_kept payloads None gate image stands place = kept_before image payloads [] gate (stands ∙ ap (λ l. Ok l) (sym (append-nil payloads))) place
stands_kept payloads (Some payload) gate image (inl stands) place = kept_before image payloads [] gate (stands ∙ ap (λ l. Ok l) (sym (append-nil payloads))) place
stands_kept payloads (Some payload) gate image (inr stands) place = kept_before image payloads (payload ∷ []) gate stands place

-- in a run over which each outcome stands for the list, it stays the list in front of the gate
still : (gate : ℕ) (doubt : Option (List ℕ)) (bytes after : List ℕ) (outcomes : List ℕ → Type 0) → gate ≡ gate_behind (payloads_before gate bytes) → ((c : List ℕ) → outcomes c → StandsFor (payloads_before gate bytes) doubt c) → outcomes after
    → (doubt ≡ None → ⊥) → IsKept gate doubt outcomes after × (payloads_before gate after ≡ payloads_before gate bytes)
still gate doubt bytes after outcomes place stand now doubtful =
    let same = stands_kept (payloads_before gate bytes) doubt gate after (stand after now) place in (
      record {
        place = place ∙ ap gate_behind (sym same);
        stand = record { each = λ c left. subst (λ l. StandsFor l doubt c) (sym same) (stand c left) };
        at_rest = λ none. absurd (doubtful none);
      },
      same,
    )

-- the same for a disk that may tell its bytes
pub still_kept : (o n : Option (List ℕ)) (gate : ℕ) (doubt : Option (List ℕ)) (outcomes : List ℕ → Type 0) → is_some n ≡ is_some o → IfSome o (λ bytes. gate ≡ gate_behind (payloads_before gate bytes))
    → IfSome o (λ bytes. StandFor (payloads_before gate bytes) doubt outcomes) → IfSome n outcomes → (doubt ≡ None → ⊥)
    → IfSome n (IsKept gate doubt outcomes) × (option_map (payloads_before gate) n ≡ option_map (payloads_before gate) o)
still_kept None None gate doubt outcomes tells place stand now doubtful = (now, refl)
still_kept None (Some after) gate doubt outcomes tells place stand now doubtful = absurd (true≢false tells)
still_kept (Some bytes) None gate doubt outcomes tells place stand now doubtful = absurd (false≢true tells)
still_kept (Some bytes) (Some after) gate doubt outcomes tells place stand now doubtful =
    let both = still gate doubt bytes after outcomes place stand.each now doubtful in (both.0, ap (λ l. Some l) both.1)

-- an append

pub append_started : (o : Option (List ℕ)) (gate a : ℕ) (doubt : Option (List ℕ)) (payload : List ℕ) (p : ℕ → List ℕ → Type 0) → IfSome o (IsKept gate doubt (p a)) → doubt ≡ None
    → IfSome (option_map (payloads_before gate) o) (λ payloads. LeavesOnly (StandsFor payloads (Some payload)) a a p p)
append_started None gate a doubt payload p kept none = kept
append_started (Some bytes) gate a doubt payload p kept none =
    started (StandsFor (payloads_before gate bytes) (Some payload)) a p (λ c left. inl (subst (λ d. StandsFor (payloads_before gate bytes) d c) none (kept.stand.each c left)))

pub append_run : (o mid : Option (List ℕ)) (gate a b c : ℕ) (doubt : Option (List ℕ)) (payload written : List ℕ) (p q r : ℕ → List ℕ → Type 0) → mid ≡ o → IfSome o (IsKept gate doubt (p a)) → doubt ≡ None → written ≡ payload
    → Elapses Same a b p q → IfSome mid (λ bytes. LeavesOnly (StandsFor (payloads_before gate bytes) (Some written)) b c q r)
    → IfSome (option_map (payloads_before gate) o) (λ payloads. LeavesOnly (StandsFor payloads (Some payload)) a c p r)
append_run None mid gate a b c doubt payload written p q r same kept none is time put = kept
append_run (Some bytes) mid gate a b c doubt payload written p q r same kept none is time put =
    let P = StandsFor (payloads_before gate bytes) (Some payload) in
    let here = subst (λ o. IfSome o (λ bytes. LeavesOnly (StandsFor (payloads_before gate bytes) (Some written)) b c q r)) same put in
    let now = subst (λ w. LeavesOnly (StandsFor (payloads_before gate bytes) (Some w)) b c q r) is here in
    runs_on P P a b c p q r (looked P a b p q time (λ x left. inl (subst (λ d. StandsFor (payloads_before gate bytes) d x) none (kept.stand.each x left)))) now (λ x has. has)

pub append_doubtful : (o mid n : Option (List ℕ)) (gate b c : ℕ) (doubt : Option (List ℕ)) (written : List ℕ) (before : List ℕ → Type 0) (q r : ℕ → List ℕ → Type 0) → mid ≡ o → is_some n ≡ is_some mid → IfSome o (IsKept gate doubt before)
    → IfSome mid (λ bytes. LeavesOnly (StandsFor (payloads_before gate bytes) (Some written)) b c q r) → IfSome n (r c)
    → IfSome n (IsKept gate (Some written) (r c)) × (option_map (payloads_before gate) n ≡ option_map (payloads_before gate) o)
append_doubtful o mid n gate b c doubt written before q r same tells kept put now =
    still_kept o n gate (Some written) (r c) (tells ∙ ap is_some same) (places o kept) (stands o (subst (λ o. IfSome o (λ bytes. LeavesOnly (StandsFor (payloads_before gate bytes) (Some written)) b c q r)) same put)) now
    (λ none. false≢true (ap is_some (sym none)))
  where
    places : (o : Option (List ℕ)) → IfSome o (IsKept gate doubt before) → IfSome o (λ bytes. gate ≡ gate_behind (payloads_before gate bytes))
    places None kept = kept
    places (Some bytes) kept = kept.place

    stands : (o : Option (List ℕ)) → IfSome o (λ bytes. LeavesOnly (StandsFor (payloads_before gate bytes) (Some written)) b c q r) → IfSome o (λ bytes. StandFor (payloads_before gate bytes) (Some written) (r c))
    stands None put = put
    stands (Some bytes) put = record { each = run_end (StandsFor (payloads_before gate bytes) (Some written)) b c q r put }

-- opening again

-- a mending that failed
pub reopen_still : (o mid n : Option (List ℕ)) (gate b c : ℕ) (doubt : Option (List ℕ)) (before : List ℕ → Type 0) (q r : ℕ → List ℕ → Type 0) → mid ≡ o → is_some n ≡ is_some mid → IfSome o before → IfSome o (IsKept gate doubt before)
    → IfSome mid (λ bytes. LeavesOnly (StandsLike bytes) b c q r) → IfSome n (r c) → (doubt ≡ None → ⊥)
    → IfSome n (IsKept gate doubt (r c)) × (option_map (payloads_before gate) n ≡ option_map (payloads_before gate) o)
reopen_still o mid n gate b c doubt before q r same tells now kept mended later doubtful =
    still_kept o n gate doubt (r c) (tells ∙ ap is_some same) (places o kept) (stands o now kept (subst (λ o. IfSome o (λ bytes. LeavesOnly (StandsLike bytes) b c q r)) same mended)) later doubtful
  where
    places : (o : Option (List ℕ)) → IfSome o (IsKept gate doubt before) → IfSome o (λ bytes. gate ≡ gate_behind (payloads_before gate bytes))
    places None kept = kept
    places (Some bytes) kept = kept.place

    stands : (o : Option (List ℕ)) → IfSome o before → IfSome o (IsKept gate doubt before) → IfSome o (λ bytes. LeavesOnly (StandsLike bytes) b c q r) → IfSome o (λ bytes. StandFor (payloads_before gate bytes) doubt (r c))
    stands None now kept run = run
    stands (Some bytes) now kept run = record { each = λ x left. like_stands (payloads_before gate bytes) doubt bytes x (stands_now bytes x b c q r run left) (kept.stand.each bytes now) }

-- the list found is one that might stand
pub reopen_may : (o : Option (List ℕ)) (size gate found_gate : ℕ) (found : List (List ℕ)) (doubt : Option (List ℕ)) (outcomes : List ℕ → Type 0) → IfSome o outcomes → IfSome o (IsKept gate doubt outcomes) → IfSome o (IsRead size found_gate found)
    → IfSome (option_map (payloads_before gate) o) (λ payloads. MayStand payloads doubt found)
reopen_may None size gate found_gate found doubt outcomes now kept read = now
reopen_may (Some bytes) size gate found_gate found doubt outcomes now kept read = may_stand (payloads_before gate bytes) found doubt bytes (kept.stand.each bytes now) read.stands

-- what was loaded is kept
pub loaded_kept : (o n : Option (List ℕ)) (gate found_gate : ℕ) (found : List (List ℕ)) (outcomes : List ℕ → Type 0) → is_some n ≡ is_some o → IfSome n (IsLoaded found_gate found outcomes)
    → IfSome n (IsKept found_gate None outcomes) × (option_map (payloads_before found_gate) n ≡ option_map (λ _. found) (option_map (payloads_before gate) o))
loaded_kept None None gate found_gate found outcomes tells loaded = (loaded, refl)
loaded_kept None (Some after) gate found_gate found outcomes tells loaded = absurd (true≢false tells)
loaded_kept (Some bytes) None gate found_gate found outcomes tells loaded = absurd (false≢true tells)
loaded_kept (Some bytes) (Some after) gate found_gate found outcomes tells loaded = (loaded.kept, ap (λ l. Some l) loaded.list)

crash_kept : (o : Option (List ℕ)) (gate a c : ℕ) (p r : ℕ → List ℕ → Type 0) → IfSome o (λ _. LeavesOnly (StandsAs (p a)) a c p r) → IfSome (option_map (payloads_before gate) o) (λ _. LeavesOnly (StandsAs (p a)) a c p r)
crash_kept None gate a c p r run = run
crash_kept (Some bytes) gate a c p r run = run

pub reopen_crash : (o mid : Option (List ℕ)) (gate a b c : ℕ) (p q r : ℕ → List ℕ → Type 0) → mid ≡ o → IfSome o (p a) → Elapses Same a b p q → IfSome mid (λ bytes. LeavesOnly (StandsLike bytes) b c q r)
    → IfSome (option_map (payloads_before gate) o) (λ _. LeavesOnly (StandsAs (p a)) a c p r)
reopen_crash o mid gate a b c p q r same now time mended = crash_kept o gate a c p r (recover_crash o mid a b c p q r same now time mended)

-- a frame in doubt is a payload in doubt
pub doubtful : (doubt : Option (List ℕ)) → is_none doubt ≡ false → option_map payload_of doubt ≡ None → ⊥
doubtful None none same = true≢false none
doubtful (Some frame) none same = true≢false (ap is_some same)

-- and no frame is none
pub settled : (doubt : Option (List ℕ)) → is_some doubt ≡ false → option_map payload_of doubt ≡ None
settled None none = refl
settled (Some frame) none = absurd (true≢false none)
