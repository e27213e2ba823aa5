-- What files stand for that are opened and given back.
use Rattle.std.proofs.Common.{◌≡◌, ℕ, List, map, Option, None, Some, IfSome, Ok, option_map, ap, sym, subst, ◌∙◌, refl}
use Rattle.qz_disks.specs.Shelves.{File, SameFile}
use Rattle.qz_folders.proofs.Files.{carried}
use Rattle.qz_folders.specs.Opening.{IsOpened, LeavesSince, StandsStill}
use Rattle.qz_journal.specs.Frames.{stands_for}
use Rattle.qz_journal.specs.Journals.{Ledger, StandFor, StandsAs, StandsFor}
use Rattle.qz_loading.specs.Closing.{IsBack, StandForList}
use Rattle.qz_loading.specs.Places.{StaysLike}
use Rattle.qz_terms.specs.Serial.{Held}
use Rattle.qz_terms.specs.Spelling.{spelling}

-- ---- files that are as they were

pub same_twice : (a b c : File) → SameFile a b → SameFile b c → SameFile a c
same_twice a b c one two = record {
  reads = two.reads ∙ one.reads;
  keeps = λ x left. two.keeps x (one.keeps x left);
  adds_nothing = λ x left. one.adds_nothing x (two.adds_nothing x left);
}

always : {T : Type 0} {P : Type 0} (o : Option T) → P → IfSome o (λ _. P)
always None p = tt
always (Some x) p = p

pub stays_same : (a b : File) → SameFile a b → StaysLike a b
stays_same a b same = always a.reads (record { each = λ c left. record { outcome = c; possible = same.adds_nothing c left; same = refl } })

like_both : {a b c : List ℕ → Type 0} → StandsStill a b → ((x : List ℕ) → c x → b x) → StandsStill a c
like_both one adds_nothing = record { each = λ x left. one.each x (adds_nothing x left) }

pub stays_then_same : (a b c : File) → StaysLike a b → SameFile b c → StaysLike a c
stays_then_same a b c stays same = carried a.reads a.reads refl stays (λ _ h. like_both h same.adds_nothing)

like : {old new : List ℕ → Type 0} → ((c : List ℕ) → new c → old c) → (c : List ℕ) → StandsAs new c → StandsAs old c
like adds_nothing c stands = record { outcome = stands.outcome; possible = adds_nothing stands.outcome stands.possible; same = stands.same }

pub same_then_stays : (a b c : File) → SameFile a b → StaysLike b c → StaysLike a c
same_then_stays a b c same stays = carried a.reads b.reads same.reads stays (λ _ h. record { each = λ x left. like same.adds_nothing x (h.each x left) })

-- ---- journals

since_like : (a b : File) (now : ℕ) (left_at : ℕ → List ℕ → Type 0) → SameFile a b → LeavesSince (StandsAs b.left) b now left_at → LeavesSince (StandsAs a.left) a now left_at
since_like a b now left_at same since = record {
  began = since.began;
  later = since.later;
  begins = λ c left. same.adds_nothing c (since.begins c left);
  each = λ t c lower upper left. like same.adds_nothing c (since.each t c lower upper left);
}

-- a journal of a file that was as another is one of the other
pub opened_like : {D : Type 0} (moment : D → ℕ) (left_at : D → ℕ → List ℕ → Type 0) (a b : File) (journal : Ledger D) (payloads : List (List ℕ)) → SameFile a b
    → IsOpened moment left_at b journal payloads → IsOpened moment left_at a journal payloads
opened_like moment left_at a b journal payloads same opened = record {
  list = carried a.reads b.reads same.reads opened.list (λ _ h. h);
  kept = opened.kept ∙ ap (option_map (λ _. payloads)) same.reads;
  no_doubt = opened.no_doubt;
  acknowledged = carried a.reads b.reads same.reads opened.acknowledged (λ _ h. h);
  any_moment = carried a.reads b.reads same.reads opened.any_moment (λ _ h. since_like a b (moment journal.disk) (left_at journal.disk) same h);
}

-- ---- lists that were opened, and given back as they were

-- a file that stood for a list stands for it still
stood : (old new : File) (held : Held) (payloads : List (List ℕ)) (o : Option (List ℕ)) (kept : Option (List (List ℕ))) → IfSome o (λ bytes. stands_for bytes ≡ Ok payloads) → kept ≡ option_map (λ _. payloads) o → IfSome o old.left → held.doubt ≡ None
    → map spelling held.list ≡ payloads → IfSome kept (λ _. StandForList held new.left) → IfSome o (λ _. StandsStill old.left new.left)
stood old new held payloads None kept list is here none spelled back = tt
stood old new held payloads (Some bytes) kept list is here none spelled back =
    let stand = subst (λ k. IfSome k (λ _. StandForList held new.left)) is back in
    record {
      each = λ c left. record {
        outcome = bytes;
        possible = here;
        same = (rw none at stand.each c left) ∙ ap (λ l. Ok l) spelled ∙ sym list;
      };
    }

pub stays_back : {D : Type 0} (moment : D → ℕ) (left_at : D → ℕ → List ℕ → Type 0) (old new : File) (journal : Ledger D) (held : Held) (payloads : List (List ℕ)) → IsOpened moment left_at old journal payloads → IfSome old.reads old.left
    → held.doubt ≡ None → map spelling held.list ≡ payloads → IsBack journal held new → StaysLike old new
stays_back moment left_at old new journal held payloads opened here none spelled back = stood old new held payloads old.reads journal.kept opened.list opened.kept here none spelled back.stands

-- a journal that was given back with the payloads it was opened with
given : (old new : File) (payloads : List (List ℕ)) (doubt : Option (List ℕ)) (o : Option (List ℕ)) (kept : Option (List (List ℕ))) → IfSome o (λ bytes. stands_for bytes ≡ Ok payloads) → kept ≡ option_map (λ _. payloads) o → doubt ≡ None → IfSome o old.left
    → IfSome kept (λ l. StandFor l doubt new.left) → IfSome o (λ _. StandsStill old.left new.left)
given old new payloads doubt None kept list is none here back = tt
given old new payloads doubt (Some bytes) kept list is none here back =
    let stand = subst (λ k. IfSome k (λ l. StandFor l doubt new.left)) is back in
    record { each = λ c left. record { outcome = bytes; possible = here; same = subst (λ d. StandsFor payloads d c) none (stand.each c left) ∙ sym list } }

pub stays_given : {D : Type 0} (moment : D → ℕ) (left_at : D → ℕ → List ℕ → Type 0) (old new : File) (journal : Ledger D) (payloads : List (List ℕ)) → IsOpened moment left_at old journal payloads → IfSome old.reads old.left
    → IfSome journal.kept (λ l. StandFor l journal.doubt new.left) → StaysLike old new
stays_given moment left_at old new journal payloads opened here back = given old new payloads journal.doubt old.reads journal.kept opened.list opened.kept opened.no_doubt here back
