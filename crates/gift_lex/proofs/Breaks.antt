-- Where the first line of a text ends.
use Rattle.std.proofs.Common.{◌≡◌, ℕ, ◌<◌, ◌≤◌, Bool, true, false, cond, ltb, ◌==◌, not, ◌&&◌, List, [], ◌∷◌, ◌++◌, length, get_or, take, drop, ◌⊎◌, Option, Some, None, refl, arith, inl, inr, add-zero}
use Rattle.std.specs.List.{list_all, position, position_or_len, onto_first}
use Rattle.std.specs.Prelude.{encode_utf8}
use Rattle.std.specs.Str.{IsUtf8, IsCharBoundary, chars}
use Rattle.std.proofs.lemmas.Bool.{and_parts, or_parts, or_cases, not-false, not-true, ne_eqb, eqb-true, ltb-true, ltb-false}
use Rattle.std.proofs.lemmas.List.{append-nil, length-drop, get_or-drop, take-append-drop, take_all}
use Rattle.std.proofs.lemmas.List.Sums.{prefix_len_stops}
use Rattle.std.proofs.lemmas.Str.{encode_ascii, chars-append, chars_past_char, IsUtf8-take, IsUtf8-drop, IsCharBoundary-before_ascii}
use Rattle.gift_lex.specs.Blocks.{line_feed, carriage_return, plain_break, with_plain_breaks, between_feeds}
use Rattle.gift_lex.specs.Gathering.{is_break, after_break, split_lines}
use Rattle.gift_lex.proofs.Passing.{list_all-front, list_all-chars}

abbrev is_inner : ℕ → Bool
is_inner c = not (is_break c)

-- ---- by characters

-- a character that is no break stands in its line
split_lines-inner : (c : ℕ) (cs : List ℕ) → is_break c ≡ false → split_lines (c ∷ cs) ≡ onto_first c (split_lines cs)
split_lines-inner c [] e = let parts = or_parts (c == carriage_return) (c == line_feed) e in rw (parts.0, parts.1) refl
split_lines-inner c (d ∷ cs) e = let parts = or_parts (c == carriage_return) (c == line_feed) e in rw (parts.0, parts.1) refl

plain_break-is : (c : ℕ) → is_break c ≡ true → plain_break c ≡ line_feed
plain_break-is c e = go (c == carriage_return) refl (or_cases (c == carriage_return) (c == line_feed) e)
  where
    go : (b : Bool) → (c == carriage_return) ≡ b → ((c == carriage_return) ≡ true) ⊎ ((c == line_feed) ≡ true) → cond b line_feed c ≡ line_feed
    go true is either = refl
    go false is (inl return) = cc
    go false is (inr feed) = eqb-true c line_feed feed

-- a break ends its line
split_lines-break : (c : ℕ) (cs : List ℕ) → is_break c ≡ true → split_lines (c ∷ cs) ≡ [] ∷ split_lines (after_break (c ∷ cs))
split_lines-break c [] e = rw (plain_break-is c e) refl
split_lines-break c (d ∷ cs) e = go (c == carriage_return && d == line_feed)
  where
    go : (b : Bool) → between_feeds (cond b (line_feed ∷ with_plain_breaks cs) (plain_break c ∷ with_plain_breaks (d ∷ cs))) ≡ [] ∷ split_lines (cond b cs (d ∷ cs))
    go true = refl
    go false = rw (plain_break-is c e) refl

-- so the first line is what stands before the first break
split_lines-front : (front rest : List ℕ) (later : List (List ℕ)) → list_all is_inner front ≡ true → split_lines rest ≡ [] ∷ later → split_lines (front ++ rest) ≡ front ∷ later
split_lines-front [] rest later inner e = e
split_lines-front (c ∷ front) rest later inner e =
    let parts = and_parts (is_inner c) (list_all is_inner front) inner in
    rw (split_lines-inner c (front ++ rest) (not-true _ parts.0), split_lines-front front rest later parts.1 e) refl

-- ---- by bytes

inner_high : (c : ℕ) → 128 ≤ c → is_inner c ≡ true
inner_high c le = rw (ne_eqb c carriage_return (λ e. omega arith), ne_eqb c line_feed (λ e. omega arith)) refl

break_low : (c : ℕ) → is_break c ≡ true → c < 128
break_low c e =
    elim (or_cases (c == carriage_return) (c == line_feed) e) [ inl return ↦ omega (arith, eqb-true c carriage_return return) | inr feed ↦ omega (arith, eqb-true c line_feed feed) ]

-- where `position` finds a break
found_at : (bs : List ℕ) (n : ℕ) → Some n ≡ position is_break bs → (n ≡ position_or_len is_break bs) × (position_or_len is_break bs < length bs)
found_at bs n found = go (ltb (position_or_len is_break bs) (length bs)) refl found
  where
    go : (b : Bool) → ltb (position_or_len is_break bs) (length bs) ≡ b → Some n ≡ cond b (Some (position_or_len is_break bs)) None → (n ≡ position_or_len is_break bs) × (position_or_len is_break bs < length bs)
    go true e found = (cc, ltb-true _ _ e)
    go false e found = cc

found_nowhere : (bs : List ℕ) → None ≡ position is_break bs → length bs ≤ position_or_len is_break bs
found_nowhere bs none = go (ltb (position_or_len is_break bs) (length bs)) refl none
  where
    go : (b : Bool) → ltb (position_or_len is_break bs) (length bs) ≡ b → ◌≡◌ {A = Option ℕ} None (cond b (Some (position_or_len is_break bs)) None) → length bs ≤ position_or_len is_break bs
    go true e none = cc
    go false e none = ltb-false _ _ e

-- a text without a break is one line
pub split_lines-whole : (bs : List ℕ) → IsUtf8 bs → None ≡ position is_break bs → split_lines (chars bs) ≡ chars bs ∷ []
split_lines-whole bs utf8 none =
    let front = list_all-front is_inner bs in
    let inner : list_all is_inner bs ≡ true = rw (take_all (position_or_len is_break bs) bs (found_nowhere bs none)) at front in
    let whole = split_lines-front (chars bs) [] [] (list_all-chars is_inner inner_high bs utf8 inner) refl in
    rw append-nil at whole

pub IsCharBoundary-break : (bs : List ℕ) (n : ℕ) → Some n ≡ position is_break bs → IsCharBoundary bs n
IsCharBoundary-break bs n found =
    let place = found_at bs n found in
    let stops = not-false _ (prefix_len_stops is_inner bs 0 place.1) in
    rw place.0 (IsCharBoundary-before_ascii bs _ place.1 (break_low _ stops))

-- what follows a break at the front is behind the first line, which is empty
split_lines-at_break : (bs : List ℕ) → IsUtf8 bs → 0 < length bs → is_break (get_or bs 0 0) ≡ true → split_lines (chars bs) ≡ [] ∷ split_lines (after_break (chars bs))
split_lines-at_break [] utf8 some e = absurd (omega arith)
split_lines-at_break (b ∷ bs) utf8 some e =
    let split : b ∷ bs ≡ encode_utf8 b ++ bs = rw (encode_ascii b (break_low b e)) refl in
    rw (chars_past_char (b ∷ bs) bs b utf8 split) (split_lines-break b (chars bs) e)

-- and one with a break has its first line before the first break
pub split_lines-first : (bs : List ℕ) (n : ℕ) → IsUtf8 bs → Some n ≡ position is_break bs → split_lines (chars bs) ≡ chars (take n bs) ∷ split_lines (after_break (chars (drop n bs)))
split_lines-first bs n utf8 found =
    let place = found_at bs n found in
    let boundary = IsCharBoundary-break bs n found in
    let line_utf8 = IsUtf8-take bs n utf8 boundary in
    let inner : list_all is_inner (take n bs) ≡ true = rw place.0 (list_all-front is_inner bs) in
    let stops : is_break (get_or (drop n bs) 0 0) ≡ true =
    rw (get_or-drop n bs 0 0, add-zero, place.0) (not-false _ (prefix_len_stops is_inner bs 0 place.1)) in
    let some : 0 < length (drop n bs) = omega (arith, length-drop n bs, place.0, place.1) in
    let behind = split_lines-at_break (drop n bs) (IsUtf8-drop bs n utf8 boundary) some stops in
    let joined = chars-append (take n bs) (drop n bs) line_utf8 in
    let first = split_lines-front (chars (take n bs)) (chars (drop n bs)) _ (list_all-chars is_inner inner_high (take n bs) line_utf8 inner) behind in
    rw (← joined, take-append-drop) at first
