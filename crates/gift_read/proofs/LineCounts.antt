-- How many lines characters have, and how many their bytes have.
use Rattle.std.proofs.Common.{◌≡◌, ℕ, ◌+◌, ◌<◌, ◌≤◌, ◌/◌, Bool, true, false, cond, not, ◌&&◌, ◌||◌, ◌==◌, ltb, List, [], ◌∷◌, ◌++◌, length, refl, sym, ap, ◌∙◌, arith, inl, inr}
use Rattle.std.specs.List.{onto_first}
use Rattle.std.specs.Char.{encode_utf8}
use Rattle.std.specs.Str.{IsUtf8, chars, encode_utf8_all}
use Rattle.std.proofs.lemmas.Bool.{ne_eqb, cases_lt, cond_both, eqb-true}
use Rattle.std.proofs.lemmas.List.FromFn.{length-enumerate_from}
use Rattle.std.proofs.lemmas.Str.{encode_ascii, encodes-chars}
use lib.Utf8.{next}
use Rattle.gift_lex.specs.Blocks.{line_feed, carriage_return, byte_order_mark, plain_break, with_plain_breaks, without_order_mark, between_feeds, lines_of}
use Rattle.gift_lex.specs.Gathering.{split_lines}

-- how many lines end, where a carriage return stands before the first character or not
abbrev pub breaks_behind : Bool → List ℕ → ℕ
breaks_behind after_return [] = 0
breaks_behind after_return (c ∷ cs) = cond (c == carriage_return || (c == line_feed && not after_return)) 1 0 + breaks_behind (c == carriage_return) cs

-- ---- by characters

some_line : (cs : List ℕ) → 0 < length (between_feeds cs)
some_line [] = omega arith
some_line (c ∷ cs) = go (c == line_feed) (between_feeds cs)
  where
    go : (b : Bool) (lines : List (List ℕ)) → 0 < length (cond b ([] ∷ lines) (onto_first c lines))
    go true lines = omega arith
    go false [] = omega arith
    go false (line ∷ lines) = omega arith

length-onto_first : (c : ℕ) (lines : List (List ℕ)) → 0 < length lines → length (onto_first c lines) ≡ length lines
length-onto_first c [] some = absurd (omega arith)
length-onto_first c (line ∷ lines) some = refl

length-break : (cs : List ℕ) (c : ℕ) → c ≡ line_feed → length (between_feeds (c ∷ cs)) ≡ 1 + length (between_feeds cs)
length-break cs c e = rw e (omega arith)

length-inner : (cs : List ℕ) (c : ℕ) → (c == line_feed) ≡ false → length (between_feeds (c ∷ cs)) ≡ length (between_feeds cs)
length-inner cs c e = rw e (length-onto_first c (between_feeds cs) (some_line cs))

-- a character that isn't followed by the feed of its return
plain-counted : (c : ℕ) (cs : List ℕ) → length (between_feeds (plain_break c ∷ cs)) ≡ cond (c == carriage_return || (c == line_feed && not false)) 1 0 + length (between_feeds cs)
plain-counted c cs = go (c == carriage_return) (c == line_feed) refl
  where
    go : (return feed : Bool) → (c == line_feed) ≡ feed → length (between_feeds (cond return line_feed c ∷ cs)) ≡ cond (return || (feed && not false)) 1 0 + length (between_feeds cs)
    go true feed e = length-break cs line_feed refl
    go false true e = length-break cs c (eqb-true c line_feed e)
    go false false e = omega (arith, length-inner cs c e)

-- the feed behind a return ends no line
breaks_behind-feed : (d : ℕ) (cs : List ℕ) → d ≡ line_feed → breaks_behind true (d ∷ cs) ≡ breaks_behind false cs
breaks_behind-feed d cs e = rw e (omega arith)

breaks_behind-other : (behind : Bool) (d : ℕ) (cs : List ℕ) → (d == line_feed) ≡ false → breaks_behind behind (d ∷ cs) ≡ breaks_behind false (d ∷ cs)
breaks_behind-other behind d cs e = rw e refl

pub length-split_lines : (cs : List ℕ) → length (split_lines cs) ≡ 1 + breaks_behind false cs
length-split_lines [] = refl
length-split_lines (c ∷ []) = omega (arith, plain-counted c [])
length-split_lines (c ∷ d ∷ cs) = go (c == carriage_return) refl (d == line_feed) refl (length-split_lines cs) (length-split_lines (d ∷ cs))
  where
    go : (return : Bool) → (c == carriage_return) ≡ return → (feed : Bool) → (d == line_feed) ≡ feed
        → length (split_lines cs) ≡ 1 + breaks_behind false cs → length (split_lines (d ∷ cs)) ≡ 1 + breaks_behind false (d ∷ cs)
        → length (between_feeds (cond (return && feed) (line_feed ∷ with_plain_breaks cs) (cond return line_feed c ∷ with_plain_breaks (d ∷ cs)))) ≡ 1 + (cond (return || (c == line_feed && not false)) 1 0 + breaks_behind return (d ∷ cs))
    go true is true feed two one = omega (arith, length-break (with_plain_breaks cs) line_feed refl, breaks_behind-feed d cs (eqb-true d line_feed feed), two)
    go true is false feed two one = omega (arith, length-break (with_plain_breaks (d ∷ cs)) line_feed refl, breaks_behind-other true d cs feed, one)
    go false is feed e two one = omega (arith, rw is at (plain-counted c (with_plain_breaks (d ∷ cs))), one)

-- ---- by bytes

-- no byte of a character beyond ASCII ends a line
breaks_behind-high : (behind : Bool) (b : ℕ) (bs : List ℕ) → 128 ≤ b → breaks_behind behind (b ∷ bs) ≡ breaks_behind false bs
breaks_behind-high behind b bs le = rw (ne_eqb b carriage_return (λ e. omega arith), ne_eqb b line_feed (λ e. omega arith)) (omega arith)

breaks_behind-wide : (behind : Bool) (c : ℕ) (bs : List ℕ) → 128 ≤ c → breaks_behind behind (encode_utf8 c ++ bs) ≡ breaks_behind false bs
unfolding encode_utf8
breaks_behind-wide behind c bs le =
    let P : List ℕ → Type 0 = λ front. breaks_behind behind (front ++ bs) ≡ breaks_behind false bs in
    let two : List ℕ = (192 + c / 64) ∷ next c ∷ [] in
    let three : List ℕ = (224 + c / 4096) ∷ next (c / 64) ∷ next c ∷ [] in
    let four : List ℕ = (240 + c / 262144) ∷ next (c / 4096) ∷ next (c / 64) ∷ next c ∷ [] in
    let last = breaks_behind-high false (next c) bs (omega arith) in
    let third = breaks_behind-high false (next (c / 64)) (next c ∷ bs) (omega arith) in
    let second = breaks_behind-high false (next (c / 4096)) (next (c / 64) ∷ next c ∷ bs) (omega arith) in
    cond_both (ltb c 128) (c ∷ []) (cond (ltb c 2048) two (cond (ltb c 65536) three four)) P (λ _. breaks_behind-high behind c bs le)
    (λ _. cond_both (ltb c 2048) two (cond (ltb c 65536) three four) P (λ _. breaks_behind-high behind (192 + c / 64) (next c ∷ bs) (omega arith) ∙ last)
    (λ _. cond_both (ltb c 65536) three four P (λ _. breaks_behind-high behind (224 + c / 4096) (next (c / 64) ∷ next c ∷ bs) (omega arith) ∙ third ∙ last)
    (λ _. breaks_behind-high behind (240 + c / 262144) (next (c / 4096) ∷ next (c / 64) ∷ next c ∷ bs) (omega arith) ∙ second ∙ third ∙ last)))

breaks_behind-encodes : (behind : Bool) (cs : List ℕ) → breaks_behind behind (encode_utf8_all cs) ≡ breaks_behind behind cs
breaks_behind-encodes behind [] = refl
breaks_behind-encodes behind (c ∷ cs) =
    elim (cases_lt c 128) [
      | inl low ↦ rw (encode_ascii c low, breaks_behind-encodes (c == carriage_return) cs) refl
      | inr wide ↦ breaks_behind-wide behind c (encode_utf8_all cs) wide ∙ breaks_behind-encodes false cs ∙ sym (breaks_behind-high behind c cs wide)
    ]

-- a byte order mark ends no line
breaks_behind-mark : (cs : List ℕ) → breaks_behind false (without_order_mark cs) ≡ breaks_behind false cs
breaks_behind-mark [] = refl
breaks_behind-mark (c ∷ cs) = go (c == byte_order_mark) refl
  where
    go : (b : Bool) → (c == byte_order_mark) ≡ b → breaks_behind false (cond b cs (c ∷ cs)) ≡ breaks_behind false (c ∷ cs)
    go true e = sym (breaks_behind-high false c cs (omega (arith, eqb-true c byte_order_mark e)))
    go false e = refl

-- so lines are counted by bytes
pub length-lines_of : (bs : List ℕ) → IsUtf8 bs → length (lines_of bs) ≡ length (split_lines bs)
length-lines_of bs utf8 =
    let cs = without_order_mark (chars bs) in
    length-enumerate_from 1 (split_lines cs)
    ∙ length-split_lines cs
    ∙ ap (λ n. 1 + n) (breaks_behind-mark (chars bs) ∙ sym (breaks_behind-encodes false (chars bs)) ∙ ap (breaks_behind false) (encodes-chars bs utf8))
    ∙ sym (length-split_lines bs)
