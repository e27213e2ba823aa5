-- The texts of a question are together no longer than its canonical text.
use Rattle.std.proofs.Common.{◌≡◌, ℕ, ◌+◌, ◌≤◌, Bool, true, false, cond, not, ◌&&◌, ◌||◌, eqb, List, [], ◌∷◌, ◌++◌, length, map, pos, refl, arith}
use Rattle.std.specs.Prelude.{sum_by, flat_map, codes}
use Rattle.std.specs.Ordering.{int_eq}
use Rattle.std.proofs.lemmas.Bool.{eqb-true}
use Rattle.std.proofs.lemmas.List.{length-append}
use Rattle.std.proofs.lemmas.List.Sums.{sum_by-cons}
use Rattle.qz_decimal.specs.Numbers.{one}
use Rattle.qz_grading.specs.declared.question.Choice.{Choice}
use Rattle.qz_grading.specs.declared.question.Format.{Format}
use Rattle.qz_grading.specs.declared.question.Format.TheVariants as format
use Rattle.qz_grading.specs.declared.question.Kind.{Kind}
use Rattle.qz_grading.specs.declared.question.Kind.TheVariants as kind
use Rattle.qz_grading.specs.declared.question.Num.{Num}
use Rattle.qz_grading.specs.declared.question.Pair.{Pair}
use Rattle.qz_grading.specs.declared.question.Question.{Question}
use Rattle.qz_grading.specs.declared.question.Rich.{Rich}
use Rattle.qz_grading.specs.declared.question.Short.{Short}
use Rattle.qz_grading.specs.Canonical.{escaped, escaped_byte, is_sign, is_nothing, format_mark, same_format, begins_with, rich_text, rich_behind, line, weight_if_needed, extent_text, tilde_choice, equals_choice, single_choices, pair_piece, short_piece, num_piece, general_behind, general_line, in_lines, true_false_text, answer_part, canonical_question}
use Rattle.qz_grading.specs.Questions.{kind_texts, texts}

-- ---- texts

-- a part of a text is no longer
within-left : (a b : List ℕ) (n : ℕ) → n ≤ length a → n ≤ length (a ++ b)
within-left a b n le = omega (arith, length-append a b)

within-right : (a b : List ℕ) (n : ℕ) → n ≤ length b → n ≤ length (a ++ b)
within-right a b n le = omega (arith, length-append a b)

pub within-both : (a b : List ℕ) (m n : ℕ) → m ≤ length a → n ≤ length b → m + n ≤ length (a ++ b)
within-both a b m n le le' = omega (arith, length-append a b)

byte-length : (b : ℕ) → 1 ≤ length (escaped_byte b)
byte-length b = go (eqb b 10) (is_sign b)
  where
    go : (feed sign : Bool) → 1 ≤ length (cond feed (92 ∷ 110 ∷ []) (cond sign (92 ∷ b ∷ []) (b ∷ [])))
    go true sign = omega arith
    go false true = omega arith
    go false false = omega arith

escaped-length : (text : List ℕ) → length text ≤ length (escaped text)
escaped-length [] = omega arith
escaped-length (b ∷ text) = omega (arith, length-append (escaped_byte b) (escaped text), byte-length b, escaped-length text)

rich_text-length : (d : Format) (r : Rich) → length r.text ≤ length (rich_text d r)
rich_text-length d r = within-right (cond (not (same_format d r.format) || begins_with 91 r.text) (format_mark r.format) []) (escaped r.text) (length r.text) (escaped-length r.text)

rich_behind-length : (sign : List ℕ) (d : Format) (r : Rich) → length r.text ≤ length (rich_behind sign d r)
rich_behind-length sign d r = go (is_nothing r.text) refl
  where
    go : (b : Bool) → is_nothing r.text ≡ b → length r.text ≤ length (cond b [] (sign ++ rich_text d r))
    go true e = omega (arith, eqb-true (length r.text) 0 e)
    go false e = within-right sign (rich_text d r) (length r.text) (rich_text-length d r)

-- ---- pieces

line-length : (text : List ℕ) (n : ℕ) → n ≤ length text → n ≤ length (line text)
line-length text n le = omega (arith, length-append text (10 ∷ []))

-- a text and its feedback in one line
piece-length : (sign weight text feedback : List ℕ) (m n : ℕ) → m ≤ length text → n ≤ length feedback → m + n ≤ length (line (sign ++ weight ++ text ++ feedback))
piece-length sign weight text feedback m n le le' =
    let inner = within-both (sign ++ weight ++ text) feedback m n (within-right (sign ++ weight) text m le) le' in
    omega (arith, length-append (sign ++ weight ++ text ++ feedback) (10 ∷ []), inner)

tilde_choice-length : (d : Format) (c : Choice) → length c.text.text + length c.feedback.text ≤ length (tilde_choice d c)
tilde_choice-length d c =
    piece-length (codes "~") (weight_if_needed (pos 0) c.weight c.text.text) (rich_text d c.text) (rich_behind (codes "#") d c.feedback) _ _ (rich_text-length d c.text) (rich_behind-length (codes "#") d c.feedback)

equals_choice-length : (d : Format) (c : Choice) → length c.text.text + length c.feedback.text ≤ length (equals_choice d c)
equals_choice-length d c =
    piece-length (codes "=") (weight_if_needed (pos one) c.weight c.text.text) (rich_text d c.text) (rich_behind (codes "#") d c.feedback) _ _ (rich_text-length d c.text) (rich_behind-length (codes "#") d c.feedback)

pair_piece-length : (d : Format) (p : Pair) → length p.stem.text + length p.answer ≤ length (pair_piece d p)
pair_piece-length d p =
    let stem = within-left (rich_text d p.stem) (codes " -> ") (length p.stem.text) (rich_text-length d p.stem) in
    let text = within-right (codes "=") (rich_text d p.stem) (length p.stem.text) (rich_text-length d p.stem) in
    let arrow = within-left (codes "=" ++ rich_text d p.stem) (codes " -> ") (length p.stem.text) text in
    let both = within-both (codes "=" ++ rich_text d p.stem ++ codes " -> ") (escaped p.answer) _ _ arrow (escaped-length p.answer) in
    omega (arith, length-append (codes "=" ++ rich_text d p.stem ++ codes " -> " ++ escaped p.answer) (10 ∷ []), both)

short_piece-length : (d : Format) (s : Short) → length s.pattern + length s.feedback.text ≤ length (short_piece d s)
short_piece-length d s =
    piece-length (codes "=") (weight_if_needed (pos one) s.weight s.pattern) (escaped s.pattern) (rich_behind (codes "#") d s.feedback) _ _ (escaped-length s.pattern) (rich_behind-length (codes "#") d s.feedback)

num_piece-length : (d : Format) (n : Num) → length n.feedback.text ≤ length (num_piece d n)
num_piece-length d n =
    let piece = piece-length (codes "=") (weight_if_needed (pos one) n.weight []) (extent_text n.extent) (rich_behind (codes "#") d n.feedback) 0 (length n.feedback.text) (omega arith) (rich_behind-length (codes "#") d n.feedback) in
    omega (arith, piece)

-- pieces, each no shorter than its two texts
each-length : {X : Type 0} (one_text other_text piece : X → List ℕ) → ((x : X) → length (one_text x) + length (other_text x) ≤ length (piece x)) → (xs : List X)
    → sum_by length (flat_map (λ x. one_text x ∷ other_text x ∷ []) xs) ≤ length (flat_map piece xs)
each-length one_text other_text piece each [] = omega arith
each-length one_text other_text piece each (x ∷ xs) =
    let later = flat_map (λ x. one_text x ∷ other_text x ∷ []) xs in
    omega (arith, sum_by-cons length (one_text x) (other_text x ∷ later), sum_by-cons length (other_text x) later, length-append (piece x) (flat_map piece xs), each x, each-length one_text other_text piece each xs)

choices-length : (d : Format) (cs : List Choice) → sum_by length (flat_map (λ (c : Choice). c.text.text ∷ c.feedback.text ∷ []) cs) ≤ length (flat_map (tilde_choice d) cs)
choices-length d cs = each-length (λ (c : Choice). c.text.text) (λ (c : Choice). c.feedback.text) (tilde_choice d) (tilde_choice-length d) cs

single-length : (d : Format) (cs : List Choice) → sum_by length (flat_map (λ (c : Choice). c.text.text ∷ c.feedback.text ∷ []) cs) ≤ length (single_choices d cs)
single-length d [] = omega arith
single-length d (c ∷ cs) = go (int_eq c.weight (pos one)) (single-length d cs)
  where
    whole : sum_by length (flat_map (λ (c : Choice). c.text.text ∷ c.feedback.text ∷ []) (c ∷ cs)) ≡ length c.text.text + (length c.feedback.text + sum_by length (flat_map (λ (c : Choice). c.text.text ∷ c.feedback.text ∷ []) cs))
    whole = omega (arith, sum_by-cons length c.text.text (c.feedback.text ∷ flat_map (λ (c : Choice). c.text.text ∷ c.feedback.text ∷ []) cs), sum_by-cons length c.feedback.text (flat_map (λ (c : Choice). c.text.text ∷ c.feedback.text ∷ []) cs))

    go : (b : Bool) → sum_by length (flat_map (λ (c : Choice). c.text.text ∷ c.feedback.text ∷ []) cs) ≤ length (single_choices d cs) → sum_by length (flat_map (λ (c : Choice). c.text.text ∷ c.feedback.text ∷ []) (c ∷ cs)) ≤ length (cond b (equals_choice d c ++ flat_map (tilde_choice d) cs) (tilde_choice d c ++ single_choices d cs))
    go true rest = omega (arith, whole, length-append (equals_choice d c) (flat_map (tilde_choice d) cs), equals_choice-length d c, choices-length d cs)
    go false rest = omega (arith, whole, length-append (tilde_choice d c) (single_choices d cs), tilde_choice-length d c)

nums-length : (d : Format) (ns : List Num) → sum_by length (map (λ (n : Num). n.feedback.text) ns) ≤ length (flat_map (num_piece d) ns)
nums-length d [] = omega arith
nums-length d (n ∷ ns) = omega (arith, sum_by-cons length n.feedback.text (map (λ (n : Num). n.feedback.text) ns), length-append (num_piece d n) (flat_map (num_piece d) ns), num_piece-length d n, nums-length d ns)

-- ---- answer parts

general_line-length : (d : Format) (general : Rich) → length general.text ≤ length (general_line d general)
general_line-length d general = go (is_nothing general.text) refl
  where
    go : (b : Bool) → is_nothing general.text ≡ b → length general.text ≤ length (cond b [] (line (general_behind d general)))
    go true e = omega (arith, eqb-true (length general.text) 0 e)
    go false e = line-length (general_behind d general) (length general.text) (rich_behind-length (codes "####") d general)

in_lines-length : (opening pieces : List ℕ) (d : Format) (general : Rich) (n : ℕ) → n ≤ length pieces → n + length general.text ≤ length (in_lines opening pieces d general)
in_lines-length opening pieces d general n le =
    let front = within-right (opening ++ (10 ∷ [])) pieces n le in
    let both = within-both (opening ++ (10 ∷ []) ++ pieces) (general_line d general) n (length general.text) front (general_line-length d general) in
    within-left (opening ++ (10 ∷ []) ++ pieces ++ general_line d general) (codes "}") (n + length general.text) both

essay-length : (d : Format) (general : Rich) → length general.text ≤ length (answer_part kind.Essay d general)
essay-length d general = go (is_nothing general.text) refl
  where
    go : (b : Bool) → is_nothing general.text ≡ b → length general.text ≤ length (cond b (codes "{}") (in_lines (codes "{") [] d general))
    go true e = omega (arith, eqb-true (length general.text) 0 e)
    go false e = let within = in_lines-length (codes "{") [] d general 0 (omega arith) in omega (arith, within)

abbrev on_wrong_text : Format → Rich → Rich → List ℕ
on_wrong_text d on_wrong on_right = cond (is_nothing on_wrong.text && is_nothing on_right.text) [] (codes "#" ++ rich_text d on_wrong)

on_wrong-length : (d : Format) (on_wrong on_right : Rich) → length on_wrong.text ≤ length (on_wrong_text d on_wrong on_right)
on_wrong-length d on_wrong on_right = go (is_nothing on_wrong.text) (is_nothing on_right.text) refl
  where
    there : length on_wrong.text ≤ length (codes "#" ++ rich_text d on_wrong)
    there = within-right (codes "#") (rich_text d on_wrong) (length on_wrong.text) (rich_text-length d on_wrong)

    go : (b c : Bool) → is_nothing on_wrong.text ≡ b → length on_wrong.text ≤ length (cond (b && c) [] (codes "#" ++ rich_text d on_wrong))
    go true true e = omega (arith, eqb-true (length on_wrong.text) 0 e)
    go true false e = there
    go false c e = there

true_false-length : (right : Bool) (on_wrong on_right : Rich) (d : Format) (general : Rich)
    → length on_wrong.text + length on_right.text + length general.text ≤ length (true_false_text right on_wrong on_right d general)
true_false-length right on_wrong on_right d general =
    let opening = cond right (codes "{TRUE") (codes "{FALSE") in
    let wrong = on_wrong_text d on_wrong on_right in
    let behind = rich_behind (codes "#") d on_right in
    let last = general_behind d general in
    let one = within-right opening wrong (length on_wrong.text) (on_wrong-length d on_wrong on_right) in
    let two = within-both (opening ++ wrong) behind (length on_wrong.text) (length on_right.text) one (rich_behind-length (codes "#") d on_right) in
    let three = within-both (opening ++ wrong ++ behind) last (length on_wrong.text + length on_right.text) (length general.text) two (rich_behind-length (codes "####") d general) in
    within-left (opening ++ wrong ++ behind ++ last) (codes "}") (length on_wrong.text + length on_right.text + length general.text) three

-- the texts of a kind and the general feedback, where there is an answer part
answer_part-length : (k : Kind) (d : Format) (general : Rich) → ((k ≡ kind.Description) → length general.text ≡ 0) → sum_by length (kind_texts k) + length general.text ≤ length (answer_part k d general)
answer_part-length kind.Description d general none = omega (arith, none refl)
answer_part-length kind.Essay d general none = omega (arith, essay-length d general)
answer_part-length (kind.TrueFalse right on_wrong on_right) d general none =
    omega (arith, sum_by-cons length on_wrong.text (on_right.text ∷ []), sum_by-cons length on_right.text [], true_false-length right on_wrong on_right d general)
answer_part-length (kind.One choices) d general none = in_lines-length (codes "{") (single_choices d choices) d general _ (single-length d choices)
answer_part-length (kind.Several choices) d general none = in_lines-length (codes "{") (flat_map (tilde_choice d) choices) d general _ (choices-length d choices)
answer_part-length (kind.Matching pairs) d general none =
    in_lines-length (codes "{") (flat_map (pair_piece d) pairs) d general _ (each-length (λ (p : Pair). p.stem.text) (λ (p : Pair). p.answer) (pair_piece d) (pair_piece-length d) pairs)
answer_part-length (kind.ShortAnswer answers) d general none =
    in_lines-length (codes "{") (flat_map (short_piece d) answers) d general _ (each-length (λ (s : Short). s.pattern) (λ (s : Short). s.feedback.text) (short_piece d) (short_piece-length d) answers)
answer_part-length (kind.Numerical answers) d general none = in_lines-length (codes "{#") (flat_map (num_piece d) answers) d general _ (nums-length d answers)

-- ---- questions

pub together-length : (q : Question) → ((q.kind ≡ kind.Description) → length q.general.text ≡ 0) → sum_by length (texts q) ≤ length (canonical_question q)
together-length q none =
    let name = codes "::" ++ escaped q.name in
    let text = rich_text format.Moodle q.text in
    let part = answer_part q.kind q.text.format q.general in
    let one = within-left name (codes "::") (length q.name) (within-right (codes "::") (escaped q.name) (length q.name) (escaped-length q.name)) in
    let two = within-both (name ++ codes "::") text (length q.name) (length q.text.text) one (rich_text-length format.Moodle q.text) in
    let three = within-both (name ++ codes "::" ++ text) part (length q.name + length q.text.text) (sum_by length (kind_texts q.kind) + length q.general.text) two (answer_part-length q.kind q.text.format q.general none) in
    let four = within-left (name ++ codes "::" ++ text ++ part) (10 ∷ 10 ∷ []) (length q.name + length q.text.text + (sum_by length (kind_texts q.kind) + length q.general.text)) three in
    omega (arith, sum_by-cons length q.name (q.text.text ∷ q.general.text ∷ kind_texts q.kind), sum_by-cons length q.text.text (q.general.text ∷ kind_texts q.kind), sum_by-cons length q.general.text (kind_texts q.kind), four)
