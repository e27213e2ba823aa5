-- Questions that are the same as values are equal, and each is the same as itself.
use Rattle.std.proofs.Common.{◌≡◌, ℕ, Bool, true, false, ◌&&◌, List, [], ◌∷◌, length, ℤ, refl, ap, subst, ◌∙◌, arith, eq-eqb}
use Rattle.std.specs.Bool.{Decides}
use Rattle.std.specs.List.{list_all}
use Rattle.std.specs.Ordering.{int_eq}
use Rattle.std.specs.Prelude.{◌==◌, bytes_eq, zip}
use Rattle.std.proofs.lemmas.Bool.{and_from, and_parts, eqb-true}
use Rattle.std.proofs.lemmas.Bool.Decides.{Decides-int_eq}
use Rattle.std.proofs.lemmas.Slice.Eq.{bytes_eq-Decides}
use Rattle.qz_grading.specs.declared.question.Choice.{Choice}
use Rattle.qz_grading.specs.declared.question.Extent.{Extent}
use Rattle.qz_grading.specs.declared.question.Extent.TheVariants as extent
use Rattle.qz_grading.specs.declared.question.Format.{Format}
use Rattle.qz_grading.specs.declared.question.Format.TheVariants as format
use Rattle.qz_grading.specs.declared.question.Kind.{Kind}
use Rattle.qz_grading.specs.declared.question.Kind.TheVariants as kind
use Rattle.qz_grading.specs.declared.question.Num.{Num}
use Rattle.qz_grading.specs.declared.question.Pair.{Pair}
use Rattle.qz_grading.specs.declared.question.Question.{Question}
use Rattle.qz_grading.specs.declared.question.Rich.{Rich}
use Rattle.qz_grading.specs.declared.question.Short.{Short}
use Rattle.qz_grading.specs.Canonical.{same_format, same_texts}
use Rattle.qz_grading.specs.Sameness.{all_same, same_bool, same_choice, same_extent, same_kind, same_num, same_pair, same_question, same_rich, same_short}

-- two tests in one
pub both : {P Q R : Type 0} (a b : Bool) → Decides a P → Decides b Q → (P → Q → R) → (R → P) → (R → Q) → Decides (a && b) R
both a b p q join left right = (λ is. let parts = and_parts a b is in join (p.0 parts.0) (q.0 parts.1), λ r. and_from a b (p.1 (left r)) (q.1 (right r)))

-- values made of equal parts
pub two : {A B C : Type 0} (make : A → B → C) (a b : A) (x y : B) → a ≡ b → x ≡ y → make a x ≡ make b y
two make a b x y one other = ap (λ (z : _). make z x) one ∙ ap (make b) other

three : {A B C D : Type 0} (make : A → B → C → D) (a b : A) (x y : B) (m n : C) → a ≡ b → x ≡ y → m ≡ n → make a x m ≡ make b y n
three make a b x y m n one other last = ap (λ (z : _). make z x m) one ∙ two (make b) x y m n other last

abbrev rich_of : Format → List ℕ → Rich
rich_of f t = record { format = f; text = t }

abbrev choice_of : ℤ → Rich → Rich → Choice
choice_of w t f = record { weight = w; text = t; feedback = f }

abbrev pair_of : Rich → List ℕ → Pair
pair_of s a = record { stem = s; answer = a }

abbrev short_of : ℤ → List ℕ → Rich → Short
short_of w p f = record { weight = w; pattern = p; feedback = f }

abbrev num_of : ℤ → Extent → Rich → Num
num_of w e f = record { weight = w; extent = e; feedback = f }

abbrev question_of : List ℕ → Rich → Rich → Kind → ℤ → List (List ℕ) → Question
question_of n t g k p h = record { name = n; text = t; general = g; kind = k; penalty = p; hints = h }

decides-texts : (a b : List ℕ) → Decides (bytes_eq a b) (a ≡ b)
decides-texts a b = bytes_eq-Decides a b

decides-format : (a b : Format) → Decides (same_format a b) (a ≡ b)
decides-format format.Moodle format.Moodle = (λ is. refl, λ e. refl)
decides-format format.Moodle format.Html = (λ is. absurd cc, λ e. absurd cc)
decides-format format.Moodle format.Plain = (λ is. absurd cc, λ e. absurd cc)
decides-format format.Moodle format.Markdown = (λ is. absurd cc, λ e. absurd cc)
decides-format format.Html format.Moodle = (λ is. absurd cc, λ e. absurd cc)
decides-format format.Html format.Html = (λ is. refl, λ e. refl)
decides-format format.Html format.Plain = (λ is. absurd cc, λ e. absurd cc)
decides-format format.Html format.Markdown = (λ is. absurd cc, λ e. absurd cc)
decides-format format.Plain format.Moodle = (λ is. absurd cc, λ e. absurd cc)
decides-format format.Plain format.Html = (λ is. absurd cc, λ e. absurd cc)
decides-format format.Plain format.Plain = (λ is. refl, λ e. refl)
decides-format format.Plain format.Markdown = (λ is. absurd cc, λ e. absurd cc)
decides-format format.Markdown format.Moodle = (λ is. absurd cc, λ e. absurd cc)
decides-format format.Markdown format.Html = (λ is. absurd cc, λ e. absurd cc)
decides-format format.Markdown format.Plain = (λ is. absurd cc, λ e. absurd cc)
decides-format format.Markdown format.Markdown = (λ is. refl, λ e. refl)

decides-rich : (a b : Rich) → Decides (same_rich a b) (a ≡ b)
decides-rich a b = both (same_format a.format b.format) (bytes_eq a.text b.text) (decides-format a.format b.format) (decides-texts a.text b.text)
    (λ one other. two rich_of a.format b.format a.text b.text one other) (λ e. ap (λ (r : Rich). r.format) e) (λ e. ap (λ (r : Rich). r.text) e)

-- lists, item by item
decides-items : {A : Type 0} (same : A → A → Bool) (each : (x y : A) → Decides (same x y) (x ≡ y)) (xs ys : List A) → (length xs == length ys) && list_all (λ (p : A × A). same p.0 p.1) (zip xs ys) ≡ true → xs ≡ ys
decides-items same each [] [] is = refl
decides-items same each [] (y ∷ ys) is = absurd (let long = eqb-true 0 (length (y ∷ ys)) (and_parts _ _ is).0 in omega arith)
decides-items same each (x ∷ xs) [] is = absurd (let long = eqb-true (length (x ∷ xs)) 0 (and_parts _ _ is).0 in omega arith)
decides-items same each (x ∷ xs) (y ∷ ys) is =
    let parts = and_parts (length (x ∷ xs) == length (y ∷ ys)) (same x y && list_all (λ (p : _ × _). same p.0 p.1) (zip xs ys)) is in
    let items = and_parts (same x y) (list_all (λ (p : _ × _). same p.0 p.1) (zip xs ys)) parts.1 in
    let long = eqb-true (length (x ∷ xs)) (length (y ∷ ys)) parts.0 in
    let short : length xs ≡ length ys = omega (arith, long) in
    let head : x ≡ y = (each x y).0 items.0 in
    let tail : xs ≡ ys = decides-items same each xs ys (and_from (length xs == length ys) (list_all (λ (p : _ × _). same p.0 p.1) (zip xs ys)) (eq-eqb (length xs) (length ys) short) items.1) in
    cc

same-items : {A : Type 0} (same : A → A → Bool) (each : (x y : A) → Decides (same x y) (x ≡ y)) (xs : List A) → list_all (λ (p : A × A). same p.0 p.1) (zip xs xs) ≡ true
same-items same each [] = refl
same-items same each (x ∷ xs) = and_from (same x x) (list_all (λ (p : _ × _). same p.0 p.1) (zip xs xs)) ((each x x).1 refl) (same-items same each xs)

decides-list : {A : Type 0} (same : A → A → Bool) (each : (x y : A) → Decides (same x y) (x ≡ y)) (xs ys : List A) → Decides (all_same same xs ys) (xs ≡ ys)
decides-list same each xs ys = (λ is. decides-items same each xs ys is, λ e. subst (λ (zs : List _). all_same same xs zs ≡ true) e (and_from (length xs == length xs) (list_all (λ (p : _ × _). same p.0 p.1) (zip xs xs)) (eq-eqb (length xs) (length xs) refl) (same-items same each xs)))

decides-hints : (xs ys : List (List ℕ)) → Decides (same_texts xs ys) (xs ≡ ys)
decides-hints xs ys = decides-list bytes_eq decides-texts xs ys

decides-choice : (a b : Choice) → Decides (same_choice a b) (a ≡ b)
decides-choice a b = both (int_eq a.weight b.weight) (same_rich a.text b.text && same_rich a.feedback b.feedback) (Decides-int_eq a.weight b.weight)
    (both {R = (a.text ≡ b.text) × (a.feedback ≡ b.feedback)} (same_rich a.text b.text) (same_rich a.feedback b.feedback) (decides-rich a.text b.text) (decides-rich a.feedback b.feedback) (λ x y. (x, y)) (λ e. e.0) (λ e. e.1))
    (λ x y. three choice_of a.weight b.weight a.text b.text a.feedback b.feedback x y.0 y.1) (λ e. ap (λ (r : Choice). r.weight) e) (λ e. (ap (λ (r : Choice). r.text) e, ap (λ (r : Choice). r.feedback) e))

decides-pair : (a b : Pair) → Decides (same_pair a b) (a ≡ b)
decides-pair a b = both (same_rich a.stem b.stem) (bytes_eq a.answer b.answer) (decides-rich a.stem b.stem) (decides-texts a.answer b.answer)
    (λ x y. two pair_of a.stem b.stem a.answer b.answer x y) (λ e. ap (λ (r : Pair). r.stem) e) (λ e. ap (λ (r : Pair). r.answer) e)

decides-short : (a b : Short) → Decides (same_short a b) (a ≡ b)
decides-short a b = both (int_eq a.weight b.weight) (bytes_eq a.pattern b.pattern && same_rich a.feedback b.feedback) (Decides-int_eq a.weight b.weight)
    (both {R = (a.pattern ≡ b.pattern) × (a.feedback ≡ b.feedback)} (bytes_eq a.pattern b.pattern) (same_rich a.feedback b.feedback) (decides-texts a.pattern b.pattern) (decides-rich a.feedback b.feedback) (λ x y. (x, y)) (λ e. e.0) (λ e. e.1))
    (λ x y. three short_of a.weight b.weight a.pattern b.pattern a.feedback b.feedback x y.0 y.1) (λ e. ap (λ (r : Short). r.weight) e) (λ e. (ap (λ (r : Short). r.pattern) e, ap (λ (r : Short). r.feedback) e))

two-marks : (a b c d : ℤ) → Decides (int_eq a c && int_eq b d) ((a ≡ c) × (b ≡ d))
two-marks a b c d = both (int_eq a c) (int_eq b d) (Decides-int_eq a c) (Decides-int_eq b d) (λ x y. (x, y)) (λ e. e.0) (λ e. e.1)

decides-extent : (a b : Extent) → Decides (same_extent a b) (a ≡ b)
decides-extent extent.Any extent.Any = (λ is. refl, λ e. refl)
decides-extent extent.Any (extent.Near c s) = (λ is. absurd cc, λ e. absurd cc)
decides-extent extent.Any (extent.Between l h) = (λ is. absurd cc, λ e. absurd cc)
decides-extent (extent.Near c s) extent.Any = (λ is. absurd cc, λ e. absurd cc)
decides-extent (extent.Near c s) (extent.Near d t) = (λ is. let same = (two-marks c s d t).0 is in let x = same.0 in let y = same.1 in cc, λ e. (two-marks c s d t).1 (let x : c ≡ d = cc in let y : s ≡ t = cc in (x, y)))
decides-extent (extent.Near c s) (extent.Between l h) = (λ is. absurd cc, λ e. absurd cc)
decides-extent (extent.Between l h) extent.Any = (λ is. absurd cc, λ e. absurd cc)
decides-extent (extent.Between l h) (extent.Near c s) = (λ is. absurd cc, λ e. absurd cc)
decides-extent (extent.Between l h) (extent.Between m i) = (λ is. let same = (two-marks l h m i).0 is in let x = same.0 in let y = same.1 in cc, λ e. (two-marks l h m i).1 (let x : l ≡ m = cc in let y : h ≡ i = cc in (x, y)))

decides-num : (a b : Num) → Decides (same_num a b) (a ≡ b)
decides-num a b = both (int_eq a.weight b.weight) (same_extent a.extent b.extent && same_rich a.feedback b.feedback) (Decides-int_eq a.weight b.weight)
    (both {R = (a.extent ≡ b.extent) × (a.feedback ≡ b.feedback)} (same_extent a.extent b.extent) (same_rich a.feedback b.feedback) (decides-extent a.extent b.extent) (decides-rich a.feedback b.feedback) (λ x y. (x, y)) (λ e. e.0) (λ e. e.1))
    (λ x y. three num_of a.weight b.weight a.extent b.extent a.feedback b.feedback x y.0 y.1) (λ e. ap (λ (r : Num). r.weight) e) (λ e. (ap (λ (r : Num). r.extent) e, ap (λ (r : Num). r.feedback) e))

bool-same : (a b : Bool) → same_bool a b ≡ true → a ≡ b
bool-same true true is = refl
bool-same true false is = absurd cc
bool-same false true is = absurd cc
bool-same false false is = refl

same-bool : (b : Bool) → same_bool b b ≡ true
same-bool true = refl
same-bool false = refl

kind-same : (a b : Kind) → same_kind a b ≡ true → a ≡ b
kind-same kind.Description kind.Description is = refl
kind-same kind.Essay kind.Essay is = refl
kind-same (kind.TrueFalse r w o) (kind.TrueFalse s v p) is =
    let parts = and_parts (same_bool r s) (same_rich w v && same_rich o p) is in
    let texts = and_parts (same_rich w v) (same_rich o p) parts.1 in
    let x = bool-same r s parts.0 in
    let y = (decides-rich w v).0 texts.0 in
    let z = (decides-rich o p).0 texts.1 in
    cc
kind-same (kind.One a) (kind.One b) is = ap kind.One ((decides-list same_choice decides-choice a b).0 is)
kind-same (kind.Several a) (kind.Several b) is = ap kind.Several ((decides-list same_choice decides-choice a b).0 is)
kind-same (kind.Matching a) (kind.Matching b) is = ap kind.Matching ((decides-list same_pair decides-pair a b).0 is)
kind-same (kind.ShortAnswer a) (kind.ShortAnswer b) is = ap kind.ShortAnswer ((decides-list same_short decides-short a b).0 is)
kind-same (kind.Numerical a) (kind.Numerical b) is = ap kind.Numerical ((decides-list same_num decides-num a b).0 is)
kind-same a b is = absurd cc

same-kind : (a : Kind) → same_kind a a ≡ true
same-kind kind.Description = refl
same-kind kind.Essay = refl
same-kind (kind.TrueFalse r w o) = and_from (same_bool r r) (same_rich w w && same_rich o o) (same-bool r) (and_from (same_rich w w) (same_rich o o) ((decides-rich w w).1 refl) ((decides-rich o o).1 refl))
same-kind (kind.One a) = (decides-list same_choice decides-choice a a).1 refl
same-kind (kind.Several a) = (decides-list same_choice decides-choice a a).1 refl
same-kind (kind.Matching a) = (decides-list same_pair decides-pair a a).1 refl
same-kind (kind.ShortAnswer a) = (decides-list same_short decides-short a a).1 refl
same-kind (kind.Numerical a) = (decides-list same_num decides-num a a).1 refl

decides-kind : (a b : Kind) → Decides (same_kind a b) (a ≡ b)
decides-kind a b = (λ is. kind-same a b is, λ e. subst (λ (k : Kind). same_kind a k ≡ true) e (same-kind a))

record IsAlike (a b : Question) : Type 0 where
  name : a.name ≡ b.name
  text : a.text ≡ b.text
  general : a.general ≡ b.general
  kind_is : a.kind ≡ b.kind
  penalty : a.penalty ≡ b.penalty
  hints : a.hints ≡ b.hints

alike : (a b : Question) → same_question a b ≡ true → IsAlike a b
alike a b is =
    let n = and_parts (bytes_eq a.name b.name) (same_rich a.text b.text && (same_rich a.general b.general && (same_kind a.kind b.kind && (int_eq a.penalty b.penalty && same_texts a.hints b.hints)))) is in
    let t = and_parts (same_rich a.text b.text) (same_rich a.general b.general && (same_kind a.kind b.kind && (int_eq a.penalty b.penalty && same_texts a.hints b.hints))) n.1 in
    let g = and_parts (same_rich a.general b.general) (same_kind a.kind b.kind && (int_eq a.penalty b.penalty && same_texts a.hints b.hints)) t.1 in
    let k = and_parts (same_kind a.kind b.kind) (int_eq a.penalty b.penalty && same_texts a.hints b.hints) g.1 in
    let p = and_parts (int_eq a.penalty b.penalty) (same_texts a.hints b.hints) k.1 in
    record {
      name = (decides-texts a.name b.name).0 n.0;
      text = (decides-rich a.text b.text).0 t.0;
      general = (decides-rich a.general b.general).0 g.0;
      kind_is = (decides-kind a.kind b.kind).0 k.0;
      penalty = (Decides-int_eq a.penalty b.penalty).0 p.0;
      hints = (decides-hints a.hints b.hints).0 p.1;
    }

one-question : (a b : Question) → IsAlike a b → a ≡ b
one-question a b i =
    three (λ n t g. question_of n t g a.kind a.penalty a.hints) a.name b.name a.text b.text a.general b.general i.name i.text i.general
    ∙ three (question_of b.name b.text b.general) a.kind b.kind a.penalty b.penalty a.hints b.hints i.kind_is i.penalty i.hints

same-self : (a : Question) → same_question a a ≡ true
same-self a =
    and_from (bytes_eq a.name a.name) _ ((decides-texts a.name a.name).1 refl)
    (and_from (same_rich a.text a.text) _ ((decides-rich a.text a.text).1 refl)
    (and_from (same_rich a.general a.general) _ ((decides-rich a.general a.general).1 refl)
    (and_from (same_kind a.kind a.kind) _ (same-kind a.kind)
    (and_from (int_eq a.penalty a.penalty) _ ((Decides-int_eq a.penalty a.penalty).1 refl) ((decides-hints a.hints a.hints).1 refl)))))

pub decides-question : (a b : Question) → Decides (same_question a b) (a ≡ b)
decides-question a b = (λ is. one-question a b (alike a b is), λ e. subst (λ (q : Question). same_question a q ≡ true) e (same-self a))
