-- When a block is read as a question.
use Rattle.std.proofs.Common.{◌≡◌, ℕ, ◌≤◌, Bool, false, not, ◌&&◌, ◌||◌, nat_lt, List, [], ◌++◌, Ok, refl, ap, ◌∙◌}
use Rattle.std.specs.List.{list_any}
use Rattle.std.proofs.lemmas.Bool.{le-ltb}
use Rattle.gift_lex.specs.declared.block.Block.{Block}
use Rattle.qz_grading.specs.declared.question.Question.{Question}
use Rattle.qz_grading.specs.Canonical.{canonical_size}
use Rattle.qz_grading.specs.Questions as sound
use Rattle.gift_read.specs.declared.reading.Entry.TheVariants as entry
use Rattle.gift_read.specs.declared.parts.Sort.{Sort}
use Rattle.gift_read.specs.Places.{Marks}
use Rattle.gift_read.specs.Values.{question}
use Rattle.gift_read.specs.Category.{is_category}
use Rattle.qz_grading.specs.declared.limits.TheConstants.{MOST_TOGETHER}
use Rattle.gift_read.specs.Faults.{when, flaws, or_large, broken, is_long, is_large, is_matching, lacks_piece, has_blank_number, number_pieces, is_misweighed, weighed_pieces, has_stray_arrow, has_no_number, has_stray_feedback, broken_values}
use Rattle.gift_read.specs.Gift.{told_by, told}

-- ---- no rule is broken

no_rules : (b2 b6 b7 b8 b9 b10 b11 : Bool) → b2 ≡ false → b6 ≡ false → b7 ≡ false → b8 ≡ false → b9 ≡ false → b10 ≡ false → b11 ≡ false
    → when b2 2 ++ when b6 6 ++ when b7 7 ++ when b8 8 ++ when b9 9 ++ when b10 10 ++ when b11 11 ≡ []
no_rules b2 b6 b7 b8 b9 b10 b11 e2 e6 e7 e8 e9 e10 e11 = rw (e2, e6, e7, e8, e9, e10, e11) refl

pub record IsFaultless (q : Question) (s : Sort) (a : Marks) : Type 0 where
  pub short : is_long q ≡ false
  pub pieces : ((not (is_matching q.kind) && lacks_piece q.kind) || list_any has_blank_number (number_pieces s a)) ≡ false
  pub weights : list_any is_misweighed (weighed_pieces s a) ≡ false
  pub pairs : ((is_matching q.kind && (lacks_piece q.kind || not (sound.has_stem q.kind))) || has_stray_arrow s a) ≡ false
  pub numbers : list_any has_no_number (number_pieces s a) ≡ false
  pub feedback : has_stray_feedback s a ≡ false
  pub right : not (sound.has_right_choice q.kind) ≡ false

pub faultless-values : (q : Question) (s : Sort) (a : Marks) → IsFaultless q s a → broken_values q s a ≡ []
faultless-values q s a is = no_rules _ _ _ _ _ _ _ is.short is.pieces is.weights is.pairs is.numbers is.feedback is.right

-- ---- a block is read as this question

pub record IsRead (b : Block) (q : Question) : Type 0 where
  pub value : question b ≡ q
  pub flawless : flaws b ≡ []
  pub asked : is_category b.marks ≡ false

not_large : (n m : ℕ) → n ≤ m → nat_lt m n ≡ false
not_large n m le = le-ltb m n le

pub read-told : (b : Block) (q : Question) → IsRead b q → canonical_size q ≤ MOST_TOGETHER → told b ≡ Ok (entry.Asked q)
read-told b q is small =
    let not_big : is_large b ≡ false =
    ap (λ (c : Bool). not c && nat_lt MOST_TOGETHER (canonical_size (question b))) is.asked
    ∙ ap (λ (p : Question). nat_lt MOST_TOGETHER (canonical_size p)) is.value
    ∙ not_large (canonical_size q) MOST_TOGETHER small in
    let sound : broken b ≡ [] = ap (λ (rules : List ℕ). or_large rules b) is.flawless ∙ ap (λ (c : Bool). when c 2) not_big in
    ap (λ (rules : List ℕ). told_by rules (is_category b.marks) b) sound
    ∙ ap (λ (c : Bool). told_by [] c b) is.asked
    ∙ ap (λ (p : Question). Ok (entry.Asked p)) is.value
