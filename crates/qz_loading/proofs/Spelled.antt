-- Records that are told by their spellings.
use Rattle.std.proofs.Common.{◌≡◌, ℕ, ◌<◌, List, [], ◌∷◌, ◌++◌, map, length, refl, sym, arith}
use Rattle.std.specs.Prelude.{All}
use Rattle.std.proofs.lemmas.List.Elements.{All-head, All-tail}
use Rattle.qz_record.specs.Records.{IsRecord}
use Rattle.qz_record.proofs.Parsing.{spelled-same}
use Rattle.qz_terms.specs.declared.record.Record.{Record}
use Rattle.qz_terms.specs.Spelling.{spelling}

first-same : (x y : Record) (xs ys : List (List ℕ)) → IsRecord x → IsRecord y → spelling x ∷ xs ≡ spelling y ∷ ys → x ≡ y
first-same x y xs ys one other e =
    let s : spelling x ≡ spelling y = cc in
    spelled-same x y one.spellable other.spellable s

rest-same : (x y : Record) (xs ys : List (List ℕ)) → spelling x ∷ xs ≡ spelling y ∷ ys → xs ≡ ys
rest-same x y xs ys e = cc

cell : (x y : Record) (xs ys : List Record) → x ≡ y → xs ≡ ys → x ∷ xs ≡ y ∷ ys
cell x y xs ys one other = cc

-- lists with the same spellings are the same
pub all-same : (a b : List Record) → All IsRecord a → All IsRecord b → map spelling a ≡ map spelling b → a ≡ b
all-same [] [] p q e = refl
all-same [] (y ∷ ys) p q e = absurd cc
all-same (x ∷ xs) [] p q e = absurd cc
all-same (x ∷ xs) (y ∷ ys) p q e = cell x y xs ys
    (first-same x y (map spelling xs) (map spelling ys) (All-head IsRecord x xs p) (All-head IsRecord y ys q) e)
    (all-same xs ys (All-tail IsRecord x xs p) (All-tail IsRecord y ys q) (rest-same x y (map spelling xs) (map spelling ys) e))

-- a payload behind the spellings of these is that of the next record
pub record SplitsAt (c before : List Record) (bad : List ℕ) : Type 0 where
  pub own : Record
  pub rest : List Record
  pub list : c ≡ before ++ own ∷ rest
  pub spelled : bad ≡ spelling own
  pub record_is : IsRecord own

pub splits : (c before : List Record) (bad : List ℕ) (rest : List (List ℕ)) → All IsRecord c → All IsRecord before → map spelling c ≡ map spelling before ++ bad ∷ rest → SplitsAt c before bad
splits [] [] bad rest p q e = absurd cc
splits [] (y ∷ ys) bad rest p q e = absurd cc
splits (x ∷ xs) [] bad rest p q e = record { own = x; rest = xs; list = refl; spelled = cc; record_is = All-head IsRecord x xs p }
splits (x ∷ xs) (y ∷ ys) bad rest p q e =
    let same = first-same x y (map spelling xs) (map spelling ys ++ bad ∷ rest) (All-head IsRecord x xs p) (All-head IsRecord y ys q) e in
    let s = splits xs ys bad rest (All-tail IsRecord x xs p) (All-tail IsRecord y ys q) (rest-same x y (map spelling xs) (map spelling ys ++ bad ∷ rest) e) in
    record { own = s.own; rest = s.rest; list = cell x y xs (ys ++ s.own ∷ s.rest) same s.list; spelled = s.spelled; record_is = s.record_is }

-- the same of a payload that stands in front of the end of more of them
pub shorter-splits : (before c : List Record) (bad : List ℕ) (rest behind : List (List ℕ)) → All IsRecord before → All IsRecord c → length before < length c → map spelling before ++ bad ∷ rest ≡ map spelling c ++ behind → SplitsAt c before bad
shorter-splits [] [] bad rest behind p q less e = absurd (omega arith)
shorter-splits [] (y ∷ ys) bad rest behind p q less e = record { own = y; rest = ys; list = refl; spelled = cc; record_is = All-head IsRecord y ys q }
shorter-splits (x ∷ xs) [] bad rest behind p q less e = absurd (omega arith)
shorter-splits (x ∷ xs) (y ∷ ys) bad rest behind p q less e =
    let same = first-same x y (map spelling xs ++ bad ∷ rest) (map spelling ys ++ behind) (All-head IsRecord x xs p) (All-head IsRecord y ys q) e in
    let s = shorter-splits xs ys bad rest behind (All-tail IsRecord x xs p) (All-tail IsRecord y ys q) (omega (arith, less)) (rest-same x y (map spelling xs ++ bad ∷ rest) (map spelling ys ++ behind) e) in
    record { own = s.own; rest = s.rest; list = cell y x ys (xs ++ s.own ∷ s.rest) (sym same) s.list; spelled = s.spelled; record_is = s.record_is }
