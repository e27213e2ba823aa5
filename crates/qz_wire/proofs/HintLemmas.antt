-- Hints, one a line.
use Rattle.std.proofs.Common.{◌≡◌, ℕ, ◌<◌, ◌≤◌, Bool, true, false, ◌&&◌, ◌||◌, ◌==◌, List, [], ◌∷◌, ◌++◌, length, Option, Some, None, Result, Ok, Err, is_some, refl, sym, ap, cond, arith}
use Rattle.std.specs.List.{list_all}
use Rattle.std.specs.Prelude.{nat_le, nat_lt, IfOk, IfSome}
use Rattle.std.specs.Str.{is_utf8}
use Rattle.std.proofs.lemmas.Bool.{and_parts}
use Rattle.std.proofs.lemmas.Bool.Decides.{nat_tests}
use Rattle.std.proofs.lemmas.List.{length-append}
use Rattle.std.proofs.lemmas.List.Folds.{list_all-append}
use Rattle.qz_grading.specs.Questions.{are_no_longer}
use Rattle.qz_terms.specs.Kept.{are_hints}
use Rattle.qz_wire.specs.BankWords.{hint_of, hints_on, is_hint}

-- the hint that a line is, is the line
pub record IsLine (line hint : List ℕ) : Type 0 where
  pub same : hint ≡ line
  pub short : nat_le (length line) 4096 ≡ true

line-by : (line hint : List ℕ) (empty long utf8 : Bool) → (length line == 0) ≡ empty → nat_lt 4096 (length line) ≡ long → is_utf8 line ≡ utf8
    → cond (empty || long) None (cond utf8 (Some line) None) ≡ Some hint → IsLine line hint
line-by line hint true long utf8 e l u is = absurd cc
line-by line hint false true utf8 e l u is = absurd cc
line-by line hint false false false e l u is = absurd cc
line-by line hint false false true e l u is = record { same = sym cc; short = grind (arith, nat_tests) }

pub hint-line : (line hint : List ℕ) → hint_of line ≡ Some hint → IsLine line hint
hint-line line hint is = line-by line hint _ _ _ refl refl refl is

-- more lines than may be
pub too-many : (lines hints : List (List ℕ)) (line : List ℕ) (more : List (List ℕ)) → lines ≡ hints ++ line ∷ more → 0 < length more → 19 ≤ length hints → None ≡ hints_on lines
too-many lines hints line more parts some many =
    let long : 20 < length lines = omega (arith, ap (λ (l : List (List ℕ)). length l) parts, length-append hints (line ∷ more), some, many) in
    let test : nat_le (length lines) 20 ≡ false = grind (arith, nat_tests) in
    rw test refl

-- ---- what every hint keeps

short-by : (line : List ℕ) (more : List (List ℕ)) (h : Option (List ℕ)) → hint_of line ≡ h → (is_some h && list_all is_hint more) ≡ true → (nat_le (length line) 4096 ≡ true) × (list_all is_hint more ≡ true)
short-by line more (Some hint) is all = ((hint-line line hint is).short, all)
short-by line more None is all = absurd cc

all-short : (lines : List (List ℕ)) → list_all is_hint lines ≡ true → are_no_longer 4096 lines ≡ true
all-short [] all = refl
all-short (line ∷ lines) all = let both = short-by line lines (hint_of line) refl all in rw (both.0, all-short lines both.1) refl

kept-by : (lines hints : List (List ℕ)) (test : Bool) → (nat_le (length lines) 20 && list_all is_hint lines) ≡ test → cond test (Some lines) None ≡ Some hints → are_hints hints ≡ true
kept-by lines hints false none is = absurd cc
kept-by lines hints true all is =
    let same : lines ≡ hints = cc in
    let both = and_parts (nat_le (length lines) 20) (list_all is_hint lines) all in
    rw (← same, both.0, all-short lines both.1) refl

pub kept-hints : (lines hints : List (List ℕ)) → hints_on lines ≡ Some hints → are_hints hints ≡ true
kept-hints lines hints is = kept-by lines hints _ refl is

pub kept-found : {E : Type 0} (lines : List (List ℕ)) (r : Result (Option (List (List ℕ))) E) → IfOk r (λ found. found ≡ hints_on lines) → IfOk r (λ found. IfSome found (λ hints. are_hints hints ≡ true))
kept-found lines (Ok (Some hints)) is = kept-hints lines hints (sym is)
kept-found lines (Ok None) is = tt
kept-found lines (Err e) is = tt
