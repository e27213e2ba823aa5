-- Places in marks that are put together.
use Rattle.std.proofs.Common.{◌≡◌, ℕ, Bool, true, false, List, [], ◌∷◌, ◌++◌, map, refl, sym, ap, ◌∙◌, append_assoc}
use Rattle.std.specs.List.{list_all}
use Rattle.std.proofs.Math.Bool.{and-false, or-true}
use Rattle.std.proofs.lemmas.Bool.{and_parts, not-true}
use Rattle.std.proofs.lemmas.List.{append-nil}
use Rattle.std.proofs.lemmas.List.Folds.{list_all-append}
use Rattle.gift_lex.specs.declared.block.Piece.{Piece}
use Rattle.gift_lex.specs.declared.block.Piece.TheVariants.{Escaped, Sign, Plain}
use Rattle.gift_laws.specs.Written as written
use Rattle.gift_read.specs.Places.{Marks, character, is_space, is_this_sign, signs_at, before, from, occurs, is_last, are_blank, unled, trimmed}

-- ---- marks at which nothing is found, whatever follows them

pub record Passes (here : Marks → Bool) (xs : Marks) : Type 0 where
  pub occurs_is : (ys : Marks) → occurs here (xs ++ ys) ≡ occurs here ys
  pub before_is : (ys : Marks) → before here (xs ++ ys) ≡ xs ++ before here ys
  pub from_is : (ys : Marks) → from here (xs ++ ys) ≡ from here ys

pub passes-nil : (here : Marks → Bool) → Passes here []
passes-nil here = record { occurs_is = λ ys. refl; before_is = λ ys. refl; from_is = λ ys. refl }

pub passes-cons : (here : Marks → Bool) (m : Piece) (xs : Marks) → ((ys : Marks) → here (m ∷ (xs ++ ys)) ≡ false) → Passes here xs → Passes here (m ∷ xs)
passes-cons here m xs not_here passes = record {
  occurs_is = λ ys. rw (not_here ys) (passes.occurs_is ys);
  before_is = λ ys. rw (not_here ys) (ap (λ t. m ∷ t) (passes.before_is ys));
  from_is = λ ys. rw (not_here ys) (passes.from_is ys);
}

pub passes-append : (here : Marks → Bool) (xs ys : Marks) → Passes here xs → Passes here ys → Passes here (xs ++ ys)
passes-append here xs ys first second = record {
  occurs_is = λ zs. ap (occurs here) (append_assoc xs ys zs) ∙ first.occurs_is (ys ++ zs) ∙ second.occurs_is zs;
  before_is = λ zs. ap (before here) (append_assoc xs ys zs) ∙ first.before_is (ys ++ zs) ∙ ap (λ t. xs ++ t) (second.before_is zs) ∙ sym (append_assoc xs ys (before here zs));
  from_is = λ zs. ap (from here) (append_assoc xs ys zs) ∙ first.from_is (ys ++ zs) ∙ second.from_is zs;
}

-- nothing follows them
pub passes-occurs : (here : Marks → Bool) (xs : Marks) → Passes here xs → occurs here xs ≡ false
passes-occurs here xs passes = ap (occurs here) (sym (append-nil xs)) ∙ passes.occurs_is []

pub passes-before : (here : Marks → Bool) (xs : Marks) → Passes here xs → before here xs ≡ xs
passes-before here xs passes = ap (before here) (sym (append-nil xs)) ∙ passes.before_is [] ∙ append-nil xs

pub passes-from : (here : Marks → Bool) (xs : Marks) → Passes here xs → from here xs ≡ []
passes-from here xs passes = ap (from here) (sym (append-nil xs)) ∙ passes.from_is []

-- a place follows them
pub found-occurs : (here : Marks → Bool) (xs : Marks) (m : Piece) (ys : Marks) → Passes here xs → here (m ∷ ys) ≡ true → occurs here (xs ++ m ∷ ys) ≡ true
found-occurs here xs m ys passes holds = passes.occurs_is (m ∷ ys) ∙ rw holds refl

pub found-before : (here : Marks → Bool) (xs : Marks) (m : Piece) (ys : Marks) → Passes here xs → here (m ∷ ys) ≡ true → before here (xs ++ m ∷ ys) ≡ xs
found-before here xs m ys passes holds = passes.before_is (m ∷ ys) ∙ rw holds (append-nil xs)

pub found-from : (here : Marks → Bool) (xs : Marks) (m : Piece) (ys : Marks) → Passes here xs → here (m ∷ ys) ≡ true → from here (xs ++ m ∷ ys) ≡ m ∷ ys
found-from here xs m ys passes holds = passes.from_is (m ∷ ys) ∙ rw holds refl

-- ---- the last place, behind which there is none

pub occurs-later : (here : Marks → Bool) (xs ys : Marks) → occurs here ys ≡ true → occurs here (xs ++ ys) ≡ true
occurs-later here [] ys found = found
occurs-later here (x ∷ xs) ys found = rw (occurs-later here xs ys found) (or-true (here (x ∷ (xs ++ ys))))

occurs-behind : (here : Marks → Bool) (xs : Marks) (m : Piece) (ys : Marks) → here (m ∷ ys) ≡ true → occurs here (xs ++ m ∷ ys) ≡ true
occurs-behind here xs m ys holds = occurs-later here xs (m ∷ ys) (rw holds refl)

not_last : (here : Marks → Bool) (x : Piece) (xs : Marks) (m : Piece) (ys : Marks) → here (m ∷ ys) ≡ true → is_last here (x ∷ (xs ++ m ∷ ys)) ≡ false
not_last here x xs m ys holds = rw (occurs-behind here xs m ys holds) (and-false (here (x ∷ (xs ++ m ∷ ys))))

pub last-before : (here : Marks → Bool) (xs : Marks) (m : Piece) (ys : Marks) → here (m ∷ ys) ≡ true → occurs here ys ≡ false → before (is_last here) (xs ++ m ∷ ys) ≡ xs
last-before here [] m ys holds none = rw (holds, none) refl
last-before here (x ∷ xs) m ys holds none = rw (not_last here x xs m ys holds) (ap (λ t. x ∷ t) (last-before here xs m ys holds none))

pub last-from : (here : Marks → Bool) (xs : Marks) (m : Piece) (ys : Marks) → here (m ∷ ys) ≡ true → occurs here ys ≡ false → from (is_last here) (xs ++ m ∷ ys) ≡ m ∷ ys
last-from here [] m ys holds none = rw (holds, none) refl
last-from here (x ∷ xs) m ys holds none = rw (not_last here x xs m ys holds) (last-from here xs m ys holds none)

-- where there is no place, there is no last one
pub passes-last : (here : Marks → Bool) (xs : Marks) → occurs here xs ≡ false → (before (is_last here) xs ≡ xs) × (from (is_last here) xs ≡ [])
passes-last here [] none = (refl, refl)
passes-last here (x ∷ xs) none = go (here (x ∷ xs)) refl (λ later. passes-last here xs later)
  where
    go : (b : Bool) → here (x ∷ xs) ≡ b → (occurs here xs ≡ false → (before (is_last here) xs ≡ xs) × (from (is_last here) xs ≡ []))
        → (before (is_last here) (x ∷ xs) ≡ x ∷ xs) × (from (is_last here) (x ∷ xs) ≡ [])
    go true e later = let some : true ≡ false = rw e at none in cc
    go false e later =
        let parts = later (rw e at none) in
        (rw e (ap (λ t. x ∷ t) parts.0), rw e parts.1)

-- ---- marks that are no signs

abbrev pub is_plain : Piece → Bool
is_plain (Sign c) = false
is_plain (Escaped c) = true
is_plain (Plain c) = true

abbrev pub are_plain : Marks → Bool
are_plain marks = list_all is_plain marks

pub plain-sign : (s : ℕ) (m : Piece) → is_plain m ≡ true → is_this_sign s m ≡ false
plain-sign s (Sign c) plain = cc
plain-sign s (Escaped c) plain = refl
plain-sign s (Plain c) plain = refl

-- no sign is found there
pub passes-plain : (s : ℕ) (ss : List ℕ) (xs : Marks) → are_plain xs ≡ true → Passes (signs_at (s ∷ ss)) xs
passes-plain s ss [] plain = passes-nil (signs_at (s ∷ ss))
passes-plain s ss (m ∷ xs) plain =
    let parts = and_parts (is_plain m) (are_plain xs) plain in
    passes-cons (signs_at (s ∷ ss)) m xs (λ ys. rw (plain-sign s m parts.0) refl) (passes-plain s ss xs parts.1)

-- ---- marks without outer white space

-- told by their characters
abbrev pub begins_ink : Marks → Bool
begins_ink marks = written.begins_ink (map character marks)

abbrev pub ends_ink : Marks → Bool
ends_ink marks = written.ends_ink (map character marks)

pub unled-ink : (marks : Marks) → begins_ink marks ≡ true → unled marks ≡ marks
unled-ink [] ink = refl
unled-ink (m ∷ marks) ink = rw ink refl

-- what ends in ink isn't blank
ends-not_blank : (m : Piece) (marks : Marks) → ends_ink (m ∷ marks) ≡ true → are_blank (m ∷ marks) ≡ false
ends-not_blank m [] ink = rw (not-true (is_space m) ink) refl
ends-not_blank m (n ∷ marks) ink = rw (ends-not_blank n marks ink) (and-false (is_space m))

unended : (marks : Marks) → ends_ink marks ≡ true → before are_blank marks ≡ marks
unended [] ink = refl
unended (m ∷ []) ink = rw (ends-not_blank m [] ink) refl
unended (m ∷ n ∷ marks) ink = rw (ends-not_blank m (n ∷ marks) ink) (ap (λ t. m ∷ t) (unended (n ∷ marks) ink))

pub trimmed-ink : (marks : Marks) → begins_ink marks ≡ true → ends_ink marks ≡ true → trimmed marks ≡ marks
trimmed-ink marks begins ends = rw (unled-ink marks begins) (unended marks ends)

-- white space before them, and behind them
pub unled-blank : (blank marks : Marks) → are_blank blank ≡ true → unled (blank ++ marks) ≡ unled marks
unled-blank [] marks is = refl
unled-blank (m ∷ blank) marks is =
    let parts = and_parts (is_space m) (are_blank blank) is in
    rw parts.0 (unled-blank blank marks parts.1)

unended-blank : (marks blank : Marks) → ends_ink marks ≡ true → are_blank blank ≡ true → before are_blank (marks ++ blank) ≡ marks
unended-blank [] [] ends is = refl
unended-blank [] (b ∷ blank) ends is = rw is refl
unended-blank (m ∷ []) blank ends is =
    let ink = not-true (is_space m) ends in
    rw ink (ap (λ t. m ∷ t) (unended-blank [] blank refl is))
unended-blank (m ∷ n ∷ marks) blank ends is =
    let not_blank = ends-not_blank n marks ends in
    let whole : are_blank (m ∷ n ∷ (marks ++ blank)) ≡ false = rw (list_all-append is_space (n ∷ marks) blank, not_blank) (and-false (is_space m)) in
    rw whole (ap (λ t. m ∷ t) (unended-blank (n ∷ marks) blank ends is))

-- what stands between white space
pub trimmed-between : (m : Piece) (before_it marks behind : Marks) → are_blank before_it ≡ true → begins_ink (m ∷ marks) ≡ true → ends_ink (m ∷ marks) ≡ true → are_blank behind ≡ true
    → trimmed (before_it ++ ((m ∷ marks) ++ behind)) ≡ m ∷ marks
trimmed-between m before_it marks behind blank begins ends blank_behind =
    rw (unled-blank before_it ((m ∷ marks) ++ behind) blank, unled-ink ((m ∷ marks) ++ behind) begins) (unended-blank (m ∷ marks) behind ends blank_behind)

-- the same where these are none
pub trimmed-around : (before_it marks behind : Marks) → are_blank before_it ≡ true → begins_ink marks ≡ true → ends_ink marks ≡ true → are_blank behind ≡ true → trimmed (before_it ++ (marks ++ behind)) ≡ marks
trimmed-around before_it [] behind blank begins ends blank_behind =
    let none : unled behind ≡ [] = ap unled (sym (append-nil behind)) ∙ unled-blank behind [] blank_behind in
    rw (unled-blank before_it behind blank, none) refl
trimmed-around before_it (m ∷ marks) behind blank begins ends blank_behind = trimmed-between m before_it marks behind blank begins ends blank_behind
