-- The general feedback at the end of an answer part, read back.
use Rattle.std.proofs.Common.{◌≡◌, Bool, true, false, cond, [], ◌∷◌, ◌++◌, drop, refl, ap, ◌∙◌, append-nil}
use Rattle.std.proofs.lemmas.Bool.{and_parts}
use Rattle.gift_lex.specs.declared.block.Piece.TheVariants.{Sign}
use Rattle.gift_read.specs.declared.places.Landmark.TheVariants as landmark
use Rattle.gift_read.specs.Places.{Marks, is_at, before, from, occurs, is_last}
use Rattle.gift_read.specs.Parts.{general_marks}
use Rattle.gift_laws.proofs.ReadBackPlaces.{Passes, passes-nil, passes-cons, passes-append, passes-plain, passes-occurs, passes-last, last-before, last-from, is_plain, are_plain, plain-sign}

abbrev pub hashes : Marks
hashes = Sign 35 ∷ Sign 35 ∷ Sign 35 ∷ Sign 35 ∷ []

-- answers, and behind four hashes a feedback, where there is one
abbrev pub with_general : Marks → Bool → Marks → Marks
with_general xs none gm = xs ++ cond none [] (hashes ++ gm)

-- no four hashes begin behind the first of four
three_hashes : (gm : Marks) → are_plain gm ≡ true → occurs (is_at landmark.Hashes) (Sign 35 ∷ Sign 35 ∷ Sign 35 ∷ gm) ≡ false
three_hashes [] plain = refl
three_hashes (m ∷ gm) plain =
    let parts = and_parts (is_plain m) (are_plain gm) plain in
    let none = passes-occurs (is_at landmark.Hashes) gm (passes-plain 35 (35 ∷ 35 ∷ 35 ∷ []) gm parts.1) in
    rw (plain-sign 35 m parts.0, none) refl

pub general-before : (xs gm : Marks) (none : Bool) → occurs (is_at landmark.Hashes) xs ≡ false → are_plain gm ≡ true → before (is_last (is_at landmark.Hashes)) (with_general xs none gm) ≡ xs
general-before xs gm true no_hashes plain = ap (before (is_last (is_at landmark.Hashes))) (append-nil xs) ∙ (passes-last (is_at landmark.Hashes) xs no_hashes).0
general-before xs gm false no_hashes plain = last-before (is_at landmark.Hashes) xs (Sign 35) (Sign 35 ∷ Sign 35 ∷ Sign 35 ∷ gm) refl (three_hashes gm plain)

pub general-marks : (xs gm : Marks) (none : Bool) → occurs (is_at landmark.Hashes) xs ≡ false → are_plain gm ≡ true → general_marks (with_general xs none gm) ≡ cond none [] gm
general-marks xs gm true no_hashes plain = ap (λ (t : Marks). drop 4 (from (is_last (is_at landmark.Hashes)) t)) (append-nil xs) ∙ ap (drop 4) (passes-last (is_at landmark.Hashes) xs no_hashes).1
general-marks xs gm false no_hashes plain = ap (drop 4) (last-from (is_at landmark.Hashes) xs (Sign 35) (Sign 35 ∷ Sign 35 ∷ Sign 35 ∷ gm) refl (three_hashes gm plain))

-- nothing closes there
pub closed-general : (xs gm : Marks) (none : Bool) → Passes (is_at landmark.Closing) xs → are_plain gm ≡ true → Passes (is_at landmark.Closing) (with_general xs none gm)
closed-general xs gm true closed plain = passes-append (is_at landmark.Closing) xs [] closed (passes-nil (is_at landmark.Closing))
closed-general xs gm false closed plain =
    let here = is_at landmark.Closing in
    passes-append here xs (hashes ++ gm) closed
    (passes-cons here (Sign 35) (Sign 35 ∷ Sign 35 ∷ Sign 35 ∷ gm) (λ ys. refl) (passes-cons here (Sign 35) (Sign 35 ∷ Sign 35 ∷ gm) (λ ys. refl) (passes-cons here (Sign 35) (Sign 35 ∷ gm) (λ ys. refl) (passes-cons here (Sign 35) gm (λ ys. refl) (passes-plain 125 [] gm plain)))))
