-- Bytes that end inside a target are seen to do so.
use Rattle.std.proofs.Common.{◌≡◌, ℕ, ◌<◌, true, false, IsTrue, List, [], ◌∷◌, ◌++◌, refl, arith}
use Rattle.std.specs.Prelude.{fold}
use Rattle.std.proofs.lemmas.Grind.{fold-append}
use Rattle.std.proofs.lemmas.List.Elements.{All-head, All-tail}
use Rattle.httparse.specs.Grammar.{is_token_byte, is_uri_byte, AllPass, IsToken, LineEnd, crlf, lf, print_blank, EndsInTarget}
use Rattle.qz_http.specs.declared.targets.Place.{Place}
use Rattle.qz_http.specs.declared.targets.Place.TheVariants as place
use Rattle.qz_http.specs.Targets.{is_elsewhere, next_place, place_after, is_past_target}

after_blank : (ends : List LineEnd) → place_after (print_blank ends) ≡ place.Blank
unfolding is_token_byte
after_blank [] = refl
after_blank (crlf ∷ ends) = after_blank ends
after_blank (lf ∷ ends) = after_blank ends

in_method : (m : List ℕ) → AllPass is_token_byte m → fold next_place place.Method m ≡ place.Method
in_method [] all = refl
in_method (b ∷ m) all =
    let token : is_token_byte b ≡ true = All-head (λ x. IsTrue (is_token_byte x)) b m all in
    rw token (in_method m (All-tail (λ x. IsTrue (is_token_byte x)) b m all))

after_method : (m : List ℕ) → IsToken m → place_after m ≡ place.Method
after_method [] token = absurd (let none : 0 < 0 = token.0 in omega arith)
after_method (b ∷ m) token =
    let first : is_token_byte b ≡ true = All-head (λ x. IsTrue (is_token_byte x)) b m token.1 in
    rw first (in_method m (All-tail (λ x. IsTrue (is_token_byte x)) b m token.1))

in_target : (u : List ℕ) → AllPass is_uri_byte u → fold next_place place.Target u ≡ place.Target
in_target [] all = refl
in_target (b ∷ u) all =
    let byte : is_uri_byte b ≡ true = All-head (λ x. IsTrue (is_uri_byte x)) b u all in
    rw byte (in_target u (All-tail (λ x. IsTrue (is_uri_byte x)) b u all))

behind_method : (u : List ℕ) → AllPass is_uri_byte u → fold next_place place.Method (32 ∷ u) ≡ place.Target
unfolding is_token_byte
behind_method u all = in_target u all

pub ends_inside : {bytes : List ℕ} → EndsInTarget bytes → is_past_target bytes ≡ false
ends_inside ends =
    let blank = print_blank ends.0 in
    let whole = fold-append next_place place.Blank (blank ++ ends.1) (32 ∷ ends.2) in
    let start = fold-append next_place place.Blank blank ends.1 in
    rw (ends.5, whole, start, after_blank ends.0, after_method ends.1 ends.3, behind_method ends.2 ends.4) refl

stays_elsewhere : (more : List ℕ) → fold next_place place.Elsewhere more ≡ place.Elsewhere
stays_elsewhere [] = refl
stays_elsewhere (b ∷ more) = stays_elsewhere more

past : (p : Place) → is_elsewhere p ≡ true → p ≡ place.Elsewhere
past place.Blank is = absurd cc
past place.Return is = absurd cc
past place.Method is = absurd cc
past place.Target is = absurd cc
past place.Elsewhere is = refl

-- what follows leaves them past it
pub past_target-append : (bytes more : List ℕ) → is_past_target bytes ≡ true → is_past_target (bytes ++ more) ≡ true
past_target-append bytes more is = rw (fold-append next_place place.Blank bytes more, past (place_after bytes) is, stays_elsewhere more) refl
