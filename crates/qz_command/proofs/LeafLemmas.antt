-- What the parser makes of words that are no flags, where each argument takes one word.
use Rattle.std.proofs.Common.{◌≡◌, ◌∙◌, ℕ, ◌&&◌, Bool, true, false, not, refl, sym, ap, List, [], ◌∷◌, Option, Some, None}
use Rattle.std.proofs.lemmas.Bool.{and_parts, or_parts}
use Rattle.std.proofs.Math.Bool.{or-true}
use Rattle.std.specs.List.{find, fold, list_all}
use Rattle.std.specs.Option.{option_map_or}
use Rattle.clap.specs.Walk.{Held, Row, Rule, Text, Walk, arg_by_index, finished, idle, is_empty, is_multiple, next_position, nothing_held, positional_held, rows_after, to_positional, value, walked, with_default, word_met}
use Rattle.clap.specs.Kinds.{Kinds, or_else}
use Rattle.clap.specs.Simple.{App, Shape}
use Rattle.clap.specs.Faults.{built_fault, check_fault, default_fault, defaults_fault, settle_fault, step_fault, walk_fault, word_fault}
use Rattle.qz_command.specs.Flags.{has_flag, is_flag}

-- the walk stands before the positional with number k
abbrev standing : ℕ → Held → Walk
standing k h = record { held = h; waiting = idle; position = k; is_trailing = false; stopped = None }

met : (c : List Rule) (k : ℕ) (w : Text) (h : Held) → is_flag w ≡ false → word_met c [] false idle k w h ≡ (h, value)
met c k [] h plain = refl
met c k (x ∷ xs) h plain = rw (plain, plain) refl

unfaulty : (s : Shape) (w : Text) (h : Held) → is_flag w ≡ false → word_fault s [] false idle w h ≡ []
unfaulty s [] h plain = refl
unfaulty s (x ∷ xs) h plain = rw (plain, plain) refl

-- an argument takes one word and has no other value, and flags may stand behind it
abbrev pub takes_one : Rule → Bool
takes_one a = is_empty a.defaults && (not (is_multiple a) && not a.trailing_var_arg)

-- where the walk stands behind one more word, and what is held then
abbrev place_after : List Rule → ℕ → ℕ
place_after c k = option_map_or (λ a. next_position a k) (arg_by_index c k) k

abbrev held_after : List Rule → ℕ → Held → Text → Held
held_after c k h w = option_map_or (λ a. positional_held c a w h) (arg_by_index c k) h

-- the same behind all words, and the faults on the way
abbrev pub end_of : List Rule → ℕ → Held → List Text → Walk
end_of c k h [] = standing k h
end_of c k h (w ∷ ws) = end_of c (place_after c k) (held_after c k h w) ws

abbrev pub faults_on : Shape → ℕ → Held → List Text → Kinds
faults_on s k h [] = []
faults_on s k h (w ∷ ws) = or_else (step_fault s k h value) (faults_on s (place_after s.rules k) (held_after s.rules k h w) ws)

not_true : (b : Bool) → not b ≡ true → b ≡ false
not_true true is = sym is
not_true false is = refl

here_or_later : {A : Type 0} (p q : A → Bool) (y : A) (ys : List A) (x : A) (b : Bool) → p y ≡ b → q y ≡ true → (find p ys ≡ Some x → q x ≡ true)
    → find p (y ∷ ys) ≡ Some x → q x ≡ true
here_or_later p q y ys x true here passes later found = let first = rw here at found in cc
here_or_later p q y ys x false other passes later found = later (rw other at found)

-- what is found in a list of which each passes a test passes it
found_passes : {A : Type 0} (p q : A → Bool) (xs : List A) (x : A) → list_all q xs ≡ true → find p xs ≡ Some x → q x ≡ true
found_passes p q [] x all found = absurd cc
found_passes p q (y ∷ ys) x all found =
    let parts = and_parts (q y) (list_all q ys) all in
    here_or_later p q y ys x (p y) refl parts.0 (found_passes p q ys x parts.1) found

module _ (c : List Rule) (single : list_all takes_one c ≡ true) where
  taken_by : (o : Option Rule) (k : ℕ) (h : Held) (w : Text) → arg_by_index c k ≡ o
      → to_positional c o w (standing k h) h ≡ standing (option_map_or (λ a. next_position a k) o k) (option_map_or (λ a. positional_held c a w h) o h)
  taken_by None k h w is = refl
  taken_by (Some a) k h w is =
      let parts = and_parts (not (is_multiple a)) (not a.trailing_var_arg) (and_parts (is_empty a.defaults) _ (found_passes _ takes_one c a single is)).1 in
      rw (not_true _ parts.0, not_true _ parts.1) refl

  one_taken : (k : ℕ) (h : Held) (w : Text) → to_positional c (arg_by_index c k) w (standing k h) h ≡ standing (place_after c k) (held_after c k h w)
  one_taken k h w = taken_by (arg_by_index c k) k h w refl

  step : (k : ℕ) (h : Held) (w : Text) → is_flag w ≡ false → walked c [] (standing k h) w ≡ standing (place_after c k) (held_after c k h w)
  unfolding walked
  step k h w plain = rw (met c k w h plain) (one_taken k h w)

  pub walks : (k : ℕ) (h : Held) (ws : List Text) → has_flag ws ≡ false → fold (walked c []) (standing k h) ws ≡ end_of c k h ws
  walks k h [] plain = refl
  walks k h (w ∷ ws) plain =
      let parts = or_parts (is_flag w) (has_flag ws) plain in
      ap (λ (s : Walk). fold (walked c []) s ws) (step k h w parts.0) ∙ walks (place_after c k) (held_after c k h w) ws parts.1

pub faults : (s : Shape) → list_all takes_one s.rules ≡ true → (k : ℕ) (h : Held) (ws : List Text) → has_flag ws ≡ false → walk_fault s [] (standing k h) ws ≡ faults_on s k h ws
unfolding walk_fault
faults s single k h [] plain = refl
faults s single k h (w ∷ ws) plain =
    let parts = or_parts (is_flag w) (has_flag ws) plain in
    let later = faults s single (place_after s.rules k) (held_after s.rules k h w) ws parts.1 in
    rw (step s.rules single k h w parts.0, met s.rules k w h parts.0, unfaulty s w h parts.0, later) refl

-- ---- a command without commands below it

end-stopped : (c : List Rule) (k : ℕ) (h : Held) (ws : List Text) → (end_of c k h ws).stopped ≡ None
end-stopped c k h [] = refl
end-stopped c k h (w ∷ ws) = end-stopped c (place_after c k) (held_after c k h w) ws

no_default : (rows : List Row) (c : List Rule) → list_all takes_one c ≡ true → defaults_fault rows c ≡ []
unfolding defaults_fault
no_default rows [] single = refl
no_default rows (a ∷ c) single =
    let parts = and_parts (takes_one a) (list_all takes_one c) single in
    let bare = (and_parts (is_empty a.defaults) (not (is_multiple a) && not a.trailing_var_arg) parts.0).0 in
    let here : default_fault rows a ≡ [] = rw (bare, or-true) refl in
    rw (here, no_default (with_default rows a) c parts.1) refl

-- the faults of all words, and of what they leave
abbrev pub faults_in : Shape → List Text → Kinds
faults_in s ws =
    let end = (end_of s.rules 1 nothing_held ws).held in
    or_else (faults_on s 1 nothing_held ws) (or_else (settle_fault s.rules s.args_override_self end) (check_fault s (finished s.rules end) false))

abbrev pub lone : Shape → App
lone s = record { top = s; subs = [] }

module _ (s : Shape) (single : list_all takes_one s.rules ≡ true) (ws : List Text) (plain : has_flag ws ≡ false) where
  pub fault_is : built_fault (lone s) nothing_held ws ≡ faults_in s ws
  fault_is =
      rw (faults s single 1 nothing_held ws plain, walks s.rules single 1 nothing_held ws plain, end-stopped s.rules 1 nothing_held ws, no_default _ s.rules single) refl

  pub rows_are : rows_after s.rules [] ws ≡ finished s.rules (end_of s.rules 1 nothing_held ws).held
  rows_are = ap (λ (w : Walk). finished s.rules w.held) (walks s.rules single 1 nothing_held ws plain)
