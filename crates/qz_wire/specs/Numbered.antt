-- What is read line by line, or word by word: a value, or the number of the first line or word that isn't of its form.
use Rattle.std.specs.Prelude.{ℕ, List, [], ◌∷◌, Option, Some, None, option_map, Result, Ok, Err}

infixl 10 ◌>>=◌
abbrev pub ◌>>=◌ : {A B E : Type 0} → Result A E → (A → Result B E) → Result B E
(Ok x) >>= f = f x
(Err fault) >>= f = Err fault

-- what a line gives, or the number of the line
abbrev pub or_line : {A : Type 0} → ℕ → Option A → Result A ℕ
or_line number None = Err number
or_line number (Some x) = Ok x

-- what the line with this number gives, and the lines after it; or its number, where it has no reading or is missing
abbrev pub line_at : {A : Type 0} → (List ℕ → Option A) → ℕ → List (List ℕ) → Result (A × List (List ℕ)) ℕ
line_at reading number [] = Err number
line_at reading number (line ∷ lines) = or_line number (option_map (λ x. (x, lines)) (reading line))

-- no word is left behind the word before this number
abbrev pub end_at : {A : Type 0} → ℕ → A → List (List ℕ) → Result A ℕ
end_at number x [] = Ok x
end_at number x (word ∷ words) = Err number
