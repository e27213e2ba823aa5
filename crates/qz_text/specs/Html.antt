-- A text as it stands in HTML, and what such a text stands for.
use Rattle.std.specs.Prelude.{ℕ, zero, suc, ◌==◌, ◌||◌, Bool, true, false, List, [], ◌∷◌, flat_map, if◌then◌else◌, codes}

-- those that are left in no text as it stands in HTML; the ampersand begins each reference
abbrev pub is_own_mark : ℕ → Bool
is_own_mark c = (c == 60) || (c == 62) || (c == 34) || (c == 39)

abbrev pub html_byte : ℕ → List ℕ
html_byte c =
    if c == 38 then codes "&amp;"
    else (if c == 60 then codes "&lt;"
    else (if c == 62 then codes "&gt;"
    else (if c == 34 then codes "&quot;"
    else (if c == 39 then codes "&#39;" else c ∷ []))))

abbrev pub html_of : List ℕ → List ℕ
html_of text = flat_map html_byte text

-- ---- back

abbrev pub begins : List ℕ → List ℕ → Bool
begins [] text = true
begins (p ∷ ps) [] = false
begins (p ∷ ps) (c ∷ cs) = if p == c then begins ps cs else false

-- the text that HTML stands for; so many bytes belong to the reference that was read last
abbrev pub text_behind : ℕ → List ℕ → List ℕ
text_behind skipped [] = []
text_behind (suc skipped) (c ∷ cs) = text_behind skipped cs
text_behind zero (c ∷ cs) =
    if begins (codes "&amp;") (c ∷ cs) then 38 ∷ text_behind 4 cs
    else (if begins (codes "&lt;") (c ∷ cs) then 60 ∷ text_behind 3 cs
    else (if begins (codes "&gt;") (c ∷ cs) then 62 ∷ text_behind 3 cs
    else (if begins (codes "&quot;") (c ∷ cs) then 34 ∷ text_behind 5 cs
    else (if begins (codes "&#39;") (c ∷ cs) then 39 ∷ text_behind 4 cs else c ∷ text_behind 0 cs))))

abbrev pub text_of_html : List ℕ → List ℕ
text_of_html html = text_behind 0 html
