-- One field more, and what is found of them.
use Rattle.std.proofs.Common.{◌≡◌, ℕ, ◌+◌, ◌<◌, Bool, true, false, List, [], ◌∷◌, ◌++◌, Option, Some, None, length, map, take, get_or, refl, ap, ◌∙◌}
use Rattle.std.specs.Prelude.{◌||◌}
use Rattle.std.specs.List.{list_any}
use Rattle.std.proofs.lemmas.List.{map-append, append-nil, take_more}
use Rattle.std.proofs.lemmas.List.Elements.{filter_map-append}
use Rattle.std.proofs.lemmas.List.Folds.{list_any-append}
use Rattle.httparse.specs.declared.spans.HeaderSpan.{HeaderSpan}
use Rattle.httparse.specs.Spans.{header_bytes}
use Rattle.qz_http.specs.Found.{passes, with_value}
use Rattle.qz_http.specs.Heads.{value_if, values}

values-one : (name : List ℕ) (fields : List (List ℕ × List ℕ)) (field : List ℕ × List ℕ) (o : Option (List ℕ)) → value_if name field ≡ o → values name fields ++ values name (field ∷ []) ≡ with_value (values name fields) o
values-one name fields field None is = rw is (append-nil (values name fields))
values-one name fields field (Some value) is = rw is refl

pub values-one_more : (bytes name : List ℕ) (headers : List HeaderSpan) (i : ℕ) (d : HeaderSpan) → i < length headers
    → values name (map (header_bytes bytes) (take (i + 1) headers)) ≡ with_value (values name (map (header_bytes bytes) (take i headers))) (value_if name (header_bytes bytes (get_or headers i d)))
values-one_more bytes name headers i d inside =
    let before = map (header_bytes bytes) (take i headers) in
    let x = get_or headers i d in
    ap (λ (hs : List HeaderSpan). values name (map (header_bytes bytes) hs)) (take_more headers i d inside)
    ∙ ap (values name) (map-append (header_bytes bytes) (take i headers) (x ∷ []))
    ∙ filter_map-append (value_if name) before (header_bytes bytes x ∷ [])
    ∙ values-one name before (header_bytes bytes x) (value_if name (header_bytes bytes x)) refl

pub second : (before : List (List ℕ)) (first value : List ℕ) → before ≡ first ∷ [] → with_value before (Some value) ≡ first ∷ value ∷ []
second before first value is = rw is refl

pub further : (before more : List (List ℕ)) (first other value : List ℕ) → before ≡ first ∷ other ∷ more → with_value before (Some value) ≡ first ∷ other ∷ (more ++ value ∷ [])
further before more first other value is = rw is refl

pub any-one_more : (p : List ℕ → Bool) (before : List (List ℕ)) (o : Option (List ℕ)) → list_any p (with_value before o) ≡ (list_any p before || passes p o)
any-one_more p before None = by (list_any p before)
  where
    by : (any : Bool) → any ≡ (any || false)
    by true = refl
    by false = refl
any-one_more p before (Some value) = list_any-append p before (value ∷ []) ∙ by (p value) (list_any p before) refl
  where
    by : (b any : Bool) → p value ≡ b → (any || list_any p (value ∷ [])) ≡ (any || p value)
    by true any is = rw is refl
    by false any is = rw is refl
