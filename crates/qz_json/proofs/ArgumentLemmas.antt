-- Tests of arguments and of members.
use Rattle.std.proofs.Common.{◌≡◌, ℕ, ◌&&◌, ◌||◌, Bool, List, [], ◌∷◌, map, String, Global, Bor, string_bytes, refl, sym, ap, ◌∙◌}
use Rattle.std.specs.List.{list_all, list_any}
use Rattle.std.specs.Map.{keys_of}
use Rattle.std.proofs.lemmas.Simd.{map-map}
use Rattle.serde_json.specs.Data.{Data}
use Rattle.serde_json.specs.Find.{get}
use Rattle.serde_json.specs.View.{members_view}
use Rattle.serde_json.specs.declared.value.Value.{Value}
use Rattle.qz_wire.specs.declared.verbs.Verb.{Verb}
use Rattle.qz_json.specs.Arguments.{has_no_other, is_wanted, word_for, words_for}
use Rattle.qz_json.specs.declared.arguments.Form.{Form}

pub any_of_map : {X Y : Type 0} (p : Y → Bool) (f : X → Y) (xs : List X) → list_any p (map f xs) ≡ list_any (λ x. p (f x)) xs
any_of_map p f [] = refl
any_of_map p f (x ∷ xs) = ap (λ (b : Bool). p (f x) || b) (any_of_map p f xs)

pub all-wanted : (v : Verb) (es : List (String Global × Value)) → list_all (λ (k : String Global). is_wanted v (string_bytes k)) (keys_of es) ≡ has_no_other v (members_view es)
all-wanted v [] = refl
all-wanted v (e ∷ es) = ap (λ (b : Bool). is_wanted v (string_bytes e.0) && b) (all-wanted v es)

-- the words for arguments that are held by reference
pub shown-words : (items : List (Bor (List ℕ) × Form)) (arguments : List (List ℕ × Form)) (body : Data) → map (λ (a : Bor (List ℕ) × Form). (a.0.now, a.1)) items ≡ arguments
    → map (λ (a : Bor (List ℕ) × Form). word_for a.1 (get a.0.now body)) items ≡ words_for arguments body
shown-words items arguments body same = sym (map-map (λ (a : List ℕ × Form). word_for a.1 (get a.0 body)) (λ (a : Bor (List ℕ) × Form). (a.0.now, a.1)) items) ∙ ap (λ (l : List (List ℕ × Form)). words_for l body) same
