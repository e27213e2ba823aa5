-- The keys of one caller, where an entry is made or filled.
use Rattle.std.proofs.Common.{◌≡◌, ℕ, Bool, true, false, List, Option, Some, None, refl, sym, ap, ◌∙◌}
use Rattle.std.specs.BTreeMap.{BTreeMap, UpdatesBy, get_by_text}
use Rattle.std.specs.Cmp.Lexicographic.{slice_cmp}
use Rattle.std.specs.Option.{option_or}
use Rattle.std.specs.Ordering.{nat_cmp}
use Rattle.std.specs.Prelude.{String, bytes_eq, cond, if◌then◌else◌, is_some, string_bytes, string_cmp, unwrap_or}
use Rattle.std.proofs.lemmas.Map.Text.{btree_map_updates_text}
use Rattle.std.proofs.lemmas.Slice.Eq.{bytes_eq-Decides}
use Rattle.qz_lemmas.proofs.Options.{or-none}

made-by : {X Y : Type 0} (m : BTreeMap (String Y) (Option X)) (bs cs : List ℕ) (b : Bool) → bytes_eq bs cs ≡ b → get_by_text m bs ≡ None → unwrap_or (cond b (Some None) (get_by_text m cs)) None ≡ unwrap_or (get_by_text m cs) None
made-by m bs cs true is none = let same = (bytes_eq-Decides bs cs).0 is in sym (ap (λ (o : Option (Option _)). unwrap_or o None) (ap (get_by_text m) (sym same) ∙ none))
made-by m bs cs false is none = refl

-- an empty entry tells nothing
pub text_made : {X Y : Type 0} (m n : BTreeMap (String Y) (Option X)) (bs : List ℕ) → UpdatesBy string_cmp (λ k. slice_cmp nat_cmp bs (string_bytes k)) m n (Some None) → get_by_text m bs ≡ None → (cs : List ℕ) → unwrap_or (get_by_text n cs) None ≡ unwrap_or (get_by_text m cs) None
text_made m n bs u none cs = ap (λ (o : Option (Option _)). unwrap_or o None) (btree_map_updates_text bs m n (Some None) u cs) ∙ made-by m bs cs (bytes_eq bs cs) refl none

put-by : {X Y : Type 0} (m : BTreeMap (String Y) (Option X)) (bs cs : List ℕ) (old : Option X) (v : X) (b : Bool) → bytes_eq bs cs ≡ b → get_by_text m bs ≡ Some old
    → unwrap_or (cond b (Some (option_or old (Some v))) (get_by_text m cs)) None ≡ option_or (unwrap_or (get_by_text m cs) None) (if b then Some v else None)
put-by m bs cs old v true is some = let same = (bytes_eq-Decides bs cs).0 is in sym (ap (λ (o : Option (Option _)). option_or (unwrap_or o None) (Some v)) (ap (get_by_text m) (sym same) ∙ some))
put-by m bs cs old v false is some = sym (or-none (unwrap_or (get_by_text m cs) None))

-- an entry that is there is filled, if it is empty
pub text_put : {X Y : Type 0} (m n : BTreeMap (String Y) (Option X)) (bs : List ℕ) (old : Option X) (v : X) → UpdatesBy string_cmp (λ k. slice_cmp nat_cmp bs (string_bytes k)) m n (Some (option_or old (Some v))) → get_by_text m bs ≡ Some old
    → (cs : List ℕ) → unwrap_or (get_by_text n cs) None ≡ option_or (unwrap_or (get_by_text m cs) None) (if bytes_eq bs cs then Some v else None)
text_put m n bs old v u some cs = ap (λ (o : Option (Option _)). unwrap_or o None) (btree_map_updates_text bs m n (Some (option_or old (Some v))) u cs) ∙ put-by m bs cs old v (bytes_eq bs cs) refl some
