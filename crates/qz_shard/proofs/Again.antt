-- A request that stands in the list is answered again.
use Rattle.std.proofs.Common.{◌≡◌, ℕ, Bool, true, false, not, List, [], ◌∷◌, ◌++◌, Option, Some, refl, sym, ap, ◌∙◌, eq-eqb}
use Rattle.std.specs.Prelude.{filter}
use Rattle.std.specs.List.{list_any}
use Rattle.qz_terms.specs.declared.record.Record.{Record}
use Rattle.qz_terms.specs.Answer.{moment_of}
use Rattle.qz_terms.specs.Cause.{Repeated, by_key, has_key, spells, verdict_here}
use Rattle.qz_terms.specs.Legal.{new_key_by}
use Rattle.qz_terms.specs.Lists.{first_of, up_to_first}
use Rattle.qz_terms.proofs.Standing.{bytes-same, first-behind, up-behind}
use Rattle.qz_shard.specs.Holdings.{IsAnsweredAgain}
use Rattle.qz_shard.proofs.Making.{answer-repeated}

not-true : (b : Bool) → not b ≡ true → b ≡ false
not-true true is = absurd cc
not-true false is = refl

fresh-before : (l : List Record) (caller n : ℕ) (k : Option (List ℕ)) (key : List ℕ) → new_key_by l caller k ≡ true → k ≡ Some key → caller ≡ n → list_any (has_key n key) l ≡ false
fresh-before l caller n k key new is same =
    let named : new_key_by l caller (Some key) ≡ true = ap (new_key_by l caller) (sym is) ∙ new in
    ap (λ (m : ℕ). list_any (has_key m key) l) (sym same) ∙ not-true (list_any (has_key caller key) l) named

pub again : (index count : ℕ) → IsAnsweredAgain index count
again index count = record {
  again = λ l rest r key now user plan ask legal caller keyed asks same free there.
      let h = l ++ r ∷ rest in
      let has : has_key user.number key r ≡ true = rw (eq-eqb r.caller user.number caller, keyed) (bytes-same key) in
      let none : list_any (has_key user.number key) l ≡ false = fresh-before l r.caller user.number r.key key (legal.each l r rest refl).key keyed caller in
      let first : first_of (filter (has_key user.number key) h) ≡ Some r = first-behind (has_key user.number key) l r rest none has in
      let up : up_to_first (has_key user.number key) h ≡ l ++ r ∷ [] = up-behind (has_key user.number key) l r rest none has in
      let kept : by_key (spells ask.request) user.number (Some key) h ≡ Some (Repeated (l ++ r ∷ []) r) = rw (first, up, same) refl in
      let repeated : verdict_here h (moment_of h now user ask.request) user plan ask ≡ Repeated (l ++ r ∷ []) r = rw (free, there, asks, kept) refl in
      answer-repeated h now user plan ask (l ++ r ∷ []) r repeated;
}
