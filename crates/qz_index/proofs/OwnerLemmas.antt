-- What the records of a user tell, one record more at a time.
use Rattle.std.proofs.Common.{◌≡◌, ℕ, ◌+◌, ◌≤◌, Bool, true, false, List, [], ◌∷◌, ◌++◌, Option, Some, None, length, refl, sym, ap, ◌∙◌, arith}
use Rattle.std.specs.BTreeMap.{Updates}
use Rattle.std.specs.Int.{from_bool}
use Rattle.std.specs.Option.{option_or}
use Rattle.std.specs.Ordering.{nat_cmp}
use Rattle.std.specs.Prelude.{◌&&◌, ◌==◌, filter_map, if◌then◌else◌, is_some, unwrap_or}
use Rattle.std.proofs.lemmas.Bool.{eqb-true}
use Rattle.qz_grading.specs.Steps.{last_of}
use Rattle.qz_terms.specs.declared.record.Record.{Record}
use Rattle.qz_terms.specs.History.{is_owned, next_attempt, owned_moment, place, started}
use Rattle.qz_terms.specs.Lists.{how_many}
use Rattle.qz_terms.proofs.Walks.{how_many-push, last_of-push}
use Rattle.qz_index.specs.declared.owners.Owners.{Owners}
use Rattle.qz_index.specs.declared.owners.Tally.{Tally}
use Rattle.qz_index.specs.Owners.{AreTallied, last_moment, tally, tally_in}
use Rattle.qz_room.proofs.Filled.{filled}

few-step : {A : Type 0} (p : A → Bool) (x : A) (xs : List A) (b : Bool) → p x ≡ b → how_many p xs ≤ length xs → how_many p (x ∷ xs) ≤ length (x ∷ xs)
few-step p x xs true is few = rw is (omega arith)
few-step p x xs false is few = rw is (omega arith)

few : {A : Type 0} (p : A → Bool) (xs : List A) → how_many p xs ≤ length xs
few p [] = omega arith
few p (x ∷ xs) = few-step p x xs (p x) refl (few p xs)

-- the tallies of a list are no greater than it is long
pub few_records : (m : Owners) (h : List Record) (u : ℕ) → AreTallied m h → (tally m u).records ≤ length h
few_records m h u are = let same = ap (λ (t : Tally). t.records) (are.each u) in let most = few (is_owned u) h in omega arith

pub few_attempts : (m : Owners) (h : List Record) (u : ℕ) → AreTallied m h → (tally m u).next ≤ length h + 1
few_attempts m h u are = let same = ap (λ (t : Tally). t.next) (are.each u) in let most = few (λ r. is_owned u r && is_some (started r)) h in omega arith

-- ---- one record more

abbrev pub raised : Tally → Record → Tally
raised t r = record { records = t.records + 1; last = r.moment; next = t.next + from_bool (is_some (started r)) }

pub few_bit : (b : Bool) (n : ℕ) → n ≡ from_bool b → n ≤ 1
few_bit true n is = omega arith
few_bit false n is = omega arith

bit : (b : Bool) → (if b then 1 else 0) ≡ from_bool b
bit true = refl
bit false = refl

tally-by : (h : List Record) (r : Record) (u : ℕ) (b : Bool) → is_owned u r ≡ b → tally_in (h ++ r ∷ []) u ≡ (if b then raised (tally_in h u) r else tally_in h u)
tally-by h r u true is =
    let records : place (h ++ r ∷ []) u ≡ place h u + 1 = how_many-push (is_owned u) h r true is in
    let told : owned_moment u r ≡ Some r.moment = rw is refl in
    let last : last_moment (h ++ r ∷ []) u ≡ r.moment = ap (λ (o : Option ℕ). unwrap_or o 0) (last_of-push (owned_moment u) h r ∙ ap (λ (o : Option ℕ). option_or o (last_of (filter_map (owned_moment u) h))) told) in
    let starts : (is_owned u r && is_some (started r)) ≡ is_some (started r) = rw is refl in
    let made = how_many-push (λ s. is_owned u s && is_some (started s)) h r (is_some (started r)) starts in
    let next : (next_attempt (h ++ r ∷ []) u).nth ≡ (next_attempt h u).nth + from_bool (is_some (started r)) = omega (arith, made, bit (is_some (started r))) in
    ap (λ n. record { records = n; last = last_moment (h ++ r ∷ []) u; next = (next_attempt (h ++ r ∷ []) u).nth }) records
    ∙ ap (λ n. record { records = place h u + 1; last = n; next = (next_attempt (h ++ r ∷ []) u).nth }) last
    ∙ ap (λ n. record { records = place h u + 1; last = r.moment; next = n }) next
tally-by h r u false is =
    let records : place (h ++ r ∷ []) u ≡ place h u = omega (arith, how_many-push (is_owned u) h r false is) in
    let told : owned_moment u r ≡ None = rw is refl in
    let last : last_moment (h ++ r ∷ []) u ≡ last_moment h u = ap (λ (o : Option ℕ). unwrap_or o 0) (last_of-push (owned_moment u) h r ∙ ap (λ (o : Option ℕ). option_or o (last_of (filter_map (owned_moment u) h))) told) in
    let starts : (is_owned u r && is_some (started r)) ≡ false = rw is refl in
    let made = how_many-push (λ s. is_owned u s && is_some (started s)) h r false starts in
    let next : (next_attempt (h ++ r ∷ []) u).nth ≡ (next_attempt h u).nth = omega (arith, made) in
    ap (λ n. record { records = n; last = last_moment (h ++ r ∷ []) u; next = (next_attempt (h ++ r ∷ []) u).nth }) records
    ∙ ap (λ n. record { records = place h u; last = n; next = (next_attempt (h ++ r ∷ []) u).nth }) last
    ∙ ap (λ n. record { records = place h u; last = last_moment h u; next = n }) next

put-by : (m : Owners) (h : List Record) (r : Record) (u : ℕ) (new : Tally) (b : Bool) → is_owned u r ≡ b → AreTallied m h → new ≡ raised (tally m r.owner) r → (if b then new else tally m u) ≡ tally_in (h ++ r ∷ []) u
put-by m h r u new true is are new_is =
    let same : r.owner ≡ u = eqb-true r.owner u is in
    new_is ∙ ap (λ (t : Tally). raised t r) (are.each r.owner ∙ ap (tally_in h) same) ∙ sym (tally-by h r u true is)
put-by m h r u new false is are new_is = are.each u ∙ sym (tally-by h r u false is)

pub tallied-put : (m n : Owners) (h : List Record) (r : Record) (new : Tally) → AreTallied m h → new ≡ raised (tally m r.owner) r → Updates nat_cmp m.tallies n.tallies r.owner (Some new) → AreTallied n (h ++ r ∷ [])
tallied-put m n h r new are new_is u = record {
  each = λ v. filled m.tallies n.tallies r.owner new (record { records = 0; last = 0; next = 1 }) v u ∙ put-by m h r v new (r.owner == v) refl are new_is;
}
