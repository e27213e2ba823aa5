-- Reading parts one behind the other, as a loop does.
use Rattle.std.proofs.Common.{◌≡◌, ℕ, suc, ◌-◌, ◌+◌, ◌≤◌, ◌<◌, List, [], ◌∷◌, ◌++◌, Option, Some, None, Err, refl, sym, ap, ◌∙◌, append_assoc, arith}
use Rattle.std.proofs.lemmas.List.{append-nil}
use Rattle.std.specs.Option.{option_map}
use Rattle.qz_record.specs.declared.fault.RecordFault.{RecordFault}
use Rattle.qz_record.specs.declared.fault.RecordFault.TheVariants as fault
use Rattle.qz_record.specs.Fields.{Field, Gives, many}

-- what was read before, and what is still read
abbrev pub behind : {A : Type 0} → List A → Option (List A × List ℕ) → Option (List A × List ℕ)
behind front read = option_map (λ y. (front ++ y.0, y.1)) read

regroup : {A : Type 0} (front : List A) (x : A) (read : Option (List A × List ℕ)) → behind front (option_map (λ y. (x ∷ y.0, y.1)) read) ≡ behind (front ++ x ∷ []) read
regroup front x None = refl
regroup {A} front x (Some y) = ap (λ (xs : List A). Some (xs, y.1)) (sym (append_assoc front (x ∷ []) y.0))

pub many-goes_on : {A : Type 0} (f : Field A) (front : List A) (count i : ℕ) (bytes : List ℕ) (x : A) (after : List ℕ) (total : Option (List A × List ℕ)) → i < count → f.read bytes ≡ Some (x, after)
    → behind front (many f (count - i) bytes) ≡ total → behind (front ++ x ∷ []) (many f (count - (i + 1)) after) ≡ total
unfolding many
many-goes_on f front count i bytes x after total lt h so_far =
    let k : count - i ≡ suc (count - (i + 1)) = omega arith in
    let one : behind front (many f (count - i) bytes) ≡ behind (front ++ x ∷ []) (many f (count - (i + 1)) after) = rw (k, h) (regroup front x (many f (count - (i + 1)) after)) in
    sym one ∙ so_far

many-stops : {A : Type 0} (f : Field A) (front : List A) (count i : ℕ) (bytes : List ℕ) (total : Option (List A × List ℕ)) → i < count → f.read bytes ≡ None
    → behind front (many f (count - i) bytes) ≡ total → total ≡ None
unfolding many
many-stops f front count i bytes total lt h so_far =
    let k : count - i ≡ suc (count - (i + 1)) = omega arith in
    let one : behind front (many f (count - i) bytes) ≡ None = rw (k, h) refl in
    sym so_far ∙ one

pub many-fails : {A : Type 0} (f : Field A) (e : RecordFault) (front : List A) (count i : ℕ) (bytes after start : List ℕ) → i < count → Gives f.read bytes (Err e) after
    → behind front (many f (count - i) bytes) ≡ many f count start → Gives (many f count) start (Err e) after
many-fails f fault.NotOne front count i bytes after start lt h so_far = many-stops f front count i bytes (many f count start) lt h so_far
many-fails f fault.Memory front count i bytes after start lt h so_far = tt

pub many-ends : {A : Type 0} (f : Field A) (front : List A) (count i : ℕ) (bytes : List ℕ) (total : Option (List A × List ℕ)) → count ≤ i → behind front (many f (count - i) bytes) ≡ total → total ≡ Some (front, bytes)
unfolding many
many-ends {A} f front count i bytes total le so_far =
    let k : count - i ≡ 0 = omega arith in
    let one : behind front (many f (count - i) bytes) ≡ Some (front, bytes) = rw k (ap (λ (xs : List A). Some (xs, bytes)) (append-nil front)) in
    sym so_far ∙ one
