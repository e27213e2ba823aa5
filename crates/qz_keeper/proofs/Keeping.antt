-- What becomes of a list that a keeper keeps.
use Rattle.std.proofs.Common.{◌≡◌, ℕ, List, [], ◌∷◌, ◌++◌, length, Option, Some, None, IfSome, sym, ◌∙◌, ap, subst}
use Rattle.std.proofs.Math.Seq.{drop-append_seam}
use Rattle.std.proofs.lemmas.List.{length-map, map-append}
use Rattle.qz_keeper.specs.Custody.{with_record, IsFoundOut, pending_of}
use Rattle.qz_keeper.specs.Lists.{KeepsList, ListsFollow, with_next}
use Rattle.qz_terms.specs.declared.record.Record.{Record}
use Rattle.qz_terms.specs.Lists.{first_of}
use Rattle.qz_terms.specs.Serial.{Held, Mended, stays, dropped, adopted}
use Rattle.qz_terms.specs.Spelling.{spelling}

-- the payloads with a record's spelling are those of the list with the record
kept_with : (old : Option (List (List ℕ))) (list : List Record) (r : Record) → KeepsList old list → KeepsList (with_record r old) (list ++ r ∷ [])
kept_with None list r kept = kept
kept_with (Some told) list r kept = ap (λ (l : List (List ℕ)). l ++ spelling r ∷ []) kept ∙ sym (map-append spelling list (r ∷ []))

kept_found : (old new : Option (List (List ℕ))) (list : List Record) (r : Record) (doubt found : Option Record) → KeepsList old list → IsFoundOut old new r doubt found → KeepsList new (with_next found list)
kept_found old new list r doubt None kept f = subst (λ p. KeepsList p list) (sym f.kept) kept
kept_found old new list r doubt (Some x) kept f = subst (λ p. KeepsList p (list ++ x ∷ [])) (sym f.kept) (kept_with old list x kept)

-- a record that wasn't found is dropped
pub dropped_out : (old new : Option (List (List ℕ))) (r : Record) (doubt found : Option Record) → found ≡ None → new ≡ old → doubt ≡ None → IsFoundOut old new r doubt found
dropped_out old new r doubt found none kept no_doubt = subst (λ f. IsFoundOut old new r doubt f) (sym none) (record { kept = kept; was = tt; no_doubt = no_doubt })

abbrev held : List Record → Option Record → Held
held list doubt = record { list = list; doubt = doubt }

seen_pending : (list : List Record) (r : Record) (doubt found : Option Record) → doubt ≡ None → IfSome found (λ x. x ≡ r) → Mended (held list (Some r)) (held list (pending_of doubt found))
seen_pending list r doubt None none was = subst (λ d. Mended (held list (Some r)) (held list (pending_of d None))) (sym none) (dropped list r)
seen_pending list r doubt (Some x) none was =
    subst (λ d. Mended (held list (Some r)) (held list (pending_of d (Some x)))) (sym none)
    (subst (λ y. Mended (held list (Some r)) (held list (Some y))) (sym was) (stays (held list (Some r))))

count_told : (payloads : Option (List (List ℕ))) (list : List Record) → KeepsList payloads list → IfSome payloads (λ told. length told ≡ length list)
count_told None list kept = kept
count_told (Some told) list kept = ap length kept ∙ length-map list spelling

pub follows : ListsFollow
follows = record {
  counted = count_told;
  appended = λ old new list doubt r kept made. subst (λ p. KeepsList p (list ++ r ∷ [])) (sym made.kept) (kept_with old list r kept);
  found = kept_found;
  seen = λ list r doubt found old new f. seen_pending list r doubt found f.no_doubt f.was;
  put = λ list r. adopted list r;
  doubted = λ list r. ap (λ (l : List Record). held list (first_of l)) (drop-append_seam list (r ∷ []));
}
