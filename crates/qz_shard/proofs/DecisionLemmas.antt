-- What stands under a key, and the first refusal of a request.
use Rattle.std.proofs.Common.{◌≡◌, ℕ, ◌+◌, Bool, true, false, List, Option, Some, None, length, take, get_or, option_map, refl, sym, ap, ◌∙◌}
use Rattle.std.specs.Prelude.{slice_get, position, filter}
use Rattle.std.proofs.lemmas.Option.{slice_get_read}
use Rattle.qz_grading.specs.declared.refusal.Refusal.TheVariants as refusal
use Rattle.qz_terms.specs.declared.record.Record.{Record}
use Rattle.qz_terms.specs.declared.reply.Done.{Done}
use Rattle.qz_terms.specs.declared.reply.Reply.{Reply}
use Rattle.qz_terms.specs.declared.reply.Reply.TheVariants as reply
use Rattle.qz_terms.specs.Answer.{reply_by, said}
use Rattle.qz_index.specs.Keys.{said_under}
use Rattle.qz_terms.specs.Cause.{Denied, Repeated, by_key, has_key, repeated_or_reused, said_at}
use Rattle.qz_terms.specs.Lists.{first_of, up_to_first}
use Rattle.qz_terms.proofs.Walks.{IsFirstAt, found_up_to}
use Rattle.qz_shard.specs.declared.keys.Found.TheVariants as found
use Rattle.qz_shard.specs.Decisions.{IsFound}

-- ---- under a key

same-some : {A : Type 0} (x y : A) → Some x ≡ Some y → x ≡ y
same-some x y is = cc

key-at : (is_same : Record → Bool) (caller : ℕ) (key : List ℕ) (h : List Record) (n : ℕ) (r : Record) → position (has_key caller key) h ≡ Some n → r ≡ get_or h n r → (slice_get h n ≡ Some r) × (by_key is_same caller (Some key) h ≡ Some (repeated_or_reused (is_same r) (take (n + 1) h) r))
key-at is_same caller key h n r is item =
    let at : IsFirstAt (has_key caller key) h n = found_up_to (has_key caller key) h n is in
    let got : slice_get h n ≡ Some r = slice_get_read h (length h) n r refl at.inside item in
    let first : first_of (filter (has_key caller key) h) ≡ Some r = at.item ∙ got in
    (got, rw (first, at.up_to) refl)

-- what is kept under a key was said of the first record with it
record IsKeptOf (h : List Record) (caller : ℕ) (key : List ℕ) (told : Reply) : Type 0 where
  own : Record
  first : first_of (filter (has_key caller key) h) ≡ Some own
  says : told ≡ said (up_to_first (has_key caller key) h) own

kept-by : (h : List Record) (caller : ℕ) (key : List ℕ) (told : Reply) (o : Option Record) → first_of (filter (has_key caller key) h) ≡ o → Some told ≡ option_map (said (up_to_first (has_key caller key) h)) o → IsKeptOf h caller key told
kept-by h caller key told None is kept = absurd cc
kept-by h caller key told (Some r) is kept = record { own = r; first = is; says = cc }

kept-of : (h : List Record) (caller : ℕ) (key : List ℕ) (told : Reply) → Some told ≡ said_under h caller key → IsKeptOf h caller key told
kept-of h caller key told kept = kept-by h caller key told (first_of (filter (has_key caller key) h)) refl kept

-- of the record at its place
pub kept-said : (h : List Record) (caller : ℕ) (key : List ℕ) (n : ℕ) (r : Record) (told : Reply) → position (has_key caller key) h ≡ Some n → r ≡ get_or h n r → Some told ≡ said_under h caller key → told ≡ said (take (n + 1) h) r
kept-said h caller key n r told is item kept =
    let at : IsFirstAt (has_key caller key) h n = found_up_to (has_key caller key) h n is in
    let got : slice_get h n ≡ Some r = slice_get_read h (length h) n r refl at.inside item in
    let k = kept-of h caller key told kept in
    let same : k.own ≡ r = same-some k.own r (sym k.first ∙ at.item ∙ got) in
    k.says ∙ ap (λ (l : List Record). said l k.own) at.up_to ∙ ap (said (take (n + 1) h)) same

pub key-same : (is_same : Record → Bool) (caller : ℕ) (key : List ℕ) (h : List Record) (n : ℕ) (r : Record) (kept told : Reply) → position (has_key caller key) h ≡ Some n → r ≡ get_or h n r → Some kept ≡ said_under h caller key → told ≡ kept → is_same r ≡ true → IsFound (Some (found.Same told)) (by_key is_same caller (Some key) h)
key-same is_same caller key h n r kept told is item keeps copied same =
    let at = key-at is_same caller key h n r is item in
    let says : told ≡ said (take (n + 1) h) r = copied ∙ kept-said h caller key n r kept is item keeps in
    (Repeated (take (n + 1) h) r, (at.1 ∙ ap (λ (b : Bool). Some (repeated_or_reused b (take (n + 1) h) r)) same, record { list = take (n + 1) h; own = r; verdict = refl; says = says }))

place-same : (place at : ℕ) (d e : Done) → reply.Ok place d ≡ reply.Ok at e → place ≡ at
place-same place at d e is = cc

pub key-other : (is_same : Record → Bool) (caller : ℕ) (key : List ℕ) (h : List Record) (n : ℕ) (r : Record) (kept : Reply) (place : ℕ) (d : Done) → position (has_key caller key) h ≡ Some n → r ≡ get_or h n r → Some kept ≡ said_under h caller key → kept ≡ reply.Ok place d → is_same r ≡ false → IsFound (Some (found.Other place)) (by_key is_same caller (Some key) h)
key-other is_same caller key h n r kept place d is item keeps accepted other =
    let at = key-at is_same caller key h n r is item in
    let says : reply.Ok place d ≡ said (take (n + 1) h) r = sym accepted ∙ kept-said h caller key n r kept is item keeps in
    let place_is : place ≡ said_at (take (n + 1) h) r = place-same place (said_at (take (n + 1) h) r) d (reply_by (take (n + 1) h) r r.event) says in
    at.1 ∙ ap (λ (b : Bool). Some (repeated_or_reused b (take (n + 1) h) r)) other ∙ ap (λ (p : ℕ). Some (Denied (refusal.KeyReused p))) (sym place_is)
