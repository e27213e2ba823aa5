-- What the passes of a school had seen when it was closed, and what was noted of it.
use Rattle.std.proofs.Common.{◌≡◌, ◌⊎◌, inl, inr, ℕ, zero, suc, List, [], ◌∷◌, ◌+◌, ◌++◌, Some, length, refl}
use Rattle.std.specs.Prelude.{slice_get}
use Rattle.qz_catalog_turns.specs.Turning.{tale_of}
use Rattle.qz_gather.specs.declared.note.Note.{Note}
use Rattle.qz_gather.specs.Notes.{AreTrueOf}
use Rattle.qz_gather.proofs.Growing.{still_all}
use Rattle.qz_school.specs.Solos.{School}
use Rattle.qz_shard.specs.Keeping as part
use Rattle.qz_terms.specs.declared.record.Record.{Record}
use Rattle.qz_turn.specs.declared.view.Tale.{Tale}
use Rattle.qz_visit.specs.Closing as closing
use Rattle.qz_visit.specs.Closing.{AreClosed, Closes}
use Rattle.qz_visit.specs.Opening.{tales, told_by}
use Rattle.qz_visit.specs.Seeing.{FollowAll, FollowEach, more, none}
use Rattle.qz_visit.specs.Visits.{Tellings}
use Rattle.qz_gathering.specs.Gathering.{EachTrueOf, all_notes}

-- ---- the lists that are closed

parts-follow : {K : Type 0} (faults : K → ℕ) (c : List Record) (n k : ℕ) (ts : List (Tale Record)) (ss : List (part.Keeping K)) → AreClosed faults c n k ts ss → FollowEach ts (tales faults ss)
parts-follow faults c n _ _ _ (closing.none k) = none
parts-follow faults c n _ _ _ (closing.more k t s ts ss is others) = more t (tale_of s.held (faults s.keeper)) ts (tales faults ss) is.follows (parts-follow faults c n (k + 1) ts ss others)

closed-follow : {K : Type 0} (faults : K → ℕ) (t : Tellings) (a : School K) → Closes faults t a → FollowAll t (told_by faults a)
closed-follow faults t a is = record { records = is.records; parts = parts-follow faults a.catalog.held.list (length a.parts) 0 t.parts a.parts is.parts }

-- ---- notes, one's after the other's

get-either : {A : Type 0} (xs ys : List A) (k : ℕ) (x : A) → slice_get (xs ++ ys) k ≡ Some x → ((j : ℕ) × (slice_get xs j ≡ Some x)) ⊎ ((j : ℕ) × (slice_get ys j ≡ Some x))
get-either [] ys k x is = inr (k, is)
get-either (y ∷ xs) ys zero x is = inl (0, is)
get-either (y ∷ xs) ys (suc k) x is = elim (get-either xs ys k x is) [ inl here ↦ inl (suc here.0, here.1) | inr there ↦ inr there ]

both-true : (t : Tellings) (xs ys : List Note) → AreTrueOf t xs → AreTrueOf t ys → AreTrueOf t (xs ++ ys)
both-true t xs ys first rest = record { each = λ k n at. elim (get-either xs ys k n at) [ inl here ↦ first.each here.0 n here.1 | inr there ↦ rest.each there.0 n there.1 ] }

all-true : (t : Tellings) (books : List (List Note)) → ((k : ℕ) (notes : List Note) → slice_get books k ≡ Some notes → AreTrueOf t notes) → AreTrueOf t (all_notes books)
all-true t [] are = record { each = λ k n at. absurd cc }
all-true t (notes ∷ books) are = both-true t notes (all_notes books) (are zero notes refl) (all-true t books (λ k ns at. are (suc k) ns at))

-- all notes are true of the lists that were closed
pub true_closed : {K : Type 0} (faults : K → ℕ) (t : Tellings) (books : List (List Note)) (a : School K) → Closes faults t a → EachTrueOf t books → AreTrueOf (told_by faults a) (all_notes books)
true_closed faults t books a closes are = still_all t (told_by faults a) (all_notes books) (closed-follow faults t a closes) (all-true t books are.each)
