-- What a parse of a command tells of one that equals it.
use Rattle.std.proofs.Common.{◌≡◌, ◌∙◌, sym, ap, ℕ, true, subst, inl, inr, List, [], ◌+◌, ◌<◌, take, length, slice_index_or}
use Rattle.std.proofs.lemmas.Bool.{and_parts}
use Rattle.std.proofs.lemmas.List.Folds.{fold-map}
use Rattle.std.proofs.lemmas.List.Sums.{fold_more}
use Rattle.std.specs.Borrow.{Bor}
use Rattle.clap.specs.Words.{App, HasKind, HasMatchesOf, Text, fault_of, is_simple_and_free, kind_of, with_rule}
use Rattle.clap.specs.Walk.{texts}
use Rattle.clap.specs.declared.error.Error.{Error}
use Rattle.clap.specs.declared.error.kind.ErrorKind.TheVariants.{OutOfMemory}
use Rattle.clap.specs.declared.parser.matches.ArgMatches.{ArgMatches}
use Rattle.qz_command.specs.Leaves.{Fits, IsAtFault, leaf_app, word_rule, words_app}

module _ (a b : App) (words : List Text) (same : a ≡ b) (simple : is_simple_and_free b ≡ true) where
  pub fits_as : (m : ArgMatches) → (is_simple_and_free a ≡ true → fault_of a words ≡ []) → HasMatchesOf a words m → Fits b words m
  fits_as m faults matches = record {
    faultless = subst (λ (x : App). is_simple_and_free x ≡ true → fault_of x words ≡ []) same faults simple;
    rows = (subst (λ (x : App). HasMatchesOf x words m) same matches (and_parts _ _ simple).0).0;
  }

  pub at_fault_as : (e : Error) → (is_simple_and_free a ≡ true → HasKind (fault_of a words) e) → ¬ (kind_of e ≡ OutOfMemory) → IsAtFault b words
  at_fault_as e faults other =
      let kinds = subst (λ (x : App). is_simple_and_free x ≡ true → HasKind (fault_of x words) e) same faults simple in
      record { at_fault = λ none. elim (rw none at kinds) [ inl h ↦ other h | inr h ↦ h ] }

-- one more word that has to be there
pub words_app-more : (name : Text) (ids : List (Bor Text)) (i : ℕ) (d : Bor Text) → i < length ids
    → words_app name (texts (take (i + 1) ids)) ≡ with_rule (words_app name (texts (take i ids))) (word_rule (slice_index_or ids i d).now)
words_app-more name ids i d inside =
    let adds = λ (app : App) (id : Text). with_rule app (word_rule id) in
    let adds_at = λ (app : App) (id : Bor Text). with_rule app (word_rule id.now) in
    fold-map adds (λ (s : Bor Text). s.now) (leaf_app name) (take (i + 1) ids) ∙ fold_more adds_at (leaf_app name) ids i d inside
    ∙ ap (λ (app : App). adds_at app (slice_index_or ids i d)) (sym (fold-map adds (λ (s : Bor Text). s.now) (leaf_app name) (take i ids)))
