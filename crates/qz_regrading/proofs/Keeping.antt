-- What the lists go on holding from one request to the next.
use Rattle.std.proofs.Common.{◌≡◌, ℕ, true, List, [], ◌++◌, refl, sym, ap, ◌∙◌, append-nil, append_assoc}
use Rattle.std.proofs.lemmas.List.Folds.{list_any-append}
use Rattle.qz_terms.specs.declared.record.Record.{Record}
use Rattle.qz_terms.specs.History.{is_done, is_done_in}
use Rattle.qz_terms.specs.Serial.{Lists, part_list}
use Rattle.qz_regrading.specs.Workers.{IsFront, KeepsParts}

pub front-same : (l : List Record) → IsFront l l
front-same l = record { rest = []; split = sym (append-nil l) }

pub front-more : (l m n : List Record) → IsFront l m → IsFront m n → IsFront l n
front-more l m n f g = record { rest = f.rest ++ g.rest; split = g.split ∙ ap (λ x. x ++ g.rest) f.split ∙ append_assoc l f.rest g.rest }

pub keeps-same : (a : Lists) → KeepsParts a a
keeps-same a = record { count = refl; fronts = λ shard. front-same (part_list a shard) }

pub keeps-more : (a b c : Lists) → KeepsParts a b → KeepsParts b c → KeepsParts a c
keeps-more a b c k l = record { count = l.count ∙ k.count; fronts = λ shard. front-more _ _ _ (k.fronts shard) (l.fronts shard) }

-- a job that is done stays so
pub done-kept : (a b : Lists) (shard job : ℕ) → KeepsParts a b → is_done (part_list a shard) job ≡ true → is_done (part_list b shard) job ≡ true
done-kept a b shard job k is =
    let f = k.fronts shard in
    rw (f.split, list_any-append (is_done_in job) (part_list a shard) f.rest, is) refl
