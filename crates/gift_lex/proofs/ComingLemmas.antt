-- The blocks still to come, line by line.
use Rattle.std.proofs.Common.{◌≡◌, ℕ, ◌+◌, Bor, List, [], ◌∷◌, ◌++◌, Option, Some, None, MatchOption, OnSome, unwrap_or, refl, sym, ap, ◌∙◌}
use Rattle.std.specs.List.{enumerate_from}
use Rattle.std.specs.Option.{option_to_list}
use Rattle.std.specs.Str.{chars}
use Rattle.std.proofs.lemmas.List.{append-nil}
use Rattle.std.proofs.lemmas.Str.{chars-nil}
use Rattle.gift_lex.specs.declared.block.Block.{Block}
use Rattle.gift_lex.specs.declared.gathering.Started.{Started}
use Rattle.gift_lex.specs.Gathering.{ended, gathered, split_lines, to_come, TakesLine}
use Rattle.gift_lex.proofs.GatherLemmas.{gathered-groups}

-- an empty line ends the last block
pub gathered-last : (started : Option Started) (n : ℕ) (rest : List ℕ) → rest ≡ [] → gathered started (enumerate_from (n + 1) (split_lines (chars rest))) ≡ ended started
gathered-last started n rest empty = rw (empty, chars-nil) (append-nil (ended started))

-- the first line is taken
pub gathered-first : (started new : Option Started) (n number : ℕ) (text line : List ℕ) (after : Option (Bor (List ℕ))) (nothing rest : Bor (List ℕ)) (ends : Option Block)
    → number ≡ n + 1 → nothing.now ≡ [] → rest ≡ unwrap_or after nothing
    → MatchOption after (split_lines (chars text) ≡ line ∷ []) (λ later. split_lines (chars text) ≡ line ∷ split_lines (chars later.now))
    → TakesLine started new (number, line) ends
    → gathered started (enumerate_from (n + 1) (split_lines (chars text))) ≡ option_to_list ends ++ gathered new (enumerate_from (number + 1) (split_lines (chars rest.now)))
gathered-first started new n number text line None nothing rest ends next empty rest_is lines taken =
    rw (lines, ← next) (taken.same [] ∙ ap (λ bs. option_to_list ends ++ bs) (sym (gathered-last new number rest.now (ap (λ (r : Bor (List ℕ)). r.now) rest_is ∙ empty))))
gathered-first started new n number text line (Some later) nothing rest ends next empty rest_is lines taken = rw (lines, ← next, rest_is) (taken.same (enumerate_from (number + 1) (split_lines (chars later.now))))

pub to_come-gathered : (taken : ℕ) (rest : List ℕ) → gathered None (enumerate_from (taken + 1) (split_lines rest)) ≡ to_come taken rest
to_come-gathered taken rest = gathered-groups (enumerate_from (taken + 1) (split_lines rest))

-- at the end there is the block that has started, or none
pub last_block : (ends : Option Block) (coming later : List Block) → option_to_list ends ≡ coming → later ≡ [] → MatchOption ends (coming ≡ []) (λ block. coming ≡ block ∷ later)
last_block None coming later ends none = sym ends
last_block (Some block) coming later ends none = rw none (sym ends)

pub to_come-nothing : (taken : ℕ) (rest : List ℕ) → rest ≡ [] → to_come taken (chars rest) ≡ []
to_come-nothing taken rest empty = rw (empty, chars-nil) refl

-- where a block ends, nothing has started behind it
pub coming-block : (ends : Option Block) (block : Block) (new : Option Started) (taken : ℕ) (rest : List ℕ) → ends ≡ Some block → OnSome ends (new ≡ None)
    → option_to_list ends ++ gathered new (enumerate_from (taken + 1) (split_lines rest)) ≡ block ∷ to_come taken rest
coming-block None block new taken rest is over = cc
coming-block (Some other) block new taken rest is over =
    let same : other ≡ block = cc in
    rw (over, same) (ap (λ (bs : List Block). block ∷ bs) (to_come-gathered taken rest))

pub coming-none : (ends : Option Block) (coming : List Block) → ends ≡ None → option_to_list ends ++ coming ≡ coming
coming-none ends coming is = rw is refl
