-- What stands under the keys of requests.
use Rattle.std.specs.BTreeMap.{get, get_by_text}
use Rattle.std.specs.Ordering.{nat_cmp}
use Rattle.std.specs.Prelude.{◌≡◌, ℕ, List, IsSome, IsSomeAnd, MatchOption, ⊤, None, Option, filter, option_map, position, unwrap_or}
use Rattle.qz_terms.specs.declared.record.Record.{Record}
use Rattle.qz_terms.specs.declared.reply.Reply.{Reply}
use Rattle.qz_terms.specs.Answer.{said}
use Rattle.qz_terms.specs.Cause.{has_key}
use Rattle.qz_terms.specs.Lists.{first_of, up_to_first}
use Rattle.qz_index.specs.declared.keys.Keys.{Keys}
use Rattle.qz_index.specs.declared.keys.Replied.{Replied}
use Rattle.qz_index.specs.declared.texts.Texts.{Texts}

-- what was said of the first record with this caller and key, over the list that ended with it
abbrev pub said_under : List Record → ℕ → List ℕ → Option Reply
said_under h caller key = option_map (said (up_to_first (has_key caller key) h)) (first_of (filter (has_key caller key) h))

abbrev pub replied : ℕ → Reply → Replied
replied at reply = record { at = at; reply = reply }

-- of one caller
abbrev pub replied_at : Texts → List ℕ → Option Replied
replied_at texts key = unwrap_or (get_by_text texts.replied key) None

abbrev pub HasText : Texts → List ℕ → Type 0
HasText texts key = IsSome (get_by_text texts.replied key)

-- of all callers
abbrev pub kept_at : Keys → ℕ → List ℕ → Option Replied
kept_at keys caller key = unwrap_or (option_map (λ t. replied_at t key) (get nat_cmp keys.callers caller)) None

abbrev pub HasKey : Keys → ℕ → List ℕ → Type 0
HasKey keys caller key = IsSomeAnd (get nat_cmp keys.callers caller) (λ t. HasText t key)

-- room for the key of a record, if it has one
abbrev pub HasKeyRoom : Keys → Record → Type 0
HasKeyRoom keys r = MatchOption r.key ⊤ (HasKey keys r.caller)

-- each key of each caller has the place of the first record with it, and what was said of that
pub record AreKeys (keys : Keys) (h : List Record) : Type 0 where
  pub at : (caller : ℕ) (key : List ℕ) → option_map (λ (r : Replied). r.at) (kept_at keys caller key) ≡ position (has_key caller key) h
  pub reply : (caller : ℕ) (key : List ℕ) → option_map (λ (r : Replied). r.reply) (kept_at keys caller key) ≡ said_under h caller key
