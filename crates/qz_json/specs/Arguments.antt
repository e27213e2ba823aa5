-- The arguments of each command, and the words that the members of a body give for them.
use Rattle.std.specs.List.{list_any}
use Rattle.std.specs.Prelude.{ℕ, Bool, true, ◌&&◌, ◌||◌, if◌then◌else◌, List, [], ◌∷◌, map, Option, option_map, option_and_then, unwrap_or, bytes_eq, decimal, codes}
use Rattle.serde_json.specs.Data.{Data, Members, no_members, member}
use Rattle.serde_json.specs.Find.{get, as_number, as_str, as_u64}
use Rattle.qz_wire.specs.Escapes.{text_word}
use Rattle.qz_wire.specs.Words.{is_dash}
use Rattle.qz_wire.specs.declared.verbs.Verb.{Verb}
use Rattle.qz_wire.specs.declared.verbs.Verb.TheVariants as verb
use Rattle.qz_json.specs.declared.arguments.Form.{Form}
use Rattle.qz_json.specs.declared.arguments.Form.TheVariants as form

-- ---- the arguments of a command, in the order of its words

abbrev pub number : List ℕ → List ℕ × Form
number name = (name, form.Number)

abbrev pub text : List ℕ → List ℕ × Form
text name = (name, form.Text)

abbrev pub setting : List ℕ → List ℕ × Form
setting name = (name, form.Setting)

abbrev pub arguments_of : Verb → List (List ℕ × Form)
arguments_of verb.User = text (codes "name") ∷ text (codes "role") ∷ text (codes "token") ∷ []
arguments_of verb.Group = text (codes "name") ∷ []
arguments_of verb.Member = number (codes "group") ∷ number (codes "user") ∷ []
arguments_of verb.Import = text (codes "gift") ∷ []
arguments_of verb.Edit = number (codes "entry") ∷ text (codes "gift") ∷ []
arguments_of verb.Tune = number (codes "entry") ∷ text (codes "penalty") ∷ text (codes "hints") ∷ []
arguments_of verb.Quiz = text (codes "name") ∷ text (codes "behaviour") ∷ []
arguments_of verb.Slot = number (codes "quiz") ∷ number (codes "entry") ∷ text (codes "max") ∷ []
arguments_of verb.Ready = number (codes "quiz") ∷ []
arguments_of verb.Remax = number (codes "quiz") ∷ number (codes "slot") ∷ text (codes "max") ∷ []
arguments_of verb.Policy = number (codes "quiz") ∷ text (codes "method") ∷ text (codes "grade") ∷ []
arguments_of verb.Times = number (codes "quiz") ∷ number (codes "opens") ∷ number (codes "closes") ∷ number (codes "limit") ∷ number (codes "allowed") ∷ text (codes "handling") ∷ number (codes "grace") ∷ text (codes "review") ∷ []
arguments_of verb.Override = number (codes "quiz") ∷ text (codes "whom") ∷ number (codes "number") ∷ setting (codes "opens") ∷ setting (codes "closes") ∷ setting (codes "limit") ∷ setting (codes "allowed") ∷ []
arguments_of verb.Regrade = number (codes "quiz") ∷ []
arguments_of verb.Start = number (codes "quiz") ∷ []
arguments_of verb.Save = text (codes "attempt") ∷ number (codes "slot") ∷ number (codes "certainty") ∷ text (codes "response") ∷ []
arguments_of verb.Submit = text (codes "attempt") ∷ number (codes "slot") ∷ number (codes "certainty") ∷ text (codes "response") ∷ []
arguments_of verb.Again = text (codes "attempt") ∷ number (codes "slot") ∷ []
arguments_of verb.Finish = text (codes "attempt") ∷ []
arguments_of verb.Mark = text (codes "attempt") ∷ number (codes "slot") ∷ text (codes "mark") ∷ []
arguments_of verb.Work = number (codes "job") ∷ number (codes "shard") ∷ []
arguments_of verb.Settle = text (codes "attempt") ∷ []
arguments_of verb.Live = number (codes "shard") ∷ text (codes "attempt") ∷ []
arguments_of verb.Jobs = []
arguments_of verb.View = text (codes "attempt") ∷ number (codes "slot") ∷ []
arguments_of verb.Total = text (codes "attempt") ∷ []
arguments_of verb.Page = text (codes "attempt") ∷ []
arguments_of verb.Grade = number (codes "quiz") ∷ number (codes "user") ∷ []
arguments_of verb.Report = number (codes "quiz") ∷ []
arguments_of verb.Bank = number (codes "entry") ∷ number (codes "version") ∷ []

-- ---- members

-- the digits of a whole number; what is none, or isn't there, gives the word without a byte, which is no argument
abbrev pub number_word : Option Data → List ℕ
number_word m = unwrap_or (option_map decimal (option_and_then as_u64 (option_and_then as_number m))) []

-- the word that spells a text
abbrev pub string_word : Option Data → List ℕ
string_word m = unwrap_or (option_map text_word (option_and_then as_str m)) []

-- a dash where the text is one, and else the digits of a whole number
abbrev pub setting_word : Option Data → List ℕ
setting_word m = if is_dash (unwrap_or (option_and_then as_str m) []) then codes "-" else number_word m

abbrev pub word_for : Form → Option Data → List ℕ
word_for form.Number m = number_word m
word_for form.Text m = string_word m
word_for form.Setting m = setting_word m

-- the words that the line of the same request has behind its command
abbrev pub words_for : List (List ℕ × Form) → Data → List (List ℕ)
words_for arguments body = map (λ (a : List ℕ × Form). word_for a.1 (get a.0 body)) arguments

-- ---- no other member

abbrev pub is_argument : Verb → List ℕ → Bool
is_argument v name = list_any (λ (a : List ℕ × Form). bytes_eq name a.0) (arguments_of v)

abbrev pub is_wanted : Verb → List ℕ → Bool
is_wanted v name = bytes_eq name (codes "do") || (bytes_eq name (codes "key") || is_argument v name)

abbrev pub has_no_other : Verb → Members → Bool
has_no_other v no_members = true
has_no_other v (member name m more) = is_wanted v name && has_no_other v more
