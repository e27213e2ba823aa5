-- What the parser is told of a command that only takes words.
use Rattle.std.specs.Prelude.{◌≡◌, true, List, [], Result, Ok, Err, fold}
use Rattle.clap.specs.Words.{App, Rule, Text, fault_of, found_of, matches_of, new_app, new_rule, rows_of, with_rule}
use Rattle.clap.specs.declared.parser.matches.ArgMatches.{ArgMatches}
use Rattle.qz_command.specs.declared.fault.WordsFault.{WordsFault}
use Rattle.qz_command.specs.declared.fault.WordsFault.TheVariants as fault
use Rattle.clap.specs.Simple.{on_top}

-- no program's name stands before the words, and none of them asks for help
abbrev pub leaf_app : Text → App
leaf_app name = on_top (λ s. record s { no_binary_name = true; disable_help_flag = true }) (new_app name)

-- a word that has to be there
abbrev pub word_rule : Text → Rule
word_rule id = record (new_rule id) { required = true }

-- a command that takes words of these names
abbrev pub words_app : Text → List Text → App
words_app name ids = fold (λ app id. with_rule app (word_rule id)) (leaf_app name) ids

-- the words are what the command takes, and these are its matches
pub record Fits (app : App) (words : List Text) (m : ArgMatches) : Type 0 where
  pub faultless : fault_of app words ≡ []
  pub rows : rows_of (found_of m) ≡ matches_of app words

pub record IsAtFault (app : App) (words : List Text) : Type 0 where
  pub at_fault : ¬ (fault_of app words ≡ [])

-- the matches of these words; or they are at fault; or memory was wanting
abbrev pub Parses : App → List Text → Result ArgMatches WordsFault → Type 0
Parses app words (Ok m) = Fits app words m
Parses app words (Err fault.BadWords) = IsAtFault app words
Parses app words (Err fault.Memory) = Unit {0}
