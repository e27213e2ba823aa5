-- What is said of a refusal: its number and the words behind it.
use Rattle.std.specs.Prelude.{ℕ, List, [], ◌∷◌, ◌++◌, decimal}
use Rattle.qz_grading.specs.declared.question.Shape.{Shape}
use Rattle.qz_grading.specs.declared.refusal.Refusal.{Refusal}
use Rattle.qz_grading.specs.declared.refusal.Refusal.TheVariants as refusal
use Rattle.qz_grading.specs.declared.refusal.Thing.{Thing}
use Rattle.qz_grading.specs.declared.refusal.Thing.TheVariants as thing
use Rattle.qz_grading.specs.Words.{attempt_word, behaviour_word, kind_word, mark_text, state_word}
use Rattle.qz_wire.specs.Spaced.{behind}

abbrev pub thing_number : Thing → ℕ
thing_number thing.User = 1
thing_number thing.Group = 2
thing_number thing.Entry = 3
thing_number thing.Version = 4
thing_number thing.Quiz = 5
thing_number thing.Slot = 6
thing_number thing.Attempt = 7
thing_number thing.Job = 8
thing_number thing.Shard = 9

abbrev pub shape_list : Shape → List (List ℕ)
shape_list s = kind_word s.kind ∷ decimal s.first ∷ decimal s.second ∷ []

-- the number of a refusal
abbrev pub refusal_number : Refusal → ℕ
refusal_number (refusal.Malformed place rule) = 1
refusal_number refusal.UnknownToken = 2
refusal_number (refusal.Forbidden rule) = 3
refusal_number (refusal.Unknown what) = 4
refusal_number (refusal.KeyReused place) = 5
refusal_number (refusal.NotOpen opens) = 6
refusal_number (refusal.Late due) = 7
refusal_number (refusal.Closed place) = 8
refusal_number (refusal.NoAttemptsLeft allowed) = 9
refusal_number (refusal.Unfinished attempt) = 10
refusal_number (refusal.WrongAction behaviour) = 11
refusal_number (refusal.SlotEnded state) = 12
refusal_number refusal.NeedsTryAgain = 13
refusal_number refusal.Misfit = 14
refusal_number (refusal.OutOfRange max) = 15
refusal_number refusal.NotFinished = 16
refusal_number (refusal.Incompatible bound newer) = 17
refusal_number (refusal.TooMany limit) = 18
refusal_number refusal.KeepFault = 19
refusal_number refusal.Memory = 20

-- the words behind it
abbrev pub refusal_list : Refusal → List (List ℕ)
refusal_list (refusal.Malformed place rule) = decimal place ∷ decimal rule ∷ []
refusal_list refusal.UnknownToken = []
refusal_list (refusal.Forbidden rule) = decimal rule ∷ []
refusal_list (refusal.Unknown what) = decimal (thing_number what) ∷ []
refusal_list (refusal.KeyReused place) = decimal place ∷ []
refusal_list (refusal.NotOpen opens) = decimal opens ∷ []
refusal_list (refusal.Late due) = decimal due ∷ []
refusal_list (refusal.Closed place) = decimal place ∷ []
refusal_list (refusal.NoAttemptsLeft allowed) = decimal allowed ∷ []
refusal_list (refusal.Unfinished attempt) = attempt_word attempt ∷ []
refusal_list (refusal.WrongAction behaviour) = behaviour_word behaviour ∷ []
refusal_list (refusal.SlotEnded state) = state_word state ∷ []
refusal_list refusal.NeedsTryAgain = []
refusal_list refusal.Misfit = []
refusal_list (refusal.OutOfRange max) = mark_text max ∷ []
refusal_list refusal.NotFinished = []
refusal_list (refusal.Incompatible bound newer) = shape_list bound ++ shape_list newer
refusal_list (refusal.TooMany limit) = decimal limit ∷ []
refusal_list refusal.KeepFault = []
refusal_list refusal.Memory = []

-- on a line
abbrev pub refused_words : Refusal → List ℕ
refused_words r = decimal (refusal_number r) ++ behind (refusal_list r)
