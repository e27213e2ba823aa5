-- What the parser found is what stands in the words, and where it found a fault there are more of them, or fewer.
use Rattle.std.proofs.Common.{◌≡◌, ◌∙◌, ℕ, ap, refl, false, arith, List, [], ◌∷◌, Option, Some, None, Err, codes, length}
use Rattle.std.proofs.lemmas.Bool.{ne_eqb}
use Rattle.clap.proofs.WalkLemmas.{first_value-rows}
use Rattle.clap.specs.Simple.{Shape, built}
use Rattle.clap.specs.Words.{App, Kinds, Text, first_of, first_value, found_of}
use Rattle.clap.specs.declared.error.kind.ErrorKind.{ErrorKind}
use Rattle.clap.specs.declared.error.kind.ErrorKind.TheVariants.{MissingRequiredArgument, UnknownArgument}
use Rattle.clap.specs.declared.parser.matches.ArgMatches.{ArgMatches}
use Rattle.qz_command.specs.declared.fault.WordsFault.{WordsFault}
use Rattle.qz_command.specs.declared.fault.WordsFault.TheVariants as fault
use Rattle.qz_command.specs.Flags.{has_flag}
use Rattle.qz_command.specs.Leaves.{Fits, IsAtFault, Parses, words_app}
use Rattle.qz_command.specs.Readings.{Lacks, so_many}
use Rattle.qz_command.proofs.LeafLemmas.{fault_is, rows_are}

-- a fault of the parser is told on
pub told_on : {Y : Type 0} (app : App) (words : List Text) (f : WordsFault) (reading : Option Y) → Parses app words (Err f)
    → (IsAtFault app words → reading ≡ None) → Lacks f reading
told_on app words fault.BadWords reading at_fault none = none at_fault
told_on app words fault.Memory reading at_fault none = tt

unfit : (k : ErrorKind) (kinds : Kinds) → kinds ≡ k ∷ [] → kinds ≡ [] → ⊥
unfit k kinds is none = absurd cc

other_number : (n : ℕ) (ws : List Text) → ¬ (length ws ≡ n) → so_many n ws ≡ None
other_number n ws other = rw (ne_eqb (length ws) n other) refl

-- ---- no word

abbrev pub replay_app : App
replay_app = words_app (codes "replay") []

abbrev replay : Shape
replay = (built replay_app).top

pub none_read : (ws : List Text) (m : ArgMatches) → has_flag ws ≡ false → Fits replay_app ws m → so_many 0 ws ≡ Some []
none_read [] m plain fits = refl
none_read (a ∷ ws) m plain fits = absurd (unfit UnknownArgument _ (fault_is replay refl (a ∷ ws) plain) fits.faultless)

pub none_refused : (ws : List Text) → has_flag ws ≡ false → IsAtFault replay_app ws → so_many 0 ws ≡ None
none_refused [] plain at = absurd (at.at_fault (fault_is replay refl [] plain))
none_refused (a ∷ ws) plain at = other_number 0 (a ∷ ws) (λ e. absurd (omega arith))

-- ---- one word

abbrev pub one_app : Text → App
one_app name = words_app name (codes "word" ∷ [])

abbrev one : Text → Shape
one name = (built (one_app name)).top

module _ (name : Text) where
  pub one_read : (ws : List Text) (m : ArgMatches) → has_flag ws ≡ false → Fits (one_app name) ws m
      → (a : Text) × (ws ≡ a ∷ []) × (first_value (found_of m) (codes "word") ≡ Some a)
  one_read [] m plain fits = absurd (unfit MissingRequiredArgument _ (fault_is (one name) refl [] plain) fits.faultless)
  one_read (a ∷ []) m plain fits =
      let rows = fits.rows ∙ rows_are (one name) refl (a ∷ []) plain in
      (a, refl, first_value-rows (found_of m) (codes "word") ∙ ap (first_of (codes "word")) rows)
  one_read (a ∷ b ∷ ws) m plain fits = absurd (unfit UnknownArgument _ (fault_is (one name) refl (a ∷ b ∷ ws) plain) fits.faultless)

  pub one_refused : (ws : List Text) → has_flag ws ≡ false → IsAtFault (one_app name) ws → so_many 1 ws ≡ None
  one_refused [] plain at = refl
  one_refused (a ∷ []) plain at = absurd (at.at_fault (fault_is (one name) refl (a ∷ []) plain))
  one_refused (a ∷ b ∷ ws) plain at = other_number 1 (a ∷ b ∷ ws) (λ e. absurd (omega arith))

-- ---- two words

abbrev pub two_app : Text → App
two_app name = words_app name (codes "first" ∷ codes "second" ∷ [])

abbrev two : Text → Shape
two name = (built (two_app name)).top

module _ (name : Text) where
  pub two_read : (ws : List Text) (m : ArgMatches) → has_flag ws ≡ false → Fits (two_app name) ws m
      → (a : Text) × (b : Text) × (ws ≡ a ∷ b ∷ [])
      × (first_value (found_of m) (codes "first") ≡ Some a) × (first_value (found_of m) (codes "second") ≡ Some b)
  two_read [] m plain fits = absurd (unfit MissingRequiredArgument _ (fault_is (two name) refl [] plain) fits.faultless)
  two_read (a ∷ []) m plain fits = absurd (unfit MissingRequiredArgument _ (fault_is (two name) refl (a ∷ []) plain) fits.faultless)
  two_read (a ∷ b ∷ []) m plain fits =
      let rows = fits.rows ∙ rows_are (two name) refl (a ∷ b ∷ []) plain in
      let value = λ (id : Text). first_value-rows (found_of m) id ∙ ap (first_of id) rows in
      (a, b, refl, value (codes "first"), value (codes "second"))
  two_read (a ∷ b ∷ c ∷ ws) m plain fits = absurd (unfit UnknownArgument _ (fault_is (two name) refl (a ∷ b ∷ c ∷ ws) plain) fits.faultless)

  pub two_refused : (ws : List Text) → has_flag ws ≡ false → IsAtFault (two_app name) ws → so_many 2 ws ≡ None
  two_refused [] plain at = refl
  two_refused (a ∷ []) plain at = refl
  two_refused (a ∷ b ∷ []) plain at = absurd (at.at_fault (fault_is (two name) refl (a ∷ b ∷ []) plain))
  two_refused (a ∷ b ∷ c ∷ ws) plain at = other_number 2 (a ∷ b ∷ c ∷ ws) (λ e. absurd (omega arith))

-- ---- three words

abbrev pub three_app : Text → App
three_app name = words_app name (codes "first" ∷ codes "second" ∷ codes "third" ∷ [])

abbrev three : Text → Shape
three name = (built (three_app name)).top

module _ (name : Text) where
  pub three_read : (ws : List Text) (m : ArgMatches) → has_flag ws ≡ false → Fits (three_app name) ws m
      → (a : Text) × (b : Text) × (c : Text) × (ws ≡ a ∷ b ∷ c ∷ [])
      × (first_value (found_of m) (codes "first") ≡ Some a) × (first_value (found_of m) (codes "second") ≡ Some b) × (first_value (found_of m) (codes "third") ≡ Some c)
  three_read [] m plain fits = absurd (unfit MissingRequiredArgument _ (fault_is (three name) refl [] plain) fits.faultless)
  three_read (a ∷ []) m plain fits = absurd (unfit MissingRequiredArgument _ (fault_is (three name) refl (a ∷ []) plain) fits.faultless)
  three_read (a ∷ b ∷ []) m plain fits = absurd (unfit MissingRequiredArgument _ (fault_is (three name) refl (a ∷ b ∷ []) plain) fits.faultless)
  three_read (a ∷ b ∷ c ∷ []) m plain fits =
      let rows = fits.rows ∙ rows_are (three name) refl (a ∷ b ∷ c ∷ []) plain in
      let value = λ (id : Text). first_value-rows (found_of m) id ∙ ap (first_of id) rows in
      (a, b, c, refl, value (codes "first"), value (codes "second"), value (codes "third"))
  three_read (a ∷ b ∷ c ∷ d ∷ ws) m plain fits = absurd (unfit UnknownArgument _ (fault_is (three name) refl (a ∷ b ∷ c ∷ d ∷ ws) plain) fits.faultless)

  pub three_refused : (ws : List Text) → has_flag ws ≡ false → IsAtFault (three_app name) ws → so_many 3 ws ≡ None
  three_refused [] plain at = refl
  three_refused (a ∷ []) plain at = refl
  three_refused (a ∷ b ∷ []) plain at = refl
  three_refused (a ∷ b ∷ c ∷ []) plain at = absurd (at.at_fault (fault_is (three name) refl (a ∷ b ∷ c ∷ []) plain))
  three_refused (a ∷ b ∷ c ∷ d ∷ ws) plain at = other_number 3 (a ∷ b ∷ c ∷ d ∷ ws) (λ e. absurd (omega arith))

-- ---- four words

abbrev pub four_app : Text → App
four_app name = words_app name (codes "first" ∷ codes "second" ∷ codes "third" ∷ codes "fourth" ∷ [])

abbrev four : Text → Shape
four name = (built (four_app name)).top

module _ (name : Text) where
  pub four_read : (ws : List Text) (m : ArgMatches) → has_flag ws ≡ false → Fits (four_app name) ws m
      → (a : Text) × (b : Text) × (c : Text) × (d : Text) × (ws ≡ a ∷ b ∷ c ∷ d ∷ [])
      × (first_value (found_of m) (codes "first") ≡ Some a) × (first_value (found_of m) (codes "second") ≡ Some b) × (first_value (found_of m) (codes "third") ≡ Some c)
      × (first_value (found_of m) (codes "fourth") ≡ Some d)
  four_read [] m plain fits = absurd (unfit MissingRequiredArgument _ (fault_is (four name) refl [] plain) fits.faultless)
  four_read (a ∷ []) m plain fits = absurd (unfit MissingRequiredArgument _ (fault_is (four name) refl (a ∷ []) plain) fits.faultless)
  four_read (a ∷ b ∷ []) m plain fits = absurd (unfit MissingRequiredArgument _ (fault_is (four name) refl (a ∷ b ∷ []) plain) fits.faultless)
  four_read (a ∷ b ∷ c ∷ []) m plain fits = absurd (unfit MissingRequiredArgument _ (fault_is (four name) refl (a ∷ b ∷ c ∷ []) plain) fits.faultless)
  four_read (a ∷ b ∷ c ∷ d ∷ []) m plain fits =
      let rows = fits.rows ∙ rows_are (four name) refl (a ∷ b ∷ c ∷ d ∷ []) plain in
      let value = λ (id : Text). first_value-rows (found_of m) id ∙ ap (first_of id) rows in
      (a, b, c, d, refl, value (codes "first"), value (codes "second"), value (codes "third"), value (codes "fourth"))
  four_read (a ∷ b ∷ c ∷ d ∷ e ∷ ws) m plain fits = absurd (unfit UnknownArgument _ (fault_is (four name) refl (a ∷ b ∷ c ∷ d ∷ e ∷ ws) plain) fits.faultless)

  pub four_refused : (ws : List Text) → has_flag ws ≡ false → IsAtFault (four_app name) ws → so_many 4 ws ≡ None
  four_refused [] plain at = refl
  four_refused (a ∷ []) plain at = refl
  four_refused (a ∷ b ∷ []) plain at = refl
  four_refused (a ∷ b ∷ c ∷ []) plain at = refl
  four_refused (a ∷ b ∷ c ∷ d ∷ []) plain at = absurd (at.at_fault (fault_is (four name) refl (a ∷ b ∷ c ∷ d ∷ []) plain))
  four_refused (a ∷ b ∷ c ∷ d ∷ e ∷ ws) plain at = other_number 4 (a ∷ b ∷ c ∷ d ∷ e ∷ ws) (λ e. absurd (omega arith))

-- so are the words, where each was found
pub four_found : (ws : List Text) (a b c d v w x y : Text) (o p q r : Option Text) → ws ≡ a ∷ b ∷ c ∷ d ∷ []
    → o ≡ Some a → p ≡ Some b → q ≡ Some c → r ≡ Some d
    → Some v ≡ o → Some w ≡ p → Some x ≡ q → Some y ≡ r → so_many 4 ws ≡ Some (v ∷ w ∷ x ∷ y ∷ [])
four_found ws a b c d v w x y o p q r is is_a is_b is_c is_d told_v told_w told_x told_y = cc

-- ---- five words

abbrev pub five_app : Text → App
five_app name = words_app name (codes "first" ∷ codes "second" ∷ codes "third" ∷ codes "fourth" ∷ codes "fifth" ∷ [])

abbrev five : Text → Shape
five name = (built (five_app name)).top

module _ (name : Text) where
  pub five_read : (ws : List Text) (m : ArgMatches) → has_flag ws ≡ false → Fits (five_app name) ws m
      → (a : Text) × (b : Text) × (c : Text) × (d : Text) × (e : Text) × (ws ≡ a ∷ b ∷ c ∷ d ∷ e ∷ [])
      × (first_value (found_of m) (codes "first") ≡ Some a) × (first_value (found_of m) (codes "second") ≡ Some b) × (first_value (found_of m) (codes "third") ≡ Some c)
      × (first_value (found_of m) (codes "fourth") ≡ Some d) × (first_value (found_of m) (codes "fifth") ≡ Some e)
  five_read [] m plain fits = absurd (unfit MissingRequiredArgument _ (fault_is (five name) refl [] plain) fits.faultless)
  five_read (a ∷ []) m plain fits = absurd (unfit MissingRequiredArgument _ (fault_is (five name) refl (a ∷ []) plain) fits.faultless)
  five_read (a ∷ b ∷ []) m plain fits = absurd (unfit MissingRequiredArgument _ (fault_is (five name) refl (a ∷ b ∷ []) plain) fits.faultless)
  five_read (a ∷ b ∷ c ∷ []) m plain fits = absurd (unfit MissingRequiredArgument _ (fault_is (five name) refl (a ∷ b ∷ c ∷ []) plain) fits.faultless)
  five_read (a ∷ b ∷ c ∷ d ∷ []) m plain fits = absurd (unfit MissingRequiredArgument _ (fault_is (five name) refl (a ∷ b ∷ c ∷ d ∷ []) plain) fits.faultless)
  five_read (a ∷ b ∷ c ∷ d ∷ e ∷ []) m plain fits =
      let rows = fits.rows ∙ rows_are (five name) refl (a ∷ b ∷ c ∷ d ∷ e ∷ []) plain in
      let value = λ (id : Text). first_value-rows (found_of m) id ∙ ap (first_of id) rows in
      (a, b, c, d, e, refl, value (codes "first"), value (codes "second"), value (codes "third"), value (codes "fourth"), value (codes "fifth"))
  five_read (a ∷ b ∷ c ∷ d ∷ e ∷ f ∷ ws) m plain fits = absurd (unfit UnknownArgument _ (fault_is (five name) refl (a ∷ b ∷ c ∷ d ∷ e ∷ f ∷ ws) plain) fits.faultless)

  pub five_refused : (ws : List Text) → has_flag ws ≡ false → IsAtFault (five_app name) ws → so_many 5 ws ≡ None
  five_refused [] plain at = refl
  five_refused (a ∷ []) plain at = refl
  five_refused (a ∷ b ∷ []) plain at = refl
  five_refused (a ∷ b ∷ c ∷ []) plain at = refl
  five_refused (a ∷ b ∷ c ∷ d ∷ []) plain at = refl
  five_refused (a ∷ b ∷ c ∷ d ∷ e ∷ []) plain at = absurd (at.at_fault (fault_is (five name) refl (a ∷ b ∷ c ∷ d ∷ e ∷ []) plain))
  five_refused (a ∷ b ∷ c ∷ d ∷ e ∷ f ∷ ws) plain at = other_number 5 (a ∷ b ∷ c ∷ d ∷ e ∷ f ∷ ws) (λ e. absurd (omega arith))

-- so are the words, where each was found
pub five_found : (ws : List Text) (a b c d e v w x y z : Text) (o p q r s : Option Text) → ws ≡ a ∷ b ∷ c ∷ d ∷ e ∷ []
    → o ≡ Some a → p ≡ Some b → q ≡ Some c → r ≡ Some d → s ≡ Some e
    → Some v ≡ o → Some w ≡ p → Some x ≡ q → Some y ≡ r → Some z ≡ s → so_many 5 ws ≡ Some (v ∷ w ∷ x ∷ y ∷ z ∷ [])
five_found ws a b c d e v w x y z o p q r s is is_a is_b is_c is_d is_e told_v told_w told_x told_y told_z = cc
