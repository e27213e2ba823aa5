-- Worked settings of one student at a quiz that opens at 50, closes at 200, and gives 60 seconds and 2 attempts.
use Rattle.std.specs.Prelude.{◌≡◌, ℕ, List, [], ◌∷◌, Option, Some, None, refl}
use Rattle.qz_terms.specs.declared.access.Handling.TheVariants as handling
use Rattle.qz_terms.specs.declared.access.Override.{Override}
use Rattle.qz_terms.specs.declared.access.Review.TheVariants as review
use Rattle.qz_terms.specs.declared.access.Settings.{Settings}
use Rattle.qz_terms.specs.Access.{effective}

abbrev gives : ℕ → ℕ → ℕ → ℕ → Settings
gives opens closes limit allowed = record { opens = opens; closes = closes; limit = limit; allowed = allowed; handling = handling.GracePeriod; grace = 30; review = review.Close }

abbrev sets : Option ℕ → Option ℕ → Option ℕ → Option ℕ → Override
sets opens closes limit allowed = record { opens = opens; closes = closes; limit = limit; allowed = allowed }

abbrev under : Option Override → List Override → Settings
under user groups = effective (gives 50 200 60 2) user groups

-- nothing is set otherwise, or what is there sets nothing
pub quiz_alone : under None [] ≡ gives 50 200 60 2
quiz_alone = refl

pub empty_overrides : under (Some (sets None None None None)) (sets None None None None ∷ []) ≡ gives 50 200 60 2
empty_overrides = refl

-- the user's own counts, stricter or more lenient
pub user_stricter : under (Some (sets (Some 60) (Some 150) (Some 30) (Some 1))) [] ≡ gives 60 150 30 1
user_stricter = refl

pub user_without_ends : under (Some (sets (Some 0) (Some 0) (Some 0) (Some 0))) [] ≡ gives 0 0 0 0
user_without_ends = refl

-- that of one group too
pub one_group : under None (sets (Some 70) (Some 100) (Some 10) (Some 1) ∷ []) ≡ gives 70 100 10 1
one_group = refl

-- the earliest opening, the latest closing, the longest time and the most attempts, in either order
pub two_groups : under None (sets (Some 40) (Some 300) (Some 90) (Some 3) ∷ sets (Some 30) (Some 250) (Some 120) (Some 5) ∷ []) ≡ gives 30 300 120 5
two_groups = refl

pub in_other_order : under None (sets (Some 30) (Some 250) (Some 120) (Some 5) ∷ sets (Some 40) (Some 300) (Some 90) (Some 3) ∷ []) ≡ gives 30 300 120 5
in_other_order = refl

-- none at all (0) is more lenient than any, and for an opening no less than the earliest
pub none_first : under None (sets (Some 0) (Some 0) (Some 0) (Some 0) ∷ sets (Some 30) (Some 250) (Some 120) (Some 5) ∷ []) ≡ gives 0 0 0 0
none_first = refl

pub none_last : under None (sets (Some 30) (Some 250) (Some 120) (Some 5) ∷ sets (Some 0) (Some 0) (Some 0) (Some 0) ∷ []) ≡ gives 0 0 0 0
none_last = refl

-- a group that sets nothing doesn't count
pub one_sets_nothing : under None (sets None None None None ∷ sets (Some 70) (Some 100) (Some 10) (Some 1) ∷ []) ≡ gives 70 100 10 1
one_sets_nothing = refl

-- the user's own counts where it is set, and the groups' elsewhere
pub user_opens : under (Some (sets (Some 60) None None None)) (sets (Some 30) (Some 250) (Some 120) (Some 5) ∷ []) ≡ gives 60 250 120 5
user_opens = refl

pub user_closes : under (Some (sets None (Some 150) None None)) (sets (Some 30) (Some 0) (Some 120) (Some 5) ∷ []) ≡ gives 30 150 120 5
user_closes = refl

pub user_limit : under (Some (sets None None (Some 10) None)) (sets (Some 30) (Some 250) (Some 0) (Some 5) ∷ []) ≡ gives 30 250 10 5
user_limit = refl

pub user_allowed : under (Some (sets None None None (Some 1))) (sets (Some 30) (Some 250) (Some 120) (Some 0) ∷ []) ≡ gives 30 250 120 1
user_allowed = refl
