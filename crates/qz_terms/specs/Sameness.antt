-- Which requests that the catalogue keeps are the same as values: the same command with the same arguments.
use Rattle.std.specs.Ordering.{int_eq}
use Rattle.std.specs.Prelude.{ℕ, Bool, true, false, ◌&&◌, ◌||◌, List, ◌==◌, Option, None, Some, bytes_eq}
use Rattle.qz_grading.specs.Canonical.{same_texts}
use Rattle.qz_grading.specs.Sameness.{same_bank, same_question}
use Rattle.qz_terms.specs.declared.request.Request.{Request}
use Rattle.qz_terms.specs.declared.request.Request.TheVariants as request
use Rattle.qz_terms.specs.Spelling.{behaviour_bytes, handling_bytes, method_bytes, review_bytes, role_bytes, whom_bytes}

-- the same variant of an enum without fields
abbrev pub same_word : {A : Type 0} → (A → List ℕ) → A → A → Bool
same_word code a b = bytes_eq (code a) (code b)

abbrev pub same_setting : Option ℕ → Option ℕ → Bool
same_setting None None = true
same_setting (Some a) (Some b) = a == b
same_setting a b = false

-- ---- requests of a sort

-- of users and groups
abbrev pub same_roster : Request → Request → Bool
same_roster (request.User n r t) (request.User m s u) = bytes_eq n m && (same_word role_bytes r s && bytes_eq t u)
same_roster (request.Group n) (request.Group m) = bytes_eq n m
same_roster (request.Member g u) (request.Member h v) = (g == h) && (u == v)
same_roster a b = false

-- of the bank
abbrev pub same_change : Request → Request → Bool
same_change (request.Import a) (request.Import b) = same_bank a b
same_change (request.Edit e a) (request.Edit f b) = (e == f) && same_question a b
same_change (request.Tune e p a) (request.Tune f q b) = (e == f) && (int_eq p q && same_texts a b)
same_change a b = false

-- of quizzes and their slots
abbrev pub same_quiz : Request → Request → Bool
same_quiz (request.Quiz n a) (request.Quiz m b) = bytes_eq n m && same_word behaviour_bytes a b
same_quiz (request.Slot q e m) (request.Slot p f n) = (q == p) && ((e == f) && int_eq m n)
same_quiz (request.Ready q) (request.Ready p) = q == p
same_quiz (request.Remax q k m) (request.Remax p l n) = (q == p) && ((k == l) && int_eq m n)
same_quiz (request.Regrade q) (request.Regrade p) = q == p
same_quiz a b = false

-- of how a quiz is graded and when it may be taken
abbrev pub same_rules : Request → Request → Bool
same_rules (request.Policy q a g) (request.Policy p b h) = (q == p) && (same_word method_bytes a b && int_eq g h)
same_rules (request.Times q o c l a h g r) (request.Times p o2 c2 l2 a2 h2 g2 r2) =
    (q == p) && ((o == o2) && ((c == c2) && ((l == l2) && ((a == a2) && (same_word handling_bytes h h2 && ((g == g2) && same_word review_bytes r r2))))))
same_rules (request.Override q w n o c l a) (request.Override p w2 n2 o2 c2 l2 a2) =
    (q == p) && (same_word whom_bytes w w2 && ((n == n2) && (same_setting o o2 && (same_setting c c2 && (same_setting l l2 && same_setting a a2)))))
same_rules a b = false

-- the same in one of these sorts; any other request is the same as none
abbrev pub same_request : Request → Request → Bool
same_request a b = same_roster a b || (same_change a b || (same_quiz a b || same_rules a b))
