-- Worked lines: each setting that is set otherwise for a user or for groups.
use Rattle.std.specs.Prelude.{◌≡◌, ℕ, List, Some, None, codes, Option, refl}
use Rattle.qz_grading.specs.declared.refusal.Refusal.TheVariants as refusal
use Rattle.qz_terms.specs.declared.access.Settings.{Settings}
use Rattle.qz_terms.specs.declared.ask.Ask.{Ask}
use Rattle.qz_terms.specs.declared.reply.Done.TheVariants as done
use Rattle.qz_terms.specs.declared.reply.Reply.TheVariants as reply
use Rattle.qz_terms.specs.declared.request.Request.{Request}
use Rattle.qz_terms.specs.declared.request.Request.TheVariants as request
use Rattle.qz_terms.specs.declared.request.Whom.TheVariants as whom
use Rattle.qz_terms.specs.Access.{default_settings}
use Rattle.qz_terms.specs.Catalog as catalog
use Rattle.qz_terms_examples.specs.ExamplesFirstAttempt.{finished}
use Rattle.qz_terms_examples.specs.ExamplesSchool.{School, asked_with, first_attempt, school, then_has, told}

abbrev by_root : School → List ℕ → Request → School
by_root s key x = then_has s 100 (asked_with (codes "root") key x)

-- ---- for ann alone

abbrev for_ann : School → Option ℕ → Option ℕ → Option ℕ → Option ℕ → School
for_ann s opens closes limit allowed = by_root s (codes "b1") (request.Override 1 whom.User 2 opens closes limit allowed)

abbrev start : List ℕ → Ask
start token = asked_with token (codes "k9") (request.Start 1)

pub it_opens_later : told (for_ann school (Some 200) None None None) 199 (start (codes "ann")) ≡ reply.Refused (refusal.NotOpen 200)
it_opens_later = refl

pub it_closes_earlier : told (for_ann school None (Some 140) None None) 141 (start (codes "ann")) ≡ reply.Refused (refusal.Late 140)
it_closes_earlier = refl

pub the_time_is_limited : told (for_ann school None None (Some 30) None) 150 (start (codes "ann")) ≡ reply.Ok 1 (done.Started first_attempt 1 (Some 180))
the_time_is_limited = refl

pub one_attempt_is_allowed : told (for_ann finished None None None (Some 1)) 150 (start (codes "ann")) ≡ reply.Refused (refusal.NoAttemptsLeft 1)
one_attempt_is_allowed = refl

-- and not for bob
pub bob_starts : told (for_ann school (Some 200) (Some 140) (Some 30) (Some 1)) 150 (start (codes "bob")) ≡ reply.Ok 1 (done.Started (record { user = 3; nth = 1 }) 1 None)
bob_starts = refl

-- ---- for two groups that she is in: the earliest opening, and of the others none at all or the greatest

abbrev with_groups : School
with_groups = by_root (by_root (by_root (by_root school (codes "g1") (request.Group (codes "red"))) (codes "g2") (request.Group (codes "blue"))) (codes "g3") (request.Member 1 2)) (codes "g4") (request.Member 2 2)

abbrev for_both : School
for_both = by_root (by_root with_groups (codes "g5") (request.Override 1 whom.Group 1 (Some 300) (Some 500) (Some 60) (Some 2))) (codes "g6") (request.Override 1 whom.Group 2 (Some 200) (Some 0) (Some 90) (Some 3))

abbrev most_lenient : Settings
most_lenient = record default_settings { opens = 200; closes = 0; limit = 90; allowed = 3 }

pub by_the_groups : catalog.settings for_both.records 1 2 ≡ most_lenient
by_the_groups = refl

-- her own come before, each by itself
pub her_own_closing : catalog.settings (for_ann for_both None (Some 400) None None).records 1 2 ≡ record most_lenient { closes = 400 }
her_own_closing = refl

pub her_own_number : catalog.settings (for_ann for_both None None None (Some 1)).records 1 2 ≡ record most_lenient { allowed = 1 }
her_own_number = refl

-- a group that she isn't in counts nothing, nor does another quiz
pub bob_is_in_none : catalog.settings for_both.records 1 3 ≡ default_settings
bob_is_in_none = refl

pub not_in_another_quiz : catalog.settings for_both.records 2 2 ≡ default_settings
not_in_another_quiz = refl
