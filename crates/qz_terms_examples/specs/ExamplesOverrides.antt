-- Worked lines: a time limit that is set otherwise for two groups and for a user.
use Rattle.std.specs.Prelude.{◌≡◌, ℕ, List, pos, Some, None, codes, Option, refl}
use Rattle.qz_grading.specs.declared.refusal.Refusal.TheVariants as refusal
use Rattle.qz_grading.specs.declared.refusal.Thing.TheVariants as thing
use Rattle.qz_terms.specs.declared.access.Handling.TheVariants as handling
use Rattle.qz_terms.specs.declared.access.Review.TheVariants as review
use Rattle.qz_terms.specs.declared.ask.Ask.{Ask}
use Rattle.qz_terms.specs.declared.record.How.TheVariants as how
use Rattle.qz_terms.specs.declared.reply.Done.TheVariants as done
use Rattle.qz_terms.specs.declared.reply.Reply.TheVariants as reply
use Rattle.qz_terms.specs.declared.reply.Shown.TheVariants as shown
use Rattle.qz_terms.specs.declared.reply.Status.TheVariants as status
use Rattle.qz_terms.specs.declared.request.Request.{Request}
use Rattle.qz_terms.specs.declared.request.Request.TheVariants as request
use Rattle.qz_terms.specs.declared.request.Whom.TheVariants as whom
use Rattle.qz_terms_examples.specs.ExamplesSchool.{School, asked_with, first_attempt, look, school, then_has, told}

abbrev ann : List ℕ
ann = codes "ann"

abbrev root : List ℕ
root = codes "root"

abbrev for_group : ℕ → Option ℕ → Request
for_group number limit = request.Override 1 whom.Group number None None limit None

abbrev limit_to_400 : Ask
limit_to_400 = asked_with root (codes "b1") (request.Times 1 0 0 400 0 handling.AutoSubmit 0 review.Always)

abbrev limited : School
limited = then_has school 100 limit_to_400

abbrev with_red : School
with_red = then_has limited 100 (asked_with root (codes "b2") (request.Group (codes "red")))

abbrev with_blue : School
with_blue = then_has with_red 100 (asked_with root (codes "b3") (request.Group (codes "blue")))

abbrev ann_is_red : School
ann_is_red = then_has with_blue 100 (asked_with root (codes "b4") (request.Member 1 2))

abbrev ann_is_both : School
ann_is_both = then_has ann_is_red 100 (asked_with root (codes "b5") (request.Member 2 2))

abbrev red_has_600 : School
red_has_600 = then_has ann_is_both 100 (asked_with root (codes "b6") (for_group 1 (Some 600)))

abbrev ann_started : School
ann_started = then_has red_has_600 1000 (asked_with ann (codes "k1") (request.Start 1))

abbrev blue_has_none : School
blue_has_none = then_has ann_started 1005 (asked_with root (codes "b7") (for_group 2 (Some 0)))

abbrev red_has_500 : School
red_has_500 = then_has blue_has_none 1006 (asked_with root (codes "b9") (for_group 1 (Some 500)))

abbrev pub ann_has_300 : School
ann_has_300 = then_has red_has_500 1012 (asked_with root (codes "b8") (request.Override 1 whom.User 2 None None (Some 300) None))

abbrev settled : School
settled = then_has ann_has_300 1301 (look root (request.Settle first_attempt))

pub times_are_set : told school 100 limit_to_400 ≡ reply.Ok 8 done.Done
times_are_set = refl

pub red_is_made : told limited 100 (asked_with root (codes "b2") (request.Group (codes "red"))) ≡ reply.Ok 9 (done.Made 1)
red_is_made = refl

pub blue_is_made : told with_red 100 (asked_with root (codes "b3") (request.Group (codes "blue"))) ≡ reply.Ok 10 (done.Made 2)
blue_is_made = refl

pub ann_joins_red : told with_blue 100 (asked_with root (codes "b4") (request.Member 1 2)) ≡ reply.Ok 11 done.Done
ann_joins_red = refl

pub ann_joins_blue : told ann_is_red 100 (asked_with root (codes "b5") (request.Member 2 2)) ≡ reply.Ok 12 done.Done
ann_joins_blue = refl

pub red_gets_600 : told ann_is_both 100 (asked_with root (codes "b6") (for_group 1 (Some 600))) ≡ reply.Ok 13 done.Done
red_gets_600 = refl

pub ann_starts : told red_has_600 1000 (asked_with ann (codes "k1") (request.Start 1)) ≡ reply.Ok 1 (done.Started first_attempt 1 (Some 1600))
ann_starts = refl

-- no limit is the most lenient of the groups'
pub blue_gets_no_limit : told ann_started 1005 (asked_with root (codes "b7") (for_group 2 (Some 0))) ≡ reply.Ok 14 done.Done
blue_gets_no_limit = refl

pub red_gets_500 : told blue_has_none 1006 (asked_with root (codes "b9") (for_group 1 (Some 500))) ≡ reply.Ok 15 done.Done
red_gets_500 = refl

pub ann_has_no_limit : told red_has_500 1010 (look ann (request.Total first_attempt)) ≡ reply.Ok 1 (done.Attempt status.Live shown.None None)
ann_has_no_limit = refl

pub ann_has_one_to_finish : told red_has_500 1011 (asked_with ann (codes "k2") (request.Start 1)) ≡ reply.Refused (refusal.Unfinished first_attempt)
ann_has_one_to_finish = refl

pub the_live_one : told red_has_500 1011 (look root (request.Live 0 (record { user = 0; nth = 0 }))) ≡ reply.Ok 1 (done.Live (Some first_attempt))
the_live_one = refl

pub none_behind_it : told red_has_500 1011 (look root (request.Live 0 first_attempt)) ≡ reply.Ok 1 (done.Live None)
none_behind_it = refl

pub one_shard_only : told red_has_500 1011 (look root (request.Live 1 (record { user = 0; nth = 0 }))) ≡ reply.Refused (refusal.Unknown thing.Shard)
one_shard_only = refl

-- the user's own comes before the groups'
pub ann_gets_300 : told red_has_500 1012 (asked_with root (codes "b8") (request.Override 1 whom.User 2 None None (Some 300) None)) ≡ reply.Ok 16 done.Done
ann_gets_300 = refl

pub ann_is_due : told ann_has_300 1013 (look ann (request.Total first_attempt)) ≡ reply.Ok 1 (done.Attempt status.Live shown.None (Some 1300))
ann_is_due = refl

pub ann_is_settled : told ann_has_300 1301 (look root (request.Settle first_attempt)) ≡ reply.Ok 2 (done.Settled first_attempt how.Finished)
ann_is_settled = refl

pub ann_is_graded : told settled 1302 (look ann (request.Grade 1 2)) ≡ reply.Ok 2 (done.Grade (shown.Value (pos 0)))
ann_is_graded = refl

-- a second request replaces the first whole: the group has nothing set any more
abbrev red_has_nothing : School
red_has_nothing = then_has red_has_600 1000 (asked_with root (codes "c1") (for_group 1 None))

pub ann_starts_by_the_quiz : told red_has_nothing 1000 (asked_with ann (codes "k1") (request.Start 1)) ≡ reply.Ok 1 (done.Started first_attempt 1 (Some 1400))
ann_starts_by_the_quiz = refl
