-- Worked words: the texts, the answers, the hints and the requests that they spell.
use Rattle.std.specs.Fmt.{digits}
use Rattle.std.specs.Prelude.{◌≡◌, [], ◌∷◌, Some, None, Ok, Err, pos, negsuc, codes, refl}
use Rattle.std.specs.Char.{encode_utf8}
use Rattle.std.specs.Str.{chars, is_utf8}
use Rattle.std.specs.Str.Lossy.{utf8_valid_len}
use Rattle.qz_decimal.specs.Reading.{units_within, units_in, size_at, rest_at, decimals_at}
use Rattle.qz_grading.specs.declared.response.Answer.TheVariants as answer
use Rattle.qz_terms.specs.declared.access.Handling.TheVariants as handling
use Rattle.qz_terms.specs.declared.access.Review.TheVariants as review
use Rattle.qz_terms.specs.declared.grades.Method.TheVariants as method
use Rattle.qz_terms.specs.declared.people.Caller.TheVariants as caller
use Rattle.qz_terms.specs.declared.request.Request.TheVariants as request
use Rattle.qz_terms.specs.declared.request.Whom.TheVariants as whom
use Rattle.qz_wire.specs.Answers.{answer_of}
use Rattle.qz_wire.specs.Asking.{ask_of}
use Rattle.qz_wire.specs.BankWords.{hints_of, name_of}
use Rattle.qz_wire.specs.Escapes.{text_word}
use Rattle.qz_wire.specs.Requests.{policy_of, times_of, override_of, mark_request_of, regrade_of, work_of, settle_of, live_of, jobs_of, view_of, total_of}
use Rattle.qz_wire.specs.Words.{text_of, words_of}

pub escapes : text_of (codes "a\\sb\\n\\\\s") ≡ Some (codes "a b\n\\s")
escapes = refl

pub the_empty_text : text_of (codes "\\e") ≡ Some []
the_empty_text = refl

pub only_alone : text_of (codes "a\\e") ≡ None
only_alone = refl

pub several : answer_of (codes "picks:1,3") ≡ Some (answer.Picks (1 ∷ 3 ∷ []))
several = refl

pub none_chosen : answer_of (codes "match:2,0,3") ≡ Some (answer.Match (2 ∷ 0 ∷ 3 ∷ []))
none_chosen = refl

pub a_number_is_missing : answer_of (codes "picks:1,") ≡ None
a_number_is_missing = refl

pub typed : answer_of (codes "text:two\\swords") ≡ Some (answer.Words (codes "two words"))
unfolding chars encode_utf8 is_utf8 utf8_valid_len
typed = refl

pub typed_nothing : answer_of (codes "text:") ≡ Some (answer.Words [])
unfolding chars encode_utf8 is_utf8 utf8_valid_len
typed_nothing = refl

pub a_name : name_of (codes "Week\\s1") ≡ Some (codes "Week 1")
unfolding chars encode_utf8 is_utf8 utf8_valid_len
a_name = refl

pub a_name_of_two_lines : name_of (codes "Week\\n1") ≡ None
a_name_of_two_lines = refl

pub two_hints : hints_of (codes "See\\sp.\\s4\\nLook\\sup") ≡ Some (codes "See p. 4" ∷ codes "Look up" ∷ [])
unfolding chars encode_utf8 is_utf8 utf8_valid_len
two_hints = refl

pub no_hints : hints_of (codes "\\e") ≡ Some []
no_hints = refl

-- a line feed at the end begins a line that is empty
pub an_empty_hint : hints_of (codes "a\\n") ≡ None
unfolding chars encode_utf8 is_utf8 utf8_valid_len
an_empty_hint = refl

pub written : text_word (codes "a b\n\\") ≡ codes "a\\sb\\n\\\\"
written = refl

pub nothing_written : text_word [] ≡ codes "\\e"
nothing_written = refl

-- ---- how a quiz is taken and graded

pub all_settings : times_of (words_of (codes "1 100 86400 3600 2 graceperiod 600 finish")) ≡ Ok (request.Times 1 100 86400 3600 2 handling.GracePeriod 600 review.Finish)
unfolding times_of
all_settings = refl

pub the_longest_times : times_of (words_of (codes "1 0 0 31536000 0 autoabandon 31536000 always")) ≡ Ok (request.Times 1 0 0 31536000 0 handling.AutoAbandon 31536000 review.Always)
unfolding times_of
the_longest_times = refl

-- one second more than 365 days
pub a_limit_too_long : times_of (words_of (codes "1 0 0 31536001 0 autosubmit 0 always")) ≡ Err 8
unfolding times_of
a_limit_too_long = refl

pub too_many_allowed : times_of (words_of (codes "1 0 0 0 1001 autosubmit 0 close")) ≡ Err 9
unfolding times_of
too_many_allowed = refl

pub a_misspelt_handling : times_of (words_of (codes "1 0 0 0 0 autosubmitted 0 always")) ≡ Err 10
unfolding times_of
a_misspelt_handling = refl

-- a missing word has the number behind the last one
pub no_review : times_of (words_of (codes "1 0 0 0 0 autosubmit 0")) ≡ Err 12
unfolding times_of
no_review = refl

-- a dash leaves a setting unset in an override alone
pub nothing_is_unset_for_all : times_of (words_of (codes "1 - 0 0 0 autosubmit 0 always")) ≡ Err 6
unfolding times_of
nothing_is_unset_for_all = refl

pub some_set_otherwise : override_of (words_of (codes "1 user 2 - 90000 - 3")) ≡ Ok (request.Override 1 whom.User 2 None (Some 90000) None (Some 3))
unfolding override_of
some_set_otherwise = refl

pub none_set_otherwise : override_of (words_of (codes "1 group 4 - - - -")) ≡ Ok (request.Override 1 whom.Group 4 None None None None)
unfolding override_of
none_set_otherwise = refl

-- 0 is a setting of its own
pub set_to_nothing : override_of (words_of (codes "1 user 2 0 0 0 0")) ≡ Ok (request.Override 1 whom.User 2 (Some 0) (Some 0) (Some 0) (Some 0))
unfolding override_of
set_to_nothing = refl

pub neither_user_nor_group : override_of (words_of (codes "1 users 2 - - - -")) ≡ Err 6
unfolding override_of
neither_user_nor_group = refl

pub past_the_last_moment : override_of (words_of (codes "1 user 2 - 4102444800 - -")) ≡ Err 9
unfolding override_of
past_the_last_moment = refl

pub a_policy : policy_of (words_of (codes "1 average 12.5")) ≡ Ok (request.Policy 1 method.Average (pos 1250000))
unfolding policy_of units_within units_in size_at rest_at decimals_at
a_policy = refl

pub a_grade_too_great : policy_of (words_of (codes "1 last 10000.00001")) ≡ Err 7
unfolding policy_of units_within units_in size_at rest_at decimals_at
a_grade_too_great = refl

pub an_unknown_method : policy_of (words_of (codes "1 lowest 10")) ≡ Err 6
unfolding policy_of
an_unknown_method = refl

-- ---- attempts

-- it is below 0, which is refused later
pub a_mark : mark_request_of (words_of (codes "2.1 3 -0.5")) ≡ Ok (request.Mark (record { user = 2; nth = 1 }) 3 (negsuc 4999999))
unfolding mark_request_of units_within units_in size_at rest_at decimals_at
a_mark = refl

pub settling : settle_of (words_of (codes "2.1")) ≡ Ok (request.Settle (record { user = 2; nth = 1 }))
unfolding settle_of
settling = refl

pub settling_two : settle_of (words_of (codes "2.1 2.2")) ≡ Err 6
unfolding settle_of
settling_two = refl

pub the_first_live : live_of (words_of (codes "255 0.0")) ≡ Ok (request.Live 255 (record { user = 0; nth = 0 }))
unfolding live_of
the_first_live = refl

pub no_such_shard_number : live_of (words_of (codes "256 0.0")) ≡ Err 5
unfolding live_of
no_such_shard_number = refl

pub a_view : view_of (words_of (codes "2.1 3")) ≡ Ok (request.View (record { user = 2; nth = 1 }) 3)
unfolding view_of
a_view = refl

pub a_total : total_of (words_of (codes "2.1")) ≡ Ok (request.Total (record { user = 2; nth = 1 }))
unfolding total_of
a_total = refl

-- ---- whole lines

pub asked_without_a_key : ask_of (words_of (codes "5 root - live 0 2.1")) ≡ Ok (5, record { caller = caller.Token (codes "root"); key = None; request = request.Live 0 (record { user = 2; nth = 1 }) })
unfolding ask_of live_of
asked_without_a_key = refl

pub a_key_where_none_is_taken : ask_of (words_of (codes "5 root k live 0 2.1")) ≡ Err (record { place = 3; rule = 0 })
unfolding ask_of
a_key_where_none_is_taken = refl

pub a_key_is_missing : ask_of (words_of (codes "5 root - mark 2.1 3 1")) ≡ Err (record { place = 3; rule = 0 })
unfolding ask_of
a_key_is_missing = refl

pub no_command : ask_of (words_of (codes "5 root k regrades 1")) ≡ Err (record { place = 4; rule = 0 })
unfolding ask_of
no_command = refl

pub asking_for_a_job : ask_of (words_of (codes "5 root k regrade 1")) ≡ Ok (5, record { caller = caller.Token (codes "root"); key = Some (codes "k"); request = request.Regrade 1 })
unfolding ask_of regrade_of
asking_for_a_job = refl

-- the number of a shard is below 256
pub working : (work_of (words_of (codes "1 255")) ≡ Ok (request.Work 1 255)) × (work_of (words_of (codes "1 256")) ≡ Err 6)
unfolding work_of
working = (refl, refl)

pub counting_jobs : ask_of (words_of (codes "5 root - jobs")) ≡ Ok (5, record { caller = caller.Token (codes "root"); key = None; request = request.Jobs })
unfolding ask_of jobs_of
counting_jobs = refl

pub no_word_behind_jobs : ask_of (words_of (codes "5 root - jobs 1")) ≡ Err (record { place = 5; rule = 0 })
unfolding ask_of jobs_of
no_word_behind_jobs = refl
