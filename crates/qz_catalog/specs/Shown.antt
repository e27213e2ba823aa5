-- The number that a reply shows of a record.
use Rattle.std.specs.Prelude.{ℕ, Bool, true, length, nat_le}
use Rattle.qz_terms.specs.declared.limits.TheConstants.{MOST_ENTRIES, MOST_SLOTS}
use Rattle.qz_terms.specs.declared.reply.Done.{Done}
use Rattle.qz_terms.specs.declared.reply.Done.TheVariants as done
use Rattle.qz_terms.specs.declared.request.Request.{Request}
use Rattle.qz_terms.specs.declared.request.Request.TheVariants as request

-- what was done by a request whose reply shows this number
abbrev pub done_with : Request → ℕ → Done
done_with (request.User name role token) n = done.Made n
done_with (request.Group name) n = done.Made n
done_with (request.Import gift) n = done.Imported n (length gift.items)
done_with (request.Edit entry gift) n = done.Version entry n
done_with (request.Tune entry penalty hints) n = done.Version entry n
done_with (request.Quiz name behaviour) n = done.Made n
done_with (request.Slot quiz entry max) n = done.Slot n
done_with (request.Regrade quiz) n = done.Job n
done_with x n = done.Done

-- the number of a slot is at most 200, and an import makes at most 20,000 entries
abbrev pub is_showable : Request → ℕ → Bool
is_showable (request.Slot quiz entry max) n = nat_le n MOST_SLOTS
is_showable (request.Import gift) n = nat_le (length gift.items) MOST_ENTRIES
is_showable x n = true
