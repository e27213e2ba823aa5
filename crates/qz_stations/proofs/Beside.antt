-- One who asks a school with passes asks it beside others.
use Rattle.std.proofs.Common.{◌≡◌, ℕ, List, [], ◌∷◌, refl, sym, ap, subst}
use Rattle.std.specs.List.{AllZip}
use Rattle.qz_gather.specs.Clerks.{Answers, Clerk, noted, unasked}
use Rattle.qz_grading.specs.declared.refusal.Refusal.TheVariants as refusal
use Rattle.qz_serial.specs.Once.{unsaid}
use Rattle.qz_stations.specs.Stations.{AsksWith}
use Rattle.qz_stations.specs.Stations as passes
use Rattle.qz_terms.specs.declared.ask.Ask.{Ask}
use Rattle.qz_terms.specs.declared.reply.Reply.{Reply}
use Rattle.qz_terms.specs.declared.reply.Reply.TheVariants as reply
use Rattle.qz_terms.specs.Serial.{AllMended, Held, Mended, no_memory, stays}
use Rattle.qz_visit.specs.Seeing.{IsAskedBeside}
use Rattle.qz_visit.specs.Visits.{Asked, Seats, Tellings, Visitor, lists_told, said_by, seen_in}
use Rattle.qz_visit.proofs.Seeing.{all_self, asked_beside}

all-mended : (hs : List Held) → AllZip Mended hs hs
all-mended [] = tt
all-mended (h ∷ hs) = (stays h, all-mended hs)

-- where memory is wanting before nothing is asked
unasked-beside : (t : Tellings) (now : ℕ) (ask : Ask) → IsAskedBeside t t now ask (reply.Refused refusal.Memory)
unasked-beside t now ask = record {
  found = t;
  begins = all_self t;
  grows = all_self t;
  once = record {
    asks = record {
      mended = lists_told t;
      mends = same;
      keeps = record { records = λ unread. refl; parts = λ k unread. refl };
      turn = no_memory (lists_told t) now ask;
    };
    cause = λ told. absurd cc;
    stands = λ place d keyed told. absurd cc;
    stays = λ x told there. there;
    again = λ told there. (unsaid refl, same);
  };
}
  where
    same : AllMended (lists_told t) (lists_told t)
    same = record { records = stays (lists_told t).records; parts = all-mended (lists_told t).parts }

pub with_beside : (a b : Seats) (now : ℕ) (ask : Ask) (r : Reply) → AsksWith a b now ask r → IsAskedBeside (seen_in a) (seen_in b) now ask r
with_beside a b now ask r (passes.asked last did) = asked_beside a b now ask (said_by r last) did.visited
with_beside a b now ask r (passes.unasked same told) = subst (IsAskedBeside (seen_in a) (seen_in b) now ask) (sym told) (subst (λ (p : Seats). IsAskedBeside (seen_in a) (seen_in p) now ask (reply.Refused refusal.Memory)) (sym same) (unasked-beside (seen_in a) now ask))

-- what one who visits answers
abbrev pub Visiting : Visitor → Visitor → ℕ → Ask → Reply → Type 0
Visiting a b now ask told = (b.school ≡ a.school) × (Asked a.passes b.passes b.last now ask told)

pub visit_with : (a b : Visitor) (now : ℕ) (ask : Ask) (r : Reply) → Visiting a b now ask r → AsksWith a.passes b.passes now ask r
visit_with a b now ask r answered = passes.asked b.last answered.1

-- a clerk asks nothing where memory is wanting for its note
pub clerk_with : (a b : Clerk) (now : ℕ) (ask : Ask) (r : Reply) → Answers a b now ask r → AsksWith a.visit.passes b.visit.passes now ask r
clerk_with a b now ask r (unasked same told) = passes.unasked (ap (λ (c : Clerk). c.visit.passes) same) told
clerk_with a b now ask r (noted n school asks tells more) = passes.asked b.visit.last asks
