-- What leaves a list as it was, and the answer over both lists as that over one.
use Rattle.std.proofs.Common.{◌≡◌, ℕ, List, Option, Some, None, refl, append-nil}
use Rattle.qz_grading.specs.declared.refusal.Refusal.{Refusal}
use Rattle.qz_terms.specs.declared.record.Record.{Record}
use Rattle.qz_terms.specs.declared.reply.Reply.TheVariants as reply
use Rattle.qz_terms.specs.declared.reply.Done.{Done}
use Rattle.qz_terms.specs.Cause.{Verdict, Denied, Repeated, Granted, verdict_here}
use Rattle.qz_terms.specs.Answer.{put_here, moment_of, reply_to, list_with, said_of_put}
use Rattle.qz_terms.specs.Laws.{AddsNothing}

-- an accepted reply is no refusal
refused-list : (v : Verdict) (h : List Record) (put : Option Record) (place : ℕ) (d : Done) (r : Refusal) → reply_to v (said_of_put h put (reply.Ok place d)) ≡ reply.Refused r → list_with v h put ≡ h
refused-list (Denied s) h put place d r e = refl
refused-list (Repeated l s) h put place d r e = refl
refused-list Granted h None place d r e = append-nil h
refused-list Granted h (Some s) place d r e = absurd cc

repeated-list : (v : Verdict) (h : List Record) (put : Option Record) (l : List Record) (r : Record) → v ≡ Repeated l r → list_with v h put ≡ h
repeated-list (Denied s) h put l r e = refl
repeated-list (Repeated k s) h put l r e = refl
repeated-list Granted h put l r e = absurd cc

nothing-list : (v : Verdict) (h : List Record) (put : Option Record) → put ≡ None → list_with v h put ≡ h
nothing-list (Denied s) h put e = refl
nothing-list (Repeated k s) h put e = refl
nothing-list Granted h None e = append-nil h
nothing-list Granted h (Some s) e = absurd cc

pub adding_law : AddsNothing
adding_law = record {
  refused = λ h now user plan ask r e. refused-list (verdict_here h (moment_of h now user ask.request) user plan ask) h (put_here h (moment_of h now user ask.request) user plan ask) _ _ r e;
  repeated = λ h now user plan ask l r e. repeated-list (verdict_here h (moment_of h now user ask.request) user plan ask) h (put_here h (moment_of h now user ask.request) user plan ask) l r e;
  looked = λ h now user plan ask e. nothing-list (verdict_here h (moment_of h now user ask.request) user plan ask) h (put_here h (moment_of h now user ask.request) user plan ask) e;
}
