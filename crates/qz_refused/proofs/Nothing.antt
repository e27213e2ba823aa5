-- A request that is refused puts nothing.
use Rattle.std.proofs.Common.{◌≡◌, ℕ, Bool, true, false, List, Option, Some, None, length, refl, sym, ap, ◌∙◌, subst, append-nil}
use Rattle.std.specs.Prelude.{if◌then◌else◌}
use Rattle.qz_grading.specs.declared.refusal.Refusal.{Refusal}
use Rattle.qz_terms.specs.declared.ask.Ask.{Ask}
use Rattle.qz_terms.specs.declared.people.User.{User}
use Rattle.qz_terms.specs.declared.plan.Job.{Job}
use Rattle.qz_terms.specs.declared.plan.Plan.{Plan}
use Rattle.qz_terms.specs.declared.record.Record.{Record}
use Rattle.qz_terms.specs.declared.reply.Done.{Done}
use Rattle.qz_terms.specs.declared.reply.Reply.TheVariants as reply
use Rattle.qz_terms.specs.declared.request.Request.{Request}
use Rattle.qz_terms.specs.declared.request.Request.TheVariants as request
use Rattle.qz_terms.specs.Answer.{answer_here, list_after, list_with, put_by_job, reply_to, said_of_put, work_after, work_answer}
use Rattle.qz_terms.specs.CatalogAnswer.{asks_catalog, catalog_after, catalog_answer, catalog_verdict, put_in}
use Rattle.qz_terms.specs.SchoolAnswer.{after_by, answer_among, answer_by, catalog_list, first_refusal, job_after, job_answer, part_at, part_of, plan_for, school_answer_by, shard_after, shard_answer, shard_list}
use Rattle.qz_terms.specs.Catalog as catalog
use Rattle.qz_terms.specs.Cause.{Denied, Granted, Repeated, Verdict, missing_shard}
use Rattle.qz_terms.specs.Serial.{Lists, is_report, lists_of, part_list, part_read, reply_over}
use Rattle.qz_terms.proofs.Adding.{adding_law}
use Rattle.qz_serial.specs.Paths.{IsGoing}
use Rattle.qz_serial.proofs.Acting.{no_part}
use Rattle.qz_serial.proofs.Over.{part_read_is, records_kept, said_by}
use Rattle.qz_serial.proofs.Seats.{count_parts, parts_at}
use Rattle.qz_serial.proofs.Still.{PutsNothing}

-- ---- at one list

-- an accepted reply is no refusal
refused-list : (v : Verdict) (c : List Record) (put : Option Record) (place : ℕ) (d : Done) (why : Refusal) → reply_to v (said_of_put c put (reply.Ok place d)) ≡ reply.Refused why → list_with v c put ≡ c
refused-list (Denied s) c put place d why told = refl
refused-list (Repeated l s) c put place d why told = refl
refused-list Granted c None place d why told = append-nil c
refused-list Granted c (Some s) place d why told = absurd cc

catalog-refused : (c : List Record) (now : ℕ) (user : User) (ask : Ask) (why : Refusal) → catalog_answer c now user ask ≡ reply.Refused why → catalog_after c now user ask ≡ c
catalog-refused c now user ask why told = refused-list (catalog_verdict c now user ask) c (put_in c now user ask) _ _ why told

planned-refused : (c h : List Record) (now : ℕ) (user : User) (ask : Ask) (why : Refusal) (o : Option Plan) → plan_for c h user ask.request ≡ o → shard_answer c h now user ask ≡ reply.Refused why → shard_after c h now user ask ≡ h
planned-refused c h now user ask why None is told = rw is refl
planned-refused c h now user ask why (Some plan) is told =
    let own : answer_here h now user plan ask ≡ reply.Refused why = rw is at told in
    let after : shard_after c h now user ask ≡ list_after h now user plan ask = rw is refl in
    after ∙ adding_law.refused h now user plan ask why own

shard-refused : (c h : List Record) (now : ℕ) (user : User) (ask : Ask) (why : Refusal) → shard_answer c h now user ask ≡ reply.Refused why → shard_after c h now user ask ≡ h
shard-refused c h now user ask why told = planned-refused c h now user ask why (plan_for c h user ask.request) refl told

work-refused : (h : List Record) (now caller : ℕ) (job : Job) (why : Refusal) → work_answer h now caller job ≡ reply.Refused why → work_after h now caller job ≡ h
work-refused h now caller job why told = refused-list Granted h (put_by_job h now caller job) _ _ why told

job-refused : (c h : List Record) (now : ℕ) (user : User) (number : ℕ) (why : Refusal) (o : Option Job) → catalog.job c number ≡ o → job_answer c h now user number ≡ reply.Refused why → job_after c h now user number ≡ h
job-refused c h now user number why None is told = rw is refl
job-refused c h now user number why (Some job) is told =
    let own : work_answer h now user.number job ≡ reply.Refused why = rw is at told in
    let after : job_after c h now user number ≡ work_after h now user.number job = rw is refl in
    after ∙ work-refused h now user.number job why own

-- ---- over all lists

same-part : (o : Option ℕ) (k j : ℕ) → o ≡ Some k → o ≡ Some j → j ≡ k
same-part o k j one other = cc

module _ (m : Lists) (now : ℕ) (ask : Ask) (why : Refusal) (user : User) (found : catalog.user_of m.records.list ask.caller ≡ Some user) where
  abbrev c : List Record
  c = m.records.list

  abbrev count : ℕ
  count = length m.parts

  shard-by : (h : List Record) → first_refusal c user ask.request ≡ None → shard_list c h now ask ≡ after_by c h now user ask ask.request
  shard-by h free = rw (found, free) refl

  -- the catalogue or a missing shard refuses it
  first-refused : (r : Refusal) → first_refusal c user ask.request ≡ Some r → PutsNothing m now ask
  first-refused r is = record { records = rw (found, is) refl; part = λ k read. rw (found, is) refl }

  beyond-other : (x : Request) (r : Refusal) → missing_shard count x ≡ Some r → asks_catalog x ≡ false
  beyond-other (request.Work job shard) r is = refl
  beyond-other (request.Live shard attempt) r is = refl
  beyond-other x r is = absurd cc

  beyond-refused : (r : Refusal) → first_refusal c user ask.request ≡ None → missing_shard count ask.request ≡ Some r → PutsNothing m now ask
  beyond-refused r free is = record {
    records = records_kept c now ask (beyond-other ask.request r is);
    part = λ k read. absurd (let none : part_read m ask ≡ None = rw (found, free, is) refl in let both : None ≡ Some k = sym none ∙ read in cc);
  }

  -- a shard does, which the request goes to
  going : first_refusal c user ask.request ≡ None → missing_shard count ask.request ≡ None → asks_catalog ask.request ≡ false → is_report ask.request ≡ false → IsGoing c count ask user (part_of count user ask.request)
  going free there other report = record { goes = rw (other, report) refl; found = found; among = rw (free, there) refl; part = refl }

  abbrev own : List Record
  own = part_list m (part_of count user ask.request)

  part-refused : first_refusal c user ask.request ≡ None → missing_shard count ask.request ≡ None → asks_catalog ask.request ≡ false → is_report ask.request ≡ false → after_by c own now user ask ask.request ≡ own → PutsNothing m now ask
  part-refused free there other report after = record {
    records = records_kept c now ask other;
    part = λ k read.
        let here = same-part (part_read m ask) k (part_of count user ask.request) read (part_read_is m ask user (part_of count user ask.request) (going free there other report)) in
        subst (λ (n : ℕ). shard_list c (part_list m n) now ask ≡ part_list m n) here (shard-by own free ∙ after);
  }

  -- the catalogue does, which it goes to
  catalog-nothing : first_refusal c user ask.request ≡ None → asks_catalog ask.request ≡ true → catalog_answer c now user ask ≡ reply.Refused why → PutsNothing m now ask
  catalog-nothing free to_catalog told = record {
    records = (let after : catalog_list c now ask ≡ catalog_after c now user ask = rw (found, free, to_catalog) refl in after ∙ catalog-refused c now user ask why told);
    part = λ k read. absurd (let both : None ≡ Some k = sym (no_part m ask user to_catalog found) ∙ read in cc);
  }

  plain-by : (b : Bool) → asks_catalog ask.request ≡ b → is_report ask.request ≡ false → first_refusal c user ask.request ≡ None → missing_shard count ask.request ≡ None
      → (if b then catalog_answer c now user ask else shard_answer c own now user ask) ≡ reply.Refused why → (b ≡ false → after_by c own now user ask ask.request ≡ shard_after c own now user ask) → PutsNothing m now ask
  plain-by true is report free there told after = catalog-nothing free is told
  plain-by false is report free there told after = part-refused free there is report (after refl ∙ shard-refused c own now user ask why told)

  -- by its kind
  answered-by : (x : Request) → ask.request ≡ x → first_refusal c user ask.request ≡ None → missing_shard count ask.request ≡ None → is_report x ≡ false → answer_by c own now user ask x ≡ reply.Refused why → PutsNothing m now ask
  answered-by (request.Work job shard) e free there report told =
      part-refused free there (ap asks_catalog e) (ap is_report e) (ap (after_by c own now user ask) e ∙ job-refused c own now user job why (catalog.job c job) refl told)
  answered-by (request.Live shard attempt) e free there report told = absurd cc
  answered-by (request.Report quiz) e free there report told = absurd cc
  answered-by x e free there report told =
      plain-by (asks_catalog x) (ap asks_catalog e) (ap is_report e ∙ report) free there told (λ other. ap (after_by c own now user ask) e ∙ by-kind other)
    where
      kind-by : (b : Bool) → b ≡ false → (if b then own else shard_after c own now user ask) ≡ shard_after c own now user ask
      kind-by true is = absurd cc
      kind-by false is = refl

      by-kind : asks_catalog x ≡ false → after_by c own now user ask x ≡ shard_after c own now user ask
      by-kind other = kind-by (asks_catalog x) other

  among-by : (b : Bool) → is_report ask.request ≡ b → first_refusal c user ask.request ≡ None → missing_shard count ask.request ≡ None → answer_among c (lists_of m.parts) now user ask ask.request ≡ reply.Refused why → PutsNothing m now ask
  among-by true report free there told = absurd (no-report ask.request report told)
    where
      no-report : (x : Request) → is_report x ≡ true → answer_among c (lists_of m.parts) now user ask x ≡ reply.Refused why → ⊥
      no-report (request.Report quiz) is said = absurd cc
      no-report x is said = absurd cc
  among-by false report free there told = answered-by ask.request refl free there report (sym (here ask.request report) ∙ told)
    where
      own-is : part_at (lists_of m.parts) (part_of (length (lists_of m.parts)) user ask.request) ≡ own
      own-is = ap (λ (n : ℕ). part_at (lists_of m.parts) (part_of n user ask.request)) (count_parts m.parts) ∙ parts_at m.parts (part_of count user ask.request)

      here : (x : Request) → is_report ask.request ≡ false → answer_among c (lists_of m.parts) now user ask ask.request ≡ answer_by c own now user ask ask.request
      here x other = Rattle.qz_serial.proofs.Answering.answered-among c (lists_of m.parts) now user ask ask.request other ∙ ap (λ (h : List Record). answer_by c h now user ask ask.request) own-is

  user-by : (first beyond : Option Refusal) → first_refusal c user ask.request ≡ first → missing_shard count ask.request ≡ beyond → school_answer_by c (lists_of m.parts) now ask user ≡ reply.Refused why → PutsNothing m now ask
  user-by (Some r) beyond free there told = first-refused r free
  user-by None (Some r) free there told = beyond-refused r free there
  user-by None None free there told =
      let counted : missing_shard (length (lists_of m.parts)) ask.request ≡ None = rw (count_parts m.parts) there in
      let said : answer_among c (lists_of m.parts) now user ask ask.request ≡ reply.Refused why = rw (free, counted) at told in
      among-by (is_report ask.request) refl free there said

pub refused_nothing : (m : Lists) (now : ℕ) (ask : Ask) (why : Refusal) → reply_over m now ask ≡ reply.Refused why → PutsNothing m now ask
refused_nothing m now ask why told = by (catalog.user_of m.records.list ask.caller) refl
  where
    by : (u : Option User) → catalog.user_of m.records.list ask.caller ≡ u → PutsNothing m now ask
    by None none = record { records = rw none refl; part = λ k read. rw none refl }
    by (Some user) found = user-by m now ask why user found (first_refusal m.records.list user ask.request) (missing_shard (length m.parts) ask.request) refl refl (sym (said_by m now ask user found) ∙ told)
