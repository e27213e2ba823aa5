use Rattle.std.proofs.Common.{◌≡◌, ◌++◌, List, ℤ, ap, ◌∙◌, sym, map, true, append-nil, subst}
use Rattle.std.specs.Prelude.{filter_map}
use Rattle.qz_terms.specs.History.{slots}
use Rattle.qz_terms.specs.Parts.{part}
use Rattle.qz_terms.specs.Serial.{Held}
use Rattle.qz_solo.specs.Marks.{shown_mark}
use Rattle.qz_solo.proofs.MarkLemmas.{map_ok, marks_shown, no_marks, quiz_none, quiz_some, quiz_still}
use Rattle.qz_solo.proofs.Clear.{not_memory}
use Rattle.qz_school.proofs.Planning.{plan_there}
use Rattle.qz_terms.specs.declared.reply.Reply.TheVariants.{Refused}
use Rattle.qz_solo.proofs.marks.marks_onto.Goals as goal

pub returns-in-Err : goal.returns-in-Err
returns-in-Err g c =
    let old = c.args.shard.now.held in
    let still = quiz_still _ c.args.attempt old c.quiz_of.new.self.held c.quiz_of.result c.requires.clear c.quiz_of.ensures.told in
    let said = (quiz_still _ c.args.attempt old c.quiz_of.new.self.held _ c.requires.clear c.in-Err.ensures.told).1 in
    record {
      marks = map_ok c.none_onto.result c.none_onto.ensures (λ other. let none = quiz_none c.args.attempt old.list c.in-Err.why said (λ is. not_memory (Refused c.in-Err.why) other (ap Refused is)) in sym (ap (λ (ms : List ℤ). c.args.marks.now ++ ms) (no_marks old.list c.args.attempt none) ∙ append-nil c.args.marks.now));
      held = still.0;
      shard = c.quiz_of.ensures.shard;
    }

pub plan_of-requires : goal.plan_of-requires
plan_of-requires g c =
    let old = c.args.shard.now.held in
    let said = (quiz_still _ c.args.attempt old c.quiz_of.new.self.held _ c.requires.clear c.in-Ok.ensures.told).1 in
    plan_there c.args.catalog.now old.list c.args.attempt c.in-Ok.quiz c.requires.agree (quiz_some c.args.attempt old.list c.in-Ok.quiz said)

pub returns-clause-marks : goal.returns-clause-marks
returns-clause-marks g c =
    let old = c.args.shard.now.held in
    let still = quiz_still _ c.args.attempt old c.quiz_of.new.self.held c.quiz_of.result c.requires.clear c.quiz_of.ensures.told in
    let same : c.quiz_of.new.self.held ≡ old = still.0 in
    let told : c.in_ok-parts.parts ≡ map (part true) (slots old.list c.args.attempt) = subst (λ (h : Held). c.in_ok-parts.parts ≡ map (part true) (slots h.list c.args.attempt)) same c.in_ok-parts.ensures.parts in
    c.in_ok-shown_onto.ensures ∙ ap (λ (ms : List ℤ). c.args.marks.now ++ ms) (ap (filter_map shown_mark) (c.as_slice.ensures ∙ told) ∙ marks_shown (slots old.list c.args.attempt))
