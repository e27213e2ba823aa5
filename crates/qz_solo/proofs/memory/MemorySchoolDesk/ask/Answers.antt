use Rattle.std.proofs.Common.{subst}
use Rattle.qz_serial.specs.Once.{AskedOnce}
use Rattle.qz_terms.specs.Serial.{Lists}
use Rattle.qz_solo.proofs.Clear.{asked_clear, sound_once}
use Rattle.qz_school.specs.Solos.{lists_in}
use Rattle.qz_solo.proofs.memory.MemorySchoolDesk.ask.Goals as goal

pub invariant_of-self : goal.invariant_of-self
invariant_of-self c =
    asked_clear (lists_in c.self.inside.school) (lists_in c.ask.new.self) c.args.moment c.args.ask.now c.ask.result c.self.invariant
    (sound_once _ _ c.self.inside.school c.ask.new.self c.args.moment c.args.ask.now c.ask.result (record { catalog = tt; parts = λ k s is. tt }) c.ask.ensures)

pub returns : goal.returns
returns c =
    subst (λ (l : Lists). AskedOnce ⊥ l (lists_in c.ask.new.self) c.args.moment c.args.ask.now c.ask.result) c.self.view_is
    (sound_once _ _ c.self.inside.school c.ask.new.self c.args.moment c.args.ask.now c.ask.result (record { catalog = tt; parts = λ k s is. tt }) c.ask.ensures)
