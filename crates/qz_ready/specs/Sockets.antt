-- What links and doors over sockets tell: their keys and counts, and nothing of bytes.
use Rattle.std.specs.Prelude.{◌≡◌, ℕ, ◌+◌, Result, Ok, Err}
use Rattle.qz_outside.specs.Causes.{counted}
use Rattle.qz_ready.specs.declared.arrival.Arrival.{Arrival}
use Rattle.qz_ready.specs.declared.arrival.Arrival.TheVariants as arrival
use Rattle.qz_ready.specs.declared.look.Look.{Look}
use Rattle.qz_ready.specs.declared.look.Look.TheVariants as look

pub record Signals : Type 0 where
  pub key : ℕ
  pub faults : ℕ
  pub waits : ℕ
  pub stalls : ℕ

-- a link over a socket after a read, and after a write
abbrev pub after_read : {E : Type 0} → Result Look E → Signals → Signals
after_read (Ok (look.Moved count)) old = old
after_read (Ok look.NotYet) old = record old { waits = counted old.waits }
after_read (Err why) old = record old { faults = counted old.faults }

abbrev pub after_write : {E : Type 0} → Result Look E → Signals → Signals
after_write (Ok (look.Moved count)) old = old
after_write (Ok look.NotYet) old = record old { stalls = counted old.stalls }
after_write (Err why) old = record old { faults = counted old.faults }

-- how many links were given back, how many more were taken, how many calls failed, and how many found no link yet
pub record DoorSignals : Type 0 where
  pub returns : ℕ
  pub out : ℕ
  pub faults : ℕ
  pub waits : ℕ

-- a door over sockets after a try, which never finds the end
abbrev pub CountsTry : {L E : Type 0} → Result (Arrival L) E → DoorSignals → DoorSignals → Type 0
CountsTry (Ok (arrival.Link link)) old new = new ≡ record old { out = old.out + 1 }
CountsTry (Ok arrival.NotYet) old new = new ≡ record old { waits = counted old.waits }
CountsTry (Ok arrival.Over) old new = ⊥
CountsTry (Err why) old new = new ≡ record old { faults = counted old.faults }
