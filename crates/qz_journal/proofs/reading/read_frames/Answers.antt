use Rattle.std.proofs.Common.{rules, ◌≡◌, length, ◌∙◌, ap, arith}
use Rattle.qz_disks.specs.Disks.{Same}
use Rattle.qz_disks.proofs.Moments.{then_same, same_whole}
use Rattle.qz_disks.proofs.Sounds.{then_sound, up_to_here}
use Rattle.qz_journal.proofs.Steps.{none_yet, one_more}
use Rattle.qz_journal.proofs.reading.read_frames.Goals as goal

pub loop-payloads-init : goal.loop-payloads-init
loop-payloads-init g c =
    let read = c.in_ok-read_at.ensures in
    record {
      reads = read.reads;
      crash = read.crash;
      room = read.room;
      blamed = read.blamed;
      later = read.cause.later;
      sound = up_to_here read.stays_sound;
      inside = omega arith;
      so_far = rw c.new-payloads.ensures.items (none_yet _ _ c.args.size _ read.reads c.requires.size c.requires.long read.bytes (search rules));
    }

pub loop-payloads-preserved : goal.loop-payloads-preserved
loop-payloads-preserved g c =
    let next = c.in_ok-payload.ensures in
    let before = c.loop-payloads.invariant in
    let count : c.len.result ≡ length c.in-Some.payload = c.len.ensures ∙ c.payload.inside.items.ok.0 ∙ ap length c.payload.view_is in
    record {
      reads = next.reads ∙ before.reads;
      crash = then_same Same same_whole _ _ _ _ _ _ before.crash next.crash;
      room = record {
        calls_left = omega (arith, before.room.calls_left, next.room.calls_left);
        bytes_left = omega (arith, before.room.bytes_left, next.room.bytes_left);
      };
      blamed = next.blamed ∙ before.blamed;
      later = omega (arith, before.later, next.cause.later);
      sound = up_to_here (then_sound before.sound next.stays_sound);
      inside = search rules;
      so_far = rw (c.in_ok-push.ensures.items, count) (one_more _ _ c.loop-payloads.gate c.loop-payloads.payloads.items c.in-Some.payload before.reads before.so_far (rw c.in-Some.is at next.frame));
    }
