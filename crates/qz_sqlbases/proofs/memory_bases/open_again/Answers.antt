use Rattle.qz_disks.specs.Shelves.{place}
use Rattle.qz_sqlbases.proofs.Listed.{put_back}
use Rattle.qz_sqlbases.proofs.memory_bases.open_again.Goals as goal

pub returns-in-Err-clause-lists : goal.returns-in-Err-clause-lists
returns-in-Err-clause-lists c =
    put_back (place c.args.folder.now c.args.name.now) c.args.slots.now c.replace.new.slots c.replace-in-Err.new.slots c.in-Some.keeper c.reopen.new.self (c.in-Some.ensures.gives) c.in-Some.ensures.puts c.replace-in-Err.ensures.puts
    c.in-Err.ensures.list
