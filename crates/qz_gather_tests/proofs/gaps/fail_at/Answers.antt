use Rattle.qz_gather_tests.proofs.Putting.{none_out_put}
use Rattle.qz_gather_tests.proofs.gaps.fail_at.Goals as goal

pub put-requires : goal.put-requires
put-requires c = c.requires.each c.args.name.now

pub returns : goal.returns
returns c = none_out_put c.args.folder.now c.args.name.now _ c.args.shelf.now.slots c.put.new.self.slots c.in_ok-put.ensures.puts c.requires
