use Rattle.qz_index.proofs.KeyLemmas.{keys-other, keys-put}
use Rattle.qz_index.proofs.keys.Keys.put.Goals as goal

pub returns-in-Some : goal.returns-in-Some
returns-in-Some c = keys-put c.args.self.now c.keep.new.self c.args.records.now c.args.record.now _ c.args.reply c.requires.keys c.in-Some.is c.requires.said c.keep.ensures

pub returns-in_default : goal.returns-in_default
returns-in_default c = keys-other c.args.self.now c.args.records.now c.args.record.now c.requires.keys c.in_default.not-Some
