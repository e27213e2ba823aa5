use Rattle.std.proofs.Common.{sym, ◌∙◌}
use Rattle.qz_roster.proofs.MemberLemmas.{members-kept}
use Rattle.qz_roster.proofs.members.Members.keep.Goals as goal

pub fill-requires : goal.fill-requires
fill-requires c = c.requires.room.there c.in-Some.member (sym c.joined.ensures ∙ c.in-Some.is)

pub returns-in-Some : goal.returns-in-Some
returns-in-Some c =
    members-kept c.args.records.now c.args.record.now c.args.self.now (record { joined = c.fill.new.map }) c.in-Some.member c.requires.members
    (sym c.joined.ensures ∙ c.in-Some.is) c.fill.ensures
