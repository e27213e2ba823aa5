use Rattle.std.proofs.Common.{refl}
use Rattle.qz_bank.proofs.FollowingLemmas.{cause-follows, change-follows, count-follows, import-follows, latest-follows, other-follows, there-follows, version-follows}
use Rattle.qz_bank.proofs.laws.follows_the_records.Goals as goal

pub returns : goal.returns
returns c = record {
  empty = record { entries = refl; none_ahead = λ e ahead. refl };
  import = import-follows;
  change = change-follows;
  other = other-follows;
  count = count-follows;
  there = there-follows;
  latest = latest-follows;
  version = version-follows;
  refused = cause-follows;
}
