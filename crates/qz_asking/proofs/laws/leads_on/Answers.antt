use Rattle.qz_asking.proofs.Following.{follows_on}
use Rattle.qz_asking.proofs.laws.leads_on.Goals as goal

pub returns : goal.returns
returns g c = record { leads = follows_on _ }
