use Rattle.qz_folders.proofs.Naming.{names_apart, none_is_the_catalogue}
use Rattle.qz_folders.proofs.laws.names_are_apart.Goals as goal

pub returns : goal.returns
returns c = record { parts = names_apart; catalog = none_is_the_catalogue }
