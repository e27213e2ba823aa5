use Rattle.std.proofs.Common.{rules, ◌≡◌, pos}
use Rattle.jiff.specs.Words.{civil_nanos, nanos_of_seconds}
use Rattle.qz_pages.proofs.CivilLemmas.{civil_text-is}
use Rattle.qz_pages.proofs.dates.civil.Goals as goal

pub returns-clause-text : goal.returns-clause-text
returns-clause-text c =
    let utc : civil_nanos c.to_datetime.result ≡ nanos_of_seconds (pos c.args.moment) = search rules in
    civil_text-is c.to_datetime.result c.args.moment c.requires utc
