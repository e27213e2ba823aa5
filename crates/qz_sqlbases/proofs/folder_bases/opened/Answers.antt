use Rattle.qz_sqlbases.proofs.folder_bases.opened.Goals as goal

pub returns-in-Ok-open-clause-tables : goal.returns-in-Ok-open-clause-tables
returns-in-Ok-open-clause-tables c clean = (c.in-Ok-open.ensures.filled clean).stands
