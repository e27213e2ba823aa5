use Rattle.qz_http.proofs.ends.+end_from.Given as goal

abbrev pub decreases-end_from : goal.decreases-end_from
decreases-end_from l = l.more
