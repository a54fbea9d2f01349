use Rattle.dbscan.proofs.desk.Desk.is_lost.Goals as goal

pub returns-clause-page : goal.returns-clause-page
returns-clause-page g c = c.is_lost.ensures.page
