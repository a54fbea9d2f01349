use Rattle.dbsource.proofs.Runs.{told_file}
use Rattle.dbsource.proofs.claims.told_files_are_read.Goals as goal

pub returns : goal.returns
returns g c old new = told_file _ _ _ _ old new
