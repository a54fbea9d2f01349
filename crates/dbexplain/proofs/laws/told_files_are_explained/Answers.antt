use Rattle.dbsource.proofs.Runs.{told_file}
use Rattle.dbexplain.proofs.laws.told_files_are_explained.Goals as goal

pub returns : goal.returns
returns g c limit r out_old out_new old new = told_file _ _ _ _ old new
