use Rattle.dbsource.proofs.Runs.{told_file}
use Rattle.dbcli.proofs.finishing.told_files_are_finished.Goals as goal

pub returns : goal.returns
returns g c changes asked status out_old out_new err_old err_new old new = told_file _ _ _ _ old new
