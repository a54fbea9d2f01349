use Rattle.dbsource.proofs.Runs.{told_file}
use Rattle.dbmap.proofs.maps.told_files_are_drawn.Goals as goal

pub returns : goal.returns
returns g c r name out_old out_new old new = told_file _ _ _ _ old new
