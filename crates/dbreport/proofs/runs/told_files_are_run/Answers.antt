use Rattle.dbreport.proofs.Common.{told_file, told_file_after}
use Rattle.dbreport.proofs.runs.told_files_are_run.Goals as goal

pub returns-clause-runs : goal.returns-clause-runs
returns-clause-runs g c command r out_old out_new err_old err_new old new = told_file _ _ _ _ old new

pub returns-clause-runs_on : goal.returns-clause-runs_on
returns-clause-runs_on g c h command r out_old out_new err_old err_new old new = told_file_after _ _ h _ old new

pub returns-clause-reports : goal.returns-clause-reports
returns-clause-reports g c rep r out_old out_new old new = told_file _ _ _ _ old new
