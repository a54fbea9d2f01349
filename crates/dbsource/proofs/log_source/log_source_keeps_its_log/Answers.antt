use Rattle.dbsource.proofs.Logs.{kept_log}
use Rattle.dbsource.proofs.log_source.log_source_keeps_its_log.Goals as goal

pub returns : goal.returns
returns c = kept_log
