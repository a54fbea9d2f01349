use Rattle.dbsource.proofs.PatchedRuns.{patched_file}
use Rattle.dbsource.proofs.claims.patched_files_are_read.Goals as goal

pub returns : goal.returns
returns g c old new = patched_file _ _ _ _ old new
