use Rattle.dbscan.proofs.Reached.{of_starts}
use Rattle.dbscan.proofs.placed.faults_are_of_reached_pages.Goals as goal

pub returns : goal.returns
returns c = λ file V s t i. of_starts file V s t i
