use Rattle.dbscan.proofs.Owned.{are_owned}
use Rattle.dbscan.proofs.owner.visited_pages_are_owned.Goals as goal

pub returns : goal.returns
returns c = λ file. are_owned file
