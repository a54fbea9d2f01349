use Rattle.dbmarks.proofs.Unfixed.{read_once}
use Rattle.dbmarks.proofs.marks.walks_read_each_page_once.Goals as goal

pub returns : goal.returns
returns c = read_once
