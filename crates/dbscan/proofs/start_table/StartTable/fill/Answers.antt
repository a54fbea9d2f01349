use Rattle.dbscan.proofs.Common.{freelist_start, most_starts}
use Rattle.dbscan.proofs.StartTables.{all_rest}
use Rattle.dbscan.proofs.start_table.StartTable.fill.Goals as goal

pub returns : goal.returns
unfolding most_starts
returns g c = all_rest freelist_start c.args.value _ c.clear.ensures.items
