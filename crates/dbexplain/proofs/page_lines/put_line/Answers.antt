use Rattle.dblines.proofs.Writing.{wrote_then}
use Rattle.dbexplain.proofs.page_lines.put_line.Goals as goal

pub returns : goal.returns
returns g c = wrote_then c.put.ensures (wrote_then c.put_tree.ensures c.put-2.ensures)
