use Rattle.dblines.proofs.Writing.{wrote_then}
use Rattle.dbpicture.proofs.legend_text.draw_subject.Goals as goal

pub returns-in-Tree : goal.returns-in-Tree
returns-in-Tree g c = rw c.in-Tree.is (wrote_then c.draw.ensures c.write_all.ensures)
