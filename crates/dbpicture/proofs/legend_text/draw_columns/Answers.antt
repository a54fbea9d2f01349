use Rattle.dbpicture.specs.Legends.{columns_text}
use Rattle.dblines.proofs.Writing.{wrote_then}
use Rattle.dbpicture.proofs.legend_text.draw_columns.Goals as goal

pub returns : goal.returns
unfolding columns_text
returns g c =
    wrote_then c.write_all.ensures (wrote_then c.draw_right.ensures
    (wrote_then c.draw_right-2.ensures (wrote_then c.draw_right-3.ensures (wrote_then c.draw_right-4.ensures c.write_all-2.ensures))))
