use Rattle.dblines.proofs.Writing.{wrote_then}
use Rattle.dbpicture.specs.Legends.{legend_text}
use Rattle.dbpicture.proofs.legend.Legend.draw.Goals as goal

pub returns : goal.returns
unfolding legend_text
returns g c =
    let lines = rw c.as_slice.ensures.value at c.draw_lines.ensures in
    wrote_then c.draw_columns.ensures (wrote_then lines c.write_all.ensures)
