use Rattle.dblines.proofs.Writing.{wrote_then}
use Rattle.dbpicture.specs.Legends.{line_text}
use Rattle.dbpicture.proofs.legend_text.draw_line.Goals as goal

pub returns : goal.returns
unfolding line_text
returns g c =
    wrote_then c.draw_swatch.ensures (wrote_then c.draw_label.ensures
    (wrote_then c.draw_share.ensures (wrote_then c.draw_percent.ensures c.write_all.ensures)))
